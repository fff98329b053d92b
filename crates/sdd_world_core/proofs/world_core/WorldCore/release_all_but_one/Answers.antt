use Rattle.std.proofs.Common.{ℕ, ◌+◌, refl}
use Rattle.sdd_rights.specs.SharedRights.{number_of, count_of}
use Rattle.sdd_world_model.proofs.PlacesMatchStates.{Whole-shared}
use Rattle.sdd_world_core.proofs.Lending.{lent-shared}
use Rattle.sdd_world_core.proofs.world_core.WorldCore.release_all_but_one.Goals as goal

pub returns-clause-gone : goal.returns-clause-gone
returns-clause-gone g c =
    let gone = c.release_all_but_one.ensures.gone in
    rw (← c.self.view_is, gone.2) (gone.0, gone.1, refl)

pub returns-clause-whole : goal.returns-clause-whole
returns-clause-whole g c =
    let slot : ℕ = number_of c.args.several in
    let others : ℕ = c.release_all_but_one.ensures.gone.0 in
    let shared = c.release_all_but_one.ensures.gone.1.shared in
    rw (← c.self.view_is, c.release_all_but_one.ensures.gone.2)
    (λ i. Whole-shared _ slot (others + count_of c.args.several) (others + 1) shared i)

pub returns-clause-lent : goal.returns-clause-lent
returns-clause-lent g c =
    let slot : ℕ = number_of c.args.several in
    let others : ℕ = c.release_all_but_one.ensures.gone.0 in
    let shared = c.release_all_but_one.ensures.gone.1.shared in
    rw (← c.self.view_is, c.release_all_but_one.ensures.gone.2)
    (λ _ l. lent-shared _ _ slot (others + count_of c.args.several) (others + 1) shared l)
