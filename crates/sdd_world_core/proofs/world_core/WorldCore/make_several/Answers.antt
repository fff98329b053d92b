use Rattle.std.proofs.Common.{ℕ}
use Rattle.sdd_rights.specs.Right.{number_of}
use Rattle.sdd_participants.specs.declared.standing.Standing.TheVariants.{Shared}
use Rattle.sdd_world_model.proofs.PlacesMatchStates.{items}
use Rattle.sdd_world_model.proofs.WorldInvariant.{made-keeps}
use Rattle.sdd_world_core.proofs.SharedOwners.{whole-several, lent-several}
use Rattle.sdd_world_core.proofs.world_core.WorldCore.make_several.Goals as goal

pub returns-clause-whole : goal.returns-clause-whole
returns-clause-whole g c =
    let slot : ℕ = number_of c.in_ok-made.made.0 in
    rw (← c.self.view_is, c.in_ok-made.ensures.made, c.count_made.ensures)
    (λ i. whole-several _ slot c.args.value c.args.owners c.in_ok-made.ensures.free i)

pub returns-clause-lent : goal.returns-clause-lent
returns-clause-lent g c =
    let slot : ℕ = number_of c.in_ok-made.made.0 in
    rw (← c.self.view_is, c.in_ok-made.ensures.made, c.count_made.ensures)
    (λ i lent. lent-several _ slot c.args.value c.args.owners c.in_ok-made.ensures.free g.T.Item.holds _ i lent)

pub returns-clause-keeps : goal.returns-clause-keeps
returns-clause-keeps g c =
    let slot : ℕ = number_of c.in_ok-made.made.0 in
    rw (← c.self.view_is, c.in_ok-made.ensures.made)
    (λ i. made-keeps _ slot c.args.value (Shared c.args.owners) (items i) c.in_ok-made.ensures.free.1)
