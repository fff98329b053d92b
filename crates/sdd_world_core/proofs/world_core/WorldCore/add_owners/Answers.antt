use Rattle.std.proofs.Common.{◌+◌}
use Rattle.sdd_rights.specs.Right.{number_of}
use Rattle.sdd_world_model.proofs.PlacesMatchStates.{Whole-shared}
use Rattle.sdd_world_core.proofs.Lending.{lent-shared}
use Rattle.sdd_world_core.proofs.world_core.WorldCore.add_owners.Goals as goal

pub returns-then-more-owners-clause-whole : goal.returns-then-more-owners-clause-whole
returns-then-more-owners-clause-whole g c =
    let owners = c.owners_with-owners.result in
    rw (← c.self.view_is, c.add_owners.ensures.added, c.number.ensures)
    (λ i. Whole-shared _ (number_of c.args.right.now) owners (owners + c.args.more) c.owners_with-owners.ensures.shared i)

pub returns-then-more-owners-clause-lent : goal.returns-then-more-owners-clause-lent
returns-then-more-owners-clause-lent g c =
    let owners = c.owners_with-owners.result in
    rw (← c.self.view_is, c.add_owners.ensures.added, c.number.ensures)
    (λ _ l. lent-shared _ _ (number_of c.args.right.now) owners (owners + c.args.more) c.owners_with-owners.ensures.shared l)
