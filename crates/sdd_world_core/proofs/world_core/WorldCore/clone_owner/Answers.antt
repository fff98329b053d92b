use Rattle.std.proofs.Common.{◌+◌, refl}
use Rattle.sdd_rights.specs.Right.{number_of}
use Rattle.sdd_world_model.proofs.PlacesMatchStates.{Whole-shared}
use Rattle.sdd_world_core.proofs.Lending.{lent-shared}
use Rattle.sdd_world_core.proofs.world_core.WorldCore.clone_owner.Goals as goal

pub returns-then-owners-lt-MOST_OWNERS-clause-added :
    goal.returns-then-owners-lt-MOST_OWNERS-clause-added
returns-then-owners-lt-MOST_OWNERS-clause-added g c =
    rw (← c.self.view_is, c.clone_owner.ensures.added, c.number.ensures)
    (c.owners_with-owners.result, c.owners_with-owners.ensures, (c.if-owners-lt-MOST_OWNERS.true, refl))

pub returns-then-owners-lt-MOST_OWNERS-clause-whole :
    goal.returns-then-owners-lt-MOST_OWNERS-clause-whole
returns-then-owners-lt-MOST_OWNERS-clause-whole g c =
    let owners = c.owners_with-owners.result in
    rw (← c.self.view_is, c.clone_owner.ensures.added, c.number.ensures)
    (λ i. Whole-shared _ (number_of c.args.right.now) owners (owners + 1) c.owners_with-owners.ensures.shared i)

pub returns-then-owners-lt-MOST_OWNERS-clause-lent :
    goal.returns-then-owners-lt-MOST_OWNERS-clause-lent
returns-then-owners-lt-MOST_OWNERS-clause-lent g c =
    let owners = c.owners_with-owners.result in
    rw (← c.self.view_is, c.clone_owner.ensures.added, c.number.ensures)
    (λ _ l. lent-shared _ _ (number_of c.args.right.now) owners (owners + 1) c.owners_with-owners.ensures.shared l)
