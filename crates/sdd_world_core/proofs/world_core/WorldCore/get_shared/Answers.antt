use Rattle.std.proofs.Common.{◌+◌, refl}
use Rattle.sdd_world_model.proofs.PlacesMatchStates.{Whole-shared}
use Rattle.sdd_world_core.proofs.Lending.{lent-shared}
use Rattle.sdd_world_core.proofs.world_core.WorldCore.get_shared.Goals as goal

pub returns-in-Some-clause-upgraded : goal.returns-in-Some-clause-upgraded
returns-in-Some-clause-upgraded g c =
    rw (← c.self.view_is, c.clone_owner.ensures.added) (c.in-Some.owners, c.in-Some.ensures.shared, c.if-owners-lt-MOST_OWNERS.true, refl)

pub returns-in-Some-clause-whole : goal.returns-in-Some-clause-whole
returns-in-Some-clause-whole g c =
    let owners = c.in-Some.owners in
    rw (← c.self.view_is, c.clone_owner.ensures.added) (λ i. Whole-shared _ c.args.slot owners (owners + 1) c.in-Some.ensures.shared.shared i)

pub returns-in-Some-clause-lent : goal.returns-in-Some-clause-lent
returns-in-Some-clause-lent g c =
    let owners = c.in-Some.owners in
    rw (← c.self.view_is, c.clone_owner.ensures.added) (λ _ l. lent-shared _ _ c.args.slot owners (owners + 1) c.in-Some.ensures.shared.shared l)
