use Rattle.std.proofs.Common.{ℕ, List, refl}
use Rattle.sdd_participants.specs.EpochState as time
use Rattle.sdd_participants.specs.declared.participant.Participant.{Participant}
use Rattle.sdd_world_model.specs.OwnerOrCell.{OwnerOrCell}
use Rattle.sdd_world_model.specs.Loans.{Loans}
use Rattle.sdd_world_model.specs.World.{World, IsPlaceOf, place_at}
use Rattle.sdd_world_model.specs.WorldInvariant.{IsWhole}
use Rattle.sdd_world_model.specs.WorldChanges.{stirred}
use Rattle.sdd_world_core.specs.Lending.{AreLentOf}
use Rattle.sdd_world_model.specs.WorldStep.WorldStep.{stirs}
use Rattle.sdd_world_model.proofs.PlacesMatchStates.{Whole-stirred}
use Rattle.sdd_world_core.proofs.Lending.{lent-call, guards-placed, readers-placed}
use Rattle.sdd_world_core.proofs.world_core.WorldCore.set_has_garbage.Goals as goal

pub returns-clause-whole : goal.returns-clause-whole
returns-clause-whole g c = rw (← c.self.view_is, c.set_has_garbage.ensures) (λ i. Whole-stirred _ c.args.place (rw (← c.self.view_is) at c.requires.place) i)

lent-after : {T : Type 0} (holds : T → List OwnerOrCell) (w : World T) (l : Loans) (p : ℕ) → IsPlaceOf w p → IsWhole w → AreLentOf w l
    → AreLentOf (stirred w p) l
lent-after holds w l p live i k =
    let x : Participant = time.with_garbage (place_at w p) in
    lent-call holds w (record w { time = time.with_place w.time p x }) l (stirs w p live) i (λ h. readers-placed w p x h) (guards-placed w p x live.0 refl) k

pub returns-clause-lent : goal.returns-clause-lent
returns-clause-lent g c = rw (← c.self.view_is, c.set_has_garbage.ensures)
    (lent-after g.T.Item.holds _ _ c.args.place (rw (← c.self.view_is) at c.requires.place))
