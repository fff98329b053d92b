use Rattle.std.proofs.Common.{◌≡◌, List, length}
use Rattle.std.specs.Prelude.{All}
use Rattle.sdd_bag.specs.Values.{AreInSomeOrder}
use Rattle.sdd_world_model.specs.OwnerOrCell.{AreOf}
use Rattle.sdd_world_model.specs.ParticipantChanges.{KeepsMoreWaiting}
use Rattle.sdd_space.specs.Undisturbed.{Unmoved}
use Rattle.sdd_bag.specs.Closing.{values_given}
use Rattle.sdd_bag.specs.Primary.{held_by}
use Rattle.sdd_bag.proofs.primary.Primary.close.Given as goal

-- what is yet to be given up comes behind what was
abbrev pub invariant-loop-value : goal.invariant-loop-value
invariant-loop-value g l = record {
  unmoved : Unmoved g.S.Caller.caller g.S.Caller.known g.S.Shows.shows l.initial.s l.s;
  own : KeepsMoreWaiting (g.S.Caller.own l.initial.s) (g.S.Caller.own l.s);
  storage : l.primary.storage ≡ l.initial.primary.storage;
  held : All (λ v. AreOf (g.S.Caller.caller l.initial.s).home (g.T.Item.holds v)) (held_by l.primary);
  given : (vs : List _) → AreInSomeOrder vs (held_by l.primary) → (us : List _) × AreInSomeOrder us (held_by l.initial.primary)
      × (values_given g.T.Item.holds (g.S.Caller.world l.s) (g.S.Caller.caller l.initial.s).place vs
      ≡ values_given g.T.Item.holds (g.S.Caller.world l.initial.s) (g.S.Caller.caller l.initial.s).place us);
}

abbrev pub decreases-loop-value : goal.decreases-loop-value
decreases-loop-value g l = length (held_by l.primary)
