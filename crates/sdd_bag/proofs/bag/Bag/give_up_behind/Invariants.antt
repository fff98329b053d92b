use Rattle.std.proofs.Common.{◌≡◌, List, [], length}
use Rattle.std.specs.Prelude.{All}
use Rattle.sdd_bag.specs.Storage.{AreEmpty}
use Rattle.sdd_bag.specs.Values.{AreInSomeOrder}
use Rattle.sdd_world_model.specs.OwnerOrCell.{AreOf}
use Rattle.sdd_world_model.specs.ParticipantChanges.{KeepsMoreWaiting}
use Rattle.sdd_space.specs.Undisturbed.{Unmoved}
use Rattle.sdd_world_model.specs.World.{World}
use Rattle.sdd_lists.specs.Lists.{Entry}
use Rattle.sdd_lists.specs.Stack.{cell_in}
use Rattle.sdd_bag.specs.Overflow.{LiesOn}
use Rattle.sdd_bag.specs.Bag.{HasSameCells, overflow_of}
use Rattle.sdd_bag.specs.Closing.{AreBeside, EmptiesStorages}
use Rattle.sdd_bag.proofs.bag.Bag.give_up_behind.Given as goal

-- what is yet to be given up comes behind what was
abbrev pub invariant-loop-value : goal.invariant-loop-value
invariant-loop-value g l = record {
  unmoved : Unmoved g.S.Caller.caller g.S.Caller.known g.S.Shows.shows l.initial.s l.s;
  own : KeepsMoreWaiting (g.S.Caller.own l.initial.s) (g.S.Caller.own l.s);
  cells : HasSameCells l.initial.self l.self;
  primary : l.self.primary ≡ l.initial.self.primary;
  held : All (λ v. AreOf (g.S.Caller.caller l.initial.s).home (g.T.Item.holds v)) (overflow_of l.self);
  list : (es : List (Entry _)) → LiesOn g.B.Shelf.shown g.row.ARRAY_LEN (g.S.Caller.world l.initial.s) es l.initial.self.overflow
      → (fs : List (Entry _)) × LiesOn g.B.Shelf.shown g.row.ARRAY_LEN (g.S.Caller.world l.s) fs l.self.overflow
      × (AreEmpty g.row.ARRAY_LEN l.self.overflow.places → fs ≡ [])
      × All (λ v. AreBeside (g.S.Caller.world l.s) (cell_in l.self.overflow.stack) fs (g.T.Item.holds v)) (overflow_of l.self)
      × ((vs : List _) (new : World _) → AreInSomeOrder vs (overflow_of l.self)
      → EmptiesStorages g.T.Item.holds g.row.ARRAY_LEN (g.S.Caller.world l.s) (g.S.Caller.caller l.initial.s).place (cell_in l.self.overflow.stack) fs vs new
      → (us : List _) × AreInSomeOrder us (overflow_of l.initial.self)
      × EmptiesStorages g.T.Item.holds g.row.ARRAY_LEN (g.S.Caller.world l.initial.s) (g.S.Caller.caller l.initial.s).place
      (cell_in l.initial.self.overflow.stack) es us new);
}

abbrev pub decreases-loop-value : goal.decreases-loop-value
decreases-loop-value g l = length (overflow_of l.self)
