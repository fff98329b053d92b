use Rattle.std.proofs.Common.{List, ◌++◌}
use Rattle.std.specs.Iterator.{Yields}
use Rattle.sdd_bag.specs.Values.{AreInSomeOrder}
use Rattle.sdd_world_model.specs.ParticipantChanges.{KeepsMoreWaiting}
use Rattle.sdd_space.specs.Undisturbed.{Unmoved}
use Rattle.sdd_lists.specs.Lists.{Entry}
use Rattle.sdd_bag.specs.Overflow.{LiesOn}
use Rattle.sdd_bag.specs.Bag.{HasSameCells, IsBag, values_of}
use Rattle.sdd_bag.specs.Filling.{AddsStorages}
use Rattle.sdd_bag.proofs.bag.Bag.add_all.Given as goal

-- what the iterator gave is in the bag, beside what was
abbrev pub invariant-loop-value : goal.invariant-loop-value
invariant-loop-value g l = record {
  unmoved : Unmoved g.S.Caller.caller g.S.Caller.known g.S.Shows.shows l.initial.s l.s;
  own : KeepsMoreWaiting (g.S.Caller.own l.initial.s) (g.S.Caller.own l.s);
  cells : HasSameCells l.initial.self l.self;
  bag : IsBag g.B.Shelf.shown g.row.ARRAY_LEN (g.S.Caller.world l.s) l.self;
  list : (es : List (Entry _)) → LiesOn g.B.Shelf.shown g.row.ARRAY_LEN (g.S.Caller.world l.initial.s) es l.initial.self.overflow
      → (fs : List (Entry _)) × LiesOn g.B.Shelf.shown g.row.ARRAY_LEN (g.S.Caller.world l.s) fs l.self.overflow
      × AddsStorages g.B.Shelf.shown (g.S.Caller.caller l.initial.s).place l.initial.self.overflow.stack (g.S.Caller.world l.initial.s) es
      (g.S.Caller.world l.s) fs;
  values : (xs : List _) × Yields g.I.Iterator.next_gives l.initial.items xs l.items
      × ((vs : List _) → AreInSomeOrder vs (values_of l.initial.self) → AreInSomeOrder (vs ++ xs) (values_of l.self));
}
