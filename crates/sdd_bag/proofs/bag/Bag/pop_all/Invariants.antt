use Rattle.std.proofs.Common.{◌≡◌, List, length}
use Rattle.sdd_world_model.specs.ParticipantChanges.{KeepsMoreWaiting}
use Rattle.sdd_space.specs.Undisturbed.{Unmoved}
use Rattle.sdd_world_model.specs.World.{World}
use Rattle.sdd_lists.specs.Lists.{Entry}
use Rattle.sdd_lists.specs.Stack.{cell_in}
use Rattle.sdd_bag.specs.Folding.{FoldsOn}
use Rattle.sdd_bag.specs.Overflow.{LiesOn, RemovesStorages}
use Rattle.sdd_bag.specs.Bag.{HasSameCells, IsBag, overflow_of}
use Rattle.sdd_bag.proofs.bag.Bag.pop_all.Given as goal

-- what is yet to be folded is what all is folded to, and the storages that are yet to be removed are those that all are
abbrev pub invariant-loop-self : goal.invariant-loop-self
invariant-loop-self g l = record {
  unmoved : Unmoved g.S.Caller.caller g.S.Caller.known g.S.Shows.shows l.initial.s l.s;
  own : KeepsMoreWaiting (g.S.Caller.own l.initial.s) (g.S.Caller.own l.s);
  cells : HasSameCells l.initial.self l.self;
  primary : l.self.primary ≡ l.initial.self.primary;
  bag : IsBag g.B.Shelf.shown g.row.ARRAY_LEN (g.S.Caller.world l.s) l.self;
  callable : goal.F-IsAlwaysCallable g l.fold;
  folds : FoldsOn (goal.F-step g) l.fn.fold l.fn.init (overflow_of l.initial.self) l.fold l.made (overflow_of l.self);
  list : (es : List (Entry _)) → LiesOn g.B.Shelf.shown g.row.ARRAY_LEN (g.S.Caller.world l.initial.s) es l.initial.self.overflow
      → (fs : List (Entry _)) × LiesOn g.B.Shelf.shown g.row.ARRAY_LEN (g.S.Caller.world l.s) fs l.self.overflow
      × ((new : World _) → RemovesStorages (g.S.Caller.world l.s) (g.S.Caller.caller l.initial.s).place (cell_in l.self.overflow.stack) fs new
      → RemovesStorages (g.S.Caller.world l.initial.s) (g.S.Caller.caller l.initial.s).place (cell_in l.initial.self.overflow.stack) es new);
}

abbrev pub decreases-loop-self : goal.decreases-loop-self
decreases-loop-self g l = length l.self.overflow.places
