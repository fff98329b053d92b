use Rattle.std.proofs.Common.{◌≡◌, ◌-◌, ◌≤◌, length}
use Rattle.sdd_bag.specs.Bag.{HasSameCells, values_of}
use Rattle.sdd_bag.specs.IterMut.{IsCursor, bag_name, given, space_in, whole}
use Rattle.sdd_world_tests.proofs.bags.steps.tenfold.Given as goal

-- the cursor goes over the same bag, in the same space
abbrev pub invariant-loop-number : goal.invariant-loop-number
invariant-loop-number g l = record {
  cursor : IsCursor g.B.Shelf.shown g.S.Caller.caller g.S.Caller.world l.cursor;
  name : bag_name l.cursor ≡ bag_name l.initial.cursor;
  space : space_in l.cursor ≡ l.initial.s;
  cells : HasSameCells (whole l.initial.cursor) (whole l.cursor);
  some : given l.cursor ≤ length (values_of (whole l.cursor));
}

abbrev pub decreases-loop-number : goal.decreases-loop-number
decreases-loop-number g l = length (values_of (whole l.cursor)) - given l.cursor
