use Rattle.std.proofs.Common.{◌≡◌, ◌≤◌, ◌++◌, List, length}
use Rattle.std.specs.Prelude.{◌-◌}
use Rattle.sdd_world.specs.Place.{index_of}
use Rattle.sdd_examples.proofs.PassedWork.{HavePassedWork}
use Rattle.sdd_examples.proofs.work_under_guards.works.Given as goal

abbrev pub invariant-loop-value : goal.invariant-loop-value
invariant-loop-value g l = record {
  fewer : length l.values.items ≤ length l.fn.values.items;
  passed : HavePassedWork g.T.Item.holds (index_of l.place) (length l.fn.values.items - length l.values.items) l.fn.world l.world;
  rest : (used : List g.row.T.Denot) × (l.fn.values.items ≡ l.values.items ++ used);
  home : l.world.home ≡ l.fn.world.home;
}

abbrev pub decreases-loop-value : goal.decreases-loop-value
decreases-loop-value g l = length l.values.items
