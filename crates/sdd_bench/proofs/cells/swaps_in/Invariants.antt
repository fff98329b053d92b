use Rattle.sdd_space.specs.Owned.{cell_of}
use Rattle.sdd_space.specs.CallerId.{IsExact}
use Rattle.sdd_bench.specs.Leaves.{IsFilled, Leaves}
use Rattle.sdd_bench.proofs.cells.swaps_in.Given as goal

abbrev pub invariant-loop-turn : goal.invariant-loop-turn
invariant-loop-turn g l =
    let caller = g.S.Caller.caller in let own = g.S.Caller.own in let world = g.S.Caller.world in
    record {
      leaves : Leaves (caller l.fn.space) (own l.fn.space) (world l.fn.space) (caller l.space) (own l.space) (world l.space);
      filled : IsExact (caller l.fn.space) → IsFilled (world l.space) (cell_of l.fn.cell);
    }
