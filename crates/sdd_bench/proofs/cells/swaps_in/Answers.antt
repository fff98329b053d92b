use Rattle.sdd_space.specs.Owned.{cell_of}
use Rattle.sdd_bench.proofs.Leaving.{in-turn, under-guard, exact-on}
use Rattle.sdd_bench.proofs.Filling.{filled-on, opened-filled}
use Rattle.sdd_bench.proofs.cells.swaps_in.Goals as goal

pub returns-in_err-guard-clause-filled : goal.returns-in_err-guard-clause-filled
returns-in_err-guard-clause-filled g c = λ exact.
    let was = c.loop-turn.invariant in
    let none = c.in_err-guard.ensures.exact (exact-on _ _ was.leaves.caller exact) in
    filled-on _ _ (cell_of c.args.cell.now) none.2 (was.filled exact)

pub swap-done-requires-clause-filled : goal.swap-done-requires-clause-filled
swap-done-requires-clause-filled g c = λ exact.
    let was = c.loop-turn.invariant in
    let first = rw c.in_ok-guard.ensures.caller at exact in
    let world = g.S.Caller.world in
    opened-filled (world c.loop-turn.space) (world c.new.new.s) _ (cell_of c.args.cell.now)
    (c.in_ok-guard.ensures.exact first).1 (was.filled (rw was.leaves.caller at first))

pub returns-in_err-done-clause-leaves : goal.returns-in_err-done-clause-leaves
returns-in_err-done-clause-leaves g c =
    let opening = c.in_ok-guard.ensures in let closing = c.close.ensures in
    in-turn _ _ _ _ _ _ _ _ _ c.loop-turn.invariant.leaves
    (under-guard _ _ _ _ _ _ _ _ _ _ _ _ opening.caller opening.own.1 (λ exact. (opening.exact exact).1)
    c.swap-done.ensures.leaves closing.caller closing.own closing.exact)

pub returns-in_err-done-clause-filled : goal.returns-in_err-done-clause-filled
returns-in_err-done-clause-filled g c = λ exact.
    let first = exact-on _ _ c.in_ok-guard.ensures.caller (exact-on _ _ c.loop-turn.invariant.leaves.caller exact) in
    let after = exact-on _ _ c.swap-done.ensures.leaves.caller first in
    rw (c.close.ensures.exact after) (c.swap-done.ensures.filled first)

pub loop-turn-preserved : goal.loop-turn-preserved
loop-turn-preserved g c =
    let opening = c.in_ok-guard.ensures in let closing = c.close.ensures in
    record {
      leaves =
          in-turn _ _ _ _ _ _ _ _ _ c.loop-turn.invariant.leaves
          (under-guard _ _ _ _ _ _ _ _ _ _ _ _ opening.caller opening.own.1 (λ exact. (opening.exact exact).1)
          c.swap-done.ensures.leaves closing.caller closing.own closing.exact);
      filled = λ exact.
          let first = exact-on _ _ opening.caller (exact-on _ _ c.loop-turn.invariant.leaves.caller exact) in
          let after = exact-on _ _ c.swap-done.ensures.leaves.caller first in
          rw (closing.exact after) (c.swap-done.ensures.filled first);
    }
