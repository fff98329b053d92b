use Rattle.std.proofs.Common.{rules, sym, ◌∙◌}
use Rattle.sdd_rights.specs.Owner.{cell_kind}
use Rattle.sdd_rights.specs.Views.{right_to}
use Rattle.sdd_atomics.proofs.Cells.{may_recall_cell}
use Rattle.sdd_atomics.proofs.ViewCodes.{view_is}
use Rattle.sdd_atomics.proofs.Sitting.{numbers, sits, stays}
use Rattle.sdd_atomics.proofs.steps.cells.recall_cell.Goals as goal

pub step_beside-requires : goal.step_beside-requires
step_beside-requires c = let k = sits _ _ _ c.seat.view_is c.seat.invariant in let n = numbers k in
    rw c.seat.view_is (let r = c.requires in let o = r.right in (
      k.home,
      (o.0 ∙ k.home),
      (
        right_to o.1.0 (cell_kind o.1.1),
        o.1.2,
        may_recall_cell _ _ _ _ _ k.sizes k.gamma r.ready.place r.ready.rests o.1.0 o.1.1 c.args.right.now.id,
      ),
    ))

pub returns : goal.returns
returns c =
    rw (← c.seat.view_is) (λ cell shared views. let e = c.step_beside.ensures in
    (e.0, e.1, e.2.2 cell shared (view_is e.2.0 (right_to cell (cell_kind shared)) (sym e.2.1 ∙ views))))

pub invariant_of-seat : goal.invariant_of-seat
invariant_of-seat c = let cell = c.requires.right.1.0 in let shared = c.requires.right.1.1 in let views = c.requires.right.1.2 in
    let e = c.step_beside.ensures in
    stays _ _ _ c.seat.invariant e.0 (let h = e.2.2 cell shared (view_is e.2.0 (right_to cell (cell_kind shared)) (sym e.2.1 ∙ views)) in search rules)
