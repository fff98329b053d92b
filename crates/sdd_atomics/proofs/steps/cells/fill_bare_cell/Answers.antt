use Rattle.std.proofs.Common.{rules, Bool, true, false, sym, ◌∙◌, subst, arith}
use Rattle.sdd_domain_invariant.specs.Cells.CellSteps.{FillsBare, OfCell}
use Rattle.sdd_atomics.proofs.Cells.{cell_moved, may_fill}
use Rattle.sdd_atomics.proofs.Sitting.{numbers, sits, stays}
use Rattle.sdd_atomics.proofs.steps.cells.fill_bare_cell.Goals as goal

pub swap-requires : goal.swap-requires
swap-requires c = let k = sits _ _ _ c.seat.view_is c.seat.invariant in let n = numbers k in
    rw c.seat.view_is (let r = c.requires in (
      k.home,
      omega arith,
      may_fill _ _ _ _ _ k.sizes k.gamma r.ready.place r.ready.rests c.args.cell (omega arith) _ c.cell_word.ensures c.args.word r.own.0 r.own.1 r.own.2 true
          (λ s has. r.kind s has ∙ c.if-shared.true) r.word r.right.0 r.right.1 r.right.2,
    ))

pub swap-requires-else-shared : goal.swap-requires-else-shared
swap-requires-else-shared c = let k = sits _ _ _ c.seat.view_is c.seat.invariant in let n = numbers k in
    rw c.seat.view_is (let r = c.requires in (
      k.home,
      omega arith,
      may_fill _ _ _ _ _ k.sizes k.gamma r.ready.place r.ready.rests c.args.cell (omega arith) _ c.cell_word-else-shared.ensures c.args.word r.own.0 r.own.1
          r.own.2 false
          (λ s has. r.kind s has ∙ c.if-shared.false) r.word r.right.0 r.right.1 r.right.2,
    ))

pub returns-then-shared : goal.returns-then-shared
returns-then-shared c =
    rw (← c.seat.view_is) (let e = c.swap.ensures in
    cell_moved c.seat.inside.seat _ c.swap.result e.0 e.1 (FillsBare c.args.word c.args.shared) _ c.args.cell _ c.cell_word.ensures
    c.seat.invariant.sizes (subst (λ (b : Bool). OfCell (FillsBare c.args.word b) c.cell_word.result c.seat.inside.seat.me c.swap.result
    c.swap.new.seat.me) (sym c.if-shared.true) e.2))

pub invariant_of-seat : goal.invariant_of-seat
invariant_of-seat c = let m = (let e = c.swap.ensures in
    cell_moved c.seat.inside.seat _ c.swap.result e.0 e.1 (FillsBare c.args.word c.args.shared) _ c.args.cell _ c.cell_word.ensures
    c.seat.invariant.sizes (subst (λ (b : Bool). OfCell (FillsBare c.args.word b) c.cell_word.result c.seat.inside.seat.me c.swap.result
    c.swap.new.seat.me) (sym c.if-shared.true) e.2)) in
    stays _ _ _ c.seat.invariant m.0 (let h = m in search rules)

pub returns-else-shared : goal.returns-else-shared
returns-else-shared c =
    rw (← c.seat.view_is) (let e = c.swap-else-shared.ensures in
    cell_moved c.seat.inside.seat _ c.swap-else-shared.result e.0 e.1 (FillsBare c.args.word c.args.shared) _ c.args.cell _
    c.cell_word-else-shared.ensures c.seat.invariant.sizes (subst (λ (b : Bool). OfCell (FillsBare c.args.word b) c.cell_word-else-shared.result
    c.seat.inside.seat.me c.swap-else-shared.result c.swap-else-shared.new.seat.me) (sym c.if-shared.false) e.2))

pub invariant_of-seat-else-shared : goal.invariant_of-seat-else-shared
invariant_of-seat-else-shared c = let m = (let e = c.swap-else-shared.ensures in
    cell_moved c.seat.inside.seat _ c.swap-else-shared.result e.0 e.1 (FillsBare c.args.word c.args.shared) _ c.args.cell _
    c.cell_word-else-shared.ensures c.seat.invariant.sizes (subst (λ (b : Bool). OfCell (FillsBare c.args.word b) c.cell_word-else-shared.result
    c.seat.inside.seat.me c.swap-else-shared.result c.swap-else-shared.new.seat.me) (sym c.if-shared.false) e.2)) in
    stays _ _ _ c.seat.invariant m.0 (let h = m in search rules)
