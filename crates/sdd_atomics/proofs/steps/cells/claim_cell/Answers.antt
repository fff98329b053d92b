use Rattle.std.proofs.Common.{rules, true, false, sym, ◌∙◌, subst, arith}
use Rattle.sdd_rights.specs.declared.views.CellKind.{CellKind}
use Rattle.sdd_rights.specs.declared.views.CellKind.TheVariants.{Raw}
use Rattle.sdd_domain_invariant.specs.Cells.CellSteps.{ClaimsCell, OfCell}
use Rattle.sdd_atomics.specs.Cells.{FitsCell}
use Rattle.sdd_atomics.proofs.Cells.{cell_moved, may_claim, may_claim_bare}
use Rattle.sdd_atomics.proofs.Sitting.{numbers, sits, stays}
use Rattle.sdd_atomics.proofs.steps.cells.claim_cell.Goals as goal

pub compare_exchange-requires : goal.compare_exchange-requires
compare_exchange-requires c = let k = sits _ _ _ c.seat.view_is c.seat.invariant in let n = numbers k in
    rw c.seat.view_is (let r = c.requires in (
      k.home,
      omega arith,
      may_claim _ _ _ _ _ k.sizes k.gamma r.ready.place r.ready.rests c.args.cell (omega arith) _ c.cell_word-at.ensures c.args.word r.own.0 r.own.1 r.own.2
          false
          (subst (λ (k : CellKind). FitsCell k c.args.word c.args.seat.now.me.0.fractions.owns) c.in-Owned.is r.fits) r.word,
    ))

pub compare_exchange-requires-in-Shared : goal.compare_exchange-requires-in-Shared
compare_exchange-requires-in-Shared c = let k = sits _ _ _ c.seat.view_is c.seat.invariant in let n = numbers k in
    rw c.seat.view_is (let r = c.requires in (
      k.home,
      omega arith,
      may_claim _ _ _ _ _ k.sizes k.gamma r.ready.place r.ready.rests c.args.cell (omega arith) _ c.cell_word-at.ensures c.args.word r.own.0 r.own.1 r.own.2
          true
          (subst (λ (k : CellKind). FitsCell k c.args.word c.args.seat.now.me.0.fractions.owns) c.in-Shared.is r.fits) r.word,
    ))

pub compare_exchange-requires-in-Raw : goal.compare_exchange-requires-in-Raw
compare_exchange-requires-in-Raw c = let k = sits _ _ _ c.seat.view_is c.seat.invariant in let n = numbers k in
    rw c.seat.view_is (let r = c.requires in
    let bare = subst (λ (k : CellKind). FitsCell k c.args.word c.args.seat.now.me.0.fractions.owns) c.in-Raw.is r.fits in (
      k.home,
      omega arith,
      may_claim_bare _ _ _ _ _ k.sizes k.gamma r.ready.place r.ready.rests c.args.cell (omega arith) _ c.cell_word-at.ensures c.args.word bare.0 r.word
          (r.own.0 ∙ bare.0)
          r.own.1 Raw tt r.own.2 bare.1,
    ))

pub unreachable-requires : goal.unreachable-requires
unreachable-requires c = subst (λ (k : CellKind). FitsCell k c.args.word c.args.seat.now.me.0.fractions.owns) c.in-Collector.is c.requires.fits

pub returns-in-Owned : goal.returns-in-Owned
returns-in-Owned c =
    rw (← c.seat.view_is) (let e = c.compare_exchange.ensures in
    cell_moved c.seat.inside.seat _ c.compare_exchange.result e.0 e.1 (ClaimsCell c.args.word c.args.kind) _ c.args.cell _ c.cell_word-at.ensures
    c.seat.invariant.sizes (subst (λ (k : CellKind). OfCell (ClaimsCell c.args.word k) c.cell_word-at.result c.seat.inside.seat.me c.compare_exchange.result
    c.compare_exchange.new.seat.me) (sym c.in-Owned.is) e.2))

pub invariant_of-seat : goal.invariant_of-seat
invariant_of-seat c = let m = (let e = c.compare_exchange.ensures in
    cell_moved c.seat.inside.seat _ c.compare_exchange.result e.0 e.1 (ClaimsCell c.args.word c.args.kind) _ c.args.cell _ c.cell_word-at.ensures
    c.seat.invariant.sizes (subst (λ (k : CellKind). OfCell (ClaimsCell c.args.word k) c.cell_word-at.result c.seat.inside.seat.me c.compare_exchange.result
    c.compare_exchange.new.seat.me) (sym c.in-Owned.is) e.2)) in
    stays _ _ _ c.seat.invariant m.0 (let h = m in search rules)

pub returns-in-Shared : goal.returns-in-Shared
returns-in-Shared c =
    rw (← c.seat.view_is) (let e = c.compare_exchange-in-Shared.ensures in
    cell_moved c.seat.inside.seat _ c.compare_exchange-in-Shared.result e.0 e.1 (ClaimsCell c.args.word c.args.kind) _ c.args.cell _ c.cell_word-at.ensures
    c.seat.invariant.sizes (subst (λ (k : CellKind). OfCell (ClaimsCell c.args.word k) c.cell_word-at.result c.seat.inside.seat.me
    c.compare_exchange-in-Shared.result
    c.compare_exchange-in-Shared.new.seat.me) (sym c.in-Shared.is) e.2))

pub invariant_of-seat-in-Shared : goal.invariant_of-seat-in-Shared
invariant_of-seat-in-Shared c = let m = (let e = c.compare_exchange-in-Shared.ensures in
    cell_moved c.seat.inside.seat _ c.compare_exchange-in-Shared.result e.0 e.1 (ClaimsCell c.args.word c.args.kind) _ c.args.cell _ c.cell_word-at.ensures
    c.seat.invariant.sizes (subst (λ (k : CellKind). OfCell (ClaimsCell c.args.word k) c.cell_word-at.result c.seat.inside.seat.me
    c.compare_exchange-in-Shared.result
    c.compare_exchange-in-Shared.new.seat.me) (sym c.in-Shared.is) e.2)) in
    stays _ _ _ c.seat.invariant m.0 (let h = m in search rules)

pub returns-in-Raw : goal.returns-in-Raw
returns-in-Raw c =
    rw (← c.seat.view_is) (let e = c.compare_exchange-in-Raw.ensures in
    cell_moved c.seat.inside.seat _ c.compare_exchange-in-Raw.result e.0 e.1 (ClaimsCell c.args.word c.args.kind) _ c.args.cell _ c.cell_word-at.ensures
    c.seat.invariant.sizes (subst (λ (k : CellKind). OfCell (ClaimsCell c.args.word k) c.cell_word-at.result c.seat.inside.seat.me
    c.compare_exchange-in-Raw.result
    c.compare_exchange-in-Raw.new.seat.me) (sym c.in-Raw.is) e.2))

pub invariant_of-seat-in-Raw : goal.invariant_of-seat-in-Raw
invariant_of-seat-in-Raw c = let m = (let e = c.compare_exchange-in-Raw.ensures in
    cell_moved c.seat.inside.seat _ c.compare_exchange-in-Raw.result e.0 e.1 (ClaimsCell c.args.word c.args.kind) _ c.args.cell _ c.cell_word-at.ensures
    c.seat.invariant.sizes (subst (λ (k : CellKind). OfCell (ClaimsCell c.args.word k) c.cell_word-at.result c.seat.inside.seat.me
    c.compare_exchange-in-Raw.result
    c.compare_exchange-in-Raw.new.seat.me) (sym c.in-Raw.is) e.2)) in
    stays _ _ _ c.seat.invariant m.0 (let h = m in search rules)
