use Rattle.std.proofs.Common.{ℕ, Some, ◌∙◌, sym, arith}
use Rattle.sdd_core.specs.declared.tag.Tag.TheVariants.{None as no_tag}
use Rattle.sdd_participants.specs.declared.standing.CellContents.{CellContents}
use Rattle.sdd_space.specs.Owned.{cell_of}
use Rattle.sdd_bench.proofs.Filling.{apart, filled-beside, filled-on, filled-out, filled-without}
use Rattle.sdd_bench.proofs.Leaving.{as-many, as-much, exact-on}
use Rattle.sdd_bench.proofs.cells.loads_under.Goals as goal

-- the first cell holds its item where the second one is filled, and where cells are loaded from
pub empties-requires-clause-filled : goal.empties-requires-clause-filled
empties-requires-clause-filled g c = λ exact.
    let world = g.S.Caller.world in
    let second = exact-on _ _ (sym c.sum_loaded-sum.ensures.caller) exact in
    let first = exact-on _ _ (sym c.in-Ok-new.ensures.undisturbed.caller) second in
    let shown = c.in-Ok.ensures.shown (exact-on _ _ (sym c.in-Ok.ensures.undisturbed.caller) first) in
    let made = c.in-Ok-new.ensures.exact first in
    filled-on (world c.new-2.new.s) (world c.sum_loaded-sum.new.space) (cell_of c.in-Ok.one) (c.sum_loaded-sum.ensures.exact second)
    (filled-beside (world c.new.new.s) (world c.new-2.new.s) (cell_of c.in-Ok.one) (cell_of c.in-Ok-new.other) _ _ _ made.3 made.2
    (shown.0, no_tag, shown.2))

-- the second cell holds its item where the first one is freed
pub empties-requires-in-Ok-new-clause-filled : goal.empties-requires-in-Ok-new-clause-filled
empties-requires-in-Ok-new-clause-filled g c = λ exact.
    let world = g.S.Caller.world in
    let third = exact-on _ _ (sym c.empties.ensures.caller) exact in
    let second = exact-on _ _ (sym c.sum_loaded-sum.ensures.caller) third in
    let first = exact-on _ _ (sym c.in-Ok-new.ensures.undisturbed.caller) second in
    let shown = c.in-Ok.ensures.shown (exact-on _ _ (sym c.in-Ok.ensures.undisturbed.caller) first) in
    let made = c.in-Ok-new.ensures.exact first in
    let other = c.in-Ok-new.ensures.shown first in
    filled-without (world c.sum_loaded-sum.new.space) (world c.empties.new.space) (cell_of c.in-Ok-new.other) (cell_of c.in-Ok.one)
    (c.empties.ensures.cells third)
    (apart (world c.new.new.s).cells (cell_of c.in-Ok.one) (cell_of c.in-Ok-new.other) _ shown.2 made.2)
    (filled-on (world c.new-2.new.s) (world c.sum_loaded-sum.new.space) (cell_of c.in-Ok-new.other) (c.sum_loaded-sum.ensures.exact second)
    (other.0, no_tag, other.2))

-- nor does a refused making change it
pub empties-requires-in-Err-new-clause-filled : goal.empties-requires-in-Err-new-clause-filled
empties-requires-in-Err-new-clause-filled g c = λ exact.
    let world = g.S.Caller.world in
    let first = exact-on _ _ (sym c.in-Err-new.ensures.undisturbed.caller) exact in
    let shown = c.in-Ok.ensures.shown (exact-on _ _ (sym c.in-Ok.ensures.undisturbed.caller) first) in
    filled-on (world c.new.new.s) (world c.new-2.new.s) (cell_of c.in-Ok.one) (c.in-Err-new.ensures.exact first).1 (shown.0, no_tag, shown.2)

pub returns-in-Ok-new : goal.returns-in-Ok-new
returns-in-Ok-new g c =
    let one = c.in-Ok.ensures in let other = c.in-Ok-new.ensures in
    let sum = c.sum_loaded-sum.ensures in let freed = c.empties.ensures in let last = c.empties-in-Ok-new.ensures in
    record {
      caller = last.caller ∙ freed.caller ∙ sum.caller ∙ other.undisturbed.caller ∙ one.undisturbed.caller;
      guards = last.guards ∙ freed.guards ∙ as-many (sum.own ∙ other.undisturbed.own ∙ one.undisturbed.own);
      kept = λ exact.
          let world = g.S.Caller.world in
          let first = exact-on _ _ one.undisturbed.caller exact in
          let second = exact-on _ _ other.undisturbed.caller first in
          let third = exact-on _ _ sum.caller second in
          let filled : ℕ → CellContents = λ slot. record { held = Some slot; tag = no_tag } in
          let made = one.exact exact in
          let made_then = other.exact first in
          omega (
            arith,
            as-much made.3,
            filled-out (world c.args.space.now) made.0 (cell_of c.in-Ok.one) 1 (filled made.0) made.1 made.2,
            as-much made_then.3,
            filled-out (world c.new.new.s) made_then.0 (cell_of c.in-Ok-new.other) 3 (filled made_then.0) made_then.1 made_then.2,
            as-much (sum.exact second),
            freed.out third,
            last.out (exact-on _ _ freed.caller third),
          );
    }
