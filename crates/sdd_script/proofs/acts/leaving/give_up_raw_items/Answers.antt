use Rattle.sdd_script.proofs.Words.{◌∙◌, ap, refl, arith, length, Environment, below_more}
use Rattle.sdd_script.proofs.ScriptEnd.{goes-start, goes-then, none-raw}
use Rattle.sdd_script.proofs.acts.leaving.give_up_raw_items.Goals as goal

pub loop-slot-init : goal.loop-slot-init
loop-slot-init c = record { goes = goes-start _ _ c.requires; gone = λ k lt. absurd (omega (arith, lt)); rest = refl }

pub overflow_cast-slot : goal.overflow_cast-slot
overflow_cast-slot c = omega (arith, c.requires.sound.stocked.few, c.loop-slot-test.true, c.len-slot-end.ensures)

pub loop-slot-preserved : goal.loop-slot-preserved
loop-slot-preserved c =
    let was = c.loop-slot.invariant in
    let does = c.give_up_raw_item.ensures in
    record {
      goes = goes-then was.goes does.goes;
      gone = below_more _ _ (λ k lt. does.others k (was.gone k lt)) does.gone;
      rest = does.rest ∙ ap (λ (x : Environment). record x { world = c.give_up_raw_item.new.environment.world }) was.rest;
    }

pub returns-clause-gone : goal.returns-clause-gone
returns-clause-gone c =
    let was = c.loop-slot.invariant in
    let same = ap (λ (x : Environment). length x.log.names.items) was.rest in
    none-raw c.loop-slot.environment _ was.goes.ending (λ k lt. was.gone k (omega (arith, lt, same, c.loop-slot-test.false, c.len-slot-end.ensures)))
