use Rattle.sdd_script.proofs.ScheduleLines.{none_then, no_place, no_item, two_words}
use Rattle.sdd_script.proofs.schedules.line.step.Goals as goal

pub returns-in_err-below-in-None : goal.returns-in_err-below-in-None
returns-in_err-below-in-None c =
    none_then _ _ c.from_residual-in_err-below-in-None.ensures
    (no_place c.args.text.now c.in_ok-verb.verb.now c.in_ok-verb.rest.now _ _ c.in_ok-verb.ensures c.in-None.ensures c.in_err-below-in-None.ensures)

pub returns-in_err-below-in-retire : goal.returns-in_err-below-in-retire
returns-in_err-below-in-retire c =
    none_then _ _ c.from_residual-in_err-below-in-retire.ensures
    (no_place c.args.text.now c.in_ok-verb.verb.now c.in_ok-verb.rest.now _ _ c.in_ok-verb.ensures c.in-Some.ensures c.in_err-below-in-retire.ensures)

pub returns-in_err-below-in-retire-2 : goal.returns-in_err-below-in-retire-2
returns-in_err-below-in-retire-2 c =
    none_then _ _ c.from_residual-in_err-below-in-retire-2.ensures
    (no_item c.args.text.now c.in_ok-verb.verb.now c.in_ok-verb.rest.now _ _ c.in_ok-verb.ensures c.in-Some.ensures c.in_err-below-in-retire-2.ensures)

pub returns-in_ok-below-in-None : goal.returns-in_ok-below-in-None
returns-in_ok-below-in-None c =
    two_words c.args.text.now c.in_ok-verb.verb.now c.in_ok-verb.rest.now c.in_ok-below-in-None.field-0 c.at_place.result
    c.in_ok-verb.ensures c.in-None.ensures c.in_ok-below-in-None.ensures c.at_place.ensures
