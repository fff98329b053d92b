use Rattle.sdd_script.proofs.Words.{stays-here, points, under}
use Rattle.sdd_script.proofs.ItemActs.{acts-looked}
use Rattle.sdd_script.proofs.acts.items.look.Goals as goal

pub value_shown-value-requires-clause-stays : goal.value_shown-value-requires-clause-stays
value_shown-value-requires-clause-stays c =
    let found = c.in-Some.ensures.found in
    rw c.in-Some-slot_since.ensures.1 (stays-here (under c.args.name.0 c.interpreter.invariant c.is_whole.ensures found.0) c.args.guard.0 c.args.item.0 _
    found.1 found.2 (points c.interpreter.inside.environment c.args.name.0 _ found.0 c.args.item.0 c.in-Some-slot_since.ensures.0))

pub returns : goal.returns
returns c =
    let found = c.in-Some.ensures.found in
    let point = points c.interpreter.inside.environment c.args.name.0 _ found.0 c.args.item.0 c.in-Some-slot_since.ensures.0 in
    record {
      acts = rw (← c.interpreter.view_is, c.value_shown-value.ensures.world, c.told.ensures) (acts-looked c.args.name
          (under c.args.name.0 c.interpreter.invariant c.is_whole.ensures found.0) c.args.item c.args.guard _ c.in-Some.ensures.valid point
          (rw c.in-Some-slot_since.ensures.1 at c.value_shown-value.ensures.shown));
    }
