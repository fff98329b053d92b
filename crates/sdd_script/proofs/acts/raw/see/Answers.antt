use Rattle.sdd_script.proofs.Words.{under}
use Rattle.sdd_script.proofs.RawActs.{acts-seen, there-from}
use Rattle.sdd_script.proofs.acts.raw.see.Goals as goal

pub returns : goal.returns
returns c =
    let slot = c.in-Some-slot_since.ensures.1 in
    let done = c.in-Some-at.ensures.done in
    record {
      acts = rw (← c.interpreter.view_is, done.1, c.told.ensures) (acts-seen c.args.name
          (under c.args.name.0 c.interpreter.invariant c.is_whole.ensures c.in-Some.ensures.found.0) c.args.item c.args.guard _ c.in-Some.ensures.valid
          (there-from c.interpreter.inside.environment c.args.item.0 c.in-Some-slot_since.ensures.0) (rw slot at done.0.0) (rw slot at done.0.1));
    }
