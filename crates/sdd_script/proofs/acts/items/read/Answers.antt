use Rattle.sdd_script.proofs.Words.{sym, here}
use Rattle.sdd_script.proofs.ItemActs.{acts-read}
use Rattle.sdd_script.proofs.acts.items.read.Goals as goal

pub returns : goal.returns
returns c = record {
  acts = rw (← c.interpreter.view_is, c.told.ensures) (acts-read c.args.name (here c.args.name.0 c.interpreter.invariant c.is_whole.ensures c.in-Some.ensures)
      c.args.owner _ _ _ (sym c.in-Some-get.ensures) c.value_of.ensures.1 c.value_of.ensures.2);
}
