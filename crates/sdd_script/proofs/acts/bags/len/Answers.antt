use Rattle.sdd_script.proofs.Words.{invalid}
use Rattle.sdd_script.proofs.BagActs.{acts-counted, no-bag}
use Rattle.sdd_script.proofs.acts.bags.len.Goals as goal

pub returns-in_default : goal.returns-in_default
returns-in_default c = record {
  acts = rw (← c.interpreter.view_is) (invalid _ _ _ (λ valid. c.in_default.ensures.valid valid.0));
}

pub returns-in_default-get : goal.returns-in_default-get
returns-in_default-get c = record {
  acts = rw (← c.interpreter.view_is) (invalid _ _ _ (λ valid. no-bag c.interpreter.inside.environment c.args.bag.0 c.in_default-get.ensures valid.1));
}

pub returns : goal.returns
returns c =
    let h = c.interpreter.inside.environment in
    record {
      acts = rw (← c.interpreter.view_is) (acts-counted h c.interpreter.invariant c.is_whole.ensures c.args.name _ c.in-Some.ensures.found.0 c.args.bag _
          c.in-Some-get.ensures c.args.guard _ c.in-Some.ensures.valid c.len.ensures);
    }
