use Rattle.sdd_script.proofs.Words.{invalid}
use Rattle.sdd_script.proofs.ContainerActs.{acts-counted, list-home, no-list, reader-is}
use Rattle.sdd_script.proofs.acts.containers.len.Goals as goal

pub returns-in_default : goal.returns-in_default
returns-in_default c = record {
  acts = rw (← c.interpreter.view_is) (invalid _ _ _ (λ valid. c.in_default.ensures.valid valid.0));
}

pub returns-in_default-list_named : goal.returns-in_default-list_named
returns-in_default-list_named c = record {
  acts = rw (← c.interpreter.view_is) (invalid _ _ _ (λ valid. no-list c.interpreter.inside.environment c.args.list c.in_default-list_named.ensures valid.1));
}

pub at-requires-clause-asked : goal.at-requires-clause-asked
at-requires-clause-asked c =
    let h = c.interpreter.inside.environment in
    let found = c.in-Some.ensures.found in (
      list-home h c.interpreter.invariant c.args.list _ c.in-Some-list_named.ensures,
      reader-is h c.interpreter.invariant c.args.guard.0 _ _ found.1 found.2,
    )

pub returns : goal.returns
returns c =
    let done = c.at.ensures.done in
    record {
      acts = rw (← c.interpreter.view_is, done.0) (acts-counted c.interpreter.inside.environment c.interpreter.invariant c.args.name c.args.guard c.in-Some.ensures.valid c.args.list _
          c.in-Some-list_named.ensures _ done.1);
    }
