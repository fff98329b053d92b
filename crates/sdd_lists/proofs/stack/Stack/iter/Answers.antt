use Rattle.std.proofs.Common.{subst}
use Rattle.sdd_core.specs.declared.tag.Tag.TheVariants.{None as no_tag}
use Rattle.sdd_lists.specs.Iter.{GivesInOrder, GoesInOrder}
use Rattle.sdd_lists.proofs.IterPositions.{always, reads}
use Rattle.sdd_lists.proofs.stack.Stack.iter.Goals as goal

pub returns-clause-list : goal.returns-clause-list
returns-clause-list g c = λ e vs has. subst (λ vs. GivesInOrder (g.S.Caller.world c.args.s.now) c.iter_in.result vs) has.2
    (c.iter_in.ensures.exact e no_tag has.0 has.1)

pub returns-clause-items : goal.returns-clause-items
returns-clause-items g c = λ e vs has. always g.S.Caller.caller g.S.Caller.world c.args.s.now c.iter_in.result vs c.iter_in.ensures.space e
    (returns-clause-list g c e vs has)

pub returns-clause-runs : goal.returns-clause-runs
returns-clause-runs g c = λ e vs has. reads (GoesInOrder g.S.Caller.caller g.S.Caller.world) (λ v. v.now) c.iter_in.result vs
    (returns-clause-items g c e vs has)
