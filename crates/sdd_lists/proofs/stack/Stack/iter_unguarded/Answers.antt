use Rattle.std.proofs.Common.{subst}
use Rattle.sdd_core.specs.declared.tag.Tag.TheVariants.{None as no_tag}
use Rattle.sdd_lists.specs.Iter.{GivesInOrder}
use Rattle.sdd_lists.proofs.stack.Stack.iter_unguarded.Goals as goal

pub returns-clause-list : goal.returns-clause-list
returns-clause-list g c = λ e vs has. subst (λ vs. GivesInOrder (g.S.Caller.world c.args.s.now) c.iter_in.result vs) has.2
    (c.iter_in.ensures.exact e no_tag has.0 has.1)
