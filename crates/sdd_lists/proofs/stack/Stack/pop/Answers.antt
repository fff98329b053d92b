use Rattle.sdd_core.specs.declared.tag.Tag.TheVariants.{None as no_tag}
use Rattle.sdd_lists.proofs.Values.{popped-off-answer}
use Rattle.sdd_lists.proofs.stack.Stack.pop.Goals as goal

pub returns-clause-list : goal.returns-clause-list
returns-clause-list g c = λ e es list. c.pop_first.ensures.exact e no_tag es list

pub returns-clause-values : goal.returns-clause-values
returns-clause-values g c = λ e vs has.
    popped-off-answer (g.S.Caller.world c.args.s.now) (g.S.Caller.world c.pop_first.new.s) (g.S.Caller.caller c.args.s.now).place c.args.self.now vs has
    (λ k entry. g.S.Shows.shows c.pop_first.new.s k entry)
    (λ k entry there. c.pop_first.ensures.unmoved.shown k entry ((g.met.S.Caller.shows_is_value c.args.s.now e k entry).1 there))
    c.pop_first.result (c.pop_first.ensures.exact e no_tag has.0 has.1)
