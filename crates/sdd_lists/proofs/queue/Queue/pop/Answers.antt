use Rattle.sdd_lists.proofs.Values.{popped-answer}
use Rattle.sdd_lists.proofs.queue.Queue.pop.Goals as goal

pub returns-clause-list : goal.returns-clause-list
returns-clause-list g c = λ e es second queue. c.pop_oldest.ensures.exact e es second queue

pub returns-clause-values : goal.returns-clause-values
returns-clause-values g c = λ e vs has.
    popped-answer (g.S.Caller.world c.args.s.now) (g.S.Caller.world c.pop_oldest.new.s) (g.S.Caller.caller c.args.s.now).place c.args.self.now vs has
    (λ k entry. g.S.Shows.shows c.pop_oldest.new.s k entry)
    (λ k entry there. c.pop_oldest.ensures.unmoved.shown k entry ((g.met.S.Caller.shows_is_value c.args.s.now e k entry).1 there))
    c.pop_oldest.result (c.pop_oldest.ensures.exact e has.0 has.1 has.2)
