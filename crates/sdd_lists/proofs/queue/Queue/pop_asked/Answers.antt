use Rattle.std.proofs.Common.{refl, sym}
use Rattle.sdd_lists.proofs.queue.Queue.pop_asked.Goals as goal

pub returns-in-Ok-clause-list : goal.returns-in-Ok-clause-list
returns-in-Ok-clause-list g c = λ e es second queue x rest first named cell_is shared.
    (x, rest, first, (refl, sym c.if-holds.true), c.in-Ok.ensures.exact e es second queue x rest first named cell_is shared)

pub returns-in-Err-clause-list : goal.returns-in-Err-clause-list
returns-in-Err-clause-list g c = λ e es second queue x rest first named cell_is shared.
    (x, rest, first, c.in-Err.ensures.exact e es second queue x rest first named cell_is shared)

pub returns-in-Ok-keep_first-clause-list : goal.returns-in-Ok-keep_first-clause-list
returns-in-Ok-keep_first-clause-list g c = λ e es second queue x rest first named cell_is shared.
    (x, rest, first, (refl, sym c.if-holds.false), c.in-Ok-keep_first.ensures.exact e x named shared)

pub returns-in-Err-keep_first-clause-list : goal.returns-in-Err-keep_first-clause-list
returns-in-Err-keep_first-clause-list g c = λ e es second queue x rest first named cell_is shared.
    (x, rest, first, c.in-Err-keep_first.ensures.exact e x named shared)
