use Rattle.std.proofs.Common.{of_calls}
use Rattle.sdd_core.specs.declared.tag.Tag.TheVariants.{None as no_tag}
use Rattle.sdd_lists.proofs.queue.Queue.peek_with.Goals as goal

pub returns-clause-list : goal.returns-clause-list
returns-clause-list g c = λ e es second queue. (c.shown_in-shown.result, c.shown_in-shown.ensures.exact e no_tag es queue.list, search of_calls)
