use Rattle.std.proofs.Common.{◌∙◌, ap, sym}
use Rattle.sdd_lists.specs.Lists.{first_slot}
use Rattle.sdd_lists.proofs.FirstEntries.{empty-of}
use Rattle.sdd_lists.proofs.queue.Queue.is_empty.Goals as goal

pub returns-clause-list : goal.returns-clause-list
returns-clause-list g c = λ e es second queue.
    let first = c.peek.ensures.list e es second queue in
    ((λ is. empty-of _ (sym first ∙ c.is_null.ensures.0 is)), (λ none. c.is_null.ensures.1 (first ∙ ap first_slot none)))
