use Rattle.std.proofs.Common.{sym}
use Rattle.sdd_core.specs.declared.tag.Tag.TheVariants.{None as no_tag}
use Rattle.sdd_lists.specs.Lists.{left}
use Rattle.sdd_lists.proofs.WalkPositions.{shown-left}
use Rattle.sdd_lists.proofs.queue.Queue.walk.Goals as goal

pub returns-clause-list : goal.returns-clause-list
returns-clause-list g c = λ e es second queue. (left es, c.walk_in.ensures.exact e no_tag es queue.list, sym (shown-left es))

pub returns-clause-entries : goal.returns-clause-entries
returns-clause-entries g c = λ e es second queue. c.walk_in.ensures.exact e no_tag es queue.list
