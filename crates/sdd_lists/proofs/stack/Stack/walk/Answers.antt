use Rattle.std.proofs.Common.{sym}
use Rattle.sdd_core.specs.declared.tag.Tag.TheVariants.{None as no_tag}
use Rattle.sdd_lists.specs.Lists.{left}
use Rattle.sdd_lists.proofs.WalkPositions.{shown-left}
use Rattle.sdd_lists.proofs.stack.Stack.walk.Goals as goal

pub returns-clause-list : goal.returns-clause-list
returns-clause-list g c = λ e es list. (left es, c.walk_in.ensures.exact e no_tag es list, sym (shown-left es))

pub returns-clause-entries : goal.returns-clause-entries
returns-clause-entries g c = λ e es list. c.walk_in.ensures.exact e no_tag es list
