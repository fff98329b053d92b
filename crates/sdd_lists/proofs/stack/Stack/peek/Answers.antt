use Rattle.sdd_core.specs.declared.tag.Tag.TheVariants.{None as no_tag}
use Rattle.sdd_lists.proofs.stack.Stack.peek.Goals as goal

pub returns-clause-list : goal.returns-clause-list
returns-clause-list g c = λ e es list. c.first_ptr_in.ensures.exact e no_tag es list
