use Rattle.std.proofs.Common.{rules, [], refl}
use Rattle.sdd_lists.proofs.stack.Stack.new.Goals as goal

pub returns-in-Ok-clause-list : goal.returns-in-Ok-clause-list
returns-in-Ok-clause-list g c = search rules

pub returns-in-Ok-clause-values : goal.returns-in-Ok-clause-values
returns-in-Ok-clause-values g c = λ e. ([], returns-in-Ok-clause-list g c e, refl)
