use Rattle.sdd_interpreter.proofs.Words.{IsNonDecreasingBy-from_sort, ItemName}
use Rattle.sdd_interpreter.proofs.items.items_in.Goals as goal

pub returns-clause-ascending : goal.returns-clause-ascending
returns-clause-ascending c = IsNonDecreasingBy-from_sort (λ (i : ItemName). i.0) c.sort_unstable.new.self.items c.sort_unstable.ensures.sorted
