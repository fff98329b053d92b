use Rattle.std.proofs.Common.{arith, ap}
use Rattle.std.proofs.lemmas.Grind.{common_steps}
use Rattle.sdd_participants.specs.Bags.{Bags}
use Rattle.sdd_participants.proofs.AgedBags.{none-waiting}
use Rattle.sdd_participants.proofs.bags.Bags.is_empty.Goals as goal
use Rattle.sdd_participants.proofs.bags.Bags.is_empty.Goals.{then-is_empty, else-is_empty}

pub returns-else-is_empty-2 : goal.returns-else-is_empty-2
returns-else-is_empty-2 c =
    let listed = ap (λ (b : Bags). b.waiting) c.self.view_is in
    elim c.if-is_empty.branch [
      | then-is_empty w ↦ grind (arith, common_steps, none-waiting _ _ _ _ listed)
      | else-is_empty w ↦ grind
          (arith, common_steps, none-waiting _ _ _ _ listed)
    ]
