use Rattle.std.proofs.Common.{ap}
use Rattle.atomic_table.specs.Table.{Me}
use Rattle.sdd_part_examples.specs.declared.counted_owners.views.View.{View}
use Rattle.sdd_part_examples.proofs.Steps.{founds}
use Rattle.sdd_part_examples.proofs.counted_owners.Owners.new.Goals as goal

pub found-ledger-requires-clause-cut : goal.found-ledger-requires-clause-cut
found-ledger-requires-clause-cut c = founds _ _ (ap (λ (m : Me (Unit {0}) View). m.0.founds) c.in_ok-table.ensures.4)
