use Rattle.std.proofs.Common.{ap, ◌∙◌}
use Rattle.sdd_domain_steps.specs.CellWords.{listed}
use Rattle.sdd_domain_steps.proofs.HeldOwners.{listed_held}
use Rattle.sdd_domain_steps.proofs.cells.values.retag.Goals as goal

pub retag_cell-requires-clause-same : goal.retag_cell-requires-clause-same
retag_cell-requires-clause-same c = c.word_with-word.ensures.held ∙ (ap listed c.held_slot.ensures.held ∙ listed_held c.args.old)
