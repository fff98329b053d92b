use Rattle.std.proofs.Common.{rules, refl}
use Rattle.sdd_core.specs.declared.tag.Tag.TheVariants.{None as no_tag}
use Rattle.sdd_domain_steps.proofs.CellWords.{none_held_by}
use Rattle.sdd_domain_steps.proofs.cells.claims.reserve.Goals as goal

pub claim_free-requires-clause-own : goal.claim_free-requires-clause-own
claim_free-requires-clause-own c = let none = none_held_by no_tag 0 refl in search rules

pub claim_free-requires-clause-fits : goal.claim_free-requires-clause-fits
claim_free-requires-clause-fits c = let none = none_held_by no_tag 0 refl in search rules
