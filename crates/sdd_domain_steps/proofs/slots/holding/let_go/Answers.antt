use Rattle.std.proofs.Common.{◌∙◌}
use Rattle.sdd_domain_steps.proofs.slots.holding.let_go.Goals as goal

pub share_again-requires-clause-several : goal.share_again-requires-clause-several
share_again-requires-clause-several c = λ r told is. c.requires.told r told is ∙ c.if-shared.true

pub release_hold-requires-clause-single : goal.release_hold-requires-clause-single
release_hold-requires-clause-single c = λ r told is. c.requires.told r told is ∙ c.if-shared.false
