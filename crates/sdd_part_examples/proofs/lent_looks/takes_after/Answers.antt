use Rattle.std.proofs.Common.{◌∙◌}
use Rattle.sdd_values.proofs.Fractions.{lent-elsewhere, home-after}
use Rattle.sdd_part_examples.proofs.lent_looks.takes_after.Goals as goal

pub take-requires-clause-home : goal.take-requires-clause-home
take-requires-clause-home g c = let r = c.args.reader in let at = c.args.at in
    rw (c.settle.ensures) (home-after r _ at (λ q other. rw (c.look-2.ensures.lent, c.look.ensures.lent) (
    lent-elsewhere at r _ _ at q (λ _ e. other e) ∙ lent-elsewhere at r _ _ at q (λ _ e. other e) ∙ c.requires.home at q)))
