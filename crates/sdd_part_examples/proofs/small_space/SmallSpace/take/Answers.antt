use Rattle.std.proofs.Common.{◌≡◌}
use Rattle.sdd_values.specs.declared.read_sections.SectionState.{SectionState}
use Rattle.sdd_values.specs.declared.read_sections.SectionState.TheVariants.{Open, Closed}
use Rattle.sdd_part_examples.specs.SmallSpace.{IsOpenAs}
use Rattle.sdd_values.proofs.Fractions.{all-home}
use Rattle.sdd_part_examples.proofs.small_space.SmallSpace.take.Goals as goal

closed-not-open : (s : SectionState) → s ≡ Closed → s ≡ Open → ⊥
closed-not-open s e f = cc

pub take-requires-clause-home : goal.take-requires-clause-home
take-requires-clause-home g c = all-home (IsOpenAs c.self.inside.sections) c.self.inside.places.fractions c.self.invariant.lent c.args.at
    (λ r t so. closed-not-open _ ((rw (← c.self.view_is) at c.requires.closed) r) so.0)
