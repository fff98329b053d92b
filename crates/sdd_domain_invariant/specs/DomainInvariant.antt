-- The whole rule of a domain's table
use Rattle.std.specs.Prelude.{ℕ}
use Rattle.atomic_table.specs.Table.{State}
use Rattle.sdd_shared_values.specs.declared.value_fraction.ValueFraction.{ValueFraction}
use Rattle.sdd_rights.specs.declared.views.View.{View}
use Rattle.sdd_rights.specs.declared.views.Sizes.{Sizes}
use Rattle.sdd_domain_invariant.specs.WordInvariant.{WordInvariant}
use Rattle.sdd_domain_invariant.specs.Fractions.FractionsAtHome.{FractionsInvariant}
use Rattle.sdd_domain_invariant.specs.Slots.Records.{RecordsInvariant}
use Rattle.sdd_domain_invariant.specs.Counts.{CountsInvariant}
use Rattle.sdd_domain_invariant.specs.Slots.FilledInvariant.{FilledInvariant}
use Rattle.sdd_domain_invariant.specs.Fractions.BankInvariant.{BankInvariant}
use Rattle.sdd_domain_invariant.specs.Fractions.LastFractions.{LastsInvariant}
use Rattle.sdd_domain_invariant.specs.Slots.KindsInvariant.{KindsInvariant}

-- the words and what all participants know, the fractions at home, what is known of what slots show, what was made,
-- what a lone participant knows of owners, what the bank has, what is known of what slots show where no participant knows it, and whether owners are counted
pub record DomainInvariant (γ : ℕ) (sizes : Sizes) (s : State ValueFraction View) : Type 0 where
  pub kept : WordInvariant sizes s
  pub homes : FractionsInvariant γ sizes s.words s.views s.homes
  pub records : RecordsInvariant sizes s.views s.homes
  pub counts : CountsInvariant sizes s.words s.views
  pub filled : FilledInvariant sizes s.views
  pub bank : BankInvariant γ sizes s.words s.views
  pub lasts : LastsInvariant sizes s.words s.views s.homes
  pub kinds : KindsInvariant sizes s.words s.views
