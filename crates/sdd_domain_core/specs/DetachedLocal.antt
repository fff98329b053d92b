-- A participant without its domain
use Rattle.std.specs.Prelude.{None, ◌≡◌, ℕ, List, [], Option}
use Rattle.atomic_table.specs.declared.shared.Seat.{Seat}
use Rattle.sdd_participants.specs.declared.participant.Participant.{Participant}
use Rattle.sdd_participants.specs.declared.tally.Tally.{Tally}
use Rattle.sdd_rights.specs.declared.fraction.Fraction.{Fraction}
use Rattle.sdd_values.specs.declared.read_sections.SectionState.{SectionState}
use Rattle.sdd_rights.specs.declared.views.View.{View}
use Rattle.sdd_shared_values.specs.declared.value_fraction.ValueFraction.{ValueFraction}
use Rattle.sdd_core.specs.declared.limits.Limits.{Limits}
use Rattle.sdd_atomics.specs.TableFacts.{TableFacts, sizes_of}
use Rattle.sdd_domain_steps.specs.DueItems.{Pending}
use Rattle.sdd_domain_steps.specs.InBags.{known_waiting}
use Rattle.sdd_domain_steps.specs.BetweenCalls.{IsBetweenCalls, IsSectionOf, AreLentTo, AgreesWithView}
use Rattle.sdd_domain_steps.specs.Receipt.{IsTallied}
use Rattle.sdd_domain_steps.specs.DomainValues.{sizes_in}

-- on the table of its domain it is as between two calls, with no guard open, and closes no collector
pub record IsDormant {J : Type 0} (limits : Limits) (place : ℕ) (own : Participant) (due : Pending) (known_slots : ℕ) (held_jobs : List (Option J))
    (collectors : List (Option ℕ)) (section : Fraction SectionState) (seat : Seat ValueFraction View) (tally : Tally) : Type 0 where
  pub table : TableFacts
  pub sizes : sizes_of table ≡ sizes_in limits
  pub shut : own.guards ≡ 0
  pub settled : due.items ≡ []
  pub closes : seat.me.0.slots.closes ≡ None
  pub between_calls : IsBetweenCalls table place own seat
  pub section_is : IsSectionOf own section
  pub lent : AreLentTo section.lifetime seat.me.1
  pub ready : AgreesWithView table own due known_slots held_jobs collectors (known_waiting seat.me.0.slots)
  pub tallied : IsTallied 0 tally seat.me.0.fractions.counts
