-- The seat that a participant registers with
use Rattle.std.specs.Prelude.{◌≡◌, ◌<◌, ℕ, []}
use Rattle.sdd_rights.specs.declared.views.EpochView.{EpochView}
use Rattle.sdd_rights.specs.Views.{at_rest, bare, no_pledges, no_rights, nobody}
use Rattle.sdd_domain_invariant.specs.Epoch.EpochSteps.{Takes, counted}
use Rattle.sdd_domain_invariant.specs.Slots.SlotSteps.{blank}
use Rattle.sdd_atomics.specs.DomainSeat.{view, epoch, slots, words_known}
use Rattle.sdd_atomics.specs.SeatAtTable.{DomainSeat}
use Rattle.sdd_atomics.specs.TableFacts.{TableFacts, sizes_of, gamma_of, places_of}

-- it has taken this place, where it counts 0, and knows else what a new seat knows
pub record IsTakenAt (b : TableFacts) (place : ℕ) (seat : DomainSeat) : Type 0 where
  pub home : seat.table_id ≡ b.id
  pub inside : place < places_of b
  pub carried : seat.me.1 ≡ []
  pub sizes : (view seat).sizes ≡ sizes_of b
  pub fractions : (view seat).fractions ≡ at_rest (gamma_of b)
  pub slots : slots seat ≡ bare
  pub cells : (view seat).cells ≡ no_rights
  pub pledges : (view seat).pledges ≡ no_pledges
  pub words : words_known seat ≡ blank (sizes_of b)
  pub epoch : (before : EpochView) × Takes (nobody (places_of b)) place before × (epoch seat ≡ counted before 0)
