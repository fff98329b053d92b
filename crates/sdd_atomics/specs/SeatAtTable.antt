-- A seat at its table, which is seen as the seat
use Rattle.std.specs.Prelude.{◌≡◌, ℕ, None}
use Rattle.atomic_table.specs.Seated.{TableId}
use Rattle.atomic_table.specs.declared.shared.Seat.{Seat}
use Rattle.sdd_rights.specs.declared.views.Sizes.{Sizes}
use Rattle.sdd_rights.specs.declared.views.View.{View}
use Rattle.sdd_domain_invariant.specs.Epoch.{HasPlace}
use Rattle.sdd_domain_invariant.specs.Words.{most_waiting}
use Rattle.sdd_shared_values.specs.declared.value_fraction.ValueFraction.{ValueFraction}
use Rattle.sdd_atomics.specs.TableFacts.{TableFacts}

abbrev pub DomainSeat : Type 0
DomainSeat = Seat ValueFraction View

-- the seat is one at this table, and knows how many of each there are, and of which ghost map the values' places are
pub record SitsAt (b : TableFacts) (s : DomainSeat) : Type 0 where
  pub home : s.table_id ≡ b.id
  pub sizes : s.me.0.sizes ≡ b.sizes
  pub gamma : s.me.0.fractions.gamma ≡ b.gamma

-- what never changes of its table
abbrev pub facts_at : DomainSeat → TableFacts
facts_at s = record { id = s.table_id; sizes = s.me.0.sizes; gamma = s.me.0.fractions.gamma }

abbrev pub id_of : DomainSeat → TableId
id_of s = s.table_id

abbrev pub sizes_of : DomainSeat → Sizes
sizes_of s = s.me.0.sizes

abbrev pub gamma_of : DomainSeat → ℕ
gamma_of s = s.me.0.fractions.gamma

abbrev pub places_of : DomainSeat → ℕ
places_of s = (sizes_of s).participants

abbrev pub slots_of : DomainSeat → ℕ
slots_of s = (sizes_of s).slots

-- how much may wait there: an item for each slot, and a job for each place of one
abbrev pub most_waiting_of : DomainSeat → ℕ
most_waiting_of s = most_waiting (sizes_of s)

-- it has a place, and moves no value
pub record IsReady (s : DomainSeat) : Type 0 where
  pub place : HasPlace s.me.0.epoch
  pub rests : s.me.0.fractions.moves ≡ None
