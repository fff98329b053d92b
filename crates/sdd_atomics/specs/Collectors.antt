-- Steps of a collector's close, and of a bag on what waits for collectors
use Rattle.std.specs.Prelude.{◌≡◌, ℕ, [], ◌∷◌}
use Rattle.sdd_rights.specs.declared.views.CellKind.TheVariants.{Raw, Collector}
use Rattle.sdd_domain_invariant.specs.Words.{slot_word}
use Rattle.sdd_domain_invariant.specs.Collectors.CollectorWordSteps.{WaitsFor}
use Rattle.sdd_domain_invariant.specs.Fractions.FractionSteps.{SeatState, OfSlot}
use Rattle.sdd_domain_invariant.specs.Collectors.CollectorSteps.{CollectsOne, LeavesOneToClose, ClosesOne, ClosesNone}
use Rattle.sdd_atomics.specs.Emptying.{collector_named}

-- it begins to close the open collector to whose cell it has the right
abbrev pub ClosesOwn : SeatState → SeatState → Type 0
ClosesOwn me me' = (collector : ℕ) → me.0.cells.rights ≡ record { cell = collector; kind = Raw } ∷ [] → ClosesOne collector me me'

-- it ends the close of the collector to whose cell it has the right
abbrev pub EndsOwn : SeatState → SeatState → Type 0
EndsOwn me me' = (collector : ℕ) → me.0.cells.rights ≡ record { cell = collector; kind = Collector } ∷ [] → ClosesNone collector me me'

-- a private item is left to the close of the collector for which it waits
abbrev pub LeavesWaiting : ℕ → SeatState → ℕ → SeatState → Type 0
LeavesWaiting i me x me' = (slot collector : ℕ) → i ≡ slot_word me.0.sizes slot → WaitsFor collector me.0 slot → LeavesOneToClose collector slot me x me'

-- an item that waits is collected by this word
abbrev pub CollectsBy : ℕ → ℕ → SeatState → ℕ → SeatState → Type 0
CollectsBy word i me x me' = OfSlot (CollectsOne (collector_named word)) i me word me'
