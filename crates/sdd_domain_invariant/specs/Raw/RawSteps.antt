-- What each step on an item makes of the seat that goes out as raw, is seen meanwhile, and comes back
use Rattle.std.specs.Prelude.{◌≡◌, ◌≢◌, ℕ, false, ◌∷◌}
use base.Stored.{Gv}
use Rattle.sdd_shared_values.specs.SharedValues.{IsValueCode}
use Rattle.sdd_rights.specs.declared.views.View.{View}
use Rattle.sdd_domain_invariant.specs.Epoch.{IsLone}
use Rattle.sdd_domain_invariant.specs.Slots.SlotSteps.{Knew, claimed, turned_raw}
use Rattle.sdd_domain_invariant.specs.Fractions.FractionSteps.{SeatState, IsNewest, SeesOwned, untold}

-- the item of its only owner is out as raw, and it knows no more what the slot shows
abbrev pub TurnsRawOne : ℕ → SeatState → ℕ → SeatState → Type 0
TurnsRawOne slot me y me' = (me'.0 ≡ untold (turned_raw slot y me.0)) × (me'.1 ≡ me.1)

-- it has the only owner of a slot that is out as raw, and knows what the slot shows
abbrev pub regaining : ℕ → ℕ → Gv → View → View
regaining slot y value v = record (claimed slot y v) {
  fractions = record v.fractions { owns = record { slot = slot; shared = false; value = value } ∷ v.fractions.owns };
}

-- what a slot shows that is out as raw a lone participant moved in last, for an owner that was the only one
abbrev pub KnewRaw : ℕ → Gv → View → Type 0
KnewRaw slot value v = IsLone v.epoch → IsNewest slot false value v

-- an owner of an item is made that is out as raw, whose word is old then; the owner has no unit yet
abbrev pub RegainsOne : ℕ → ℕ → ℕ → SeatState → ℕ → SeatState → Type 0
RegainsOne slot old y me x me' =
    (x ≡ old → (value : Gv) × IsValueCode value × (me' ≡ (regaining slot y value me.0, me.1)) × KnewRaw slot value me.0)
    × (x ≢ old → me' ≡ me) × Knew slot me.0 x

-- a guard sees an item that is out as raw, whose word is old then
abbrev pub SeesRawOne : ℕ → ℕ → SeatState → ℕ → SeatState → Type 0
SeesRawOne slot old me x me' = (x ≡ old → (value : Gv) × SeesOwned slot false value me me' × KnewRaw slot value me.0)
    × (x ≢ old → me' ≡ me) × Knew slot me.0 x
