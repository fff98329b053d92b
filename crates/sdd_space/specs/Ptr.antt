-- What a pointer names, and shows
use Rattle.std.specs.Prelude.{ℕ, ◌≡◌, ◌≢◌, ◌==◌, Bool, Option, None, Some, if◌then◌else◌}
use Rattle.std.specs.Option.{option_eq}
use Rattle.std.specs.Ordering.{on, eq_of_both}
use Rattle.sdd_core.specs.declared.tag.Tag.{Tag}
use Rattle.sdd_core.specs.Tag.{number_of}
use Rattle.sdd_participants.specs.declared.standing.CellContents.{CellContents}
use Rattle.sdd_space.specs.declared.ptr.Ptr.{Ptr}

module _ {T : Type 0} where
  -- the slot that it names; null names none
  abbrev pub slot_named : Ptr T → Option ℕ
  slot_named p = if p.named then Some p.slot else None

  -- the value that it was made with; null shows none
  abbrev pub shown_by : Ptr T → Option T
  shown_by p = p.nullable.now

  abbrev pub tag_of : Ptr T → Tag
  tag_of p = p.tag

  -- a pointer is null whatever its tag
  abbrev pub IsNull : Ptr T → Type 0
  IsNull p = slot_named p ≡ None

  -- they name one slot, or none, and have one tag
  abbrev pub are_equal : Ptr T → Ptr T → Bool
  are_equal = eq_of_both (on slot_named (option_eq ◌==◌)) (on (λ p. number_of (tag_of p)) ◌==◌)

  -- what a cell holds that it was loaded from
  abbrev pub cell_seen : Ptr T → CellContents
  cell_seen p = record { held = slot_named p; tag = tag_of p }

  -- it shows the value that its slot shows, and null shows none
  pub record PtrIsShown (shows : ℕ → T → Type 0) (p : Ptr T) : Type 0 where
    pub full : (k : ℕ) → slot_named p ≡ Some k → (value : T) × (shown_by p ≡ Some value) × shows k value
    pub null : slot_named p ≡ None → shown_by p ≡ None

  -- each slot that showed a value shows it still
  abbrev pub KeepsShown : (ℕ → T → Type 0) → (ℕ → T → Type 0) → Type 0
  KeepsShown shown shown_after = (k : ℕ) (value : T) → shown k value → shown_after k value

  -- each other slot does
  abbrev pub KeepsOthers : ℕ → (ℕ → T → Type 0) → (ℕ → T → Type 0) → Type 0
  KeepsOthers changed shown shown_after = (k : ℕ) (value : T) → k ≢ changed → shown k value → shown_after k value
