-- What a raw pointer names
use Rattle.std.specs.Prelude.{ℕ, ◌≡◌, ◌==◌, Bool, Option, None, Some, if◌then◌else◌}
use Rattle.std.specs.Option.{option_eq}
use Rattle.std.specs.Ordering.{on, eq_of_both}
use Rattle.sdd_core.specs.declared.tag.Tag.{Tag}
use Rattle.sdd_core.specs.Tag.{number_of}
use Rattle.sdd_participants.specs.declared.standing.CellContents.{CellContents}
use Rattle.sdd_participants.specs.declared.standing.RawCellContents.{RawCellContents}
use Rattle.sdd_space.specs.declared.raw_ptr.RawPtr.{RawPtr}

module _ {T : Type 0} where
  -- the slot that it names; null names none
  abbrev pub slot_named : RawPtr T → Option ℕ
  slot_named p = if p.named then Some p.slot else None

  abbrev pub tag_of : RawPtr T → Tag
  tag_of p = p.tag

  -- what a cell holds that it stands for
  abbrev pub cell_seen : RawPtr T → CellContents
  cell_seen p = record { held = slot_named p; tag = tag_of p }

  -- what a raw cell has that points to it
  abbrev pub pointer_of : RawPtr T → RawCellContents
  pointer_of p = record { named = slot_named p; tag = tag_of p }

  -- a pointer is null whatever its tag
  abbrev pub IsNull : RawPtr T → Type 0
  IsNull p = slot_named p ≡ None

  -- they name one slot, or none, and have one tag
  abbrev pub are_equal : RawPtr T → RawPtr T → Bool
  are_equal = eq_of_both (on slot_named (option_eq ◌==◌)) (on (λ p. number_of (tag_of p)) ◌==◌)
