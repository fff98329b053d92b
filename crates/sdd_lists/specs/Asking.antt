-- What calls answer that ask a condition first
use Rattle.std.specs.Prelude.{Bool, true, is_some, Option, None, Some, Result, Ok, Err}
use Rattle.sdd_core.specs.declared.refused.Refused.{Refused}
use Rattle.sdd_space.specs.Shared.{Shared}
use Rattle.sdd_lists.specs.declared.linked_entry.LinkedEntry.{LinkedEntry}
use Rattle.sdd_lists.specs.declared.unpopped.Unpopped.{Unpopped}
use Rattle.sdd_lists.specs.declared.unpopped.Unpopped.TheVariants.{Kept, Refused as RefusedBy}

module _ {O T : Type 0} where
  -- whether the condition held: of a push, which is refused only then
  abbrev pub was_held : Result O (T × Option Refused) → Bool
  was_held (Ok owner) = true
  was_held (Err back) = is_some back.1

module _ {T : Type 0} where
  -- the owner of the entry that was kept, if one was
  abbrev pub kept_by : Unpopped T → Option (Shared (LinkedEntry T))
  kept_by (Kept owner) = Some owner
  kept_by (RefusedBy why) = None
