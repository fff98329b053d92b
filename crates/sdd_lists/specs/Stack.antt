-- Where a stack begins, and what a push onto it makes
use Rattle.std.specs.Prelude.{ℕ, ◌≡◌, Bool, true, false, List, ◌∷◌, Option, None, Some, Result, Ok, Err}
use Rattle.sdd_space.specs.Shared.{cell_of, cells_home, slot_of}
use Rattle.sdd_world_model.specs.WorldChanges.{nulled, with_cell}
use Rattle.sdd_world_model.specs.World.{World}
use Rattle.sdd_space.specs.Shared.{Shared}
use Rattle.sdd_core.specs.declared.tag.Tag.TheVariants as tag
use Rattle.sdd_participants.specs.Slab.{IsEmptyAt}
use Rattle.sdd_rights.specs.Units as units
use Rattle.sdd_lists.specs.declared.linked_entry.LinkedEntry.{LinkedEntry}
use Rattle.sdd_lists.specs.declared.stack.Stack.{Stack}
use Rattle.sdd_lists.specs.declared.unpopped.Unpopped.{Unpopped}
use Rattle.sdd_lists.specs.declared.unpopped.Unpopped.TheVariants.{Kept, Refused as RefusedBy}
use Rattle.sdd_lists.specs.Entries.{link_of, value_of}
use Rattle.sdd_lists.specs.Lists.{Entry, IsCrowded, IsDrained, IsKept, IsList, IsPushed, IsTaken, first_slot, left}

module _ {T : Type 0} where
  abbrev pub cell_in : Stack T → ℕ
  cell_in stack = cell_of stack.newest

  abbrev pub home_in : Stack T → units.GhostName
  home_in stack = cells_home stack.newest

  -- the stack has these entries, the newest first
  abbrev pub IsStack : World (LinkedEntry T) → ℕ → List (Entry (LinkedEntry T)) → Type 0
  IsStack w c es = IsList link_of w c tag.None es

  -- p pushed the value onto the stack of these entries: a new entry has it, whose link is a cell that was free, and the owner is of that entry
  pub record PushesOnto (w : World (LinkedEntry T)) (p c : ℕ) (es : List (Entry (LinkedEntry T))) (pushed : T) (owner : Shared (LinkedEntry T))
      (new : World (LinkedEntry T)) : Type 0 where
    pub entry : LinkedEntry T
    pub value : value_of entry ≡ pushed
    pub link : IsEmptyAt w.cells (link_of entry)
    pub list : IsPushed link_of (nulled w (link_of entry)) p c tag.None es (slot_of owner) entry new

  -- all entries of the stack in cell c are the stack's in cell all, which was free
  abbrev pub poured : World (LinkedEntry T) → (c all : ℕ) → List (Entry (LinkedEntry T)) → World (LinkedEntry T)
  poured w c all es = with_cell (nulled w c) all (record { held = first_slot es; tag = tag.None })

  -- what a pop of the stack of these entries answers that asks a condition of the first one that is left, and what is there then
  abbrev pub PopsIf : (LinkedEntry T → Bool → Type 0) → World (LinkedEntry T) → (p c : ℕ) → List (Entry (LinkedEntry T)) →
      Result (Option (Shared (LinkedEntry T))) (Unpopped T) → World (LinkedEntry T) → Type 0
  PopsIf asked w p c es (Ok None) new = IsDrained link_of w p c tag.None es new
  PopsIf asked w p c es (Ok (Some owner)) new =
      (e : Entry (LinkedEntry T)) × (rest : List (Entry (LinkedEntry T))) × (left es ≡ e ∷ rest) × asked e.value true ×
      IsTaken link_of w p c tag.None es e rest owner new
  PopsIf asked w p c es (Err (Kept owner)) new =
      (e : Entry (LinkedEntry T)) × (rest : List (Entry (LinkedEntry T))) × (left es ≡ e ∷ rest) × asked e.value false × IsKept w e owner new
  PopsIf asked w p c es (Err (RefusedBy why)) new =
      (e : Entry (LinkedEntry T)) × (rest : List (Entry (LinkedEntry T))) × (left es ≡ e ∷ rest) × IsCrowded w e why new
