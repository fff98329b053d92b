-- That an entry is put behind another
use Rattle.std.specs.Prelude.{ℕ, ◌≡◌, ◌≢◌, Bool, true, false, None, Some}
use Rattle.sdd_core.specs.declared.tag.Tag.TheVariants.{None as no_tag}
use Rattle.sdd_participants.specs.Slab.{entry_at}
use Rattle.sdd_participants.specs.declared.standing.CellContents.{CellContents}
use Rattle.sdd_world_model.specs.World.{World, value_at}
use Rattle.sdd_world_model.specs.WorldChanges.{held_in}
use Rattle.sdd_lists.specs.Behind.{mark_tag}
use Rattle.sdd_lists.specs.Lists.{linked_in}
use Rattle.sdd_lists.specs.Marks.{says_deleted}
use Rattle.sdd_script_model.specs.Link.{IsLink}
use Rattle.sdd_script_model.specs.Listed.{IsNumber}
use Rattle.sdd_script_model.specs.ScriptState.{ScriptState, Leaves, holding_at, in_world, shared_slot, slot_at, without_owner}
use Rattle.sdd_script_model.specs.Val.{Val, body_of, link_of}

-- the item in slot k is a number, neither marked nor deleted, with nothing behind it, and no cell holds it
pub record IsLooseEntry (w : World Val) (k : ℕ) : Type 0 where
  pub entry : Val
  pub there : value_at w k ≡ Some entry
  pub number : IsNumber (body_of entry)
  pub clear : entry_at w.cells (link_of entry) ≡ Some (record { held = None; tag = no_tag })
  pub unheld : (c : ℕ) → held_in (entry_at w.cells c) ≢ Some k

-- so is the item of owner o, which is one of several, and it isn't item i
pub record MayAppend (d : ScriptState) (i o : ℕ) : Type 0 where
  pub slot : ℕ
  pub owner : shared_slot (holding_at d.owners o) ≡ Some slot
  pub loose : IsLooseEntry d.world slot
  pub other : slot ≢ slot_at d i

-- item i isn't deleted, and the entry of owner o comes directly behind it, before what was there: by that item i is marked, or has no mark
abbrev pub Appends : ScriptState → (i o : ℕ) → Bool → ScriptState → Type 0
Appends d i o mark new =
    (l : ℕ) × (cell : CellContents) × (k : ℕ) × (v : Val) × IsLink d i l cell × (says_deleted cell.tag ≡ false)
    × (shared_slot (holding_at d.owners o) ≡ Some k) × (value_at d.world k ≡ Some v)
    × Leaves (in_world (without_owner d o) (linked_in d.world l (mark_tag mark) (link_of v) k cell.held)) new

-- item i is deleted
abbrev pub HasDeletedLink : ScriptState → (i : ℕ) → Type 0
HasDeletedLink d i = (l : ℕ) × (cell : CellContents) × IsLink d i l cell × (says_deleted cell.tag ≡ true)
