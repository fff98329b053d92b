-- That an item of a script is made, or refused
use Rattle.std.specs.Prelude.{ℕ, ◌≡◌, ◌∷◌, List, [], IsSome, None, Option, Some, slice_set}
use Rattle.sdd_core.specs.declared.refused.Refused.{Refused}
use Rattle.sdd_core.specs.declared.refused.Refused.TheVariants.{NoSlot, NoCell}
use Rattle.sdd_participants.specs.Slab.{IsEmptyAt, IsFull}
use Rattle.sdd_participants.specs.declared.standing.Standing.{Standing}
use Rattle.sdd_world_model.specs.OwnerOrCell.{OwnerOrCell}
use Rattle.sdd_world_model.specs.World.{World}
use Rattle.sdd_world_model.specs.WorldChanges.{made_as, nulled}
use Rattle.sdd_script_text.specs.declared.call.Value.{Value}
use Rattle.sdd_script_text.specs.declared.call.Value.TheVariants.{Number, Of}
use Rattle.sdd_script_model.specs.declared.val.Body.{Body}
use Rattle.sdd_script_model.specs.Val.{Val, body_of, owner_in, link_of, link_home}
use Rattle.sdd_script_model.specs.declared.val.Body.TheVariants as body
use Rattle.sdd_script_model.specs.ScriptState.{ScriptState, holding_at, slot_of}

-- what the line puts into an item is this
abbrev pub IsPutIn : ScriptState → Value → Body → Type 0
IsPutIn d (Number n) b = b ≡ body.Number n
IsPutIn d (Of o) b = (h : OwnerOrCell) × (holding_at d.owners o.0 ≡ Some h) × IsSome (slot_of (Some h)) × (owner_in b ≡ h ∷ [])

-- the owners that are left by what a line puts into an item: an owner that goes in is spent
abbrev pub owners_left : List (Option OwnerOrCell) → Value → List (Option OwnerOrCell)
owners_left owners (Number n) = owners
owners_left owners (Of o) = slice_set owners o.0 None

abbrev pub put_in : ScriptState → Value → ScriptState
put_in d value = record d { owners = owners_left d.owners value }

-- an entry with this value is in slot k, which was free, and stands so; its link is a cell that was free, whichever
pub record Makes (old : ScriptState) (value : Value) (s : Standing) (k : ℕ) (new : World Val) : Type 0 where
  pub cell : ℕ
  pub entry : Val
  pub free_cell : IsEmptyAt old.world.cells cell
  pub free_slot : IsEmptyAt old.world.standings k
  pub body : IsPutIn old value (body_of entry)
  pub link : link_of entry ≡ cell
  pub home : link_home entry ≡ old.world.home.cells
  pub made : new ≡ made_as (nulled old.world cell) k entry s

-- no cell is free, or else no slot
abbrev pub RefusesItem : World Val → Refused → Type 0
RefusesItem w NoCell = IsFull w.cells
RefusesItem w NoSlot = ¬ (IsFull w.cells) × IsFull w.standings
RefusesItem w other = ⊥
