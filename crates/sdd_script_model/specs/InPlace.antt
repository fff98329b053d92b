-- That a number is changed, or an item dropped, in its place, and an item that is out as raw
use Rattle.std.specs.Prelude.{ℕ, ◌≡◌, ◌-◌, ◌<◌, Some, true, false}
use Rattle.sdd_participants.specs.declared.standing.Standing.TheVariants.{Owned, Raw, Shared}
use Rattle.sdd_world_model.specs.Slots.{IsSharedBy}
use Rattle.sdd_world_model.specs.OwnerOrCell.{OwnerOrCell}
use Rattle.sdd_world_model.specs.OwnerOrCell as holding
use Rattle.sdd_world_model.specs.InPlace.{IsAlone}
use Rattle.sdd_world_model.specs.World.{World, AnyGuardOpen, standing_at, value_at}
use Rattle.sdd_world_model.specs.WorldChanges.{dropped, with_standing, with_value}
use Rattle.sdd_script_text.specs.declared.answer.Reply.{Reply}
use Rattle.sdd_script_text.specs.declared.answer.Reply.TheVariants as reply
use Rattle.sdd_script_model.specs.declared.val.Body.TheVariants.{Number}
use Rattle.sdd_script_model.specs.Val.{Val, body_of, Renumbers, holdings_of}
use Rattle.sdd_script_model.specs.ScriptState.{ScriptState, holding_at, slot_at, slot_of}

-- the name is that of an owner of a number
abbrev pub OwnsNumber : ScriptState → ℕ → Type 0
OwnsNumber d o =
    (k : ℕ) × (v : Val) × (number : ℕ) × (slot_of (holding_at d.owners o) ≡ Some k) × (value_at d.world k ≡ Some v) × (body_of v ≡ Number number)

-- the item in slot k has this number in place of the one that it had, and the same link
pub record Puts (old : World Val) (k number : ℕ) (new : World Val) : Type 0 where
  pub was : Val
  pub now : Val
  pub there : value_at old k ≡ Some was
  pub changed : Renumbers was number now
  pub put : new ≡ with_value old k now

-- p gives this owner up, and its item is dropped in its place if it was alone. Of a shared one it is told which
abbrev pub Drops : World Val → ℕ → OwnerOrCell → Reply → World Val → Type 0
Drops w p (holding.owned k home) reply.Done new = (standing_at w k ≡ Some Owned) × ¬ (AnyGuardOpen w) × (new ≡ dropped holdings_of w p k)
Drops w p (holding.shared k home) (reply.Truth true) new = (standing_at w k ≡ Some (Shared 1)) × ¬ (AnyGuardOpen w) × (new ≡ dropped holdings_of w p k)
Drops w p (holding.shared k home) (reply.Truth false) new =
    (owners : ℕ) × IsSharedBy owners (standing_at w k) × (1 < owners) × (new ≡ with_standing w k (Shared (owners - 1)))
Drops w p h given new = ⊥

-- it is alone, and a guard is open
abbrev pub RefusesDrop : World Val → OwnerOrCell → Type 0
RefusesDrop w h = (k : ℕ) × (slot_of (Some h) ≡ Some k) × IsAlone (standing_at w k) × AnyGuardOpen w

-- the item is out as raw
abbrev pub IsRaw : ScriptState → ℕ → Type 0
IsRaw d i = standing_at d.world (slot_at d i) ≡ Some Raw
