-- That an owner is given to a collector
use Rattle.std.specs.Prelude.{ℕ, ◌≡◌, ◌↔◌, IsTrue, Some}
use Rattle.sdd_participants.specs.declared.standing.Standing.TheVariants.{Owned, Shared}
use Rattle.sdd_world_model.specs.Slots.{IsSharedBy}
use Rattle.sdd_world_model.specs.Collecting.{collected, owner_collected}
use Rattle.sdd_world_model.specs.OwnerOrCell.{OwnerOrCell}
use Rattle.sdd_world_model.specs.OwnerOrCell as holding
use Rattle.sdd_world_model.specs.World.{World, standing_at}
use Rattle.sdd_script_text.specs.declared.answer.Reply.{Reply}
use Rattle.sdd_script_text.specs.declared.answer.Reply.TheVariants as reply
use Rattle.sdd_script_model.specs.Val.{Val}

-- p gives this owner to the collector, and its item waits for that if it was the last. Of a shared one it is told which
abbrev pub Collects : World Val → (p c : ℕ) → OwnerOrCell → Reply → World Val → Type 0
Collects w p c (holding.owned k home) reply.Done new = (standing_at w k ≡ Some Owned) × (new ≡ collected w p c k)
Collects w p c (holding.shared k home) (reply.Truth last) new =
    (owners : ℕ) × IsSharedBy owners (standing_at w k) × (IsTrue last ↔ (owners ≡ 1)) × (new ≡ owner_collected w p c k (Some (Shared owners)))
Collects w p c h given new = ⊥
