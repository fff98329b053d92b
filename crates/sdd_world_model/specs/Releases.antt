-- What is so where an owner was given up
use Rattle.std.specs.Prelude.{ℕ, ◌≡◌, ◌↔◌, Bool, IsTrue, if◌then◌else◌}
use Rattle.sdd_rights.specs.declared.right.StandingKind.{StandingKind}
use Rattle.sdd_world_model.specs.Slots.{IsOwnedBy, has_others}
use Rattle.sdd_participants.specs.declared.waiting.LimboEntry.TheVariants.{Item}
use Rattle.sdd_participants.specs.declared.participant.Participant.{Participant}
use Rattle.sdd_participants.specs.EpochState.{awaiting}
use Rattle.sdd_world_model.specs.World.{World, standing_at}
use Rattle.sdd_world_model.specs.WorldChanges.{owner_given}

-- place p gave up an owner of this kind of the item in slot k, and was told whether it was the last: then the item waits with p
pub record Releases {T : Type 0} (old : World T) (p k : ℕ) (kind : StandingKind) (was_last : Bool) (new : World T) : Type 0 where
  pub owned : IsOwnedBy kind (standing_at old k)
  pub last : IsTrue was_last ↔ ¬ (IsTrue (has_others (standing_at old k)))
  pub world : new ≡ owner_given old p k (standing_at old k)

-- what the participant keeps of its own then
abbrev pub left_waiting : Bool → ℕ → Participant → Participant
left_waiting was_last k own = if was_last then awaiting (Item k) own else own
