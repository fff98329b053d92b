-- What work leaves of guards and owners
use Rattle.std.specs.Prelude.{ℕ, ◌≡◌, Some}
use Rattle.sdd_core.specs.declared.tag.Tag.{Tag}
use Rattle.sdd_participants.specs.Slab.{entry_at}
use Rattle.sdd_participants.specs.declared.participant.Participant.{Participant}
use Rattle.sdd_world_model.specs.Out.{out}
use Rattle.sdd_space.specs.CallerId.{CallerId, IsExact}
use Rattle.sdd_world_model.specs.World.{World}

-- the caller sits where it sat, as many guards of it are open as before, and as much is out, where the space says so exactly
pub record Leaves {T : Type 0} (s : CallerId) (p : Participant) (old : World T) (r : CallerId) (q : Participant) (new : World T) : Type 0 where
  pub caller : r ≡ s
  pub guards : q.guards ≡ p.guards
  pub kept : IsExact s → out new ≡ out old

-- a cell holds an owner
abbrev pub IsFilled : {T : Type 0} → World T → ℕ → Type 0
IsFilled w c = (slot : ℕ) × (tag : Tag) × (entry_at w.cells c ≡ Some (record { held = Some slot; tag = tag }))
