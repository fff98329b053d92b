-- What a call leaves alone of the participant that calls
use Rattle.std.specs.Prelude.{ℕ, ◌≡◌}
use Rattle.sdd_participants.specs.declared.participant.Participant.{Participant}
use Rattle.sdd_space.specs.CallerId.{CallerId}
use Rattle.sdd_world_model.specs.KnownEpochs.{KnownEpochs, KnowsOn}
use Rattle.sdd_space.specs.Ptr.{KeepsShown}

module _ {S T : Type 0} (caller_of : S → CallerId) where
  -- it sits where it sat and forgets nothing, and each slot shows it what it showed; what it keeps of its own may change
  pub record Unmoved (known_of : S → KnownEpochs) (shows_of : S → ℕ → T → Type 0) (old new : S) : Type 0 where
    pub caller : caller_of new ≡ caller_of old
    pub known : KnowsOn (known_of old) (known_of new)
    pub shown : KeepsShown (shows_of old) (shows_of new)

  -- what it keeps of its own is as before, too
  pub record Undisturbed (own_of : S → Participant) (known_of : S → KnownEpochs) (shows_of : S → ℕ → T → Type 0) (old new : S) : Type 0 where
    pub caller : caller_of new ≡ caller_of old
    pub own : own_of new ≡ own_of old
    pub known : KnowsOn (known_of old) (known_of new)
    pub shown : KeepsShown (shows_of old) (shows_of new)
