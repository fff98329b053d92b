-- What a participant knows of the count of epochs
use Rattle.std.specs.Prelude.{ℕ, ◌+◌, ◌^◌, ◌<◌, ◌≤◌, ◌≡◌, ◌≢◌, ◌⊎◌, IsTrue}
use Rattle.sdd_participants.specs.EpochState.{is_open}
use Rattle.sdd_participants.specs.declared.participant.Participant.{Participant}

pub record KnownEpochs : Type 0 where
  -- the greatest count that it was told
  pub told : ℕ
  -- while a guard of it is open, the count of epochs is this one or the next
  pub since : ℕ

-- of which nothing is told, where the count doesn't move
abbrev pub nothing_told : KnownEpochs
nothing_told = record { told = 0; since = 0 }

-- it forgets nothing, and what holds while its guard is open goes on to hold
pub record KnowsOn (old new : KnownEpochs) : Type 0 where
  pub told : old.told ≤ new.told
  pub since : new.since ≡ old.since

-- an outermost opening found this count
pub record KnowsFound (old : KnownEpochs) (found : ℕ) (new : KnownEpochs) : Type 0 where
  pub known : old.told ≤ found
  pub told : found ≤ new.told
  pub since : found ≤ new.since
  -- what it was told last is the count at its publish, or the next
  pub near : new.told ≤ new.since + 1

-- an opening, by which this participant became that one
pub record KnowsOpened (old : KnownEpochs) (p q : Participant) (new : KnownEpochs) : Type 0 where
  pub inner : IsTrue (is_open p) → KnowsOn old new
  pub outermost : ¬ (IsTrue (is_open p)) → KnowsFound old q.found new

-- a close, after which the participant is this one; it is told of no count past the one next to since
pub record KnowsClosed (old new : KnownEpochs) (q : Participant) : Type 0 where
  pub told : old.told ≤ new.told
  pub near : old.told ≤ old.since + 1 → new.told ≤ old.since + 1
  pub inner : IsTrue (is_open q) → new.since ≡ old.since

-- the count that it was told last is the one at the publish of its open guard, or the next
abbrev pub IsNear : Participant → KnownEpochs → Type 0
IsNear p k = IsTrue (is_open p) → (k.since ≤ k.told) × (k.told ≤ k.since + 1)

-- where nobody else raises the count, a close of this participant does, if its last guard was open at countdown 0 and the count isn't the last
pub record IsRaisedBy (p : Participant) (old new : ℕ) : Type 0 where
  pub raised : p.guards ≡ 1 → p.countdown ≡ 0 → old + 1 < 2 ^ 64 → new ≡ old + 1
  pub last : p.guards ≡ 1 → p.countdown ≡ 0 → old + 1 ≡ 2 ^ 64 → new ≡ old
  pub quiet : (p.guards ≢ 1) ⊎ (p.countdown ≢ 0) → new ≡ old
