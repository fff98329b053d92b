-- What a call makes of what the calling participant keeps of its own, in every space
use Rattle.std.specs.Prelude.{ℕ, ◌-◌, ◌==◌, ◌≡◌, Bool, List, [], ◌∷◌, Option, Some, None, ◌≢◌, nat_lt, if◌then◌else◌}
use Rattle.sdd_participants.specs.Waiting.{Waiting}
use Rattle.sdd_participants.specs.Collecting.{without}
use Rattle.sdd_participants.specs.declared.waiting.LimboEntry.{LimboEntry}
use Rattle.sdd_participants.specs.declared.waiting.LimboEntry.TheVariants.{Item}
use Rattle.sdd_participants.specs.EpochState.{is_open, nested, rotated, settled, awaiting, adopting, due_next, counted_down}
use Rattle.sdd_participants.specs.declared.participant.Participant.{Participant}

-- the items in these slots wait from now on, one after another
abbrev pub all_awaiting : List ℕ → Participant → Participant
all_awaiting [] p = p
all_awaiting (k ∷ ks) p = all_awaiting ks (awaiting (Item k) p)

-- it is start, but that items in some slots wait as well
abbrev pub HasMoreWaiting : Participant → Participant → Type 0
HasMoreWaiting start p = (given : List ℕ) × (p ≡ all_awaiting given start)

-- whatever old has grown from, new has grown from: some items more may wait, and nothing else has changed
abbrev pub KeepsMoreWaiting : Participant → Participant → Type 0
KeepsMoreWaiting old new = (start : Participant) → HasMoreWaiting start old → HasMoreWaiting start new

-- a change at this count: what has then seen three is gone, and what that gave up, in these slots, waits; then it is decided whether anything waits
abbrev pub changed_at : ℕ → List ℕ → Participant → Participant
changed_at count given p = settled (all_awaiting given (rotated count p))

-- one guard more is open; an outermost opening at this count is a change if the participant found another before
abbrev pub opened_at : ℕ → List ℕ → Participant → Participant
opened_at count given p =
    if is_open p then nested p else (if p.found == count then nested p else changed_at count given (nested p))

-- one guard less is open; the last one counts down, with the ended mark as it is found. Without an open one nothing happens
abbrev pub closed_with : Bool → Participant → Participant
closed_with marked p =
    if nat_lt 1 p.guards then record p { guards = p.guards - 1 }
    else (if is_open p then record p { guards = 0; countdown = counted_down marked p.countdown } else p)

-- what a cell held waits
abbrev pub spilled : Option ℕ → Participant → Participant
spilled None p = p
spilled (Some k) p = awaiting (Item k) p

-- an opening made new of old: it found a count, and where something was due, items in some slots were given up
pub record GuardOpened (old new : Participant) : Type 0 where
  pub count : ℕ
  pub given : List ℕ
  pub own : new ≡ opened_at count given old
  pub from_due : due_next old ≡ [] → given ≡ []

-- a close of a guard made new of old, with the ended mark as it was found; only a scan may have adopted what others left
pub record GuardClosed (old new : Participant) : Type 0 where
  pub marked : Bool
  pub left : List Waiting
  pub own : new ≡ closed_with marked (adopting left old)
  pub scans : left ≢ [] → (old.guards ≡ 1) × (old.countdown ≡ 0)

-- a close of a collector made new of old: what was chosen of what waited is gone, and what that gave up, in these slots, waits
pub record IsCollected (old new : Participant) : Type 0 where
  pub chosen : LimboEntry → Bool
  pub given : List ℕ
  pub own : new ≡ all_awaiting given (without chosen old)

-- a close of a cell made new of old: as before, or one item more waits
abbrev pub HasContentsGivenUp : Participant → Participant → Type 0
HasContentsGivenUp old new = (held : Option ℕ) × (new ≡ spilled held old)
