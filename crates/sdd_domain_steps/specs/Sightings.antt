-- What a search saw
use Rattle.std.specs.Prelude.{◌≡◌, ◌⊎◌, ℕ, ◌<◌, ◌≤◌, Bool, List, Option, None, IsSome, length, slice_index_or}
use base.Stored.{Gv}
use Rattle.sdd_core.specs.declared.refused.Refused.{Refused}
use Rattle.sdd_core.specs.declared.refused.Refused.TheVariants.{Contended}

-- some numbers, each of which is marked or not
abbrev pub Marks : Type 0
Marks = List (Option (Bool × Gv))

abbrev pub IsMarked : Marks → ℕ → Type 0
IsMarked marks k = IsSome (slice_index_or marks k None)

-- what was marked is marked
pub record KeepsMarks (old new : Marks) : Type 0 where
  pub size : length new ≡ length old
  pub marked : (k : ℕ) → IsMarked old k → IsMarked new k

-- which numbers were found taken, and which exchanges were lost of those that might be
pub record Seen : Type 0 where
  pub taken : Marks
  pub lost : Marks

-- each number from one up to another one was found taken
abbrev pub AreSeenTaken : ℕ → ℕ → Seen → Type 0
AreSeenTaken from to seen = (k : ℕ) → from ≤ k → k < to → IsMarked seen.taken k

-- something was
abbrev pub IsAnyTaken : Seen → Type 0
IsAnyTaken seen = (k : ℕ) × IsMarked seen.taken k

-- so many exchanges were lost
abbrev pub AreSeenLost : ℕ → Seen → Type 0
AreSeenLost tries seen = (k : ℕ) → k < tries → IsMarked seen.lost k

-- a search that may lose so many exchanges more
pub record Searching : Type 0 where
  pub left : ℕ
  pub seen : Seen

-- it is the same search, which has seen no less
pub record SearchesOn (old new : Searching) : Type 0 where
  pub taken : KeepsMarks old.seen.taken new.seen.taken
  pub tries : length new.seen.lost ≡ length old.seen.lost

-- it lost each exchange that it might
abbrev pub IsOver : Searching → Type 0
IsOver s = AreSeenLost (length s.seen.lost) s.seen

-- why it found none: it found each number taken from one up to another one, or it lost as many exchanges as it might
abbrev pub Explains : Refused → ℕ → ℕ → ℕ → Refused → Seen → Type 0
Explains none from to tries why seen = ((why ≡ none) × AreSeenTaken from to seen) ⊎ ((why ≡ Contended) × AreSeenLost tries seen)
