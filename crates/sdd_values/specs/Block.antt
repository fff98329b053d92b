-- What a block of values owns: each value lies there plain, or is shared for a lifetime, of whose token each reader has a fraction.
use Rattle.std.specs.Prelude.{◌≡◌, ◌⊎◌, ℕ, ◌+◌, ◌-◌, ◌*◌, ◌^◌, ◌<◌, Option, None, Some, List, [], ◌∷◌, length, map, replicate, slice_index_or, slice_set}
use mathlib.Core.Path.{ap, refl, sym, subst}
use base.Fraction.{full_share}
use base.FractionLaws.{Counts}
use base.Stored.{Coded, coded_ℕ, coded_list, coded_via}
use base.Fml.{Lft, Share, Fml, ftrue, fsep, fex, flent, flft, fshr_bor}
use denote.RattleType.{RattleType}
use denote.Memory.{mem}
use denote.RawPtr.{Ptr, block_ptr, block_of, count_of, InBlock, lies_at}
use denote.Sharing.{nothing, said, one, beside, some}
use denote.Struct.Lending.{lent_at}
use Rattle.atomic_table.specs.Seated.{fact}
use Rattle.sdd_rights.specs.Units.{tokens}

-- ---- fractions
-- a fraction is home, or lent to a section
abbrev listed : Option ℕ → List ℕ
listed None = []
listed (Some t) = t ∷ []

abbrev IsNil : List ℕ → Type 0
IsNil [] = Unit {0}
IsNil (t ∷ ts) = ⊥

abbrev pub fraction_coded : Coded (Option ℕ)
fraction_coded = coded_via (coded_list coded_ℕ) listed same
  where
    same : (x y : Option ℕ) → listed x ≡ listed y → x ≡ y
    same None None e = refl
    same None (Some t) e = absurd (subst IsNil e tt)
    same (Some t) None e = absurd (subst IsNil (sym e) tt)
    same (Some t) (Some u) e = ap (λ (ts : List ℕ). Some (slice_index_or ts 0 0)) e

abbrev pub fractions_coded : Coded (List (List (Option ℕ)))
fractions_coded = coded_list (coded_list fraction_coded)

-- all of a value's fractions are home
abbrev pub AreUnlent : List (Option ℕ) → Type 0
AreUnlent [] = Unit {0}
AreUnlent (None ∷ fractions) = AreUnlent fractions
AreUnlent (Some t ∷ fractions) = ⊥

-- the fraction of a reader in a value
abbrev pub fraction_at : List (List (Option ℕ)) → ℕ → ℕ → Option ℕ
fraction_at fractions at reader = slice_index_or (slice_index_or fractions at []) reader None

-- no fraction of a value is lent
abbrev pub IsUnlent : List (List (Option ℕ)) → ℕ → Type 0
IsUnlent fractions at = (reader : ℕ) → fraction_at fractions at reader ≡ None

-- a fraction that may be lent to the section t, or is
abbrev pub IsFreeFor : ℕ → Option ℕ → Type 0
IsFreeFor t fraction = (fraction ≡ None) ⊎ (fraction ≡ Some t)

-- the fraction of a reader in a value is lent to the section t
abbrev pub lent : ℕ → ℕ → ℕ → List (List (Option ℕ)) → List (List (Option ℕ))
lent at reader t fractions = slice_set fractions at (slice_set (slice_index_or fractions at []) reader (Some t))

-- whatever fraction is lent, of the value at, by the reader, to the section t, is so
abbrev pub AllLent : (ℕ → ℕ → ℕ → Type 0) → List (List (Option ℕ)) → Type 0
AllLent IsSo fractions = (at reader t : ℕ) → fraction_at fractions at reader ≡ Some t → IsSo at reader t

-- all fractions of a reader are home
abbrev pub settled : ℕ → List (List (Option ℕ)) → List (List (Option ℕ))
settled reader fractions = map (λ row. slice_set row reader None) fractions

-- no fraction is lent, of n values and as many readers
abbrev pub unlent : ℕ → ℕ → List (List (Option ℕ))
unlent values readers = replicate values (replicate readers None)

-- ---- what they own
-- while the section t lasts, so does the lifetime a
abbrev pub lasts_in : ℕ → ℕ → Fml
lasts_in t a = fshr_bor (t ∷ []) (λ q. flft (a ∷ []) q)

-- what comes back when the section t has ended: one unit of the token of the lifetime a
abbrev pub owed : ℕ → ℕ → Fml
owed t a = fex Share (λ e. fex (Counts 63 e 1) (λ _. flent (t ∷ []) (flft (a ∷ []) e)))

-- a fraction of the lifetime a
abbrev pub fraction : ℕ → Option ℕ → Fml
fraction a None = tokens a 1
fraction a (Some t) = fsep (lasts_in t a) (owed t a)

abbrev pub fractions_of : ℕ → List (Option ℕ) → Fml
fractions_of a [] = ftrue
fractions_of a (s ∷ fractions) = fsep (fraction a s) (fractions_of a fractions)

-- the units of a lifetime that no reader has
abbrev pub rest : List (Option ℕ) → ℕ
rest fractions = 2 ^ 63 - length fractions

module _ (R : RattleType) (p : Ptr) (x : R.Denot) where
  -- the value is shared for the lifetime a, and comes back after it
  abbrev pub shared : ℕ → Fml
  shared a = fsep (lent_at R p x (a ∷ [])) (flent (a ∷ []) (lies_at R full_share p x))

  -- the value lies there plain, and no fraction is lent; or it is shared for a lifetime
  abbrev pub held : List (Option ℕ) → Option ℕ → Fml
  held fractions None = fsep (lies_at R full_share p x) (fact (AreUnlent fractions))
  held fractions (Some a) = fsep (shared a) (fsep (tokens a (rest fractions)) (fractions_of a fractions))

  abbrev pub spot : List (Option ℕ) → Fml
  spot fractions = fsep (fex (Option ℕ) (held fractions)) (fact (length fractions < 2 ^ 63))

  -- what a `&` has of it
  abbrev pub held_shares : Option ℕ → Lft → Fml
  held_shares None = lent_at R p x
  held_shares (Some a) = beside (said (lent_at R p x (a ∷ []))) (one (λ q. flft (a ∷ []) q))

  abbrev pub spot_shares : Lft → Fml
  spot_shares = some (Option ℕ) held_shares

module _ (R : RattleType) (b : ℕ) where
  abbrev pub spots : ℕ → List R.Denot → List (List (Option ℕ)) → Fml
  spots o [] ss = ftrue
  spots o (x ∷ xs) [] = ftrue
  spots o (x ∷ xs) (s ∷ ss) = fsep (spot R (block_ptr b o) x s) (spots (o + (mem R).size) xs ss)

  abbrev pub spots_shares : ℕ → List R.Denot → List (List (Option ℕ)) → Lft → Fml
  spots_shares o [] ss = nothing
  spots_shares o (x ∷ xs) [] = nothing
  spots_shares o (x ∷ xs) (s ∷ ss) = beside (spot_shares R (block_ptr b o) x) (spots_shares (o + (mem R).size) xs ss)

-- where the block lies: its size is one of memory, and there are fractions for each value
abbrev pub IsBlockAt : (R : RattleType) → Ptr → List R.Denot → List (List (Option ℕ)) → Type 0
IsBlockAt R p xs ss = InBlock p × (length xs * (mem R).size < 2 ^ 63) × (length ss ≡ length xs)

abbrev pub block_owns : (R : RattleType) → Ptr → List R.Denot → List (List (Option ℕ)) → Fml
block_owns R p xs ss = fsep (fact (IsBlockAt R p xs ss)) (spots R (block_of p) (count_of p) xs ss)

abbrev pub block_shares : (R : RattleType) → Ptr → List R.Denot → List (List (Option ℕ)) → Lft → Fml
block_shares R p xs ss = beside (said (fact (IsBlockAt R p xs ss))) (spots_shares R (block_of p) (count_of p) xs ss)
