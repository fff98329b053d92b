-- The values of several places, by the names of the places
use Rattle.std.specs.Prelude.{ℕ, zero, suc, List, [], ◌∷◌}
use base.Stored.{Coded, coded×, coded_via}
use base.Fml.{Fml, ftrue, fsep}
use denote.RattleType.{RattleType}
use Rattle.sdd_bag.specs.KeyedPlaces.{PlaceName, name_coded, key_owns}

-- a place, by its name, and the value in it
pub record KeptValue (T : Type 0) : Type 0 where
  pub name : PlaceName
  pub value : T

abbrev pub kept_as : {T : Type 0} → PlaceName → T → KeptValue T
kept_as name value = record { name = name; value = value }

abbrev pub kept_coded : {T : Type 0} → Coded T → Coded (KeptValue T)
kept_coded {T = T} code =
    coded_via (coded× name_coded code) (λ (k : KeptValue T). (k.name, k.value)) (λ x y e i. record { name = (e i).0; value = (e i).1 })

-- what each name says, with the right to change it
abbrev pub keys_own : (R : RattleType) → List (KeptValue R.Denot) → Fml
keys_own R [] = ftrue
keys_own R (k ∷ ks) = fsep (key_owns R k.name k.value) (keys_own R ks)

module _ {A : Type 0} where
  -- this one stands at that index, before what stood there; behind all where there are fewer
  abbrev pub inserted : List A → ℕ → A → List A
  inserted [] at y = y ∷ []
  inserted (x ∷ xs) zero y = y ∷ x ∷ xs
  inserted (x ∷ xs) (suc at) y = x ∷ inserted xs at y

  -- what stood at that index is gone
  abbrev pub without_at : List A → ℕ → List A
  without_at [] at = []
  without_at (x ∷ xs) zero = xs
  without_at (x ∷ xs) (suc at) = x ∷ without_at xs at
