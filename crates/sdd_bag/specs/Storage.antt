-- What the keys of a bag's storages know of their places
use Rattle.std.specs.Prelude.{◌≡◌, ℕ, zero, suc, ◌*◌, ◌^◌, ◌<◌, ◌≤◌, true, false, List, [], ◌∷◌, ◌++◌, map, length, Option, None, Some, is_some, nat_lt}
use Rattle.core.specs.Mem.{manually_drop_value}
use Rattle.core.specs.declared.mem.ManuallyDrop.{ManuallyDrop}
use Rattle.sdd_bag.specs.KeyedPlaces.{PlaceName}
use Rattle.sdd_bag.specs.KeptValues.{KeptValue}

-- a place, and its value if it has one
pub record KeptPlace (T : Type 0) : Type 0 where
  pub name : PlaceName
  pub value : Option T

module _ {T : Type 0} where
  -- what the key of a place says
  abbrev pub kept_place : KeptValue (ManuallyDrop (Option T)) → KeptPlace T
  kept_place k = record { name = k.name; value = manually_drop_value k.value }

  -- the place without a value
  abbrev pub empty_place : PlaceName → KeptPlace T
  empty_place name = record { name = name; value = None }

  abbrev pub names_of : List (KeptPlace T) → List PlaceName
  names_of places = map (λ p. p.name) places

  -- the value of the place with that number, if there is such a place and it has one
  abbrev pub value_at : List (KeptPlace T) → ℕ → Option T
  value_at [] k = None
  value_at (p ∷ places) zero = p.value
  value_at (p ∷ places) (suc k) = value_at places k

  -- that place has this value now, or none
  abbrev pub with_value_at : List (KeptPlace T) → ℕ → Option T → List (KeptPlace T)
  with_value_at [] k value = []
  with_value_at (p ∷ places) zero value = record p { value = value } ∷ places
  with_value_at (p ∷ places) (suc k) value = p ∷ with_value_at places k value

  abbrev pub followed : Option T → List T → List T
  followed None values = values
  followed (Some value) values = value ∷ values

  -- the values in the places, in order
  abbrev pub values_in : List (KeptPlace T) → List T
  values_in [] = []
  values_in (p ∷ places) = followed p.value (values_in places)

  -- this place has no value
  pub record IsEmptyAt (at : ℕ) (places : List (KeptPlace T)) : Type 0 where
    pub inside : at < length places
    pub empty : value_at places at ≡ None

  -- this place has this value
  pub record IsFullWith (value : T) (at : ℕ) (places : List (KeptPlace T)) : Type 0 where
    pub inside : at < length places
    pub full : value_at places at ≡ Some value

  -- each of the first so many places has a value, where there are so many
  abbrev pub AreFull : ℕ → List (KeptPlace T) → Type 0
  AreFull len places = (k : ℕ) → k < len → k < length places → is_some (value_at places k) ≡ true

  -- each place behind the first so many has a value
  abbrev pub AreFullBehind : ℕ → List (KeptPlace T) → Type 0
  AreFullBehind len places = (k : ℕ) → len ≤ k → k < length places → is_some (value_at places k) ≡ true

  -- none of the first so many places has a value
  abbrev pub AreEmpty : ℕ → List (KeptPlace T) → Type 0
  AreEmpty len places = (k : ℕ) → k < len → is_some (value_at places k) ≡ false

  -- the places of the array are the first of these
  abbrev pub StandInFront : List PlaceName → List (KeptPlace T) → Type 0
  StandInFront names places = (rest : List PlaceName) × (names_of places ≡ names ++ rest)

  -- so many of the first places have a value, and none of the others of the first array, where the places are those of so many arrays, and those of all
  -- arrays but the first are full
  pub record AreCounted (len count arrays : ℕ) (places : List (KeptPlace T)) : Type 0 where
    pub some : 0 < len
    pub fits : len ≤ 32
    pub few : arrays < 2 ^ 96
    pub size : length places ≡ arrays * len
    pub most : count ≤ len
    pub counted : (k : ℕ) → k < len → nat_lt k count ≡ is_some (value_at places k)
    pub behind : AreFullBehind len places
