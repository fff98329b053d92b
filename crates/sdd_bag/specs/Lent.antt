-- A value that is out of its place for as long as it is lent
use Rattle.std.specs.Prelude.{ℕ, ◌≡◌, ◌⊎◌, ◌+◌, ◌<◌, ◌≤◌, List, Option, None, Some, true, false, is_some, length, slice_get}
use Rattle.sdd_bag.specs.KeyedPlaces.{PlaceName}
use Rattle.sdd_bag.specs.Storage.{IsEmptyAt, KeptPlace, names_of, value_at, with_value_at}

module _ {T : Type 0} where
  -- the value is back in its place, and what lay there meanwhile is in the gap
  abbrev pub with_back : (gap at : ℕ) → T → List (KeptPlace T) → List (KeptPlace T)
  with_back gap at v ps = with_value_at (with_value_at ps gap (value_at ps at)) at (Some v)

  -- so are the places if a value is lent
  abbrev pub with_lent : (gap at : ℕ) → Option T → List (KeptPlace T) → List (KeptPlace T)
  with_lent gap at None ps = ps
  with_lent gap at (Some v) ps = with_back gap at v ps

  -- the gap is the first of the first so many places that has no value
  pub record IsGap (len gap : ℕ) (ps : List (KeptPlace T)) : Type 0 where
    pub near : gap < len
    pub empty : IsEmptyAt gap ps
    pub filled : (k : ℕ) → k < gap → is_some (value_at ps k) ≡ true

  -- a value of that place is out: the place is the gap, or the value that was in the gap lies there meanwhile
  pub record AwaitsValue (len gap at : ℕ) (ps : List (KeptPlace T)) : Type 0 where
    pub first : IsGap len gap ps
    pub there : (at ≡ gap) ⊎ (is_some (value_at ps at) ≡ true)

  -- this value of that place is taken out, to be lent
  pub record TakesOut (len gap at : ℕ) (v : T) (old new : List (KeptPlace T)) : Type 0 where
    pub was : value_at old at ≡ Some v
    pub awaits : AwaitsValue len gap at new
    pub back : (w : T) → with_back gap at w new ≡ with_value_at old at (Some w)

  -- the value in the last place of the first so many that has one is taken out
  pub record TakesLast (len gap : ℕ) (v : T) (old new : List (KeptPlace T)) : Type 0 where
    pub was : value_at old gap ≡ Some v
    pub first : IsGap len gap new
    pub now : new ≡ with_value_at old gap None

  -- the places with these names are those of an array, whose keys are those from the start on
  pub record IsArrayAt (len start : ℕ) (names : List PlaceName) (ps : List (KeptPlace T)) : Type 0 where
    pub long : length names ≡ len
    pub keys : (k : ℕ) (name : PlaceName) → slice_get names k ≡ Some name → slice_get (names_of ps) (start + k) ≡ Some name

  -- no place of that array has a value from that one on
  abbrev pub AreEmptyFrom : (len start at : ℕ) → List (KeptPlace T) → Type 0
  AreEmptyFrom len start at ps = (k : ℕ) → at ≤ k → k < len → is_some (value_at ps (start + k)) ≡ false
