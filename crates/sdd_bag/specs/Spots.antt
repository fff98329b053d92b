-- Where a cursor is in a bag
use Rattle.std.specs.Prelude.{ℕ, ◌≡◌, ◌⊎◌, ◌+◌, ◌<◌, ◌≤◌, List, Option, None, Some, is_some, length, take, true}
use Rattle.sdd_bag.specs.declared.behind.Behind.{Behind}
use Rattle.sdd_bag.specs.Storage.{AreEmpty, KeptPlace, StandInFront, value_at, values_in}
use Rattle.sdd_bag.specs.Storages.{StorageName}
use Rattle.sdd_bag.specs.Bag.{BagParts, primary_of}
use Rattle.sdd_bag.specs.Lent.{IsArrayAt, with_lent}

module _ {B : Type 0} where
  -- the number of the first key of the storage where it is
  abbrev pub start_of : Option (Behind B) → ℕ
  start_of None = 0
  start_of (Some b) = b.start

  -- and of the one that is next, where each has n places
  abbrev pub start_behind : ℕ → Option (Behind B) → ℕ
  start_behind n None = 0
  start_behind n (Some b) = b.start + n

  -- the shelf of the first storage behind the bag's own; this one, where it goes to the first one
  abbrev pub first_of : Option (Behind B) → B → B
  first_of None here = here
  first_of (Some b) here = b.first.now

  -- it is in the storage on this shelf, which is next behind that where it was
  pub record GoesOn (n : ℕ) (old : Option (Behind B)) (shelf : B) (b : Behind B) : Type 0 where
    pub here : b.here.now ≡ shelf
    pub start : b.start ≡ start_behind n old
    pub first : b.first.now ≡ first_of old shelf

  module _ {T : Type 0} where
    -- the places among which it is: the bag's own, or all the others
    abbrev pub places_of : Option (Behind B) → BagParts T B → List (KeptPlace T)
    places_of None bag = bag.primary.places
    places_of (Some b) bag = bag.overflow.places

    -- the bag with these for them
    abbrev pub with_places : Option (Behind B) → List (KeptPlace T) → BagParts T B → BagParts T B
    with_places None ps bag = record bag { primary = record bag.primary { places = ps } }
    with_places (Some b) ps bag = record bag { overflow = record bag.overflow { places = ps } }

    -- the bag with the lent value back in its place, if one is lent
    abbrev pub whole_at : Option (Behind B) → (gap at : ℕ) → Option T → BagParts T B → BagParts T B
    whole_at b gap at held bag = with_places b (with_lent gap (start_of b + at) held (places_of b bag)) bag

    -- how many values the bag has before these places
    abbrev pub before_these : Option (Behind B) → BagParts T B → ℕ
    before_these None bag = 0
    before_these (Some b) bag = length (primary_of bag)

    -- how many values the bag has before the n-th place of the storage
    abbrev pub values_before : Option (Behind B) → ℕ → BagParts T B → ℕ
    values_before b n bag = before_these b bag + length (values_in (take (start_of b + n) (places_of b bag)))

    module _ (shown : B → Option StorageName) (len : ℕ) where
      -- both shelves show their storages, of whose places these are the keys
      pub record IsAmong (b : Behind B) (places : List (KeptPlace T)) : Type 0 where
        pub first : StorageName
        pub shown_first : shown b.first.now ≡ Some first
        pub front : StandInFront first.places places
        pub here : StorageName
        pub shown_here : shown b.here.now ≡ Some here
        pub array : IsArrayAt len b.start here.places places
        pub start : (b.start ≡ 0) ⊎ (len ≤ b.start)

      -- it is in the bag's own storage, or in one behind that
      abbrev pub StandsIn : Option (Behind B) → BagParts T B → Type 0
      StandsIn None bag = Unit {0}
      StandsIn (Some b) bag = IsAmong b bag.overflow.places

    -- its own array has so many places, and the first place of the first one behind has a value if any of its places has
    pub record IsInOrder (len : ℕ) (bag : BagParts T B) : Type 0 where
      pub some : 0 < len
      pub long : length bag.primary.places ≡ len
      pub fills : ¬ (AreEmpty len bag.overflow.places) → is_some (value_at bag.overflow.places 0) ≡ true

    -- the first storage behind the bag's own has a value, if it is in one of these
    abbrev pub HasFirst : ℕ → Option (Behind B) → BagParts T B → Type 0
    HasFirst len None bag = Unit {0}
    HasFirst len (Some b) bag = ¬ (AreEmpty len bag.overflow.places)
