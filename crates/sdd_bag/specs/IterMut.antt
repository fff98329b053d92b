-- Where a cursor over a bag's values is, and what it leaves of the bag
use Rattle.std.specs.Prelude.{ℕ, ◌≡◌, ◌+◌, ◌^◌, ◌<◌, ◌≤◌, suc, List, [], Option, None, Some, IfSome, MatchOption, Result, drop, is_some, length, slice_get, slice_set, true}
use Rattle.std.specs.Borrow.{Fml, GName, LendsSo, MutBor, RattleType, RestsIfErr}
use mir.Syntax.{named}
use denote.Param.{value_of}
use Rattle.sdd_space.specs.CallerId.{CallerId, IsExact}
use Rattle.sdd_world_model.specs.World.{World}
use Rattle.sdd_lists.specs.declared.linked_entry.LinkedEntry.{LinkedEntry}
use Rattle.sdd_lists.specs.Iter.{GivesInOrder, IsIterOf, space_of}
use Rattle.sdd_lists.specs.Lists.{Entry}
use Rattle.sdd_lists.specs.Walk.{shown_of}
use Rattle.sdd_bag.specs.declared.iter_mut.IterMut.{IterMut}
use Rattle.sdd_bag.specs.contracts.bag.Bag as bag
use Rattle.sdd_bag.specs.contracts.iter_mut.IterMut as iter
use Rattle.sdd_bag.specs.Storage.{names_of, value_at}
use Rattle.sdd_bag.specs.Storages.{StorageName}
use Rattle.sdd_bag.specs.Overflow.{AreShelves, LiesOn, places_on}
use Rattle.sdd_bag.specs.Bag.{BagParts, HasSameCells, IsBag, primary_of, values_of}
use Rattle.sdd_bag.specs.Lent.{AreEmptyFrom, AwaitsValue}
use Rattle.sdd_bag.specs.Spots.{HasFirst, IsInOrder, StandsIn, places_of, start_behind, start_of, values_before, whole_at}

-- how many places of the storage where it is are passed
abbrev pub passed : {T : Type 0} → ℕ → Option T → ℕ
passed at None = at
passed at (Some v) = suc at

module _ {T B S : Type 0} {len : ℕ} where
  -- the reference to the bag, by its name
  abbrev pub bag_name : IterMut T len B S → GName
  bag_name it = it.bag.ghost_name

  -- the bag as the cursor leaves it: with the value in its place that it has lent
  abbrev pub whole : IterMut T len B S → BagParts T B
  whole it = whole_at it.behind it.gap it.at it.held it.bag.now

  -- how many values it has given
  abbrev pub given : IterMut T len B S → ℕ
  given it = values_before it.behind (passed it.at it.held) (whole it)

  -- the space that it looks at
  abbrev pub space_in : IterMut T len B S → S
  space_in it = space_of it.shelves

  -- the place where it is has a value
  pub record HasHere (it : IterMut T len B S) : Type 0 where
    pub inside : it.at < len
    pub full : is_some (value_at (places_of it.behind it.bag.now) (start_of it.behind + it.at)) ≡ true

  -- no place of the storage has a value, from that one on where it is
  abbrev pub IsPassed : IterMut T len B S → Type 0
  IsPassed it = AreEmptyFrom len (start_of it.behind) it.at (places_of it.behind it.bag.now)

  -- the value that is lent is out of its place
  pub record IsLent (it : IterMut T len B S) : Type 0 where
    pub inside : it.at < len
    pub few : start_of it.behind < 2 ^ 120
    pub awaits : AwaitsValue len it.gap (start_of it.behind + it.at) (places_of it.behind it.bag.now)

  module _ (shown : B → Option StorageName) (caller : S → CallerId) (world : S → World (LinkedEntry B)) where
    -- the storages that are left are on these entries
    pub record AreLeft (it : IterMut T len B S) (es : List (Entry (LinkedEntry B))) : Type 0 where
      pub shelves : AreShelves shown len (world (space_in it)) es
      pub gives : GivesInOrder (world (space_in it)) it.shelves (shown_of es)
      pub keys : names_of (drop (start_behind len it.behind) it.bag.now.overflow.places) ≡ places_on shown len es

    -- it goes over a bag that is in the world of its space, as soon as the value that is lent is back
    pub record IsCursor (it : IterMut T len B S) : Type 0 where
      pub bag : IsBag shown len (world (space_in it)) (whole it)
      pub order : IsInOrder len (whole it)
      pub exact : IsExact (caller (space_in it))
      pub can : IsIterOf (caller (space_in it)).home.slots it.shelves
      pub stands : StandsIn shown len it.behind it.bag.now
      pub first : HasFirst len it.behind (whole it)
      pub room : it.at ≤ len
      pub lent : IfSome it.held (λ v. IsLent it)
      pub left : (es : List (Entry (LinkedEntry B))) × AreLeft it es

    -- it has the same bag in the same space
    pub record HasSameBag (old new : IterMut T len B S) : Type 0 where
      pub bag : bag_name new ≡ bag_name old
      pub space : space_in new ≡ space_in old
      pub cursor : IsCursor new

    -- no value is lent, and it has given as many as before; the bag is the same
    pub record Rests (old new : IterMut T len B S) : Type 0 where
      pub same : HasSameBag old new
      pub none : new.held ≡ None
      pub bag : whole new ≡ whole old
      pub as_many : given new ≡ given old

    -- it has lent the value that is next, and will leave this one in its place; all else in the bag is as before
    pub record Lends (v w : T) (old new : IterMut T len B S) : Type 0 where
      pub same : HasSameBag old new
      pub one_more : given new ≡ suc (given old)
      pub was : slice_get (values_of (whole old)) (given old) ≡ Some v
      pub values : values_of (whole new) ≡ slice_set (values_of (whole old)) (given old) w
      pub inside : length (primary_of (whole new)) ≡ length (primary_of (whole old))
      pub cells : HasSameCells (whole old) (whole new)
      pub list : (es : List (Entry (LinkedEntry B))) → LiesOn shown len (world (space_in old)) es (whole old).overflow
          → LiesOn shown len (world (space_in old)) es (whole new).overflow

    -- it has given all values
    pub record Ends (old new : IterMut T len B S) : Type 0 where
      pub rests : Rests old new
      pub all : given old ≡ length (values_of (whole old))

-- where the bag's iterator is refused, the bag is as before
abbrev pub RestsIfRefused : (T N B : RattleType) → {S E : Type 0} → MutBor (BagParts T.Denot B.Denot)
    → Result (IterMut T.Denot (value_of N) B.Denot S) E → Fml
RestsIfRefused T N B b r = RestsIfErr (bag.the_row T N B) b bag_name r (λ n. n ≡ b.now)

-- what a cursor ends as, where a value is lent
abbrev pub LendsNext : (T N B S : RattleType) → (B.Denot → Option StorageName) → (S.Denot → CallerId) → (S.Denot → World (LinkedEntry B.Denot))
    → MutBor (IterMut T.Denot (value_of N) B.Denot S.Denot) → Option (MutBor T.Denot) → Fml
LendsNext T N B S shown caller world it r =
    LendsSo (iter.the_row (record { mir = named 1; lft = [] }) T N B S) T it r
    (λ n w. IfSome r (λ v. Lends shown caller world v.now w it.now n))
    (λ n. MatchOption r (Ends shown caller world it.now n) (λ v. Unit {0}))
