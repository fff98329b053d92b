-- The bag that a cursor leaves, with another value where one was lent
use Rattle.std.proofs.Common.{◌≡◌, ℕ, suc, ◌+◌, List, ◌++◌, Option, Some, None, drop, length, take, slice_get, slice_set, refl, sym, ap, ◌∙◌, arith}
use Rattle.sdd_bag.specs.declared.behind.Behind.{Behind}
use Rattle.sdd_bag.specs.KeyedPlaces.{PlaceName}
use Rattle.sdd_bag.specs.Storage.{KeptPlace, names_of, value_at, values_in, with_value_at}
use Rattle.sdd_bag.specs.Storages.{StorageName}
use Rattle.sdd_bag.specs.Overflow.{LiesOn}
use Rattle.sdd_bag.specs.Bag.{BagParts, HasSameCells, IsBag, overflow_of, primary_of, values_of}
use Rattle.sdd_bag.specs.Lent.{TakesOut}
use Rattle.sdd_bag.specs.Spots.{HasFirst, IsInOrder, StandsIn, places_of, start_of, values_before, whole_at, with_places}
use Rattle.sdd_world_model.specs.World.{World}
use Rattle.sdd_lists.specs.declared.linked_entry.LinkedEntry.{LinkedEntry}
use Rattle.sdd_lists.specs.Lists.{Entry}
use Rattle.sdd_bag.proofs.Changing.{some-kept}
use Rattle.sdd_bag.proofs.LentValues.{array-kept}
use Rattle.sdd_bag.proofs.InsertedKeys.{get-front, map-drop}
use Rattle.sdd_bag.proofs.Lent.{lies-lent}
use Rattle.sdd_bag.proofs.ValuesByNumber.{get-behind, number-next, number-now, number-was, set-behind, set-front, set-long}
use Rattle.sdd_bag.proofs.Prefixes.{with-length}
use Rattle.sdd_bag.proofs.Values.{names-same}

module _ {T B : Type 0} where
  -- the bag with another value in this place
  abbrev pub with_at : (b : Option (Behind B)) (i : ℕ) (w : T) → BagParts T B → BagParts T B
  with_at b i w bag = with_places b (with_value_at (places_of b bag) i (Some w)) bag

  with-over : (b : Option (Behind B)) (ps qs : List (KeptPlace T)) (bag : BagParts T B) → with_places b ps (with_places b qs bag) ≡ with_places b ps bag
  with-over None ps qs bag = refl
  with-over (Some b) ps qs bag = refl

  -- what is lent leaves the bag with the new value in its place
  pub whole-lent : (b : Option (Behind B)) (len gap at : ℕ) (v w : T) (bag new : BagParts T B) → new ≡ with_places b (places_of b new) bag
      → TakesOut len gap (start_of b + at) v (places_of b bag) (places_of b new) → whole_at b gap at (Some w) new ≡ with_at b (start_of b + at) w bag
  whole-lent b len gap at v w bag new rest out =
      ap (λ (ps : List (KeptPlace T)). with_places b ps new) (out.back w)
      ∙ ap (λ (n : BagParts T B). with_places b (with_value_at (places_of b bag) (start_of b + at) (Some w)) n) rest
      ∙ with-over b (with_value_at (places_of b bag) (start_of b + at) (Some w)) (places_of b new) bag

  pub names-behind : (b : Option (Behind B)) (bag new : BagParts T B) → new ≡ with_places b (places_of b new) bag
      → names_of (places_of b new) ≡ names_of (places_of b bag) → names_of new.overflow.places ≡ names_of bag.overflow.places
  names-behind None bag new rest names = ap (λ (n : BagParts T B). names_of n.overflow.places) rest
  names-behind (Some b) bag new rest names = names

  pub names-left : (bag new : BagParts T B) (n : ℕ) → names_of new.overflow.places ≡ names_of bag.overflow.places
      → names_of (drop n new.overflow.places) ≡ names_of (drop n bag.overflow.places)
  names-left bag new n names =
      map-drop (λ (p : KeptPlace T). p.name) n new.overflow.places ∙ ap (λ (ns : List PlaceName). drop n ns) names
      ∙ sym (map-drop (λ (p : KeptPlace T). p.name) n bag.overflow.places)

  pub stands-kept : (shown : B → Option StorageName) (len : ℕ) (b : Option (Behind B)) (bag new : BagParts T B)
      → names_of new.overflow.places ≡ names_of bag.overflow.places → StandsIn shown len b bag → StandsIn shown len b new
  stands-kept shown len None bag new names stands = tt
  stands-kept shown len (Some b) bag new names stands = record {
    first = stands.first;
    shown_first = stands.shown_first;
    front = (stands.front.0, names ∙ stands.front.1);
    here = stands.here;
    shown_here = stands.shown_here;
    array = array-kept len b.start stands.here.places bag.overflow.places new.overflow.places names stands.array;
    start = stands.start;
  }

  module _ (i : ℕ) (v w : T) (bag : BagParts T B) where
    abbrev Is : Option (Behind B) → Type 0
    Is b = value_at (places_of b bag) i ≡ Some v

    pub at-was : (b : Option (Behind B)) (at : ℕ) → i ≡ start_of b + at → Is b → slice_get (values_of bag) (values_before b at bag) ≡ Some v
    at-was None at is there =
        let n = length (values_in (take i bag.primary.places)) in
        let same : values_before None at bag ≡ n =
        omega (arith, ap (λ (j : ℕ). length (values_in (take j bag.primary.places))) is) in
        ap (λ (k : ℕ). slice_get (values_of bag) k) same
        ∙ get-front (primary_of bag) (overflow_of bag) n v (number-was bag.primary.places i v there)
    at-was (Some b) at is there =
        let n = length (values_in (take i bag.overflow.places)) in
        let same : values_before (Some b) at bag ≡ length (primary_of bag) + n =
        omega (arith, ap (λ (j : ℕ). length (values_in (take j bag.overflow.places))) is) in
        ap (λ (k : ℕ). slice_get (values_of bag) k) same ∙ get-behind (primary_of bag) (overflow_of bag) n ∙ number-was bag.overflow.places i v there

    pub at-now : (b : Option (Behind B)) (at : ℕ) → i ≡ start_of b + at → Is b
        → values_of (with_at b i w bag) ≡ slice_set (values_of bag) (values_before b at bag) w
    at-now None at is there =
        let n = length (values_in (take i bag.primary.places)) in
        let same : values_before None at bag ≡ n =
        omega (arith, ap (λ (j : ℕ). length (values_in (take j bag.primary.places))) is) in
        ap (λ (vs : List T). vs ++ overflow_of bag) (number-now bag.primary.places i v w there)
        ∙ sym (set-front (primary_of bag) (overflow_of bag) n v w (number-was bag.primary.places i v there))
        ∙ ap (λ (k : ℕ). slice_set (values_of bag) k w) (sym same)
    at-now (Some b) at is there =
        let n = length (values_in (take i bag.overflow.places)) in
        let same : values_before (Some b) at bag ≡ length (primary_of bag) + n =
        omega (arith, ap (λ (j : ℕ). length (values_in (take j bag.overflow.places))) is) in
        ap (λ (vs : List T). primary_of bag ++ vs) (number-now bag.overflow.places i v w there)
        ∙ sym (set-behind (primary_of bag) (overflow_of bag) n w) ∙ ap (λ (k : ℕ). slice_set (values_of bag) k w) (sym same)

    pub at-next : (b : Option (Behind B)) (at : ℕ) → i ≡ start_of b + at → Is b
        → values_before b (suc at) (with_at b i w bag) ≡ suc (values_before b at bag)
    at-next None at is there =
        let next : 0 + suc at ≡ suc i = omega (arith, is) in
        omega (
          arith,
          ap (λ (j : ℕ). length (values_in (take j (with_value_at bag.primary.places i (Some w))))) next,
          number-next bag.primary.places i v w there,
          ap (λ (j : ℕ). length (values_in (take j bag.primary.places))) is,
        )
    at-next (Some b) at is there =
        let next : b.start + suc at ≡ suc i = omega (arith, is) in
        omega (
          arith,
          ap (λ (j : ℕ). length (values_in (take j (with_value_at bag.overflow.places i (Some w))))) next,
          number-next bag.overflow.places i v w there,
          ap (λ (j : ℕ). length (values_in (take j bag.overflow.places))) is,
        )

    pub at-inside : (b : Option (Behind B)) → Is b → length (primary_of (with_at b i w bag)) ≡ length (primary_of bag)
    at-inside None there =
        ap length (number-now bag.primary.places i v w there)
        ∙ set-long (primary_of bag) (length (values_in (take i bag.primary.places))) w
    at-inside (Some b) there = refl

    pub at-cells : (b : Option (Behind B)) → HasSameCells bag (with_at b i w bag)
    at-cells None = record { storage = refl; stack = refl }
    at-cells (Some b) = record { storage = refl; stack = refl }

    pub at-first : (len : ℕ) (b : Option (Behind B)) → Is b → HasFirst len b bag → HasFirst len b (with_at b i w bag)
    at-first len None there has = tt
    at-first len (Some b) there has = λ none. has (λ k near. sym (some-kept bag.overflow.places i v w there k) ∙ none k near)

    pub at-order : (len : ℕ) (b : Option (Behind B)) → Is b → IsInOrder len bag → IsInOrder len (with_at b i w bag)
    at-order len None there is = record { some = is.some; long = with-length bag.primary.places i (Some w) ∙ is.long; fills = is.fills }
    at-order len (Some b) there is = record {
      some = is.some;
      long = is.long;
      fills = λ some. some-kept bag.overflow.places i v w there 0
          ∙ is.fills (λ none. some (λ k near. some-kept bag.overflow.places i v w there k ∙ none k near));
    }

    module _ (shown : B → Option StorageName) (len : ℕ) (world : World (LinkedEntry B)) where
      pub at-lies : (b : Option (Behind B)) → Is b → (es : List (Entry (LinkedEntry B))) → LiesOn shown len world es bag.overflow
          → LiesOn shown len world es (with_at b i w bag).overflow
      at-lies None there es lies = lies
      at-lies (Some b) there es lies =
          lies-lent shown len world es bag.overflow (with_at (Some b) i w bag).overflow
          (record { stack = refl; names = names-same bag.overflow.places i (Some w) }) (some-kept bag.overflow.places i v w there) lies

      pub at-bag : (b : Option (Behind B)) → Is b → IsBag shown len world bag → IsBag shown len world (with_at b i w bag)
      at-bag None there is = record { entries = is.entries; lies = is.lies; used = is.used }
      at-bag (Some b) there is = record {
        entries = is.entries;
        lies = at-lies (Some b) there is.entries is.lies;
        used = λ none. is.used (λ k near. sym (some-kept bag.overflow.places i v w there k) ∙ none k near);
      }
