-- A cursor goes on to the next storage, or there is none
use Rattle.std.proofs.Common.{◌≡◌, inl, inr, ℕ, ◌+◌, ◌-◌, ◌<◌, ◌≤◌, List, [], ◌∷◌, ◌++◌, Option, Some, None, drop, length, take, is_some, slice_get, true, refl, sym, ap, ◌∙◌, arith}
use Rattle.std.specs.Prelude.{IfSome}
use Rattle.std.proofs.lemmas.List.{length-append}
use Rattle.sdd_world_model.specs.World.{World}
use Rattle.sdd_lists.specs.declared.linked_entry.LinkedEntry.{LinkedEntry}
use Rattle.sdd_lists.specs.Entries.{value_of}
use Rattle.sdd_lists.specs.Lists.{Entry}
use Rattle.sdd_bag.specs.declared.behind.Behind.{Behind}
use Rattle.sdd_bag.specs.KeyedPlaces.{PlaceName}
use Rattle.sdd_bag.specs.Storage.{AreEmpty, KeptPlace, names_of, value_at, values_in}
use Rattle.sdd_bag.specs.Storages.{StorageName, places_shown}
use Rattle.sdd_bag.specs.Overflow.{AreShelves, places_in, places_on}
use Rattle.sdd_bag.specs.Bag.{BagParts, IsBag, overflow_of, primary_of, values_of}
use Rattle.sdd_bag.specs.Lent.{AreEmptyFrom}
use Rattle.sdd_bag.specs.Spots.{GoesOn, HasFirst, IsAmong, IsInOrder, StandsIn, places_of, start_behind, start_of, values_before}
use Rattle.sdd_bag.proofs.Changing.{keys-inside}
use Rattle.sdd_bag.proofs.InsertedKeys.{get-front}
use Rattle.sdd_bag.proofs.Lent.{key-next, none-behind}
use Rattle.sdd_bag.proofs.ValuesByNumber.{all-before, none-passed}
use Rattle.sdd_bag.proofs.Values.{few-in}

module _ {T : Type 0} (ps : List (KeptPlace T)) (start at len : ℕ) (room : at ≤ len) (none : AreEmptyFrom len start at ps) where
  -- the values before the places that have none are all of the array's
  passed-more : length (values_in (take (start + len) ps)) ≡ length (values_in (take (start + at) ps))
  passed-more =
      let all : (start + at) + (len - at) ≡ start + len = omega (arith, room) in
      ap (λ (j : ℕ). length (values_in (take j ps))) (sym all)
      ∙ none-passed ps (start + at) (len - at)
      (λ k near. let same : (start + at) + k ≡ start + (at + k) = omega arith in
      ap (λ (j : ℕ). is_some (value_at ps j)) same ∙ none (at + k) (omega arith) (omega (arith, near, room)))

  passed-all : length ps ≤ start + len → length (values_in (take (start + at) ps)) ≡ length (values_in ps)
  passed-all long = sym passed-more ∙ all-before ps (start + len) long

-- what shows so many places shows a storage
shown-some : (len : ℕ) (o : Option StorageName) → 0 < len → length (places_shown o) ≡ len → (s : StorageName) × (o ≡ Some s)
shown-some len None some long = absurd (omega (arith, some, long))
shown-some len (Some s) some long = (s, refl)

-- what is so of what there is
pub there-is : {A : Type 0} {P : A → Type 0} (o : Option A) → is_some o ≡ true → IfSome o P → (x : A) × (o ≡ Some x) × P x
there-is None some so = absurd (cc)
there-is (Some x) some so = (x, refl, so)

module _ {T B : Type 0} (shown : B → Option StorageName) (len : ℕ) (w : World (LinkedEntry B)) (bag : BagParts T B) (order : IsInOrder len bag) where
  abbrev keys : List (KeptPlace T)
  keys = bag.overflow.places

  -- where it is in the last storage, and none of its values is left, all are given
  pub all-passed-by : (b : Option (Behind B)) (at : ℕ) → at ≤ len → AreEmptyFrom len (start_of b) at (places_of b bag)
      → names_of (drop (start_behind len b) keys) ≡ [] → values_before b at bag ≡ length (values_of bag)
  all-passed-by None at room none last =
      omega (
        arith,
        length-append (primary_of bag) (overflow_of bag),
        few-in keys,
        none-behind keys 0 last,
        passed-all bag.primary.places 0 at len room none (omega (arith, order.long)),
      )
  all-passed-by (Some b) at room none last =
      omega (
        arith,
        length-append (primary_of bag) (overflow_of bag),
        passed-all keys b.start at len room none (none-behind keys (b.start + len) last),
      )

  module _ (e : Entry (LinkedEntry B)) (rest : List (Entry (LinkedEntry B))) (are : AreShelves shown len w (e ∷ rest)) where
    shows : (s : StorageName) × (shown (value_of e.value) ≡ Some s)
    shows = shown-some len (shown (value_of e.value)) order.some are.0.long

    abbrev Lies : Option (Behind B) → Type 0
    Lies b = names_of (drop (start_behind len b) keys) ≡ places_on shown len (e ∷ rest)

    -- it stands in the storage on this entry then
    pub stands-next : (b : Option (Behind B)) (b' : Behind B) → GoesOn len b (value_of e.value) b' → Lies b → StandsIn shown len b bag
        → IsAmong shown len b' keys
    stands-next b b' goes lies stands =
        let s = shows in
        let array-long : length s.0.places ≡ len = ap (λ (o : Option StorageName). length (places_shown o)) (sym s.1) ∙ are.0.long in
        let array-keys : (k : ℕ) (name : PlaceName) → slice_get s.0.places k ≡ Some name → slice_get (names_of keys) (b'.start + k) ≡ Some name =
        λ k name there.
        ap (λ (n : ℕ). slice_get (names_of keys) (n + k)) goes.start
        ∙ sym (key-next keys (start_behind len b) (places_in shown len e ++ places_on shown len rest) lies k)
        ∙ get-front (places_in shown len e) (places_on shown len rest) k name
        (ap (λ (o : Option StorageName). slice_get (places_shown o) k) s.1 ∙ there) in
        elim b as (λ (x : Option (Behind B)). GoesOn len x (value_of e.value) b' → Lies x → StandsIn shown len x bag → IsAmong shown len b' keys) [
          | None ↦ λ goes lies stands. record {
            first = s.0;
            shown_first = ap shown goes.first ∙ s.1;
            front = (places_on shown len rest, lies ∙ ap (λ (o : Option StorageName). places_shown o ++ places_on shown len rest) s.1);
            here = s.0;
            shown_here = ap shown goes.here ∙ s.1;
            array = record { long = array-long; keys = array-keys };
            start = inl goes.start;
          }
          | Some c ↦ λ goes lies stands. record {
            first = stands.first;
            shown_first = ap shown goes.first ∙ stands.shown_first;
            front = stands.front;
            here = s.0;
            shown_here = ap shown goes.here ∙ s.1;
            array = record { long = array-long; keys = array-keys };
            start = inr (omega (arith, goes.start));
          }
        ] goes lies stands

    -- the first storage behind has a value
    pub first-next : (b : Option (Behind B)) → Lies b → HasFirst len b bag → IsBag shown len w bag → ¬ (AreEmpty len keys)
    first-next None lies has is = λ none.
        let named : length (names_of keys) ≡ 0 =
        ap (λ (ns : List PlaceName). length ns) (is.lies.keys ∙ ap (λ (es : List (Entry (LinkedEntry B))). places_on shown len es) (is.used none)) in
        let long : length (names_of keys) ≡ length (places_in shown len e ++ places_on shown len rest) = ap (λ (ns : List PlaceName). length ns) lies in
        absurd (omega (arith, named, long, length-append (places_in shown len e) (places_on shown len rest), are.0.long, order.some))
    first-next (Some c) lies has is = has

    -- the first place of that storage has a value
    pub here-next : (b : Option (Behind B)) (b' : Behind B) → GoesOn len b (value_of e.value) b' → Lies b → StandsIn shown len b bag → HasFirst len b bag
        → IsBag shown len w bag → is_some (value_at keys (b'.start + 0)) ≡ true
    here-next None b' goes lies stands has is =
        let zero-there : b'.start + 0 ≡ 0 = omega (arith, goes.start) in
        ap (λ (j : ℕ). is_some (value_at keys j)) zero-there ∙ order.fills (first-next None lies has is)
    here-next (Some c) b' goes lies stands has is =
        let among = stands-next (Some c) b' goes lies stands in
        is.lies.full (b'.start + 0) (omega (arith, goes.start))
        (keys-inside among.here.places keys b'.start len among.array.long among.array.keys 0 order.some)

    -- as many values are before it as were passed
    pub count-next : (b : Option (Behind B)) (b' : Behind B) (at : ℕ) → at ≤ len → AreEmptyFrom len (start_of b) at (places_of b bag)
        → GoesOn len b (value_of e.value) b' → values_before (Some b') 0 bag ≡ values_before b at bag
    count-next None b' at room none goes =
        let zero-there : b'.start + 0 ≡ 0 = omega (arith, goes.start) in
        omega (
          arith,
          ap (λ (j : ℕ). length (values_in (take j keys))) zero-there,
          passed-all bag.primary.places 0 at len room none (omega (arith, order.long)),
        )
    count-next (Some c) b' at room none goes =
        let next : b'.start + 0 ≡ c.start + len = omega (arith, goes.start) in
        omega (arith, ap (λ (j : ℕ). length (values_in (take j keys))) next, passed-more keys c.start at len room none)
