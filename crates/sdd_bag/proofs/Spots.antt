-- Where a cursor is in a bag, and what comes out there and goes back
use Rattle.std.proofs.Common.{◌≡◌, ◌⊎◌, inl, inr, ℕ, ◌+◌, ◌<◌, ◌≤◌, List, Option, Some, None, refl, sym, ap, ◌∙◌, subst}
use Rattle.std.specs.Prelude.{MatchOption}
use Rattle.sdd_bag.specs.declared.behind.Behind.{Behind}
use Rattle.sdd_bag.specs.KeyedPlaces.{PlaceName}
use Rattle.sdd_bag.specs.Storage.{AreEmpty, KeptPlace, StandInFront}
use Rattle.sdd_bag.specs.Storages.{StorageName}
use Rattle.sdd_bag.specs.Bag.{BagParts}
use Rattle.sdd_bag.specs.Lent.{AreEmptyFrom, IsArrayAt, TakesOut}
use Rattle.sdd_bag.specs.Spots.{HasFirst, StandsIn, places_of, start_of, with_places}

module _ {T B : Type 0} where
  pub with-own : (b : Option (Behind B)) (bag : BagParts T B) → with_places b (places_of b bag) bag ≡ bag
  with-own None bag = refl
  with-own (Some b) bag = refl

  -- what comes out of the places comes out of the bag
  pub out-of : (b : Option (Behind B)) (len at : ℕ) (old new : BagParts T B) (r : Option (T × ℕ)) → new ≡ with_places b (places_of b new) old
      → MatchOption r ((places_of b new ≡ places_of b old) × AreEmptyFrom len (start_of b) at (places_of b old))
      (λ r. (at < len) × TakesOut len r.1 (start_of b + at) r.0 (places_of b old) (places_of b new))
      → MatchOption r ((new ≡ old) × AreEmptyFrom len (start_of b) at (places_of b old))
      (λ r. (at < len) × TakesOut len r.1 (start_of b + at) r.0 (places_of b old) (places_of b new))
  out-of b len at old new None rest out = (rest ∙ ap (λ (ps : List (KeptPlace T)). with_places b ps old) out.0 ∙ with-own b old, out.1)
  out-of b len at old new (Some r) rest out = out

  module _ (shown : B → Option StorageName) (len : ℕ) where
    -- what is asked of the keys where it is behind
    pub record AreAsked (start : ℕ) (keys : List (KeptPlace T)) (first here : List PlaceName) : Type 0 where
      pub start_is : (start ≡ 0) ⊎ (len ≤ start) × ¬ (AreEmpty len keys)
      pub front : StandInFront first keys
      pub array : IsArrayAt len start here keys

    pub keys-asked : (b : Behind B) (bag : BagParts T B) (keys : List (KeptPlace T)) (first here : List PlaceName) → bag.overflow.places ≡ keys
        → StandsIn shown len (Some b) bag → HasFirst len (Some b) bag
        → ((s : StorageName) → shown b.first.now ≡ Some s → first ≡ s.places) → ((s : StorageName) → shown b.here.now ≡ Some s → here ≡ s.places)
        → AreAsked b.start keys first here
    keys-asked b bag keys first here same stands has first-is here-is = record {
      start_is = subst (λ (ps : List (KeptPlace T)). (b.start ≡ 0) ⊎ (len ≤ b.start) × ¬ (AreEmpty len ps)) same
          (elim stands.start [ inl none ↦ inl none | inr far ↦ inr (far, has) ]);
      front = subst (λ (names : List PlaceName). StandInFront names keys) (sym (first-is stands.first stands.shown_first))
          (subst (λ (ps : List (KeptPlace T)). StandInFront stands.first.places ps) same stands.front);
      array = subst (λ (names : List PlaceName). IsArrayAt len b.start names keys) (sym (here-is stands.here stands.shown_here))
          (subst (λ (ps : List (KeptPlace T)). IsArrayAt len b.start stands.here.places ps) same stands.array);
    }
