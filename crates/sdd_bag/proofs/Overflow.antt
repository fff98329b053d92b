-- A bag's overflow where a value is taken out of its first storage, and the storage with the last one
use Rattle.std.proofs.Common.{◌≡◌, ◌⊎◌, inr, ℕ, ◌<◌, List, [], ◌∷◌, ◌++◌, Option, Some, None, length, true, false, refl, sym, ap, ◌∙◌, arith}
use Rattle.std.specs.Prelude.{MatchOption}
use Rattle.std.proofs.lemmas.List.{length-append, length-map}
use Rattle.sdd_bag.specs.KeyedPlaces.{PlaceName}
use Rattle.sdd_bag.specs.Storage.{AreEmpty, AreFull, KeptPlace, names_of, values_in}
use Rattle.sdd_bag.specs.Values.{HasOneMore}
use Rattle.sdd_world_model.specs.World.{World}
use Rattle.sdd_lists.specs.declared.linked_entry.LinkedEntry.{LinkedEntry}
use Rattle.sdd_lists.specs.Lists.{Entry}
use Rattle.sdd_bag.specs.Storages.{StorageName}
use Rattle.sdd_bag.specs.Primary.{PrimaryParts, held_by}
use Rattle.sdd_bag.specs.Overflow.{LiesOn, OverflowParts, places_in, places_on, spilled_in}
use Rattle.sdd_bag.specs.Bag.{BagParts, PopsBehind, PopsInside, overflow_of, primary_of}
use Rattle.sdd_bag.proofs.StackStorages.{no-places}

module _ {B T : Type 0} (shown : B → Option StorageName) (len : ℕ) (w : World (LinkedEntry B)) (o : OverflowParts T B) where
  -- where each place of the first storage has a value, and none has, there is no storage
  pub no-storage : (es : List (Entry (LinkedEntry B))) → 0 < len → LiesOn shown len w es o → AreFull len o.places → AreEmpty len o.places → es ≡ []
  no-storage [] some lies full empty = refl
  no-storage (e ∷ rest) some lies full empty =
      let named : length (names_of o.places) ≡ length (places_in shown len e ++ places_on shown len rest) =
      ap (λ (ns : List PlaceName). length ns) lies.keys in
      let inside : 0 < length o.places =
      omega (
        arith,
        named,
        some,
        lies.shelves.0.long,
        length-append (places_in shown len e) (places_on shown len rest),
        length-map o.places (λ (p : KeptPlace T). p.name),
      ) in
      let never : false ≡ true = sym (empty 0 some) ∙ full 0 some inside in absurd (cc)

  pub none-spilled : (es : List (Entry (LinkedEntry B))) → LiesOn shown len w es o → es ≡ [] → spilled_in o ≡ []
  none-spilled es lies none =
      ap (λ (ps : List (KeptPlace T)). values_in ps)
      (no-places o.places (lies.keys ∙ ap (λ (fs : List (Entry (LinkedEntry B))). places_on shown len fs) none))

module _ {B T : Type 0} (old : BagParts T B) (inside : PrimaryParts T) (none : overflow_of old ≡ []) (Same : Type 0) (same : Same) where
  abbrev now : BagParts T B
  now = record { primary = inside; overflow = old.overflow }

  -- what a pop of the bag's own storage is where no other has a value
  pub popped-inside : (r : Option T) → MatchOption r ((primary_of old ≡ []) × (inside ≡ old.primary)) (λ v. HasOneMore v (held_by inside) (primary_of old))
      → MatchOption r ((primary_of old ≡ []) × (overflow_of old ≡ []) × (now ≡ old) × Same) (λ v. PopsBehind v old now ⊎ PopsInside v old now × Same)
  popped-inside None was = (was.0, none, ap (λ (p : PrimaryParts T). record { primary = p; overflow = old.overflow }) was.1, same)
  popped-inside (Some v) was = inr (record { none = none; less = was; others = refl }, same)
