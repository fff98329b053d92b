-- A bag whose values are taken out one after another
use Rattle.std.proofs.Common.{◌≡◌, ℕ, List, [], ◌∷◌, Option, None, refl, sym, ap, ◌∙◌, subst}
use Rattle.sdd_bag.specs.Storage.{AreEmpty}
use Rattle.sdd_bag.proofs.Values.{all-empty}
use Rattle.sdd_world_model.specs.World.{World}
use Rattle.sdd_lists.specs.declared.linked_entry.LinkedEntry.{LinkedEntry}
use Rattle.sdd_world_model.specs.WorldChanges.{held_in}
use Rattle.sdd_lists.specs.Lists.{Entry, first_slot}
use Rattle.sdd_bag.specs.Storages.{StorageName}
use Rattle.sdd_bag.specs.Overflow.{LiesOn, RemovesStorage, RemovesStorages}
use Rattle.sdd_bag.specs.Bag.{BagParts, IsBag, overflow_of}

module _ {B : Type 0} (w u new : World (LinkedEntry B)) (p c : ℕ) where
  abbrev behind : List (Entry (LinkedEntry B)) → List (Entry (LinkedEntry B))
  behind [] = []
  behind (e ∷ es) = es

  -- the first storage is removed, and then the others
  pub removes-more : (es fs : List (Entry (LinkedEntry B))) → RemovesStorage w p c es u fs → RemovesStorages u p c fs new → RemovesStorages w p c es new
  removes-more [] fs one rest = let none = one.entries in absurd (cc)
  removes-more (e ∷ es) fs one rest =
      let same : fs ≡ es = ap behind (sym one.entries) in (
        u,
        subst (λ (gs : List (Entry (LinkedEntry B))). RemovesStorage w p c (e ∷ es) u gs) same one,
        subst (λ (gs : List (Entry (LinkedEntry B))). RemovesStorages u p c gs new) same rest,
      )

no-first : {B : Type 0} (es : List (Entry (LinkedEntry B))) → first_slot es ≡ None → es ≡ []
no-first [] none = refl
no-first (e ∷ es) none = absurd (cc)

-- where no place of the first storage has a value, there is none
pub used-there : {B T : Type 0} (shown : B → Option StorageName) (len : ℕ) (w : World (LinkedEntry B)) (bag : BagParts T B) (es : List (Entry (LinkedEntry B)))
    → IsBag shown len w bag → LiesOn shown len w es bag.overflow → AreEmpty len bag.overflow.places → es ≡ []
used-there shown len w bag es is lies empty =
    no-first es (ap held_in (sym lies.stack.begins ∙ is.lies.stack.begins) ∙ ap (λ (fs : List (Entry (LinkedEntry _))). first_slot fs) (is.used empty))

-- a bag in whose other storages there is no value has none of them
pub all-removed : {B T : Type 0} (shown : B → Option StorageName) (len : ℕ) (w : World (LinkedEntry B)) (bag : BagParts T B) (es : List (Entry (LinkedEntry B)))
    → IsBag shown len w bag → overflow_of bag ≡ [] → LiesOn shown len w es bag.overflow → es ≡ []
all-removed shown len w bag es is none lies = used-there shown len w bag es is lies (λ k near. all-empty bag.overflow.places none k)
