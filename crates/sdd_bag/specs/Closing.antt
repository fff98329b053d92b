-- What becomes of a bag that is closed: what its values give up, and that nothing of this is the bag's own
use Rattle.std.specs.Prelude.{ℕ, ◌%◌, ◌≡◌, ◌≢◌, List, [], ◌∷◌, IfSome, length}
use Rattle.sdd_bag.specs.Values.{AreInSomeOrder}
use Rattle.sdd_participants.specs.Slab.{entry_at}
use Rattle.sdd_world_model.specs.OwnerOrCell.{OwnerOrCell, owned, shared, atomic_owned, atomic_shared, atomic_raw}
use Rattle.sdd_world_model.specs.World.{World}
use Rattle.sdd_world_model.specs.WorldChanges.{cell_closed, given_all, held_in, without_cell}
use Rattle.sdd_lists.specs.declared.linked_entry.LinkedEntry.{LinkedEntry}
use Rattle.sdd_lists.specs.Entries.{link_of}
use Rattle.sdd_lists.specs.Lists.{Apart, Entry}
use Rattle.sdd_lists.specs.Stack.{cell_in}
use Rattle.sdd_bag.specs.Overflow.{AreElsewhere, RemovesStorage}
use Rattle.sdd_bag.specs.Bag.{BagParts, overflow_of, primary_of}

module _ {B : Type 0} (w : World (LinkedEntry B)) (c : ℕ) (es : List (Entry (LinkedEntry B))) where
  -- cell d is neither that of the stack of these entries, which is c, nor the link of one of them, and holds none of them
  pub record IsCellBeside (d : ℕ) : Type 0 where
    pub cell : d ≢ c
    pub link : Apart link_of d es
    pub held : IfSome (held_in (entry_at w.cells d)) (λ k. AreElsewhere k es)

  -- who gives it up gives up nothing of these entries and of their stack
  abbrev pub IsBeside : OwnerOrCell → Type 0
  IsBeside (owned k home) = AreElsewhere k es
  IsBeside (shared k home) = AreElsewhere k es
  IsBeside (atomic_owned d home) = IsCellBeside d
  IsBeside (atomic_shared d home) = IsCellBeside d
  IsBeside (atomic_raw d home) = IsCellBeside d

  abbrev pub AreBeside : List OwnerOrCell → Type 0
  AreBeside [] = Unit {0}
  AreBeside (h ∷ hs) = IsBeside h × AreBeside hs

-- the first storage is removed where a value was the last one in it: so many values are left, and each other storage has as many as places
pub record RemovesIfLast {B : Type 0} (len left : ℕ) (w : World (LinkedEntry B)) (p c : ℕ) (es : List (Entry (LinkedEntry B)))
    (new : World (LinkedEntry B)) (fs : List (Entry (LinkedEntry B))) : Type 0 where
  pub last : left % len ≡ 0 → RemovesStorage w p c es new fs
  pub others : left % len ≢ 0 → (new ≡ w) × (fs ≡ es)

module _ {T : Type 0} (holds : T → List OwnerOrCell) where
  -- these values give up to p what they hold, one after another
  abbrev pub values_given : {I : Type 0} → World I → ℕ → List T → World I
  values_given w p [] = w
  values_given w p (v ∷ vs) = values_given (given_all w p (holds v)) p vs

  module _ {B : Type 0} (len : ℕ) where
    -- so do these, which lie in the storages on these entries, and a storage is removed before the last of its values does
    abbrev pub EmptiesStorages : World (LinkedEntry B) → (p c : ℕ) → List (Entry (LinkedEntry B)) → List T → World (LinkedEntry B) → Type 0
    EmptiesStorages w p c es [] new = (es ≡ []) × (new ≡ w)
    EmptiesStorages w p c es (v ∷ vs) new =
        (fs : List (Entry (LinkedEntry B))) × (between : World (LinkedEntry B)) × RemovesIfLast len (length vs) w p c es between fs ×
        EmptiesStorages (given_all between p (holds v)) p c fs vs new

    -- p closes the bag, whose storages are on these entries: the values in them give up what they hold, and then those in the bag itself; its cells
    -- are free
    pub record ClosesBag (w : World (LinkedEntry B)) (p : ℕ) (bag : BagParts T B) (es : List (Entry (LinkedEntry B))) (new : World (LinkedEntry B)) :
        Type 0 where
      pub spilled : List T
      pub all_spilled : AreInSomeOrder spilled (overflow_of bag)
      pub emptied : World (LinkedEntry B)
      pub storages : EmptiesStorages w p (cell_in bag.overflow.stack) es spilled emptied
      pub held : List T
      pub all_held : AreInSomeOrder held (primary_of bag)
      pub world : new ≡ cell_closed (values_given (without_cell emptied (cell_in bag.overflow.stack)) p held) p bag.primary.storage.cell
