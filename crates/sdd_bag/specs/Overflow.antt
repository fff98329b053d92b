-- The values in the storages behind a bag's own, and how these lie in a world
use Rattle.std.specs.Prelude.{ℕ, ◌≡◌, ◌≢◌, ◌⊎◌, List, [], ◌∷◌, ◌++◌, Option, Some, length}
use Rattle.sdd_bag.specs.KeyedPlaces.{PlaceName}
use Rattle.sdd_bag.specs.Storage.{AreEmpty, AreFullBehind, KeptPlace, names_of, values_in}
use Rattle.sdd_core.specs.declared.tag.Tag.TheVariants as tag
use Rattle.sdd_participants.specs.declared.standing.Standing.TheVariants.{Shared as shared_by}
use Rattle.sdd_participants.specs.Slab.{IsEmptyAt, IsFull}
use Rattle.sdd_core.specs.declared.refused.Refused.{Refused}
use Rattle.sdd_core.specs.declared.refused.Refused.TheVariants.{NoCell, NoSlot}
use Rattle.sdd_space.specs.CallerId.{CallerId, IsExact, IsSeated}
use Rattle.sdd_space.specs.Guard.{ReaderId}
use Rattle.sdd_world_model.specs.World.{World, standing_at}
use Rattle.sdd_world_model.specs.WorldChanges.{nulled, retired}
use Rattle.sdd_space.specs.Shared.{Shared}
use Rattle.sdd_lists.specs.declared.linked_entry.LinkedEntry.{LinkedEntry}
use Rattle.sdd_lists.specs.declared.stack.Stack.{Stack}
use Rattle.sdd_lists.specs.Entries.{link_of, value_of}
use Rattle.sdd_lists.specs.Filling.{AddsOnto}
use Rattle.sdd_lists.specs.Lists.{Entry, IsTaken}
use Rattle.sdd_lists.specs.Queue.{HasOneAtMost}
use Rattle.sdd_lists.specs.Stack.{IsStack, cell_in, home_in}
use Rattle.sdd_bag.specs.Storages.{StorageName, places_shown}

-- the stack of the storages, the newest in front, and what is known of their places
pub record OverflowParts (T B : Type 0) : Type 0 where
  pub stack : Stack B
  pub places : List (KeptPlace T)

module _ {T B : Type 0} where
  abbrev pub spilled_in : OverflowParts T B → List T
  spilled_in o = values_in o.places

  -- only what its places have may be another
  pub record KeepsPlaces (old new : OverflowParts T B) : Type 0 where
    pub stack : new.stack ≡ old.stack
    pub names : names_of new.places ≡ names_of old.places

-- no storage more is made, since no slot is free, or no two cells are
abbrev pub RefusesStorage : {I : Type 0} → World I → Refused → Type 0
RefusesStorage w why = IsFull w.standings × (why ≡ NoSlot) ⊎ ¬ (IsFull w.standings) × HasOneAtMost w.cells × (why ≡ NoCell)

module _ {B : Type 0} where
  -- a storage more is on a new entry of the stack, in front of these, and its cell, which was free, is of the stack's home
  pub record AddsStorage (shown : B → Option StorageName) (w : World (LinkedEntry B)) (p : ℕ) (stack : Stack B) (es : List (Entry (LinkedEntry B)))
      (new : World (LinkedEntry B)) (fs : List (Entry (LinkedEntry B))) : Type 0 where
    pub storage : StorageName
    pub free : IsEmptyAt w.cells storage.cell
    pub home : storage.home ≡ home_in stack
    pub shelf : B
    pub shows : shown shelf ≡ Some storage
    pub adds : AddsOnto (nulled w storage.cell) p (cell_in stack) es shelf new fs

  -- the first of these entries is taken out, and its item, which nobody else owns, is retired at once
  pub record RemovesStorage (w : World (LinkedEntry B)) (p c : ℕ) (es : List (Entry (LinkedEntry B))) (new : World (LinkedEntry B))
      (fs : List (Entry (LinkedEntry B))) : Type 0 where
    pub first : Entry (LinkedEntry B)
    pub entries : es ≡ first ∷ fs
    pub owner : Shared (LinkedEntry B)
    pub between : World (LinkedEntry B)
    pub taken : IsTaken link_of w p c tag.None es first fs owner between
    pub world : new ≡ retired between p first.slot

  -- each of these entries is taken out, one after another
  abbrev pub RemovesStorages : World (LinkedEntry B) → (p c : ℕ) → List (Entry (LinkedEntry B)) → World (LinkedEntry B) → Type 0
  RemovesStorages w p c [] new = new ≡ w
  RemovesStorages w p c (e ∷ es) new =
      (between : World (LinkedEntry B)) × RemovesStorage w p c (e ∷ es) between es × RemovesStorages between p c es new

  -- no entry of these is in slot k
  abbrev pub AreElsewhere : ℕ → List (Entry (LinkedEntry B)) → Type 0
  AreElsewhere k [] = Unit {0}
  AreElsewhere k (e ∷ es) = (e.slot ≢ k) × AreElsewhere k es

  module _ (shown : B → Option StorageName) (len : ℕ) where
    -- the places of the storage on this entry
    abbrev pub places_in : Entry (LinkedEntry B) → List PlaceName
    places_in e = places_shown (shown (value_of e.value))

    -- the entry isn't deleted, its stack alone owns it, and its storage has so many places
    pub record IsShelf (w : World (LinkedEntry B)) (e : Entry (LinkedEntry B)) : Type 0 where
      pub plain : e.tag ≡ tag.None
      pub sole : standing_at w e.slot ≡ Some (shared_by 1)
      pub long : length (places_in e) ≡ len

    abbrev pub AreShelves : World (LinkedEntry B) → List (Entry (LinkedEntry B)) → Type 0
    AreShelves w [] = Unit {0}
    AreShelves w (e ∷ es) = IsShelf w e × AreElsewhere e.slot es × AreShelves w es

    -- the places of all their storages, in order
    abbrev pub places_on : List (Entry (LinkedEntry B)) → List PlaceName
    places_on [] = []
    places_on (e ∷ es) = places_in e ++ places_on es

    -- the storages are on these entries of the stack, the keys are just those of their places, and each place behind the first storage's has a value
    pub record LiesOn {T : Type 0} (w : World (LinkedEntry B)) (es : List (Entry (LinkedEntry B))) (o : OverflowParts T B) : Type 0 where
      pub stack : IsStack w (cell_in o.stack) es
      pub shelves : AreShelves w es
      pub keys : names_of o.places ≡ places_on es
      pub full : AreFullBehind len o.places

    abbrev pub Lies : {T : Type 0} → World (LinkedEntry B) → OverflowParts T B → Type 0
    Lies w o = (es : List (Entry (LinkedEntry B))) × LiesOn w es o

    -- who calls may take all values out of the first of the storages, which has one: they lie in its world, and the reader is its own
    pub record MayEmpty {T : Type 0} (caller : CallerId) (w : World (LinkedEntry B)) (reader : ReaderId) (o : OverflowParts T B) : Type 0 where
      pub seated : IsSeated caller
      pub exact : IsExact caller
      pub reads : reader ≡ caller.reader
      pub home : home_in o.stack ≡ caller.home.cells
      pub lies : Lies w o
      pub some : ¬ (AreEmpty len o.places)
