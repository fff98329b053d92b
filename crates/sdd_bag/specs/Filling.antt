-- Bags that are filled by an iterator
use Rattle.std.specs.Prelude.{ℕ, ◌≡◌, ◌≢◌, List, [], Option, None, Some, Result, Ok, Err, length}
use Rattle.std.specs.Iterator.{YieldsThen}
use Rattle.sdd_bag.specs.Values.{AreInSomeOrder}
use Rattle.sdd_core.specs.declared.refused.Refused.TheVariants.{NoCell}
use Rattle.sdd_participants.specs.Slab.{IsEmptyAt}
use Rattle.sdd_world_model.specs.World.{World}
use Rattle.sdd_world_model.specs.WorldChanges.{nulled}
use Rattle.sdd_lists.specs.declared.linked_entry.LinkedEntry.{LinkedEntry}
use Rattle.sdd_lists.specs.declared.stack.Stack.{Stack}
use Rattle.sdd_lists.specs.declared.unfinished.Unfinished.{Unfinished}
use Rattle.sdd_lists.specs.declared.unfinished.Unfinished.TheVariants.{NotBegun, Part}
use Rattle.sdd_lists.specs.Lists.{Entry}
use Rattle.sdd_lists.specs.Queue.{HasOneAtMost}
use Rattle.sdd_lists.specs.Stack.{cell_in}
use Rattle.sdd_bag.specs.Storages.{StorageName}
use Rattle.sdd_bag.specs.Overflow.{AddsStorage, LiesOn, RefusesStorage}
use Rattle.sdd_bag.specs.Bag.{BagParts, primary_of, values_of}

-- p added storages in front of these entries of the stack, one after another
pub data AddsStorages {B : Type 0} (shown : B → Option StorageName) (p : ℕ) (stack : Stack B) (w : World (LinkedEntry B)) (es : List (Entry (LinkedEntry B)))
    : World (LinkedEntry B) → List (Entry (LinkedEntry B)) → Type 0 where
  begins : AddsStorages shown p stack w es w es
  adds : (v new : World (LinkedEntry B)) (fs gs : List (Entry (LinkedEntry B))) → AddsStorages shown p stack w es v fs
      → AddsStorage shown v p stack fs new gs → AddsStorages shown p stack w es new gs

module _ {T B : Type 0} where
  -- what was built, all or in part
  abbrev pub bag_of : Result (BagParts T B) (Unfinished (BagParts T B) T) → Option (BagParts T B)
  bag_of (Ok bag) = Some bag
  bag_of (Err (NotBegun why)) = None
  bag_of (Err (Part bag item why)) = Some bag

module _ {I T B : Type 0} (next : I → Option T → I → Type 0) (shown : B → Option StorageName) (len : ℕ) where
  -- the iterator gave values until it ended, and the bag, whose cells were free, has just these
  pub record BuildsBag (p : ℕ) (w : World (LinkedEntry B)) (bag : BagParts T B) (start end : I) (last : Option T) (new : World (LinkedEntry B)) : Type 0 where
    pub own : IsEmptyAt w.cells bag.primary.storage.cell
    pub stack : IsEmptyAt w.cells (cell_in bag.overflow.stack)
    pub two : bag.primary.storage.cell ≢ cell_in bag.overflow.stack
    pub given : List T
    pub gives : YieldsThen next start given last end
    pub values : AreInSomeOrder given (values_of bag)
    pub entries : List (Entry (LinkedEntry B))
    pub storages : AddsStorages shown p bag.overflow.stack (nulled (nulled w bag.primary.storage.cell) (cell_in bag.overflow.stack)) [] new entries
    pub lies : LiesOn shown len new entries bag.overflow

  -- what is answered where a bag is built of what an iterator gives
  abbrev pub Builds : ℕ → World (LinkedEntry B) → I → Result (BagParts T B) (Unfinished (BagParts T B) T) → I → World (LinkedEntry B) → Type 0
  Builds p w start (Ok bag) end new = BuildsBag p w bag start end None new
  Builds p w start (Err (NotBegun why)) end new = HasOneAtMost w.cells × (why ≡ NoCell) × (end ≡ start) × (new ≡ w)
  Builds p w start (Err (Part bag None why)) end new = ⊥
  Builds p w start (Err (Part bag (Some item) why)) end new =
      BuildsBag p w bag start end (Some item) new × (length (primary_of bag) ≡ len) × RefusesStorage new why
