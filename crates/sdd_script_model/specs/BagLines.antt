-- What the lines on bags make of these, and of the world
use Rattle.std.specs.Prelude.{ℕ, ◌≡◌, ◌≢◌, ◌⊎◌, List, [], length, Some}
use Rattle.std.specs.List.Sorted.{IsNonDecreasing, IsPermutation}
use Rattle.sdd_core.specs.declared.refused.Refused.{Refused}
use Rattle.sdd_participants.specs.Slab.{IsEmptyAt}
use Rattle.sdd_world_model.specs.OwnerOrCell.{OwnerOrCell}
use Rattle.sdd_world_model.specs.World.{World}
use Rattle.sdd_world_model.specs.WorldChanges.{nulled}
use Rattle.sdd_lists.specs.Lists.{Entry}
use Rattle.sdd_lists.specs.Stack.{cell_in}
use Rattle.sdd_bag.specs.Bag.{HasSameCells, IsBag, IsOfCells, PopsBehind, PopsInside, PushesBehind, PushesInside, primary_of, values_of}
use Rattle.sdd_bag.specs.Closing.{ClosesBag}
use Rattle.sdd_bag.specs.Overflow.{AddsStorage, RefusesStorage, RemovesStorage, RemovesStorages}
use Rattle.sdd_bag.specs.Storage.{AreEmpty, AreFull}
use Rattle.sdd_bag.specs.Values.{AreInSomeOrder}
use Rattle.sdd_script_model.specs.Bags.{StandsOn}
use Rattle.sdd_script_model.specs.Copies.{LeavesUnnamed}
use Rattle.sdd_script_model.specs.ScriptState.{NumberBag, ScriptState, Leaves, bag_at, bag_length, in_world, with_bag, with_bag_at, without_bag}
use Rattle.sdd_script_model.specs.Val.{Val, storage_in}

-- a number holds nothing
abbrev pub holds_nothing : ℕ → List OwnerOrCell
holds_nothing n = []

-- an empty bag has two cells that were free, whichever
pub record BeginsBag (w : World Val) (bag : NumberBag) (new : World Val) : Type 0 where
  pub own : IsEmptyAt w.cells bag.primary.storage.cell
  pub stack : IsEmptyAt w.cells (cell_in bag.overflow.stack)
  pub two : bag.primary.storage.cell ≢ cell_in bag.overflow.stack
  pub home : IsOfCells w.home.cells bag
  pub empty : values_of bag ≡ []
  pub world : new ≡ nulled (nulled w bag.primary.storage.cell) (cell_in bag.overflow.stack)
  pub whole : IsBag storage_in bag_length new bag

-- p puts the number behind, into a storage more where each place of the others has a number
pub record PutsBehind (w : World Val) (p number : ℕ) (old bag : NumberBag) (new : World Val) : Type 0 where
  pub puts : PushesBehind bag_length number old bag
  pub entries : List (Entry Val)
  pub now : List (Entry Val)
  pub stood : StandsOn w old entries
  pub stands : StandsOn new bag now
  pub some : ¬ (AreEmpty bag_length bag.overflow.places)
  pub storages : (new ≡ w) ⊎ AreFull bag_length old.overflow.places × AddsStorage storage_in w p old.overflow.stack entries new now

-- p puts the number into the bag, which has the same cells
abbrev pub PutsNumber : World Val → (p number : ℕ) → (old bag : NumberBag) → World Val → Type 0
PutsNumber w p number old bag new =
    HasSameCells old bag × (PushesInside bag_length number old bag × (new ≡ w) ⊎ PutsBehind w p number old bag new)

-- p takes the number out from behind, with the storage whose last one it was
pub record TakesBehind (w : World Val) (p number : ℕ) (old bag : NumberBag) (new : World Val) : Type 0 where
  pub takes : PopsBehind number old bag
  pub entries : List (Entry Val)
  pub now : List (Entry Val)
  pub stood : StandsOn w old entries
  pub stands : StandsOn new bag now
  pub used : AreEmpty bag_length bag.overflow.places → now ≡ []
  pub storages : (new ≡ w) × (now ≡ entries) ⊎ RemovesStorage w p (cell_in old.overflow.stack) entries new now

-- p takes the number out of the bag, which has the same cells
abbrev pub TakesNumber : World Val → (p number : ℕ) → (old bag : NumberBag) → World Val → Type 0
TakesNumber w p number old bag new =
    HasSameCells old bag × (PopsInside number old bag × (new ≡ w) ⊎ TakesBehind w p number old bag new)

-- p takes all out, which are these, and each storage goes
pub record TakesAll (w : World Val) (p : ℕ) (old bag : NumberBag) (numbers : List ℕ) (new : World Val) : Type 0 where
  pub cells : HasSameCells old bag
  pub empty : values_of bag ≡ []
  pub all : AreInSomeOrder numbers (values_of old)
  pub entries : List (Entry Val)
  pub stood : StandsOn w old entries
  pub stands : StandsOn new bag []
  pub storages : RemovesStorages w p (cell_in old.overflow.stack) entries new

-- ---- the lines

-- the next bag is an empty one
abbrev pub MakesBag : ScriptState → ℕ → ScriptState → Type 0
MakesBag d b new =
    (b ≡ length d.bags) × ((bag : NumberBag) × (w : World Val) × BeginsBag d.world bag w × Leaves (in_world (with_bag d bag) w) new)

-- the bag of this name gets the number; a storage more has no name
abbrev pub Adds : ScriptState → (p b number : ℕ) → ScriptState → Type 0
Adds d p b number new =
    (old : NumberBag) × (bag : NumberBag) × (w : World Val) × (bag_at d.bags b ≡ Some old) × PutsNumber d.world p number old bag w
    × LeavesUnnamed (with_bag_at d b bag) w new

-- a storage more would be needed, and finds no slot, or else no two cells
abbrev pub RefusesAdd : ScriptState → ℕ → Refused → Type 0
RefusesAdd d b why =
    (bag : NumberBag) × (bag_at d.bags b ≡ Some bag) × (length (primary_of bag) ≡ bag_length) × AreFull bag_length bag.overflow.places
    × RefusesStorage d.world why

-- it gets the number among those that lie in it itself
abbrev pub AddsInside : ScriptState → (b number : ℕ) → ScriptState → Type 0
AddsInside d b number new =
    (old : NumberBag) × (bag : NumberBag) × (bag_at d.bags b ≡ Some old) × HasSameCells old bag × PushesInside bag_length number old bag
    × Leaves (with_bag_at d b bag) new

-- in it itself is no room
abbrev pub IsFullInside : ScriptState → ℕ → Type 0
IsFullInside d b = (bag : NumberBag) × (bag_at d.bags b ≡ Some bag) × (length (primary_of bag) ≡ bag_length)

-- some number of it is taken out
abbrev pub Takes : ScriptState → (p b number : ℕ) → ScriptState → Type 0
Takes d p b number new =
    (old : NumberBag) × (bag : NumberBag) × (w : World Val) × (bag_at d.bags b ≡ Some old) × TakesNumber d.world p number old bag w
    × Leaves (in_world (with_bag_at d b bag) w) new

-- it has no number
abbrev pub IsEmpty : ScriptState → ℕ → Type 0
IsEmpty d b = (bag : NumberBag) × (bag_at d.bags b ≡ Some bag) × (values_of bag ≡ [])

-- all its numbers are taken out, in some order, and told in ascending order
abbrev pub Drains : ScriptState → (p b : ℕ) → List ℕ → ScriptState → Type 0
Drains d p b numbers new =
    IsNonDecreasing numbers × ((taken : List ℕ) × IsPermutation taken numbers × ((old : NumberBag) × (bag : NumberBag) × (w : World Val)
    × (bag_at d.bags b ≡ Some old) × TakesAll d.world p old bag taken w × Leaves (in_world (with_bag_at d b bag) w) new))

-- it has so many
abbrev pub HasMany : ScriptState → (b many : ℕ) → Type 0
HasMany d b many = (bag : NumberBag) × (bag_at d.bags b ≡ Some bag) × (many ≡ length (values_of bag))

-- it is closed
abbrev pub Closes : ScriptState → (p b : ℕ) → ScriptState → Type 0
Closes d p b new =
    (bag : NumberBag) × (es : List (Entry Val)) × (w : World Val) × (bag_at d.bags b ≡ Some bag) × StandsOn d.world bag es
    × ClosesBag holds_nothing bag_length d.world p bag es w × Leaves (in_world (without_bag d b) w) new
