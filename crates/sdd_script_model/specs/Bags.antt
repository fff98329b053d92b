-- The bags of a script, and their storages in its world
use Rattle.std.specs.Prelude.{ℕ, ◌≡◌, ◌⊎◌, ◌+◌, ◌==◌, Bool, false, List, [], ◌∷◌, Option, None, Some, count_by}
use Rattle.sdd_world_model.specs.Ledger.{Claim, owner_of, right_to}
use Rattle.sdd_participants.specs.Slab.{entry_at}
use Rattle.sdd_world_model.specs.World.{World, value_at}
use Rattle.sdd_world_model.specs.WorldChanges.{held_in}
use Rattle.sdd_lists.specs.Ends.{IsAmong}
use Rattle.sdd_lists.specs.Lists.{Entry}
use Rattle.sdd_lists.specs.Stack.{cell_in}
use Rattle.sdd_bag.specs.Bag.{IsBag, IsOfCells}
use Rattle.sdd_bag.specs.Overflow.{LiesOn}
use Rattle.sdd_bag.specs.Storages.{StorageName}
use Rattle.sdd_script_model.specs.ScriptState.{NumberBag, ScriptState, bag_at, bag_length, name_at}
use Rattle.sdd_script_model.specs.Val.{Val, body_of, link_of, storage_in}

-- the bag's other storages are on these entries
abbrev pub StandsOn : World Val → NumberBag → List (Entry Val) → Type 0
StandsOn w b es = LiesOn storage_in bag_length w es b.overflow

-- of these bags one has its other storages on these entries
pub record HasStorages (bags : List (Option NumberBag)) (w : World Val) (es : List (Entry Val)) : Type 0 where
  pub name : ℕ
  pub bag : NumberBag
  pub is : bag_at bags name ≡ Some bag
  pub stands : StandsOn w bag es

-- another storage of one of these bags is in slot s
pub record IsStored (bags : List (Option NumberBag)) (w : World Val) (s : ℕ) : Type 0 where
  pub entries : List (Entry Val)
  pub storages : HasStorages bags w entries
  pub among : IsAmong s entries

-- the cell is the link of one of these entries
abbrev pub IsLinkIn : ℕ → List (Entry Val) → Type 0
IsLinkIn c [] = ⊥
IsLinkIn c (e ∷ es) = (link_of e.value ≡ c) ⊎ IsLinkIn c es

-- the cell is that of the stack of a bag's other storages, or the link of one of these
pub record IsKept (bags : List (Option NumberBag)) (w : World Val) (c : ℕ) : Type 0 where
  pub entries : List (Entry Val)
  pub storages : HasStorages bags w entries
  pub cell : (cell_in storages.bag.overflow.stack ≡ c) ⊎ IsLinkIn c entries

-- the cell is a storage's own
pub record IsSpare (w : World Val) (c : ℕ) : Type 0 where
  pub slot : ℕ
  pub value : Val
  pub there : value_at w slot ≡ Some value
  pub storage : StorageName
  pub is : storage_in (body_of value) ≡ Some storage
  pub cell : storage.cell ≡ c

-- the own cell of a storage holds nothing
abbrev pub AreSpare : World Val → Type 0
AreSpare w = (c : ℕ) → IsSpare w c → held_in (entry_at w.cells c) ≡ None

-- the bag's own cell, and that of the stack of its other storages
abbrev pub is_own_cell : ℕ → Option NumberBag → Bool
is_own_cell c None = false
is_own_cell c (Some b) = b.primary.storage.cell == c

abbrev pub is_stack_cell : ℕ → Option NumberBag → Bool
is_stack_cell c None = false
is_stack_cell c (Some b) = cell_in b.overflow.stack == c

-- so many rights to cells these bags are
abbrev pub bagged : List (Option NumberBag) → Claim → ℕ
bagged bags (owner_of k) = 0
bagged bags (right_to c) = count_by (is_own_cell c) bags + count_by (is_stack_cell c) bags

-- the bag is in the world, its cells are of the world's home, and no item of its other storages has a name
pub record IsKeptBag (d : ScriptState) (b : NumberBag) : Type 0 where
  pub bag : IsBag storage_in bag_length d.world b
  pub home : IsOfCells d.world.home.cells b
  pub unnamed : (es : List (Entry Val)) → StandsOn d.world b es → (s : ℕ) → IsAmong s es → name_at d s ≡ None

abbrev pub AreBags : ScriptState → Type 0
AreBags d = (n : ℕ) (b : NumberBag) → bag_at d.bags n ≡ Some b → IsKeptBag d b
