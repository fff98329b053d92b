-- What the answers of a interpreter's functions take from its hand, and from what the hand becomes
use Rattle.sdd_interpreter.proofs.Words.{◌≡◌, ℕ, ◌<◌, ◌∙◌, ap, false, length, map, refl, sym, List, Option, Some, None, IsSome, slice_index_or, slice_set, IsTrue, option_map, get_or-map, index_of, standing_at, Queue, Stack, Body, Val, AnyOwner, Sole, Share, NamedParticipant, Environment, open_since, owner_holding, cell_holding, collector_holding, oldest_holding, newest_holding, stack_holding, state_of, IsTied, AtomicShared, IsOf, OwnerOrCell, PrivateCollector, lives, name-given, none as no_call, set-get_or}
use Rattle.sdd_space.specs.Shared.{Shared}
use Rattle.sdd_space.specs.Owned.{Owned}
use Rattle.sdd_space.specs.Owned as owned
use Rattle.sdd_space.specs.Shared as shared
use Rattle.sdd_interpreter.specs.declared.holding.AnyCell.{AnyCell}
use Rattle.sdd_interpreter.specs.declared.holding.AnyCell.TheVariants as cell
use Rattle.sdd_interpreter.proofs.Acts.{got, still}
use Rattle.sdd_interpreter.proofs.Collectors.{collector-home}
use Rattle.sdd_interpreter.proofs.ValueOwners.{value-named}

-- ---- what a name stands for, as the state has it

pub nobody-at : (xs : List (Option NamedParticipant)) (n : ℕ) → None ≡ slice_index_or xs n None → slice_index_or (map open_since xs) n None ≡ None
nobody-at xs n none = get_or-map open_since xs n None ∙ ap open_since (sym none)

pub somebody-at : (xs : List (Option NamedParticipant)) (n : ℕ) (a : NamedParticipant) → Some a ≡ slice_index_or xs n None →
    slice_index_or (map open_since xs) n None ≡ open_since (Some a)
somebody-at xs n a there = get_or-map open_since xs n None ∙ ap open_since (sym there)

pub owner-at : (xs : List (Option AnyOwner)) (n : ℕ) →
    slice_index_or (map (option_map owner_holding) xs) n None ≡ option_map owner_holding (slice_index_or xs n None)
owner-at xs n = get_or-map (option_map owner_holding) xs n None

pub cell-at : (xs : List (Option AnyCell)) (n : ℕ) →
    slice_index_or (map (option_map cell_holding) xs) n None ≡ option_map cell_holding (slice_index_or xs n None)
cell-at xs n = get_or-map (option_map cell_holding) xs n None

pub collector-at : (xs : List (Option (PrivateCollector Val))) (n : ℕ) →
    slice_index_or (map (option_map collector_holding) xs) n None ≡ option_map collector_holding (slice_index_or xs n None)
collector-at xs n = get_or-map (option_map collector_holding) xs n None

pub oldest-at : (xs : List (Option (Queue Body))) (n : ℕ) →
    slice_index_or (map (option_map oldest_holding) xs) n None ≡ option_map oldest_holding (slice_index_or xs n None)
oldest-at xs n = get_or-map (option_map oldest_holding) xs n None

pub stack-at : (xs : List (Option (Stack Body))) (n : ℕ) →
    slice_index_or (map (option_map stack_holding) xs) n None ≡ option_map stack_holding (slice_index_or xs n None)
stack-at xs n = get_or-map (option_map stack_holding) xs n None

-- nothing is spent by a name that stands for nothing
pub none-spent : {X : Type 0} (xs : List (Option X)) (n : ℕ) → slice_index_or xs n None ≡ None → slice_set xs n None ≡ xs
none-spent xs n none = ap (slice_set xs n) (sym none) ∙ set-get_or xs n None

-- ---- it is of the world's home

module _ (h : Environment) (t : IsTied h) (n : ℕ) where
  pub owner-home : (x : AnyOwner) → slice_index_or h.owners.entries.items n None ≡ Some x → IsOf h.world.home (owner_holding x)
  owner-home x is = t.sound.home.owners n (owner_holding x) (owner-at h.owners.entries.items n ∙ ap (option_map owner_holding) is)

  pub sole-home : (x : Owned Val) → slice_index_or h.owners.entries.items n None ≡ Some (Sole x) → owned.slots_home x ≡ h.world.home.slots
  sole-home x is = owner-home (Sole x) is

  pub share-home : (x : Shared Val) → slice_index_or h.owners.entries.items n None ≡ Some (Share x) → shared.slots_home x ≡ h.world.home.slots
  share-home x is = owner-home (Share x) is

  pub cell-home : (x : AnyCell) → slice_index_or h.cells.entries.items n None ≡ Some x → IsOf h.world.home (cell_holding x)
  cell-home x is = t.sound.home.cells n (cell_holding x) (cell-at h.cells.entries.items n ∙ ap (option_map cell_holding) is)

  pub shared-cell-home : (x : AtomicShared Val) → slice_index_or h.cells.entries.items n None ≡ Some (cell.Share x) →
      shared.cells_home x ≡ h.world.home.cells
  shared-cell-home x is = cell-home (cell.Share x) is

-- the name that a slot had last is that of an item
pub name-within : (h : Environment) → IsTied h → (s i : ℕ) → IsSome (standing_at h.world s) → slice_index_or h.log.names.items s None ≡ Some i →
    i < length h.log.slots.items
name-within h t s i there is = rw is at (name-given (state_of h) t.sound.stocked s there)

-- ---- the participant of a name is one of the world's

module _ (h : Environment) (n : ℕ) (a : NamedParticipant) (t : IsTied h)
    (e : open_since (Some a) ≡ slice_index_or (map open_since h.places.entries.items) n None) where
  pub under-inside : index_of a.place < length h.world.time.places
  under-inside = (t.sound.attended.inside n (record { place = index_of a.place; since = a.since }) (sym e)).0

  pub under-live : IsTrue (slice_index_or (lives h.world.time) (index_of a.place) false)
  under-live = (t.sound.attended.inside n (record { place = index_of a.place; since = a.since }) (sym e)).1

module _ (h : Environment) (n : ℕ) (a : NamedParticipant) (t : IsTied h) (e : Some a ≡ slice_index_or h.places.entries.items n None) where
  pub inside : index_of a.place < length h.world.time.places
  inside = under-inside h n a t (got h.places n a e)

  pub live : IsTrue (slice_index_or (lives h.world.time) (index_of a.place) false)
  live = under-live h n a t (got h.places n a e)

pub ruleset in_hand = (
  inside,
  live,
  under-inside,
  under-live,
  still,
  no_call,
  nobody-at,
  somebody-at,
  owner-at,
  cell-at,
  collector-at,
  oldest-at,
  stack-at,
  none-spent,
  owner-home,
  sole-home,
  share-home,
  cell-home,
  shared-cell-home,
  collector-home,
  name-within,
  value-named,
)
