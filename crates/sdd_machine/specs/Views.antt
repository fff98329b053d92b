-- How the fields of a machine are seen as its state.
use Rattle.std.specs.Prelude.{◌≡◌, ℕ, ◌≤◌, Bool, true, false, List, [], ◌∷◌, length, slice_index_or, slice_set, if◌then◌else◌, Option, Some, None}
use Rattle.sdd_machine.specs.declared.machine.places.PlacePhase.{PlacePhase}
use Rattle.sdd_machine.specs.Bags.{ThreeBags, BagsOfPlaces, trio_at, no_items, has, all_of}
use Rattle.std.specs.FinSet as set
use Rattle.sdd_machine.specs.declared.machine.places.Phase.TheVariants.{Free}
use Rattle.sdd_machine.specs.declared.machine.places.Scan.{Scan}
use Rattle.sdd_machine.specs.Table.{State, Place, Items, place_at, is_free, is_open, is_ended}

abbrev pub place_of : PlacePhase → ThreeBags → Place
place_of post trio = record { phase = post.phase; found = post.found; current = trio.current; prev = trio.prev; next = trio.next }

-- each place with its bags
abbrev pub places_of : List PlacePhase → List ThreeBags → List Place
places_of [] trios = []
places_of (post ∷ posts) [] = []
places_of (post ∷ posts) (trio ∷ trios) = place_of post trio ∷ places_of posts trios

abbrev pub free_post : PlacePhase
free_post = record { phase = Free; found = 0 }

-- the holder of the lock, if there is one, is open
abbrev pub IsHeldOpen : List PlacePhase → Option Scan → Type 0
IsHeldOpen posts None = Unit {0}
IsHeldOpen posts (Some scan) = is_open (slice_index_or posts scan.holder free_post).phase ≡ true

-- the same of a state
abbrev pub IsHeld : State → Option Scan → Type 0
IsHeld state None = Unit {0}
IsHeld state (Some scan) = is_open (place_at state scan.holder).phase ≡ true

-- as many bags as places, what is in a bag was retired, a free place has empty bags, and the holder of the lock is
-- open
pub record IsMachineState (posts : List PlacePhase) (bags : BagsOfPlaces) (retired : List Bool) (scan : Option Scan) : Type 0 where
  pub held : IsHeldOpen posts scan
  pub free : (place : ℕ) → is_free (slice_index_or posts place free_post).phase ≡ true → trio_at bags.trios place ≡ no_items
  pub few : length posts ≤ 1024
  pub same : length bags.trios ≡ length posts
  pub room : bags.items ≡ length retired
  pub waits : (place item : ℕ) → has (trio_at bags.trios place) item ≡ true → slice_index_or retired item false ≡ true

abbrev pub freed_post : PlacePhase → PlacePhase
freed_post post = record { phase = (if is_ended post.phase then Free else post.phase); found = post.found }

-- what is in the bags of ended places
abbrev pub left_in : List PlacePhase → List ThreeBags → Items
left_in [] trios = set.empty
left_in (post ∷ posts) [] = set.empty
left_in (post ∷ posts) (trio ∷ trios) = if is_ended post.phase then set.union (all_of trio) (left_in posts trios) else left_in posts trios

-- the bags without these
abbrev pub emptied : List PlacePhase → List ThreeBags → List ThreeBags
emptied [] trios = []
emptied (post ∷ posts) [] = []
emptied (post ∷ posts) (trio ∷ trios) = (if is_ended post.phase then no_items else trio) ∷ emptied posts trios

abbrev pub gathered : ℕ → List PlacePhase → List ThreeBags → List ThreeBags
gathered place posts trios =
    let trio = trio_at trios place in
    slice_set (emptied posts trios) place (record trio { current = set.union trio.current (left_in posts trios) })
