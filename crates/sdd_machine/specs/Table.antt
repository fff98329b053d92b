-- What one step does: the table of the machine
use Rattle.std.specs.Prelude.{ℕ, ◌+◌, ◌-◌, ◌^◌, Bool, true, false, not, ◌&&◌, ◌||◌, if◌then◌else◌, ◌==◌, nat_lt, nat_le, List, [], ◌∷◌, length, map, replicate, slice_index_or, slice_set, Option, Some, None}
use Rattle.std.specs.Ordering.{nat_cmp}
use Rattle.std.specs.FinSet as set
use Rattle.sdd_machine.specs.declared.machine.steps.Step.{Step}
use Rattle.sdd_machine.specs.declared.machine.steps.Step.TheVariants.{Register, Read, Publish, Retire, Lock, Adopt, Look, Advance, Unlock, Close, End}
use Rattle.sdd_machine.specs.declared.machine.steps.Did.{Did}
use Rattle.sdd_machine.specs.declared.machine.steps.Did.TheVariants.{NotPossible, Done, Opened, Looked, Advanced}
use Rattle.sdd_machine.specs.declared.machine.places.Phase.{Phase}
use Rattle.sdd_machine.specs.declared.machine.places.Phase.TheVariants.{Free, Closed, Reading, Open, Ended}
use Rattle.sdd_machine.specs.declared.machine.places.Scan.{Scan}

-- items, by their numbers
abbrev pub Items : Type 0
Items = set.FinSet nat_cmp

-- a place: what it is doing, the last count that it found, and its three bags
pub record Place : Type 0 where
  pub phase : Phase
  pub found : ℕ
  pub current : Items
  pub prev : Items
  pub next : Items

-- a machine: the count, its places, which items were ever retired, and the scan of who holds the lock
pub record State : Type 0 where
  pub count : ℕ
  pub places : List Place
  pub retired : List Bool
  pub scan : Option Scan

-- how many places and items a machine has
pub record Size : Type 0 where
  pub places : ℕ
  pub items : ℕ

abbrev pub size_of : ℕ → ℕ → Size
size_of places items = record { places = places; items = items }

-- the greatest size that a machine may have
abbrev pub greatest_size : Size
greatest_size = size_of 1024 (2 ^ 24)

-- the sizes that a machine may have
abbrev pub are_limits : Size → Bool
are_limits size =
    nat_le 1 size.places && nat_le size.places greatest_size.places && nat_le 1 size.items && nat_le size.items greatest_size.items

-- also what stands at a number that is no place's
abbrev pub free_place : Place
free_place = record { phase = Free; found = 0; current = set.empty; prev = set.empty; next = set.empty }

abbrev pub new_state : Size → State
new_state size = record { count = 0; places = replicate size.places free_place; retired = replicate size.items false; scan = None }

abbrev pub place_at : State → ℕ → Place
place_at state place = slice_index_or state.places place free_place

abbrev pub is_free : Phase → Bool
is_free Free = true
is_free _ = false

abbrev pub is_closed : Phase → Bool
is_closed Closed = true
is_closed _ = false

abbrev pub is_reading : Phase → Bool
is_reading (Reading c) = true
is_reading _ = false

abbrev pub is_open : Phase → Bool
is_open Open = true
is_open _ = false

abbrev pub is_ended : Phase → Bool
is_ended Ended = true
is_ended _ = false

-- the count that was read and not yet published
abbrev pub read_of : Phase → ℕ
read_of (Reading c) = c
read_of _ = 0

-- the lowest number from one on that isn't the place's
abbrev pub skip : ℕ → ℕ → ℕ
skip place number = if number == place then number + 1 else number

-- nobody holds the lock
abbrev pub is_idle : Option Scan → Bool
is_idle None = true
is_idle (Some x) = false

abbrev pub holds : ℕ → Option Scan → Bool
holds place None = false
holds place (Some x) = x.holder == place

abbrev pub adopts : ℕ → Option Scan → Bool
adopts place None = false
adopts place (Some x) = x.holder == place && x.cursor == skip place 0

abbrev pub looks : ℕ → ℕ → Option Scan → Bool
looks places place None = false
looks places place (Some x) = x.holder == place && not x.failed && nat_lt x.cursor places

abbrev pub advances : ℕ → ℕ → Option Scan → Bool
advances places place None = false
advances places place (Some x) = x.holder == place && not x.advanced && not x.failed && nat_le places x.cursor

abbrev pub possible : State → Step → Bool
possible state (Register place) = nat_lt place (length state.places) && is_free (place_at state place).phase
possible state (Read place) = is_closed (place_at state place).phase
possible state (Publish place) = is_reading (place_at state place).phase
possible state (Retire place item) =
    let phase = (place_at state place).phase in
    (is_closed phase || is_open phase) && nat_lt item (length state.retired) && not (slice_index_or state.retired item false)
possible state (Lock place) = is_open (place_at state place).phase && is_idle state.scan
possible state (Adopt place) = adopts place state.scan
possible state (Look place) = looks (length state.places) place state.scan
possible state (Advance place) = advances (length state.places) place state.scan
possible state (Unlock place) = holds place state.scan
possible state (Close place) = is_open (place_at state place).phase && not (holds place state.scan)
possible state (End place) = is_closed (place_at state place).phase

-- the state with one place changed
abbrev pub with_place : State → ℕ → (Place → Place) → State
with_place state place change = record state { places = slice_set state.places place (change (place_at state place)) }

abbrev pub phased : Phase → Place → Place
phased phase x = record x { phase = phase }

abbrev pub posted : Phase → ℕ → Place → Place
posted phase found x = record x { phase = phase; found = found }

abbrev pub registered : Place → Place
registered x = record free_place { phase = Closed }

abbrev pub reading : ℕ → Place → Place
reading c = phased (Reading c)

abbrev pub closed : Place → Place
closed = phased Closed

abbrev pub ended : Place → Place
ended = phased Ended

abbrev pub retiring : ℕ → Place → Place
retiring item x = record x { current = set.insert x.current item }

-- whether the publish of what was read is a change
abbrev pub finds_another : Place → Bool
finds_another x = not (read_of x.phase == x.found)

-- the bags move on by one
abbrev pub rotated : Place → Place
rotated x = record x { current = set.empty; prev = x.current; next = x.prev }

-- At a change the bags move on by one, and what was in next is taken out.
abbrev pub published : Place → Place
published x = posted Open (read_of x.phase) (if finds_another x then rotated x else x)

-- everything left by ended places
abbrev pub left : List Place → Items
left [] = set.empty
left (x ∷ xs) = if is_ended x.phase then set.union (set.union x.current (set.union x.prev x.next)) (left xs) else left xs

-- an ended place is free, and its bags are empty
abbrev pub freed : Place → Place
freed x = if is_ended x.phase then record free_place { found = x.found } else x

abbrev pub taking : Items → Place → Place
taking items x = record x { current = set.union x.current items }

-- whether a look at x by one who found a count passes
abbrev pub passes : ℕ → Place → Bool
passes found x = not (is_open x.phase) || x.found == found

abbrev pub looked : State → Scan → Scan
looked state x = record x { cursor = skip x.holder (x.cursor + 1); failed = not (passes (place_at state x.holder).found (place_at state x.cursor)) }

abbrev pub look_passes : State → Option Scan → Bool
look_passes state None = false
look_passes state (Some x) = passes (place_at state x.holder).found (place_at state x.cursor)

-- the scan after a look, and after an advance
abbrev pub scan_looked : State → Option Scan → Option Scan
scan_looked state None = None
scan_looked state (Some x) = Some (looked state x)

abbrev pub scan_advanced : Option Scan → Option Scan
scan_advanced None = None
scan_advanced (Some x) = Some (record x { advanced = true })

abbrev pub raises : State → ℕ → Bool
raises state place = state.count == (place_at state place).found && nat_lt state.count (2 ^ 64 - 1)

-- the state after a step that is possible
abbrev pub after : State → Step → State
after state (Register place) = with_place state place registered
after state (Read place) = with_place state place (reading state.count)
after state (Publish place) = with_place state place published
after state (Retire place item) = record (with_place state place (retiring item)) { retired = slice_set state.retired item true }
after state (Lock place) = record state { scan = Some (record { holder = place; cursor = skip place 0; failed = false; advanced = false }) }
after state (Adopt place) = with_place (record state { places = map freed state.places }) place (taking (left state.places))
after state (Look place) = record state { scan = scan_looked state state.scan }
after state (Advance place) = record state { count = (if raises state place then state.count + 1 else state.count); scan = scan_advanced state.scan }
after state (Unlock place) = record state { scan = None }
after state (Close place) = with_place state place closed
after state (End place) = with_place state place ended

abbrev pub happens : State → Step → State
happens state step = if possible state step then after state step else state

-- what a publish takes out, and so reclaims
abbrev pub taken_out : Place → Items
taken_out x = if finds_another x then x.next else set.empty

abbrev pub did_possible : State → Step → Did
did_possible state (Publish place) = let x = place_at state place in Opened (read_of x.phase) (finds_another x) (set.len (taken_out x))
did_possible state (Look place) = Looked (look_passes state state.scan)
did_possible state (Advance place) = Advanced (raises state place)
did_possible state _ = Done

abbrev pub did : State → Step → Did
did state step = if possible state step then did_possible state step else NotPossible
