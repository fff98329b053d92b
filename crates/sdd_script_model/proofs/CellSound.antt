-- What is always true of a state is true after each call of a cell
use Rattle.sdd_script_model.proofs.Words.{◌≡◌, ℕ, ◌+◌, ◌<◌, ◌≤◌, true, List, [], ◌∷◌, ◌++◌, Option, Some, None, IsSome, length, slice_set, refl, sym, ap, ◌∙◌, arith, inl, Tag, IsEmptyAt, entry_at, CellContents, Shared, is_waiting, Claim, right_to, one, owner_held, makes_cell, changes_cell, spends_cell, closes_cell, OwnerOrCell, IsOf, is_out, held_in, with_cell, without_cell, cell_closed, IsWhole, World, IsPlaceOf, standing_at, out-some, out-waits-not, OwnerName, Val, ScriptState, IsDated, holding_at, name_at, cell_of, in_world, shared_once_more, slot_put, owners_put, owners_taken, cell_as, owner_as, IsSound, named, named_among, IsStored, if◌then◌else◌, FitsSole, FitsShared, FitsCell, MayShare, IsCell, common_steps}
use Rattle.sdd_core.specs.declared.tag.Tag.TheVariants.{None as no_tag}
use Rattle.sdd_script_model.proofs.Lemmas.{name-some, slot-inside, closed-other, dated-same, dated-stands, dated-either, IsPut, accounts, cell-given, cell-out, cell-spent, put-spent, some-holding, taken-given, tells, some-entry, closed-bare, AtHome, IsMidway, LeavesSound, at_home-given, at_home-spent, finishes, midway-as, moves, retags, shares-one, BagsStay, off-held, off-other, starts}
use Rattle.sdd_world_model.specs.OwnerOrCell as holding

-- ---- what goes into a cell

pub put-sole : (d : ScriptState) (x : Option OwnerName) → FitsSole d x → IsPut d x
put-sole d x fits = grind (arith, common_steps)

pub put-shared : (d : ScriptState) (x : Option OwnerName) → FitsShared d x → IsPut d x
put-shared d x fits = grind (arith, common_steps)

pub put-fits : (d : ScriptState) (cell : Option OwnerOrCell) (x : Option OwnerName) → FitsCell d cell x → IsPut d x
put-fits d cell x h = grind (arith, common_steps)

-- ---- cells and owners of a kind

cell_as-number : (like : Option OwnerOrCell) (c : ℕ) (d : ScriptState) → cell_of (Some (cell_as like c d)) ≡ Some c
cell_as-number like c d = grind arith

cell_as-home : (like : Option OwnerOrCell) (c : ℕ) (d : ScriptState) → IsOf d.world.home (cell_as like c d)
cell_as-home like c d = grind arith

owner_as-home : (like : Option OwnerOrCell) (k : ℕ) (d : ScriptState) → IsOf d.world.home (owner_as like k d)
owner_as-home like k d = grind arith

-- ---- names that are spent and given

module _ (d : ScriptState) where
  put-home : (x : Option OwnerName) → AtHome d.world.home d.owners → AtHome d.world.home (owners_put d.owners x)
  put-home x home = grind (arith, common_steps)

  taken-home : (owners : List (Option OwnerOrCell)) (like : Option OwnerOrCell) (held : Option ℕ) → AtHome d.world.home owners →
      AtHome d.world.home (owners_taken d owners like held)
  taken-home owners like held home = grind (arith, common_steps)

-- the dates after an owner of this slot, or none, is given up, and the world is this
abbrev pub dates_spilled : ScriptState → World Val → Option ℕ → List ℕ
dates_spilled d w None = d.dates
dates_spilled d w (Some k) = if is_waiting (standing_at w k) then slice_set d.dates k d.moment else d.dates

module _ (d : ScriptState) (s : IsSound d) where
  -- ---- what is in a cell with a name

  -- the right to the cell of a name is outside
  named-right : (owners : List (Option OwnerOrCell)) (n c : ℕ) → cell_of (holding_at d.cells n) ≡ Some c →
      1 ≤ named_among owners d.cells d.collectors (right_to c)
  named-right owners n c named = grind (arith, common_steps)

  pub cell-there : (n c : ℕ) → cell_of (holding_at d.cells n) ≡ Some c → (cell : CellContents) × IsCell d n c cell
  cell-there n c named =
      let there = some-entry (entry_at d.world.cells c) ((tells d s).alone c (omega (arith, named-right d.owners n c named))).0 in
      (there.0, record { named = named; holds = there.1 })

  -- the item that a cell holds is out, in a slot that has a name and a date
  pub held-out : (n c k : ℕ) (cell : CellContents) → IsCell d n c cell → cell.held ≡ Some k → is_out (standing_at d.world k) ≡ true
  held-out n c k cell is held = cell-out d (accounts d s) c k (ap held_in is.holds ∙ held)

  -- it is no storage of a bag
  pub held-apart : (n c k : ℕ) (cell : CellContents) → IsCell d n c cell → cell.held ≡ Some k → IsStored d.bags d.world k → ⊥
  held-apart n c k cell is held =
      let stays : BagsStay d.bags d.world d.world = λ m b es at stands. stands in
      let off = off-other d d.world (named d) s.ledger stays c (omega (arith, named-right d.owners n c is.named)) in
      off-held d d.world (named d) s.ledger stays c k (λ x. off (inl x)) (ap held_in is.holds ∙ held)

  pub held-named : (n c k : ℕ) (cell : CellContents) → IsCell d n c cell → cell.held ≡ Some k → IsSome (name_at d k)
  held-named n c k cell is held = name-some d s.stocked k (held-out n c k cell is held) (held-apart n c k cell is held)

  pub held-dated : (n c k : ℕ) (cell : CellContents) → IsCell d n c cell → cell.held ≡ Some k → k < length d.dates
  held-dated n c k cell is held = (slot-inside d s.stocked k (out-some (standing_at d.world k) (held-out n c k cell is held))).1

  module _ (whole : IsWhole d.world) where
    -- ---- a cell is made, for owners of the kind of another one
    module _ (p c : ℕ) (like : Option OwnerOrCell) (x : Option OwnerName) (live : IsPlaceOf d.world p) (free : IsEmptyAt d.world.cells c) (put : IsPut d x)
      where
        abbrev pub new_cell : CellContents
        new_cell = record { held = slot_put d x; tag = no_tag }

        abbrev pub after_celled : ScriptState
        after_celled = record d {
          world = with_cell d.world c new_cell;
          owners = owners_put d.owners x;
          cells = d.cells ++ Some (cell_as like c d) ∷ [];
        }

        pub celled-leaves : LeavesSound d after_celled
        celled-leaves =
            let left = owners_put d.owners x in
            finishes d after_celled.world left after_celled.cells d.collectors d.dates s
            (moves (starts d s whole) (makes_cell d.world c new_cell free) tt (named_among left d.cells d.collectors)
            (put-spent d d.cells d.collectors x put) (λ u never. absurd never))
            (cell-given left d.cells d.collectors (cell_as like c d) c (cell_as-number like c d))
            (put-home d x s.home.owners, at_home-given d.world.home d.cells (cell_as like c d) (cell_as-home like c d) s.home.cells, s.home.collectors)
            (dated-same d after_celled refl refl) p live

    -- ---- the tag of a cell changes alone: what it holds goes out, and in again
    module _ (p c : ℕ) (cell : CellContents) (live : IsPlaceOf d.world p) (holds : entry_at d.world.cells c ≡ Some cell) (tag : Tag) where
      abbrev pub after_tagged : ScriptState
      after_tagged = in_world d (with_cell d.world c (record cell { tag = tag }))

      pub tagged-leaves : (n : ℕ) → cell_of (holding_at d.cells n) ≡ Some c → LeavesSound d after_tagged
      tagged-leaves n is =
          finishes d after_tagged.world d.owners d.cells d.collectors d.dates s
          (retags (starts d s whole) c cell (record cell { tag = tag }) holds refl (named-right d.owners n c is))
          (λ u. refl) (s.home.owners, s.home.cells, s.home.collectors) (dated-same d after_tagged refl refl) p live

    -- ---- a cell with a name
    module _ (p n c : ℕ) (cell : CellContents) (live : IsPlaceOf d.world p) (is : IsCell d n c cell) where
      -- what it stands for
      its : (h : OwnerOrCell) × (holding_at d.cells n ≡ Some h) × (cell_of (Some h) ≡ Some c)
      its = some-holding cell_of refl (holding_at d.cells n) c is.named

      -- so its right is outside
      own-right : (owners : List (Option OwnerOrCell)) (u : Claim) → u ≡ right_to c → 1 ≤ named_among owners d.cells d.collectors u
      own-right owners u e = rw e (named-right owners n c is.named)

      cell-right : (owners : List (Option OwnerOrCell)) (u : Claim) →
          named_among owners d.cells d.collectors u ≡ named_among owners (slice_set d.cells n None) d.collectors u + one (right_to c) u
      cell-right owners = cell-spent owners d.cells d.collectors n c its.0 its.1 its.2

      -- it holds something else, and what it held has a name
      module _ (x : Option OwnerName) (tag : Tag) (put : IsPut d x) where
        abbrev pub now_cell : CellContents
        now_cell = record { held = slot_put d x; tag = tag }

        abbrev pub after_swapped : ScriptState
        after_swapped = record d {
          world = with_cell d.world c now_cell;
          owners = owners_taken d (owners_put d.owners x) (holding_at d.cells n) cell.held;
        }

        pub swapped-leaves : LeavesSound d after_swapped
        swapped-leaves =
            let left = owners_put d.owners x in
            finishes d after_swapped.world after_swapped.owners d.cells d.collectors d.dates s
            (moves (starts d s whole) (changes_cell d.world c cell now_cell is.holds) tt (named_among left d.cells d.collectors)
            (put-spent d d.cells d.collectors x put) (own-right left))
            (taken-given d d.cells d.collectors left (holding_at d.cells n) cell.held)
            (taken-home d left (holding_at d.cells n) cell.held (put-home d x s.home.owners), s.home.cells, s.home.collectors)
            (dated-same d after_swapped refl refl) p live

      -- it is spent, and what it held has a name
      abbrev pub after_taken : ScriptState
      after_taken = record d {
        world = without_cell d.world c;
        owners = owners_taken d d.owners (holding_at d.cells n) cell.held;
        cells = slice_set d.cells n None;
      }

      pub taken-leaves : LeavesSound d after_taken
      taken-leaves =
          finishes d after_taken.world after_taken.owners after_taken.cells d.collectors d.dates s
          (moves (starts d s whole) (spends_cell d.world c cell is.holds) tt (named_among d.owners after_taken.cells d.collectors)
          (cell-right d.owners) (λ u never. absurd never))
          (taken-given d after_taken.cells d.collectors d.owners (holding_at d.cells n) cell.held)
          (taken-home d d.owners (holding_at d.cells n) cell.held s.home.owners, at_home-spent d.world.home d.cells n s.home.cells, s.home.collectors)
          (dated-same d after_taken refl refl) p live

      -- it is spent, and what it held is given up
      abbrev pub after_cell_closed : ScriptState
      after_cell_closed = record d {
        world = cell_closed d.world p c;
        cells = slice_set d.cells n None;
        dates = dates_spilled d (cell_closed d.world p c) cell.held;
      }

      dated-cell_closed : IsDated d after_cell_closed
      dated-cell_closed = by cell.held refl where
        held-in : held_in (entry_at d.world.cells c) ≡ cell.held
        held-in = ap held_in is.holds

        by : (held : Option ℕ) → cell.held ≡ held → IsDated d after_cell_closed
        by None e =
            dated-same d after_cell_closed (ap (dates_spilled d (cell_closed d.world p c)) e)
            (ap (λ (w : World Val). w.standings) (closed-bare d.world p c (held-in ∙ e)))
        by (Some k) e =
            let idle = out-waits-not (standing_at d.world k) (held-out n c k cell is e) in
            dated-either d after_cell_closed k idle (held-dated n c k cell is e) (ap (dates_spilled d (cell_closed d.world p c)) e)
            (λ j apart waits. sym (ap is_waiting (closed-other d.world p c j (λ same. apart (cc (held-in, e))))) ∙ waits)

      pub cell_closed-leaves : LeavesSound d after_cell_closed
      cell_closed-leaves =
          finishes d after_cell_closed.world d.owners after_cell_closed.cells d.collectors after_cell_closed.dates s
          (moves (starts d s whole) (closes_cell d.world p c live) tt (named_among d.owners after_cell_closed.cells d.collectors)
          (cell-right d.owners) (λ u never. absurd never))
          (λ u. omega arith) (s.home.owners, at_home-spent d.world.home d.cells n s.home.cells, s.home.collectors) dated-cell_closed p live

      -- another cell is made, which holds what it holds, with one owner more
      module _ (other owners : ℕ) (free : IsEmptyAt d.world.cells other) (may : MayShare d.world cell.held owners) where
        -- if it holds this
        abbrev pub copied_as : Option ℕ → ScriptState
        copied_as held = record d {
          world = with_cell (shared_once_more d.world held owners) other cell;
          cells = d.cells ++ Some (holding.atomic_shared other d.world.home.cells) ∷ [];
        }

        abbrev pub after_copied : ScriptState
        after_copied = copied_as cell.held

        -- the owner more is in hand
        shared-once : (held : Option ℕ) → cell.held ≡ held → MayShare d.world held owners →
            IsMidway d (shared_once_more d.world held owners) (λ u. named d u + owner_held held u)
        shared-once None e may = midway-as (starts d s whole) (λ u. omega arith)
        shared-once (Some k) e may = shares-one (starts d s whole) k owners may.0 (held-apart n c k cell is e)

        still-free : (held : Option ℕ) → IsEmptyAt (shared_once_more d.world held owners).cells other
        still-free held = grind arith

        once-dated : (held : Option ℕ) → IsDated d (copied_as held)
        once-dated None = dated-same d (copied_as None) refl refl
        once-dated (Some k) = dated-stands d (copied_as (Some k)) k (Shared (owners + 1)) refl refl refl

        pub copied-leaves : LeavesSound d after_copied
        copied-leaves =
            let h = holding.atomic_shared other d.world.home.cells in
            finishes d after_copied.world d.owners after_copied.cells d.collectors d.dates s
            (moves (shared-once cell.held refl may) (makes_cell (shared_once_more d.world cell.held owners) other cell (still-free cell.held)) tt (named d)
            (λ u. refl) (λ u never. absurd never))
            (cell-given d.owners d.cells d.collectors h other refl)
            (s.home.owners, at_home-given d.world.home d.cells h refl s.home.cells, s.home.collectors) (once-dated cell.held) p live
