-- The ledger of a world: of each owner and of each right to a cell there are as many as the world needs
use Rattle.std.specs.Prelude.{ℕ, ◌+◌, ◌≡◌, ◌≤◌, ◌⊎◌, ◌==◌, max, Bool, false, IfSome, IsSome, IsTrue, List, length, Option, None, Some, is_some, sum_by, count_by}
use Rattle.sdd_participants.specs.EpochState.{EpochState, IsVacant, is_open}
use Rattle.sdd_participants.specs.Slab.{IsEmptyAt, entry_at}
use Rattle.sdd_participants.specs.declared.standing.Standing.{Standing}
use Rattle.sdd_participants.specs.declared.standing.Standing.TheVariants.{Owned, Raw, Shared}
use Rattle.sdd_participants.specs.declared.standing.CellContents.{CellContents}
use Rattle.sdd_participants.specs.declared.standing.RawCellContents.{RawCellContents}
use Rattle.sdd_world_model.specs.Slots.{IsSharedBy}
use Rattle.sdd_world_model.specs.OwnerOrCell.{OwnerOrCell, owned, shared, atomic_owned, atomic_shared, atomic_raw}
use Rattle.sdd_world_model.specs.World.{World, IsBlank, place_at, standing_at, value_at, AnyGuardOpen, IsPlaceOf}
use Rattle.sdd_world_model.specs.WorldInvariant.{IsWhole, once_if}
use Rattle.sdd_world_model.specs.Out.{IsNullCell}
use Rattle.sdd_world_model.specs.InPlace.{IsAlone, MayInPlace}
use Rattle.sdd_world_model.specs.WorldStep.{IsFirst}
use Rattle.sdd_world_model.specs.Collecting.{collected, collector_closed}
use Rattle.sdd_world_model.specs.OwnerCounts.{owner_count, is_owner_of, inner_owners}
use Rattle.sdd_world_model.specs.WorldChanges.{made_as, with_standing, with_value, with_cell, without_cell, dropped, retired, deferred, owner_given, cell_closed, held_in, opened, closed, stirred, accelerated, registered, ended}

-- what there is so much of: owners of the slot's item, or rights to the cell
pub data Claim : Type 0 where
  owner_of : (slot : ℕ) → Claim
  right_to : (cell : ℕ) → Claim

-- none of any
abbrev pub nothing : Claim → ℕ
nothing u = 0

-- one of this
abbrev pub one : Claim → Claim → ℕ
one (owner_of k) (owner_of j) = once_if (k == j)
one (owner_of k) (right_to c) = 0
one (right_to c) (owner_of k) = 0
one (right_to c) (right_to d) = once_if (c == d)

-- the owner that a cell holds, if it holds one
abbrev pub owner_held : Option ℕ → Claim → ℕ
owner_held None u = 0
owner_held (Some k) u = one (owner_of k) u

-- one thing that a value holds is the right to the cell
abbrev pub is_right_to : ℕ → OwnerOrCell → Bool
is_right_to c (owned k home) = false
is_right_to c (shared k home) = false
is_right_to c (atomic_owned d home) = d == c
is_right_to c (atomic_shared d home) = d == c
is_right_to c (atomic_raw d home) = d == c

-- so many of each are among these
abbrev pub claims : List OwnerOrCell → Claim → ℕ
claims hs (owner_of k) = count_by (is_owner_of k) hs
claims hs (right_to c) = count_by (is_right_to c) hs

-- the item has so many owners
abbrev pub HasOwners : ℕ → Option Standing → Type 0
HasOwners n s = (s ≡ Some Owned) × (n ≡ 1) ⊎ ((m : ℕ) × (s ≡ Some (Shared m)) × (n ≡ max 1 m))

module _ {T : Type 0} where
  -- so many the world needs: the owners that an item has, and one right to a cell that is taken
  abbrev pub needed : World T → Claim → ℕ
  needed w (owner_of k) = owner_count (standing_at w k)
  needed w (right_to c) = once_if (is_some (entry_at w.cells c))

  -- an item has as many owners and the same value; a cell is the same, and so is the value of what it holds
  abbrev pub IsStill : World T → World T → Claim → Type 0
  IsStill old new (owner_of k) = (needed new (owner_of k) ≡ needed old (owner_of k)) × (value_at new k ≡ value_at old k)
  IsStill old new (right_to c) =
      (entry_at new.cells c ≡ entry_at old.cells c) × IfSome (held_in (entry_at old.cells c)) (λ k. value_at new k ≡ value_at old k)

module _ {T : Type 0} (holds : T → List OwnerOrCell) where
  -- how many rights to the cell a value holds, if one is there
  abbrev pub times_kept : ℕ → Option T → ℕ
  times_kept c None = 0
  times_kept c (Some value) = count_by (is_right_to c) (holds value)

  -- so many are inside: owners in cells and in values, rights in values
  abbrev pub inside : World T → Claim → ℕ
  inside w (owner_of k) = inner_owners holds w k
  inside w (right_to c) = sum_by (times_kept c) w.values

  -- of each there are as many as the world needs: so many outside, and the others inside
  abbrev pub IsLedger : (outside : Claim → ℕ) → World T → Type 0
  IsLedger outside w = (u : Claim) → needed w u ≡ outside u + inside w u

  -- a call of a world: the world before, what the call takes from outside, the world afterwards, and what it gives
  pub data Moves : World T → (Claim → ℕ) → World T → (Claim → ℕ) → Type 0 where
    registers : (w : World T) (p : ℕ) → IsVacant w.time p → Moves w nothing (registered w p) nothing
    ends : (w : World T) (p : ℕ) → IsPlaceOf w p → ¬ (IsTrue (is_open (place_at w p))) → Moves w nothing (ended w p) nothing
    opens : (w : World T) (p : ℕ) → IsPlaceOf w p → Moves w nothing (opened holds w p) nothing
    closes : (w : World T) (p : ℕ) → IsPlaceOf w p → Moves w nothing (closed w p) nothing
    stirs : (w : World T) (p : ℕ) → IsPlaceOf w p → Moves w nothing (stirred w p) nothing
    accelerates : (w : World T) (p : ℕ) → IsPlaceOf w p → Moves w nothing (accelerated w p) nothing
    defers : (w : World T) (p j : ℕ) → IsPlaceOf w p → IsEmptyAt w.jobs j → Moves w nothing (deferred w p j) nothing
    changes_pointers : (w : World T) (pointers : List RawCellContents) → length pointers ≡ length w.pointers →
        Moves w nothing (record w { pointers = pointers }) nothing
    -- the first owner of a new item, whose value has what it holds from outside
    makes : (w : World T) (k : ℕ) (value : T) (s : Standing) → IsFirst s → IsEmptyAt w.standings k →
        Moves w (claims (holds value)) (made_as w k value s) (one (owner_of k))
    -- one owner more: no owner is needed for it, but a pointer
    shares : (w : World T) (k n : ℕ) → IsSharedBy n (standing_at w k) → Moves w nothing (with_standing w k (Shared (n + 1))) (one (owner_of k))
    retires : (w : World T) (p k : ℕ) → IsPlaceOf w p → standing_at w k ≡ Some Owned → Moves w (one (owner_of k)) (retired w p k) nothing
    releases : (w : World T) (p k n : ℕ) → IsPlaceOf w p → standing_at w k ≡ Some (Shared n) →
        Moves w (one (owner_of k)) (owner_given w p k (Some (Shared n))) nothing
    collects : (w : World T) (p c k : ℕ) → IsPlaceOf w p → IsAlone (standing_at w k) → Moves w (one (owner_of k)) (collected w p c k) nothing
    drops : (w : World T) (p k : ℕ) → IsPlaceOf w p → MayInPlace w k → Moves w (one (owner_of k)) (dropped holds w p k) nothing
    puts_out_raw : (w : World T) (k : ℕ) → standing_at w k ≡ Some Owned → Moves w (one (owner_of k)) (with_standing w k Raw) nothing
    takes_back_raw : (w : World T) (k : ℕ) → standing_at w k ≡ Some Raw → Moves w nothing (with_standing w k Owned) (one (owner_of k))
    -- the one owner is there before and afterwards; what the value holds comes from outside, and what the one before held is there
    edits : (w : World T) (k : ℕ) (old value : T) → MayInPlace w k → value_at w k ≡ Some old →
        Moves w (λ u. one (owner_of k) u + claims (holds value) u) (with_value w k value) (λ u. one (owner_of k) u + claims (holds old) u)
    makes_cell : (w : World T) (c : ℕ) (cell : CellContents) → IsEmptyAt w.cells c → Moves w (owner_held cell.held) (with_cell w c cell) (one (right_to c))
    changes_cell : (w : World T) (c : ℕ) (old cell : CellContents) → entry_at w.cells c ≡ Some old →
        Moves w (owner_held cell.held) (with_cell w c cell) (owner_held old.held)
    spends_cell : (w : World T) (c : ℕ) (old : CellContents) → entry_at w.cells c ≡ Some old
        → Moves w (one (right_to c)) (without_cell w c) (owner_held old.held)
    closes_cell : (w : World T) (p c : ℕ) → IsPlaceOf w p → Moves w (one (right_to c)) (cell_closed w p c) nothing
    closes_collector : (w : World T) (p c : ℕ) → IsPlaceOf w p → ¬ (AnyGuardOpen w) → IsNullCell w c →
        Moves w (one (right_to c)) (collector_closed holds w p c) nothing

  -- it is the right to the cell that the call sets
  abbrev pub Sets : {v w : World T} {ins outs : Claim → ℕ} → Moves v ins w outs → Claim → Type 0
  Sets (changes_cell w c old cell is) u = u ≡ right_to c
  Sets other u = ⊥

  -- so many of each the call puts inside: into a value, or into a cell
  abbrev pub put : {v w : World T} {ins outs : Claim → ℕ} → Moves v ins w outs → Claim → ℕ
  put (makes w k value s first empty) u = claims (holds value) u
  put (edits w k old value may is) u = claims (holds value) u
  put (makes_cell w c cell free) u = owner_held cell.held u
  put (changes_cell w c old cell is) u = owner_held cell.held u
  put other u = 0

  -- what a call keeps: its caller has what it takes, and others have so many besides
  pub record Keeps {v w : World T} {ins outs : Claim → ℕ} (move : Moves v ins w outs) : Type 0 where
    pub whole : IsWhole w
    -- what it takes is outside no more, and what it gives is
    pub ledger : (others : Claim → ℕ) → IsLedger (λ u. others u + ins u) v → IsLedger (λ u. others u + outs u) w
    -- nothing comes inside but what it puts there, which is of what it takes
    pub no_more : (u : Claim) → inside w u ≤ inside v u + put move u
    pub taken : (u : Claim) → put move u ≤ ins u
    -- an item that others own, or that a cell or a value holds, has the value that it had
    pub values : (others : Claim → ℕ) → IsLedger (λ u. others u + ins u) v → (k : ℕ) → 1 ≤ others (owner_of k) + inside w (owner_of k) →
        value_at w k ≡ value_at v k
    -- a cell to which others, or a value, have the right is as it was, unless this call sets it
    pub cells : (others : Claim → ℕ) → IsLedger (λ u. others u + ins u) v → (c : ℕ) → 1 ≤ others (right_to c) + inside w (right_to c) →
        ¬ (Sets move (right_to c)) → entry_at w.cells c ≡ entry_at v.cells c

  -- what a ledger tells of a world
  pub record Tells (outside : Claim → ℕ) (w : World T) : Type 0 where
    -- who has the right to a cell is alone: the cell is there, and nobody else and no value has the right to it
    pub alone : (c : ℕ) → 1 ≤ outside (right_to c) → IsSome (entry_at w.cells c) × (outside (right_to c) ≡ 1) × (inside w (right_to c) ≡ 0)
    -- as many share an item as are outside and inside
    pub shared : (k owners : ℕ) → IsSharedBy owners (standing_at w k) → owners ≡ outside (owner_of k) + inside w (owner_of k)
    -- what has owners stands as owned by one, or as shared by so many
    pub stands : (k : ℕ) → 1 ≤ outside (owner_of k) + inside w (owner_of k) →
        HasOwners (outside (owner_of k) + inside w (owner_of k)) (standing_at w k)
    -- an item that can't be shared has one owner
    pub owned : (k : ℕ) → standing_at w k ≡ Some Owned → outside (owner_of k) + inside w (owner_of k) ≡ 1
    -- of what isn't there nobody has any
    pub free : (k : ℕ) → standing_at w k ≡ None → (outside (owner_of k) ≡ 0) × (inside w (owner_of k) ≡ 0)
    -- what a cell holds is inside, and so is what a value holds
    pub in_cell : (c k : ℕ) → held_in (entry_at w.cells c) ≡ Some k → 1 ≤ inside w (owner_of k)
    pub in_value : (k : ℕ) (value : T) → value_at w k ≡ Some value → (u : Claim) → claims (holds value) u ≤ inside w u

  -- calls of others, one after another, by which they get none of this and don't set it; so many of each they have before, and afterwards
  pub data CallsBeside (u : Claim) : World T → (Claim → ℕ) → World T → (Claim → ℕ) → Type 0 where
    no_call : (w : World T) (theirs : Claim → ℕ) → CallsBeside u w theirs w theirs
    one_call : (t v w : World T) (before theirs now ins outs : Claim → ℕ) → CallsBeside u t before v theirs → (move : Moves v ins w outs) →
        ((x : Claim) → ins x ≤ theirs x) → ((x : Claim) → now x + ins x ≡ theirs x + outs x) → outs u ≡ 0 → ¬ (Sets move u) →
        CallsBeside u t before w now

  -- it is as it was, and all of it is still mine
  pub record StaysMine (mine theirs : Claim → ℕ) (old new : World T) (u : Claim) : Type 0 where
    pub ledger : IsLedger (λ x. mine x + theirs x) new
    pub none_theirs : theirs u ≡ 0
    pub none_inside : inside new u ≡ 0
    pub still : IsStill old new u

-- the laws of the ledger
pub record LedgerLaws {T : Type 0} (holds : T → List OwnerOrCell) (w : World T) : Type 0 where
  -- a world without items needs nothing
  pub blank : (t : EpochState) (slots cells jobs : ℕ) → IsBlank t slots cells jobs w → IsLedger holds nothing w
  -- each call keeps it
  pub kept : IsWhole w → (ins outs : Claim → ℕ) (new : World T) (move : Moves holds w ins new outs) → Keeps holds move
  -- it tells how items and cells stand
  pub tells : (outside : Claim → ℕ) → IsLedger holds outside w → Tells holds outside w
  -- who has all owners of an item, or the right to a cell, has them still after calls of others, and the item or the cell is as it was
  pub stays : IsWhole w → (u : Claim) (mine before theirs : Claim → ℕ) (new : World T) → IsLedger holds (λ x. mine x + before x) w → 1 ≤ mine u →
      before u ≡ 0 → inside holds w u ≡ 0 → CallsBeside holds u w before new theirs → StaysMine holds mine theirs w new u
