-- Where the owners of items go
use Rattle.std.proofs.Common.{◌≡◌, ◌≢◌, ◌⊎◌, inl, inr, ℕ, ◌+◌, ◌<◌, ◌≤◌, List, [], ◌∷◌, length, cond, Bool, refl, sym, ap, ◌∙◌, arith, true, false, Some, None, nat_lt, Option, zero, suc, slice_index_or, slice_set, map, sum_by, count_by}
use Rattle.std.specs.Prelude.{◌==◌, ◌-◌, max, is_some, replicate, if◌then◌else◌, Contains}
use Rattle.std.proofs.lemmas.List.{length-map, get_or-set_same, get_or-set_other}
use Rattle.std.proofs.lemmas.List.Sums.{sum_by-set, sum_by-cons}
use Rattle.std.proofs.lemmas.Bool.Decides.{nat_tests}
use Rattle.sdd_core.specs.declared.tag.Tag.TheVariants.{None as no_tag}
use Rattle.sdd_participants.proofs.Adoptions.{same-or-not, none-there}
use Rattle.sdd_participants.specs.declared.waiting.LimboEntry.{LimboEntry}
use Rattle.sdd_participants.specs.declared.waiting.LimboEntry.TheVariants.{Item, Job}
use Rattle.sdd_participants.specs.EpochState.{EpochState, due_next, is_open}
use Rattle.sdd_participants.specs.EpochState as time
use Rattle.sdd_participants.specs.Slab.{Entries, IsEmptyAt, entry_at}
use Rattle.sdd_participants.specs.declared.standing.Standing.{Standing}
use Rattle.sdd_participants.specs.declared.standing.Standing.TheVariants.{Owned, Raw, Shared, Retired, Private as privately}
use Rattle.sdd_participants.specs.declared.standing.CellContents.{CellContents}
use Rattle.sdd_world_model.specs.World.{World, IsBlank, standing_at, value_at, place_at}
use Rattle.sdd_world_model.specs.WorldChanges.{made_as, with_standing, retired, nulled, with_cell, without_cell, spilled, cell_closed, held_in, owner_given, given, given_all, freed, vacated, with_value, dropped_out, dropped, taken_out, waiting_value, slot_reclaimed, reclaimed, all_reclaimed, caught_up, changed, opened}
use Rattle.sdd_world_model.specs.WorldChanges as steps
use Rattle.sdd_world_model.specs.OwnerOrCell.{OwnerOrCell, owned, shared, atomic_owned, atomic_shared, atomic_raw}
use Rattle.sdd_world_model.specs.WorldStep.{IsFirst}
use Rattle.sdd_world_model.specs.Out.{is_out}
use Rattle.sdd_world_model.specs.OwnerCounts.{owner_count, is_owner_of, is_of, holds_slot, times_held, inner_owners, IsAccounted}
use Rattle.sdd_world_model.proofs.WaitingCounts.{in_range}
use Rattle.sdd_world_model.proofs.WorldInvariant.{one_where, count-cons, filled-there}

-- a sum is less by what is taken out of a list
pub sum-out : {E : Type 0} (f : Option E → ℕ) → f None ≡ 0 → (xs : List (Option E)) (k : ℕ) →
    sum_by f (slice_set xs k None) + f (slice_index_or xs k None) ≡ sum_by f xs
sum-out f none [] k = omega (arith, none)
sum-out f none (x ∷ xs) zero = omega (arith, none, sum_by-cons f None xs, sum_by-cons f x xs)
sum-out f none (x ∷ xs) (suc k) = omega (arith, sum-out f none xs k, sum_by-cons f x (slice_set xs k None), sum_by-cons f x xs)

-- one owner of slot k, as slot j counts it
one-here : (k j : ℕ) → j ≡ k → one_where (k == j) ≡ 1
one-here k j e = let same : (k == j) ≡ true = grind (arith, nat_tests) in rw same refl

none-here : (k j : ℕ) → j ≢ k → one_where (k == j) ≡ 0
none-here k j apart = let other : (k == j) ≡ false = grind (arith, nat_tests) in rw other refl

pub none-filled : {T : Type 0} (v : Option T) → is_some v ≡ false → v ≡ None
none-filled None e = refl
none-filled (Some v) e = absurd (cc)

pub filled-inside : {A B : Type 0} (vs : List (Option A)) (ss : List (Option B)) (k : ℕ) → map is_some vs ≡ map is_some ss → k < length ss → k < length vs
filled-inside vs ss k e l =
    let same : length (map is_some vs) ≡ length (map is_some ss) = ap (λ (bs : List Bool). length bs) e in
    omega (arith, l, same, length-map vs is_some, length-map ss is_some)

first-count : (s : Standing) → IsFirst s → owner_count (Some s) ≡ 1
first-count s (inl e) = rw e refl
first-count s (inr e) = rw e refl

pub blank-at : {E : Type 0} (n k : ℕ) → slice_index_or (replicate {A = Option E} n None) k None ≡ None
blank-at zero k = refl
blank-at (suc n) zero = refl
blank-at (suc n) (suc k) = blank-at n k

pub blank-sum : {E : Type 0} (f : Option E → ℕ) → f None ≡ 0 → (n : ℕ) → sum_by f (replicate n None) ≡ 0
blank-sum f none zero = refl
blank-sum f none (suc n) = omega (arith, none, sum_by-cons f None (replicate n None), blank-sum f none n)

-- what has an owner is out
counted-out : (s : Option Standing) → 1 ≤ owner_count s → is_out s ≡ true
counted-out None l = absurd (omega (arith, l))
counted-out (Some Owned) l = refl
counted-out (Some Raw) l = refl
counted-out (Some (Shared n)) l = refl
counted-out (Some Retired) l = absurd (omega (arith, l))
counted-out (Some (privately c)) l = absurd (omega (arith, l))

-- what a list has counts
among-held : (hs : List OwnerOrCell) (k i : ℕ) (h : OwnerOrCell) → i < length hs → slice_index_or hs i h ≡ h → is_owner_of k h ≡ true →
    1 ≤ count_by (is_owner_of k) hs
among-held [] k i h l e is = absurd (omega (arith, l))
among-held (x ∷ hs) k zero h l e is =
    let one : one_where (is_owner_of k x) ≡ 1 = rw (e, is) refl in
    omega (arith, one, count-cons (is_owner_of k) x hs)
among-held (x ∷ hs) k (suc i) h l e is = omega (arith, among-held hs k i h (omega (arith, l)) e is, count-cons (is_owner_of k) x hs)

module _ {T : Type 0} (holds : T → List OwnerOrCell) where
  -- as many are outside, though told otherwise
  pub accounted-as : (outside now : ℕ → ℕ) (w : World T) → ((j : ℕ) → now j ≡ outside j) → IsAccounted holds outside w → IsAccounted holds now w
  accounted-as outside now w same a j = omega (arith, a j, same j)

  -- a world without items
  pub accounted-blank : (w : World T) (t : EpochState) (slots cells jobs : ℕ) → IsBlank t slots cells jobs w → IsAccounted holds (λ _. 0) w
  accounted-blank w t slots cells jobs blank k =
      let free = blank-at slots k in
      let stands = ap (λ (ss : Entries Standing). owner_count (entry_at ss k)) blank.standings ∙ ap owner_count free in
      let no_cells = blank-sum (λ (x : Option CellContents). cond (holds_slot k x) 1 0) refl cells in
      let in_cells = ap (λ (cs : Entries CellContents). count_by (holds_slot k) cs) blank.cells ∙ no_cells in
      let no_values = blank-sum (times_held holds k) refl slots in
      let in_values = ap (λ (vs : List (Option T)). sum_by (times_held holds k) vs) blank.values ∙ no_values in
      omega (arith, stands, in_cells, in_values)

  -- ---- an owner is given
  fewer-at : (w : World T) (k j : ℕ) (s : Option Standing) (outside now : ℕ → ℕ) → k < length w.standings →
      owner_count (standing_at w k) ≡ owner_count s + 1 → outside j ≡ now j + one_where (k == j) → (j ≡ k) ⊎ (j ≢ k) →
      owner_count (standing_at w j) ≡ outside j + inner_owners holds w j →
      owner_count (entry_at (slice_set w.standings k s) j) ≡ now j + inner_owners holds w j
  fewer-at w k j s outside now l count less (inl e) a =
      let here : entry_at (slice_set w.standings k s) j ≡ s = rw e (get_or-set_same w.standings k s None l) in
      let there : owner_count (standing_at w j) ≡ owner_count s + 1 = rw e count in
      rw here (omega (arith, there, less, one-here k j e, a))
  fewer-at w k j s outside now l count less (inr apart) a =
      rw (get_or-set_other w.standings k j s None apart) (omega (arith, less, none-here k j apart, a))

  -- one of several, or the last
  pub fewer : (w : World T) (t : EpochState) (k : ℕ) (s : Option Standing) (outside now : ℕ → ℕ) → k < length w.standings →
      owner_count (standing_at w k) ≡ owner_count s + 1 → ((j : ℕ) → outside j ≡ now j + one_where (k == j)) → IsAccounted holds outside w →
      IsAccounted holds now (record w { time = t; standings = slice_set w.standings k s })
  fewer w t k s outside now l count less a j = fewer-at w k j s outside now l count (less j) (same-or-not j k) (a j)

  module _ (w : World T) (p k : ℕ) (outside now : ℕ → ℕ) (less : (j : ℕ) → outside j ≡ now j + one_where (k == j)) (a : IsAccounted holds outside w) where
    -- an owner is there
    one-there : 1 ≤ owner_count (standing_at w k)
    one-there = omega (arith, a k, less k, one-here k k refl)

    given-retired : (s : Standing) → standing_at w k ≡ Some s → owner_count (standing_at w k) ≡ 1 → IsAccounted holds now (retired w p k)
    given-retired s is one =
        fewer w (time.awaiting_at w.time p (Item k)) k (Some Retired) outside now (in_range w.standings k s is) one less a

    given-shared : (n : ℕ) → standing_at w k ≡ Some (Shared n) → (b : Bool) → nat_lt 1 n ≡ b → IsAccounted holds now (owner_given w p k (Some (Shared n)))
    given-shared n is true e =
        let several : 1 < n = grind (arith, nat_tests, e) in
        let count : owner_count (standing_at w k) ≡ max 1 n = ap owner_count is in
        rw e (fewer w w.time k (Some (Shared (n - 1))) outside now (in_range w.standings k (Shared n) is) (omega (arith, count, several)) less a)
    given-shared n is false e =
        let last : n ≤ 1 = grind (arith, nat_tests, e) in
        let count : owner_count (standing_at w k) ≡ max 1 n = ap owner_count is in
        rw e (given-retired (Shared n) is (omega (arith, count, last)))

    -- p is given an owner of slot k: there is one fewer outside
    pub accounted-owner_given : (s : Option Standing) → standing_at w k ≡ s → IsAccounted holds now (owner_given w p k s)
    accounted-owner_given None is = absurd (omega (arith, one-there, ap owner_count is))
    accounted-owner_given (Some Owned) is = given-retired Owned is (ap owner_count is)
    accounted-owner_given (Some Raw) is = absurd (omega (arith, one-there, ap owner_count is))
    accounted-owner_given (Some (Shared n)) is = given-shared n is (nat_lt 1 n) refl
    accounted-owner_given (Some Retired) is = absurd (omega (arith, one-there, ap owner_count is))
    accounted-owner_given (Some (privately c)) is = absurd (omega (arith, one-there, ap owner_count is))

  -- ---- a cell
  -- it holds something else: that comes from outside, and what it held is there
  pub accounted-with_cell : (w : World T) (c : ℕ) (cell : CellContents) (outside now : ℕ → ℕ) → c < length w.cells →
      ((j : ℕ) → now j + one_where (holds_slot j (Some cell)) ≡ outside j + one_where (holds_slot j (entry_at w.cells c))) →
      IsAccounted holds outside w → IsAccounted holds now (with_cell w c cell)
  accounted-with_cell w c cell outside now l moved a j =
      omega (arith, a j, moved j, sum_by-set (λ (x : Option CellContents). cond (holds_slot j x) 1 0) w.cells c (Some cell) None l)

  -- it is free: what it held is outside
  pub accounted-without_cell : (w : World T) (c : ℕ) (outside now : ℕ → ℕ) →
      ((j : ℕ) → now j ≡ outside j + one_where (holds_slot j (entry_at w.cells c))) →
      IsAccounted holds outside w → IsAccounted holds now (without_cell w c)
  accounted-without_cell w c outside now more a j =
      omega (arith, a j, more j, sum-out (λ (x : Option CellContents). cond (holds_slot j x) 1 0) refl w.cells c)

  -- what a cell held is given to p
  pub accounted-spilled : (w : World T) (p : ℕ) (held : Option ℕ) (outside now : ℕ → ℕ) → ((j : ℕ) → outside j ≡ now j + one_where (is_of j held)) →
      IsAccounted holds outside w → IsAccounted holds now (spilled w p held)
  accounted-spilled w p None outside now less a = accounted-as outside now w (λ j. omega (arith, less j)) a
  accounted-spilled w p (Some k) outside now less a = accounted-owner_given w p k outside now less a (standing_at w k) refl

  pub accounted-cell_closed : (w : World T) (p c : ℕ) (outside : ℕ → ℕ) → IsAccounted holds outside w → IsAccounted holds outside (cell_closed w p c)
  accounted-cell_closed w p c outside a =
      let mid : ℕ → ℕ = λ j. outside j + one_where (holds_slot j (entry_at w.cells c)) in
      accounted-spilled (without_cell w c) p (held_in (entry_at w.cells c)) mid outside (λ j. refl)
      (accounted-without_cell w c outside mid (λ j. refl) a)

  -- ---- what a value held is given to p
  pub accounted-given : (w : World T) (p : ℕ) (h : OwnerOrCell) (outside now : ℕ → ℕ) → ((j : ℕ) → outside j ≡ now j + one_where (is_owner_of j h)) →
      IsAccounted holds outside w → IsAccounted holds now (given w p h)
  accounted-given w p (owned k home) outside now less a = accounted-owner_given w p k outside now less a (standing_at w k) refl
  accounted-given w p (shared k home) outside now less a = accounted-owner_given w p k outside now less a (standing_at w k) refl
  accounted-given w p (atomic_owned c home) outside now less a =
      accounted-cell_closed w p c now (accounted-as outside now w (λ j. omega (arith, less j)) a)
  accounted-given w p (atomic_shared c home) outside now less a =
      accounted-cell_closed w p c now (accounted-as outside now w (λ j. omega (arith, less j)) a)
  accounted-given w p (atomic_raw c home) outside now less a =
      accounted-cell_closed w p c now (accounted-as outside now w (λ j. omega (arith, less j)) a)

  pub accounted-given_all : (w : World T) (p : ℕ) (hs : List OwnerOrCell) (outside now : ℕ → ℕ) →
      ((j : ℕ) → outside j ≡ now j + count_by (is_owner_of j) hs) → IsAccounted holds outside w → IsAccounted holds now (given_all w p hs)
  accounted-given_all w p [] outside now less a = accounted-as outside now w (λ j. omega (arith, less j)) a
  accounted-given_all w p (h ∷ hs) outside now less a =
      let mid : ℕ → ℕ = λ j. now j + count_by (is_owner_of j) hs in
      accounted-given_all (given w p h) p hs mid now (λ j. refl)
      (accounted-given w p h outside mid (λ j. omega (arith, less j, count-cons (is_owner_of j) h hs)) a)

  -- ---- what waits is reclaimed
  freed-at : (w : World T) (k j : ℕ) → owner_count (standing_at w k) ≡ 0 → (j ≡ k) ⊎ (j ≢ k) →
      owner_count (entry_at (slice_set w.standings k None) j) ≡ owner_count (standing_at w j)
  freed-at w k j idle (inl e) = rw e (ap owner_count (none-there w.standings k) ∙ sym idle)
  freed-at w k j idle (inr apart) = ap owner_count (get_or-set_other w.standings k j None None apart)

  -- what its value held is outside
  pub accounted-freed : (w : World T) (k : ℕ) (outside now : ℕ → ℕ) → owner_count (standing_at w k) ≡ 0 →
      ((j : ℕ) → now j ≡ outside j + times_held holds j (value_at w k)) → IsAccounted holds outside w → IsAccounted holds now (freed w k)
  accounted-freed w k outside now idle more a j =
      omega (arith, a j, more j, freed-at w k j idle (same-or-not j k), sum-out (times_held holds j) refl w.values k)

  module _ (p : ℕ) (outside : ℕ → ℕ) where
    accounted-taken_out : (w : World T) (k : ℕ) → owner_count (standing_at w k) ≡ 0 → (v : Option T) → value_at w k ≡ v →
        IsAccounted holds outside w → IsAccounted holds outside (taken_out holds w p k v)
    accounted-taken_out w k idle None is a = a
    accounted-taken_out w k idle (Some v) is a =
        let mid : ℕ → ℕ = λ j. outside j + count_by (is_owner_of j) (holds v) in
        accounted-given_all (freed w k) p (holds v) mid outside (λ j. refl)
        (accounted-freed w k outside mid idle (λ j. sym (ap (λ (x : Option T). outside j + times_held holds j x) is)) a)

    accounted-standing : (w : World T) (k : ℕ) (s : Option Standing) → standing_at w k ≡ s → IsAccounted holds outside w →
        IsAccounted holds outside (taken_out holds w p k (waiting_value w k s))
    accounted-standing w k None is a = a
    accounted-standing w k (Some Owned) is a = a
    accounted-standing w k (Some Raw) is a = a
    accounted-standing w k (Some (Shared n)) is a = a
    accounted-standing w k (Some Retired) is a = accounted-taken_out w k (ap owner_count is) (value_at w k) refl a
    accounted-standing w k (Some (privately c)) is a = accounted-taken_out w k (ap owner_count is) (value_at w k) refl a

    pub accounted-slot_reclaimed : (w : World T) (k : ℕ) → IsAccounted holds outside w → IsAccounted holds outside (slot_reclaimed holds w p k)
    accounted-slot_reclaimed w k a = accounted-standing w k (standing_at w k) refl a

    pub accounted-reclaimed : (w : World T) (x : LimboEntry) → IsAccounted holds outside w → IsAccounted holds outside (reclaimed holds w p x)
    accounted-reclaimed w (Item k) a = accounted-slot_reclaimed w k a
    accounted-reclaimed w (Job j) a = a

    pub accounted-all_reclaimed : (w : World T) (xs : List LimboEntry) → IsAccounted holds outside w → IsAccounted holds outside (all_reclaimed holds w p xs)
    accounted-all_reclaimed w [] a = a
    accounted-all_reclaimed w (x ∷ xs) a = accounted-all_reclaimed (reclaimed holds w p x) xs (accounted-reclaimed w x a)

    pub accounted-changed : (w : World T) → IsAccounted holds outside w → IsAccounted holds outside (changed holds w p)
    accounted-changed w a = accounted-all_reclaimed (steps.rotated w p) (due_next (place_at w p)) a

    either-accounted : (b : Bool) (u v : World T) → IsAccounted holds outside u → IsAccounted holds outside v →
        IsAccounted holds outside (if b then u else v)
    either-accounted true u v a c = a
    either-accounted false u v a c = c

    pub accounted-caught_up : (w : World T) → IsAccounted holds outside w → IsAccounted holds outside (caught_up holds w p)
    accounted-caught_up w a = either-accounted (time.finds_another w.time p) (changed holds w p) w (accounted-changed w a) a

    -- an opening leaves the owners outside as they are
    pub accounted-opened : (w : World T) → IsAccounted holds outside w → IsAccounted holds outside (opened holds w p)
    accounted-opened w a =
        let u = steps.nested w p in
        either-accounted (is_open (place_at w p)) u (caught_up holds u p) a (accounted-caught_up u a)

  -- ---- an item is dropped, or changed, in its place
  vacated-at : (w : World T) (k j : ℕ) → owner_count (standing_at w k) ≡ 1 → (j ≡ k) ⊎ (j ≢ k) →
      owner_count (entry_at (slice_set w.standings k None) j) + one_where (k == j) ≡ owner_count (standing_at w j)
  vacated-at w k j one (inl e) =
      let gone : owner_count (entry_at (slice_set w.standings k None) j) ≡ 0 = rw e (ap owner_count (none-there w.standings k)) in
      let was : owner_count (standing_at w j) ≡ 1 = rw e one in
      omega (arith, gone, was, one-here k j e)
  vacated-at w k j one (inr apart) =
      omega (arith, none-here k j apart, ap owner_count (get_or-set_other w.standings k j None None apart))

  -- its owner goes, and what its value held is outside
  pub accounted-vacated : (w : World T) (k : ℕ) (outside now : ℕ → ℕ) → owner_count (standing_at w k) ≡ 1 →
      ((j : ℕ) → now j + one_where (k == j) ≡ outside j + times_held holds j (value_at w k)) →
      IsAccounted holds outside w → IsAccounted holds now (vacated w k)
  accounted-vacated w k outside now one moved a j =
      omega (arith, a j, moved j, vacated-at w k j one (same-or-not j k), sum-out (times_held holds j) refl w.values k)

  accounted-dropped_out : (w : World T) (p k : ℕ) (outside now : ℕ → ℕ) → owner_count (standing_at w k) ≡ 1 →
      ((j : ℕ) → outside j ≡ now j + one_where (k == j)) → (v : T) → value_at w k ≡ Some v →
      IsAccounted holds outside w → IsAccounted holds now (dropped_out holds w p k (Some v))
  accounted-dropped_out w p k outside now one less v is a =
      let mid : ℕ → ℕ = λ j. now j + count_by (is_owner_of j) (holds v) in
      let held : (j : ℕ) → times_held holds j (value_at w k) ≡ count_by (is_owner_of j) (holds v) = λ j. ap (times_held holds j) is in
      accounted-given_all (vacated w k) p (holds v) mid now (λ j. refl)
      (accounted-vacated w k outside mid one (λ j. omega (arith, less j, held j)) a)

  -- the one owner drops its item: what the value held is given to p
  pub accounted-dropped : (w : World T) (p k : ℕ) (v : T) (outside now : ℕ → ℕ) → owner_count (standing_at w k) ≡ 1 → value_at w k ≡ Some v →
      ((j : ℕ) → outside j ≡ now j + one_where (k == j)) → IsAccounted holds outside w → IsAccounted holds now (dropped holds w p k)
  accounted-dropped w p k v outside now one is less a = rw is (accounted-dropped_out w p k outside now one less v is a)

  -- the value is another: what it holds came from outside, and what the one before held is there
  pub accounted-with_value : (w : World T) (k : ℕ) (v : T) (outside now : ℕ → ℕ) → k < length w.values →
      ((j : ℕ) → now j + count_by (is_owner_of j) (holds v) ≡ outside j + times_held holds j (value_at w k)) →
      IsAccounted holds outside w → IsAccounted holds now (with_value w k v)
  accounted-with_value w k v outside now l moved a j =
      omega (arith, a j, moved j, sum_by-set (times_held holds j) w.values k (Some v) None l)

  -- ---- a new item, and an owner more
  more-at : (w : World T) (k j : ℕ) (s : Option Standing) → k < length w.standings → owner_count s ≡ owner_count (standing_at w k) + 1 →
      (j ≡ k) ⊎ (j ≢ k) → owner_count (entry_at (slice_set w.standings k s) j) ≡ owner_count (standing_at w j) + one_where (k == j)
  more-at w k j s l count (inl e) =
      let here : entry_at (slice_set w.standings k s) j ≡ s = rw e (get_or-set_same w.standings k s None l) in
      let there : owner_count s ≡ owner_count (standing_at w j) + 1 = rw e count in
      rw here (omega (arith, there, one-here k j e))
  more-at w k j s l count (inr apart) = rw (get_or-set_other w.standings k j s None apart) (omega (arith, none-here k j apart))

  -- an owner of it is outside, and what its value holds came from there
  pub accounted-made_as : (w : World T) (k : ℕ) (v : T) (s : Standing) (outside now : ℕ → ℕ) → map is_some w.values ≡ map is_some w.standings →
      IsEmptyAt w.standings k → IsFirst s →
      ((j : ℕ) → now j + count_by (is_owner_of j) (holds v) ≡ outside j + one_where (k == j)) →
      IsAccounted holds outside w → IsAccounted holds now (made_as w k v s)
  accounted-made_as w k v s outside now filled empty first moved a j =
      let none = none-filled (value_at w k) (filled-there w k filled ∙ ap is_some empty.1) in
      let was : times_held holds j (value_at w k) ≡ 0 = ap (times_held holds j) none in
      let free : owner_count (standing_at w k) ≡ 0 = ap owner_count empty.1 in
      let count : owner_count (Some s) ≡ owner_count (standing_at w k) + 1 = omega (arith, first-count s first, free) in
      let stands = more-at w k j (Some s) empty.0 count (same-or-not j k) in
      let values = sum_by-set (times_held holds j) w.values k (Some v) None (filled-inside w.values w.standings k filled empty.0) in
      omega (arith, a j, moved j, was, stands, values)

  -- it is shared by one more, who is outside
  pub accounted-shared : (w : World T) (k n : ℕ) (outside now : ℕ → ℕ) → standing_at w k ≡ Some (Shared n) → 1 ≤ n →
      ((j : ℕ) → now j ≡ outside j + one_where (k == j)) → IsAccounted holds outside w → IsAccounted holds now (with_standing w k (Shared (n + 1)))
  accounted-shared w k n outside now is some more a j =
      let before : owner_count (standing_at w k) ≡ max 1 n = ap owner_count is in
      let count : owner_count (Some (Shared (n + 1))) ≡ owner_count (standing_at w k) + 1 = omega (arith, before, some) in
      omega (arith, a j, more j, more-at w k j (Some (Shared (n + 1))) (in_range w.standings k (Shared n) is) count (same-or-not j k))

  -- ---- an item goes raw, and comes back: the one owner is outside before, or afterwards
  pub accounted-put_out_raw : (w : World T) (k : ℕ) (outside now : ℕ → ℕ) → standing_at w k ≡ Some Owned →
      ((j : ℕ) → outside j ≡ now j + one_where (k == j)) → IsAccounted holds outside w → IsAccounted holds now (with_standing w k Raw)
  accounted-put_out_raw w k outside now is less a =
      fewer w w.time k (Some Raw) outside now (in_range w.standings k Owned is) (ap owner_count is) less a

  pub accounted-taken_back_raw : (w : World T) (k : ℕ) (outside now : ℕ → ℕ) → standing_at w k ≡ Some Raw →
      ((j : ℕ) → now j ≡ outside j + one_where (k == j)) → IsAccounted holds outside w → IsAccounted holds now (with_standing w k Owned)
  accounted-taken_back_raw w k outside now is more a j =
      let none : owner_count (standing_at w k) ≡ 0 = ap owner_count is in
      let count : owner_count (Some Owned) ≡ owner_count (standing_at w k) + 1 = omega (arith, none) in
      omega (arith, a j, more j, more-at w k j (Some Owned) (in_range w.standings k Raw is) count (same-or-not j k))

  -- ---- whose owner is somewhere, is out
  pub accounted-out : (w : World T) (k : ℕ) (outside : ℕ → ℕ) → IsAccounted holds outside w → 1 ≤ outside k + inner_owners holds w k →
      is_out (standing_at w k) ≡ true
  accounted-out w k outside a some = counted-out (standing_at w k) (omega (arith, a k, some))

  cell-times : (w : World T) (c k : ℕ) → held_in (entry_at w.cells c) ≡ Some k → one_where (holds_slot k (entry_at w.cells c)) ≡ 1
  cell-times w c k is = ap (λ (h : Option ℕ). one_where (is_of k h)) is ∙ one-here k k refl

  -- a cell that holds an owner is counted
  pub cell-inner : (w : World T) (c k : ℕ) → held_in (entry_at w.cells c) ≡ Some k → 1 ≤ count_by (holds_slot k) w.cells
  cell-inner w c k is =
      omega (arith, cell-times w c k is, sum-out (λ (x : Option CellContents). cond (holds_slot k x) 1 0) refl w.cells c)

  pub value-inner : (w : World T) (j k : ℕ) → times_held holds k (value_at w j) ≤ sum_by (times_held holds k) w.values
  value-inner w j k = omega (arith, sum-out (times_held holds k) refl w.values j)

  -- what a value holds counts
  pub value-times : (w : World T) (j k : ℕ) (v : T) (h : OwnerOrCell) → value_at w j ≡ Some v → Contains (holds v) h → is_owner_of k h ≡ true →
      1 ≤ times_held holds k (value_at w j)
  value-times w j k v h is (i, l, e) of =
      let here : times_held holds k (value_at w j) ≡ count_by (is_owner_of k) (holds v) = ap (times_held holds k) is in
      omega (arith, here, among-held (holds v) k i h (omega (arith, l)) e of)

  pub outside-out : (w : World T) (k : ℕ) (outside : ℕ → ℕ) → IsAccounted holds outside w → 1 ≤ outside k → is_out (standing_at w k) ≡ true
  outside-out w k outside a some = accounted-out w k outside a (omega (arith, some))

  pub in_cell-out : (w : World T) (c k : ℕ) (outside : ℕ → ℕ) → IsAccounted holds outside w → held_in (entry_at w.cells c) ≡ Some k →
      is_out (standing_at w k) ≡ true
  in_cell-out w c k outside a is = accounted-out w k outside a (omega (arith, cell-inner w c k is))

  pub in_value-out : (w : World T) (j k : ℕ) (outside : ℕ → ℕ) → IsAccounted holds outside w → 1 ≤ times_held holds k (value_at w j) →
      is_out (standing_at w k) ≡ true
  in_value-out w j k outside a some = accounted-out w k outside a (omega (arith, some, value-inner w j k))
