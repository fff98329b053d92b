-- Where the rights to cells go: each cell that is taken has one, outside or in a value
use Rattle.std.proofs.Common.{◌≡◌, ◌≢◌, inl, inr, ℕ, ◌+◌, ◌<◌, ◌≤◌, Bool, true, false, List, [], ◌∷◌, length, zero, suc, Option, Some, None, IsSome, is_some, sum_by, count_by, refl, sym, ap, arith}
use Rattle.std.specs.Prelude.{◌==◌, if◌then◌else◌}
use Rattle.std.proofs.lemmas.List.{get_or-set_same, get_or-set_other}
use Rattle.std.proofs.lemmas.List.Sums.{sum_by-set}
use Rattle.std.proofs.lemmas.Bool.Decides.{nat_tests}
use Rattle.sdd_participants.proofs.Adoptions.{same-or-not, none-there}
use Rattle.sdd_participants.specs.Slab.{IsEmptyAt, entry_at}
use Rattle.sdd_participants.specs.EpochState as time
use Rattle.sdd_participants.specs.declared.standing.CellContents.{CellContents}
use Rattle.sdd_participants.specs.declared.standing.Standing.{Standing}
use Rattle.sdd_participants.specs.declared.waiting.LimboEntry.{LimboEntry}
use Rattle.sdd_participants.specs.declared.waiting.LimboEntry.TheVariants.{Item, Job}
use Rattle.sdd_world_model.specs.OwnerOrCell.{OwnerOrCell, owned, shared, atomic_owned, atomic_shared, atomic_raw}
use Rattle.sdd_world_model.specs.WorldChanges as steps
use Rattle.sdd_world_model.specs.WorldChanges.{owner_given, with_cell, without_cell, spilled, cell_closed, given, given_all, freed, vacated, taken_out, dropped_out, waiting_value, reclaimed, all_reclaimed, changed, caught_up, opened, made_as, with_value, held_in}
use Rattle.sdd_world_model.specs.WorldInvariant.{once_if}
use Rattle.sdd_world_model.specs.World.{World, place_at, standing_at, value_at}
use Rattle.sdd_world_model.specs.Ledger.{is_right_to, times_kept}
use Rattle.sdd_world_model.proofs.OwnerCounts.{sum-out}
use Rattle.sdd_world_model.proofs.Standings.{owner-given}
use Rattle.sdd_world_model.proofs.WorldInvariant.{one_where, count-cons}

-- so often a cell is taken
abbrev pub once_taken : {T : Type 0} → World T → ℕ → ℕ
once_taken w c = once_if (is_some (entry_at w.cells c))

pub once-where : (b : Bool) → once_if b ≡ one_where b
once-where true = refl
once-where false = refl

once-most : (b : Bool) → once_if b ≤ 1
once-most true = omega arith
once-most false = omega arith

-- one of cell d, as cell j counts it
one-here : (d j : ℕ) → j ≡ d → once_if (d == j) ≡ 1
one-here d j e = let same : (d == j) ≡ true = grind (arith, nat_tests) in rw same refl

none-here : (d j : ℕ) → j ≢ d → once_if (d == j) ≡ 0
none-here d j apart = let other : (d == j) ≡ false = grind (arith, nat_tests) in rw other refl

-- an entry that is there is one of the table's
pub there-inside : {E : Type 0} (xs : List (Option E)) (k : ℕ) → IsSome (entry_at xs k) → k < length xs
there-inside [] k some = absurd (cc)
there-inside (x ∷ xs) zero some = omega arith
there-inside (x ∷ xs) (suc k) some = omega (arith, there-inside xs k some)

-- an owner that is given, and what a cell held, change no value and no cell
pub given-same : {T : Type 0} (w : World T) (p k : ℕ) (s : Option Standing) → standing_at w k ≡ s →
    ((owner_given w p k s).values ≡ w.values) × ((owner_given w p k s).cells ≡ w.cells)
given-same w p k s is =
    owner-given (λ u. (u.values ≡ w.values) × (u.cells ≡ w.cells)) w p k s is (refl, refl) (λ out. (refl, refl)) (λ n shared several. (refl, refl))

pub spilled-same : {T : Type 0} (w : World T) (p : ℕ) (held : Option ℕ) → ((spilled w p held).values ≡ w.values) × ((spilled w p held).cells ≡ w.cells)
spilled-same w p None = (refl, refl)
spilled-same w p (Some k) = given-same w p k (standing_at w k) refl

module _ {T : Type 0} (holds : T → List OwnerOrCell) where
  abbrev pub AreHeld : (ℕ → ℕ) → World T → Type 0
  AreHeld outside w = (c : ℕ) → once_taken w c ≡ outside c + sum_by (times_kept holds c) w.values

  pub held-as : (outside now : ℕ → ℕ) (w : World T) → ((j : ℕ) → now j ≡ outside j) → AreHeld outside w → AreHeld now w
  held-as outside now w same a j = omega (arith, a j, same j)

  held-same : (outside : ℕ → ℕ) (w u : World T) → u.values ≡ w.values → u.cells ≡ w.cells → AreHeld outside w → AreHeld outside u
  held-same outside w u values cells a j = rw (values, cells) (a j)

  -- ---- a cell is made, is set, and is free
  pub held-cell_made : (w : World T) (c : ℕ) (cell : CellContents) (outside now : ℕ → ℕ) → IsEmptyAt w.cells c →
      ((j : ℕ) → now j ≡ outside j + once_if (c == j)) → AreHeld outside w → AreHeld now (with_cell w c cell)
  held-cell_made w c cell outside now free more a j = elim (same-or-not j c) [
    | inl e ↦
        (let here : once_taken (with_cell w c cell) j ≡ 1 =
        rw e (ap (λ (x : Option CellContents). once_if (is_some x)) (get_or-set_same w.cells c (Some cell) None free.0)) in
        let was : once_taken w j ≡ 0 = rw e (ap (λ (x : Option CellContents). once_if (is_some x)) free.1) in
        omega (arith, here, was, a j, more j, one-here c j e))
    | inr apart ↦
        (let same = ap (λ (x : Option CellContents). once_if (is_some x)) (get_or-set_other w.cells c j (Some cell) None apart) in
        omega (arith, same, a j, more j, none-here c j apart))
  ]

  pub held-cell_changed : (w : World T) (c : ℕ) (cell : CellContents) (outside : ℕ → ℕ) → IsSome (entry_at w.cells c) → AreHeld outside w →
      AreHeld outside (with_cell w c cell)
  held-cell_changed w c cell outside there a j = elim (same-or-not j c) [
    | inl e ↦
        (let here : once_taken (with_cell w c cell) j ≡ 1 =
        rw e (ap (λ (x : Option CellContents). once_if (is_some x)) (get_or-set_same w.cells c (Some cell) None (there-inside w.cells c there))) in
        let was : once_taken w j ≡ 1 = rw e (ap once_if there) in
        omega (arith, here, was, a j))
    | inr apart ↦
        (let same = ap (λ (x : Option CellContents). once_if (is_some x)) (get_or-set_other w.cells c j (Some cell) None apart) in
        omega (arith, same, a j))
  ]

  pub held-cell_spent : (w : World T) (c : ℕ) (outside now : ℕ → ℕ) → ((j : ℕ) → outside j ≡ now j + once_if (c == j)) → AreHeld outside w →
      AreHeld now (without_cell w c)
  held-cell_spent w c outside now less a j = elim (same-or-not j c) [
    | inl e ↦
        (let here : once_taken (without_cell w c) j ≡ 0 = rw e (ap (λ (x : Option CellContents). once_if (is_some x)) (none-there w.cells c)) in
        omega (arith, here, once-most (is_some (entry_at w.cells j)), a j, less j, one-here c j e))
    | inr apart ↦
        (let same = ap (λ (x : Option CellContents). once_if (is_some x)) (get_or-set_other w.cells c j None None apart) in
        omega (arith, same, a j, less j, none-here c j apart))
  ]

  -- ---- what a value held is given up
  pub held-owner_given : (w : World T) (p k : ℕ) (s : Option Standing) (outside : ℕ → ℕ) → standing_at w k ≡ s → AreHeld outside w →
      AreHeld outside (owner_given w p k s)
  held-owner_given w p k s outside is a =
      let same = given-same w p k s is in held-same outside w (owner_given w p k s) same.0 same.1 a

  pub held-cell_closed : (w : World T) (p c : ℕ) (outside now : ℕ → ℕ) → ((j : ℕ) → outside j ≡ now j + once_if (c == j)) → AreHeld outside w →
      AreHeld now (cell_closed w p c)
  held-cell_closed w p c outside now less a =
      let same = spilled-same (without_cell w c) p (held_in (entry_at w.cells c)) in
      held-same now (without_cell w c) (cell_closed w p c) same.0 same.1 (held-cell_spent w c outside now less a)

  held-given : (w : World T) (p : ℕ) (h : OwnerOrCell) (outside now : ℕ → ℕ) → ((j : ℕ) → outside j ≡ now j + one_where (is_right_to j h)) →
      AreHeld outside w → AreHeld now (given w p h)
  held-given w p (owned k home) outside now less a =
      held-owner_given w p k (standing_at w k) now refl (held-as outside now w (λ j. omega (arith, less j)) a)
  held-given w p (shared k home) outside now less a =
      held-owner_given w p k (standing_at w k) now refl (held-as outside now w (λ j. omega (arith, less j)) a)
  held-given w p (atomic_owned c home) outside now less a =
      held-cell_closed w p c outside now (λ j. omega (arith, less j, once-where (c == j))) a
  held-given w p (atomic_shared c home) outside now less a =
      held-cell_closed w p c outside now (λ j. omega (arith, less j, once-where (c == j))) a
  held-given w p (atomic_raw c home) outside now less a =
      held-cell_closed w p c outside now (λ j. omega (arith, less j, once-where (c == j))) a

  held-given_all : (w : World T) (p : ℕ) (hs : List OwnerOrCell) (outside now : ℕ → ℕ) → ((j : ℕ) → outside j ≡ now j + count_by (is_right_to j) hs) →
      AreHeld outside w → AreHeld now (given_all w p hs)
  held-given_all w p [] outside now less a = held-as outside now w (λ j. omega (arith, less j)) a
  held-given_all w p (h ∷ hs) outside now less a =
      let mid : ℕ → ℕ = λ j. now j + count_by (is_right_to j) hs in
      held-given_all (given w p h) p hs mid now (λ j. refl)
      (held-given w p h outside mid (λ j. omega (arith, less j, count-cons (is_right_to j) h hs)) a)

  -- ---- a value goes: what it held is given up
  held-without : (w : World T) (k : ℕ) (outside now : ℕ → ℕ) → ((j : ℕ) → now j ≡ outside j + times_kept holds j (value_at w k)) → AreHeld outside w →
      AreHeld now (freed w k)
  held-without w k outside now more a j = omega (arith, a j, more j, sum-out (times_kept holds j) refl w.values k)

  module _ (p : ℕ) (outside : ℕ → ℕ) where
    held-taken_out : (w : World T) (k : ℕ) (v : Option T) → ((u : T) → v ≡ Some u → value_at w k ≡ Some u) → AreHeld outside w →
        AreHeld outside (taken_out holds w p k v)
    held-taken_out w k None is a = a
    held-taken_out w k (Some v) is a =
        let mid : ℕ → ℕ = λ j. outside j + count_by (is_right_to j) (holds v) in
        held-given_all (freed w k) p (holds v) mid outside (λ j. refl)
        (held-without w k outside mid (λ j. sym (ap (λ (x : Option T). outside j + times_kept holds j x) (is v refl))) a)

    -- it is dropped in its place
    pub held-dropped_out : (w : World T) (k : ℕ) (v : Option T) → value_at w k ≡ v → AreHeld outside w → AreHeld outside (dropped_out holds w p k v)
    held-dropped_out w k None is a = a
    held-dropped_out w k (Some v) is a =
        let mid : ℕ → ℕ = λ j. outside j + count_by (is_right_to j) (holds v) in
        held-given_all (vacated w k) p (holds v) mid outside (λ j. refl)
        (held-without w k outside mid (λ j. sym (ap (λ (x : Option T). outside j + times_kept holds j x) is)) a)

    waiting-there : (w : World T) (k : ℕ) (s : Option Standing) (u : T) → waiting_value w k s ≡ Some u → value_at w k ≡ Some u
    waiting-there w k s u e = grind arith

    held-reclaimed : (w : World T) (x : LimboEntry) → AreHeld outside w → AreHeld outside (reclaimed holds w p x)
    held-reclaimed w (Item k) a =
        held-taken_out w k (waiting_value w k (standing_at w k)) (λ u e. waiting-there w k (standing_at w k) u e) a
    held-reclaimed w (Job j) a = a

    pub held-all_reclaimed : (w : World T) (xs : List LimboEntry) → AreHeld outside w → AreHeld outside (all_reclaimed holds w p xs)
    held-all_reclaimed w [] a = a
    held-all_reclaimed w (x ∷ xs) a = held-all_reclaimed (reclaimed holds w p x) xs (held-reclaimed w x a)

    either : (b : Bool) (u v : World T) → AreHeld outside u → AreHeld outside v → AreHeld outside (if b then u else v)
    either true u v a c = a
    either false u v a c = c

    pub held-opened : (w : World T) → AreHeld outside w → AreHeld outside (opened holds w p)
    held-opened w a =
        let u = steps.nested w p in
        either (time.is_open (place_at w p)) u (caught_up holds u p) a
        (either (time.finds_another u.time p) (changed holds u p) u
        (held-all_reclaimed (steps.rotated u p) (time.due_next (place_at u p)) a) a)

  -- ---- a new value, and another one in its place
  pub held-with_value : (w : World T) (k : ℕ) (v : T) (outside now : ℕ → ℕ) → k < length w.values →
      ((j : ℕ) → now j + count_by (is_right_to j) (holds v) ≡ outside j + times_kept holds j (value_at w k)) → AreHeld outside w →
      AreHeld now (with_value w k v)
  held-with_value w k v outside now l moved a j =
      omega (arith, a j, moved j, sum_by-set (times_kept holds j) w.values k (Some v) None l)
