-- What puts something out, and what takes it back
use Rattle.std.proofs.Common.{◌≡◌, ◌⊎◌, inl, inr, ℕ, ◌+◌, ◌<◌, ◌≤◌, List, [], ◌∷◌, length, cond, refl, ap, ◌∙◌, arith, true, false, Some, None, Option, zero, suc, slice_index_or, slice_set, count_by}
use Rattle.std.specs.Prelude.{is_some, IsSome, All}
use Rattle.std.proofs.lemmas.List.Elements.{All-head, All-tail}
use Rattle.std.proofs.lemmas.List.Sums.{sum_by-set, sum_by-cons}
use Rattle.sdd_participants.specs.declared.waiting.LimboEntry.{LimboEntry}
use Rattle.sdd_participants.specs.declared.waiting.LimboEntry.TheVariants.{Item, Job}
use Rattle.sdd_participants.specs.Slab.{IsEmptyAt, entry_at}
use Rattle.sdd_participants.specs.EpochState.{due_next}
use Rattle.sdd_participants.specs.declared.standing.Standing.{Standing}
use Rattle.sdd_participants.specs.declared.standing.Standing.TheVariants.{Owned, Raw, Shared, Retired, Private as privately}
use Rattle.sdd_participants.specs.declared.standing.CellContents.{CellContents}
use Rattle.sdd_world_model.specs.World.{World, place_at, standing_at, value_at}
use Rattle.sdd_world_model.specs.Collecting.{collector_closed, waiting_for, without_collector}
use Rattle.sdd_world_model.specs.WorldChanges.{made_as, with_standing, waiting_as, retired, nulled, with_cell, without_cell, cell_closed, given, given_all, held_in, freed, vacated, with_value, dropped, taken_out, waiting_value, reclaimed, all_reclaimed, opened, changed, spilled}
use Rattle.sdd_world_model.specs.WorldChanges as steps
use Rattle.sdd_world_model.specs.OwnerOrCell.{OwnerOrCell, owned, shared, atomic_owned, atomic_shared, atomic_raw}
use Rattle.sdd_world_model.specs.Out.{is_out, out, HoldsNothing, IsNullCell, IsOut, AreOut, OutLaws}
use Rattle.sdd_core.specs.declared.tag.Tag.TheVariants.{None as no_tag}
use Rattle.sdd_world_model.proofs.WorldInvariant.{one_where, below-or-past}
use Rattle.sdd_world_model.proofs.Standings.{out-inside}
use Rattle.sdd_world_model.proofs.WaitingCounts.{in_range}
use Rattle.sdd_world_model.proofs.GuardOpened.{how, Nests, IsChange, keeps-given_all}

cell-inside : (xs : List (Option CellContents)) (c : ℕ) → is_some (slice_index_or xs c None) ≡ true → c < length xs
cell-inside [] c e = absurd (cc)
cell-inside (x ∷ xs) zero e = omega arith
cell-inside (x ∷ xs) (suc c) e = omega (arith, cell-inside xs c e)

set-past : (xs : List (Option CellContents)) (c : ℕ) → length xs ≤ c → slice_set xs c None ≡ xs
set-past [] c h = refl
set-past (x ∷ xs) zero h = absurd (omega (arith, h))
set-past (x ∷ xs) (suc c) h = ap (λ (ys : List (Option CellContents)). x ∷ ys) (set-past xs c (omega (arith, h)))

fewer-if : (xs : List (Option CellContents)) (c : ℕ) → (c < length xs) ⊎ (length xs ≤ c) → count_by is_some (slice_set xs c None) ≤ count_by is_some xs
fewer-if xs c (inl l) =
    let m = sum_by-set (λ (s : Option CellContents). cond (is_some s) 1 0) xs c None None l in
    omega (arith, m)
fewer-if xs c (inr past) = rw (set-past xs c past) (omega arith)

-- a count goes down where an element is taken out
fewer-cells : (xs : List (Option CellContents)) (c : ℕ) → count_by is_some (slice_set xs c None) ≤ count_by is_some xs
fewer-cells xs c = fewer-if xs c (below-or-past c (length xs))

full-taken : (xs : List (Option Standing)) → All (λ x. IsSome x) xs → count_by is_some xs ≡ length xs
full-taken [] h = refl
full-taken (x ∷ xs) h =
    let here : one_where (is_some x) ≡ 1 = rw (All-head (λ x. IsSome x) x xs h) refl in
    omega (arith, sum_by-cons (λ (y : Option Standing). cond (is_some y) 1 0) x xs, here, full-taken xs (All-tail (λ x. IsSome x) x xs h))

module _ {T : Type 0} where
  set-out : (w : World T) (k : ℕ) (s : Option Standing) → k < length w.standings →
      count_by is_out (slice_set w.standings k s) + one_where (is_out (standing_at w k)) ≡ count_by is_out w.standings + one_where (is_out s)
  set-out w k s l = sum_by-set (λ (s : Option Standing). cond (is_out s) 1 0) w.standings k s None l

  set-cell : (w : World T) (c : ℕ) (cell : Option CellContents) → c < length w.cells →
      count_by is_some (slice_set w.cells c cell) + one_where (is_some (entry_at w.cells c)) ≡ count_by is_some w.cells + one_where (is_some cell)
  set-cell w c cell l = sum_by-set (λ (s : Option CellContents). cond (is_some s) 1 0) w.cells c cell None l

  out-waiting : (w : World T) (p k : ℕ) (s : Standing) → is_out (Some s) ≡ false → is_out (standing_at w k) ≡ true → out (waiting_as w p k s) + 1 ≡ out w
  out-waiting w p k s idle is =
      let was : one_where (is_out (standing_at w k)) ≡ 1 = rw is refl in
      let now : one_where (is_out (Some s)) ≡ 0 = rw idle refl in
      omega (arith, set-out w k (Some s) (out-inside w.standings k is), was, now)

  out-retired : (w : World T) (p k : ℕ) → is_out (standing_at w k) ≡ true → out (retired w p k) + 1 ≡ out w
  out-retired w p k is = out-waiting w p k Retired refl is

  out-shared : (w : World T) (k n m : ℕ) → standing_at w k ≡ Some (Shared n) → out (with_standing w k (Shared m)) ≡ out w
  out-shared w k n m is =
      let was : one_where (is_out (standing_at w k)) ≡ 1 = rw is refl in
      omega (arith, set-out w k (Some (Shared m)) (in_range w.standings k (Shared n) is), was)

  out-restands : (w : World T) (k : ℕ) (s : Standing) → is_out (standing_at w k) ≡ true → is_out (Some s) ≡ true → out (with_standing w k s) ≡ out w
  out-restands w k s is now =
      let was : one_where (is_out (standing_at w k)) ≡ 1 = rw is refl in
      let one : one_where (is_out (Some s)) ≡ 1 = rw now refl in
      omega (arith, set-out w k (Some s) (out-inside w.standings k is), was, one)

  out-made_as : (w : World T) (k : ℕ) (v : T) (s : Standing) → is_out (Some s) ≡ true → IsEmptyAt w.standings k → out (made_as w k v s) ≡ out w + 1
  out-made_as w k v s is empty =
      let was : one_where (is_out (standing_at w k)) ≡ 0 = rw empty.1 refl in
      let now : one_where (is_out (Some s)) ≡ 1 = rw is refl in
      omega (arith, set-out w k (Some s) empty.0, was, now)

  out-filled : (w : World T) (c : ℕ) (cell : CellContents) → IsSome (entry_at w.cells c) → out (with_cell w c cell) ≡ out w
  out-filled w c cell there =
      let was : one_where (is_some (entry_at w.cells c)) ≡ 1 = rw there refl in
      omega (arith, set-cell w c (Some cell) (cell-inside w.cells c there), was)

  out-cell_freed : (w : World T) (c : ℕ) → IsSome (entry_at w.cells c) → out (without_cell w c) + 1 ≡ out w
  out-cell_freed w c there =
      let was : one_where (is_some (entry_at w.cells c)) ≡ 1 = rw there refl in
      omega (arith, set-cell w c None (cell-inside w.cells c there), was)

  out-cell_closed : (w : World T) (p c : ℕ) → IsNullCell w c → out (cell_closed w p c) + 1 ≡ out w
  out-cell_closed w p c (cell, there, null) =
      let held : held_in (entry_at w.cells c) ≡ None = rw there null in
      rw held (out-cell_freed w c (ap is_some there))

  out-given : (w : World T) (p : ℕ) (h : OwnerOrCell) → IsOut w h → out (given w p h) + 1 ≡ out w
  out-given w p (owned k home) is = rw is (out-retired w p k (ap is_out is))
  out-given w p (shared k home) is = rw is (out-retired w p k (ap is_out is))
  out-given w p (atomic_owned c home) is = out-cell_closed w p c is
  out-given w p (atomic_shared c home) is = out-cell_closed w p c is
  out-given w p (atomic_raw c home) is = out-cell_closed w p c is

  out-given_all : (w : World T) (p : ℕ) (hs : List OwnerOrCell) → AreOut w p hs → out (given_all w p hs) + length hs ≡ out w
  out-given_all w p [] are = omega arith
  out-given_all w p (h ∷ hs) are = omega (arith, out-given w p h are.0, out-given_all (given w p h) p hs are.1)

  -- no more than so much is out
  abbrev AtMost : ℕ → World T → Type 0
  AtMost n w = out w ≤ n

  given-at-most : (n : ℕ) (w : World T) (p : ℕ) (hs : List OwnerOrCell) → AtMost n w → AtMost n (given_all w p hs)
  given-at-most n w p hs h =
      keeps-given_all p (AtMost n) (λ u k is g. omega (arith, g, out-retired u p k is)) (λ u c g. omega (arith, g, fewer-cells u.cells c))
      (λ u k n m is g. omega (arith, g, out-shared u k n m is)) w hs h

  -- a slot that waited was not out
  out-freed : (w : World T) (k : ℕ) (s : Standing) → standing_at w k ≡ Some s → is_out (Some s) ≡ false → out (freed w k) ≡ out w
  out-freed w k s there idle =
      let was : one_where (is_out (standing_at w k)) ≡ 0 = rw (there, idle) refl in
      omega (arith, set-out w k None (in_range w.standings k s there), was)

  module _ (holds : T → List OwnerOrCell) (n : ℕ) (p : ℕ) where
    freed-at-most : (w : World T) (k : ℕ) (s : Standing) (v : Option T) → standing_at w k ≡ Some s → is_out (Some s) ≡ false → AtMost n w →
        AtMost n (taken_out holds w p k v)
    freed-at-most w k s None there idle h = h
    freed-at-most w k s (Some v) there idle h = given-at-most n (freed w k) p (holds v) (omega (arith, h, out-freed w k s there idle))

    slot-at-most : (w : World T) (k : ℕ) (s : Option Standing) → standing_at w k ≡ s → AtMost n w → AtMost n (taken_out holds w p k (waiting_value w k s))
    slot-at-most w k None is h = h
    slot-at-most w k (Some Owned) is h = h
    slot-at-most w k (Some Raw) is h = h
    slot-at-most w k (Some (Shared m)) is h = h
    slot-at-most w k (Some Retired) is h = freed-at-most w k Retired (value_at w k) is refl h
    slot-at-most w k (Some (privately c)) is h = freed-at-most w k (privately c) (value_at w k) is refl h

    reclaimed-at-most : (w : World T) (x : LimboEntry) → AtMost n w → AtMost n (reclaimed holds w p x)
    reclaimed-at-most w (Item k) h = slot-at-most w k (standing_at w k) refl h
    reclaimed-at-most w (Job j) h = h

    all-at-most : (xs : List LimboEntry) (w : World T) → AtMost n w → AtMost n (all_reclaimed holds w p xs)
    all-at-most [] w h = h
    all-at-most (x ∷ xs) w h = all-at-most xs (reclaimed holds w p x) (reclaimed-at-most w x h)

    opened-at-most : (w : World T) → AtMost n w → Nests holds w p ⊎ IsChange holds w p → AtMost n (opened holds w p)
    opened-at-most w h (inl c) = rw c.nests h
    opened-at-most w h (inr c) = rw c.change (all-at-most (due_next (place_at (steps.nested w p) p)) (steps.rotated (steps.nested w p) p) h)

  -- where values hold nothing, just as much
  module _ (holds : T → List OwnerOrCell) (plain : HoldsNothing holds) (n : ℕ) (p : ℕ) where
    freed-same : (w : World T) (k : ℕ) (s : Standing) (v : Option T) → standing_at w k ≡ Some s → is_out (Some s) ≡ false → out w ≡ n →
        out (taken_out holds w p k v) ≡ n
    freed-same w k s None there idle h = h
    freed-same w k s (Some v) there idle h = rw (plain v) (out-freed w k s there idle ∙ h)

    slot-same : (w : World T) (k : ℕ) (s : Option Standing) → standing_at w k ≡ s → out w ≡ n → out (taken_out holds w p k (waiting_value w k s)) ≡ n
    slot-same w k None is h = h
    slot-same w k (Some Owned) is h = h
    slot-same w k (Some Raw) is h = h
    slot-same w k (Some (Shared m)) is h = h
    slot-same w k (Some Retired) is h = freed-same w k Retired (value_at w k) is refl h
    slot-same w k (Some (privately c)) is h = freed-same w k (privately c) (value_at w k) is refl h

    reclaimed-same : (w : World T) (x : LimboEntry) → out w ≡ n → out (reclaimed holds w p x) ≡ n
    reclaimed-same w (Item k) h = slot-same w k (standing_at w k) refl h
    reclaimed-same w (Job j) h = h

    all-same : (xs : List LimboEntry) (w : World T) → out w ≡ n → out (all_reclaimed holds w p xs) ≡ n
    all-same [] w h = h
    all-same (x ∷ xs) w h = all-same xs (reclaimed holds w p x) (reclaimed-same w x h)

    opened-same : (w : World T) → out w ≡ n → Nests holds w p ⊎ IsChange holds w p → out (opened holds w p) ≡ n
    opened-same w h (inl c) = ap (λ (u : World T). out u) c.nests ∙ h
    opened-same w h (inr c) = ap (λ (u : World T). out u) c.change ∙ all-same (due_next (place_at (steps.nested w p) p)) (steps.rotated (steps.nested w p) p) h

  -- a collector is closed
  out-without : (w : World T) (c : ℕ) → IsNullCell w c → out (without_collector w c) + 1 ≡ out w
  out-without w c (cell, there, null) = out-cell_freed w c (ap is_some there)

  collector-at-most : (holds : T → List OwnerOrCell) (w : World T) (p c : ℕ) → IsNullCell w c → out (collector_closed holds w p c) + 1 ≤ out w
  collector-at-most holds w p c null =
      let start = without_collector w c in
      omega (arith, out-without w c null, all-at-most holds (out start) p (waiting_for w c) start (omega arith))

  collector-same : (holds : T → List OwnerOrCell) → HoldsNothing holds → (w : World T) (p c : ℕ) → IsNullCell w c
      → out (collector_closed holds w p c) + 1 ≡ out w
  collector-same holds plain w p c null =
      let start = without_collector w c in
      omega (arith, out-without w c null, all-same holds plain (out start) p (waiting_for w c) start refl)

  -- an item is dropped in its place
  out-vacated : (w : World T) (k : ℕ) → is_out (standing_at w k) ≡ true → out (vacated w k) + 1 ≡ out w
  out-vacated w k is =
      let was : one_where (is_out (standing_at w k)) ≡ 1 = rw is refl in
      omega (arith, set-out w k None (out-inside w.standings k is), was)

  out-dropped : (holds : T → List OwnerOrCell) (w : World T) (p k : ℕ) (value : T) → is_out (standing_at w k) ≡ true → value_at w k ≡ Some value →
      AreOut (vacated w k) p (holds value) → out (dropped holds w p k) + length (holds value) + 1 ≡ out w
  out-dropped holds w p k value is there are =
      let left = out-given_all (vacated w k) p (holds value) are in
      let one = out-vacated w k is in
      rw there (omega (arith, left, one))

  nulled-more : (w : World T) (c : ℕ) → IsEmptyAt w.cells c → out (nulled w c) ≡ out w + 1
  nulled-more w c empty =
      let was : one_where (is_some (entry_at w.cells c)) ≡ 0 = rw empty.1 refl in
      omega (arith, set-cell w c (Some (record { held = None; tag = no_tag })) empty.0, was)

  pub out-laws : (holds : T → List OwnerOrCell) (w : World T) → OutLaws holds w
  out-laws holds w =
      record {
        making = λ k v empty. out-made_as w k v Owned refl empty;
        making_shared = λ k v empty. out-made_as w k v (Shared 1) refl empty;
        sharing = out-shared w;
        restanding = out-restands w;
        retiring = out-retired w;
        collecting = λ p c k is. out-waiting w p k (privately c) refl is;
        closing_collector = collector-at-most holds w;
        closing_collector_plain = λ plain. collector-same holds plain w;
        deferring = λ p j. refl;
        nulling = nulled-more w;
        filling = out-filled w;
        repointing = λ c pointer. refl;
        freeing = out-cell_freed w;
        closing = out-cell_closed w;
        giving = out-given_all w;
        dropping = out-dropped holds w;
        editing = λ k v. refl;
        ending = λ p. refl;
        opening = λ p l. opened-at-most holds (out w) p w (omega arith) (how holds w p l);
        opening_plain = λ plain p l. opened-same holds plain (out w) p w refl (how holds w p l);
        room = λ few full. absurd (omega (arith, few, full-taken w.standings full));
      }
