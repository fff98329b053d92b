-- Where no owner is outside, and what holds an owner has a higher rank than the item, all goes at the closing
use Rattle.std.proofs.Common.{◌≡◌, ◌≢◌, ◌⊎◌, inl, inr, ℕ, ◌+◌, ◌<◌, ◌≤◌, List, [], ◌∷◌, length, Bool, refl, sym, ap, ◌∙◌, arith, true, false, Some, None, Option, zero, suc, slice_index_or, map, sum_by, count_by}
use Rattle.std.specs.Prelude.{◌==◌, max, is_some, IsSome, AllPairs, Contains, slice_get}
use Rattle.std.proofs.lemmas.List.Sums.{sum_by-cons}
use Rattle.std.proofs.lemmas.Bool.{cases_lt}
use Rattle.std.proofs.lemmas.Bool.Decides.{nat_tests}
use Rattle.sdd_participants.specs.Slab.{entry_at}
use Rattle.sdd_participants.specs.declared.standing.CellContents.{CellContents}
use Rattle.sdd_participants.specs.declared.standing.Standing.{Standing}
use Rattle.sdd_participants.specs.declared.standing.Standing.TheVariants.{Owned, Raw, Shared, Retired, Private as privately}
use Rattle.sdd_world_model.specs.Slots.{is_waiting}
use Rattle.sdd_world_model.specs.World.{World, standing_at, value_at}
use Rattle.sdd_world_model.specs.WorldChanges.{held_in}
use Rattle.sdd_world_model.specs.OwnerOrCell.{OwnerOrCell, owned, shared, atomic_owned, atomic_shared, atomic_raw}
use Rattle.sdd_world_model.specs.OwnerCounts.{owner_count, is_owner_of, is_of, holds_slot, times_held, IsAccounted}
use Rattle.sdd_world_model.proofs.WorldInvariant.{one_where, count-cons, filled-there}
use Rattle.sdd_world.specs.Closing.{Owner, holder, slot_owned, cell_held, held_by, held_at, owns, Goes, AllGo}
use Rattle.sdd_world.specs.Closing.Owner.{of_value, of_cell}
use Rattle.sdd_world.specs.Closing.Holder.{the_item}
use Rattle.sdd_world.specs.Closing.Goes.{waits, given as by_giving, held as by_holding}
use Rattle.sdd_world.proofs.Sweeps.{in-which, one-more-apart}

-- what a value holds is an owner of the slot's item, in either way of saying it
is-owned : (k : ℕ) (h : OwnerOrCell) → is_owner_of k h ≡ true → slot_owned (Some h) ≡ Some k
is-owned k (owned j home) e = let same : j ≡ k = grind (arith, nat_tests, e) in ap Some same
is-owned k (shared j home) e = let same : j ≡ k = grind (arith, nat_tests, e) in ap Some same
is-owned k (atomic_owned c home) e = absurd (cc)
is-owned k (atomic_shared c home) e = absurd (cc)
is-owned k (atomic_raw c home) e = absurd (cc)

same-slot : (j k : ℕ) → Some j ≡ Some k → (j == k) ≡ true
same-slot j k e = let same : j ≡ k = cc in grind (arith, nat_tests, same)

owned-is : (k : ℕ) (h : OwnerOrCell) → slot_owned (Some h) ≡ Some k → is_owner_of k h ≡ true
owned-is k (owned j home) e = same-slot j k e
owned-is k (shared j home) e = same-slot j k e
owned-is k (atomic_owned c home) e = absurd (cc)
owned-is k (atomic_shared c home) e = absurd (cc)
owned-is k (atomic_raw c home) e = absurd (cc)

-- an owner among what is held is counted
owner-counts : (k i : ℕ) (hs : List OwnerOrCell) → slot_owned (slice_get hs i) ≡ Some k → 1 ≤ count_by (is_owner_of k) hs
owner-counts k i [] e = absurd (cc)
owner-counts k zero (h ∷ hs) e =
    let one : one_where (is_owner_of k h) ≡ 1 = rw (owned-is k h e) refl in
    omega (arith, one, count-cons (is_owner_of k) h hs)
owner-counts k (suc i) (h ∷ hs) e = omega (arith, owner-counts k i hs e, count-cons (is_owner_of k) h hs)

inside : (ss : List (Option Standing)) (k : ℕ) → IsSome (slice_index_or ss k None) → k < length ss
inside [] k some = absurd (cc)
inside (s ∷ ss) zero some = omega arith
inside (s ∷ ss) (suc k) some = omega (arith, inside ss k some)

-- the numbers below n have ranks below some bound
bound-next : (rank : ℕ → ℕ) (n b j : ℕ) → ((i : ℕ) → i < n → rank i < b) → j < suc n → (j < n) ⊎ (n ≤ j) → rank j < b + rank n + 1
bound-next rank n b j h l (inl below) = omega (arith, h j below)
bound-next rank n b j h l (inr above) = let same : j ≡ n = omega (arith, l, above) in let ranks = ap rank same in omega (arith, ranks)

pub bounded : (rank : ℕ → ℕ) (n : ℕ) → (b : ℕ) × ((j : ℕ) → j < n → rank j < b)
bounded rank zero = (zero, λ j l. absurd (omega (arith, l)))
bounded rank (suc n) = let before = bounded rank n in (before.0 + rank n + 1, λ j l. bound-next rank n before.0 j before.1 l (cases_lt j n))

module _ {T : Type 0} (holds : T → List OwnerOrCell) (w : World T) where
  -- the owner is in the value of slot j, from index n on, or in a later one's, or in a cell
  abbrev IsAfter : ℕ → ℕ → Owner → Type 0
  IsAfter j n (of_value a b) = (j < a) ⊎ ((a ≡ j) × (n ≤ b))
  IsAfter j n (of_cell c) = Unit {0}

  -- it is in a cell, from number m on
  abbrev IsFrom : ℕ → Owner → Type 0
  IsFrom m (of_value a b) = ⊥
  IsFrom m (of_cell c) = m ≤ c

  later-after : (j n : ℕ) (o : Owner) → IsAfter j (suc n) o → IsAfter j n o
  later-after j n (of_value a b) (inl l) = inl l
  later-after j n (of_value a b) (inr h) = inr (h.0, omega (arith, h.1))
  later-after j n (of_cell c) h = h

  slot-after : (j n : ℕ) (o : Owner) → IsAfter (suc j) 0 o → IsAfter j n o
  slot-after j n (of_value a b) (inl l) = inl (omega (arith, l))
  slot-after j n (of_value a b) (inr h) = inl (omega (arith, h.0))
  slot-after j n (of_cell c) h = h

  not-after : (j n : ℕ) → IsAfter j (suc n) (of_value j n) → ⊥
  not-after j n (inl l) = absurd (omega (arith, l))
  not-after j n (inr h) = absurd (omega (arith, h.1))

  later-from : (m : ℕ) (o : Owner) → IsFrom (suc m) o → IsFrom m o
  later-from m (of_value a b) h = h
  later-from m (of_cell c) h = omega (arith, h)

  cell-after : (j : ℕ) (o : Owner) → IsFrom 0 o → IsAfter j 0 o
  cell-after j (of_value a b) h = absurd h
  cell-after j (of_cell c) h = tt

  -- so many owners of slot k, all different, that cells from there on hold
  record InCells (k m total : ℕ) : Type 0 where
    owners : List Owner
    apart : AllPairs ◌≢◌ owners
    each : (o : Owner) → Contains owners o → (owns holds w o ≡ Some k) × IsFrom m o
    count : length owners ≡ total

  holds-it : (k : ℕ) (x : Option ℕ) → is_of k x ≡ true → x ≡ Some k
  holds-it k None e = absurd (let never : false ≡ true = e in cc)
  holds-it k (Some j) e = let same : j ≡ k = grind (arith, nat_tests, e) in ap Some same

  each-cell : (k m total : ℕ) (f : InCells k (suc m) total) → held_in (entry_at w.cells m) ≡ Some k → (o : Owner) →
      (of_cell m ≡ o) ⊎ Contains f.owners o → (owns holds w o ≡ Some k) × IsFrom m o
  each-cell k m total f of o (inl e) = rw (← e) (of, omega arith)
  each-cell k m total f of o (inr i) = let x = f.each o i in (x.0, later-from m o x.1)

  cell-next : (k m : ℕ) (x : Option CellContents) (xs : List (Option CellContents)) → entry_at w.cells m ≡ x → (b : Bool) → holds_slot k x ≡ b →
      InCells k (suc m) (count_by (holds_slot k) xs) → InCells k m (count_by (holds_slot k) (x ∷ xs))
  cell-next k m x xs is true e f =
      let one : one_where (holds_slot k x) ≡ 1 = rw e refl in
      record {
        owners = of_cell m ∷ f.owners;
        apart = one-more-apart (of_cell m) f.owners (λ i. let from = (f.each (of_cell m) i).1 in absurd (omega (arith, from))) f.apart;
        each = λ o i. each-cell k m _ f (ap held_in is ∙ holds-it k (held_in x) e) o (in-which (of_cell m) f.owners o i);
        count = omega (arith, ap suc f.count, one, count-cons (holds_slot k) x xs);
      }
  cell-next k m x xs is false e f =
      let none : one_where (holds_slot k x) ≡ 0 = rw e refl in
      record {
        owners = f.owners;
        apart = f.apart;
        each = λ o i. let y = f.each o i in (y.0, later-from m o y.1);
        count = omega (arith, f.count, none, count-cons (holds_slot k) x xs);
      }

  in-cells : (k m : ℕ) (xs : List (Option CellContents)) → ((i : ℕ) → entry_at w.cells (m + i) ≡ slice_index_or xs i None) →
      InCells k m (count_by (holds_slot k) xs)
  in-cells k m [] all = record { owners = []; apart = λ i j d before l. absurd (omega (arith, l)); each = λ o i. absurd (omega (arith, i.1)); count = refl }
  in-cells k m (x ∷ xs) all =
      let here : m ≡ m + 0 = omega arith in
      cell-next k m x xs (ap (λ (i : ℕ). entry_at w.cells i) here ∙ all 0) (holds_slot k x) refl
      (in-cells k (suc m) xs (λ i. let next : suc m + i ≡ m + suc i = omega arith in ap (λ (n : ℕ). entry_at w.cells n) next ∙ all (suc i)))

  -- so many owners of slot k, all different, that values from there on hold, or cells
  record Found (k j n total : ℕ) : Type 0 where
    owners : List Owner
    apart : AllPairs ◌≢◌ owners
    each : (o : Owner) → Contains owners o → (owns holds w o ≡ Some k) × IsAfter j n o
    count : length owners ≡ total

  Found-from : (k j n a b c d : ℕ) → ((o : Owner) → IsAfter j n o → IsAfter a b o) → c ≡ d → Found k j n c → Found k a b d
  Found-from k j n a b c d weaker same f =
      record { owners = f.owners; apart = f.apart; each = λ o i. let x = f.each o i in (x.0, weaker o x.1); count = f.count ∙ same }

  one-each : (k j n c : ℕ) (f : Found k j (suc n) c) → slot_owned (held_at holds w j n) ≡ Some k → (o : Owner) →
      (of_value j n ≡ o) ⊎ Contains f.owners o → (owns holds w o ≡ Some k) × IsAfter j n o
  one-each k j n c f of o (inl e) = rw (← e) (of, inr (refl, omega arith))
  one-each k j n c f of o (inr i) = let x = f.each o i in (x.0, later-after j n o x.1)

  -- one more is at index n
  Found-more : (k j n c : ℕ) → slot_owned (held_at holds w j n) ≡ Some k → Found k j (suc n) c → Found k j n (suc c)
  Found-more k j n c of f =
      record {
        owners = of_value j n ∷ f.owners;
        apart = one-more-apart (of_value j n) f.owners (λ i. not-after j n (f.each (of_value j n) i).1) f.apart;
        each = λ o i. one-each k j n c f of o (in-which (of_value j n) f.owners o i);
        count = ap suc f.count;
      }

  found-next : (k j n later : ℕ) (h : OwnerOrCell) (hs : List OwnerOrCell) → held_at holds w j n ≡ Some h → (b : Bool) → is_owner_of k h ≡ b →
      Found k j (suc n) (count_by (is_owner_of k) hs + later) → Found k j n (count_by (is_owner_of k) (h ∷ hs) + later)
  found-next k j n later h hs is true e f =
      let one : one_where (is_owner_of k h) ≡ 1 = rw e refl in
      let more = Found-more k j n (count_by (is_owner_of k) hs + later) (ap slot_owned is ∙ is-owned k h e) f in
      Found-from k j n j n _ _ (λ o i. i) (omega (arith, one, count-cons (is_owner_of k) h hs)) more
  found-next k j n later h hs is false e f =
      let none : one_where (is_owner_of k h) ≡ 0 = rw e refl in
      Found-from k j (suc n) j n _ _ (later-after j n) (omega (arith, none, count-cons (is_owner_of k) h hs)) f

  found-list : (k j n later : ℕ) (hs : List OwnerOrCell) → ((m : ℕ) → held_at holds w j (n + m) ≡ slice_get hs m) → Found k (suc j) 0 later →
      Found k j n (count_by (is_owner_of k) hs + later)
  found-list k j n later [] all f = Found-from k (suc j) 0 j n _ _ (slot-after j n) (omega arith) f
  found-list k j n later (h ∷ hs) all f =
      let here : n ≡ n + 0 = omega arith in
      found-next k j n later h hs (ap (λ (i : ℕ). held_at holds w j i) here ∙ all 0) (is_owner_of k h) refl
      (found-list k j (suc n) later hs
      (λ m. let next : suc n + m ≡ n + suc m = omega arith in ap (λ (i : ℕ). held_at holds w j i) next ∙ all (suc m)) f)

  found-value : (k j later : ℕ) (v : Option T) → value_at w j ≡ v → Found k (suc j) 0 later → Found k j 0 (times_held holds k v + later)
  found-value k j later None is f = Found-from k (suc j) 0 j 0 _ _ (slot-after j 0) (omega arith) f
  found-value k j later (Some v) is f =
      found-list k j 0 later (holds v)
      (λ m. let here : 0 + m ≡ m = omega arith in ap (λ (i : ℕ). held_at holds w j i) here ∙ ap (λ (x : Option T). held_by holds x m) is) f

  found-values : (k j : ℕ) (vs : List (Option T)) → ((m : ℕ) → value_at w (j + m) ≡ slice_index_or vs m None) →
      Found k j 0 (sum_by (times_held holds k) vs + count_by (holds_slot k) w.cells)
  found-values k j [] all =
      let cells = in-cells k 0 w.cells (λ i. let here : 0 + i ≡ i = omega arith in ap (λ (n : ℕ). entry_at w.cells n) here) in
      record {
        owners = cells.owners;
        apart = cells.apart;
        each = λ o i. let x = cells.each o i in (x.0, cell-after j o x.1);
        count = omega (arith, cells.count);
      }
  found-values k j (v ∷ vs) all =
      let here : j ≡ j + 0 = omega arith in
      let rest = found-values k (suc j) vs
      (λ m. let next : suc j + m ≡ j + suc m = omega arith in ap (λ (i : ℕ). value_at w i) next ∙ all (suc m)) in
      Found-from k j 0 j 0 _ _ (λ o i. i) (omega (arith, sum_by-cons (times_held holds k) v vs))
      (found-value k j (sum_by (times_held holds k) vs + count_by (holds_slot k) w.cells) v (ap (λ (i : ℕ). value_at w i) here ∙ all 0) rest)

  -- all that values and cells hold
  found : (k : ℕ) → Found k 0 0 (sum_by (times_held holds k) w.values + count_by (holds_slot k) w.cells)
  found k = found-values k 0 w.values (λ m. let here : 0 + m ≡ m = omega arith in ap (λ (i : ℕ). value_at w i) here)

  -- a cell that holds an owner is a value's, whose item has a higher rank
  abbrev pub CellsFall : (ℕ → ℕ) → Type 0
  CellsFall rank =
      (c k : ℕ) → held_in (entry_at w.cells c) ≡ Some k → (j : ℕ) × (i : ℕ) × (cell_held (held_at holds w j i) ≡ Some c) × (rank k < rank j)

  -- ---- what holds something is there
  module _ (filled : map is_some w.values ≡ map is_some w.standings) where
    holder-there : (j i : ℕ) (v : Option T) → value_at w j ≡ v → (held_by holds v i ≡ None → ⊥) → IsSome (standing_at w j)
    holder-there j i None is some = absurd (some refl)
    holder-there j i (Some v) is some = sym (filled-there w j filled) ∙ ap is_some is

    owner-there : (j i k : ℕ) → slot_owned (held_at holds w j i) ≡ Some k → IsSome (standing_at w j)
    owner-there j i k of = holder-there j i (value_at w j) refl (λ none. let never = ap slot_owned none in absurd (cc))

    cell-there : (j i c : ℕ) → cell_held (held_at holds w j i) ≡ Some c → IsSome (standing_at w j)
    cell-there j i c of = holder-there j i (value_at w j) refl (λ none. let never = ap cell_held none in absurd (cc))

    owner-times : (j i k : ℕ) (v : Option T) → slot_owned (held_by holds v i) ≡ Some k → 1 ≤ times_held holds k v
    owner-times j i k None e = absurd (cc)
    owner-times j i k (Some v) e = owner-counts k i (holds v) e

    module _ (rank : ℕ → ℕ) (accounted : IsAccounted holds (λ _. 0) w)
        (not_raw : (k : ℕ) → standing_at w k ≢ Some Raw)
        (falls : (j k : ℕ) → 1 ≤ times_held holds k (value_at w j) → rank k < rank j) (cells_fall : CellsFall rank) where
      module _ (k : ℕ) (higher : (j : ℕ) → rank k < rank j → IsSome (standing_at w j) → Goes holds w (the_item j)) where
        owner-goes : (o : Owner) → owns holds w o ≡ Some k → IsAfter 0 0 o → Goes holds w (holder o)
        owner-goes (of_value j i) of after = higher j (falls j k (owner-times j i k (value_at w j) of)) (owner-there j i k of)
        owner-goes (of_cell c) of after =
            let at = cells_fall c k of in by_holding at.0 at.1 c at.2 (higher at.0 at.3 (cell-there at.0 at.1 c at.2))

        -- an item with an owner goes with those that hold its owners
        owned-goes : 1 ≤ owner_count (standing_at w k) → Goes holds w (the_item k)
        owned-goes some =
            let f = found k in
            let all : length f.owners ≡ owner_count (standing_at w k) = omega (arith, f.count, accounted k) in
            by_giving k f.owners
            (record { each = λ o i. (f.each o i).0; distinct = f.apart; some = omega (arith, all, some); all = all })
            (λ o i. let x = f.each o i in owner-goes o x.0 x.1)

        standing-goes : (s : Option Standing) → standing_at w k ≡ s → IsSome (standing_at w k) → Goes holds w (the_item k)
        standing-goes None is some = absurd (cc)
        standing-goes (Some Owned) is some = owned-goes (omega (arith, ap owner_count is))
        standing-goes (Some Raw) is some = absurd (not_raw k is)
        standing-goes (Some (Shared n)) is some =
            let count : owner_count (standing_at w k) ≡ max 1 n = ap owner_count is in
            owned-goes (omega (arith, count))
        standing-goes (Some Retired) is some = waits k (ap is_waiting is)
        standing-goes (Some (privately c)) is some = waits k (ap is_waiting is)

      -- from the highest rank down
      goes-from : (n b k : ℕ) → ((j : ℕ) → j < length w.standings → rank j < b) → b ≤ rank k + n → IsSome (standing_at w k) → Goes holds w (the_item k)
      goes-from zero b k below near some = absurd (omega (arith, near, below k (inside w.standings k some)))
      goes-from (suc n) b k below near some =
          standing-goes k (λ j above there. goes-from n b j below (omega (arith, near, above)) there) (standing_at w k) refl some

      item-goes : (k : ℕ) → IsSome (standing_at w k) → Goes holds w (the_item k)
      item-goes k some = let b = bounded rank (length w.standings) in goes-from b.0 b.0 k b.1 (omega arith) some

      -- each item goes with those that hold its owners, and each cell with the value that holds it
      pub all-go : ((c : ℕ) → IsSome (entry_at w.cells c) → (j : ℕ) × (i : ℕ) × (cell_held (held_at holds w j i) ≡ Some c)) → AllGo holds w
      all-go stands =
          record {
            slots = item-goes;
            cells = λ c some. let at = stands c some in by_holding at.0 at.1 c at.2 (item-goes at.0 (cell-there at.0 at.1 c at.2));
          }
