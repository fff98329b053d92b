-- The list of the empty places, after each change of a table
use Rattle.std.proofs.Common.{◌≡◌, ◌≢◌, ℕ, ◌+◌, ◌<◌, ◌≤◌, true, false, cond, List, [], ◌∷◌, ◌++◌, Option, Some, None, IsSome, IsNone, All, is_some, is_none, count_by, length, zero, suc, ◌==◌, ◌↔◌, IsTrue, get_or, slice_set, eq-eqb, eqb-true, slice_index, arith, refl, sym, ap, ◌∙◌, below_more}
use Rattle.std.proofs.lemmas.List.{length-set, get_or_append_left, get_or_push, length-append, get_or-set_other, get_or-set_same, append-nil}
use Rattle.std.proofs.lemmas.List.Sums.{sum_by-set, sum_by-cons, count_by-le-length}
use Rattle.sdd_participants.specs.Slab.{Entries, entry_at, with_entry, without_entry, IsEmptyAt, IsListed}

-- what holds below n and at n holds below the next number
each_below : (P : ℕ → Type 0) (n : ℕ) → ((i : ℕ) → i < n → P i) → P n → (m : ℕ) → m ≡ n + 1 → (i : ℕ) → i < m → P i
each_below P n below here m e i lt = below_more P n below here i (omega arith)

module _ {E : Type 0} where
  -- an empty place counts one, another none
  abbrev one_if_none : Option E → ℕ
  one_if_none o = cond (is_none o) 1 0

  none-from-one : (o : Option E) → 1 ≤ one_if_none o → IsNone o
  none-from-one (Some x) h = absurd (omega arith)
  none-from-one None h = refl

  one-from-none : (o : Option E) → IsNone o → one_if_none o ≡ 1
  one-from-none (Some x) h = cc
  one-from-none None h = refl

  zero-from-some : (o : Option E) → IsSome o → one_if_none o ≡ 0
  zero-from-some (Some x) h = refl
  zero-from-some None h = cc

  -- a place with an entry is one of the table's
  pub entry-lt-length : (t : Entries E) (k : ℕ) → IsSome (entry_at t k) → k < length t
  entry-lt-length [] k h = cc
  entry-lt-length (x ∷ xs) zero h = omega arith
  entry-lt-length (x ∷ xs) (suc k) h = omega (arith, entry-lt-length xs k h)

  -- an entry put into an empty place
  pub count-claimed : (t : Entries E) (k : ℕ) (e : E) → IsEmptyAt t k → count_by is_none (with_entry t k e) + 1 ≡ count_by is_none t
  count-claimed t k e h =
      let was : one_if_none (entry_at t k) ≡ 1 = ap one_if_none h.1 in
      let step = sum_by-set one_if_none t k (Some e) None h.0 in
      omega (arith, was, step)

  -- an entry taken out
  pub count-released : (t : Entries E) (k : ℕ) → IsSome (entry_at t k) → count_by is_none (without_entry t k) ≡ count_by is_none t + 1
  count-released t k h =
      let was : one_if_none (entry_at t k) ≡ 0 = zero-from-some (entry_at t k) h in
      let step = sum_by-set one_if_none t k None None (entry-lt-length t k h) in
      omega (arith, was, step)

  -- an entry in the place of one
  pub count-replaced : (t : Entries E) (k : ℕ) (e : E) → IsSome (entry_at t k) → count_by is_none (with_entry t k e) ≡ count_by is_none t
  count-replaced t k e h =
      let was : one_if_none (entry_at t k) ≡ 0 = zero-from-some (entry_at t k) h in
      let step = sum_by-set one_if_none t k (Some e) None (entry-lt-length t k h) in
      omega (arith, was, step)

  -- every place is empty
  pub empty-from-count : (t : Entries E) → count_by is_none t ≡ length t → All (λ e. IsNone e) t
  empty-from-count t h =
      λ k d lt.
      none-from-one (get_or t k d)
      (omega (arith, sum_by-set one_if_none t k None d lt, count_by-le-length is_none (without_entry t k), length-set t k None))

  pub count-from-empty : (t : Entries E) → All (λ e. IsNone e) t → count_by is_none t ≡ length t
  count-from-empty [] h = refl
  count-from-empty (x ∷ xs) h =
      let here : one_if_none x ≡ 1 = one-from-none x (h 0 x (omega arith)) in
      let rest : count_by is_none xs ≡ length xs = count-from-empty xs (λ k d lt. h (suc k) d (omega arith)) in
      omega (arith, here, rest, sum_by-cons one_if_none x xs)

  -- every place is empty, if as many are listed as there are
  pub empty-by-lengths : (t : Entries E) (empty : List ℕ) (room m n : ℕ) → IsListed t empty room → m ≡ length empty → n ≡ length t →
      IsTrue (m == n) ↔ All (λ e. IsNone e) t
  empty-by-lengths t empty room m n h m_is n_is =
      (λ same. empty-from-count t (omega (arith, h.all, eqb-true m n same)), λ all. eq-eqb m n (omega (arith, h.all, count-from-empty t all)))

  full_cons : (x : E) (xs : Entries E) → All (λ e. IsSome e) xs → All (λ e. IsSome e) (Some x ∷ xs)
  full_cons x xs h zero d lt = refl
  full_cons x xs h (suc k) d lt = h k d (omega arith)

  -- no place is empty, if none is listed
  pub full-from-count : (t : Entries E) → count_by is_none t ≡ 0 → All (λ e. IsSome e) t
  full-from-count [] h = λ k d lt. absurd (omega arith)
  full-from-count (None ∷ xs) h = absurd (omega (arith, h, sum_by-cons one_if_none None xs))
  full-from-count (Some x ∷ xs) h =
      let rest : count_by is_none xs ≡ 0 = omega (arith, h, sum_by-cons one_if_none (Some x) xs) in
      full_cons x xs (full-from-count xs rest)

  pub count-from-full : (t : Entries E) → All (λ e. IsSome e) t → count_by is_none t ≡ 0
  count-from-full [] h = refl
  count-from-full (x ∷ xs) h =
      let here : one_if_none x ≡ 0 = zero-from-some x (h 0 x (omega arith)) in
      let rest : count_by is_none xs ≡ 0 = count-from-full xs (λ k d lt. h (suc k) d (omega arith)) in
      omega (arith, here, rest, sum_by-cons one_if_none x xs)

  pub full-by-length : (t : Entries E) (empty : List ℕ) (room n : ℕ) → IsListed t empty room → n ≡ length empty → IsTrue (n == 0) ↔ All (λ e. IsSome e) t
  full-by-length t empty room n h n_is =
      (λ none. full-from-count t (omega (arith, h.all, eqb-true n 0 none)), λ all. eq-eqb n 0 (omega (arith, h.all, count-from-full t all)))

  -- there is room to list one more
  pub room-left : (t : Entries E) (k : ℕ) (empty : List ℕ) (room : ℕ) → IsListed t empty room → IsSome (entry_at t k) → length empty < room
  room-left t k empty room h some =
      omega (arith, h.all, h.reserved, count-released t k some, count_by-le-length is_none (without_entry t k), length-set t k None)

  -- the last one listed is empty
  pub listed-last : (t : Entries E) (k : ℕ) (empty rest : List ℕ) (room : ℕ) → IsListed t empty room → empty ≡ rest ++ k ∷ [] → IsEmptyAt t k
  listed-last t k empty rest room h split =
      let last : slice_index (rest ++ k ∷ []) (length rest) ≡ k = get_or_push rest k 0 (length rest) refl in
      let longer : length (rest ++ k ∷ []) ≡ length rest + 1 = length-append rest (k ∷ []) in
      let listed : IsListed t (rest ++ k ∷ []) room = rw split at h in
      rw last at (listed.each (length rest) (omega arith))

  -- the last one listed isn't listed before
  pub not-last : {t : Entries E} (rest empty : List ℕ) (room i k : ℕ) → IsListed t empty room → empty ≡ rest ++ k ∷ [] → i < length rest →
      slice_index rest i ≢ k
  not-last {t} rest empty room i k was split lt e =
      let h : IsListed t (rest ++ k ∷ []) room = rw split at was in
      let longer : length (rest ++ k ∷ []) ≡ length rest + 1 = length-append rest (k ∷ []) in
      let last : slice_index (rest ++ k ∷ []) (length rest) ≡ k = get_or_push rest k 0 (length rest) refl in
      let same : slice_index (rest ++ k ∷ []) i ≡ slice_index rest i = get_or_append_left rest (k ∷ []) 0 i lt in
      h.once i (length rest) lt (omega arith) (same ∙ e ∙ sym last)

  -- the last one listed gets an entry
  pub listed-claimed : (t : Entries E) (k : ℕ) (e : E) (next : Option E) (empty rest : List ℕ) (room later : ℕ) → IsListed t empty room →
      empty ≡ rest ++ k ∷ [] → next ≡ Some e → later ≡ room → IsListed (slice_set t k next) rest later
  listed-claimed t k e next empty rest room later was split next_is later_is =
      let h : IsListed t (rest ++ k ∷ []) room = rw split at was in
      let longer : length (rest ++ k ∷ []) ≡ length rest + 1 = length-append rest (k ∷ []) in
      let was_empty : IsEmptyAt t k = listed-last t k empty rest room was split in
      let same = λ (i : ℕ) (lt : i < length rest). get_or_append_left rest (k ∷ []) 0 i lt in
      rw (next_is, later_is)
      record {
        each = λ i lt.
            let before : IsEmptyAt t (slice_index rest i) = rw (same i lt) at (h.each i (omega arith)) in
            let other : slice_index rest i ≢ k = not-last rest empty room i k was split lt in
            (rw (length-set t k (Some e)) before.0, get_or-set_other t k (slice_index rest i) (Some e) None other ∙ before.1);
        once = λ i j lt lt_j. λ e. h.once i j lt (omega arith) (same i (omega arith) ∙ e ∙ sym (same j lt_j));
        all = omega (arith, h.all, count-claimed t k e was_empty);
        reserved = rw (length-set t k (Some e)) h.reserved;
      }

  -- a place with an entry isn't listed
  pub unlisted : (t : Entries E) (k : ℕ) (empty : List ℕ) (room : ℕ) (i : ℕ) → IsListed t empty room → IsSome (entry_at t k) → i < length empty →
      slice_index empty i ≢ k
  unlisted t k empty room i h some lt e =
      let none : entry_at t k ≡ None = rw e at ((h.each i lt).1) in
      let clash : false ≡ true = sym (ap is_some none) ∙ some in cc

  -- a place that is left is listed last
  pub listed-released : (t : Entries E) (k : ℕ) (next : Option E) (empty more : List ℕ) (room later : ℕ) → IsListed t empty room → IsSome (entry_at t k) →
      next ≡ None → more ≡ empty ++ k ∷ [] → later ≡ room → IsListed (slice_set t k next) more later
  listed-released t k next empty more room later h some next_is more_is later_is =
      let longer : length (empty ++ k ∷ []) ≡ length empty + 1 = length-append empty (k ∷ []) in
      let last : slice_index (empty ++ k ∷ []) (length empty) ≡ k = get_or_push empty k 0 (length empty) refl in
      let same = λ (i : ℕ) (lt : i < length empty). get_or_append_left empty (k ∷ []) 0 i lt in
      let there : k < length t = entry-lt-length t k some in
      rw (next_is, more_is, later_is)
      record {
        each = each_below (λ i. IsEmptyAt (without_entry t k) (slice_index (empty ++ k ∷ []) i)) (length empty)
            (λ i lt. rw (same i lt) (
              rw (length-set t k None) ((h.each i lt).0),
              get_or-set_other t k (slice_index empty i) None None
                  (unlisted t k empty room i h some lt) ∙ (h.each i lt).1,
            ))
            (rw last (rw (length-set t k None) there, get_or-set_same t k None None there))
            (length (empty ++ k ∷ [])) longer;
        once = λ i j i_lt_j lt.
            each_below (λ j. i < j → slice_index (empty ++ k ∷ []) i ≢ slice_index (empty ++ k ∷ []) j) (length empty)
            (λ j lt_j i_lt e. h.once i j i_lt lt_j (sym (same i (omega arith)) ∙ e ∙ same j lt_j))
            (λ i_lt e. unlisted t k empty room i h some i_lt (sym (same i i_lt) ∙ e ∙ last))
            (length (empty ++ k ∷ [])) longer j lt i_lt_j;
        all = omega (arith, h.all, count-released t k some);
        reserved = rw (length-set t k None) h.reserved;
      }

  -- no place is left or taken where an entry gives way to another
  pub listed-replaced : (t : Entries E) (k : ℕ) (e : E) (empty : List ℕ) (room : ℕ) → IsListed t empty room → IsSome (entry_at t k) →
      IsListed (with_entry t k e) empty room
  listed-replaced t k e empty room h some =
      record {
        each = λ i lt. (
          rw (length-set t k (Some e)) ((h.each i lt).0),
          get_or-set_other t k (slice_index empty i) (Some e) None (unlisted t k empty room i h some lt) ∙ (h.each i lt).1,
        );
        once = h.once;
        all = h.all ∙ sym (count-replaced t k e some);
        reserved = rw (length-set t k (Some e)) h.reserved;
      }

  -- where nothing came out, the list is the same
  pub listed-still : (t : Entries E) (empty left : List ℕ) (room later : ℕ) → IsListed t empty room → empty ≡ left ++ [] → later ≡ room → IsListed t left later
  listed-still t empty left room later h same later_is = rw (later_is) (rw (same ∙ append-nil left) at h)
