-- What a table shows of what lies in its places
use Rattle.std.proofs.Common.{◌≡◌, ◌≢◌, ℕ, ◌<◌, List, [], ◌∷◌, ◌++◌, Some, None, IsSome, length, zero, suc, replicate, slice_index, slice_index_or, slice_set, arith, refl, sym, ap, ◌∙◌}
use Rattle.std.specs.Prelude.{map}
use Rattle.std.specs.List.{range_with_len}
use Rattle.std.proofs.lemmas.List.{append-nil, get_or-map, length-map, length-replicate, length-set, set-set, set_comm}
use Rattle.std.proofs.lemmas.List.FromFn.{get_or-range_with_len, length-range_with_len}
use Rattle.sdd_participants.specs.Slab.{Entries, IsListed, but_empty, entry_at, with_entry, without_entry, without_entries}
use Rattle.sdd_participants.proofs.EmptyPlaces.{entry-lt-length, not-last}

module _ {E : Type 0} where
  length-without : (t : Entries E) (ks : List ℕ) → length (without_entries t ks) ≡ length t
  length-without t [] = refl
  length-without t (k ∷ ks) = length-without (without_entry t k) ks ∙ length-set t k None

  -- there are as many places
  pub length-but : (es : List E) (ks : List ℕ) → length (but_empty es ks) ≡ length es
  unfolding but_empty
  length-but es ks = length-without (map Some es) ks ∙ length-map es Some

  without-more : (t : Entries E) (ks : List ℕ) (k : ℕ) → without_entries t (ks ++ k ∷ []) ≡ without_entry (without_entries t ks) k
  without-more t [] k = refl
  without-more t (j ∷ ks) k = without-more (without_entry t j) ks k

  -- one place more is empty
  pub but-more : (es : List E) (ks more : List ℕ) (k : ℕ) → more ≡ ks ++ k ∷ [] → but_empty es more ≡ without_entry (but_empty es ks) k
  unfolding but_empty
  but-more es ks more k e = ap (λ (js : List ℕ). without_entries (map Some es) js) e ∙ without-more (map Some es) ks k

  without-other : (t : Entries E) (ks : List ℕ) (k : ℕ) (e : E) → ((i : ℕ) → i < length ks → slice_index ks i ≢ k) →
      without_entries (with_entry t k e) ks ≡ with_entry (without_entries t ks) k e
  without-other t [] k e other = refl
  without-other t (j ∷ ks) k e other =
      ap (λ (u : Entries E). without_entries u ks) (set_comm t k j (Some e) None (λ same. other 0 (omega arith) (sym same)))
      ∙ without-other (without_entry t j) ks k e (λ i lt. other (suc i) (omega arith))

  map-some-set : (es : List E) (k : ℕ) (e : E) → map Some (slice_set es k e) ≡ with_entry (map Some es) k e
  map-some-set [] k e = refl
  map-some-set (x ∷ es) zero e = refl
  map-some-set (x ∷ es) (suc k) e = ap (λ (t : Entries E). Some x ∷ t) (map-some-set es k e)

  -- another entry lies in a place that isn't listed
  pub but-set : (es : List E) (ks : List ℕ) (k : ℕ) (e : E) → ((i : ℕ) → i < length ks → slice_index ks i ≢ k) →
      but_empty (slice_set es k e) ks ≡ with_entry (but_empty es ks) k e
  unfolding but_empty
  but-set es ks k e other = ap (λ (t : Entries E). without_entries t ks) (map-some-set es k e) ∙ without-other (map Some es) ks k e other

  kept-before : (t : Entries E) (j k : ℕ) → IsSome (entry_at (without_entry t j) k) → entry_at (without_entry t j) k ≡ entry_at t k
  kept-before [] j k some = refl
  kept-before (x ∷ xs) zero zero some = absurd (cc)
  kept-before (x ∷ xs) zero (suc k) some = refl
  kept-before (x ∷ xs) (suc j) zero some = refl
  kept-before (x ∷ xs) (suc j) (suc k) some = kept-before xs j k some

  there-before : (t : Entries E) (ks : List ℕ) (k : ℕ) → IsSome (entry_at (without_entries t ks) k) → entry_at (without_entries t ks) k ≡ entry_at t k
  there-before t [] k some = refl
  there-before t (j ∷ ks) k some =
      let e : entry_at (without_entries (without_entry t j) ks) k ≡ entry_at (without_entry t j) k = there-before (without_entry t j) ks k some in
      e ∙ kept-before t j k (rw e at some)

  -- a place with an entry is within
  pub but-inside : (es : List E) (ks : List ℕ) (k : ℕ) → IsSome (entry_at (but_empty es ks) k) → k < length es
  but-inside es ks k some = omega (arith, entry-lt-length (but_empty es ks) k some, length-but es ks)

  -- the entry is what lies there
  pub but-at : (es : List E) (ks : List ℕ) (k : ℕ) (x : E) → IsSome (entry_at (but_empty es ks) k) → x ≡ slice_index_or es k x →
      entry_at (but_empty es ks) k ≡ Some x
  unfolding but_empty
  but-at es ks k x some is =
      let inside : k < length es = but-inside es ks k some in
      there-before (map Some es) ks k some ∙ get_or-map Some es k x None inside ∙ ap (λ (y : E). Some y) (sym is)

  none-here : (t : Entries E) (k : ℕ) → entry_at (without_entry t k) k ≡ None
  none-here [] k = refl
  none-here (x ∷ xs) zero = refl
  none-here (x ∷ xs) (suc k) = none-here xs k

  none-still : (t : Entries E) (j k : ℕ) → entry_at t k ≡ None → entry_at (without_entry t j) k ≡ None
  none-still [] j k e = refl
  none-still (x ∷ xs) zero zero e = refl
  none-still (x ∷ xs) zero (suc k) e = e
  none-still (x ∷ xs) (suc j) zero e = e
  none-still (x ∷ xs) (suc j) (suc k) e = none-still xs j k e

  none-stays : (t : Entries E) (ks : List ℕ) (k : ℕ) → entry_at t k ≡ None → entry_at (without_entries t ks) k ≡ None
  none-stays t [] k e = e
  none-stays t (j ∷ ks) k e = none-stays (without_entry t j) ks k (none-still t j k e)

  emptied : (t : Entries E) (ks : List ℕ) (i : ℕ) → i < length ks → entry_at (without_entries t ks) (slice_index ks i) ≡ None
  emptied t [] i lt = absurd (omega arith)
  emptied t (j ∷ ks) zero lt = none-stays (without_entry t j) ks j (none-here t j)
  emptied t (j ∷ ks) (suc i) lt = emptied (without_entry t j) ks i (omega arith)

  all-none : (t : Entries E) → ((k : ℕ) → k < length t → entry_at t k ≡ None) → t ≡ replicate (length t) None
  all-none [] h = refl
  all-none (None ∷ xs) h = ap (λ (t : Entries E). None ∷ t) (all-none xs (λ k lt. h (suc k) (omega arith)))
  all-none (Some x ∷ xs) h = let here : Some x ≡ None = h 0 (omega arith) in absurd (cc)

  -- where all places are listed, all are empty
  pub but-all : (n : ℕ) (e : E) (es : List E) (ks : List ℕ) → es ≡ replicate n e → ks ≡ range_with_len 0 n → but_empty es ks ≡ replicate n None
  unfolding but_empty
  but-all n e es ks all numbers =
      let size : length (but_empty es ks) ≡ n = length-but es ks ∙ ap length all ∙ length-replicate n e in
      let listed : length ks ≡ n = ap length numbers ∙ length-range_with_len 0 n in
      let at = λ (k : ℕ) (lt : k < length (but_empty es ks)).
      let there = ap (λ (js : List ℕ). slice_index js k) numbers in
      let is : slice_index ks k ≡ k = omega (arith, there, get_or-range_with_len 0 n k 0 (omega (arith, size, lt))) in
      let none : entry_at (but_empty es ks) (slice_index ks k) ≡ None = emptied (map Some es) ks k (omega (arith, size, listed, lt)) in
      rw is at none in
      all-none (but_empty es ks) at ∙ ap (λ (m : ℕ). replicate m None) size

  -- nothing came out of the list
  pub but-still : (es : List E) (ks left : List ℕ) → ks ≡ left ++ [] → but_empty es left ≡ but_empty es ks
  but-still es ks left same = ap (but_empty es) (sym (same ∙ append-nil left))

  -- the last one listed gets an entry
  pub but-claimed : (es : List E) (ks rest : List ℕ) (room k : ℕ) (e : E) → IsListed (but_empty es ks) ks room → ks ≡ rest ++ k ∷ [] →
      but_empty (slice_set es k e) rest ≡ with_entry (but_empty es ks) k e
  but-claimed es ks rest room k e h split =
      let was : but_empty es ks ≡ without_entry (but_empty es rest) k = but-more es rest ks k split in
      let other = λ (i : ℕ) (lt : i < length rest). not-last rest ks room i k h split lt in
      but-set es rest k e other ∙ sym (set-set (but_empty es rest) k None (Some e)) ∙ ap (λ (t : Entries E). with_entry t k e) (sym was)
