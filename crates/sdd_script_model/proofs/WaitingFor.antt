-- What waits for a collector: in which slots it is, and what it is called
use Rattle.sdd_script_model.proofs.Words.{IsPermutation, IsNonDecreasingBy, IsStrictlyIncreasing, Contains-get_or, is_for, waiting_for, listed-without, ItemName, ScriptState, IsThere, slot_at, names_in, SlotsHaveNames, not, [], subst, filter, range_with_len, filter_passes, is_private_to, none-taken, slots_waiting_for, ◌≡◌, ℕ, zero, suc, ◌+◌, ◌<◌, ◌≤◌, ◌==◌, Bool, true, false, if◌then◌else◌, List, ◌∷◌, Option, IsSome, map, length, slice_index_or, refl, sym, ap, ◌∙◌, eq-eqb, arith, nat_tests, All, Contains, ◌↔◌, LimboEntry, Item, Standing, is_waiting, IsWhole, is_of_slot, World, standing_at, one_where, times_among, count-cons, some-waits, Val, get_or-range_with_len, length-range_with_len, none-left}
use Rattle.std.proofs.lemmas.List.Filters.{sum_by-filter_both}
use Rattle.sdd_script_model.proofs.Lemmas.{counted-one, counted-there, names-found, own-slot, times_in, slot-inside}

-- ---- the numbers of a range that pass a test

filter-there : {X : Type 0} (p : X → Bool) (xs : List X) (x : X) → Contains xs x → p x ≡ true → Contains (filter p xs) x
filter-there p [] x c is = absurd (omega (arith, c.1))
filter-there p (y ∷ xs) x (zero, l, e) is = rw (ap p e ∙ is) (0, omega arith, e)
filter-there p (y ∷ xs) x (suc n, l, e) is = by (p y) (filter-there p xs x (n, omega (arith, l), e) is) where
  by : (b : Bool) → Contains (filter p xs) x → Contains (if b then y ∷ filter p xs else filter p xs) x
  by true c = let lt = c.1 in (suc c.0, omega (arith, lt), c.2)
  by false c = c

range-step : (a s rest all : ℕ) → all ≡ one_where (a == s) + rest → rest ≤ 1 → (s < a + 1 → rest ≡ 0) → (all ≤ 1) × (s < a → all ≡ 0)
range-step a s rest all is once none = grind (arith, nat_tests)

-- a range has each number once, from the start on
range-once : (a n s : ℕ) → (times_in s (range_with_len a n) ≤ 1) × (s < a → times_in s (range_with_len a n) ≡ 0)
range-once a zero s = (omega arith, λ before. refl)
range-once a (suc n) s =
    let rest = range-once (a + 1) n s in range-step a s _ _ (count-cons (λ k. k == s) a (range_with_len (a + 1) n)) rest.0 rest.1

passing-once : (p : ℕ → Bool) (n s : ℕ) → times_in s (filter p (range_with_len 0 n)) ≤ 1
passing-once p n s =
    omega (arith, sum_by-filter_both p (λ k. not (p k)) (λ k. refl) (λ k. one_where (k == s)) (range_with_len 0 n), (range-once 0 n s).0)

-- ---- what waits for the collector stands so

pub private-waits : (c : ℕ) (x : Option Standing) → is_private_to c x ≡ true → is_waiting x ≡ true
private-waits c x e = grind arith

module _ (w : World Val) (c s : ℕ) where
  same-slot : (b : Bool) → is_for w c (Item s) ≡ b → (x : LimboEntry) → is_of_slot s x ≡ true → is_for w c x ≡ b
  same-slot b is x of = ap (is_for w c) (own-slot s x of) ∙ is

  pub waits-for : IsWhole w → is_for w c (Item s) ≡ true → Contains (waiting_for w c) (Item s)
  waits-for whole is =
      let none = none-left (is_of_slot s) (is_for w c) (same-slot true is) w.time.places in
      let all = listed-without (is_of_slot s) (is_for w c) w.time.places in
      let once = rw (private-waits c (standing_at w s) is) at (whole.once s) in
      let some : 1 ≤ times_among s (waiting_for w c) = omega (arith, none, all, once) in
      let one = counted-one (is_of_slot s) (waiting_for w c) some in
      subst (Contains (waiting_for w c)) (own-slot s one.0 one.2) one.1

  pub stands-for : Contains (waiting_for w c) (Item s) → is_for w c (Item s) ≡ true
  stands-for there = by (is_for w c (Item s)) refl where
    by : (b : Bool) → is_for w c (Item s) ≡ b → is_for w c (Item s) ≡ true
    by true is = is
    by false is =
        let none = none-taken (is_of_slot s) (is_for w c) (same-slot false is) w.time.places in
        absurd (omega (arith, none, counted-there (is_of_slot s) (waiting_for w c) (Item s) there (eq-eqb s s refl)))

-- ---- the slots of a state in which something waits for the collector

module _ (d : ScriptState) (stocked : SlotsHaveNames d) (whole : IsWhole d.world) (c : ℕ) where
  abbrev pub slots_for : List ℕ
  slots_for = slots_waiting_for d.world c (length d.names)

  found-stands : (s : ℕ) → Contains slots_for s → is_for d.world c (Item s) ≡ true
  found-stands s (k, lt, e) =
      ap (λ j. is_for d.world c (Item j)) (sym e)
      ∙ filter_passes (λ j. is_for d.world c (Item j)) (range_with_len 0 (length d.names)) k s lt

  found-waits : (s : ℕ) → Contains slots_for s → Contains (waiting_for d.world c) (Item s)
  found-waits s there = waits-for d.world c s whole (found-stands s there)

  -- its slot is not free
  found-taken : (s : ℕ) → Contains slots_for s → IsSome (standing_at d.world s)
  found-taken s there = some-waits (standing_at d.world s) (private-waits c (standing_at d.world s) (found-stands s there))

  waits-found : (s : ℕ) → Contains (waiting_for d.world c) (Item s) → Contains slots_for s
  waits-found s there =
      let stands = stands-for d.world c s there in
      let taken = some-waits (standing_at d.world s) (private-waits c (standing_at d.world s) stands) in
      let lt = (slot-inside d stocked s taken).0 in
      filter-there (λ j. is_for d.world c (Item j)) (range_with_len 0 (length d.names)) s
      (s, omega (arith, lt, length-range_with_len 0 (length d.names)), get_or-range_with_len 0 (length d.names) s s lt ∙ omega arith) stands

  -- each of them has a name
  pub found-inside : All (λ s. s < length d.names) slots_for
  found-inside k e lt =
      let s = slice_index_or slots_for k e in
      (slot-inside d stocked s (found-taken s (Contains-get_or slots_for k e lt))).0

  -- the names found, and sorted, are exactly those of the items that wait for the collector
  pub names-waiting : (found sorted : List ItemName) → found ≡ names_in d.names slots_for → IsPermutation found sorted →
      IsNonDecreasingBy (λ (i : ItemName). i.0) sorted →
      IsStrictlyIncreasing (map (λ (i : ItemName). i.0) sorted)
      × ((i : ItemName) → Contains sorted i ↔ (IsThere d i.0 × Contains (waiting_for d.world c) (Item (slot_at d i.0))))
  names-waiting =
      names-found d stocked slots_for (λ s. Contains (waiting_for d.world c) (Item s)) (λ s. (found-waits s, waits-found s)) found-taken
      (passing-once (λ j. is_for d.world c (Item j)) (length d.names))
