-- What an opening does to a script's slots: which are freed, and which names it answers
use Rattle.sdd_script_model.proofs.Words.{option_map, IsPermutation, IsNonDecreasingBy, IsStrictlyIncreasing, Contains-get_or, sum_by-IsPermutation, IsPermutation-sym, Contains-permutation, get_or-le-sum_by, owner_given, one-place, some-waits, times-aged, ItemName, ScriptState, IsThere, slot_at, name_at, names_in, SlotsHaveNames, slots_among, cases_lt, cons_option, filter_map, sum_by_more, sum_by_more_le, ◌≡◌, ◌≢◌, ℕ, suc, ◌+◌, ◌<◌, ◌≤◌, ◌==◌, ◌↔◌, Bool, true, false, List, [], ◌∷◌, Option, Some, None, IsSome, map, length, count_by, slice_index_or, inl, inr, refl, sym, ap, ◌∙◌, eq-eqb, arith, nat_tests, All, Contains, length-map, LimboEntry, Item, Standing, is_waiting, reclaims, IsWhole, is_of_slot, once_if, World, place_at, standing_at, value_at, one_where, times_among, count-cons, filled-there, Val, zero, subst, named_in, IsSound, common_steps, Contains-append_cases, Contains-append_left, Contains-append_right, flat_map, slot_waiting}
use Rattle.std.proofs.lemmas.List.{get_or-map as get_or-map_in}
use Rattle.sdd_script_model.proofs.SlotsHaveNames.{item-there, slot-inside}

-- ---- how often a list names something

-- how often a slot is among these
abbrev pub times_in : ℕ → List ℕ → ℕ
times_in s slots = count_by (λ k. k == s) slots

-- what is there is counted
pub counted-there : {X : Type 0} (q : X → Bool) (xs : List X) (x : X) → Contains xs x → q x ≡ true → 1 ≤ count_by q xs
counted-there q xs x (k, lt, e) is = omega (arith, rw (e, is) at (get_or-le-sum_by (λ y. one_where (q y)) xs k x lt))

-- what is counted is there
pub counted-one : {X : Type 0} (q : X → Bool) (xs : List X) → 1 ≤ count_by q xs → (x : X) × Contains xs x × (q x ≡ true)
counted-one q [] some = absurd (omega (arith, some))
counted-one {X} q (x ∷ xs) some = by (q x) refl (counted-one q xs) where
  by : (b : Bool) → q x ≡ b → (1 ≤ count_by q xs → (y : X) × Contains xs y × (q y ≡ true)) → (y : X) × Contains (x ∷ xs) y × (q y ≡ true)
  by true is later = (x, (0, omega arith, refl), is)
  by false not later =
      let none : one_where (q x) ≡ 0 = ap one_where not in
      let rest = later (omega (arith, some, count-cons q x xs, none)) in
      let at = rest.1 in
      (rest.0, (suc at.0, omega (arith, at.1), at.2), rest.2)

-- an entry of a slot is its item
pub own-slot : (s : ℕ) (x : LimboEntry) → is_of_slot s x ≡ true → x ≡ Item s
own-slot s x of = grind (arith, nat_tests)

abbrev number : ItemName → ℕ
number i = i.0

abbrev first_item : ItemName
first_item = record { 0 = 0 }

-- numbers that do not fall, each of which is there once at most, rise
pub rises : {X : Type 0} (f : X → ℕ) (d : X) (xs : List X) → IsNonDecreasingBy f xs → ((n : ℕ) → count_by (λ x. f x == n) xs ≤ 1) →
    IsStrictlyIncreasing (map f xs)
rises {X} f d xs up once k lt =
    let lt : k + 1 < length xs = omega (arith, length-map xs f) in
    let here : X → ℕ = λ x. one_where (f x == f (slice_index_or xs k d)) in
    let both = sum_by_more_le here xs (k + 1) d lt in
    let first = sum_by_more here xs k d (omega arith) in
    let one = once (f (slice_index_or xs k d)) in
    let le = up k (k + 1) d (omega arith) lt in
    rw (get_or-map_in f xs k d 0 (omega arith), get_or-map_in f xs (k + 1) d 0 lt) (grind (arith, nat_tests))

-- ---- what is reclaimed waits, and goes

pub once-bound : (b : Bool) → once_if b ≤ 1
once-bound b = grind arith

-- what one opening makes due waits, each once
reclaims-once : (w : World Val) (p s : ℕ) → IsWhole w → times_among s (reclaims w p) ≤ once_if (is_waiting (standing_at w s))
reclaims-once w p s i =
    let aged = times-aged s (place_at w p).bags.waiting in
    let one = one-place s w.time.places p in
    let all = i.once s in
    grind arith

reclaims-wait : (w : World Val) (p s : ℕ) → IsWhole w → 1 ≤ times_among s (reclaims w p) → is_waiting (standing_at w s) ≡ true
reclaims-wait w p s i some = let once = reclaims-once w p s i in grind arith

pub reclaimed-counts : (w : World Val) (p s : ℕ) → Contains (reclaims w p) (Item s) → 1 ≤ times_among s (reclaims w p)
reclaimed-counts w p s c = counted-there (is_of_slot s) (reclaims w p) (Item s) c (eq-eqb s s refl)

module _ (w : World Val) (p : ℕ) (whole : IsWhole w) where
  -- what is reclaimed waited before, with its value
  pub counted-waits : (s : ℕ) → 1 ≤ times_among s (reclaims w p) →
      (is_waiting (standing_at w s) ≡ true) × IsSome (standing_at w s) × IsSome (value_at w s)
  counted-waits s some =
      let waits = reclaims-wait w p s whole some in
      let stands = some-waits (standing_at w s) waits in
      (waits, stands, filled-there w s whole.filled ∙ stands)

  pub reclaimed-waits : (s : ℕ) → Contains (reclaims w p) (Item s) →
      (is_waiting (standing_at w s) ≡ true) × IsSome (standing_at w s) × IsSome (value_at w s)
  reclaimed-waits s c = counted-waits s (reclaimed-counts w p s c)

-- an owner that is given changes no other slot
pub given-other : (w : World Val) (p k s : ℕ) (t : Option Standing) → standing_at w k ≡ t → s ≢ k → standing_at (owner_given w p k t) s ≡ standing_at w s
given-other w p k s t is ne = grind (arith, common_steps)

-- ---- the names of slots that are taken, each there once

-- what comes from each entry of a list: it is there, nothing else is, and as often
module _ {X Y : Type 0} (f : X → List Y) where
  pub from-one : (xs : List X) (y : Y) → Contains (flat_map f xs) y → (x : X) × Contains xs x × Contains (f x) y
  from-one [] y c = absurd (omega (arith, c.1))
  from-one (x ∷ xs) y c = elim (Contains-append_cases (f x) (flat_map f xs) y c) [
    | inl here ↦ (x, (0, omega arith, refl), here)
    | inr later ↦ (let rest = from-one xs y later in (rest.0, (suc rest.1.0, (let lt = rest.1.1 in omega arith), rest.1.2), rest.2))
  ]

  pub comes-there : (xs : List X) (x : X) (y : Y) → Contains xs x → Contains (f x) y → Contains (flat_map f xs) y
  comes-there [] x y c e = absurd (omega (arith, c.1))
  comes-there (z ∷ xs) x y (zero, l, is) e = Contains-append_left (f z) (flat_map f xs) y (rw is e)
  comes-there (z ∷ xs) x y (suc n, l, is) e = Contains-append_right (f z) (flat_map f xs) y (comes-there xs x y (n, omega (arith, l), is) e)

  pub comes-once : (p : Y → Bool) (q : X → Bool) (xs : List X) → ((x : X) → Contains xs x → count_by p (f x) ≤ one_where (q x)) →
      count_by p (flat_map f xs) ≤ count_by q xs
  comes-once p q [] t = omega arith
  comes-once p q (x ∷ xs) t =
      let first = t x (0, omega arith, refl) in
      let rest = comes-once p q xs (λ z c. t z (suc c.0, (let lt = c.1 in omega arith), c.2)) in
      grind (arith, common_steps, count-cons q x xs)

-- what is told of some is told of one of them, and of each that it tells something of
abbrev as-list : {X Y : Type 0} → (X → Option Y) → X → List Y
as-list h x = cons_option (h x) []

told-list : {X Y : Type 0} (h : X → Option Y) (xs : List X) → filter_map h xs ≡ flat_map (as-list h) xs
told-list h [] = refl
told-list h (x ∷ xs) = grind (arith, common_steps, told-list h xs)

told-so : {Y : Type 0} (o : Option Y) (y : Y) → Contains (cons_option o []) y → o ≡ Some y
told-so o y c = grind (arith, common_steps)

-- of numbers, each of which is there once, each tells another name, or none: sorted these rise, and are exactly those that some number tells
module _ {N : Type 0} (number : N → ℕ) (first : N) (told : ℕ → Option N) (xs : List ℕ) (once : (k : ℕ) → times_in k xs ≤ 1)
    (apart : (k m : ℕ) (i j : N) → Contains xs k → Contains xs m → told k ≡ Some i → told m ≡ Some j → number i ≡ number j → k ≡ m) where
  told-once : (n : ℕ) → count_by (λ i. number i == n) (flat_map (as-list told) xs) ≤ 1
  told-once n =
      elim (cases_lt 0 (count_by (λ i. number i == n) (flat_map (as-list told) xs))) [
        | inr none ↦ omega (arith, none)
        | inl some ↦
            (let one = counted-one (λ i. number i == n) (flat_map (as-list told) xs) (omega (arith, some)) in
            let from = from-one (as-list told) xs one.0 one.1 in
            let le = comes-once (as-list told) (λ i. number i == n) (λ m. m == from.0) xs
            (λ m c. by m from.0 one.0 (told m) (λ j is same. apart m from.0 j one.0 c from.1 is (told-so (told from.0) one.0 from.2) same) one.2) in
            omega (arith, le, once from.0))
      ] where
        by : (m k : ℕ) (i : N) (o : Option N) → ((j : N) → o ≡ Some j → number j ≡ number i → m ≡ k) → (number i == n) ≡ true →
            count_by (λ j. number j == n) (cons_option o []) ≤ one_where (m == k)
        by m k i None same is = omega arith
        by m k i (Some j) same is = let one = same j refl in grind (arith, nat_tests)

  pub names-told : (found sorted : List N) → found ≡ flat_map (as-list told) xs → IsPermutation found sorted → IsNonDecreasingBy number sorted →
      IsStrictlyIncreasing (map number sorted) × ((i : N) → Contains sorted i ↔ ((k : ℕ) × Contains xs k × (told k ≡ Some i)))
  names-told found sorted is moved up = (
    rises number first sorted up (λ n. omega (
      arith,
      told-once n,
      ap (count_by (λ i. number i == n)) is,
      sum_by-IsPermutation (λ i. one_where (number i == n)) found sorted moved,
    )),
    (λ i. (
      (λ c. let there = subst (λ ys. Contains ys i) is (Contains-permutation sorted found i (IsPermutation-sym found sorted moved) c) in
          let from = from-one (as-list told) xs i there in (from.0, from.1, told-so (told from.0) i from.2)),
      (λ h. Contains-permutation found sorted i moved (subst (λ ys. Contains ys i) (sym is)
          (comes-there (as-list told) xs h.0 i h.1 (rw h.2 (0, omega arith, refl))))),
    )),
  )

name-told : (x : Option ℕ) (i : ItemName) → option_map (λ (n : ℕ). record first_item { 0 = n }) x ≡ Some i → x ≡ Some i.0
name-told x i e = grind arith

-- so do the items in these slots, each of which is so
module _ (d : ScriptState) (stocked : SlotsHaveNames d) (slots : List ℕ) (IsSo : ℕ → Type 0) (are : (s : ℕ) → Contains slots s ↔ IsSo s)
    (taken : (s : ℕ) → Contains slots s → IsSome (standing_at d.world s)) (once : (s : ℕ) → times_in s slots ≤ 1) where
  its-slot : (s : ℕ) (i : ItemName) → Contains slots s → named_in d.names s ≡ Some i → IsThere d i.0 × (slot_at d i.0 ≡ s)
  its-slot s i c told = item-there d stocked s (taken s c) i.0 (name-told (name_at d s) i told)

  pub names-found : (found sorted : List ItemName) → found ≡ names_in d.names slots → IsPermutation found sorted →
      IsNonDecreasingBy (λ (i : ItemName). i.0) sorted →
      IsStrictlyIncreasing (map (λ (i : ItemName). i.0) sorted) × ((i : ItemName) → Contains sorted i ↔ (IsThere d i.0 × IsSo (slot_at d i.0)))
  names-found found sorted is moved up =
      let all = names-told number first_item (named_in d.names) slots once
      (λ k m i j c e at it same. sym (its-slot k i c at).1 ∙ ap (slot_at d) same ∙ (its-slot m j e it).1) found sorted
      (is ∙ told-list (named_in d.names) slots) moved up in (
        all.0,
        (λ i. (
          (λ c. let from = (all.1 i).0 c in
              let home = its-slot from.0 i from.1 from.2 in (home.0, rw home.1 ((are from.0).0 from.1))),
          (λ h. (all.1 i).1 (slot_at d i.0, (are (slot_at d i.0)).1 h.1, ap (option_map (λ n. record i { 0 = n })) h.0.last)),
        )),
      )

-- ---- the names that an opening answers

-- what is chosen of what waits, the number of each entry of one kind, is that of its entries
pub chosen-are : (chosen : LimboEntry → List ℕ) (entry : ℕ → LimboEntry) → ((k : ℕ) → Contains (chosen (entry k)) k) →
    ((x : LimboEntry) (k : ℕ) → Contains (chosen x) k → x ≡ entry k) → (xs : List LimboEntry) (k : ℕ) →
    Contains (flat_map chosen xs) k ↔ Contains xs (entry k)
chosen-are chosen entry own of xs k = (
  (λ c. let from = from-one chosen xs k c in subst (λ x. Contains xs x) (of from.0 k from.2) from.1),
  (λ c. comes-there chosen xs (entry k) k c (own k)),
)

slot-of : (x : LimboEntry) (k : ℕ) → Contains (slot_waiting x) k → x ≡ Item k
slot-of x k c = grind (arith, common_steps)

slot-once : (x : LimboEntry) (k : ℕ) → times_in k (slot_waiting x) ≤ one_where (is_of_slot k x)
slot-once x k = grind (arith, common_steps)

module _ (d : ScriptState) (p : ℕ) (stocked : SlotsHaveNames d) (whole : IsWhole d.world) (slots : List ℕ) (are : slots ≡ slots_among (reclaims d.world p))
  where
    slots-are : (s : ℕ) → Contains slots s ↔ Contains (reclaims d.world p) (Item s)
    slots-are s = rw are (chosen-are slot_waiting Item (λ k. (0, omega arith, refl)) slot-of (reclaims d.world p) s)

    slot-before : (s : ℕ) → Contains slots s → (is_waiting (standing_at d.world s) ≡ true) × IsSome (standing_at d.world s) × IsSome (value_at d.world s)
    slot-before s c = reclaimed-waits d.world p whole s ((slots-are s).0 c)

    -- each of them has a name
    pub slots-inside : All (λ s. s < length d.names) slots
    slots-inside k e lt =
        let s = slice_index_or slots k e in
        (slot-inside d stocked s (slot-before s (Contains-get_or slots k e lt)).1).0

    -- each of them is there once
    slots-once : (s : ℕ) → times_in s slots ≤ 1
    slots-once s =
        let times = comes-once slot_waiting (λ k. k == s) (is_of_slot s) (reclaims d.world p) (λ x c. slot-once x s) in
        omega (arith, ap (times_in s) are, times, reclaims-once d.world p s whole, once-bound (is_waiting (standing_at d.world s)))

-- what is answered of an opening rises, and names exactly the items that are reclaimed
pub names-go : (d : ScriptState) (s : IsSound d) → IsWhole d.world → (p : ℕ) (slots : List ℕ) (found sorted : List ItemName) →
    slots ≡ slots_among (reclaims d.world p) → found ≡ names_in d.names slots → IsPermutation found sorted →
    IsNonDecreasingBy (λ (i : ItemName). i.0) sorted →
    IsStrictlyIncreasing (map (λ (i : ItemName). i.0) sorted)
    × ((i : ItemName) → Contains sorted i ↔ (IsThere d i.0 × Contains (reclaims d.world p) (Item (slot_at d i.0))))
names-go d s whole p slots found sorted are =
    names-found d s.stocked slots (λ k. Contains (reclaims d.world p) (Item k))
    (slots-are d p s.stocked whole slots are)
    (λ k c. (slot-before d p s.stocked whole slots are k c).1) (slots-once d p s.stocked whole slots are) found sorted
