-- What is due comes first of all that has seen three changes, and the rest goes on waiting
use Rattle.std.proofs.Common.{◌≡◌, ◌≢◌, ◌⊎◌, ℕ, zero, suc, ◌+◌, ◌-◌, ◌<◌, ◌≤◌, ◌==◌, not, nat_lt, List, [], ◌∷◌, map, filter, sym, refl, ap, ◌∙◌, inl, inr, ⊎_elim, eq-eqb, ne_eqb, arith}
use mathlib.Core.Bool.{Bool, true, false, cond}
use mathlib.Core.Option.{some, some-injective, some-ne-none}
use mathlib.Core.Logic.{dite}
use native.Mathlib.Decide.{dec_lt}
use lib.ListN.{get_elem?}
use Rattle.sdd_participants.specs.declared.waiting.LimboEntry.{LimboEntry}
use Rattle.sdd_participants.specs.declared.waiting.LimboEntry.TheVariants.{Item, Job}
use Rattle.sdd_participants.specs.Waiting.{Waiting, aged, due, left}
use Rattle.sdd_rights.specs.declared.views.WaitingItem.{WaitingItem}
use Rattle.sdd_domain_invariant.specs.Sums.{total}
use Rattle.sdd_domain_invariant.specs.Slots.{waits_in}
use Rattle.sdd_domain_invariant.specs.Slots.SlotSteps.{older, without_item}
use Rattle.sdd_domain_invariant.proofs.Sums.{is_same, is_other, total_has}
use Rattle.sdd_domain_steps.specs.InBags.{Kept, item_of}
use Rattle.sdd_domain_steps.specs.WaitingItems.{what_of, number_in, waiting_of, is_ripe, ripe, unripe}
use Rattle.sdd_domain_steps.proofs.KeptLists.{filter_alike, filter_true, left_kept, total_of_map}

pub either_way : (b : Bool) → (b ≡ true) ⊎ (b ≡ false)
either_way true = inl refl
either_way false = inr refl

module _ {X Y : Type 0} (f : X → Y) where
  map_cond : (b : Bool) (x : X) (xs : List X) → map f (cond b (x ∷ xs) xs) ≡ cond b (f x ∷ map f xs) (map f xs)
  map_cond true x xs = refl
  map_cond false x xs = refl

tail_of : List LimboEntry → List LimboEntry
tail_of [] = []
tail_of (w ∷ ws) = ws

head_number : ℕ → List LimboEntry → ℕ
head_number n [] = 0
head_number n (w ∷ ws) = number_in n w

head_of : LimboEntry → List LimboEntry → LimboEntry
head_of d [] = d
head_of d (w ∷ ws) = w

place_in : LimboEntry → ℕ
place_in (Item slot) = 0
place_in (Job place) = place

-- all but those of a slot
abbrev pub others_than : ℕ → List Kept → List Kept
others_than slot = left_kept (λ (x : WaitingItem). not (x.slot == slot))

-- where no item of a slot waits none is taken out
none_out : (slot : ℕ) (xs : List Kept) → total (waits_in slot) (map item_of xs) ≡ 0 → others_than slot xs ≡ xs
none_out slot [] e = refl
none_out slot (x ∷ xs) e = let r = none_out slot xs (omega arith) in
    let ne : (item_of x).slot ≢ slot = λ same. let i = is_same slot (item_of x).slot same in omega arith in
    ap (λ (b : Bool). cond (not b) (x ∷ others_than slot xs) (others_than slot xs)) (ne_eqb (item_of x).slot slot ne) ∙ ap (λ (l : List Kept). x ∷ l) r

-- one that waits is counted
pub kept_has : (slot : ℕ) (xs : List Kept) (k : ℕ) (x : Kept) → get_elem? xs k ≡ some x → (item_of x).slot ≡ slot → 1 ≤ total (waits_in slot) (map item_of xs)
kept_has slot xs k x at same = let t = total_of_map item_of (waits_in slot) xs in let h = total_has (λ (y : Kept). waits_in slot (item_of y)) xs k x at in
    let i = is_same slot (item_of x).slot same in omega arith

-- no more wait of any slot
pub no_more : (slot i : ℕ) (xs : List WaitingItem) → total (waits_in i) (without_item slot xs) ≤ total (waits_in i) xs
no_more slot i [] = omega arith
no_more slot i (x ∷ xs) = let r = no_more slot i xs in ⊎_elim
    (λ (t : (x.slot == slot) ≡ true). let e : without_item slot (x ∷ xs) ≡ without_item slot xs
    = ap (λ (b : Bool). cond (not b) (x ∷ without_item slot xs) (without_item slot xs)) t in
    let s = ap (λ (l : List WaitingItem). total (waits_in i) l) e in omega arith)
    (λ (t : (x.slot == slot) ≡ false). let e : without_item slot (x ∷ xs) ≡ x ∷ without_item slot xs
    = ap (λ (b : Bool). cond (not b) (x ∷ without_item slot xs) (without_item slot xs)) t in
    let s = ap (λ (l : List WaitingItem). total (waits_in i) l) e in omega arith)
    (either_way (x.slot == slot))

-- so many slots there are
module _ (n : ℕ) where
  -- what waits in a slot is its item, and what waits behind the slots is a job
  pub what_item : (x : WaitingItem) → x.slot < n → what_of n x ≡ Item x.slot
  what_item x low = grind arith

  pub what_job : (x : WaitingItem) → n ≤ x.slot → what_of n x ≡ Job (x.slot - n)
  what_job x high = grind arith

  pub number_of : (x : WaitingItem) → number_in n (what_of n x) ≡ x.slot
  number_of x = dite (dec_lt x.slot n) (λ low. ap (number_in n) (what_item x low))
      (λ high. ap (number_in n) (what_job x (omega arith)) ∙ (let e : n + (x.slot - n) ≡ x.slot = omega arith in e))

  -- the bags and the rule age alike
  pub aged_alike : (xs : List WaitingItem) → aged (map (waiting_of n) xs) ≡ map (waiting_of n) (map older xs)
  aged_alike [] = refl
  aged_alike (x ∷ xs) = ap (λ (l : List Waiting). waiting_of n (older x) ∷ l) (aged_alike xs)

  pub left_alike : (xs : List WaitingItem) → left (map (waiting_of n) xs) ≡ map (waiting_of n) (unripe xs)
  left_alike [] = refl
  left_alike (x ∷ xs) = ap (λ (l : List Waiting). cond (not (is_ripe x)) (waiting_of n x ∷ l) l) (left_alike xs)
      ∙ sym (map_cond (waiting_of n) (not (is_ripe x)) x (unripe xs))

  pub due_alike : (xs : List WaitingItem) → due (map (waiting_of n) xs) ≡ map (what_of n) (ripe xs)
  due_alike [] = refl
  due_alike (x ∷ xs) = map_cond (λ (w : Waiting). w.what) (is_ripe x) (waiting_of n x) (filter (λ (w : Waiting). nat_lt 2 w.seen) (map (waiting_of n) xs))
      ∙ (ap (λ (l : List LimboEntry). cond (is_ripe x) (what_of n x ∷ l) l) (due_alike xs) ∙ sym (map_cond (what_of n) (is_ripe x) x (ripe xs)))

  -- ---- what is due, by some test
  module _ (p : Kept → Bool) where
    by_place : (y : Kept) (xs : List Kept) → p y ≡ false → ((k : ℕ) (x : Kept) → get_elem? xs k ≡ some x → p x ≡ false) → (k : ℕ) (x : Kept)
        → get_elem? (y ∷ xs) k ≡ some x → p x ≡ false
    by_place y xs t rest zero x at = ap p (sym (some-injective y x at)) ∙ t
    by_place y xs t rest (suc k) x at = rest k x at

    abbrev pub due_by : List Kept → List LimboEntry
    due_by xs = map (what_of n) (map item_of (filter p xs))

    abbrev pub others_by : List Kept → List Kept
    others_by = filter (λ (x : Kept). not (p x))

    -- the first that is due is one of those that wait
    pub first_is_due : (w : LimboEntry) (rest : List LimboEntry) (xs : List Kept) → due_by xs ≡ w ∷ rest
        → (k : ℕ) × (x : Kept) × (get_elem? xs k ≡ some x) × ((item_of x).slot ≡ number_in n w) × (p x ≡ true)
    unfolding head_number
    first_is_due w rest [] e = absurd cc
    first_is_due w rest (x ∷ xs) e = ⊎_elim
        (λ (t : p x ≡ true). let h : map (what_of n) (item_of x ∷ map item_of (filter p xs)) ≡ w ∷ rest
        = ap (λ (b : Bool). map (what_of n) (map item_of (cond b (x ∷ filter p xs) (filter p xs)))) (sym t) ∙ e in
        (0, x, refl, sym (number_of (item_of x)) ∙ ap (head_number n) h, t))
        (λ (t : p x ≡ false). let h : due_by xs ≡ w ∷ rest
        = ap (λ (b : Bool). map (what_of n) (map item_of (cond b (x ∷ filter p xs) (filter p xs)))) (sym t) ∙ e in
        let r = first_is_due w rest xs h in (suc r.0, r.1, r.2, r.3, r.4))
        (either_way (p x))

    -- the first that is due goes, and nothing else
    pub first_goes : (w : LimboEntry) (rest : List LimboEntry) (xs : List Kept) → due_by xs ≡ w ∷ rest → total (waits_in (number_in n w)) (map item_of xs) ≡ 1
        → (due_by (others_than (number_in n w) xs) ≡ rest) × (others_by (others_than (number_in n w) xs) ≡ others_by xs)
    unfolding head_number tail_of
    first_goes w rest [] e once = absurd cc
    first_goes w rest (x ∷ xs) e once = let slot : ℕ = number_in n w in let gone : List Kept = others_than slot xs in let at : ℕ = (item_of x).slot in ⊎_elim
        (λ (t : p x ≡ true). let h : map (what_of n) (item_of x ∷ map item_of (filter p xs)) ≡ w ∷ rest
        = ap (λ (b : Bool). map (what_of n) (map item_of (cond b (x ∷ filter p xs) (filter p xs)))) (sym t) ∙ e in
        let same : at ≡ slot = sym (number_of (item_of x)) ∙ ap (head_number n) h in let i = is_same slot at same in
        let out : others_than slot (x ∷ xs) ≡ xs
        = ap (λ (b : Bool). cond (not b) (x ∷ gone) gone) (eq-eqb at slot same) ∙ none_out slot xs (omega arith) in (
          ap due_by out ∙ ap tail_of h,
          ap others_by out ∙ ap (λ (b : Bool). cond (not b) (x ∷ others_by xs) (others_by xs)) (sym t),
        ))
        (λ (t : p x ≡ false). let h : due_by xs ≡ w ∷ rest
        = ap (λ (b : Bool). map (what_of n) (map item_of (cond b (x ∷ filter p xs) (filter p xs)))) (sym t) ∙ e in
        let one = first_is_due w rest xs h in
        let here = kept_has slot xs one.0 one.1 one.2 one.3 in
        let ne : at ≢ slot = λ same. let j = is_same slot at same in omega arith in
        let j = is_other slot at ne in
        let r = first_goes w rest xs h (omega arith) in
        let stays : others_than slot (x ∷ xs) ≡ x ∷ gone = ap (λ (b : Bool). cond (not b) (x ∷ gone) gone) (ne_eqb at slot ne) in (
          ap due_by stays
              ∙ (ap (λ (b : Bool). map (what_of n) (map item_of (cond b (x ∷ filter p gone) (filter p gone)))) t ∙ r.0),
          ap others_by stays ∙ ap (λ (l : List Kept). cond (not (p x)) (x ∷ l) l) r.1,
        ))
        (either_way (p x))

    -- where nothing is due, nothing passes the test, and all goes on waiting
    pub none_passes : (xs : List Kept) → due_by xs ≡ [] → (k : ℕ) (x : Kept) → get_elem? xs k ≡ some x → p x ≡ false
    none_passes [] e k x at = absurd (some-ne-none x (sym at))
    none_passes (y ∷ xs) e k x at = ⊎_elim
        (λ (t : p y ≡ true). let h : map (what_of n) (item_of y ∷ map item_of (filter p xs)) ≡ []
        = ap (λ (b : Bool). map (what_of n) (map item_of (cond b (y ∷ filter p xs) (filter p xs)))) (sym t) ∙ e in absurd cc)
        (λ (t : p y ≡ false). let h : due_by xs ≡ []
        = ap (λ (b : Bool). map (what_of n) (map item_of (cond b (y ∷ filter p xs) (filter p xs)))) (sym t) ∙ e in
        by_place y xs t (none_passes xs h) k x at)
        (either_way (p y))

    pub all_left : (xs : List Kept) → due_by xs ≡ [] → others_by xs ≡ xs
    all_left xs e = filter_alike (λ (x : Kept). not (p x)) (λ (x : Kept). true) xs (λ k x at. ap not (none_passes xs e k x at)) ∙ filter_true xs

  -- the slot of the first one that is an item is one of the slots
  pub item_inside : (slot : ℕ) (rest : List LimboEntry) (xs : List WaitingItem) → map (what_of n) xs ≡ Item slot ∷ rest → slot < n
  unfolding head_of place_in
  item_inside slot rest [] e = absurd cc
  item_inside slot rest (x ∷ xs) e = let first : what_of n x ≡ Item slot = ap (head_of (what_of n x)) e in
      dite (dec_lt x.slot n) (λ low. let s = number_of x in let t = ap (number_in n) first in omega arith)
      (λ high. absurd (let other : Job (x.slot - n) ≡ Item slot = sym (what_job x (omega arith)) ∙ first in cc))
