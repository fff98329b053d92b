-- How many items wait with one participant
use Rattle.std.proofs.Common.{◌≡◌, ℕ, zero, suc, ◌+◌, ◌<◌, ◌≤◌, ◌==◌, not, List, [], ◌∷◌, map, length, sym, refl, ap, ◌∙◌, eq-eqb, ne_eqb, arith}
use Rattle.std.proofs.lemmas.List.{get_or_past}
use mathlib.Core.Bool.{Bool, true, false, cond}
use mathlib.Core.Option.{some}
use mathlib.Core.Logic.{dite}
use native.Mathlib.Decide.{ℕ_discrete}
use native.Mathlib.Decide.{dec_lt}
use lib.ListN.{get_elem?}
use Rattle.sdd_rights.specs.declared.views.WaitingItem.{WaitingItem}
use Rattle.sdd_rights.specs.declared.views.View.{View}
use Rattle.sdd_rights.specs.declared.views.Sizes.{Sizes}
use Rattle.sdd_domain_invariant.specs.Words.{slot_word, most_waiting}
use Rattle.sdd_domain_invariant.specs.Codes.{WordReading, IsWordReading}
use Rattle.sdd_domain_invariant.specs.Sums.{total, is, times}
use Rattle.sdd_domain_invariant.specs.Slots.{slot_at, items_at, waits_in, Owns, SlotsInvariant}
use Rattle.sdd_domain_invariant.specs.Slots.SlotSteps.{without}
use Rattle.sdd_domain_invariant.proofs.Slots.SlotWords.{owner_in}
use Rattle.sdd_domain_invariant.proofs.Sums.{is_same, is_other, without_same, without_other, total_has}

one_apart : (b : Bool) (x : ℕ) (ys : List ℕ) (t : ℕ) → (b ≡ false → t ≡ 1) → (b ≡ true → t ≡ 0) → length (cond b (x ∷ ys) ys) + t ≡ suc (length ys)
one_apart true x ys t zeroed oned = let e = oned refl in omega arith
one_apart false x ys t zeroed oned = let e = zeroed refl in omega arith

kept_is : (n x : ℕ) → not (x == n) ≡ true → is n x ≡ 0
kept_is n x e = is_other n x (λ same. grind (arith, eq-eqb x n same))

gone_is : (n x : ℕ) → not (x == n) ≡ false → is n x ≡ 1
gone_is n x e = is_same n x (dite (ℕ_discrete x n) (λ same. same) (λ ne. absurd (grind (arith, ne_eqb x n ne))))

split : (n : ℕ) (l : List ℕ) → length (without n l) + times n l ≡ length l
split n [] = refl
split n (x ∷ xs) = let a = one_apart (not (x == n)) x (without n xs) (is n x) (gone_is n x) (kept_is n x) in let b = split n xs in omega arith

-- a list of different numbers below n is no longer than n
pub few : (n : ℕ) (l : List ℕ) → ((i : ℕ) → times i l ≤ 1) → ((i : ℕ) → n ≤ i → times i l ≡ 0) → length l ≤ n
few zero [] once low = omega arith
few zero (x ∷ xs) once low = let a = low x (omega arith) in let b = is_same x x refl in omega arith
few (suc n) l once low = let s = split n l in let o = once n in
    let rest = few n (without n l)
    (λ i. dite (ℕ_discrete i n) (λ (e : i ≡ n). let z = ap (λ (k : ℕ). times k (without n l)) e ∙ without_same n l in omega arith)
    (λ ne. let z = without_other n i ne l in let o' = once i in omega arith))
    (λ i high. dite (ℕ_discrete i n) (λ (e : i ≡ n). ap (λ (k : ℕ). times k (without n l)) e ∙ without_same n l)
    (λ ne. without_other n i ne l ∙ low i (omega arith)))
    in omega arith

slots_of : List WaitingItem → List ℕ
slots_of xs = map (λ (x : WaitingItem). x.slot) xs

times_map : (i : ℕ) (xs : List WaitingItem) → times i (slots_of xs) ≡ total (waits_in i) xs
unfolding slots_of
times_map i [] = refl
times_map i (x ∷ xs) = ap (λ (k : ℕ). is i x.slot + k) (times_map i xs)

length_map : (xs : List WaitingItem) → length (slots_of xs) ≡ length xs
unfolding slots_of
length_map [] = refl
length_map (x ∷ xs) = let r = length_map xs in omega arith

module _ (z : WordReading) (sound : IsWordReading z) (sizes : Sizes) (ws : List ℕ) (vs : List View) (p : SlotsInvariant z sizes ws vs)
    (id : ℕ) (v : View) (at : get_elem? vs id ≡ some v) where
  at_most_one : (x : ℕ) → z.waiting x ≤ 1
  at_most_one x = dite (dec_lt 0 (z.waiting x)) (λ some_wait. let e = (sound.waits x some_wait).0 in omega arith) (λ none. omega arith)

  most : (i : ℕ) → items_at i v ≤ z.waiting (slot_at sizes ws i)
  most i = let a = total_has (items_at i) vs id v at in let b = p.waited i in omega arith

  once : (i : ℕ) → items_at i v ≤ 1
  once i = let a = most i in let b = at_most_one (slot_at sizes ws i) in omega arith

  none_past : (i : ℕ) → most_waiting sizes ≤ i → items_at i v ≡ 0
  none_past i high = let e : slot_at sizes ws i ≡ 0 = get_or_past ws (slot_word sizes i) 0 (let l = p.long in omega arith) in
      let free : z.waiting (slot_at sizes ws i) ≡ 0 = ap z.waiting e ∙ sound.free.1 in let a = most i in omega arith

  -- where nothing waits in a slot or a job's place, less waits with it than may
  pub few_beside : (slot : ℕ) → slot < most_waiting sizes → z.waiting (slot_at sizes ws slot) ≡ 0 → length v.slots.waits < most_waiting sizes
  few_beside slot inside quiet =
      let l : List ℕ = slot ∷ slots_of v.slots.waits in
      let same : (i : ℕ) → times i l ≡ is i slot + items_at i v = λ i. ap (λ (k : ℕ). is i slot + k) (times_map i v.slots.waits) in
      let count = few (most_waiting sizes) l
      (λ i. let s = same i in let o = once i in dite (ℕ_discrete slot i)
      (λ (e : slot ≡ i). let a = is_same i slot e in let b = most i in
      let q : z.waiting (slot_at sizes ws i) ≡ 0 = ap (λ (k : ℕ). z.waiting (slot_at sizes ws k)) (sym e) ∙ quiet in omega arith)
      (λ ne. let a = is_other i slot ne in omega arith))
      (λ i high. let s = same i in let a = is_other i slot (λ e. omega arith) in let b = none_past i high in omega arith)
      in let long = length_map v.slots.waits in omega arith

  -- the same where it has an owner of the slot
  pub few_wait : (slot : ℕ) → slot < sizes.slots → Owns v slot → length v.slots.waits < most_waiting sizes
  few_wait slot inside mine = let o = owner_in z sound sizes ws vs p id slot v at in
      few_beside slot (omega arith) (sound.lives (slot_at sizes ws slot) (omega arith)).0

  -- and none of it waits with it
  pub none_wait : (slot : ℕ) → z.waiting (slot_at sizes ws slot) ≡ 0 → items_at slot v ≡ 0
  none_wait slot quiet = let m = most slot in omega arith

  -- where an item of a slot waits with it, none else does
  pub waits_once : (slot k : ℕ) (x : WaitingItem) → get_elem? v.slots.waits k ≡ some x → x.slot ≡ slot → items_at slot v ≡ 1
  waits_once slot k x has of = let a = total_has (waits_in slot) v.slots.waits k x has in let b = is_same slot x.slot of in let c = once slot in omega arith
