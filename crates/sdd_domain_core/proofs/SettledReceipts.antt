-- All participants with which something waits reclaim it, one after another.
use Rattle.std.proofs.Common.{◌≡◌, ℕ, zero, suc, ◌+◌, ◌-◌, ◌<◌, List, [], ◌∷◌, ◌++◌, All, length, length-append, append_assoc, append-nil, map, sum, slice_index_or, slice_set, sym, refl, ap, ◌∙◌, subst, arith}
use Rattle.std.proofs.Math.Seq.{set-append_seam, get_or-append_seam}
use Rattle.std.proofs.lemmas.List.{get_or_append_left}
use Rattle.std.proofs.lemmas.List.Sums.{sum_by-cons}
use Rattle.sdd_rights.specs.Units as units
use Rattle.sdd_participants.specs.declared.tally.Tally.{Tally}
use Rattle.sdd_domain_steps.specs.Receipt.{Receipt, capped, sum_of, with_reclaimed, made_in, reclaimed_in, in_place_in, IsSettled, AreSettled}

-- one receipt more
pub one_settled : (items own : ℕ) (xs ys : List Receipt) (x y : Receipt) → AreSettled items xs ys → IsSettled own x y → AreSettled (items + own) (xs ++ x ∷ [])
    (ys ++ y ∷ [])
one_settled items own [] [] x y are is = (own, (omega arith), is, (omega arith))
one_settled items own [] (z ∷ ys) x y are is = absurd are
one_settled items own (z ∷ xs) [] x y are is = absurd are
one_settled items own (z ∷ xs) (u ∷ ys) x y are is = let few = are.1 in (
  are.0,
  (omega arith),
  are.2,
  subst (λ (n : ℕ). AreSettled n (xs ++ x ∷ []) (ys ++ y ∷ [])) (let e : items - are.0 + own ≡ items + own - are.0 = omega arith in e)
      (one_settled (items - are.0) own xs ys x y are.3 is),
)

-- as many are settled as there were
pub as_many : (items : ℕ) (xs ys : List Receipt) → AreSettled items xs ys → length ys ≡ length xs
as_many items [] [] are = refl
as_many items [] (y ∷ ys) are = absurd are
as_many items (x ∷ xs) [] are = absurd are
as_many items (x ∷ xs) (y ∷ ys) are = let rest = as_many (items - are.0) xs ys are.3 in omega arith

-- of so many receipts the first ones are settled
pub record Going (items step : ℕ) (start now : List Receipt) : Type 0 where
  pub took : List Receipt
  pub rest : List Receipt
  pub done : List Receipt
  pub before : start ≡ took ++ rest
  pub after : now ≡ done ++ rest
  pub long : length took ≡ step
  pub are : AreSettled items took done

pub begins : (items step : ℕ) (xs : List Receipt) → items ≡ 0 → step ≡ 0 → Going items step xs xs
begins items step xs none first = record { took = []; rest = xs; done = []; before = refl; after = refl; long = sym first; are = none }

pub first_of : (xs : List Receipt) → 0 < length xs → (x : Receipt) × (rest : List Receipt) × (xs ≡ x ∷ rest)
first_of [] some = absurd (omega arith)
first_of (x ∷ xs) some = (x, xs, refl)

none_of : (xs : List Receipt) → length xs ≡ 0 → xs ≡ []
none_of [] none = refl
none_of (x ∷ xs) none = absurd (omega arith)

pub one_of : (P : Receipt → Type 0) (xs ys : List Receipt) (x : Receipt) → All P (xs ++ x ∷ ys) → P x
one_of P [] ys x all = all 0 x (omega arith)
one_of P (z ∷ xs) ys x all = one_of P xs ys x (λ k d low. all (suc k) d (omega arith))

pub front_of : (P : Receipt → Type 0) (xs ys : List Receipt) → All P (xs ++ ys) → All P xs
front_of P xs ys all k d low = subst P (get_or_append_left xs ys d k low) (all k d (let both = length-append xs ys in omega arith))

module _ (items step : ℕ) (start now : List Receipt) (g : Going items step start now) where
  -- as many as there were
  pub still_long : length now ≡ length start
  still_long = let a = ap length g.before ∙ length-append g.took g.rest in let b = ap length g.after ∙ length-append g.done g.rest in
      let same = as_many items g.took g.done g.are in omega arith

  module _ (low : step < length start) where
    abbrev pub next : (x : Receipt) × (rest : List Receipt) × (g.rest ≡ x ∷ rest)
    next = first_of g.rest (let both = ap length g.before ∙ length-append g.took g.rest in let long = g.long in omega arith)

    here : now ≡ g.done ++ next.0 ∷ next.1
    here = g.after ∙ ap (λ (l : List Receipt). g.done ++ l) next.2

    there : start ≡ g.took ++ next.0 ∷ next.1
    there = g.before ∙ ap (λ (l : List Receipt). g.took ++ l) next.2

    as_far : length g.done ≡ step
    as_far = as_many items g.took g.done g.are ∙ g.long

    -- the next one is the one that lies there
    pub next_is : (x d : Receipt) → x ≡ slice_index_or now step d → x ≡ next.0
    next_is x d is = is ∙ (ap (λ (l : List Receipt). slice_index_or l step d) here ∙
        (ap (λ (k : ℕ). slice_index_or (g.done ++ next.0 ∷ next.1) k d) (sym as_far)
        ∙ get_or-append_seam g.done next.0 next.1 d))

    pub still_home : (P : Receipt → Type 0) (x d : Receipt) → x ≡ slice_index_or now step d → All P start → P x
    still_home P x d is all = subst P (sym (next_is x d is)) (one_of P g.took next.1 next.0 (subst (All P) there all))

    -- it is settled where it lies
    pub goes_on : (own items' step' : ℕ) (x d y : Receipt) → x ≡ slice_index_or now step d → IsSettled own x y
        → items' ≡ items + own → step' ≡ step + 1 → Going items' step' start (slice_set now step y)
    goes_on own items' step' x d y is settled more after = let first : next.0 ≡ x = sym (next_is x d is) in record {
      took = g.took ++ next.0 ∷ [];
      rest = next.1;
      done = g.done ++ y ∷ [];
      before = there ∙ sym (append_assoc g.took (next.0 ∷ []) next.1);
      after = ap (λ (l : List Receipt). slice_set l step y) here ∙ (ap (λ (k : ℕ). slice_set (g.done ++ next.0 ∷ next.1) k y) (sym as_far)
          ∙ (set-append_seam g.done next.0 next.1 y ∙ sym (append_assoc g.done (y ∷ []) next.1)));
      long = (let both = length-append g.took (next.0 ∷ []) in let long = g.long in omega arith);
      are = subst (λ (n : ℕ). AreSettled n (g.took ++ next.0 ∷ []) (g.done ++ y ∷ [])) (sym more)
          (one_settled items own g.took g.done next.0 y g.are (subst (λ (r : Receipt). IsSettled own r y) (sym first) settled));
    }

  -- once each was the next
  pub ends : step ≡ length start → AreSettled items start now
  ends all = let both = ap length g.before ∙ length-append g.took g.rest in let long = g.long in
      let none : g.rest ≡ [] = none_of g.rest (omega arith) in
      let start_is : start ≡ g.took = g.before ∙ (ap (λ (l : List Receipt). g.took ++ l) none ∙ append-nil g.took) in
      let now_is : now ≡ g.done = g.after ∙ (ap (λ (l : List Receipt). g.done ++ l) none ∙ append-nil g.done) in
      subst (λ (l : List Receipt × List Receipt). AreSettled items l.0 l.1) (λ d. (sym start_is d, sym now_is d)) g.are

-- ---- what is so of receipts is so of the settled ones
pub home_again : (P : units.GhostName → Type 0) (items : ℕ) (xs ys : List Receipt) → AreSettled items xs ys → All (λ (r : Receipt). P r.home) xs
    → All (λ (r : Receipt). P r.home) ys
home_again P items [] [] are all k d low = absurd (omega arith)
home_again P items [] (y ∷ ys) are all k d low = absurd are
home_again P items (x ∷ xs) [] are all k d low = absurd are
home_again P items (x ∷ xs) (y ∷ ys) are all zero d low = subst P (sym are.2.home) (all 0 d (omega arith))
home_again P items (x ∷ xs) (y ∷ ys) are all (suc k) d low =
    home_again P (items - are.0) xs ys are.3 (λ j d low. all (suc j) d (omega arith)) k d (omega arith)

one_summed : (f : Receipt → ℕ) (r : Receipt) (rs : List Receipt) → sum (map f (r ∷ rs)) ≡ f r + sum (map f rs)
one_summed f r rs = sum_by-cons (λ (x : ℕ). x) (f r) (map f rs)

same_sum : (f : Receipt → ℕ) → ((own : ℕ) (x y : Receipt) → IsSettled own x y → f y ≡ f x) → (items : ℕ) (xs ys : List Receipt) → AreSettled items xs ys
    → sum (map f ys) ≡ sum (map f xs)
same_sum f same items [] [] are = refl
same_sum f same items [] (y ∷ ys) are = absurd are
same_sum f same items (x ∷ xs) [] are = absurd are
same_sum f same items (x ∷ xs) (y ∷ ys) are = let own = same are.0 x y are.2 in let rest = same_sum f same (items - are.0) xs ys are.3 in
    let a = one_summed f x xs in let b = one_summed f y ys in omega arith

same_made : (own : ℕ) (t : Tally) → (with_reclaimed own t).made ≡ t.made
same_made zero t = refl
same_made (suc own) t = refl

same_in_place : (own : ℕ) (t : Tally) → (with_reclaimed own t).in_place ≡ t.in_place
same_in_place zero t = refl
same_in_place (suc own) t = refl

more_reclaimed : (own r : ℕ) (t : Tally) → capped ((with_reclaimed own t).reclaimed + r) ≡ capped (t.reclaimed + own + r)
more_reclaimed zero r t = ap capped (let e : t.reclaimed + r ≡ t.reclaimed + 0 + r = omega arith in e)
more_reclaimed (suc own) r t = omega arith

-- so many more were reclaimed in all
all_reclaimed : (items : ℕ) (xs ys : List Receipt) → AreSettled items xs ys → capped (sum (map reclaimed_in ys)) ≡ capped (sum (map reclaimed_in xs) + items)
all_reclaimed items [] [] are = ap capped (let e : 0 ≡ 0 + items = omega arith in e)
all_reclaimed items [] (y ∷ ys) are = absurd are
all_reclaimed items (x ∷ xs) [] are = absurd are
all_reclaimed items (x ∷ xs) (y ∷ ys) are = let few = are.1 in let rest = all_reclaimed (items - are.0) xs ys are.3 in
    let a = one_summed reclaimed_in x xs in let b = one_summed reclaimed_in y ys in
    let own = ap (λ (t : Tally). t.reclaimed) are.2.tally in
    let more = more_reclaimed are.0 (sum (map reclaimed_in ys)) x.tally in omega arith

with_more : (items r : ℕ) (t u : Tally) → u.made ≡ t.made → u.in_place ≡ t.in_place → t.reclaimed ≡ capped r → u.reclaimed ≡ capped (r + items)
    → u ≡ with_reclaimed items t
with_more zero r t u made in_place before now = λ d. record {
  made = made d;
  reclaimed = (let e : u.reclaimed ≡ t.reclaimed = now ∙ (ap capped (let z : r + 0 ≡ r = omega arith in z) ∙ sym before) in e d);
  in_place = in_place d;
}
with_more (suc items) r t u made in_place before now = λ d. record {
  made = made d;
  reclaimed = (let e : u.reclaimed ≡ capped (t.reclaimed + suc items) = omega arith in e d);
  in_place = in_place d;
}

-- and the tallies together tell it
pub settled_sum : (items : ℕ) (xs ys : List Receipt) → AreSettled items xs ys → sum_of ys ≡ with_reclaimed items (sum_of xs)
settled_sum items xs ys are = with_more items (sum (map reclaimed_in xs)) (sum_of xs) (sum_of ys)
    (ap capped (same_sum made_in (λ own x y is. ap (λ (t : Tally). t.made) is.tally ∙ same_made own x.tally) items xs ys are))
    (ap capped (same_sum in_place_in (λ own x y is. ap (λ (t : Tally). t.in_place) is.tally ∙ same_in_place own x.tally) items xs ys are))
    refl (all_reclaimed items xs ys are)
