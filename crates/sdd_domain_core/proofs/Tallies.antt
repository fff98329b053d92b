-- Tallies of what a participant knows, and of all receipts together
use Rattle.std.proofs.Common.{◌≡◌, ℕ, zero, suc, ◌+◌, ◌-◌, ◌≤◌, List, [], ◌∷◌, ◌++◌, All, map, sum, refl, ap, ◌∙◌, arith}
use Rattle.std.proofs.lemmas.List.Sums.{sum_by-cons}
use Rattle.sdd_participants.specs.declared.tally.Tally.{Tally}
use Rattle.sdd_participants.specs.Tally.{one_made, one_reclaimed, one_in_place}
use Rattle.sdd_rights.specs.declared.views.CountsView.{CountsView}
use Rattle.sdd_rights.specs.Views.{no_counts}
use Rattle.sdd_domain_invariant.specs.Fractions.FractionSteps.{counts_added}
use Rattle.sdd_domain_steps.specs.Receipt.{Receipt, capped, most_counted, sum_of, with_reclaimed, IsTallied, AddsUp, HasTaken, made_in, reclaimed_in, in_place_in}

-- an item more
pub tallied_made : (t : Tally) (c : CountsView) → IsTallied 0 t c → IsTallied 0 (one_made t) (record c { made = c.made + 1 })
tallied_made t c i = let m = i.made in record { over = i.over; made = omega arith; few = i.few; reclaimed = i.reclaimed; in_place = i.in_place }

-- one that was reclaimed
pub tallied_reclaimed : (t : Tally) (c : CountsView) → IsTallied 0 t c → IsTallied 0 (one_reclaimed t) (record c { gone = c.gone + 1 })
tallied_reclaimed t c i = let r = i.reclaimed in let few = i.few in
    record { over = i.over; made = i.made; few = omega arith; reclaimed = omega arith; in_place = i.in_place }

-- one that was dropped in its place
pub tallied_in_place : (t : Tally) (c : CountsView) → IsTallied 0 t c → IsTallied 0 (one_in_place t) (record c { gone = c.gone + 1; in_place = c.in_place + 1 })
tallied_in_place t c i = let r = i.reclaimed in let p = i.in_place in let few = i.few in
    record { over = i.over; made = i.made; few = omega arith; reclaimed = omega arith; in_place = omega arith }

-- its place has ended
pub tallied_ended : (t : Tally) (c : CountsView) → IsTallied 0 t c → IsTallied 1 t (record c { over = c.over + 1 })
tallied_ended t c i = let o = i.over in record { over = omega arith; made = i.made; few = i.few; reclaimed = i.reclaimed; in_place = i.in_place }

-- so many, and so many others
pub many_more : (m n k : ℕ) (t : Tally) → k ≡ m + n → with_reclaimed n (with_reclaimed m t) ≡ with_reclaimed k t
many_more zero n k t both = ap (λ (j : ℕ). with_reclaimed j t) (let e : n ≡ k = omega arith in e)
many_more (suc m) zero k t both = ap (λ (j : ℕ). with_reclaimed j t) (let e : suc m ≡ k = omega arith in e)
many_more (suc m) (suc n) k t both =
    (λ d. record t { reclaimed = (let e : capped (capped (t.reclaimed + suc m) + suc n) ≡ capped (t.reclaimed + suc (m + suc n)) = omega arith in e d) })
    ∙ ap (λ (j : ℕ). with_reclaimed j t) (let e : suc (m + suc n) ≡ k = omega arith in e)

-- what a tally counts more after so many is how many were counted
pub counted_more : (gone more : ℕ) (t : Tally) → t.reclaimed ≤ most_counted → more ≡ (with_reclaimed gone t).reclaimed - t.reclaimed
    → with_reclaimed more t ≡ with_reclaimed gone t
counted_more zero more t low is = ap (λ (k : ℕ). with_reclaimed k t) (let e : more ≡ 0 = omega arith in e)
counted_more (suc n) zero t low is = λ d. record t { reclaimed = (let e : t.reclaimed ≡ capped (t.reclaimed + suc n) = omega arith in e d) }
counted_more (suc n) (suc k) t low is =
    λ d. record t { reclaimed = (let e : capped (t.reclaimed + suc k) ≡ capped (t.reclaimed + suc n) = omega arith in e d) }

pub none_taken : HasTaken [] no_counts
none_taken = record { over = refl; made = λ _. refl; few = omega arith; reclaimed = λ _. refl; in_place = λ _. refl }

one_summed : (f : Receipt → ℕ) (r : Receipt) (rs : List Receipt) → sum (map f (r ∷ rs)) ≡ f r + sum (map f rs)
one_summed f r rs = sum_by-cons (λ (x : ℕ). x) (f r) (map f rs)

-- one receipt more
pub one_taken : (r : Receipt) (rs : List Receipt) (c d : CountsView) → HasTaken rs c → IsTallied 1 r.tally d → HasTaken (r ∷ rs) (counts_added c d)
one_taken r rs c d h i = let over = h.over in let one = i.over in let made = i.made in let gone = i.reclaimed in
    let placed = i.in_place in let few = h.few in let few' = i.few in
    let more = λ (f : Receipt → ℕ). one_summed f r rs in let m = more made_in in let g = more reclaimed_in in let p = more in_place_in in record {
      over = omega arith;
      made = λ low. let a = h.made (omega arith) in omega arith;
      few = omega arith;
      reclaimed = λ low. let a = h.reclaimed (omega arith) in omega arith;
      in_place = λ low. let a = h.in_place (omega arith) in omega arith;
    }

-- what is so of each of them is so of each of the first ones
pub front_all : {X : Type 0} (P : X → Type 0) (xs ys : List X) → All P (xs ++ ys) → All P xs
front_all P [] ys h k d l = absurd (omega arith)
front_all P (x ∷ xs) ys h zero d l = h 0 d (omega arith)
front_all P (x ∷ xs) ys h (suc k) d l = front_all P xs ys (λ j d l. h (suc j) d (omega arith)) k d (omega arith)

-- what was made was reclaimed, or dropped in its place
pub adds_up : (rs : List Receipt) (c : CountsView) → HasTaken rs c → c.made ≡ c.gone → AddsUp (sum_of rs)
adds_up rs c h e low = let m = h.made (omega arith) in let g = h.reclaimed (omega arith) in let p = h.in_place (omega arith) in let few = h.few in omega arith
