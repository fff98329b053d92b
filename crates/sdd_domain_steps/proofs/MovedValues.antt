-- A value comes into the place of a slot, and leaves it; and what the guards see is shown.
use Rattle.std.proofs.Common.{◌≡◌, ℕ, zero, suc, ◌+◌, ◌<◌, List, [], ◌∷◌, map, drop, sym, refl, ap, ◌∙◌, subst, inl, inr, arith}
use Rattle.std.specs.Prelude.{Bool, MatchBool, None, true, false, ◌≢◌, ◌⊎◌}
use Rattle.std.proofs.Math.Dec.{eqb}
use Rattle.std.proofs.lemmas.Bool.Decides.{eqb_tells}
use mathlib.Core.Option.{some, some-injective, some-ne-none}
use mathlib.Core.Logic.{dite}
use lib.ListN.{get_elem?}
use native.Mathlib.Decide.{ℕ_discrete}
use base.Stored.{Gv}
use Rattle.sdd_shared_values.specs.ValueFractions.{FractionContent, AllFreeFor, unlent}
use Rattle.sdd_shared_values.specs.CarriedFractions.{contents, plain, OnlyLends}
use Rattle.sdd_shared_values.specs.declared.value_fraction.ValueFraction.{ValueFraction}
use Rattle.sdd_shared_values.specs.SharedValues.{most, IsValueCode, IsNoValueCode, CanShow, HasFractionShowing, HasWhole, AreWhole, all_turned}
use Rattle.sdd_rights.specs.declared.views.ShownValue.{ShownValue}
use Rattle.sdd_rights.specs.declared.views.View.{View}
use Rattle.sdd_domain_invariant.specs.Slots.SlotSteps.{given_back, Knew, LooksAtSlot}
use Rattle.sdd_domain_invariant.specs.Codes.{free_word}
use Rattle.sdd_domain_invariant.specs.Sums.{times}
use Rattle.sdd_domain_invariant.proofs.Sums.{is_other}
use Rattle.sdd_domain_invariant.specs.Fractions.FractionsAtHome.{CarriedFractions, Has, fraction_at}
use Rattle.sdd_domain_invariant.specs.Slots.Records.{slot_shown, IsIn}
use Rattle.sdd_domain_invariant.proofs.Slots.Records.{in_head, in_tail}
use Rattle.sdd_domain_invariant.specs.Slots.KindsInvariant.{written}
use Rattle.sdd_domain_invariant.specs.Fractions.FractionSteps.{SeatState, CarriesFirst, CarriesAll, IsValue, CarriesSeen, ClaimsAll, gamma_of, places_of, moving, making, giving, with_gone}
use Rattle.sdd_domain_invariant.proofs.Fractions.WholeFractions.{whole, all_after, rest_is}
use Rattle.atomic_table.specs.declared.shared.Seat.{Seat}
use Rattle.sdd_atomics.specs.DomainSeat.{Taught, Moved}
use Rattle.sdd_domain_steps.specs.Claims.{AllOut, Gains, IsKnownFree, Misses}
use Rattle.sdd_domain_steps.specs.BetweenCalls.{CarriesSeenOnly, AreLentTo}

module _ (γ i n k : ℕ) (count : k ≡ n + 1) where
  as_many : k ≡ suc n
  as_many = let e : k ≡ suc n = omega arith in e

  -- who has all fractions in a slot may move its value
  pub may_move : (Is : Gv → Type 0) (γ' : ℕ) → γ' ≡ γ → n < most → (rest xs : CarriedFractions) → CarriesAll γ i n 0 Is rest xs
      → HasWhole γ' i k Is (contents xs)
  may_move Is γ' same few rest xs row = subst (λ (t : ℕ × ℕ). HasWhole t.0 i t.1 Is (contents xs)) (λ d. (sym same d, sym as_many d))
      (whole γ i n Is few rest xs row)

  -- and has them still
  pub row_after : (Is Js : Gv → Type 0) (g : Gv) (a : ℕ) (rest xs ys : CarriedFractions) → Js g → CarriesAll γ i n 0 Is rest xs → ys ≡ all_turned a g k xs
      → CarriesAll γ i n 0 Js rest ys
  row_after Is Js g a rest xs ys so row e = all_after γ i n 0 Is Js g rest xs ys so row (a, e ∙ ap (λ (k : ℕ). all_turned a g k xs) as_many)

-- fractions that show a value show that the place is full
row_full : (γ i n o m : ℕ) (g : Gv) (rest xs : CarriedFractions) → CarriesFirst γ i n o (IsValue g) rest m xs → CarriesFirst γ i n o IsValueCode rest m xs
row_full γ i n o zero g rest xs row = row
row_full γ i n o (suc m) g rest [] row = row
row_full γ i n o (suc m) g rest (x ∷ xs) row = (row.0, (row.1.0, row.1.1.0), row_full γ i n o m g rest xs row.2)

pub all_full : (γ i n : ℕ) (g : Gv) (rest xs : CarriedFractions) → CarriesAll γ i n 0 (IsValue g) rest xs → CarriesAll γ i n 0 IsValueCode rest xs
all_full γ i n g rest xs row = row_full γ i n 0 (suc n) g rest xs row

-- the value that is moved out is the one that they show
first_shown : (γ i n : ℕ) (g h : Gv) (γ' a : ℕ) (rest xs : CarriedFractions) → CarriesAll γ i n 0 (IsValue g) rest xs
    → AreWhole γ' i a h (suc n) (contents xs) → h
    ≡ g
first_shown γ i n g h γ' a rest [] row are = absurd row
first_shown γ i n g h γ' a rest (x ∷ xs) row are = sym (ap (λ (l : FractionContent). l.shown) are.0.0) ∙ row.1.1.1

pub shown_out : (γ i n k : ℕ) → k ≡ n + 1 → (g h : Gv) (γ' a : ℕ) (rest xs : CarriedFractions) → CarriesAll γ i n 0 (IsValue g) rest xs
    → AreWhole γ' i a h k (contents xs) → h ≡ g
shown_out γ i n k count g h γ' a rest xs row are = first_shown γ i n g h γ' a rest xs row
    (subst (λ (j : ℕ). AreWhole γ' i a h j (contents xs)) (let e : k ≡ suc n = omega arith in e) are)

-- all go home, and what was out before is out still
pub rest_out : (γ i n n' o : ℕ) (Is : Gv → Type 0) (rest xs zs : CarriedFractions) → n' ≡ n → CarriesAll γ i n o Is rest xs → zs ≡ drop (suc n') xs → zs ≡ rest
rest_out γ i n n' o Is rest xs zs same row e = e ∙ (ap (λ (k : ℕ). drop (suc k) xs) same ∙ rest_is γ i n o Is rest (suc n) xs row)

-- a slot that was given back by who moved its value
pub rests_again : (slot y : ℕ) (v w : View) → v.fractions.moves ≡ None → w ≡ giving (given_back slot y (moving slot v)) → w ≡ with_gone (given_back slot y v)
rests_again slot y v w rests e = e ∙ (λ d. record (with_gone (given_back slot y v)) { fractions = record (with_gone v).fractions { moves = sym rests d } })

-- ---- what the guards see
pub nothing_out : (γ n p : ℕ) (sees : List ShownValue) (xs : CarriedFractions) → sees ≡ [] → CarriesSeenOnly γ n p sees xs → xs ≡ []
unfolding CarriesSeenOnly
nothing_out γ n p sees xs none carries = empty xs (subst (λ (l : List ShownValue). CarriesSeen γ n p l (plain xs)) none carries)
  where
    empty : (xs : CarriedFractions) → CarriesSeen γ n p [] (plain xs) → xs ≡ []
    empty [] h = refl
    empty (x ∷ xs) h = absurd h

pub carries_nothing : (γ n p : ℕ) (sees : List ShownValue) (xs : CarriedFractions) → sees ≡ [] → xs ≡ [] → CarriesSeenOnly γ n p sees xs
unfolding CarriesSeenOnly
carries_nothing γ n p sees xs e e' = subst (λ (t : List ShownValue × CarriedFractions). CarriesSeen γ n p t.0 (plain t.1)) (λ d. (sym e d, sym e' d)) tt

pub none_lent : (t : ℕ) (xs : CarriedFractions) → xs ≡ [] → AreLentTo t xs
unfolding AreLentTo
none_lent t xs e = subst (λ (l : CarriedFractions). AllFreeFor t (contents l)) (sym e) tt

-- what they see can be shown
there : (γ n p t slot : ℕ) (sees : List ShownValue) (xs : CarriedFractions) → CarriesSeen γ n p sees (plain xs) → AllFreeFor t (contents xs) → 0 < times slot
    (map slot_shown sees)
    → CanShow γ slot t (contents xs)
there γ n p t slot [] xs carries lent seen = absurd (omega arith)
there γ n p t slot (r ∷ sees) [] carries lent seen = absurd carries
there γ n p t slot (r ∷ sees) (x ∷ xs) carries lent seen = let is = carries.1.0 in dite (ℕ_discrete r.slot slot)
    (λ e. record {
      place = 0;
      one = x.1.content;
      there = refl;
      of_gamma = ap (λ (h : FractionContent). h.gamma) is;
      of_number = ap (λ (h : FractionContent). h.number) is ∙ e;
      full = carries.1.1.0;
      free = lent.0;
    })
    (λ ne. let o = is_other slot r.slot ne in let c = there γ n p t slot sees xs carries.2 lent.1 (omega arith) in record {
      place = suc c.place;
      one = c.one;
      there = c.there;
      of_gamma = c.of_gamma;
      of_number = c.of_number;
      full = c.full;
      free = c.free;
    })

pub can_show : (γ n p t slot : ℕ) (sees : List ShownValue) (xs : CarriedFractions) → CarriesSeenOnly γ n p sees xs → AreLentTo t xs → 0 < times slot
    (map slot_shown sees)
    → CanShow γ slot t (contents xs)
unfolding CarriesSeenOnly AreLentTo
can_show γ n p t slot sees xs carries lent seen = there γ n p t slot sees xs carries lent seen

-- and what is shown of it is what is known
shown_in : (γ n p slot γ' : ℕ) (g : Gv) (sees : List ShownValue) (xs : CarriedFractions) (place : ℕ) (one : FractionContent) → CarriesSeen γ n p sees (plain xs)
    → get_elem? (contents xs) place ≡ some one → one.number ≡ slot → one.shown ≡ g → IsIn sees slot g
shown_in γ n p slot γ' g [] [] place one carries at number shows = absurd (some-ne-none one (sym at))
shown_in γ n p slot γ' g [] (x ∷ xs) place one carries at number shows = absurd carries
shown_in γ n p slot γ' g (r ∷ sees) [] place one carries at number shows = absurd carries
shown_in γ n p slot γ' g (r ∷ sees) (x ∷ xs) zero one carries at number shows = let is : x.1.content ≡ one = some-injective x.1.content one at in
    in_head r sees slot g (sym (ap (λ (h : FractionContent). h.number) carries.1.0) ∙ (ap (λ (h : FractionContent). h.number) is ∙ number))
    (sym carries.1.1.1 ∙ (ap (λ (h : FractionContent). h.shown) is ∙ shows))
shown_in γ n p slot γ' g (r ∷ sees) (x ∷ xs) (suc place) one carries at number shows =
    in_tail r sees slot g (shown_in γ n p slot γ' g sees xs place one carries.2 at number shows)

pub shows_known : (γ n p slot γ' : ℕ) (g : Gv) (sees : List ShownValue) (xs : CarriedFractions) → CarriesSeenOnly γ n p sees xs → HasFractionShowing γ' slot g
    (contents xs) → IsIn sees slot g
unfolding CarriesSeenOnly
shows_known γ n p slot γ' g sees xs carries s = shown_in γ n p slot γ' g sees xs s.place s.one carries s.there s.of_number s.shows

-- a guard has come to see a slot
pub now_seen : (γ n p t slot spot : ℕ) (y : ValueFraction) (sees : List ShownValue) (xs : CarriedFractions) → CarriesSeenOnly γ n p sees xs → AreLentTo t xs →
    spot ≡ fraction_at n slot p
    → (shared : Bool) (value : Gv) → Has γ slot 1 (IsValue value) y
    → CarriesSeenOnly γ n p (record { slot = slot; shared = shared; value = value } ∷ sees) ((spot, y) ∷ xs) × AreLentTo t ((spot, y) ∷ xs)
unfolding CarriesSeenOnly AreLentTo
now_seen γ n p t slot spot y sees xs carries lent at shared value has =
    ((at, (ap unlent has.0, has.1), carries), (inl (ap (λ (h : FractionContent). h.lent) has.0), lent))

-- and is shown
pub still_seen : (γ n p t : ℕ) (sees : List ShownValue) (xs ys : CarriedFractions) → OnlyLends t xs ys → CarriesSeenOnly γ n p sees xs → AreLentTo t xs
    → CarriesSeenOnly γ n p sees ys × AreLentTo t ys
unfolding CarriesSeenOnly AreLentTo
still_seen γ n p t sees xs ys lends carries lent = (subst (CarriesSeen γ n p sees) (sym lends.0) carries, lends.1 lent)

-- ---- the last close
pub all_settled : (γ n p : ℕ) (sees : List ShownValue) (xs ys : CarriedFractions) → ys ≡ plain xs → CarriesSeenOnly γ n p sees xs → CarriesSeen γ n p sees ys
unfolding CarriesSeenOnly
all_settled γ n p sees xs ys e carries = subst (CarriesSeen γ n p sees) (sym e) carries

pub may_settle : (t t' : ℕ) (xs : CarriedFractions) → t' ≡ t → AreLentTo t xs → AllFreeFor t' (contents xs)
unfolding AreLentTo
may_settle t t' xs e lent = subst (λ (t : ℕ). AllFreeFor t (contents xs)) (sym e) lent

-- ---- a slot that was claimed
pub row_out : (γ n slot : ℕ) (me : SeatState) (xs : CarriedFractions) → me.0.fractions.gamma ≡ γ → me.0.sizes.participants ≡ n → AllOut slot me xs
    → CarriesAll γ slot n 0 IsNoValueCode me.1 xs
unfolding AllOut
row_out γ n slot me xs e e' row = subst (λ (t : ℕ × ℕ). CarriesAll t.0 slot t.1 0 IsNoValueCode me.1 xs) (λ d. (e d, e' d)) row

-- a try at a slot without a look before
pub tried_at_once : (word slot : ℕ) (s u : Seat ValueFraction View) (r : ℕ) → Moved (ClaimsAll slot (free_word 0) word) s r u → slot < s.me.0.sizes.slots →
    MatchBool (eqb r (free_word 0)) (Gains word slot s u) (Misses (λ k. k ≡ slot) s u)
unfolding AllOut
tried_at_once word slot s u r claim inside = by (eqb_tells r (free_word 0)) where
  P : Bool → Type 0
  P b = MatchBool b (Gains word slot s u) (Misses (λ k. k ≡ slot) s u)

  by : ((eqb r (free_word 0) ≡ true) × (r ≡ free_word 0)) ⊎ ((eqb r (free_word 0) ≡ false) × (r ≢ free_word 0)) → P (eqb r (free_word 0))
  by (inl hit) = let out = claim.2.0 hit.1 in subst P (sym hit.0) (record {
    table = claim.0;
    number = claim.1;
    row = out.1;
    view = out.0;
    noted = out.2;
    inside = inside;
    free = λ one. sym (claim.2.2 one) ∙ hit.1;
  })
  by (inr miss) = let still = claim.2.1 miss.1 in subst P (sym miss.0) (record {
    same = record { table = claim.0; number = claim.1; others = ap (λ (m : SeatState). m.1) still; view = ap (λ (m : SeatState). m.0) still };
    taken = λ one k here free. miss.1 (claim.2.2 one ∙ subst (λ j. IsKnownFree s j) here free);
  })

pub gains : (word slot : ℕ) (s t u : Seat ValueFraction View) (r r' : ℕ) → Taught (LooksAtSlot slot) s r t → Moved (ClaimsAll slot (free_word 0) word) t r' u
    → r' ≡ free_word 0 → slot < s.me.0.sizes.slots → Gains word slot s u
unfolding AllOut
gains word slot s t u r r' look claim hit inside = let me : t.me ≡ s.me = λ d. (look.3.0 d, look.2 d) in
    let out = subst (λ (m : SeatState). (u.me.0 ≡ making slot word m.0) × CarriesAll (gamma_of m) slot (places_of m) 0 IsNoValueCode m.1 u.me.1
    × (written u.me.0 slot ≡ word))
    me (claim.2.0 hit) in
    let knew = subst (λ (m : SeatState). Knew slot m.0 r') me claim.2.2 in record {
      table = claim.0 ∙ look.0;
      number = claim.1 ∙ look.1;
      row = out.1;
      view = out.0;
      noted = out.2;
      inside = inside;
      free = λ one. sym (knew one) ∙ hit;
    }
