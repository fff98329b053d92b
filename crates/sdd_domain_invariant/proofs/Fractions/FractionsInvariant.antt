-- The homes' part after one step of one participant, from what the step takes from home or gives
use Rattle.std.proofs.Common.{◌⊎◌, ◌≡◌, ◌≢◌, inl, inr, None, ℕ, suc, ◌<◌, ◌≤◌, List, [], ◌∷◌, ◌++◌, map, set, sym, ap, ◌∙◌, subst, ⊎_elim, arith, length-set, get_or-set_other}
use Rattle.std.specs.Prelude.{Some}
use mathlib.Core.Option.{none, some, some-injective, some-ne-none}
use mathlib.Core.Logic.{dite}
use native.Mathlib.Decide.{ℕ_discrete, dec_lt}
use lib.ListN.{get_elem?}
use base.Stored.{Gv}
use Rattle.atomic_table.proofs.Lists.{at_set, at_longer, set_else, set_here}
use Rattle.atomic_table.specs.Table.{homes_after}
use Rattle.sdd_shared_values.specs.declared.value_fraction.ValueFraction.{ValueFraction}
use Rattle.sdd_rights.specs.declared.views.View.{View}
use Rattle.sdd_rights.specs.declared.views.Sizes.{Sizes}
use Rattle.sdd_domain_invariant.specs.Words.{slot_word, first_slot}
use Rattle.sdd_domain_invariant.specs.Codes.{valued}
use Rattle.sdd_domain_invariant.specs.Collectors.{Empties}
use Rattle.sdd_domain_invariant.specs.Epoch.{HasPlace}
use Rattle.sdd_domain_invariant.specs.Slots.{items_at, Owns, Sees}
use Rattle.sdd_domain_invariant.specs.Sums.{times}
use Rattle.sdd_domain_invariant.proofs.Frame.{each_set, each_snoc}
use Rattle.sdd_domain_invariant.proofs.Epoch.{at_length}
use Rattle.sdd_domain_invariant.specs.Fractions.FractionsAtHome.{FractionsAtHome, CarriedFractions, fraction_at, share, away, full_at, Has, MatchesSlotWord, Moves, SeesFrom, FractionIsTaken, NoneOut, LiesAt, IsAtHome, IsMover, FractionsInvariant}
use Rattle.sdd_domain_invariant.specs.Slots.Records.{slot_shown, IsIn}
use Rattle.sdd_domain_invariant.specs.Fractions.FractionSteps.{IsValue}
use Rattle.sdd_domain_invariant.proofs.Fractions.FractionHomes.{one_slot, one_fraction}
use Rattle.sdd_domain_invariant.proofs.Slots.Records.{in_times}
use Rattle.sdd_domain_invariant.proofs.Fractions.SlotFractions.{Taken, Given, AllGiven, taken_lies, given_lies}
use Rattle.sdd_domain_invariant.proofs.Fractions.WholeFractions.{share_one}

-- who has no fractions out but those of its guards
pub none_out : (v : View) → v.fractions.moves ≡ None → IsMover v
none_out v rests i m = let e : None ≡ Some i = sym rests ∙ m in absurd cc

pub only_seen : (v : View) → v.fractions.moves ≡ None → (i p : ℕ) → FractionIsTaken v i p → SeesFrom v i p
only_seen v rests i p out = ⊎_elim (λ (m : Moves v i). let e : None ≡ Some i = sym rests ∙ m in absurd cc) (λ (s : SeesFrom v i p). s) out

-- a participant that keeps its place and its owners, and has the same out
pub still_mover : (v w : View) → w.fractions.moves ≡ v.fractions.moves → (HasPlace v.epoch → HasPlace w.epoch) → ((i : ℕ) → Owns v i → Owns w i)
    → ((i : ℕ) → 0 < items_at i v → 0 < items_at i w) → ((i : ℕ) → Empties v i → Empties w i) → IsMover v → IsMover w
still_mover v w same lives owns waits empties is i m = let o = is i (sym same ∙ m) in (
  lives o.0,
  ⊎_elim (λ (a : Owns v i). inl (owns i a)) (λ (r : (0 < items_at i v) ⊎ Empties v i). inr (⊎_elim
      (λ (a : 0 < items_at i v). inl (waits i a)) (λ (a : Empties v i). inr (empties i a)) r)) o.1,
)

-- what lies at home as full as the slot is
shown_as : (γ i n p f f' : ℕ) (y : ValueFraction) → f' ≡ f → Has γ i (share n (away n f) p) (MatchesSlotWord f) y → Has γ i (share n (away n f') p)
    (MatchesSlotWord f') y
shown_as γ i n p f f' y e h = subst (λ (z : ℕ). Has γ i (share n (away n z) p) (MatchesSlotWord z) y) (sym e) h

-- what lies at home once one fraction was taken lay there before
pub one_taken : (hs : FractionsAtHome) (spot j : ℕ) (y : ValueFraction) → get_elem? (set hs spot none) j ≡ some (some y) → get_elem? hs j ≡ some (some y)
one_taken hs spot j y lies = ⊎_elim (λ (h : (j ≡ spot) × (none ≡ some y)). absurd (some-ne-none y (sym h.1)))
    (λ (h : (j ≢ spot) × (get_elem? hs j ≡ some (some y))). h.1) (at_set hs spot j none (some y) lies)

-- a word before the slots' changes
pub before_slots : (sizes : Sizes) (ws : List ℕ) (j y i : ℕ) → j < first_slot sizes → full_at sizes (set ws j y) i ≡ full_at sizes ws i
before_slots sizes ws j y i low = ap valued (get_or-set_other ws j (slot_word sizes i) y 0 (λ e. omega arith))

-- the word of another slot
pub of_another : (sizes : Sizes) (ws : List ℕ) (i y j : ℕ) → j ≢ i → full_at sizes (set ws (slot_word sizes i) y) j ≡ full_at sizes ws j
of_another sizes ws i y j ne = ap valued (get_or-set_other ws (slot_word sizes i) (slot_word sizes j) y 0 (λ e. ne (omega arith)))

module _ (γ : ℕ) (sizes : Sizes) (ws : List ℕ) (vs : List View) (hs : FractionsAtHome) (part : FractionsInvariant γ sizes ws vs hs) where
  abbrev n : ℕ
  n = sizes.participants

  -- a new seat, which has nothing out
  pub arrives : (t : View) → ((i p : ℕ) → ¬ (FractionIsTaken t i p)) → IsMover t → FractionsInvariant γ sizes ws (vs ++ t ∷ []) hs
  arrives t nothing mover = record {
    few = part.few;
    deep = part.deep;
    home = part.home;
    back = λ i p low near away. part.back i p low near (λ j u e. away j u (at_longer vs (t ∷ []) j u e));
    moving = each_snoc IsMover vs t part.moving mover;
  }

  module _ (id : ℕ) (v : View) (at : get_elem? vs id ≡ some v) where
    here : (w : View) → get_elem? (set vs id w) id ≡ some w
    here w = set_here vs id w (at_length vs id v at)

    -- what isn't out after the step was not out before
    none_before : (w : View) (i p : ℕ) → (FractionIsTaken v i p → FractionIsTaken w i p) → NoneOut (set vs id w) i p → NoneOut vs i p
    none_before w i p more away j u e out = dite (ℕ_discrete j id)
        (λ same. let is : u ≡ v = some-injective u v (sym e ∙ (ap (get_elem? vs) same ∙ at)) in
        away id w (here w) (more (subst (λ (x : View). FractionIsTaken x i p) is out)))
        (λ other. away j u (set_else vs id j w other ∙ e) out)

    movers : (w : View) → IsMover w → (j : ℕ) (u : View) → get_elem? (set vs id w) j ≡ some u → IsMover u
    movers w mover = each_set IsMover IsMover vs id w mover (λ j u _ e. part.moving j u e)

    -- it takes and gives none
    pub calm : (ws' : List ℕ) (w : View) → ((i p : ℕ) → FractionIsTaken v i p → FractionIsTaken w i p)
        → ((i : ℕ) → i < sizes.slots → full_at sizes ws' i ≡ full_at sizes ws i) → IsMover w → FractionsInvariant γ sizes ws' (set vs id w) hs
    calm ws' w more same mover = record {
      few = part.few;
      deep = part.deep;
      home = λ i p y low near lies. shown_as γ i n p (full_at sizes ws i) (full_at sizes ws' i) y (same i low) (part.home i p y low near lies);
      back = λ i p low near away. part.back i p low near (none_before w i p (more i p) away);
      moving = movers w mover;
    }

    -- all fractions in a slot are taken
    pub takes : (i o : ℕ) (Is : Gv → Type 0) (c : CarriedFractions) (t : Taken γ n i o Is hs c (suc n)) (ws' : List ℕ) (w : View) → Moves w i
        → ((j p : ℕ) → j ≢ i → FractionIsTaken v j p → FractionIsTaken w j p)
        → ((j : ℕ) → j < sizes.slots → j ≢ i → full_at sizes ws' j ≡ full_at sizes ws j) → IsMover w
        → FractionsInvariant γ sizes ws' (set vs id w) (homes_after hs c t.act)
    takes i o Is c t ws' w mine more same mover =
        let other : (j p : ℕ) → p ≤ n → j ≢ i → (q : ℕ) → q < suc n → fraction_at n j p ≢ fraction_at n i q
        = λ j p near ne q l e. ne (one_slot n j i p q near (omega arith) e) in record {
          few = part.few;
          deep = t.long ∙ part.deep;
          home = λ j p y low near lies. let l = taken_lies γ n i o Is hs c t j p y near lies in
              shown_as γ j n p (full_at sizes ws j) (full_at sizes ws' j) y (same j low l.0) (part.home j p y low near l.1);
          back = λ j p low near away. dite (ℕ_discrete j i)
              (λ e. absurd (away id w (here w) (inl (subst (Moves w) (sym e) mine))))
              (λ ne. let b = part.back j p low near (none_before w j p (more j p ne) away) in (b.0, t.else (fraction_at n j p) (other j p near ne) ∙ b.1));
          moving = movers w mover;
        }

    -- all fractions in a slot are given home
    pub gives : (i o : ℕ) (Is : Gv → Type 0) (rest xs : CarriedFractions) (g : Given γ n i o Is hs rest xs (suc n)) (ws' : List ℕ) (w : View)
        → away n (full_at sizes ws' i) ≡ o → ((s : Gv) → Is s → MatchesSlotWord (full_at sizes ws' i) s)
        → ((j p : ℕ) → j ≢ i → FractionIsTaken v j p → FractionIsTaken w j p)
        → ((j : ℕ) → j < sizes.slots → j ≢ i → full_at sizes ws' j ≡ full_at sizes ws j) → IsMover w
        → FractionsInvariant γ sizes ws' (set vs id w) (homes_after hs xs g.act)
    gives i o Is rest xs g ws' w owners shown more same mover =
        let other : (j p : ℕ) → p ≤ n → j ≢ i → (q : ℕ) → q < suc n → fraction_at n j p ≢ fraction_at n i q
        = λ j p near ne q l e. ne (one_slot n j i p q near (omega arith) e) in record {
          few = part.few;
          deep = g.long ∙ part.deep;
          home = λ j p y low near lies. ⊎_elim
              (λ (h : (j ≡ i) × Has γ i (share n o p) Is y).
              subst (λ (j : ℕ). Has γ j (share n (away n (full_at sizes ws' j)) p) (MatchesSlotWord (full_at sizes ws' j)) y) (sym h.0)
              (subst (λ (k : ℕ). Has γ i (share n k p) (MatchesSlotWord (full_at sizes ws' i)) y) (sym owners) (h.1.0, shown y.content.shown h.1.1)))
              (λ (h : (j ≢ i) × LiesAt n hs j p y).
              shown_as γ j n p (full_at sizes ws j) (full_at sizes ws' j) y (same j low h.0) (part.home j p y low near h.1))
              (given_lies γ n i o Is hs rest xs g j p y near lies);
          back = λ j p low near away. dite (ℕ_discrete j i)
              (λ e. subst (λ (j : ℕ). IsAtHome n (homes_after hs xs g.act) j p) (sym e) (g.there p (omega arith)))
              (λ ne. let b = part.back j p low near (none_before w j p (more j p ne) away) in (b.0, g.else (fraction_at n j p) (other j p near ne) ∙ b.1));
          moving = movers w mover;
        }

    -- the fraction of one place is taken
    pub takes_one : (i q : ℕ) → q ≤ n → (w : View) → FractionIsTaken w i q → ((j p : ℕ) → FractionIsTaken v j p → FractionIsTaken w j p) → IsMover w
        → FractionsInvariant γ sizes ws (set vs id w) (set hs (fraction_at n i q) none)
    takes_one i q near w mine more mover = let spot : ℕ = fraction_at n i q in record {
      few = part.few;
      deep = length-set hs spot none ∙ part.deep;
      home = λ j p y low near' lies. part.home j p y low near' (one_taken hs spot (fraction_at n j p) y lies);
      back = λ j p low near' away. dite (ℕ_discrete (fraction_at n j p) spot)
          (λ e. let slot = one_slot n j i p q near' near e in
          let place : p ≡ q = one_fraction n i p q (subst (λ (j : ℕ). fraction_at n j p ≡ spot) slot e) in
          absurd (away id w (here w) (subst (λ (t : ℕ × ℕ). FractionIsTaken w t.0 t.1) (λ k. (sym slot k, sym place k)) mine)))
          (λ ne. let b = part.back j p low near' (none_before w j p (more j p) away) in (b.0, set_else hs spot (fraction_at n j p) none ne ∙ b.1));
      moving = movers w mover;
    }

    -- all that a guard had is given home
    pub closes : (q : ℕ) (near : q ≤ n) → q < n → (xs : CarriedFractions) (g : AllGiven γ n q sizes.slots near v.fractions.sees hs xs) (ws' : List ℕ) (w : View)
        → map slot_shown v.fractions.sees ≡ v.slots.sees
        → q ≡ v.epoch.place → v.fractions.moves ≡ None → ((i : ℕ) → Sees v i → full_at sizes ws' i ≡ 1)
        → ((i : ℕ) → i < sizes.slots → full_at sizes ws' i ≡ full_at sizes ws i) → IsMover w
        → FractionsInvariant γ sizes ws' (set vs id w) (homes_after hs xs g.act)
    closes q near low_place xs g ws' w told place rests seen same mover = record {
      few = part.few;
      deep = g.long ∙ part.deep;
      home = λ i p y low near' lies. ⊎_elim
          (λ (t : (k : ℕ) × (h : Gv) × IsIn v.fractions.sees k h × (fraction_at n i p ≡ fraction_at n k q) × Has γ k 1 (IsValue h) y).
          let slot = one_slot n i t.0 p q near' near t.3 in
          let of : p ≡ q = one_fraction n t.0 p q (subst (λ (j : ℕ). fraction_at n j p ≡ fraction_at n t.0 q) slot t.3) in
          let owners : ℕ = away n (full_at sizes ws' i) in
          let units : share n owners p ≡ 1 = ap (share n owners) of ∙ share_one n owners q low_place in
          let f = seen t.0 (subst (λ (l : List ℕ). 0 < times t.0 l) told (in_times v.fractions.sees t.0 t.1 t.2)) in
          subst (λ (k : ℕ). Has γ i k (MatchesSlotWord (full_at sizes ws' i)) y) (sym units)
          (subst (λ (m : ℕ). Has γ m 1 (MatchesSlotWord (full_at sizes ws' m)) y) (sym slot)
          (t.4.0, (λ _. t.4.1.0, λ z. absurd (omega arith)))))
          (λ (t : LiesAt n hs i p y). shown_as γ i n p (full_at sizes ws i) (full_at sizes ws' i) y (same i low) (part.home i p y low near' t))
          (g.home (fraction_at n i p) y lies);
      back = λ i p low near' away. dite (ℕ_discrete p q)
          (λ e. dite (dec_lt 0 (times i v.slots.sees))
          (λ sees. subst (λ (p : ℕ). IsAtHome n (homes_after hs xs g.act) i p) (sym e)
          (g.there i (subst (λ (l : List ℕ). 0 < times i l) (sym told) sees)))
          (λ blind. g.stay (fraction_at n i p) (part.back i p low near' (none_before w i p
          (λ out. absurd (blind (seen_only i p out).0)) away))))
          (λ ne. g.stay (fraction_at n i p) (part.back i p low near' (none_before w i p
          (λ out. absurd (ne (sym (seen_only i p out).1 ∙ sym place))) away)));
      moving = movers w mover;
    }
      where
        seen_only : (i p : ℕ) → FractionIsTaken v i p → SeesFrom v i p
        seen_only i p out = only_seen v rests i p out
