-- The counts' part after one step of one participant
use Rattle.std.proofs.Common.{◌≡◌, ℕ, zero, suc, ◌+◌, ◌<◌, ◌≤◌, leb, true, false, List, [], ◌∷◌, ◌++◌, length, get_or, set, sym, refl, ap, ◌∙◌, ⊎_elim, arith, get_or-set_other, get_or-set_same}
use Rattle.std.proofs.lemmas.Bool.{le-leb}
use Rattle.std.proofs.lemmas.Bool.Decides.{leb_tells}
use Rattle.std.proofs.lemmas.List.{get_or_past}
use mathlib.Core.Option.{some}
use mathlib.Core.Logic.{dite}
use native.Mathlib.Decide.{ℕ_discrete, dec_lt}
use lib.ListN.{get_elem?}
use prog.Atomic.{either}
use Rattle.sdd_rights.specs.declared.views.CountsView.{CountsView}
use Rattle.sdd_rights.specs.declared.views.View.{View}
use Rattle.sdd_rights.specs.declared.views.Sizes.{Sizes}
use Rattle.sdd_domain_invariant.specs.Words.{first_slot, state_word, slot_word, all_words}
use Rattle.sdd_domain_invariant.specs.Codes.{valued}
use Rattle.sdd_domain_invariant.specs.Epoch.{HasPlace}
use Rattle.sdd_domain_invariant.specs.Slots.{slot_at}
use Rattle.sdd_domain_invariant.proofs.Epoch.Barred.{Spares}
use Rattle.sdd_domain_invariant.proofs.Frame.{each_set, each_snoc}
use Rattle.sdd_domain_invariant.proofs.Sums.{total_set, total_snoc, span_same, span_set}
use Rattle.sdd_domain_invariant.specs.Counts.{made_by, gone_by, over_by, over, ended_places, full_slots, CountsByPlace, CountsInvariant}

-- ---- places that have ended, or are barred
over_is : (x : ℕ) → 3 ≤ x → over x ≡ 1
over_is x l = ap (λ (b : _). either b 1 0) (le-leb 3 x l)

over_few : (x : ℕ) → over x ≤ 1
over_few x = ⊎_elim (λ (t : (leb 3 x ≡ true) × (3 ≤ x)). let e = ap (λ (b : _). either b 1 0) t.0 in omega arith)
    (λ (t : (leb 3 x ≡ false) × (x < 3)). let e = ap (λ (b : _). either b 1 0) t.0 in omega arith) (leb_tells 3 x)

over_not : (x : ℕ) → x < 3 → over x ≡ 0
over_not x low = ⊎_elim (λ (t : (leb 3 x ≡ true) × (3 ≤ x)). let t1 = t.1 in absurd (omega arith))
    (λ (t : (leb 3 x ≡ false) × (x < 3)). ap (λ (b : _). either b 1 0) t.0) (leb_tells 3 x)

pub ended_few : (sizes : Sizes) (ws : List ℕ) (m : ℕ) → ended_places sizes ws m ≤ m
ended_few sizes ws zero = omega arith
ended_few sizes ws (suc m) = let a = over_few (get_or ws (state_word sizes m) 0) in let b = ended_few sizes ws m in omega arith

within : (ws : List ℕ) (i : ℕ) → 3 ≤ get_or ws i 0 → i < length ws
within ws i was = dite (dec_lt i (length ws)) (λ l. l) (λ far. absurd (let z = get_or_past ws i 0 (omega arith) in omega arith))

-- a step that spares them makes them no fewer
one_ended : (sizes : Sizes) (ws : List ℕ) (i y p : ℕ) → (i ≡ state_word sizes p → 3 ≤ get_or ws i 0 → get_or ws i 0 ≤ y)
    → over (get_or ws (state_word sizes p) 0) ≤ over (get_or (set ws i y) (state_word sizes p) 0)
one_ended sizes ws i y p spares = let x : ℕ = get_or ws (state_word sizes p) 0 in dite (dec_lt 2 x)
    (λ was. let now : 3 ≤ get_or (set ws i y) (state_word sizes p) 0 = dite (ℕ_discrete i (state_word sizes p))
    (λ e. let here = ap (λ (k : ℕ). get_or ws k 0) e in let more = spares e (omega arith) in
    let there = ap (λ (k : ℕ). get_or (set ws i y) k 0) (sym e) ∙ get_or-set_same ws i y 0 (within ws i (omega arith)) in omega arith)
    (λ ne. let same = get_or-set_other ws i (state_word sizes p) y 0 (λ e. ne (sym e)) in omega arith) in
    let a = over_is (get_or (set ws i y) (state_word sizes p) 0) now in let b = over_few x in omega arith)
    (λ not. let o = over_not x (omega arith) in omega arith)

pub ended_spared : (sizes : Sizes) (ws : List ℕ) (i y : ℕ) → Spares sizes ws i y → (m : ℕ) → m ≤ sizes.participants
    → ended_places sizes ws m ≤ ended_places sizes (set ws i y) m
ended_spared sizes ws i y spares zero low = omega arith
ended_spared sizes ws i y spares (suc m) low = let a = one_ended sizes ws i y m (spares m (omega arith)) in
    let b = ended_spared sizes ws i y spares m (omega arith) in omega arith

-- one more place ends
pub ended_more : (sizes : Sizes) (ws : List ℕ) (p : ℕ) → state_word sizes p < length ws → get_or ws (state_word sizes p) 0 < 3 → (m : ℕ) → p < m
    → ended_places sizes ws m + 1 ≤ ended_places sizes (set ws (state_word sizes p) 3) m
ended_more sizes ws p low before zero inside = absurd (omega arith)
ended_more sizes ws p low before (suc m) inside = let i : ℕ = state_word sizes p in let z : Sizes = record sizes { participants = m } in
    dite (ℕ_discrete p m)
    (λ e. let here = ap (λ (k : ℕ). get_or ws (state_word sizes k) 0) e in let was = over_not (get_or ws (state_word sizes m) 0) (omega arith) in
    let there = ap (λ (k : ℕ). get_or (set ws i 3) (state_word sizes k) 0) (sym e) ∙ get_or-set_same ws i 3 0 low in
    let now = over_is (get_or (set ws i 3) (state_word sizes m) 0) (omega arith) in
    let b = ended_spared z ws i 3 (λ q l is was. let same = ap (λ (k : ℕ). get_or ws k 0) is in omega arith) m (omega arith) in omega arith)
    (λ ne. let a = one_ended sizes ws i 3 m (λ _ was. omega arith) in let b = ended_more sizes ws p low before m (omega arith) in omega arith)

-- ---- slots that have an item
pub as_full : (sizes : Sizes) (ws ws' : List ℕ) → ((j : ℕ) → j < sizes.slots → valued (slot_at sizes ws' j) ≡ valued (slot_at sizes ws j))
    → full_slots sizes ws' ≡ full_slots sizes ws
as_full sizes ws ws' same = span_same valued ws ws' (first_slot sizes) sizes.slots same

pub one_full : (sizes : Sizes) (ws : List ℕ) (slot y : ℕ) → slot < sizes.slots → length ws ≡ all_words sizes
    → full_slots sizes (set ws (slot_word sizes slot) y) + valued (slot_at sizes ws slot) ≡ full_slots sizes ws + valued y
one_full sizes ws slot y low long = span_set valued ws (first_slot sizes) sizes.slots slot y low (omega arith)

-- ---- the part
module _ (sizes : Sizes) (ws : List ℕ) (vs : List View) (c : CountsInvariant sizes ws vs) where
  abbrev n : ℕ
  n = sizes.participants

  module _ (id : ℕ) (v : View) (at : get_elem? vs id ≡ some v) where
    -- what is made, given back, or ends is counted
    pub counted : (ws' : List ℕ) (w : View) → made_by w + gone_by v + full_slots sizes ws ≡ made_by v + gone_by w + full_slots sizes ws'
        → over_by w + ended_places sizes ws n ≤ over_by v + ended_places sizes ws' n → CountsByPlace w → CountsInvariant sizes ws' (set vs id w)
    counted ws' w items places mine = record {
      items = let a = total_set made_by vs id v w at in let b = total_set gone_by vs id v w at in let d = c.items in omega arith;
      places = let a = total_set over_by vs id v w at in let d = c.places in omega arith;
      each = each_set CountsByPlace CountsByPlace vs id w mine (λ j u _ e. c.each j u e);
    }

    -- nothing is
    pub uncounted : (ws' : List ℕ) (w : View) → w.fractions.counts ≡ v.fractions.counts → (HasPlace v.epoch → HasPlace w.epoch)
        → full_slots sizes ws' ≡ full_slots sizes ws → ended_places sizes ws n ≤ ended_places sizes ws' n → CountsInvariant sizes ws' (set vs id w)
    uncounted ws' w same lives filled ended = let m = ap (λ (x : CountsView). x.made) same in let g = ap (λ (x : CountsView). x.gone) same in
        let o = ap (λ (x : CountsView). x.over) same in counted ws' w (omega arith) (omega arith)
        (λ none never. let old = c.each id v at (dite (dec_lt 0 v.epoch.state) (λ live. absurd (let l = lives live in omega arith)) (λ z. omega arith))
        (omega arith) in (m ∙ old.0, g ∙ old.1))

    -- on no word
    pub uncounted_alone : (w : View) → w.fractions.counts ≡ v.fractions.counts → w.epoch.state ≡ v.epoch.state → CountsInvariant sizes ws (set vs id w)
    uncounted_alone w same state = uncounted ws w same (λ live. omega arith) refl (omega arith)

  -- a new seat
  pub more_counts : (t : View) → made_by t ≡ 0 → gone_by t ≡ 0 → over_by t ≡ 0 → CountsInvariant sizes ws (vs ++ t ∷ [])
  more_counts t made gone over = record {
    items = let a = total_snoc made_by vs t in let b = total_snoc gone_by vs t in let d = c.items in omega arith;
    places = let a = total_snoc over_by vs t in let d = c.places in omega arith;
    each = each_snoc CountsByPlace vs t c.each (λ _ _. (made, gone));
  }
