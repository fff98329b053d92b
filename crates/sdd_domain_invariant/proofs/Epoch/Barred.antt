-- Places that are barred stay so, and one that is nobody's may be barred by a seat without a place. Once all are, a slot that is free stays quiet.
use Rattle.std.proofs.Common.{◌≡◌, ◌⊎◌, ℕ, ◌+◌, ◌<◌, ◌≤◌, eqb, List, length, map, get_or, set, sym, refl, ap, ◌∙◌, subst, inl, inr, ⊎_elim, arith, length-set, get_or-set_other, get_or-set_same}
use Rattle.std.proofs.lemmas.List.{get_or_past}
use mathlib.Core.Option.{some}
use mathlib.Core.Logic.{dite}
use native.Mathlib.Decide.{ℕ_discrete, dec_lt}
use lib.ListN.{get_elem?}
use lib.Seq.{set-get_or}
use prog.Atomic.{either}
use Rattle.atomic_table.proofs.Lists.{at_map, exchanged, set_again}
use Rattle.sdd_rights.specs.declared.views.EndedView.{EndedView}
use Rattle.sdd_rights.specs.declared.views.View.{View}
use Rattle.sdd_rights.specs.declared.views.Sizes.{Sizes}
use Rattle.sdd_domain_invariant.specs.Words.{state_word, slot_word}
use Rattle.sdd_domain_invariant.specs.Codes.{codes, full}
use Rattle.sdd_domain_invariant.specs.Epoch.{HasPlace, EpochInvariant}
use Rattle.sdd_domain_invariant.specs.Epoch.EpochSteps.{Steps}
use Rattle.sdd_domain_invariant.specs.Epoch.Barred.{IsNobodys, IsOver, IsBarred, AreBarred, AreQuiet, past, past_quiet, Bars, LooksForValue}
use Rattle.sdd_domain_invariant.specs.WordInvariant.{epoch_of, Parts}
use Rattle.sdd_domain_invariant.proofs.Frame.{Each, each_set}
use Rattle.sdd_domain_invariant.proofs.Codes.{sound}
use Rattle.sdd_domain_invariant.proofs.Epoch as epochs
use Rattle.sdd_domain_invariant.proofs.Slots.SlotWords.{beside}
use Rattle.sdd_domain_invariant.proofs.Slots.LoneInvariant.{lone_beside}
use Rattle.sdd_domain_invariant.proofs.Collectors.{words_kept}
use Rattle.sdd_domain_invariant.proofs.WordsWithoutFractions.{blind_places}

module _ (sizes : Sizes) (ws : List ℕ) (i y : ℕ) where
  -- a step that stores y in the word i spares the places that have ended or are barred: it makes them no less so
  abbrev pub Spares : Type 0
  Spares = (p : ℕ) → p < sizes.participants → i ≡ state_word sizes p → IsOver (get_or ws i 0) → get_or ws i 0 ≤ y

  pub one_spared : (v w : View) → Spares → w.places ≡ v.places → AreBarred sizes ws v → AreBarred sizes (set ws i y) w
  one_spared v w spares same old p low below = let k = ap (λ (x : EndedView). x.ended) same in let was = old p low (omega arith) in
      dite (ℕ_discrete (state_word sizes p) i)
      (λ e. let here = ap (λ (k : ℕ). get_or ws k 0) e in
      let within : i < length ws = dite (dec_lt i (length ws)) (λ l. l)
      (λ far. absurd (let z = get_or_past ws i 0 (omega arith) in omega arith)) in
      let there = ap (λ (k : ℕ). get_or (set ws i y) k 0) e ∙ get_or-set_same ws i y 0 within in
      let more = spares p low (sym e) (omega arith) in omega arith)
      (λ ne. let stays = get_or-set_other ws i (state_word sizes p) y 0 ne in omega arith)

  pub all_spared : (vs : List View) (id : ℕ) (w : View) → Spares → Each (AreBarred sizes ws) vs → AreBarred sizes (set ws i y) w
      → Each (AreBarred sizes (set ws i y)) (set vs id w)
  all_spared vs id w spares old mine = each_set (AreBarred sizes ws) (AreBarred sizes (set ws i y)) vs id w mine
      (λ j u _ e. one_spared u u spares refl (old j u e))

-- nobody knows of a slot that is quiet
abbrev pub NoneQuiet : List View → Type 0
NoneQuiet = Each (λ v. v.places.quiet ≡ 0)

-- as long as somebody has a place
pub none_quiet : (sizes : Sizes) (ws : List ℕ) (vs : List View) → EpochInvariant sizes ws (map epoch_of vs) → Each (AreBarred sizes ws) vs
    → Each (AreQuiet sizes ws) vs → (id : ℕ) (v : View) → get_elem? vs id ≡ some v → HasPlace v.epoch → NoneQuiet vs
none_quiet sizes ws vs epochs ended quiet id v at live j u e = let f = epochs.each id v.epoch (at_map epoch_of vs id v at) in
    let is = f.state live in let few = f.states in let low = f.inside live in dite (dec_lt 0 u.places.quiet)
    (λ l. let all = (quiet j u e 0 l).1 in let over = ended j u e v.epoch.place low (omega arith) in absurd (omega arith)) (λ none. omega arith)

module _ (sizes : Sizes) (ws : List ℕ) (i y : ℕ) where
  -- a step that stores y in the word i leaves a slot free that is free
  abbrev pub Hushes : Type 0
  Hushes = (k : ℕ) → i ≡ slot_word sizes k → full (get_or ws i 0) ≡ 0 → full y ≡ 0

  pub one_hushed : (vs : List View) (j : ℕ) (v w : View) → get_elem? vs j ≡ some v → NoneQuiet vs ⊎ Hushes → w.places ≡ v.places → AreQuiet sizes ws v
      → AreQuiet sizes (set ws i y) w
  one_hushed vs j v w at hushes same old k low = let q = ap (λ (x : EndedView). x.quiet) same in let e = ap (λ (x : EndedView). x.ended) same in
      let was = old k (omega arith) in let word : ℕ = slot_word sizes k in (
        dite (ℕ_discrete word i)
            (λ is. let here : full (get_or ws i 0) ≡ 0 = ap (λ (d : ℕ). full (get_or ws d 0)) (sym is) ∙ was.0 in
            let silent : full y ≡ 0 = ⊎_elim (λ (none : NoneQuiet vs). absurd (let z = none j v at in omega arith))
            (λ (hush : Hushes). hush k (sym is) here) hushes in
            ap (λ (d : ℕ). full (get_or (set ws i y) d 0)) is ∙ dite (dec_lt i (length ws))
            (λ l. ap full (get_or-set_same ws i y 0 l) ∙ silent)
            (λ far. ap full (get_or_past (set ws i y) i 0 (omega (arith, length-set ws i y))) ∙ sound.free.2))
            (λ ne. ap full (get_or-set_other ws i word y 0 ne) ∙ was.0),
        (let all = was.1 in omega arith),
      )

  pub all_hushed : (vs : List View) (id : ℕ) (w : View) → NoneQuiet vs ⊎ Hushes → Each (AreQuiet sizes ws) vs → AreQuiet sizes (set ws i y) w
      → Each (AreQuiet sizes (set ws i y)) (set vs id w)
  all_hushed vs id w hushes old mine = each_set (AreQuiet sizes ws) (AreQuiet sizes (set ws i y)) vs id w mine
      (λ j u _ e. one_hushed vs j u u e hushes refl (old j u e))

module _ (sizes : Sizes) where
  barred : (ws : List ℕ) (vs : List View) (p : ℕ) → Parts sizes ws vs → p < sizes.participants → IsNobodys (get_or ws (state_word sizes p) 0)
      → Parts sizes (set ws (state_word sizes p) 4) vs
  barred ws vs p k inside nobodys = record {
    epoch = epochs.barred sizes ws (map epoch_of vs) p k.epoch inside nobodys;
    slots = beside codes sizes ws vs (state_word sizes p) 4 (inr (omega arith), omega arith) k.slots;
    lone = lone_beside sizes ws vs k.lone (state_word sizes p) 4 (inr (omega arith), omega arith);
    collectors = words_kept codes sound sizes ws vs k.collectors (set ws (state_word sizes p) 4)
        (λ j. inl (get_or-set_other ws (state_word sizes p) (slot_word sizes j) 4 0 (λ e. omega arith)));
  }

  -- the next place is barred, or is now, unless it is in another state
  pub bars : (id p state : ℕ) (v : View) → p < sizes.participants → IsNobodys state
      → Steps (Parts sizes) id v (state_word sizes p) (λ x. either (eqb x state) 4 x) (Bars sizes state (state_word sizes p) v)
  bars id p state v inside nobodys ws vs k at small = let i : ℕ = state_word sizes p in let x : ℕ = get_or ws i 0 in
      let t : EndedView = record v.places { ended = p + 1 } in
      let same = λ (q : ℕ) (is : i ≡ state_word sizes q). let e : p ≡ q = omega arith in ap (λ (q : ℕ). past q v) e in
      let here : Parts sizes (set ws i x) vs = subst (λ (l : List ℕ). Parts sizes l vs) (sym (set-get_or ws i 0)) k in
      exchanged x state 4 (λ y. (w : View) × Parts sizes (set ws i y) (set vs id w) × Bars sizes state i v x w)
      (λ hit. (
        past p v,
        blind_places sizes (set ws i 4) vs id v at (barred ws vs p k inside (subst IsNobodys (sym hit) nobodys)) t,
        λ q is. ((λ _. same q is), (λ no. absurd (no hit))),
      ))
      (λ miss. dite (dec_lt 3 x)
      (λ over. (past p v, blind_places sizes (set ws i x) vs id v at here t, λ q is. ((λ _. same q is), (λ _ no. absurd (no (omega arith))))))
      (λ not_over. (
        v,
        subst (λ (l : List View). Parts sizes (set ws i x) l) (sym (set_again vs id v at)) here,
        λ q is. ((λ t. absurd (⊎_elim (λ (e : x ≡ state). miss e) (λ (b : IsBarred x). not_over (omega arith)) t)), (λ _ _. refl)),
      )))

  -- a look whether a slot is free changes no word
  pub looks_for_value : (id i : ℕ) (v : View) → Steps (Parts sizes) id v i (λ x. x) (LooksForValue v)
  looks_for_value id i v ws vs k at small = let x : ℕ = get_or ws i 0 in
      let here : Parts sizes (set ws i x) vs = subst (λ (l : List ℕ). Parts sizes l vs) (sym (set-get_or ws i 0)) k in dite (ℕ_discrete (full x) 0)
      (λ none. (past_quiet v, blind_places sizes (set ws i x) vs id v at here (past_quiet v).places, ((λ _. refl), (λ has. absurd (has none)))))
      (λ has. (v, subst (λ (l : List View). Parts sizes (set ws i x) l) (sym (set_again vs id v at)) here, ((λ none. absurd (has none)), (λ _. refl))))
