-- A participant holds a slot of its own while it looks at each place, so that after it nobody sees the slot.
use Rattle.std.proofs.Common.{◌≡◌, ◌≢◌, ℕ, suc, ◌+◌, ◌<◌, ◌≤◌, List, map, get_or, set, sym, refl, ap, ◌∙◌, subst, inl, arith, get_or-set_other, get_or-set_same}
use Rattle.std.specs.Prelude.{Option, Some, None}
use mathlib.Core.Option.{some}
use mathlib.Core.Logic.{dite}
use native.Mathlib.Decide.{ℕ_discrete}
use lib.ListN.{get_elem?}
use Rattle.atomic_table.proofs.Lists.{at_map}
use Rattle.sdd_rights.specs.declared.views.View.{View}
use Rattle.sdd_rights.specs.declared.views.Sizes.{Sizes}
use Rattle.sdd_domain_invariant.specs.Words.{state_word, slot_word}
use Rattle.sdd_domain_invariant.specs.Epoch.{EpochInvariant}
use Rattle.sdd_domain_invariant.specs.Sums.{times}
use Rattle.sdd_domain_invariant.specs.Codes.{WordReading, IsWordReading}
use Rattle.sdd_domain_invariant.specs.Slots.{slot_at, owners_at, Owns, Sees, Holds, SlotsInvariant}
use Rattle.sdd_domain_invariant.specs.Slots.SlotSteps.{without}
use Rattle.sdd_domain_invariant.specs.WordInvariant.{epoch_of}
use Rattle.sdd_domain_invariant.proofs.Sums.{without_same, without_other}
use Rattle.sdd_domain_invariant.proofs.Slots.SlotWords.{slot_step, view_step, not_held_by, held_is, owner_in}

-- it owns these slots, holds one of them or none, and has looked so far
abbrev pub holding : View → List ℕ → Option ℕ → ℕ → List ℕ → View
holding v os h q known = record v { slots = record v.slots { owns = os; holds = h; looked = q }; words = known }

module _ (z : WordReading) (sound : IsWordReading z) (sizes : Sizes) (ws : List ℕ) (vs : List View) (s : SlotsInvariant z sizes ws vs) (id : ℕ) (v : View)
    (at : get_elem? vs id ≡ some v) where
  -- the owner of the slot i takes hold of it, or lets go
  hold_step : (i y : ℕ) (os : List ℕ) (h : Option ℕ) (known : List ℕ) → i < sizes.slots → 0 < owners_at i v
      → ((k : ℕ) → Holds v k → k ≡ i)
      → z.alive y + owners_at i v ≡ z.alive (slot_at sizes ws i) + times i os
      → ((j : ℕ) → j ≢ i → times j v.slots.owns ≡ times j os)
      → z.waiting y ≡ z.waiting (slot_at sizes ws i)
      → ((j : ℕ) (u : View) → get_elem? vs j ≡ some u → Sees u i → z.full y ≡ 1)
      → ((k : ℕ) → h ≡ Some k → (k ≡ i) × (0 < times i os) × (z.counted y ≡ 0))
      → SlotsInvariant z sizes (set ws (slot_word sizes i) y) (set vs id (holding v os h 0 known))
  hold_step i y os h known inside mine only here else same full held =
      let long = s.long in let w : View = holding v os h 0 known in let f = s.each id v at in
      let now : (j : ℕ) → j ≡ i → slot_at sizes (set ws (slot_word sizes i) y) j ≡ y
      = λ j e. ap (λ (a : ℕ). slot_at sizes (set ws (slot_word sizes i) y) a) e ∙ get_or-set_same ws (slot_word sizes i) y 0 (omega arith) in
      let there : (j : ℕ) → j ≢ i → slot_at sizes (set ws (slot_word sizes i) y) j ≡ slot_at sizes ws j
      = λ j ne. get_or-set_other ws (slot_word sizes i) (slot_word sizes j) y 0 (λ e. ne (omega arith)) in
      slot_step z sound sizes ws vs s id v at i y w (omega arith) here (λ j ne. let e = else j ne in omega arith) (omega arith) (λ j ne. refl) full
      (not_held_by z sound sizes ws vs s id v at i (inl mine))
      record {
        timed = f.timed;
        guarded = f.guarded;
        full = λ k sees. dite (ℕ_discrete k i) (λ e. ap z.full (now k e) ∙ full id v at (subst (Sees v) e sees))
            (λ ne. ap z.full (there k ne) ∙ f.full k sees);
        held = λ k is. let g = held k is in (subst (λ (d : ℕ). 0 < times d os) (sym g.0) g.1, ap z.counted (now k g.0) ∙ g.2);
      }
      (let x = s.two id id v v at at in record { since = x.since; looked = λ _ _ _. omega arith })
      (λ j u apart e. let x = s.two id j v u at e in let y = s.two j id u v e at in
      (record { since = x.since; looked = x.looked }, record { since = y.since; looked = λ _ _ _. omega arith }))

  -- hold the slot of an only owner, which its word said or comes to say: of a count of one it becomes another word, to which no step adds an owner
  pub takes_hold : (i y : ℕ) (known : List ℕ) → i < sizes.slots → Owns v i → z.alive (slot_at sizes ws i) ≡ 1 → v.slots.holds ≡ None → z.alive y ≡ 1
      → z.counted y ≡ 0
      → SlotsInvariant z sizes (set ws (slot_word sizes i) y) (set vs id (holding v v.slots.owns (Some i) 0 known))
  takes_hold i y known inside mine a free one firm = let l = sound.lives (slot_at sizes ws i) (omega arith) in let l' = sound.lives y (omega arith) in
      hold_step i y v.slots.owns (Some i) known inside (omega arith) (λ k h. let c : None ≡ Some k = sym free ∙ h in cc) (omega arith)
      (λ _ _. refl) (l'.0 ∙ sym l.0) (λ _ _ _ _. l'.1) (λ k e. let same : k ≡ i = cc in (same, mine, firm))

  -- no longer: the word says one owner again, counted or not
  pub lets_go : (i y : ℕ) (known : List ℕ) → i < sizes.slots → Holds v i → z.alive y ≡ 1
      → SlotsInvariant z sizes (set ws (slot_word sizes i) y) (set vs id (holding v v.slots.owns None 0 known))
  lets_go i y known inside held one = let mine = ((s.each id v at).held i held).0 in let a = held_is z sound sizes ws vs s id i v at held in
      let l = sound.lives (slot_at sizes ws i) (omega arith) in let l' = sound.lives y (omega arith) in
      hold_step i y v.slots.owns None known inside (omega arith) (λ k h. let c : Some i ≡ Some k = sym held ∙ h in let e : k ≡ i = cc in e)
      (omega arith) (λ _ _. refl) (l'.0 ∙ sym l.0) (λ _ _ _ _. l'.1) (λ k e. let c : None ≡ Some k = e in cc)

  module _ (epochs : EpochInvariant sizes ws (map epoch_of vs)) where
    -- look at the next place, the own one too: no guard is open there
    pub passes : (q : ℕ) → q ≡ v.slots.looked → get_or ws (state_word sizes q) 0 ≢ 2
        → SlotsInvariant z sizes ws (set vs id (holding v v.slots.owns v.slots.holds (suc q) v.words))
    passes q next shut = let w : View = holding v v.slots.owns v.slots.holds (suc q) v.words in let f = s.each id v at in
        let further : (j : ℕ) (u : View) → get_elem? vs j ≡ some u → (a : ℕ) → Sees u a → Holds v a → suc q ≤ u.epoch.place = λ j u e a sees h.
        let old = (s.two j id u v e at).looked a sees h in let is_open = (s.each j u e).guarded a sees in
        let g = (epochs.each j u.epoch (at_map epoch_of vs j u e)).state (omega arith) in
        dite (ℕ_discrete u.epoch.place q) (λ same. absurd (shut (ap (λ (p : ℕ). get_or ws (state_word sizes p) 0) (sym same) ∙ (g
        ∙ is_open)))) (λ ne. omega arith) in
        view_step z sound sizes ws vs s id v at w (λ _. refl) (λ _. refl)
        record { timed = f.timed; guarded = f.guarded; full = f.full; held = f.held }
        (let x = s.two id id v v at at in record { since = x.since; looked = further id v at })
        (λ j u apart e. let x = s.two id j v u at e in let y = s.two j id u v e at in
        (record { since = x.since; looked = x.looked }, record { since = y.since; looked = further j u e }))

    -- after the last place nobody sees the slot
    pub unseen_held : (i : ℕ) → Holds v i → sizes.participants ≤ v.slots.looked → (j : ℕ) (u : View) → get_elem? vs j ≡ some u → ¬ (Sees u i)
    unseen_held i held all j u e sees = let p = (s.two j id u v e at).looked i sees held in let is_open = (s.each j u e).guarded i sees in
        let g = (epochs.each j u.epoch (at_map epoch_of vs j u e)).inside (omega arith) in omega arith

    -- the item goes at once, and the slot is free
    pub discards : (i y : ℕ) (known : List ℕ) → i < sizes.slots → Holds v i → sizes.participants ≤ v.slots.looked → z.alive y ≡ 0 → z.waiting y ≡ 0
        → SlotsInvariant z sizes (set ws (slot_word sizes i) y) (set vs id (holding v (without i v.slots.owns) None 0 known))
    discards i y known inside held all none quiet = let mine = ((s.each id v at).held i held).0 in let a = held_is z sound sizes ws vs s id i v at held in
        let l = sound.lives (slot_at sizes ws i) (omega arith) in let o = owner_in z sound sizes ws vs s id i v at in
        let gone = without_same i v.slots.owns in
        hold_step i y (without i v.slots.owns) None known inside (omega arith)
        (λ k h. let c : Some i ≡ Some k = sym held ∙ h in let e : k ≡ i = cc in e) (omega arith)
        (λ j ne. sym (without_other i j ne v.slots.owns))
        (quiet ∙ sym l.0) (λ j u e sees. absurd (unseen_held i held all j u e sees)) (λ k e. let c : None ≡ Some k = e in cc)
