-- The steps on owners: a slot is claimed, an owner comes or goes, an item is retired and its slot given back.
use Rattle.std.proofs.Common.{◌≡◌, ◌≢◌, ◌⊎◌, ℕ, ◌+◌, ◌<◌, ◌≤◌, eqb, List, [], ◌∷◌, ◌++◌, map, get_or, set, sym, refl, ap, ◌∙◌, subst, inl, inr, ⊎_elim, eq-eqb, ne_eqb, arith, get_or-set_other, get_or-set_same}
use Rattle.std.specs.Prelude.{not}
use mathlib.Core.Option.{some}
use mathlib.Core.Logic.{dite}
use native.Mathlib.Decide.{ℕ_discrete}
use lib.ListN.{get_elem?}
use Rattle.atomic_table.proofs.Lists.{at_map, at_snoc}
use Rattle.sdd_rights.specs.declared.views.WaitingItem.{WaitingItem}
use Rattle.sdd_rights.specs.declared.views.View.{View}
use Rattle.sdd_rights.specs.declared.views.Sizes.{Sizes}
use Rattle.sdd_domain_invariant.specs.Words.{global_word, slot_word, most_waiting}
use Rattle.sdd_domain_invariant.specs.Epoch.{IsOpen, EpochInvariant}
use Rattle.sdd_domain_invariant.specs.Epoch.EpochSteps.{knowing}
use Rattle.sdd_domain_invariant.specs.Sums.{times, total}
use Rattle.sdd_domain_invariant.specs.Codes.{WordReading, IsWordReading}
use Rattle.sdd_domain_invariant.specs.Slots.{slot_at, owners_at, waits_in, items_at, Owns, Sees, Holds, IsTimed, SlotsInvariant}
use Rattle.sdd_domain_invariant.specs.Slots.SlotSteps.{without, without_item, retired_now}
use Rattle.sdd_domain_invariant.specs.WordInvariant.{epoch_of}
use Rattle.sdd_domain_invariant.proofs.Sums.{total_snoc, total_has, total_kept, total_gone, at_filter, is_same, is_other, without_same, without_other}
use Rattle.sdd_domain_invariant.proofs.Slots.SlotWords.{slot_step, not_held_by, alone_is, held_is, owner_in, waiter_in}

-- it owns other slots, and knows other words
abbrev pub owning : View → List ℕ → List ℕ → View
owning v os known = record v { slots = record v.slots { owns = os }; words = known }

-- the items without those of the slot i
pub item_gone : (i : ℕ) (xs : List WaitingItem) → total (waits_in i) (without_item i xs) ≡ 0
item_gone i xs = total_gone (waits_in i) (λ (x : WaitingItem). not (eqb x.slot i)) (λ x t. is_other i x.slot (λ e. grind (arith, eq-eqb x.slot i e))) xs

pub item_kept : (i j : ℕ) → j ≢ i → (xs : List WaitingItem) → total (waits_in j) (without_item i xs) ≡ total (waits_in j) xs
item_kept i j ne xs = total_kept (waits_in j) (λ (x : WaitingItem). not (eqb x.slot i)) (λ x t. is_other j x.slot (λ e. grind (arith, ne_eqb x.slot i))) xs

module _ (z : WordReading) (sound : IsWordReading z) (sizes : Sizes) (ws : List ℕ) (vs : List View) (s : SlotsInvariant z sizes ws vs) (id : ℕ) (v : View)
    (at : get_elem? vs id ≡ some v) where
  -- only what the participant owns of the slot i changes
  pub owns_step : (i y : ℕ) (os known : List ℕ) → i < sizes.slots → ¬ (Holds v i)
      → z.alive y + owners_at i v ≡ z.alive (slot_at sizes ws i) + times i os
      → ((j : ℕ) → j ≢ i → times j v.slots.owns ≡ times j os)
      → z.waiting y ≡ z.waiting (slot_at sizes ws i) → (z.full (slot_at sizes ws i) ≡ 1 → z.full y ≡ 1)
      → (0 < owners_at i v) ⊎ (z.alive (slot_at sizes ws i) ≢ 1) ⊎ (z.counted (slot_at sizes ws i) ≢ 0)
      → SlotsInvariant z sizes (set ws (slot_word sizes i) y) (set vs id (owning v os known))
  owns_step i y os known inside free here else same full why =
      let long = s.long in let w : View = owning v os known in let f = s.each id v at in
      let now : (j : ℕ) → j ≡ i → slot_at sizes (set ws (slot_word sizes i) y) j ≡ y
      = λ j e. ap (λ (a : ℕ). slot_at sizes (set ws (slot_word sizes i) y) a) e ∙ get_or-set_same ws (slot_word sizes i) y 0 (omega arith) in
      let there : (j : ℕ) → j ≢ i → slot_at sizes (set ws (slot_word sizes i) y) j ≡ slot_at sizes ws j
      = λ j ne. get_or-set_other ws (slot_word sizes i) (slot_word sizes j) y 0 (λ e. ne (omega arith)) in
      slot_step z sound sizes ws vs s id v at i y w (omega arith) here (λ j ne. let e = else j ne in omega arith) (omega arith) (λ j ne. refl)
      (λ j u e sees. full ((s.each j u e).full i sees))
      (not_held_by z sound sizes ws vs s id v at i why)
      record {
        timed = f.timed;
        guarded = f.guarded;
        full = λ k sees. dite (ℕ_discrete k i)
            (λ e. ap z.full (now k e) ∙ full (f.full i (subst (Sees v) e sees)))
            (λ ne. ap z.full (there k ne) ∙ f.full k sees);
        held = λ k h. dite (ℕ_discrete k i) (λ e. absurd (free (subst (Holds v) e h)))
            (λ ne. let g = f.held k h in let o = g.0 in let e = else k ne in (omega arith, ap z.counted (there k ne) ∙ g.1));
      }
      (let x = s.two id id v v at at in record { since = x.since; looked = x.looked })
      (λ j u apart e. let x = s.two id j v u at e in let y = s.two j id u v e at in
      (record { since = x.since; looked = x.looked }, record { since = y.since; looked = y.looked }))

  -- who holds a slot has the only owner, so that its word says one and doesn't count
  pub not_held : (i : ℕ) → (z.alive (slot_at sizes ws i) ≢ 1) ⊎ (z.counted (slot_at sizes ws i) ≢ 0) → ¬ (Holds v i)
  not_held i why h = ⊎_elim (λ (t : z.alive (slot_at sizes ws i) ≢ 1). t (held_is z sound sizes ws vs s id i v at h))
      (λ (t : z.counted (slot_at sizes ws i) ≢ 0). t ((s.each id v at).held i h).1) why

  -- a free slot is claimed, by one owner, which is counted or not
  pub claims : (i y : ℕ) (known : List ℕ) → i < sizes.slots → z.alive (slot_at sizes ws i) ≡ 0 → z.waiting (slot_at sizes ws i) ≡ 0
      → z.alive y ≡ 1
      → SlotsInvariant z sizes (set ws (slot_word sizes i) y) (set vs id (owning v (i ∷ v.slots.owns) known))
  claims i y known inside none quiet one = let l = sound.lives y (omega arith) in let one' = is_same i i refl in
      owns_step i y (i ∷ v.slots.owns) known inside
      (not_held i (inl (λ e. omega arith)))
      (omega arith)
      (λ j ne. let o = is_other j i (λ e. ne (sym e)) in omega arith)
      (l.0 ∙ sym quiet) (λ _. l.1) (inr (inl (λ e. omega arith)))

  -- the only owner goes, and the item stays: it is raw from now on
  pub turns_raw : (i y : ℕ) (known : List ℕ) → i < sizes.slots → Owns v i → z.counted (slot_at sizes ws i) ≡ 0 → ¬ (Holds v i) → z.alive y ≡ 0 → z.waiting y ≡
      0 → z.full y ≡ 1
      → SlotsInvariant z sizes (set ws (slot_word sizes i) y) (set vs id (owning v (without i v.slots.owns) known))
  turns_raw i y known inside mine firm free none quiet full = let o = alone_is z sound sizes ws vs s id i v at mine firm in
      let o0 = o.0 in let o1 = o.1 in let l = sound.lives (slot_at sizes ws i) (omega arith) in let gone = without_same i v.slots.owns in
      owns_step i y (without i v.slots.owns) known inside free (omega arith)
      (λ j ne. sym (without_other i j ne v.slots.owns))
      (quiet ∙ sym l.0) (λ _. full) (inl (omega arith))

  -- the word of an item without owners changes: one that waits privately is claimed by a close
  pub marks : (i y : ℕ) (known : List ℕ) → i < sizes.slots → z.alive (slot_at sizes ws i) ≡ 0 → z.alive y ≡ 0
      → z.waiting y ≡ z.waiting (slot_at sizes ws i) → z.full y ≡ 1
      → SlotsInvariant z sizes (set ws (slot_word sizes i) y) (set vs id (owning v v.slots.owns known))
  marks i y known inside none none' same full = owns_step i y v.slots.owns known inside
      (not_held i (inl (λ e. omega arith))) (omega arith) (λ _ _. refl) same (λ _. full) (inr (inl (λ e. omega arith)))

  -- one of several owners, which are counted, goes, and others stay; or one comes beside another
  pub counts : (i y : ℕ) (os known : List ℕ) → i < sizes.slots → z.counted (slot_at sizes ws i) ≡ 1 → 0 < z.alive (slot_at sizes ws i) → 0 < z.alive y
      → z.alive y + owners_at i v ≡ z.alive (slot_at sizes ws i) + times i os → ((j : ℕ) → j ≢ i → times j v.slots.owns ≡ times j os)
      → SlotsInvariant z sizes (set ws (slot_word sizes i) y) (set vs id (owning v os known))
  counts i y os known inside several some_own some_left here else = let l = sound.lives y some_left in let l' = sound.lives (slot_at sizes ws i) some_own in
      owns_step i y os known inside (not_held i (inr (λ e. omega arith))) here else (l.0 ∙ sym l'.0) (λ _. l.1) (inr (inr (λ e. omega arith)))

  -- nobody sees a slot that is free: so a claim finds no guard that saw it before
  pub fresh : (i : ℕ) → z.full (slot_at sizes ws i) ≡ 0 → (j : ℕ) (u : View) → get_elem? vs j ≡ some u → ¬ (Sees u i)
  fresh i empty j u e sees = let f = (s.each j u e).full i sees in omega arith

  module _ (epochs : EpochInvariant sizes ws (map epoch_of vs)) where
    since_low : (j : ℕ) (u : View) → get_elem? vs j ≡ some u → IsOpen u.epoch → u.epoch.since ≤ get_or ws global_word 0
    since_low j u e is_open = let f = epochs.each j u.epoch (at_map epoch_of vs j u e) in let p = (f.published is_open).since in let k = f.known in omega arith

    abbrev pub retiring : ℕ → List ℕ → View
    retiring i known = record v {
      epoch = knowing v.epoch (get_or ws global_word 0);
      slots = record v.slots { owns = without i v.slots.owns; waits = v.slots.waits ++ retired_now i (get_or ws global_word 0) ∷ [] };
      words = known;
    }

    -- the last owner goes and the item waits, in one step
    pub retires : (i y : ℕ) (known : List ℕ) → i < sizes.slots → Owns v i → z.alive (slot_at sizes ws i) ≡ 1 → ¬ (Holds v i) → z.alive y ≡ 0
        → z.waiting y ≡ 1
        → SlotsInvariant z sizes (set ws (slot_word sizes i) y) (set vs id (retiring i known))
    retires i y known inside mine last free none waits =
        let long = s.long in let w : View = retiring i known in let x : WaitingItem = retired_now i (get_or ws global_word 0) in let f = s.each id v at in
        let l = sound.lives (slot_at sizes ws i) (omega arith) in let l0 = l.0 in
        let full = (sound.waits y (omega arith)).1 in let o = owner_in z sound sizes ws vs s id i v at in
        let gone = without_same i v.slots.owns in let low = (epochs.each id v.epoch (at_map epoch_of vs id v at)).known in
        let now : (j : ℕ) → j ≡ i → slot_at sizes (set ws (slot_word sizes i) y) j ≡ y
        = λ j e. ap (λ (a : ℕ). slot_at sizes (set ws (slot_word sizes i) y) a) e ∙ get_or-set_same ws (slot_word sizes i) y 0 (omega arith) in
        let there : (j : ℕ) → j ≢ i → slot_at sizes (set ws (slot_word sizes i) y) j ≡ slot_at sizes ws j
        = λ j ne. get_or-set_other ws (slot_word sizes i) (slot_word sizes j) y 0 (λ e. ne (omega arith)) in
        let old_or_new : (k : ℕ) (r : WaitingItem) → get_elem? (v.slots.waits ++ x ∷ []) k ≡ some r → (get_elem? v.slots.waits k ≡ some r) ⊎ (x ≡ r)
        = λ k r e. at_snoc v.slots.waits x r k e in
        let guarded : (j : ℕ) (u u' : View) → get_elem? vs j ≡ some u → u'.epoch.since ≡ u.epoch.since → u'.slots.sees ≡ u.slots.sees
        → (b k : ℕ) (r : WaitingItem) → Sees u' b → get_elem? (v.slots.waits ++ x ∷ []) k ≡ some r → r.slot ≡ b → u'.epoch.since ≤ r.retired_at
        = λ j u u' e since_same sees_same b k r sees' his same. let sees : Sees u b = subst (λ (l : List ℕ). 0 < times b l) sees_same sees' in
        ⊎_elim (λ (t : get_elem? v.slots.waits k ≡ some r). let g = (s.two j id u v e at).since b k r sees t same in omega arith)
        (λ (t : x ≡ r). let h = ap (λ (q : WaitingItem). q.retired_at) t in let g = since_low j u e ((s.each j u e).guarded b sees) in omega arith)
        (old_or_new k r his) in
        slot_step z sound sizes ws vs s id v at i y w (omega arith)
        (omega arith)
        (λ j ne. let k = without_other i j ne v.slots.owns in omega arith)
        (let t = total_snoc (waits_in i) v.slots.waits x in let q = is_same i i refl in omega arith)
        (λ j ne. let t = total_snoc (waits_in j) v.slots.waits x in let q = is_other j i (λ e. ne (sym e)) in omega arith)
        (λ _ _ _ _. full)
        (not_held_by z sound sizes ws vs s id v at i (inl (omega arith)))
        record {
          timed = λ k r e. ⊎_elim
              (λ (t : get_elem? v.slots.waits k ≡ some r). let h = f.timed k r t in record { known = let g = h.known in omega arith; found = h.found })
              (λ (t : x ≡ r). subst (IsTimed w.epoch) t record { known = omega arith; found = λ pos. absurd (omega arith) })
              (old_or_new k r e);
          guarded = f.guarded;
          full = λ k sees. dite (ℕ_discrete k i) (λ e. ap z.full (now k e) ∙ full) (λ ne. ap z.full (there k ne) ∙ f.full k sees);
          held = λ k h. dite (ℕ_discrete k i) (λ e. absurd (free (subst (Holds v) e h)))
              (λ ne. let g = f.held k h in let own = g.0 in let e = without_other i k ne v.slots.owns in
              (omega arith, ap z.counted (there k ne) ∙ g.1));
        }
        (let q = s.two id id v v at at in record { since = guarded id v w at refl refl; looked = q.looked })
        (λ j u apart e. let q = s.two id j v u at e in let r = s.two j id u v e at in (
          record { since = q.since; looked = q.looked },
          record { since = guarded j u u e refl refl; looked = r.looked },
        ))

    -- nobody sees an item that has seen three changes: a guard that did would have published at its retirement at most, and then
    -- the count were at most one more, while after three changes it is two more at least
    pub unseen : (k : ℕ) (x : WaitingItem) → get_elem? v.slots.waits k ≡ some x → 3 ≤ x.changes → (j : ℕ) (u : View) → get_elem? vs j ≡ some u
        → ¬ (Sees u x.slot)
    unseen k x has ripe j u e sees = let before = (s.two j id u v e at).since x.slot k x sees has refl in
        let late = ((s.each id v at).timed k x has).found (omega arith) in let is_open = (s.each j u e).guarded x.slot sees in
        let mine = epochs.each id v.epoch (at_map epoch_of vs id v at) in let found = mine.found in let known = mine.known in
        let once = ((epochs.each j u.epoch (at_map epoch_of vs j u e)).published is_open).once in omega arith

    abbrev pub giving_back : ℕ → List ℕ → View
    giving_back i known = record v { slots = record v.slots { waits = without_item i v.slots.waits }; words = known }

    -- an item of three changes goes, and its slot is free
    pub gives_back : (k y : ℕ) (x : WaitingItem) (known : List ℕ) → get_elem? v.slots.waits k ≡ some x → 3 ≤ x.changes → x.slot < most_waiting sizes
        → z.alive y ≡ 0 → z.waiting y ≡ 0
        → SlotsInvariant z sizes (set ws (slot_word sizes x.slot) y) (set vs id (giving_back x.slot known))
    gives_back k y x known has ripe inside none quiet =
        let i : ℕ = x.slot in let long = s.long in let w : View = giving_back i known in let f = s.each id v at in
        let wait = waiter_in z sound sizes ws vs s id k v x at has in let single = (sound.waits (slot_at sizes ws i) wait).0 in
        let dead : z.alive (slot_at sizes ws i) ≡ 0 = dite (ℕ_discrete (z.alive (slot_at sizes ws i)) 0) (λ e. e)
        (λ ne. let l = (sound.lives (slot_at sizes ws i) (omega arith)).0 in omega arith) in
        let there : (j : ℕ) → j ≢ i → slot_at sizes (set ws (slot_word sizes i) y) j ≡ slot_at sizes ws j
        = λ j ne. get_or-set_other ws (slot_word sizes i) (slot_word sizes j) y 0 (λ e. ne (omega arith)) in
        let old : (p : ℕ) (r : WaitingItem) → get_elem? (without_item i v.slots.waits) p ≡ some r → (q : ℕ) × (get_elem? v.slots.waits q ≡ some r)
        = λ p r e. at_filter (λ (x : WaitingItem). not (eqb x.slot i)) v.slots.waits p r e in
        slot_step z sound sizes ws vs s id v at i y w (omega arith) (omega arith) (λ j ne. refl)
        (let g = item_gone i v.slots.waits in let a = total_has (items_at i) vs id v at in let b = total_has (waits_in i) v.slots.waits k x has in
        let c = is_same i i refl in let t = s.waited i in omega arith)
        (λ j ne. sym (item_kept i j ne v.slots.waits))
        (λ j u e sees. absurd (unseen k x has ripe j u e sees))
        (not_held_by z sound sizes ws vs s id v at i (inr (inl (λ e. omega arith))))
        record {
          timed = λ p r e. let o = old p r e in f.timed o.0 r o.1;
          guarded = f.guarded;
          full = λ a sees. dite (ℕ_discrete a i)
              (λ e. absurd (unseen k x has ripe id v at (subst (Sees v) e sees)))
              (λ ne. ap z.full (there a ne) ∙ f.full a sees);
          held = λ a h. dite (ℕ_discrete a i) (λ e. absurd (not_held i (inl (λ e. omega arith)) (subst (Holds v) e h)))
              (λ ne. let g = f.held a h in (g.0, ap z.counted (there a ne) ∙ g.1));
        }
        (let a = s.two id id v v at at in record { since = λ d p r sees e same. let o = old p r e in a.since d o.0 r sees o.1 same; looked = a.looked })
        (λ j u apart e. let a = s.two id j v u at e in let b = s.two j id u v e at in (
          record { since = a.since; looked = a.looked },
          record { since = λ d p r sees e' same. let o = old p r e' in b.since d o.0 r sees o.1 same; looked = b.looked },
        ))
