-- The slots' part after steps on the words of private items
use Rattle.std.proofs.Common.{◌≡◌, ◌≢◌, ◌⊎◌, ℕ, ◌<◌, ◌≤◌, Bool, eqb, List, [], ◌∷◌, ◌++◌, set, sym, refl, ap, ◌∙◌, subst, ⊎_elim, eq-eqb, ne_eqb, arith, get_or-set_other, get_or-set_same}
use Rattle.std.specs.Prelude.{Option, not}
use mathlib.Core.Option.{some}
use mathlib.Core.Logic.{dite}
use native.Mathlib.Decide.{ℕ_discrete}
use lib.ListN.{get_elem?}
use Rattle.atomic_table.proofs.Lists.{at_snoc}
use Rattle.sdd_rights.specs.declared.views.PrivateItem.{PrivateItem}
use Rattle.sdd_rights.specs.declared.views.WaitingItem.{WaitingItem}
use Rattle.sdd_rights.specs.declared.views.View.{View}
use Rattle.sdd_rights.specs.declared.views.Sizes.{Sizes}
use Rattle.sdd_domain_invariant.specs.Words.{slot_word, most_waiting}
use Rattle.sdd_domain_invariant.specs.Sums.{total}
use Rattle.sdd_domain_invariant.specs.Codes.{WordReading, IsWordReading}
use Rattle.sdd_domain_invariant.specs.Slots.{slot_at, waits_in, items_at, Sees, Holds, IsTimed, SlotsInvariant}
use Rattle.sdd_domain_invariant.specs.Collectors.{private_in}
use Rattle.sdd_domain_invariant.specs.Slots.SlotSteps.{without_item}
use Rattle.sdd_domain_invariant.specs.Collectors.CollectorWordSteps.{without_private}
use Rattle.sdd_domain_invariant.proofs.Sums.{total_snoc, total_has, total_kept, total_gone, at_filter, is_same, is_other}
use Rattle.sdd_domain_invariant.proofs.Slots.SlotWords.{slot_step, view_step, waiter_in, held_is}
use Rattle.sdd_domain_invariant.proofs.Slots.OwnerSteps.{item_gone, item_kept}

-- the private items without those of the slot i
pub private_gone : (i : ℕ) (xs : List PrivateItem) → total (private_in i) (without_private i xs) ≡ 0
private_gone i xs = total_gone (private_in i) (λ (x : PrivateItem). not (eqb x.item.slot i))
    (λ x t. is_other i x.item.slot (λ e. grind (arith, eq-eqb x.item.slot i e))) xs

pub private_kept : (i j : ℕ) → j ≢ i → (xs : List PrivateItem) → total (private_in j) (without_private i xs) ≡ total (private_in j) xs
private_kept i j ne xs = total_kept (private_in j) (λ (x : PrivateItem). not (eqb x.item.slot i))
    (λ x t. is_other j x.item.slot (λ e. grind (arith, ne_eqb x.item.slot i))) xs

-- what it knows of private items and collectors, and how many places it has looked at
abbrev pub with_privates : View → List PrivateItem → List ℕ → Option ℕ → Bool → Option ℕ → ℕ → View
with_privates v privates emptied empties left closes looked = record v {
  slots = record v.slots { privates = privates; emptied = emptied; empties = empties; left = left; closes = closes; looked = looked };
}

module _ (z : WordReading) (sound : IsWordReading z) (sizes : Sizes) (ws : List ℕ) (vs : List View) (s : SlotsInvariant z sizes ws vs) (id : ℕ) (v : View)
    (at : get_elem? vs id ≡ some v) where
  -- the slots' part reads none of that
  pub blind_privates : (privates : List PrivateItem) (emptied : List ℕ) (empties : Option ℕ) (left : Bool) (closes : Option ℕ) (looked : ℕ)
      → looked ≤ v.slots.looked → SlotsInvariant z sizes ws (set vs id (with_privates v privates emptied empties left closes looked))
  blind_privates privates emptied empties left closes looked less = let f = s.each id v at in
      view_step z sound sizes ws vs s id v at (with_privates v privates emptied empties left closes looked) (λ _. refl) (λ _. refl)
      record { timed = f.timed; guarded = f.guarded; full = f.full; held = f.held }
      (let x = s.two id id v v at at in record { since = x.since; looked = λ i h e. let g = x.looked i h e in omega arith })
      (λ j u apart e. let x = s.two id j v u at e in let y = s.two j id u v e at in
      (record { since = x.since; looked = x.looked }, record { since = y.since; looked = λ i h e. let g = y.looked i h e in omega arith }))

  -- nobody holds a slot without owners
  unheld : (i : ℕ) → z.alive (slot_at sizes ws i) ≡ 0 → (j : ℕ) (u : View) → get_elem? vs j ≡ some u → ¬ (Holds u i)
  unheld i dead j u e h = let o = held_is z sound sizes ws vs s j i u e h in omega arith

  module _ (i y : ℕ) (inside : i < most_waiting sizes) where
    now : (j : ℕ) → j ≡ i → slot_at sizes (set ws (slot_word sizes i) y) j ≡ y
    now j e = let long = s.long in ap (λ (a : ℕ). slot_at sizes (set ws (slot_word sizes i) y) a) e
        ∙ get_or-set_same ws (slot_word sizes i) y 0 (omega arith)

    there : (j : ℕ) → j ≢ i → slot_at sizes (set ws (slot_word sizes i) y) j ≡ slot_at sizes ws j
    there j ne = get_or-set_other ws (slot_word sizes i) (slot_word sizes j) y 0 (λ e. ne (omega arith))

    -- the word of an item without owners changes, which waits neither before nor after; where somebody sees it, it isn't free
    pub turns : (known : List ℕ) → z.alive (slot_at sizes ws i) ≡ 0 → z.waiting (slot_at sizes ws i) ≡ 0 → z.alive y ≡ 0 → z.waiting y ≡ 0
        → ((j : ℕ) (u : View) → get_elem? vs j ≡ some u → Sees u i → z.full y ≡ 1)
        → SlotsInvariant z sizes (set ws (slot_word sizes i) y) (set vs id (record v { words = known }))
    turns known dead quiet none none' full = let f = s.each id v at in
        slot_step z sound sizes ws vs s id v at i y (record v { words = known }) inside (omega arith) (λ _ _. refl) (omega arith) (λ _ _. refl) full
        (λ j u _ e. unheld i dead j u e)
        record {
          timed = f.timed;
          guarded = f.guarded;
          full = λ k sees. dite (ℕ_discrete k i) (λ e. ap z.full (now k e) ∙ full id v at (subst (Sees v) e sees))
              (λ ne. ap z.full (there k ne) ∙ f.full k sees);
          held = λ k h. dite (ℕ_discrete k i) (λ e. absurd (unheld i dead id v at (subst (Holds v) e h)))
              (λ ne. let g = f.held k h in (g.0, ap z.counted (there k ne) ∙ g.1));
        }
        (let x = s.two id id v v at at in record { since = x.since; looked = x.looked })
        (λ j u apart e. let x = s.two id j v u at e in let y = s.two j id u v e at in
        (record { since = x.since; looked = x.looked }, record { since = y.since; looked = y.looked }))

    -- an item that waits does so no more, and its slot isn't free
    pub waits_no_more : (k : ℕ) (x : WaitingItem) (known : List ℕ) → get_elem? v.slots.waits k ≡ some x → x.slot ≡ i
        → z.alive y ≡ 0 → z.waiting y ≡ 0 → z.full y ≡ 1
        → SlotsInvariant z sizes (set ws (slot_word sizes i) y)
        (set vs id (record v { slots = record v.slots { waits = without_item i v.slots.waits }; words = known }))
    waits_no_more k x known has same none quiet full =
        let w : View = record v { slots = record v.slots { waits = without_item i v.slots.waits }; words = known } in let f = s.each id v at in
        let wait : 0 < z.waiting (slot_at sizes ws i)
        = subst (λ (d : ℕ). 0 < z.waiting (slot_at sizes ws d)) same (waiter_in z sound sizes ws vs s id k v x at has) in
        let single = (sound.waits (slot_at sizes ws i) wait).0 in
        let dead : z.alive (slot_at sizes ws i) ≡ 0 = dite (ℕ_discrete (z.alive (slot_at sizes ws i)) 0) (λ e. e)
        (λ ne. let l = (sound.lives (slot_at sizes ws i) (omega arith)).0 in omega arith) in
        let old : (p : ℕ) (r : WaitingItem) → get_elem? (without_item i v.slots.waits) p ≡ some r → (q : ℕ) × (get_elem? v.slots.waits q ≡ some r)
        = λ p r e. at_filter (λ (x : WaitingItem). not (eqb x.slot i)) v.slots.waits p r e in
        slot_step z sound sizes ws vs s id v at i y w inside (omega arith) (λ j ne. refl)
        (let g = item_gone i v.slots.waits in let a = total_has (items_at i) vs id v at in let b = total_has (waits_in i) v.slots.waits k x has in
        let c = is_same i x.slot same in let t = s.waited i in omega arith)
        (λ j ne. sym (item_kept i j ne v.slots.waits))
        (λ _ _ _ _. full)
        (λ j u _ e. unheld i dead j u e)
        record {
          timed = λ p r e. let o = old p r e in f.timed o.0 r o.1;
          guarded = f.guarded;
          full = λ a sees. dite (ℕ_discrete a i) (λ e. ap z.full (now a e) ∙ full) (λ ne. ap z.full (there a ne) ∙ f.full a sees);
          held = λ a h. dite (ℕ_discrete a i) (λ e. absurd (unheld i dead id v at (subst (Holds v) e h)))
              (λ ne. let g = f.held a h in (g.0, ap z.counted (there a ne) ∙ g.1));
        }
        (let a = s.two id id v v at at in record { since = λ d p r sees e same. let o = old p r e in a.since d o.0 r sees o.1 same; looked = a.looked })
        (λ j u apart e. let a = s.two id j v u at e in let b = s.two j id u v e at in (
          record { since = a.since; looked = a.looked },
          record { since = λ d p r sees e' same. let o = old p r e' in b.since d o.0 r sees o.1 same; looked = b.looked },
        ))

    -- an item waits from now on, as of the time at which it was retired
    pub comes_to_wait : (x : WaitingItem) (known : List ℕ) → x.slot ≡ i → z.alive (slot_at sizes ws i) ≡ 0 → z.waiting (slot_at sizes ws i) ≡ 0
        → z.alive y ≡ 0 → z.waiting y ≡ 1 → IsTimed v.epoch x
        → ((j : ℕ) (u : View) → get_elem? vs j ≡ some u → Sees u i → u.epoch.since ≤ x.retired_at)
        → SlotsInvariant z sizes (set ws (slot_word sizes i) y)
        (set vs id (record v { slots = record v.slots { waits = v.slots.waits ++ x ∷ [] }; words = known }))
    comes_to_wait x known is dead quiet none waits timed before =
        let w : View = record v { slots = record v.slots { waits = v.slots.waits ++ x ∷ [] }; words = known } in let f = s.each id v at in
        let full = (sound.waits y (omega arith)).1 in
        let old_or_new : (k : ℕ) (r : WaitingItem) → get_elem? (v.slots.waits ++ x ∷ []) k ≡ some r → (get_elem? v.slots.waits k ≡ some r) ⊎ (x ≡ r)
        = λ k r e. at_snoc v.slots.waits x r k e in
        let since : (j : ℕ) (u : View) → get_elem? vs j ≡ some u → (b k : ℕ) (r : WaitingItem) → Sees u b → get_elem? (v.slots.waits ++ x ∷ []) k ≡ some r
        → r.slot ≡ b → u.epoch.since ≤ r.retired_at
        = λ j u e b k r sees his same. ⊎_elim (λ (t : get_elem? v.slots.waits k ≡ some r). (s.two j id u v e at).since b k r sees t same)
        (λ (t : x ≡ r). let h : b ≡ i = sym same ∙ (ap (λ (q : WaitingItem). q.slot) (sym t) ∙ is) in
        let g = before j u e (subst (Sees u) h sees) in let q = ap (λ (q : WaitingItem). q.retired_at) t in omega arith)
        (old_or_new k r his) in
        slot_step z sound sizes ws vs s id v at i y w inside (omega arith) (λ j ne. refl)
        (let t = total_snoc (waits_in i) v.slots.waits x in let q = is_same i x.slot is in omega arith)
        (λ j ne. let t = total_snoc (waits_in j) v.slots.waits x in let q = is_other j x.slot (λ e. ne (sym e ∙ is)) in omega arith)
        (λ _ _ _ _. full)
        (λ j u _ e. unheld i dead j u e)
        record {
          timed = λ k r e. ⊎_elim (λ (t : get_elem? v.slots.waits k ≡ some r). f.timed k r t)
              (λ (t : x ≡ r). subst (IsTimed v.epoch) t timed) (old_or_new k r e);
          guarded = f.guarded;
          full = λ a sees. dite (ℕ_discrete a i) (λ e. ap z.full (now a e) ∙ full) (λ ne. ap z.full (there a ne) ∙ f.full a sees);
          held = λ k h. dite (ℕ_discrete k i) (λ e. absurd (unheld i dead id v at (subst (Holds v) e h)))
              (λ ne. let g = f.held k h in (g.0, ap z.counted (there k ne) ∙ g.1));
        }
        (let q = s.two id id v v at at in record { since = λ b k r sees his same. since id v at b k r sees his same; looked = q.looked })
        (λ j u apart e. let q = s.two id j v u at e in let r = s.two j id u v e at in (
          record { since = q.since; looked = q.looked },
          record { since = λ b k r' sees his same. since j u e b k r' sees his same; looked = r.looked },
        ))
