-- What a guard comes to see, and the steps on cells.
use Rattle.std.proofs.Common.{◌≡◌, ◌≢◌, ◌⊎◌, ℕ, ◌<◌, List, get_or, set, sym, refl, ap, ◌∙◌, subst, inl, inr, ⊎_elim, arith}
use mathlib.Core.Option.{some, some-injective}
use mathlib.Core.Logic.{dite}
use native.Mathlib.Decide.{ℕ_discrete}
use lib.ListN.{get_elem?}
use Rattle.sdd_rights.specs.declared.views.WaitingItem.{WaitingItem}
use Rattle.sdd_rights.specs.declared.views.View.{View}
use Rattle.sdd_rights.specs.declared.views.Sizes.{Sizes}
use Rattle.sdd_domain_invariant.specs.Words.{cell_word}
use Rattle.sdd_domain_invariant.specs.Epoch.{IsOpen}
use Rattle.sdd_domain_invariant.specs.Codes.{WordReading, IsWordReading}
use Rattle.sdd_domain_invariant.specs.Slots.{slot_at, owners_at, Sees, Holds, SeenBeforeRetired, SlotsInvariant}
use Rattle.sdd_domain_invariant.specs.Slots.SlotSteps.{seeing}
use Rattle.sdd_domain_invariant.proofs.Sums.{is_other}
use Rattle.sdd_domain_invariant.proofs.Slots.SlotWords.{view_step, none_waits, owner_in, named_in, waiter_in, none_holds, held_is}

-- what is seen now was seen before, or is the new slot
pub sees_more : (v : View) (i a : ℕ) → Sees (seeing i v) a → (a ≡ i) ⊎ Sees v a
sees_more v i a h = dite (ℕ_discrete a i) (λ e. inl e) (λ ne. let o = is_other a i (λ e. ne (sym e)) in inr (omega arith))

module _ (z : WordReading) (sound : IsWordReading z) (sizes : Sizes) (ws : List ℕ) (vs : List View) (s : SlotsInvariant z sizes ws vs) (id : ℕ) (v : View)
    (at : get_elem? vs id ≡ some v) where
  -- a guard sees a slot that is full, for which no item waits and which nobody holds
  sees_step : (i : ℕ) → IsOpen v.epoch → z.full (slot_at sizes ws i) ≡ 1
      → ((j k : ℕ) (u : View) (x : WaitingItem) → get_elem? vs j ≡ some u → get_elem? u.slots.waits k ≡ some x → x.slot ≢ i)
      → ((j : ℕ) (u : View) → get_elem? vs j ≡ some u → ¬ (Holds u i)) → SlotsInvariant z sizes ws (set vs id (seeing i v))
  sees_step i is_open full none free = let w : View = seeing i v in let f = s.each id v at in
      let safe : (j : ℕ) (u u' : View) → get_elem? vs j ≡ some u → u'.slots.waits ≡ u.slots.waits → u'.slots.holds ≡ u.slots.holds
      → u'.slots.looked ≡ u.slots.looked → SeenBeforeRetired v u → SeenBeforeRetired w u'
      = λ j u u' e waits_same holds_same looked_same x. record {
        since = λ a k r sees his same.
            let his' : get_elem? u.slots.waits k ≡ some r = subst (λ (l : List WaitingItem). get_elem? l k ≡ some r) waits_same his in
            ⊎_elim (λ (t : a ≡ i). absurd (none j k u r e his' (same ∙ t))) (λ (t : Sees v a). x.since a k r t his' same) (sees_more v i a sees);
        looked = λ a sees h. let h' : Holds u a = sym holds_same ∙ h in
            ⊎_elim (λ (t : a ≡ i). absurd (free j u e (subst (Holds u) t h')))
            (λ (t : Sees v a). let g = x.looked a t h' in omega arith) (sees_more v i a sees);
      } in
      view_step z sound sizes ws vs s id v at w (λ _. refl) (λ _. refl)
      record {
        timed = f.timed;
        guarded = λ a h. is_open;
        full = λ a h. ⊎_elim (λ (t : a ≡ i). ap (λ (d : ℕ). z.full (slot_at sizes ws d)) t ∙ full) (λ (t : Sees v a). f.full a t) (sees_more v i a h);
        held = f.held;
      }
      (safe id v w at refl refl refl (s.two id id v v at at))
      (λ j u apart e. let o = s.two j id u v e at in
      (safe j u u e refl refl refl (s.two id j v u at e), record { since = o.since; looked = o.looked }))

  -- that of an owner, who may be another, and who doesn't hold it
  pub watches_beside : (k : ℕ) (u : View) → get_elem? vs k ≡ some u → (i : ℕ) → IsOpen v.epoch → 0 < owners_at i u → ¬ (Holds u i)
      → SlotsInvariant z sizes ws (set vs id (seeing i v))
  watches_beside k u there i is_open mine free = let o = owner_in z sound sizes ws vs s k i u there in
      let live : 0 < z.alive (slot_at sizes ws i) = omega arith in
      sees_step i is_open (sound.lives (slot_at sizes ws i) live).1 (none_waits z sound sizes ws vs s i live)
      (λ j x e h. dite (ℕ_discrete j k)
      (λ same. free (subst (λ (t : View). Holds t i) (some-injective _ _ (sym e ∙ (ap (get_elem? vs) same ∙ there))) h))
      (λ ne. none_holds z sound sizes ws vs s j k i x u ne e there mine h))

  -- that which a cell owns
  pub loads : (d i : ℕ) → d < sizes.cells → IsOpen v.epoch → 0 < z.names i (get_or ws (cell_word d) 0) → SlotsInvariant z sizes ws
      (set vs id (seeing i v))
  loads d i inside is_open names = let n = named_in z sound sizes ws vs s id d i v at inside in
      let live : 0 < z.alive (slot_at sizes ws i) = omega arith in
      sees_step i is_open (sound.lives (slot_at sizes ws i) live).1 (none_waits z sound sizes ws vs s i live)
      (λ j u e h. let own = ((s.each j u e).held i h).0 in let g = held_is z sound sizes ws vs s j i u e h in
      let t = named_in z sound sizes ws vs s j d i u e inside in omega arith)

  -- that of a raw item, of which its word tells
  pub sees_raw : (i : ℕ) → IsOpen v.epoch → z.full (slot_at sizes ws i) ≡ 1 → z.alive (slot_at sizes ws i) ≡ 0 → z.waiting (slot_at sizes ws i) ≡ 0
      → SlotsInvariant z sizes ws (set vs id (seeing i v))
  sees_raw i is_open full none quiet = sees_step i is_open full
      (λ j k u x e his same. let w = waiter_in z sound sizes ws vs s j k u x e his in
      let h = ap (λ (a : ℕ). z.waiting (slot_at sizes ws a)) same in omega arith)
      (λ j u e h. let g = held_is z sound sizes ws vs s j i u e h in omega arith)
