-- A job comes to wait: a free place of the table of jobs is claimed, and what waits there waits from the same step on.
use Rattle.std.proofs.Common.{◌≡◌, ◌≢◌, ◌⊎◌, ℕ, ◌<◌, ◌≤◌, List, [], ◌∷◌, ◌++◌, map, get_or, set, sym, refl, ap, ◌∙◌, subst, ⊎_elim, arith, get_or-set_other}
use mathlib.Core.Option.{some}
use mathlib.Core.Logic.{dite}
use native.Mathlib.Decide.{ℕ_discrete}
use lib.ListN.{get_elem?}
use Rattle.atomic_table.proofs.Lists.{at_map, at_snoc}
use Rattle.sdd_rights.specs.declared.views.WaitingItem.{WaitingItem}
use Rattle.sdd_rights.specs.declared.views.View.{View}
use Rattle.sdd_rights.specs.declared.views.Sizes.{Sizes}
use Rattle.sdd_domain_invariant.specs.Words.{global_word, slot_word, most_waiting}
use Rattle.sdd_domain_invariant.specs.Epoch.{EpochInvariant}
use Rattle.sdd_domain_invariant.specs.Epoch.EpochSteps.{knowing}
use Rattle.sdd_domain_invariant.specs.Codes.{WordReading, IsWordReading}
use Rattle.sdd_domain_invariant.specs.Slots.{slot_at, waits_in, Holds, Sees, IsTimed, SlotsInvariant}
use Rattle.sdd_domain_invariant.specs.Slots.SlotSteps.{retired_now}
use Rattle.sdd_domain_invariant.specs.WordInvariant.{epoch_of}
use Rattle.sdd_domain_invariant.proofs.Sums.{total_snoc, is_same, is_other}
use Rattle.sdd_domain_invariant.proofs.Slots.SlotWords.{slot_step, held_is}
use Rattle.sdd_domain_invariant.proofs.Slots.OwnerSteps.{fresh}

module _ (z : WordReading) (sound : IsWordReading z) (sizes : Sizes) (ws : List ℕ) (vs : List View) (s : SlotsInvariant z sizes ws vs) (id : ℕ) (v : View)
    (at : get_elem? vs id ≡ some v) (epochs : EpochInvariant sizes ws (map epoch_of vs)) where
  abbrev pub deferring : ℕ → List ℕ → View
  deferring i known = record v {
    epoch = knowing v.epoch (get_or ws global_word 0);
    slots = record v.slots { waits = v.slots.waits ++ retired_now i (get_or ws global_word 0) ∷ [] };
    words = known;
  }

  -- a free place is claimed, and what is put there waits, in one step
  pub defers : (i y : ℕ) (known : List ℕ) → i < most_waiting sizes → z.alive (slot_at sizes ws i) ≡ 0 → z.waiting (slot_at sizes ws i) ≡ 0
      → z.full (slot_at sizes ws i) ≡ 0 → z.alive y ≡ 0 → z.waiting y ≡ 1
      → SlotsInvariant z sizes (set ws (slot_word sizes i) y) (set vs id (deferring i known))
  defers i y known inside dead quiet empty none waits =
      let long = s.long in let w : View = deferring i known in let x : WaitingItem = retired_now i (get_or ws global_word 0) in let f = s.each id v at in
      let unseen = fresh z sound sizes ws vs s id v at i empty in
      let unheld : (j : ℕ) (u : View) → get_elem? vs j ≡ some u → ¬ (Holds u i)
      = λ j u e h. let o = held_is z sound sizes ws vs s j i u e h in omega arith in
      let low = (epochs.each id v.epoch (at_map epoch_of vs id v at)).known in
      let there : (j : ℕ) → j ≢ i → slot_at sizes (set ws (slot_word sizes i) y) j ≡ slot_at sizes ws j
      = λ j ne. get_or-set_other ws (slot_word sizes i) (slot_word sizes j) y 0 (λ e. ne (omega arith)) in
      let old_or_new : (k : ℕ) (r : WaitingItem) → get_elem? (v.slots.waits ++ x ∷ []) k ≡ some r → (get_elem? v.slots.waits k ≡ some r) ⊎ (x ≡ r)
      = λ k r e. at_snoc v.slots.waits x r k e in
      let since : (j : ℕ) (u : View) → get_elem? vs j ≡ some u → (b k : ℕ) (r : WaitingItem) → Sees u b → get_elem? (v.slots.waits ++ x ∷ []) k ≡ some r
      → r.slot ≡ b → u.epoch.since ≤ r.retired_at
      = λ j u e b k r sees his same. ⊎_elim (λ (t : get_elem? v.slots.waits k ≡ some r). (s.two j id u v e at).since b k r sees t same)
      (λ (t : x ≡ r). let h : i ≡ b = ap (λ (q : WaitingItem). q.slot) t ∙ same in absurd (unseen j u e (subst (Sees u) (sym h) sees)))
      (old_or_new k r his) in
      slot_step z sound sizes ws vs s id v at i y w inside (omega arith) (λ j ne. refl)
      (let t = total_snoc (waits_in i) v.slots.waits x in let q = is_same i i refl in omega arith)
      (λ j ne. let t = total_snoc (waits_in j) v.slots.waits x in let q = is_other j i (λ e. ne (sym e)) in omega arith)
      (λ j u e sees. absurd (unseen j u e sees))
      (λ j u _ e. unheld j u e)
      record {
        timed = λ k r e. ⊎_elim
            (λ (t : get_elem? v.slots.waits k ≡ some r). let h = f.timed k r t in record { known = let g = h.known in omega arith; found = h.found })
            (λ (t : x ≡ r). subst (IsTimed w.epoch) t record { known = omega arith; found = λ pos. absurd (omega arith) })
            (old_or_new k r e);
        guarded = f.guarded;
        full = λ k sees. dite (ℕ_discrete k i) (λ e. absurd (unseen id v at (subst (Sees v) e sees))) (λ ne. ap z.full (there k ne) ∙ f.full k sees);
        held = λ k h. dite (ℕ_discrete k i) (λ e. absurd (unheld id v at (subst (Holds v) e h)))
            (λ ne. let g = f.held k h in (g.0, ap z.counted (there k ne) ∙ g.1));
      }
      (let q = s.two id id v v at at in record { since = λ b k r sees his same. since id v at b k r sees his same; looked = q.looked })
      (λ j u apart e. let q = s.two id j v u at e in let r = s.two j id u v e at in (
        record { since = q.since; looked = q.looked },
        record { since = λ b k r' sees his same. since j u e b k r' sees his same; looked = r.looked },
      ))
