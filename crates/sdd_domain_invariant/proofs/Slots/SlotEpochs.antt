-- What a step of the epoch's part leaves of the slots' part
use Rattle.std.proofs.Common.{◌≡◌, ◌≢◌, ℕ, zero, suc, ◌<◌, ◌≤◌, List, [], ◌∷◌, map, set, sym, refl, ap, ◌∙◌, subst, eq-eqb, ne_eqb, arith}
use mathlib.Core.Option.{some, some-injective, some-ne-none}
use mathlib.Core.Bool.{cond}
use mathlib.Core.Logic.{dite}
use native.Mathlib.Decide.{ℕ_discrete}
use lib.ListN.{get_elem?}
use Rattle.sdd_rights.specs.declared.views.EpochView.{EpochView}
use Rattle.sdd_rights.specs.declared.views.WaitingItem.{WaitingItem}
use Rattle.sdd_rights.specs.declared.views.SlotsView.{SlotsView}
use Rattle.sdd_rights.specs.declared.views.View.{View}
use Rattle.sdd_rights.specs.declared.views.Sizes.{Sizes}
use Rattle.sdd_domain_invariant.specs.Words.{IsEpochWord}
use Rattle.sdd_domain_invariant.specs.Epoch.{IsClosed, IsOpen}
use Rattle.sdd_domain_invariant.specs.Epoch.EpochSteps.{Rises, published, closed}
use Rattle.sdd_domain_invariant.specs.Codes.{WordReading, IsWordReading}
use Rattle.sdd_domain_invariant.specs.Slots.{waits_in, Sees, IsTimed, SlotsInvariant}
use Rattle.sdd_domain_invariant.specs.Slots.SlotSteps.{older, aged as aged_slots, changed, unseeing}
use Rattle.sdd_domain_invariant.specs.WordInvariant.{with_epoch, with_both}
use Rattle.sdd_domain_invariant.proofs.Sums.{total_map}
use Rattle.sdd_domain_invariant.proofs.Slots.SlotWords.{view_step, beside}

pub of_map : {A B : Type 0} (f : A → B) (l : List A) (i : ℕ) (y : B) → get_elem? (map f l) i ≡ some y → (x : A) × (get_elem? l i ≡ some x) × (f x ≡ y)
of_map f [] i y e = absurd (some-ne-none y (sym e))
of_map f (x ∷ xs) zero y e = (x, refl, some-injective _ _ e)
of_map f (x ∷ xs) (suc i) y e = of_map f xs i y e

module _ (z : WordReading) (sound : IsWordReading z) (sizes : Sizes) (ws : List ℕ) (vs : List View) (s : SlotsInvariant z sizes ws vs) (id : ℕ) (v : View)
    (at : get_elem? vs id ≡ some v) (j y : ℕ) (word : IsEpochWord sizes j) where
  -- what is known rises, and an open guard stays as it is published
  pub mild : (w : EpochView) → Rises v.epoch w → SlotsInvariant z sizes (set ws j y) (set vs id (with_epoch v w))
  mild w up = let known = up.known in let found = up.found in let f = s.each id v at in
      let stays : (i : ℕ) → Sees v i → IsOpen w × (w.since ≡ v.epoch.since) × (w.place ≡ v.epoch.place) = λ i sees. up.guard (f.guarded i sees) in
      beside z sizes ws (set vs id (with_epoch v w)) j y word (
      view_step z sound sizes ws vs s id v at (with_epoch v w) (λ _. refl) (λ _. refl)
      record {
        timed = λ q x e. let g = f.timed q x e in record { known = let h = g.known in omega arith; found = λ pos. let h = g.found pos in omega arith };
        guarded = λ i h. (stays i h).0;
        full = f.full;
        held = f.held;
      }
      (let x = s.two id id v v at at in record {
        since = λ i l r h e same. let g = x.since i l r h e same in let o = (stays i h).1 in omega arith;
        looked = λ i h e. let g = x.looked i h e in let o = (stays i h).2 in omega arith;
      })
      (λ l u apart e. let x = s.two id l v u at e in let o = s.two l id u v e at in (
        record {
          since = λ i l r h e same. let g = x.since i l r h e same in let o = (stays i h).1 in omega arith;
          looked = λ i h e. let g = x.looked i h e in let o = (stays i h).2 in omega arith;
        },
        record { since = o.since; looked = o.looked },
      )))

  -- each item has seen one change more, since a publish found another count than the last one
  module _ (g : ℕ) (shut : IsClosed v.epoch) (now : v.epoch.count ≡ v.epoch.known) (rises : v.epoch.known ≤ g) (found : v.epoch.found ≤ v.epoch.known) where
    abbrev aged : View
    aged = with_both v (published v.epoch g) (aged_slots v.slots)

    ages : v.epoch.count ≢ v.epoch.found → SlotsInvariant z sizes (set ws j y) (set vs id aged)
    ages other = let f = s.each id v at in
        let blind : (i : ℕ) → ¬ (Sees v i) = λ i h. let o = f.guarded i h in omega arith in
        beside z sizes ws (set vs id aged) j y word (view_step z sound sizes ws vs s id v at aged (λ _. refl)
        (λ i. sym (total_map (waits_in i) older (λ x. refl) v.slots.waits))
        record {
          timed = λ q r e. let p = of_map older v.slots.waits q r e in let x : WaitingItem = p.0 in let a = f.timed q x p.1 in
              subst (IsTimed (published v.epoch g)) p.2 record {
                known = let k = a.known in omega arith;
                found = λ _. let k = a.known in dite (ℕ_discrete x.changes 0) (λ e. omega arith) (λ ne. let l = a.found (omega arith) in omega arith);
              };
          guarded = λ i h. absurd (blind i h);
          full = λ i h. absurd (blind i h);
          held = f.held;
        }
        record { since = λ i l r h. absurd (blind i h); looked = λ i h. absurd (blind i h) }
        (λ l u apart e. let o = s.two l id u v e at in (
          record { since = λ i _ r h. absurd (blind i h); looked = λ i h. absurd (blind i h) },
          record {
            since = λ i q r h e' same. let p = of_map older v.slots.waits q r e' in let x : WaitingItem = p.0 in
                let slot = ap (λ (i : WaitingItem). i.slot) p.2 in let born = ap (λ (i : WaitingItem). i.retired_at) p.2 in
                let g' = o.since i q x h p.1 (slot ∙ same) in omega arith;
            looked = o.looked;
          },
        )))

    -- a publish
    pub publishes : SlotsInvariant z sizes (set ws j y) (set vs id (with_both v (published v.epoch g) (changed v)))
    publishes = let slots = λ (t : SlotsView). SlotsInvariant z sizes (set ws j y) (set vs id (with_both v (published v.epoch g) t)) in
        dite (ℕ_discrete v.epoch.count v.epoch.found)
        (λ e. subst slots (sym (ap (λ (t : _). cond t v.slots (aged_slots v.slots)) (eq-eqb v.epoch.count v.epoch.found e)))
        (mild (published v.epoch g) record { known = rises; found = omega arith; guard = λ is_open. absurd (omega arith) }))
        (λ ne. subst slots (sym (ap (λ (t : _). cond t v.slots (aged_slots v.slots)) (ne_eqb v.epoch.count v.epoch.found ne)))
        (ages ne))

  -- a close: what was seen is forgotten
  pub closes : SlotsInvariant z sizes (set ws j y) (set vs id (with_both v (closed v.epoch) (unseeing v)))
  closes = let w : View = with_both v (closed v.epoch) (unseeing v) in let f = s.each id v at in beside z sizes ws (set vs id w) j y word (
      view_step z sound sizes ws vs s id v at w (λ _. refl) (λ _. refl)
      record {
        timed = λ q x e. let g = f.timed q x e in record { known = g.known; found = g.found };
        guarded = λ i h. absurd (omega arith);
        full = λ i h. absurd (omega arith);
        held = f.held;
      }
      record { since = λ i l r h. absurd (omega arith); looked = λ i h. absurd (omega arith) }
      (λ l u apart e. let o = s.two l id u v e at in (
        record { since = λ i l r h. absurd (omega arith); looked = λ i h. absurd (omega arith) },
        record { since = o.since; looked = o.looked },
      )))
