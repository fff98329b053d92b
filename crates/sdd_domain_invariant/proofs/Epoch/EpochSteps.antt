-- The steps of the epoch's part keep the other parts of the words' rule too.
use Rattle.std.proofs.Common.{◌≡◌, ℕ, ◌<◌, List, map, get_or, set, sym, refl, ap, ◌∙◌, subst, eqb, inl, inr, eq-eqb, ne_eqb, arith, get_or-set_other}
use mathlib.Core.Bool.{cond}
use mathlib.Core.Option.{some}
use lib.ListN.{get_elem?}
use mathlib.Core.Logic.{dite}
use native.Mathlib.Decide.{ℕ_discrete}
use lib.Seq.{map-set}
use prog.Atomic.{either}
use Rattle.atomic_table.proofs.Lists.{at_map}
use Rattle.sdd_rights.specs.declared.views.EpochView.{EpochView}
use Rattle.sdd_rights.specs.declared.views.SlotsView.{SlotsView}
use Rattle.sdd_rights.specs.declared.views.View.{View}
use Rattle.sdd_rights.specs.declared.views.Sizes.{Sizes}
use Rattle.sdd_domain_invariant.specs.Words.{IsEpochWord, state_word, slot_word, first_slot}
use Rattle.sdd_domain_invariant.specs.Codes.{codes}
use Rattle.sdd_domain_invariant.specs.Epoch.{HasPlace, IsClosed, IsOpen, Scans, EpochInvariant}
use Rattle.sdd_domain_invariant.specs.Slots.{KnowsWords, Sees}
use Rattle.sdd_domain_invariant.specs.Collectors.{CollectorsInvariant}
use Rattle.sdd_rights.specs.Views.{nobody}
use Rattle.sdd_domain_invariant.specs.Epoch.EpochSteps.{Steps, Keeps, Rises, published, closed, Registers}
use Rattle.sdd_domain_invariant.specs.Slots.SlotSteps.{blank, aged, changed, unseeing, OnEpoch, PublishesAll, ClosesAll}
use Rattle.sdd_domain_invariant.specs.WordInvariant.{epoch_of, with_epoch, with_both, Parts}
use Rattle.sdd_domain_invariant.proofs.Codes.{sound}
use Rattle.sdd_domain_invariant.proofs.Epoch as epochs
use Rattle.sdd_domain_invariant.proofs.Slots.SlotEpochs as slots
use Rattle.sdd_domain_invariant.proofs.Collectors as private
use Rattle.sdd_domain_invariant.proofs.Slots.LoneInvariant.{still_blank, lone_spared}

module _ (sizes : Sizes) where
  -- what the epoch's part sees of the views after a step
  pub seen_after : (ws : List ℕ) (vs : List View) (id : ℕ) (w : View) → EpochInvariant sizes ws (set (map epoch_of vs) id w.epoch)
      → EpochInvariant sizes ws (map epoch_of (set vs id w))
  seen_after ws vs id w = subst (λ (l : List EpochView). EpochInvariant sizes ws l) (sym (map-set epoch_of vs id w))

  -- what is known of the epoch rises, and an open guard stays as it is published
  rises : (ws : List ℕ) (vs : List View) → Parts sizes ws vs → (id : ℕ) (v : View) → get_elem? vs id ≡ some v → (i y : ℕ) → i < first_slot sizes
      → (e : EpochView) → Rises v.epoch e → CollectorsInvariant codes sizes (set ws i y) (set vs id (with_epoch v e))
  rises ws vs p id v at i y low e up = private.word_kept codes sound sizes ws vs p.collectors id v at i y (with_epoch v e) low
      record {
        privates = refl;
        emptied = refl;
        empties = refl;
        left = refl;
        closes = refl;
        looked = omega arith;
        known = up.known;
        found = up.found;
      }
      (λ j h. let g = up.guard ((p.slots.each id v at).guarded j h) in inl (h, g.1, g.2))

  module _ (id : ℕ) (v : View) (i : ℕ) (f : ℕ → ℕ) (word : IsEpochWord sizes i) where
    -- a step that takes no place, publishes nothing and closes nothing
    pub mild : (R : EpochView → ℕ → EpochView → Type 0) → ((x : ℕ) (w : EpochView) → R v.epoch x w → HasPlace w → HasPlace v.epoch)
        → Keeps sizes id v.epoch i f (R v.epoch) → Steps (Parts sizes) id v i f (OnEpoch R v)
    mild R had keeps ws vs p at small = let at' = at_map epoch_of vs id v at in let k = keeps ws (map epoch_of vs) p.epoch at' small in
        let e : EpochView = k.0 in let w : View = with_epoch v e in let y : ℕ = f (get_or ws i 0) in (
          w,
          record {
            epoch = seen_after (set ws i y) vs id w k.1;
            slots = slots.mild codes sound sizes ws vs p.slots id v at i y word e k.2;
            lone = lone_spared sizes ws vs p.lone id v at i y w word refl (λ one z. p.lone.knows one id v at (had (get_or ws i 0) e k.3 z));
            collectors = rises ws vs p id v at i y word.1 e k.2;
          },
          (e, refl, k.3),
        )

  -- a place is taken, by a seat that knows nothing
  pub registers : (id p : ℕ) (v : View) → v.epoch ≡ nobody sizes.participants → v.words ≡ blank sizes → p < sizes.participants
      → Steps (Parts sizes) id v (state_word sizes p) (λ x. either (eqb x 0) 1 x) (OnEpoch (Registers sizes (state_word sizes p)) v)
  registers id p v none clean inside ws vs k at small = let n : ℕ = sizes.participants in let i : ℕ = state_word sizes p in
      let at' = at_map epoch_of vs id v at in
      let keeps = subst (λ (u : EpochView). Keeps sizes id u i (λ x. either (eqb x 0) 1 x) (Registers sizes i u)) (sym none)
      (epochs.registers sizes id p inside) in
      let r = keeps ws (map epoch_of vs) k.epoch at' small in let e : EpochView = r.0 in let w : View = with_epoch v e in
      let y : ℕ = either (eqb (get_or ws i 0) 0) 1 (get_or ws i 0) in (
        w,
        record {
          epoch = seen_after (set ws i y) vs id w r.1;
          slots = slots.mild codes sound sizes ws vs k.slots id v at i y (inr (omega arith), omega arith) e r.2;
          lone = lone_spared sizes ws vs k.lone id v at i y w (inr (omega arith), omega arith) refl (λ one z. dite (ℕ_discrete (get_or ws i 0) 0)
              (λ hit. let first : 0 ≡ p = omega arith in
              subst (KnowsWords sizes ws) (sym clean) (still_blank sizes ws (k.epoch.unused one (ap (λ (q : ℕ). get_or ws (state_word sizes q) 0) first
              ∙ hit))))
              (λ miss. let same = ap (λ (u : EpochView). u.state) ((r.3 p refl).1 miss) in let free = ap (λ (u : EpochView). u.state) none in
              absurd (omega arith)));
          collectors = rises ws vs k id v at i y (omega arith) e r.2;
        },
        (e, refl, r.3),
      )

  pub publishes : (id : ℕ) (v : View) → IsClosed v.epoch → v.epoch.count ≡ v.epoch.known → v.epoch.place < sizes.participants
      → Steps (Parts sizes) id v (state_word sizes v.epoch.place) (λ _. 2) (λ _. PublishesAll v 2)
  publishes id v shut now inside ws vs p at small = let i : ℕ = state_word sizes v.epoch.place in let at' = at_map epoch_of vs id v at in
      let k = epochs.publishes sizes id v.epoch shut now ws (map epoch_of vs) p.epoch at' small in
      let found = (p.epoch.each id v.epoch at').found in
      let t = k.3 in let g : ℕ = t.0 in let w : View = with_both v (published v.epoch g) (changed v) in (
        w,
        record {
          epoch = seen_after (set ws i 2) vs id w (subst (λ (e : EpochView). EpochInvariant sizes (set ws i 2) (set (map epoch_of vs) id e)) t.1
              k.1);
          slots = slots.publishes codes sound sizes ws vs p.slots id v at i 2 (inr (omega arith), omega arith) g shut now t.2 found;
          lone = lone_spared sizes ws vs p.lone id v at i 2 w (inr (omega arith), omega arith) refl (λ one z. p.lone.knows one id v at (omega arith));
          collectors = let c = private.words_kept codes sound sizes ws vs p.collectors (set ws i 2)
              (λ j. inl (get_or-set_other ws i (slot_word sizes j) 2 0 (λ e. omega arith))) in
              let blind : (j : ℕ) → ¬ (Sees v j) = λ j h. let o = (p.slots.each id v at).guarded j h in omega arith in
              let after = λ (s : SlotsView). CollectorsInvariant codes sizes (set ws i 2) (set vs id (with_both v (published v.epoch g) s)) in
              dite (ℕ_discrete v.epoch.count v.epoch.found)
              (λ e. subst after (sym (ap (λ (b : _). cond b v.slots (aged v.slots)) (eq-eqb v.epoch.count v.epoch.found e)))
              (private.view_kept codes sound sizes (set ws i 2) vs c id v (with_both v (published v.epoch g) v.slots) at
              record {
                privates = refl;
                emptied = refl;
                empties = refl;
                left = refl;
                closes = refl;
                looked = omega arith;
                known = t.2;
                found = omega arith;
              }
              (λ j h. absurd (blind j h))))
              (λ ne. subst after (sym (ap (λ (b : _). cond b v.slots (aged v.slots)) (ne_eqb v.epoch.count v.epoch.found ne)))
              (private.ages codes sound sizes (set ws i 2) vs c id v at g shut now t.2 found blind ne));
        },
        (published v.epoch g, refl, (g, refl, t.2, t.3)),
      )

  pub closes : (id : ℕ) (v : View) → IsOpen v.epoch → ¬ (Scans v.epoch) → v.epoch.place < sizes.participants
      → Steps (Parts sizes) id v (state_word sizes v.epoch.place) (λ _. 1) (λ _. ClosesAll v 1)
  closes id v is_open free inside ws vs p at small = let i : ℕ = state_word sizes v.epoch.place in let at' = at_map epoch_of vs id v at in
      let k = epochs.closes sizes id v.epoch is_open free ws (map epoch_of vs) p.epoch at' small in
      let w : View = with_both v (closed v.epoch) (unseeing v) in (
        w,
        record {
          epoch = seen_after (set ws i 1) vs id w (subst (λ (e : EpochView). EpochInvariant sizes (set ws i 1) (set (map epoch_of vs) id e)) k.2
              k.1);
          slots = slots.closes codes sound sizes ws vs p.slots id v at i 1 (inr (omega arith), omega arith);
          lone = lone_spared sizes ws vs p.lone id v at i 1 w (inr (omega arith), omega arith) refl (λ one z. p.lone.knows one id v at (omega arith));
          collectors = private.word_kept codes sound sizes ws vs p.collectors id v at i 1 w (omega arith)
              record {
                privates = refl;
                emptied = refl;
                empties = refl;
                left = refl;
                closes = refl;
                looked = omega arith;
                known = omega arith;
                found = omega arith;
              }
              (λ j h. absurd (omega arith));
        },
        refl,
      )
