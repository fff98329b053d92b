use Rattle.std.proofs.Common.{◌≡◌, ℕ, ◌<◌, false, length, refl, sym, ap, ◌∙◌, subst, eq-eqb}
use Rattle.sdd_participants.specs.PlaceStates.{is_ended}
use Rattle.sdd_participants.specs.Slab.{entry_at}
use Rattle.sdd_participants.specs.EpochState.{EpochState, adopted, scanned, raised, place_at, nobody}
use Rattle.sdd_participants.proofs.Adoptions.{none-left, nothing-left, there-is}
use Rattle.sdd_participants.proofs.epoch_state.EpochState.scan.Goals as goal
use Rattle.sdd_participants.proofs.epoch_state.EpochState.scan.Goals.{then-self, else-self}

pub invariant_of-self : goal.invariant_of-self
invariant_of-self c =
    let t = c.args.self.now in
    let kept = c.self-then-self.invariant in
    let same : length t.phases ≡ length t.places = subst (λ (u : EpochState). length u.phases ≡ length u.places) c.self.view_is c.self.invariant.phased in
    record {
      reserved = kept.reserved;
      phased = kept.phased;
      kept = kept.kept;
      nests = kept.nests;
      told = λ unmarked q.
          ap (λ (u : EpochState). is_ended (entry_at u.phases q)) (c.self-then-self.view_is ∙ c.adopt.ensures)
          ∙ none-left t c.args.place c.requires.live same q;
    }

-- a scan of who found the count
found-it : (t : EpochState) (p : ℕ) → (place_at t p).found ≡ t.count → raised (record (adopted t p) { marked = false }) ≡ scanned t p
found-it t p found = rw (eq-eqb (place_at t p).found t.count found) refl

pub returns-after-self : goal.returns-after-self
returns-after-self c =
    let t = c.args.self.now in
    let p = c.args.place in
    let inside : p < length c.self.inside.places.items = rw (← c.self.view_is) at c.requires.live.0 in
    let here = c.index.ensures ∙ there-is c.self.inside.places.items p c.index.result.now nobody inside in
    let found = subst (λ (u : EpochState). (place_at u p).found ≡ u.count) c.self.view_is (ap (λ x. x.found) (sym here) ∙ c.if-index-self.true) in
    let after : c.if-self.self ≡ record (adopted t p) { marked = false } = elim c.if-self.branch [
      | then-self w ↦ w.self-is ∙ ap (λ (u : EpochState). record u { marked = false }) (w.self-then-self.view_is ∙ w.adopt.ensures)
      | else-self w ↦ w.self-is ∙ subst (λ (u : EpochState). u ≡ record (adopted u p) { marked = false }) c.self.view_is
          (nothing-left _ p w.if-self.false (c.self.invariant.told w.if-self.false))
    ] in
    c.raise.ensures ∙ ap raised after ∙ found-it t p found
