-- What a participant shows goes on to be shown
use Rattle.std.proofs.Common.{◌≡◌, ℕ, Bool, true, false, List, sym, subst}
use base.Stored.{Gv}
use Rattle.sdd_participants.specs.declared.participant.Participant.{Participant}
use Rattle.sdd_world_model.specs.OwnerOrCell.{OwnerOrCell}
use Rattle.sdd_space.specs.Ptr.{KeepsShown}
use Rattle.sdd_domain_steps.specs.LocalState.{LocalState}
use Rattle.sdd_domain_steps.specs.Local.{LocalModel}
use Rattle.sdd_domain_core.specs.Space.{ShowsBy, Shows, is_lone}

-- what it keeps of its own, and what it knows of the count, are so
abbrev pub with_own : {J : Type 0} → LocalState J → Participant → ℕ → ℕ → LocalState J
with_own m own known since = record m { own = own; known = known; since = since }

module _ {T : Type 0} (shown : T → Gv) (holds : T → List OwnerOrCell) where
  -- as its fields have it
  keeps_from : {J : Type 0} (v p q : LocalModel T J) → v ≡ p → KeepsShown (Shows shown holds v) (Shows shown holds q)
      → KeepsShown (Shows shown holds p) (Shows shown holds q)
  keeps_from v p q is kept k value h = kept k value (subst (λ (z : LocalModel T _). Shows shown holds z k value) (sym is) h)

  own_by : {J : Type 0} (v : LocalModel T J) (own : Participant) (known since : ℕ) (b : Bool) (k : ℕ) (value : T) → ShowsBy b shown holds v k value
      → ShowsBy b shown holds (record v { member = with_own v.member own known since }) k value
  own_by v own known since true k value h = h
  own_by v own known since false k value h = h

  -- whatever becomes of its own data and of the count
  pub keeps_own : {J : Type 0} (v p : LocalModel T J) → v ≡ p → (m : LocalState J) (own : Participant) (known since : ℕ) → m ≡ with_own v.member own known since
      → KeepsShown (Shows shown holds p) (Shows shown holds (record v { member = m }))
  keeps_own v p is m own known since changed = keeps_from v p (record v { member = m }) is (λ k value h.
      subst (λ (x : LocalState _). Shows shown holds (record v { member = x }) k value) (sym changed)
      (own_by v own known since (is_lone v.member) k value h))
