-- What the answer to a deferral says of a participant and of its world
use Rattle.std.proofs.Common.{◌≡◌, ◌⊎◌, ℕ, Bool, true, false, IsTrue, List, sym, refl, ap, ◌∙◌, subst, ⊎_elim, arith}
use Rattle.std.specs.Prelude.{Result, Ok, Err, MatchResult}
use base.Stored.{Gv}
use Rattle.sdd_core.specs.declared.refused.Refused.{Refused}
use Rattle.sdd_participants.specs.Slab.{IsEmptyAt, IsFull}
use Rattle.sdd_world_model.specs.OwnerOrCell.{OwnerOrCell}
use Rattle.sdd_space.specs.Ptr.{KeepsShown}
use Rattle.sdd_world_model.specs.KnownEpochs.{KnowsOn}
use Rattle.sdd_world_model.specs.World.{value_at}
use Rattle.sdd_world_model.specs.WorldChanges.{deferred}
use Rattle.sdd_world_model.specs.WorldInvariant.{IsWhole}
use Rattle.sdd_world_model.proofs.PlacesMatchStates.{Whole-deferred, live-taken}
use Rattle.sdd_domain_steps.specs.SpaceIds.{home_in}
use Rattle.sdd_domain_steps.specs.LocalState.{LocalState, IsLone, DefersTo, AllPlacesTaken}
use Rattle.sdd_domain_steps.specs.WordsAndValues.{WordsMatchValues}
use Rattle.sdd_domain_steps.specs.Local.{LocalModel, world_of}
use Rattle.sdd_domain_core.specs.Space.{ShowsBy, Shows, is_lone, known_of}
use Rattle.sdd_domain_core.specs.Space as space
use Rattle.sdd_domain_core.specs.Sound.{IsSound}
use Rattle.sdd_domain_core.proofs.GuardCalls.{lone_is}
use Rattle.sdd_domain_core.proofs.JobsTied.{tied_deferred, world_deferred, empty_before, all_taken}
use Rattle.sdd_domain_core.proofs.Sound.{lives, sound_then}

module _ {T J : Type 0} (v : LocalModel T J) (m : LocalState J) (tied : WordsMatchValues v.member v.entries) where
  abbrev after : LocalModel T J
  after = record { member = m; entries = v.entries }

  -- a job is deferred
  module _ (place count : ℕ) (job : J) (is : DefersTo place count job v.member m) where
    lone_before : IsLone m → IsLone v.member
    lone_before one = sym (ap (λ (y : LocalState J). y.limits.participants) is.member) ∙ one

    did_tied : WordsMatchValues m v.entries
    did_tied one = let lone = lone_before one in tied_deferred v (tied lone) place count job m is lone

    did_sound : (holds : T → List OwnerOrCell) → IsSound holds v → IsSound holds after
    did_sound holds sound = sound_then holds v m sound (ap (λ (y : LocalState J). y.due) is.member ∙ sound.settled)
        (ap (λ (y : LocalState J). y.slots.closes) is.member ∙ sound.closes) (ap home_in is.member)
        (λ one. let lone = lone_before one in subst (λ (w : _). IsWhole w) (sym (world_deferred v (tied lone) place count job m is lone))
        (Whole-deferred (world_of v) v.member.place place (live-taken (world_of v).time v.member.place (lives v))
        (empty_before v (tied lone) place count job m is lone) (sound.whole lone)))

    keeps_by : (shown : T → Gv) (holds : T → List OwnerOrCell) (b : Bool) → (IsTrue b → IsLone v.member) → (i : ℕ) (u : T) → ShowsBy b shown holds v i u
        → ShowsBy b shown holds after i u
    keeps_by shown holds true lone i u h = ap (λ (w : _). value_at w i) (world_deferred v (tied (lone refl)) place count job m is (lone refl)) ∙ h
    keeps_by shown holds false lone i u h = subst (λ (y : LocalState J). space.SeesValue shown holds y i u) (sym is.member) h

    did_keep : (shown : T → Gv) (holds : T → List OwnerOrCell) → KeepsShown (Shows shown holds v) (Shows shown holds after)
    did_keep shown holds i u h = subst (λ (b : Bool). ShowsBy b shown holds after i u) (ap is_lone (sym is.member))
        (keeps_by shown holds (is_lone v.member) (λ exact. lone_is v.member exact) i u h)

    did_know : KnowsOn (known_of v) (known_of after)
    did_know = record {
      told = (let k = is.knew in let e = ap (λ (y : LocalState J). y.known) is.member in omega arith);
      since = ap (λ (y : LocalState J). y.since) is.member;
    }

  module _ (job : J) where
    abbrev pub Answers : Result ℕ (J × Refused) → Type 0
    Answers r = MatchResult r (λ place. (count : ℕ) × DefersTo place count job v.member m)
        (λ e. (e.0 ≡ job) × (m ≡ v.member) × ((e.1 ≡ Refused.NoJob) ⊎ ((e.1 ≡ Refused.Contended) × ¬ (IsLone v.member)))
        × (IsLone v.member → AllPlacesTaken v.member))

    pub answered_tied : (r : Result ℕ (J × Refused)) → Answers r → WordsMatchValues m v.entries
    answered_tied (Ok place) a = did_tied place a.0 job a.1
    answered_tied (Err e) a = subst (λ (y : LocalState J). WordsMatchValues y v.entries) (sym a.1) tied

    pub answered_sound : (holds : T → List OwnerOrCell) (r : Result ℕ (J × Refused)) → Answers r → IsSound holds v → IsSound holds after
    answered_sound holds (Ok place) a sound = did_sound place a.0 job a.1 holds sound
    answered_sound holds (Err e) a sound = subst (λ (y : LocalState J). IsSound holds (record v { member = y })) (sym a.1) sound

    pub answered_keeps : (shown : T → Gv) (holds : T → List OwnerOrCell) (r : Result ℕ (J × Refused)) (p : LocalModel T J) → v ≡ p → Answers r
        → KeepsShown (Shows shown holds p) (Shows shown holds after)
    answered_keeps shown holds (Ok place) p is a i u h = did_keep place a.0 job a.1 shown holds i u
        (subst (λ (q : LocalModel T J). Shows shown holds q i u) (sym is) h)
    answered_keeps shown holds (Err e) p is a i u h = subst (λ (q : LocalModel T J). Shows shown holds q i u)
        (sym is ∙ (λ d. record { member = sym a.1 d; entries = v.entries })) h

    pub answered_knows : (r : Result ℕ (J × Refused)) (p : LocalModel T J) → v ≡ p → Answers r → KnowsOn (known_of p) (known_of after)
    answered_knows (Ok place) p is a = subst (λ (q : LocalModel T J). KnowsOn (known_of q) (known_of after)) is (did_know place a.0 job a.1)
    answered_knows (Err e) p is a = subst (λ (q : LocalModel T J). KnowsOn (known_of q) (known_of after)) is
        (subst (λ (y : LocalState J). KnowsOn (known_of v) (known_of {T = T} (record { member = y; entries = v.entries }))) (sym a.1)
        record { told = omega arith; since = refl })

    pub answered_caller : (r : Result ℕ (J × Refused)) (p : LocalModel T J) → v ≡ p → Answers r → space.caller_of after ≡ space.caller_of p
    answered_caller (Ok place) p is a = ap space.caller_in a.1.member ∙ ap space.caller_of is
    answered_caller (Err e) p is a = ap space.caller_in a.1 ∙ ap space.caller_of is

    pub answered_exact : (r : Result ℕ (J × Refused)) (p : LocalModel T J) → v ≡ p → Answers r → IsTrue (is_lone p.member)
        → MatchResult r (λ place. IsEmptyAt (world_of p).jobs place × (world_of after ≡ deferred (world_of p) p.member.place place))
        (λ e. IsFull (world_of p).jobs × (e.1 ≡ Refused.NoJob) × (world_of after ≡ world_of p))
    answered_exact (Ok place) p is a exact = let lone = lone_is v.member (subst (λ (q : LocalModel T J). IsTrue (is_lone q.member)) (sym is) exact) in (
      subst (λ (q : LocalModel T J). IsEmptyAt (world_of q).jobs place) is (empty_before v (tied lone) place a.0 job m a.1 lone),
      world_deferred v (tied lone) place a.0 job m a.1 lone ∙ ap (λ (q : LocalModel T J). deferred (world_of q) q.member.place place) is,
    )
    answered_exact (Err e) p is a exact = let lone = lone_is v.member (subst (λ (q : LocalModel T J). IsTrue (is_lone q.member)) (sym is) exact) in (
      subst (λ (q : LocalModel T J). IsFull (world_of q).jobs) is (all_taken v (tied lone) (a.3 lone)),
      ⊎_elim (λ (n : e.1 ≡ Refused.NoJob). n) (λ (n : (e.1 ≡ Refused.Contended) × ¬ (IsLone v.member)). absurd (n.1 lone)) a.2,
      ap (λ (y : LocalState J). world_of (record { member = y; entries = v.entries })) a.1 ∙ ap world_of is,
    )
