-- A collector was given up, or came back: what that is for who gave it
use Rattle.std.proofs.Common.{◌≡◌, ◌≢◌, ℕ, Bool, true, false, IsTrue, List, Some, None, slice_index_or, sym, refl, ap, ◌∙◌, subst}
use Rattle.std.specs.Prelude.{[], IfErr, IfOk, MatchResult, Result, Ok, Err}
use base.Stored.{Gv}
use Rattle.sdd_core.specs.declared.refused.Refused.{Refused}
use Rattle.sdd_core.specs.declared.refused.Refused.TheVariants.{GuardOpen}
use Rattle.sdd_participants.specs.declared.standing.Standing.TheVariants.{Private}
use Rattle.sdd_world_model.specs.Collecting.{collector_closed}
use Rattle.sdd_world_model.specs.OwnerOrCell.{OwnerOrCell, AreOf}
use Rattle.sdd_world_model.specs.Out.{IsNullCell}
use Rattle.sdd_world_model.specs.ParticipantChanges.{IsCollected}
use Rattle.sdd_space.specs.Ptr.{KeepsShown}
use Rattle.sdd_world_model.specs.World.{World, AnyGuardOpen, standing_at, value_at}
use Rattle.sdd_world_model.specs.WorldInvariant.{IsWhole}
use Rattle.sdd_world_model.proofs.Collecting.{collected-ends}
use Rattle.sdd_world_model.proofs.PlacesMatchStates.{Whole-collector_closed, live-taken}
use Rattle.sdd_domain_steps.specs.Local.{LocalModel, world_of}
use Rattle.sdd_domain_steps.specs.LocalState.{HasOpenGuard, IsLone}
use Rattle.sdd_domain_core.specs.Reclaiming.{rest_of}
use Rattle.sdd_domain_core.specs.Sound.{IsSound}
use Rattle.sdd_domain_core.specs.Space.{ShowsBy, Shows, is_lone, caller_of}
use Rattle.sdd_domain_core.specs.Space as space
use Rattle.sdd_domain_steps.specs.SpaceIds.{home_in}
use Rattle.sdd_domain_core.proofs.InPlaceCalls.{by_either, opened_there, quiet_there}
use Rattle.sdd_domain_core.proofs.GuardCalls.{lone_is}
use Rattle.sdd_domain_core.proofs.Sound.{lives}

module _ {T J : Type 0} (holds : T → List OwnerOrCell) (p q : LocalModel T J) (c : ℕ) where
  -- it was given up, where no guard is open
  pub record IsGiven : Type 0 where
    pub own : IsCollected p.member.own q.member.own
    pub shut : ¬ (HasOpenGuard p.member)
    pub exact : IsLone p.member → IsNullCell (world_of p) c × (world_of q ≡ collector_closed holds (world_of p) p.member.place c)

  -- it came back, as one is
  pub record IsBack (e : Refused) : Type 0 where
    pub same : q ≡ p
    pub why : e ≡ GuardOpen
    pub guarded : IsLone p.member → HasOpenGuard p.member

  module _ {A X : Type 0} (x : X) where
    abbrev pub Answers : Result A (X × Refused) → Type 0
    Answers r = MatchResult r (λ _. IsGiven) (λ e. IsBack e.1)

    pub answers : (r : Result A (X × Refused)) → MatchResult r (λ _. IsCollected p.member.own q.member.own) (λ _. q ≡ p)
        → IfOk r (λ _. ¬ (HasOpenGuard p.member)) → IfErr r (λ e. (e.0 ≡ x) × (e.1 ≡ GuardOpen) × (IsLone p.member → HasOpenGuard p.member))
        → (IsLone p.member → IfOk r (λ _. IsNullCell (world_of p) c × (world_of q ≡ collector_closed holds (world_of p) p.member.place c))) → Answers r
    answers (Ok a) own shut back exact = record { own = own; shut = shut; exact = exact }
    answers (Err e) own shut back exact = record { same = own; why = back.1; guarded = back.2 }

  module _ (rest : rest_of q ≡ rest_of p) where
    pub given_caller : caller_of q ≡ caller_of p
    given_caller = ap (λ (z : LocalModel T J). caller_of z) rest

    lone_before : IsLone q.member → IsLone p.member
    lone_before one = sym (ap (λ (z : LocalModel T J). z.member.limits.participants) rest) ∙ one

    -- what its guards see they see still
    sees_still : (shown : T → Gv) (k : ℕ) (value : T) → space.SeesValue shown holds p.member k value → space.SeesValue shown holds q.member k value
    sees_still shown k value h = subst (λ (z : LocalModel T J). space.SeesValue shown holds z.member k value) (sym rest) h

    -- ---- it was given up
    module _ (given : IsGiven) (sound : IsSound holds p) (settled : (q.member.due ≡ []) × (q.member.slots.closes ≡ None)) where
      world_now : IsLone p.member → world_of q ≡ collector_closed holds (world_of p) p.member.place c
      world_now lone = (given.exact lone).1

      sound_given : IsSound holds q
      sound_given = record {
        settled = settled.0;
        closes = settled.1;
        home = λ place value g there. subst (λ (z : LocalModel T J). AreOf (home_in z.member) (holds value)) (sym rest)
            (sound.home place value g (sym (ap (λ (z : LocalModel T J). slice_index_or z.entries place None) rest) ∙ there));
        whole = λ one. let lone = lone_before one in subst (λ (w : World T). IsWhole w) (sym (world_now lone))
            (Whole-collector_closed holds (world_of p) p.member.place c (live-taken (world_of p).time p.member.place (lives p)) (sound.whole lone));
      }

      value_given : IsLone p.member → (k : ℕ) (value : T) → standing_at (world_of p) k ≢ Some (Private c) → value_at (world_of p) k ≡ Some value
          → value_at (world_of q) k ≡ Some value
      value_given lone k value other there = ap (λ (w : World T). value_at w k) (world_now lone)
          ∙ ((collected-ends holds (world_of p) (sound.whole lone) p.member.place c (lives p).0).keeps k other ∙ there)

      others_by : (shown : T → Gv) (b : Bool) → (IsTrue b → IsLone p.member) → (k : ℕ) (value : T)
          → (IsTrue b → standing_at (world_of p) k ≢ Some (Private c)) → ShowsBy b shown holds p k value → ShowsBy b shown holds q k value
      others_by shown true lone k value other h = value_given (lone refl) k value (other refl) h
      others_by shown false lone k value other h = sees_still shown k value h

    -- ---- either way
    module _ {A X : Type 0} (x : X) (r : Result A (X × Refused)) (a : Answers x r) (sound : IsSound holds p)
        (settled : (q.member.due ≡ []) × (q.member.slots.closes ≡ None)) where
      pub sound_after : IsSound holds q
      sound_after = by r a
        where
          by : (r : Result A (X × Refused)) → Answers x r → IsSound holds q
          by (Ok y) given = sound_given given sound settled
          by (Err e) back = subst (IsSound holds) (sym back.same) sound

      others_here : (shown : T → Gv) (k : ℕ) (value : T) → (IsTrue (is_lone p.member) → standing_at (world_of p) k ≢ Some (Private c))
          → Shows shown holds p k value → Shows shown holds q k value
      others_here shown k value other h = subst (λ (b : Bool). ShowsBy b shown holds q k value)
          (ap (λ (z : LocalModel T J). is_lone z.member) (sym rest)) (by r a)
        where
          by : (r : Result A (X × Refused)) → Answers x r → ShowsBy (is_lone p.member) shown holds q k value
          by (Ok y) given = others_by given sound settled shown (is_lone p.member) (λ exact. lone_is p.member exact) k value other h
          by (Err e) back = subst (λ (z : LocalModel T J). ShowsBy (is_lone p.member) shown holds z k value) (sym back.same) h

      module _ (o : LocalModel T J) (is : p ≡ o) where
        pub given_own : MatchResult r (λ _. IsCollected o.member.own q.member.own) (λ _. q.member.own ≡ o.member.own)
        given_own = by_either (λ _. IsGiven) (λ _. IsCollected o.member.own q.member.own) (λ e. IsBack e.1) (λ _. q.member.own ≡ o.member.own) r a
            (λ _ given. subst (λ (z : LocalModel T J). IsCollected z.member.own q.member.own) is given.own)
            (λ _ back. ap (λ (z : LocalModel T J). z.member.own) (back.same ∙ is))

        pub given_exact : IsTrue (is_lone o.member) → MatchResult r
            (λ _. ¬ (AnyGuardOpen (world_of o)) × IsNullCell (world_of o) c × (world_of q ≡ collector_closed holds (world_of o) o.member.place c))
            (λ e. AnyGuardOpen (world_of o) × (e.1 ≡ GuardOpen) × (world_of q ≡ world_of o))
        given_exact exact = let lone : IsLone p.member = lone_is p.member (subst (λ (z : LocalModel T J). IsTrue (is_lone z.member)) (sym is) exact) in
            subst (λ (z : LocalModel T J). MatchResult r
            (λ _. ¬ (AnyGuardOpen (world_of z)) × IsNullCell (world_of z) c × (world_of q ≡ collector_closed holds (world_of z) z.member.place c))
            (λ e. AnyGuardOpen (world_of z) × (e.1 ≡ GuardOpen) × (world_of q ≡ world_of z))) is
            (by_either (λ _. IsGiven)
            (λ _. ¬ (AnyGuardOpen (world_of p)) × IsNullCell (world_of p) c × (world_of q ≡ collector_closed holds (world_of p) p.member.place c))
            (λ e. IsBack e.1) (λ e. AnyGuardOpen (world_of p) × (e.1 ≡ GuardOpen) × (world_of q ≡ world_of p)) r a
            (λ _ given. let then = given.exact lone in (quiet_there p given.shut, then.0, then.1))
            (λ _ back. (opened_there p (back.guarded lone), back.why, ap world_of back.same)))

        pub given_others : (shown : T → Gv) (k : ℕ) (value : T) → (IsTrue (is_lone o.member) → standing_at (world_of o) k ≢ Some (Private c))
            → Shows shown holds o k value → Shows shown holds q k value
        given_others shown = subst (λ (z : LocalModel T J). (k : ℕ) (value : T)
            → (IsTrue (is_lone z.member) → standing_at (world_of z) k ≢ Some (Private c)) → Shows shown holds z k value → Shows shown holds q k value)
            is (others_here shown)

        pub given_keeps : (shown : T → Gv) → IfErr r (λ _. KeepsShown (Shows shown holds o) (Shows shown holds q))
        given_keeps shown = by r a
          where
            by : (r : Result A (X × Refused)) → Answers x r → IfErr r (λ _. KeepsShown (Shows shown holds o) (Shows shown holds q))
            by (Ok y) given = tt
            by (Err e) back = λ k value h. subst (λ (z : LocalModel T J). Shows shown holds z k value) (sym (back.same ∙ is)) h
