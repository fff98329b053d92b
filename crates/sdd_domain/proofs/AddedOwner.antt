-- What one owner more of an item is for a lone participant's world
use Rattle.std.proofs.Common.{◌≡◌, ℕ, ◌+◌, ◌^◌, ◌<◌, Bool, true, false, IsTrue, List, Some, sym, refl, ap, ◌∙◌, subst, arith}
use Rattle.std.specs.Prelude.{MatchResult, Result, Ok, Err}
use base.Stored.{Gv}
use Rattle.sdd_core.specs.declared.refused.Refused.{Refused}
use Rattle.sdd_core.specs.declared.refused.Refused.TheVariants.{TooManyOwners}
use Rattle.sdd_participants.specs.declared.standing.Standing.TheVariants.{Shared}
use Rattle.sdd_rights.specs.declared.right.Right.{Right}
use Rattle.sdd_world_model.specs.Slots.{IsSharedBy}
use Rattle.sdd_domain_invariant.specs.Codes.{alive, counted}
use Rattle.sdd_domain_invariant.proofs.Codes.{some_left}
use Rattle.sdd_world_model.specs.OwnerOrCell.{OwnerOrCell}
use Rattle.sdd_world_model.specs.Out.{is_out}
use Rattle.sdd_space.specs.Ptr.{KeepsShown}
use Rattle.sdd_space.specs.Undisturbed.{Undisturbed}
use Rattle.sdd_world_model.specs.World.{World, standing_at, value_at}
use Rattle.sdd_world_model.specs.WorldChanges.{with_standing}
use Rattle.sdd_world_model.specs.WorldInvariant.{IsWhole}
use Rattle.sdd_world_model.proofs.PlacesMatchStates.{Whole-restands}
use Rattle.sdd_domain_steps.specs.Items.{IsSameOwner}
use Rattle.sdd_domain_steps.specs.Local.{LocalModel, world_of}
use Rattle.sdd_domain_steps.specs.LocalState.{AddsAt, HasMost, IsLone, KnowsOwner, LocalState, word_of}
use Rattle.sdd_domain_core.specs.Sound.{IsSound}
use Rattle.sdd_domain_core.specs.Space.{ShowsBy, Shows, is_lone, caller_of, known_of}
use Rattle.sdd_domain_core.specs.Space as space
use Rattle.sdd_domain_steps.specs.SpaceIds.{home_in}
use Rattle.sdd_domain_steps.specs.WordsAndValues.{AreTied, WordsMatchValues, is_plain_word}
use Rattle.sdd_domain_core.proofs.GuardCalls.{lone_is}
use Rattle.sdd_domain_core.proofs.OwnerLooks.{few_owners, low, rewritten, stands, tied_recounted, value_recounted, world_recounted}
use Rattle.sdd_domain_core.proofs.Refusals.{IsBack, back_keeps, back_sound, back_tied, back_world, words_only, words_undisturbed}
use Rattle.sdd_domain_core.proofs.Sound.{sound_then}
use Rattle.sdd_domain_core.proofs.Words.{counts_of, plain_more}

module _ {T J : Type 0} (v : LocalModel T J) (m : LocalState J) (k : ℕ) (tied : WordsMatchValues v.member v.entries)
    (recalled : IsLone v.member → (g : Gv) × KnowsOwner v.member k true g) where
  abbrev later : LocalModel T J
  later = record { member = m; entries = v.entries }

  -- so many owners its word tells
  abbrev owners : ℕ
  owners = alive (word_of v.member k)

  stands_before : IsLone v.member → standing_at (world_of v) k ≡ Some (Shared owners)
  stands_before lone = let told = recalled lone in stands v (tied lone) k true told.0 told.1

  pub shared_before : IsLone v.member → IsSharedBy owners (standing_at (world_of v) k)
  shared_before lone = let told = recalled lone in let some = told.1.alive in record {
    shared = stands_before lone;
    some = omega arith;
    most = few_owners v (tied lone) k true told.0 told.1 refl;
  }

  -- ---- one came
  module _ (word : ℕ) (is : AddsAt k word v.member m) where
    pub added_only : m ≡ record v.member { words = m.words }
    added_only = words_only m v.member (rewritten v k (word + 1)).words is.member

    lone_then : IsLone m → IsLone v.member
    lone_then one = sym (ap (λ (y : LocalState J). y.limits.participants) added_only) ∙ one

    module _ (lone : IsLone v.member) where
      -- the word then
      more_now : (counted (word + 1) ≡ 1) × (alive (word + 1) ≡ owners + 1) × IsTrue (is_plain_word (word + 1))
      more_now = let told = recalled lone in
          let plain = subst (λ (x : ℕ). IsTrue (is_plain_word x)) (is.lone lone) ((tied lone).plain k (low v (tied lone) k true told.0 told.1)) in
          let c = counts_of word plain is.counted in let c0 = c.0 in let c2 = c.2 in let found = ap alive (is.lone lone) in
          let l = some_left (word + 1) (omega arith) in let l0 = l.0 in (l.3, omega arith, plain_more word plain is.counted is.few)

      more_lives : 0 < alive (word + 1)
      more_lives = let l = more_now.1 in omega arith

      pub few_before : owners < 2 ^ 62
      few_before = let found = ap alive (is.lone lone) in let few = is.few in omega arith

      pub added_tied_then : AreTied m v.entries
      added_tied_then = let told = recalled lone in subst (λ (y : LocalState J). AreTied y v.entries) (sym is.member)
          (tied_recounted v (tied lone) k true told.0 told.1 (word + 1) more_lives more_now.2)

      pub added_world : world_of later ≡ with_standing (world_of v) k (Shared (owners + 1))
      added_world = let told = recalled lone in ap (λ (y : LocalState J). world_of (record { member = y; entries = v.entries })) is.member
          ∙ world_recounted v (tied lone) k true told.0 told.1 (word + 1) more_lives more_now.2 more_now.0 (owners + 1) more_now.1

      added_value : (i : ℕ) (u : T) → value_at (world_of v) i ≡ Some u → value_at (world_of later) i ≡ Some u
      added_value i u was = let told = recalled lone in
          ap (λ (y : LocalState J). value_at (world_of (record { member = y; entries = v.entries })) i) is.member
          ∙ value_recounted v (tied lone) k true told.0 told.1 (word + 1) more_lives more_now.2 i u was

    pub added_tied : WordsMatchValues m v.entries
    added_tied one = added_tied_then (lone_then one)

    pub added_sound : (holds : T → List OwnerOrCell) → IsSound holds v → IsSound holds later
    added_sound holds sound = sound_then holds v m sound (ap (λ (y : LocalState J). y.due) added_only ∙ sound.settled)
        (ap (λ (y : LocalState J). y.slots.closes) added_only ∙ sound.closes) (ap home_in added_only)
        (λ one. let lone = lone_then one in subst (λ (w : World T). IsWhole w) (sym (added_world lone))
        (Whole-restands (world_of v) k (Shared (owners + 1)) (ap is_out (stands_before lone)) refl (sound.whole lone)))

    added_by : (shown : T → Gv) (holds : T → List OwnerOrCell) (b : Bool) → (IsTrue b → IsLone v.member) → (i : ℕ) (u : T) → ShowsBy b shown holds v i u
        → ShowsBy b shown holds later i u
    added_by shown holds true lone i u h = added_value (lone refl) i u h
    added_by shown holds false lone i u h = subst (λ (y : LocalState J). space.SeesValue shown holds y i u) (sym added_only) h

    pub added_keeps : (shown : T → Gv) (holds : T → List OwnerOrCell) → KeepsShown (Shows shown holds v) (Shows shown holds later)
    added_keeps shown holds i u h = subst (λ (b : Bool). ShowsBy b shown holds later i u) (ap is_lone (sym added_only))
        (added_by shown holds (is_lone v.member) (λ exact. lone_is v.member exact) i u h)

  -- ---- none came
  most_back : (word : ℕ) → HasMost k word v.member m → IsBack v m v.entries
  most_back word is = record {
    only = words_only m v.member (rewritten v k is.member.0).words is.member.1;
    same = λ lone. (is.lone lone).1;
    entries = refl;
  }

  many_before : (word : ℕ) → HasMost k word v.member m → IsLone v.member → owners ≡ 2 ^ 62
  many_before word is lone = let found = ap alive (is.lone lone).0 in let many = is.many in let most = (shared_before lone).most in omega arith

  -- ---- for an answer
  module _ (right : Right) where
    abbrev pub Answers : Result Right Refused → Type 0
    Answers r = (word : ℕ) × MatchResult r (λ other. AddsAt k word v.member m × IsSameOwner right other)
        (λ e. (e ≡ TooManyOwners) × HasMost k word v.member m)

    pub answered_tied : (r : Result Right Refused) → Answers r → WordsMatchValues m v.entries
    answered_tied (Ok other) a = added_tied a.0 a.1.0
    answered_tied (Err e) a = back_tied v m v.entries (most_back a.0 a.1.1) tied

    pub answered_sound : (holds : T → List OwnerOrCell) (r : Result Right Refused) → Answers r → IsSound holds v → IsSound holds later
    answered_sound holds (Ok other) a sound = added_sound a.0 a.1.0 holds sound
    answered_sound holds (Err e) a sound = back_sound v m v.entries (most_back a.0 a.1.1) holds sound

    answered_only : (r : Result Right Refused) → Answers r → m ≡ record v.member { words = m.words }
    answered_only (Ok other) a = added_only a.0 a.1.0
    answered_only (Err e) a = (most_back a.0 a.1.1).only

    answered_keeps : (shown : T → Gv) (holds : T → List OwnerOrCell) (r : Result Right Refused) → Answers r
        → KeepsShown (Shows shown holds v) (Shows shown holds later)
    answered_keeps shown holds (Ok other) a = added_keeps a.0 a.1.0 shown holds
    answered_keeps shown holds (Err e) a = back_keeps v m v.entries (most_back a.0 a.1.1) shown holds

    module _ (p : LocalModel T J) (same : v ≡ p) where
      pub answered_undisturbed : (shown : T → Gv) (holds : T → List OwnerOrCell) (r : Result Right Refused) → Answers r
          → Undisturbed caller_of (λ (q : LocalModel T J). q.member.own) known_of (λ (q : LocalModel T J). Shows shown holds q) p later
      answered_undisturbed shown holds r a = words_undisturbed v m (answered_only r a) shown holds p same (answered_keeps shown holds r a)

      pub answered_exact : (r : Result Right Refused) → Answers r → IsTrue (is_lone p.member)
          → (n : ℕ) × IsSharedBy n (standing_at (world_of p) k) × MatchResult r
          (λ _. (n < 2 ^ 62) × (world_of later ≡ with_standing (world_of p) k (Shared (n + 1))))
          (λ e. (n ≡ 2 ^ 62) × (e ≡ TooManyOwners) × (world_of later ≡ world_of p))
      answered_exact r a exact = let lone : IsLone v.member = lone_is v.member (subst (λ (q : LocalModel T J). IsTrue (is_lone q.member)) (sym same) exact) in (
        owners,
        subst (λ (q : LocalModel T J). IsSharedBy owners (standing_at (world_of q) k)) same (shared_before lone),
        by r a lone,
      )
        where
          by : (r : Result Right Refused) → Answers r → IsLone v.member → MatchResult r
              (λ _. (owners < 2 ^ 62) × (world_of later ≡ with_standing (world_of p) k (Shared (owners + 1))))
              (λ e. (owners ≡ 2 ^ 62) × (e ≡ TooManyOwners) × (world_of later ≡ world_of p))
          by (Ok other) a lone = (
            few_before a.0 a.1.0 lone,
            added_world a.0 a.1.0 lone ∙ ap (λ (q : LocalModel T J). with_standing (world_of q) k (Shared (owners + 1))) same,
          )
          by (Err e) a lone = (
            many_before a.0 a.1.1 lone,
            a.1.0,
            back_world v m v.entries (most_back a.0 a.1.1) lone ∙ ap world_of same,
          )
