-- The world of a lone participant is whole, and each call leaves it so
use Rattle.std.proofs.Common.{◌≡◌, ◌+◌, inl, inr, ℕ, zero, suc, Bool, true, false, IsTrue, List, [], ◌∷◌, None, Some, map, replicate, slice_index_or, sym, refl, ap, ◌∙◌, subst, eq-eqb, arith, ◌⊎◌, ◌↔◌, ⊎_elim, nat_lt, length, set, length-set, get_or-set_same, get_or-set_other}
use Rattle.std.specs.Prelude.{option_map, if◌then◌else◌, ◌==◌, Option, Result, Ok, Err, is_some, sum_by, count_by}
use Rattle.std.proofs.lemmas.List.{length-replicate, get_or_past}
use mathlib.Core.Logic.{dite}
use native.Mathlib.Decide.{ℕ_discrete, dec_lt}
use Rattle.sdd_shared_values.specs.SharedValues.{showing}
use Rattle.std.proofs.lemmas.Bool.Decides.{nat_tests}
use base.Stored.{Gv}
use denote.RattleType.{RattleType}
use Rattle.atomic_table.specs.Seated.{TableId}
use Rattle.sdd_core.specs.declared.refused.Refused.{Refused}
use Rattle.sdd_rights.specs.declared.right.StandingKind.{StandingKind}
use Rattle.sdd_rights.specs.declared.right.StandingKind.TheVariants as kinds
use Rattle.sdd_rights.specs.declared.right.Right.{Right}
use Rattle.sdd_rights.specs.StandingKind.{is_shared}
use Rattle.sdd_rights.specs.Right.{number_of, kind_of}
use Rattle.sdd_world_model.specs.Slots.{first_standing, is_waiting}
use Rattle.sdd_participants.specs.PlaceStates.{is_live}
use Rattle.sdd_participants.specs.EpochState.{EpochState, IsLive, newcomer}
use Rattle.sdd_participants.specs.EpochState as time
use Rattle.sdd_participants.specs.declared.place_states.PlaceState.TheVariants.{Live}
use Rattle.sdd_participants.specs.declared.standing.Standing.{Standing}
use Rattle.sdd_participants.specs.declared.tally.Tally.{Tally}
use Rattle.sdd_participants.specs.declared.participant.Participant.{Participant}
use Rattle.sdd_rights.specs.declared.views.SlotsView.{SlotsView}
use Rattle.sdd_core.specs.declared.limits.Limits.{Limits}
use Rattle.sdd_world_model.specs.OwnerOrCell.{SpaceId, OwnerOrCell, AreOf}
use Rattle.sdd_world_model.specs.World.{World, AnyGuardOpen, standing_at}
use Rattle.sdd_world_model.specs.WorldStep.{IsFirst}
use Rattle.sdd_world_model.specs.WorldChanges.{opened}
use Rattle.sdd_world_model.specs.WorldInvariant.{IsWhole, KeepsUp, PlacesMatchStates, times_with, jobs_with, once_if}
use Rattle.sdd_world_model.proofs.OwnerCounts.{blank-at}
use Rattle.sdd_world_model.proofs.AcceleratedReclaim.{AllClosed, all-closed, not-guarded}
use Rattle.sdd_world_model.proofs.PlacesMatchStates.{Whole-opened, Whole-made_as, Whole-owner_given, live-taken}
use Rattle.sdd_domain_steps.specs.SpaceIds.{home_in}
use Rattle.sdd_domain_steps.specs.LocalState.{LocalState, word_of, IsLone, IsNew, MakesAt, OwnerGoes, KnowsOwner}
use Rattle.sdd_domain_steps.specs.WordsAndValues.{Entries, WordsMatchValues}
use Rattle.sdd_domain_steps.specs.Local.{LocalModel, IsBlankAlone, value_in, world_of}
use Rattle.sdd_domain_core.specs.Space.{ShowsBy, Shows, is_lone}
use Rattle.sdd_domain_core.proofs.Listings.{listing_at, listing_past}
use Rattle.sdd_domain_core.specs.Laws.{own_is_place}
use Rattle.sdd_domain_core.specs.Sound.{IsSound}
use Rattle.sdd_domain_core.proofs.MadeItem.{Answers, makes_world}
use Rattle.sdd_domain_core.proofs.OwnerLooks.{went_closes, went_due, went_home, went_limits, release_world}
use Rattle.sdd_domain_core.proofs.Registered.{blank_new}

no_guards : (own : Participant) → time.is_open own ≡ false → own.guards ≡ 0
no_guards own shut = grind (arith, nat_tests, shut)

-- each place of so many alike is one of them
alike : {A : Type 0} (n q : ℕ) (x d : A) → (slice_index_or (replicate n x) q d ≡ x) ⊎ (slice_index_or (replicate n x) q d ≡ d)
alike zero q x d = inr refl
alike (suc n) zero x d = inl refl
alike (suc n) (suc q) x d = alike n q x d

live_at : (n : ℕ) → slice_index_or (map is_live (replicate (suc n) (Some Live))) n false ≡ true
live_at zero = refl
live_at (suc n) = live_at n

none_there : (A : Type 0) (n : ℕ) → map is_some (replicate {A = Option A} n None) ≡ replicate n false
none_there A zero = refl
none_there A (suc n) = ap (λ l. false ∷ l) (none_there A n)

none_taken : (A : Type 0) (n : ℕ) → count_by is_some (replicate {A = Option A} n None) ≡ 0
none_taken A zero = refl
none_taken A (suc n) = none_taken A n

first_is : (kind : StandingKind) → IsFirst (first_standing kind)
first_is kinds.Free = inl refl
first_is kinds.Owned = inl refl
first_is kinds.Raw = inl refl
first_is kinds.Shared = inr refl
first_is kinds.Retired = inl refl

pub lone_true : {J : Type 0} (m : LocalState J) → IsLone m → IsTrue (is_lone m)
lone_true m one = eq-eqb m.limits.participants 1 one

-- a participant that is the first and only one
abbrev alone_time : Limits → EpochState
alone_time most = record {
  count = 0;
  marked = false;
  places = newcomer (most.slots + most.jobs) ∷ [];
  phases = Some Live ∷ [];
  participants = most.participants;
  nesting = most.nesting;
  room = most.slots + most.jobs;
}

alone_abreast : (most : Limits) (p : ℕ) → KeepsUp 0 (time.place_at (alone_time most) p)
alone_abreast most zero = record {
  found = omega arith;
  near = λ opens. absurd cc;
  young = λ k d l. absurd (omega arith);
  countdown = omega arith;
  quiet = λ _.
      refl;
}
alone_abreast most (suc p) = record {
  found = omega arith;
  near = λ opens. absurd cc;
  young = λ k d l. absurd (omega arith);
  countdown = omega arith;
  quiet = λ
      _. refl;
}

alone_shut : (most : Limits) (p : ℕ) → IsTrue (time.is_open (time.place_at (alone_time most) p)) → time.phase_at (alone_time most) p ≡ Some Live
alone_shut most zero opens = absurd cc
alone_shut most (suc p) opens = absurd cc

alone_bare : (most : Limits) (p : ℕ) → time.phase_at (alone_time most) p ≡ None → (time.place_at (alone_time most) p).bags.waiting ≡ []
alone_bare most zero none = refl
alone_bare most (suc p) none = refl

none-some : {A : Type 0} {x : A} → ◌≡◌ {A = Option A} None (Some x) → ⊥
none-some e = cc

value_in_entry : {A B : Type 0} (x y : A × B) → Some x ≡ Some y → x.0 ≡ y.0
value_in_entry x y e = ap (λ (o : Option (_ × _)). entry_or x o) e
  where
    entry_or : {A B : Type 0} → A × B → Option (A × B) → A
    entry_or d None = d.0
    entry_or d (Some e) = e.0

module _ {T : Type 0} where
  pub lives : {J : Type 0} (p : LocalModel T J) → IsLive (world_of p).time p.member.place
  lives p = ((let e = length-replicate (suc p.member.place) p.member.own in omega arith), live_at p.member.place)

  all_shut : {J : Type 0} (p : LocalModel T J) → p.member.own.guards ≡ 0 → AllClosed (world_of p)
  all_shut p shut q = ⊎_elim (λ (e : time.place_at (world_of p).time q ≡ p.member.own). ap time.is_open e ∙ ap (nat_lt 0) shut)
      (λ (e : time.place_at (world_of p).time q ≡ time.nobody). ap time.is_open e) (alike (suc p.member.place) q p.member.own time.nobody)

  -- a guard is open in its world exactly while one of its own is
  pub shut_there : {J : Type 0} (p : LocalModel T J) → (p.member.own.guards ≡ 0) ↔ ¬ (AnyGuardOpen (world_of p))
  shut_there p = (
    (λ shut. not-guarded (world_of p) (all_shut p shut)),
    (λ quiet. no_guards p.member.own (ap time.is_open (own_is_place p) ∙ all-closed (world_of p) quiet p.member.place)),
  )

  -- after a step that leaves each world whole
  pub whole_by : {J : Type 0} (p q : LocalModel T J) (step : World T → ℕ → World T) → ((w : World T) (k : ℕ) → IsLive w.time k → IsWhole w → IsWhole (step w k))
      → world_of q ≡ step (world_of p) p.member.place → IsWhole (world_of p) → IsWhole (world_of q)
  whole_by p q step keeps same whole = subst (λ (w : World T). IsWhole w) (sym same) (keeps (world_of p) p.member.place (lives p) whole)

  whole_blank : (most : Limits) (w : World T) → IsBlankAlone most w → IsWhole w
  whole_blank most w is = record {
    filled = ap (λ (vs : List (Option T)). map is_some vs) is.values ∙ (none_there T most.slots
        ∙ sym (ap (λ (ss : List (Option Standing)). map is_some ss) is.standings ∙ none_there Standing most.slots));
    once = λ k. ap (λ (t : EpochState). sum_by (times_with k) t.places) is.time
        ∙ sym (ap (λ (ss : List (Option Standing)). once_if (is_waiting (slice_index_or ss k None))) is.standings
        ∙ ap (λ (s : Option Standing). once_if (is_waiting s)) (blank-at most.slots k));
    jobs_once = λ j. ap (λ (t : EpochState). sum_by (jobs_with j) t.places) is.time
        ∙ sym (ap (λ js. once_if (is_some (slice_index_or js j None))) is.jobs ∙ ap (λ s. once_if (is_some s)) (blank-at most.jobs j));
    abreast = λ p. subst (λ (t : EpochState). KeepsUp t.count (time.place_at t p)) (sym is.time) (alone_abreast most p);
    housed = subst (λ (t : EpochState). PlacesMatchStates t) (sym is.time) (record { lengths = refl; shut = alone_shut most; bare = alone_bare most });
    counted = λ _. let a = ap (λ (t : Tally). t.made) is.tally in let b = ap (λ (t : Tally). t.reclaimed) is.tally in
        let c = ap (λ (t : Tally). t.in_place) is.tally in
        let d = ap (λ (ss : List (Option Standing)). count_by is_some ss) is.standings ∙ none_taken Standing most.slots in omega arith;
  }

  pub sound_new : {J : Type 0} (holds : T → List OwnerOrCell) (home : TableId) (gamma : ℕ) (most : Limits) (m : LocalState J) (es : Entries T)
      → IsNew home gamma most m
      → es ≡ replicate most.slots None → IsSound holds (record { member = m; entries = es })
  sound_new holds home gamma most m es is none = record {
    settled = is.due;
    closes = ap (λ (s : SlotsView). s.closes) is.slots;
    home = λ place value g there. absurd (none-some (sym (ap (λ (l : Entries T). slice_index_or l place None) none ∙ blank-at most.slots place) ∙ there));
    whole = λ one. whole_blank most (world_of (record { member = m; entries = es })) (blank_new home gamma most m es is none one);
  }

  module _ {J : Type 0} (holds : T → List OwnerOrCell) (v : LocalModel T J) (m : LocalState J) (sound : IsSound holds v) where
    -- what becomes of a participant whose entries stay
    pub sound_then : m.due ≡ [] → m.slots.closes ≡ None → home_in m ≡ home_in v.member → (IsLone m → IsWhole (world_of (record v { member = m })))
        → IsSound holds
        (record v { member = m })
    sound_then settled closes home whole = record {
      settled = settled;
      closes = closes;
      home = λ place value g there. subst (λ (h : SpaceId). AreOf h (holds value)) (sym home) (sound.home place value g there);
      whole = whole;
    }

    pub sound_step : (step : World T → ℕ → World T) → ((w : World T) (k : ℕ) → IsLive w.time k → IsWhole w → IsWhole (step w k))
        → m.due ≡ v.member.due → m.slots.closes ≡ v.member.slots.closes → home_in m ≡ home_in v.member
        → (IsLone v.member → world_of (record v { member = m }) ≡ step (world_of v) v.member.place) → IsSound holds (record v { member = m })
    sound_step step keeps due closes home same = sound_then (due ∙ sound.settled) (closes ∙ sound.closes) home
        (λ one. let lone : IsLone v.member = ap (λ (h : SpaceId). h.readers.size) (sym home) ∙ one in
        whole_by v (record v { member = m }) step keeps (same lone) (sound.whole lone))

    pub sound_release : (right : Right) (tied : WordsMatchValues v.member v.entries)
        (knows : IsLone v.member → (g : Gv) × KnowsOwner v.member (number_of right) (is_shared (kind_of right)) g)
        (last : Bool) → OwnerGoes (number_of right) (is_shared (kind_of right)) last v.member m → IsSound holds (record v { member = m })
    sound_release right tied knows last went = sound_then (went_due v m right tied knows last went ∙ sound.settled)
        (went_closes v m right tied knows last went ∙ sound.closes) (went_home v m right tied knows last went)
        (λ one. let lone : IsLone v.member = sym (ap (λ (l : Limits). l.participants) (went_limits v m right tied knows last went)) ∙ one in
        let w : World T = world_of v in
        subst (λ (u : World T). IsWhole u) (sym (release_world v m right tied knows last went v refl (lone_true v.member lone)))
        (Whole-owner_given w v.member.place (number_of right) (live-taken w.time v.member.place (lives v)) (standing_at w (number_of right)) refl
        (sound.whole lone)))

    -- an opening
    pub sound_opened : m.due ≡ [] → m.slots.closes ≡ None → home_in m ≡ home_in v.member
        → (IsLone v.member → world_of (record v { member = m }) ≡ opened holds (world_of v) v.member.place) → IsSound holds (record v { member = m })
    sound_opened due closes home same = sound_then due closes home
        (λ one. let lone : IsLone v.member = ap (λ (h : SpaceId). h.readers.size) (sym home) ∙ one in
        whole_by v (record v { member = m }) (opened holds) (Whole-opened holds) (same lone) (sound.whole lone))

-- what is shown holds what is of its home
module _ {T J : Type 0} (shown : T → Gv) (holds : T → List OwnerOrCell) (p : LocalModel T J) (sound : IsSound holds p) where
  entry_behind : (value : T) (free : Bool) (e : Option (T × Gv)) → (if free then None else option_map (λ (x : T × Gv). x.0) e) ≡ Some value
      → (g : Gv) × (e ≡ Some (value, g))
  entry_behind value true e is = absurd (none-some is)
  entry_behind value false None is = absurd (none-some is)
  entry_behind value false (Some x) is = (x.1, ap (λ (o : Option T). Some (some_or x.0 o, x.1)) is)
    where
      some_or : {A : Type 0} → A → Option A → A
      some_or d None = d
      some_or d (Some y) = y

  held_by : (b : Bool) (k : ℕ) (value : T) → ShowsBy b shown holds p k value → AreOf (home_in p.member) (holds value)
  held_by false k value h = h.home
  held_by true k value h = dite (dec_lt k p.member.limits.slots)
      (λ low. let e = entry_behind value (word_of p.member k == 0) (slice_index_or p.entries k None)
      (sym (listing_at p.member.limits.slots (value_in p) k None low) ∙ h) in sound.home k value e.0 e.1)
      (λ past. absurd (none-some (sym (listing_past p.member.limits.slots (value_in p) k None (omega arith)) ∙ h)))

  pub held_at_home : (k : ℕ) (value : T) → Shows shown holds p k value → AreOf (home_in p.member) (holds value)
  held_at_home k value h = held_by (is_lone p.member) k value h

-- what is in the ghost values once a value was entered is of the home
module _ {J : Type 0} (R : RattleType) (holds : R.Denot → List OwnerOrCell) (v : LocalModel R.Denot J) (m : LocalState J) (es : Entries R.Denot) where
  pub entered_home : (k : ℕ) (x : R.Denot) → es ≡ set v.entries k (Some (x, showing R x)) → AreOf (home_in m) (holds x) → home_in m ≡ home_in v.member
      → IsSound holds v → (place : ℕ) (value : R.Denot) (g : Gv) → slice_index_or es place None ≡ Some (value, g) → AreOf (home_in m) (holds value)
  entered_home k x e at home sound place value g there = let is : slice_index_or (set v.entries k (Some (x, showing R x))) place None ≡ Some (value, g)
      = sym (ap (λ (l : Entries R.Denot). slice_index_or l place None) e) ∙ there in dite (ℕ_discrete place k)
      (λ same. dite (dec_lt k (length v.entries))
      (λ low. subst (λ (y : R.Denot). AreOf (home_in m) (holds y))
      (value_in_entry (x, showing R x) (value, g) (sym (ap (λ (j : ℕ). slice_index_or (set v.entries k (Some (x, showing R x))) j None) same
      ∙ get_or-set_same v.entries k (Some (x, showing R x)) None low) ∙ is)) at)
      (λ past. absurd (none-some (sym (ap (λ (j : ℕ). slice_index_or (set v.entries k (Some (x, showing R x))) j None) same
      ∙ get_or_past (set v.entries k (Some (x, showing R x))) k None (let l = length-set v.entries k (Some (x, showing R x)) in omega arith)) ∙ is))))
      (λ ne. subst (λ (h : SpaceId). AreOf h (holds value)) (sym home)
      (sound.home place value g (sym (get_or-set_other v.entries k place (Some (x, showing R x)) None ne) ∙ is)))

-- once an item was made
module _ {J : Type 0} (R : RattleType) (holds : R.Denot → List OwnerOrCell) (v : LocalModel R.Denot J) (m : LocalState J) (es : Entries R.Denot)
    (kind : StandingKind) where
  pub sound_makes : (x : R.Denot) (k : ℕ) → MakesAt k (is_shared kind) (showing R x) v.member m → es ≡ set v.entries k (Some (x, showing R x))
      → AreOf (home_in v.member) (holds x) → WordsMatchValues v.member v.entries → IsSound holds v → IsSound holds (record { member = m; entries = es })
  sound_makes x k makes entered at tied sound = let home : home_in m ≡ home_in v.member = ap home_in makes.member in record {
    settled = ap (λ (z : LocalState J). z.due) makes.member ∙ sound.settled;
    closes = ap (λ (z : LocalState J). z.slots.closes) makes.member ∙ sound.closes;
    home = entered_home R holds v m es k x entered (subst (λ (h : SpaceId). AreOf h (holds x)) (sym home) at) home sound;
    whole = λ one. let lone : IsLone v.member = sym (ap (λ (z : LocalState J). z.limits.participants) makes.member) ∙ one in
        let w = makes_world R v m es kind x k makes entered tied lone in
        subst (λ (u : World R.Denot). IsWhole u) (sym w.1)
        (Whole-made_as (world_of v) k x (first_standing kind) (first_is kind) w.0 (sound.whole lone));
  }

  -- for an answer of `make`
  module _ {B : Type 0} (P : R.Denot → Type 0) (Back Why : B × Refused → Type 0) where
    pub sound_made : (r : Result Right (B × Refused)) → Answers R v m es kind P Back Why r → ((x : R.Denot) → P x → AreOf (home_in v.member) (holds x))
        → WordsMatchValues v.member v.entries → IsSound holds v → IsSound holds (record { member = m; entries = es })
    sound_made (Ok right) a at tied sound = sound_makes a.0 (number_of right) a.2 a.4 (at a.0 a.1) tied sound
    sound_made (Err e) a at tied sound = subst (λ (p : LocalModel R.Denot J). IsSound holds p) (λ d. record { member = sym a.1 d; entries = sym a.4 d }) sound
