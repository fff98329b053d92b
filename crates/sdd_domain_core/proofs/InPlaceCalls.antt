-- A participant with its ghost values, once an item was changed or dropped in its place, or that was refused
use Rattle.std.proofs.Common.{◌≡◌, ◌≢◌, ◌⊎◌, ⊎_elim, inl, inr, ℕ, ◌-◌, ◌<◌, nat_lt, Bool, true, false, IsTrue, List, ◌∷◌, Some, None, set, slice_index_or, sym, refl, ap, ◌∙◌, subst, arith, get_or-set_other}
use Rattle.std.specs.Prelude.{IsErrAnd, MatchBool, MatchResult, Option, Result, Ok, Err, if◌then◌else◌, suc}
use Rattle.std.proofs.lemmas.List.{get_or-replicate, length-replicate}
use base.Stored.{Gv}
use denote.RattleType.{RattleType}
use Rattle.sdd_core.specs.declared.refused.Refused.{Refused}
use Rattle.sdd_core.specs.declared.refused.Refused.TheVariants.{Contended, GuardOpen, NotAlone}
use Rattle.sdd_participants.specs.EpochState.{is_open}
use Rattle.sdd_participants.specs.declared.participant.Participant.{Participant}
use Rattle.sdd_participants.specs.declared.standing.Standing.{Standing}
use Rattle.sdd_participants.specs.declared.standing.Standing.TheVariants.{Owned, Private, Raw, Retired, Shared}
use Rattle.sdd_rights.specs.declared.right.StandingKind.{StandingKind}
use Rattle.sdd_rights.specs.declared.right.Right.{Right}
use Rattle.sdd_rights.specs.Owner.{one-shown}
use Rattle.sdd_rights.specs.StandingKind.{is_shared}
use Rattle.sdd_rights.specs.Right.{number_of, kind_of}
use Rattle.sdd_shared_values.specs.SharedValues.{showing}
use Rattle.sdd_domain_invariant.specs.Codes.{alive}
use Rattle.sdd_world_model.specs.Slots.{IsOwnedBy, has_others}
use Rattle.sdd_world_model.specs.InPlace.{IsAlone, MayInPlace, RefusedInPlace}
use Rattle.sdd_world_model.specs.OwnerOrCell.{OwnerOrCell, AreOf}
use Rattle.sdd_world_model.specs.Out.{is_out}
use Rattle.sdd_space.specs.Ptr.{KeepsOthers, KeepsShown}
use Rattle.sdd_world_model.specs.World.{World, AnyGuardOpen, standing_at, value_at}
use Rattle.sdd_world_model.specs.WorldChanges.{dropped, owner_given, retired, with_standing, with_value}
use Rattle.sdd_world_model.specs.WorldInvariant.{IsWhole}
use Rattle.sdd_world_model.proofs.PlacesMatchStates.{Whole-dropped, Whole-owner_given, Whole-with_value, live-taken}
use Rattle.sdd_world_model.proofs.InPlace.{dropped-others}
use Rattle.sdd_domain_steps.specs.Items.{HasValue}
use Rattle.sdd_domain_steps.specs.Local.{LocalModel, world_of}
use Rattle.sdd_domain_steps.specs.LocalState.{ChangesAt, GoesBeside, HasOpenGuard, HasOthers, IsLone, KnowsOwner, KnowsUnique, LocalState, SeesGuard, with_unique, word_of}
use Rattle.sdd_domain_core.specs.Reclaiming.{counted_in_place, counted_where, kept_of}
use Rattle.sdd_domain_core.specs.Sound.{IsSound}
use Rattle.sdd_domain_core.specs.Space.{ShowsBy, Shows, is_lone}
use Rattle.sdd_domain_core.specs.Space as space
use Rattle.sdd_domain_steps.specs.SpaceIds.{home_in}
use Rattle.sdd_domain_steps.specs.WordsAndValues.{Entries, WordsMatchValues}
use Rattle.sdd_domain_core.proofs.ChangedInPlace.{tied_changed, world_changed}
use Rattle.sdd_domain_core.proofs.DroppedInPlace.{told_value}
use Rattle.sdd_domain_core.proofs.GuardCalls.{lone_is}
use Rattle.sdd_domain_core.proofs.OwnerLooks.{few_owners, more_owners, one_owner, owned_by, unique_only, some_others, stands, tied_left, world_left}
use Rattle.sdd_domain_core.proofs.Refusals.{IsBack, back_same, back_unique, back_tied, back_world}
use Rattle.sdd_domain_core.proofs.Sound.{entered_home, lives, lone_true, shut_there}

-- what follows from either answer
pub by_either : {A B : Type 0} (P P' : A → Type 0) (Q Q' : B → Type 0) (r : Result A B) → MatchResult r P Q → ((a : A) → P a → P' a)
    → ((b : B) → Q b → Q' b) → MatchResult r P' Q'
by_either P P' Q Q' (Ok a) h f g = f a h
by_either P P' Q Q' (Err b) h f g = g b h

pub by_result : {A B C : Type 0} (P : A → Type 0) (Q : B → Type 0) (r : Result A B) → MatchResult r P Q → ((a : A) → P a → C) → ((b : B) → Q b → C) → C
by_result P Q (Ok a) h f g = f a h
by_result P Q (Err b) h f g = g b h

alone_as : (shared : Bool) → IsAlone (Some (if shared then Shared 1 else Owned))
alone_as true = inr refl
alone_as false = inl refl

out_as : (n : ℕ) (shared : Bool) → is_out (Some (if shared then Shared n else Owned)) ≡ true
out_as n true = refl
out_as n false = refl

is_opened : (own : Participant) → 0 < own.guards → IsTrue (is_open own)
is_opened own some_open = grind arith

-- an own guard is one of the world's
pub opened_there : {T J : Type 0} (p : LocalModel T J) → HasOpenGuard p.member → AnyGuardOpen (world_of p)
opened_there p some_open = (
  p.member.place,
  p.member.own,
  (let e = length-replicate (suc p.member.place) p.member.own in omega arith),
  get_or-replicate (suc p.member.place) p.member.place p.member.own p.member.own (omega arith),
  is_opened p.member.own some_open,
)

pub quiet_there : {T J : Type 0} (p : LocalModel T J) → ¬ (HasOpenGuard p.member) → ¬ (AnyGuardOpen (world_of p))
quiet_there p shut = (shut_there p).0 (omega (arith, shut))

-- the item of an owner, of which a lone participant knows
module _ {T J : Type 0} (v p : LocalModel T J) (same : v ≡ p) (tied : WordsMatchValues v.member v.entries) (k : ℕ) (kind : StandingKind)
    (recalled : IsLone v.member → (g : Gv) × KnowsOwner v.member k (is_shared kind) g) where
  pub lone_before : IsTrue (is_lone p.member) → IsLone v.member
  lone_before exact = lone_is v.member (subst (λ (q : LocalModel T J). IsTrue (is_lone q.member)) (sym same) exact)

  -- so many owners its word tells
  abbrev owners : ℕ
  owners = alive (word_of v.member k)

  stands_there : IsTrue (is_lone p.member) → standing_at (world_of p) k ≡ Some (if is_shared kind then Shared owners else Owned)
  stands_there exact = let lone = lone_before exact in let told = recalled lone in
      ap (λ (q : LocalModel T J). standing_at (world_of q) k) (sym same) ∙ stands v (tied lone) k (is_shared kind) told.0 told.1

  pub owned_there : IsTrue (is_lone p.member) → IsOwnedBy kind (standing_at (world_of p) k)
  owned_there exact = let lone = lone_before exact in let told = recalled lone in subst (IsOwnedBy kind) (sym (stands_there exact))
      (owned_by kind owners told.1.alive (few_owners v (tied lone) k (is_shared kind) told.0 told.1))

  pub out_there : IsTrue (is_lone p.member) → is_out (standing_at (world_of p) k) ≡ true
  out_there exact = ap is_out (stands_there exact) ∙ out_as owners (is_shared kind)

  -- it has others, or is alone
  pub others_there : is_shared kind ≡ true → (IsLone v.member → 1 < owners) → IsTrue (is_lone p.member) → IsTrue (has_others (standing_at (world_of p) k))
  others_there several more exact = ap has_others (stands_there exact) ∙ some_others owners (is_shared kind) several (more (lone_before exact))

  pub alone_there : KnowsUnique v.member k (is_shared kind) → IsTrue (is_lone p.member) → IsAlone (standing_at (world_of p) k)
  alone_there unique exact = let lone = lone_before exact in let told = recalled lone in let one : owners ≡ 1
      = one_owner (word_of v.member k) (is_shared kind) told.1.alive told.1.kind (unique lone) in
      subst IsAlone (sym (stands_there exact ∙ ap (λ (n : ℕ). Some (if is_shared kind then Shared n else Owned)) one)) (alone_as (is_shared kind))

  -- the owner isn't alone, or a guard is open: what that leaves, and why it is refused
  module _ (m : LocalState J) (es : Entries T) (set_is : es ≡ v.entries) where
    abbrev pub Hinders : Refused → Type 0
    Hinders e = ((e ≡ NotAlone) × HasOthers k (is_shared kind) v.member m) ⊎ ((e ≡ GuardOpen) × SeesGuard k (is_shared kind) v.member m)

    pub sees_back : SeesGuard k (is_shared kind) v.member m → IsBack v m es
    sees_back sees = back_unique v m es k (is_shared kind) sees.same sees.unique set_is

    pub hindered_back : (e : Refused) → Hinders e → IsBack v m es
    hindered_back e = ⊎_elim (λ (h : (e ≡ NotAlone) × HasOthers k (is_shared kind) v.member m). back_same v m es h.1.same set_is)
        (λ (h : (e ≡ GuardOpen) × SeesGuard k (is_shared kind) v.member m). sees_back h.1)

    pub guarded_there : SeesGuard k (is_shared kind) v.member m → IsTrue (is_lone p.member)
        → IsAlone (standing_at (world_of p) k) × AnyGuardOpen (world_of p)
    guarded_there sees exact = (
      alone_there sees.unique exact,
      opened_there p (subst (λ (q : LocalModel T J). HasOpenGuard q.member) same (sees.guarded (lone_before exact))),
    )

    pub hindered_there : (e : Refused) → Hinders e → IsTrue (is_lone p.member) → RefusedInPlace (world_of p) k e
    hindered_there e h exact = ⊎_elim
        (λ (o : (e ≡ NotAlone) × HasOthers k (is_shared kind) v.member m).
        inl (others_there o.1.several (λ lone. (o.1.counted lone).1) exact, o.0))
        (λ (o : (e ≡ GuardOpen) × SeesGuard k (is_shared kind) v.member m). let there = guarded_there o.1 exact in inr (there.0, there.1, o.0)) h

  -- it goes beside others
  module _ (m : LocalState J) (beside : GoesBeside k (is_shared kind) v.member m) where
    lone_leaves : IsLone m → IsLone v.member
    lone_leaves one = sym (ap (λ (y : LocalState J). y.limits.participants) beside.leaves.member) ∙ one

    pub beside_tied : WordsMatchValues m v.entries
    beside_tied one = let lone = lone_leaves one in let told = recalled lone in
        tied_left v m k (is_shared kind) told.0 beside.word beside.leaves lone (tied lone) told.1

    pub beside_others : IsTrue (is_lone p.member) → IsTrue (has_others (standing_at (world_of p) k))
    beside_others exact = let lone = lone_before exact in let told = recalled lone in others_there beside.several
        (λ lone. more_owners v m k (is_shared kind) told.0 beside.word beside.leaves lone (tied lone) told.1) exact

    pub beside_world : IsTrue (is_lone p.member)
        → world_of (record { member = m; entries = v.entries }) ≡ owner_given (world_of p) p.member.place k (standing_at (world_of p) k)
    beside_world exact = let lone = lone_before exact in let told = recalled lone in
        world_left v m k (is_shared kind) told.0 beside.word beside.leaves lone (tied lone) told.1
        ∙ ap (λ (q : LocalModel T J). owner_given (world_of q) q.member.place k (standing_at (world_of q) k)) same

  -- the last one doesn't go where a guard is open, or, where others share its domain, where those come and go
  module _ (m : LocalState J) where
    abbrev pub Stays : Refused → Type 0
    Stays e = ((e ≡ GuardOpen) × SeesGuard k (is_shared kind) v.member m)
        ⊎ ((e ≡ Contended) × (m ≡ v.member) × (is_shared kind ≡ true) × ¬ (IsLone v.member))

    stays_back : (e : Refused) → Stays e → IsBack v m v.entries
    stays_back e = ⊎_elim (λ (h : (e ≡ GuardOpen) × SeesGuard k (is_shared kind) v.member m). sees_back m v.entries refl h.1)
        (λ (h : (e ≡ Contended) × (m ≡ v.member) × (is_shared kind ≡ true) × ¬ (IsLone v.member)). back_same v m v.entries h.1 refl)

    pub stays_tied : (e : Refused) → Stays e → WordsMatchValues m v.entries
    stays_tied e h = back_tied v m v.entries (stays_back e h) tied

    pub stays_there : (e : Refused) → Stays e → IsTrue (is_lone p.member) → IsAlone (standing_at (world_of p) k) × HasOpenGuard p.member
        × (e ≡ GuardOpen) × (world_of (record { member = m; entries = v.entries }) ≡ world_of p)
    stays_there e h exact = let lone = lone_before exact in ⊎_elim
        (λ (h : (e ≡ GuardOpen) × SeesGuard k (is_shared kind) v.member m). (
          alone_there h.1.unique exact,
          subst (λ (q : LocalModel T J). HasOpenGuard q.member) same (h.1.guarded lone),
          h.0,
          back_world v m v.entries (sees_back m v.entries refl h.1) lone ∙ ap world_of same,
        ))
        (λ (h : (e ≡ Contended) × (m ≡ v.member) × (is_shared kind ≡ true) × ¬ (IsLone v.member)). absurd (h.3 lone)) h

-- an item was changed
module _ {J : Type 0} (R : RattleType) (holds : R.Denot → List OwnerOrCell) (v p : LocalModel R.Denot J) (same : v ≡ p)
    (tied : WordsMatchValues v.member v.entries)
    (codes : (place : ℕ) (y : R.Denot) (g : Gv) → slice_index_or v.entries place None ≡ Some (y, g) → g ≡ showing R y)
    (right : Right) (kind : StandingKind)
    (recalled : IsLone v.member → (g : Gv) × HasValue g right × KnowsOwner v.member (number_of right) (is_shared kind) g)
    (was now : R.Denot) (has : HasValue (showing R was) right) (m : LocalState J) (es : Entries R.Denot)
    (is : ChangesAt (number_of right) (is_shared kind) (showing R now) v.member m)
    (set_is : es ≡ set v.entries (number_of right) (Some (now, showing R now))) where
  abbrev after : LocalModel R.Denot J
  after = record { member = m; entries = es }

  abbrev known : IsLone v.member → (g : Gv) × KnowsOwner v.member (number_of right) (is_shared kind) g
  known lone = let told = recalled lone in (told.0, told.2)

  knows : IsLone v.member → KnowsOwner v.member (number_of right) (is_shared kind) (showing R was)
  knows lone = let told = recalled lone in subst (KnowsOwner v.member (number_of right) (is_shared kind))
      (one-shown (number_of right) (is_shared (kind_of right)) told.0 (showing R was) (sym told.1 ∙ has)) told.2

  -- no more than its words and what it moved into slots are others
  pub change_only : m ≡ record v.member {
    words = (with_unique (is_shared kind) (number_of right) v.member).words;
    filled = record { slot = number_of right; shared = is_shared kind; value = showing R now } ∷ v.member.filled;
  }
  change_only = is.member ∙ (λ d. record (unique_only v.member (number_of right) (is_shared kind) d) {
    filled = record { slot = number_of right; shared = is_shared kind; value = showing R now } ∷ v.member.filled;
  })

  lone_then : IsLone m → IsLone v.member
  lone_then one = sym (ap (λ (y : LocalState J). y.limits.participants) change_only) ∙ one

  pub change_tied : WordsMatchValues m es
  change_tied one = let lone = lone_then one in
      tied_changed v (tied lone) (number_of right) (is_shared kind) (showing R was) (knows lone) now (showing R now) m lone is es set_is

  change_world : IsLone v.member → world_of after ≡ with_value (world_of v) (number_of right) now
  change_world lone = world_changed v (tied lone) (number_of right) (is_shared kind) (showing R was) (knows lone) now (showing R now) m lone is es set_is

  pub change_sound : AreOf (home_in v.member) (holds now) → IsSound holds v → IsSound holds after
  change_sound at sound = let home = ap home_in change_only in record {
    settled = ap (λ (z : LocalState J). z.due) change_only ∙ sound.settled;
    closes = ap (λ (z : LocalState J). z.slots.closes) change_only ∙ sound.closes;
    home = entered_home R holds v m es (number_of right) now set_is (subst (λ h. AreOf h (holds now)) (sym home) at) home sound;
    whole = λ one. let lone = lone_then one in subst (λ (w : World R.Denot). IsWhole w) (sym (change_world lone))
        (Whole-with_value (world_of v) (number_of right) now
        (out_there v v refl tied (number_of right) kind known (lone_true v.member lone)) (sound.whole lone));
  }

  pub changed_there : IsTrue (is_lone p.member) → world_of after ≡ with_value (world_of p) (number_of right) now
  changed_there exact = change_world (lone_before v p same tied (number_of right) kind known exact)
      ∙ ap (λ (q : LocalModel R.Denot J). with_value (world_of q) (number_of right) now) same

  pub was_there : IsTrue (is_lone p.member) → value_at (world_of p) (number_of right) ≡ Some was
  was_there exact = let lone = lone_before v p same tied (number_of right) kind known exact in
      ap (λ (q : LocalModel R.Denot J). value_at (world_of q) (number_of right)) (sym same)
      ∙ told_value R v (tied lone) codes (number_of right) (is_shared kind) was (knows lone)

  kept_by : (b : Bool) → (IsTrue b → IsLone v.member) → (i : ℕ) (u : R.Denot) → i ≢ number_of right → ShowsBy b (showing R) holds v i u
      → ShowsBy b (showing R) holds after i u
  kept_by true lone i u other h = ap (λ (w : World R.Denot). value_at w i) (change_world (lone refl))
      ∙ (get_or-set_other (world_of v).values (number_of right) i (Some now) None other ∙ h)
  kept_by false lone i u other h = subst (λ (y : LocalState J). space.SeesValue (showing R) holds y i u) (sym change_only) h

  pub change_keeps : KeepsOthers (number_of right) (Shows (showing R) holds p) (Shows (showing R) holds after)
  change_keeps i u other h = let before : Shows (showing R) holds v i u = subst (λ (q : LocalModel R.Denot J). Shows (showing R) holds q i u) (sym same) h in
      subst (λ (b : Bool). ShowsBy b (showing R) holds after i u) (ap is_lone (sym change_only))
      (kept_by (is_lone v.member) (λ exact. lone_is v.member exact) i u other before)

-- an owner that goes beside others leaves each value
given_values : {T : Type 0} (w : World T) (p k : ℕ) (s : Option Standing) → (owner_given w p k s).values ≡ w.values
given_values w p k None = refl
given_values w p k (Some Owned) = refl
given_values w p k (Some Raw) = refl
given_values {T} w p k (Some (Shared n)) = by (nat_lt 1 n)
  where
    by : (b : Bool) → (if b then with_standing {T = T} w k (Shared (n - 1)) else retired w p k).values ≡ w.values
    by true = refl
    by false = refl
given_values w p k (Some Retired) = refl
given_values w p k (Some (Private c)) = refl

-- none was dropped
module _ {T J : Type 0} (shown : T → Gv) (holds : T → List OwnerOrCell) (p q : LocalModel T J) (kept : kept_of q ≡ kept_of p) where
  lone_still : IsLone q.member → IsLone p.member
  lone_still one = sym (ap (λ (x : LocalModel T J). x.member.limits.participants) kept) ∙ one

  sound_by : (IsLone p.member → IsWhole (world_of p) → IsWhole (world_of q)) → IsSound holds p → IsSound holds q
  sound_by whole sound = let home = ap (λ (x : LocalModel T J). home_in x.member) kept in record {
    settled = ap (λ (x : LocalModel T J). x.member.due) kept ∙ sound.settled;
    closes = ap (λ (x : LocalModel T J). x.member.slots.closes) kept ∙ sound.closes;
    home = λ place value g there. subst (λ h. AreOf h (holds value)) (sym home)
        (sound.home place value g (ap (λ (x : LocalModel T J). slice_index_or x.entries place None) (sym kept) ∙ there));
    whole = λ one. let lone = lone_still one in whole lone (sound.whole lone);
  }

  keeps_when : (IsLone p.member → (world_of q).values ≡ (world_of p).values) → (b : Bool) → (IsTrue b → IsLone p.member) → (i : ℕ) (u : T)
      → ShowsBy b shown holds p i u → ShowsBy b shown holds q i u
  keeps_when values true lone i u h = ap (λ (vs : List (Option T)). slice_index_or vs i None) (values (lone refl)) ∙ h
  keeps_when values false lone i u h = subst (λ (x : LocalModel T J). space.SeesValue shown holds x.member i u) (sym kept) h

  keeps_all : (IsLone p.member → (world_of q).values ≡ (world_of p).values) → KeepsShown (Shows shown holds p) (Shows shown holds q)
  keeps_all values i u h = subst (λ (b : Bool). ShowsBy b shown holds q i u) (ap (λ (x : LocalModel T J). is_lone x.member) (sym kept))
      (keeps_when values (is_lone p.member) (λ exact. lone_is p.member exact) i u h)

  -- as its owner stayed
  pub stay_sound : (IsLone p.member → world_of q ≡ world_of p) → IsSound holds p → IsSound holds q
  stay_sound world = sound_by (λ lone whole. subst (λ (w : World T). IsWhole w) (sym (world lone)) whole)

  pub stay_keeps : (IsLone p.member → world_of q ≡ world_of p) → KeepsShown (Shows shown holds p) (Shows shown holds q)
  stay_keeps world = keeps_all (λ lone. ap (λ (w : World T). w.values) (world lone))

  -- or went beside others
  module _ (k : ℕ) (world : IsLone p.member → world_of q ≡ owner_given (world_of p) p.member.place k (standing_at (world_of p) k)) where
    pub leave_sound : IsSound holds p → IsSound holds q
    leave_sound = sound_by (λ lone whole. subst (λ (w : World T). IsWhole w) (sym (world lone)) (Whole-owner_given (world_of p) p.member.place k
        (live-taken (world_of p).time p.member.place (lives p)) (standing_at (world_of p) k) refl whole))

    pub leave_keeps : KeepsShown (Shows shown holds p) (Shows shown holds q)
    leave_keeps = keeps_all (λ lone. ap (λ (w : World T). w.values) (world lone)
        ∙ given_values (world_of p) p.member.place k (standing_at (world_of p) k))

-- what has one owner is out
pub out_alone : (s : Option Standing) → IsAlone s → is_out s ≡ true
out_alone s = ⊎_elim (λ (e : s ≡ Some Owned). ap is_out e) (λ (e : s ≡ Some (Shared 1)). ap is_out e)

-- an item was dropped
module _ {T J : Type 0} (shown : T → Gv) (holds : T → List OwnerOrCell) (p q : LocalModel T J) (kept : kept_of q ≡ kept_of (counted_in_place p)) (k : ℕ)
    (world : IsLone p.member → world_of q ≡ dropped holds (world_of p) p.member.place k) where
  lone_kept : IsLone q.member → IsLone p.member
  lone_kept one = sym (ap (λ (x : LocalModel T J). x.member.limits.participants) kept) ∙ one

  pub drop_sound : (IsLone p.member → is_out (standing_at (world_of p) k) ≡ true) → IsSound holds p → IsSound holds q
  drop_sound out sound = let home = ap (λ (x : LocalModel T J). home_in x.member) kept in record {
    settled = ap (λ (x : LocalModel T J). x.member.due) kept ∙ sound.settled;
    closes = ap (λ (x : LocalModel T J). x.member.slots.closes) kept ∙ sound.closes;
    home = λ place value g there. subst (λ h. AreOf h (holds value)) (sym home)
        (sound.home place value g (ap (λ (x : LocalModel T J). slice_index_or x.entries place None) (sym kept) ∙ there));
    whole = λ one. let lone = lone_kept one in subst (λ (w : World T). IsWhole w) (sym (world lone))
        (Whole-dropped holds (world_of p) p.member.place k (live-taken (world_of p).time p.member.place (lives p)) (out lone) (sound.whole lone));
  }

  drop_by : (b : Bool) → (IsTrue b → IsLone p.member) → (i : ℕ) (u : T) → i ≢ k → ShowsBy b shown holds p i u → ShowsBy b shown holds q i u
  drop_by true lone i u other h = ap (λ (w : World T). value_at w i) (world (lone refl)) ∙ (dropped-others holds (world_of p) p.member.place k i other ∙ h)
  drop_by false lone i u other h = subst (λ (x : LocalModel T J). space.SeesValue shown holds x.member i u) (sym kept) h

  pub drop_keeps : KeepsOthers k (Shows shown holds p) (Shows shown holds q)
  drop_keeps i u other h = subst (λ (b : Bool). ShowsBy b shown holds q i u) (ap (λ (x : LocalModel T J). is_lone x.member) (sym kept))
      (drop_by (is_lone p.member) (λ exact. lone_is p.member exact) i u other h)

-- what came back is handed on
pub handed_on : {A B : Type 0} (P : A → Type 0) (Q : B → Type 0) (r : Result A B) (e : B) → IsErrAnd r (λ y. y ≡ e) → Q e → MatchResult r P Q
handed_on P Q (Ok a) e is holds = absurd is
handed_on P Q (Err y) e is holds = subst Q (sym is) holds

-- ---- for an answer: an owner went, as the last one or beside others, or stayed
module _ {T J : Type 0} (shown : T → Gv) (holds : T → List OwnerOrCell) (p q : LocalModel T J) (k : ℕ) where
  abbrev pub Kept : Result Bool (Right × Refused) → Type 0
  Kept r = MatchResult r (λ last. kept_of q ≡ kept_of (counted_where last p)) (λ _. kept_of q ≡ kept_of p)

  abbrev pub Worlds : Result Bool (Right × Refused) → Type 0
  Worlds r = IsLone p.member → MatchResult r
      (λ last. MatchBool last
      (IsAlone (standing_at (world_of p) k) × ¬ (HasOpenGuard p.member) × (world_of q ≡ dropped holds (world_of p) p.member.place k))
      (IsTrue (has_others (standing_at (world_of p) k)) × (world_of q ≡ owner_given (world_of p) p.member.place k (standing_at (world_of p) k))))
      (λ e. IsAlone (standing_at (world_of p) k) × HasOpenGuard p.member × (e.1 ≡ GuardOpen) × (world_of q ≡ world_of p))

  pub gone_sound : (r : Result Bool (Right × Refused)) → Kept r → Worlds r → IsSound holds p → IsSound holds q
  gone_sound (Ok true) kept world = drop_sound shown holds p q kept k (λ lone. (world lone).2)
      (λ lone. out_alone (standing_at (world_of p) k) (world lone).0)
  gone_sound (Ok false) kept world = leave_sound shown holds p q kept k (λ lone. (world lone).1)
  gone_sound (Err e) kept world = stay_sound shown holds p q kept (λ lone. (world lone).3)

  keeps_now : (r : Result Bool (Right × Refused)) → Kept r → Worlds r → MatchResult r
      (λ last. ¬ (IsTrue last) → KeepsShown (Shows shown holds p) (Shows shown holds q)) (λ _. KeepsShown (Shows shown holds p) (Shows shown holds q))
  keeps_now (Ok true) kept world = λ never. absurd (never refl)
  keeps_now (Ok false) kept world = λ _. leave_keeps shown holds p q kept k (λ lone. (world lone).1)
  keeps_now (Err e) kept world = stay_keeps shown holds p q kept (λ lone. (world lone).3)

  others_now : (r : Result Bool (Right × Refused)) → Kept r → Worlds r → KeepsOthers k (Shows shown holds p) (Shows shown holds q)
  others_now (Ok true) kept world = drop_keeps shown holds p q kept k (λ lone. (world lone).2)
  others_now (Ok false) kept world = λ i u other h. leave_keeps shown holds p q kept k (λ lone. (world lone).1) i u h
  others_now (Err e) kept world = λ i u other h. stay_keeps shown holds p q kept (λ lone. (world lone).3) i u h

  abbrev pub Goes : LocalModel T J → Result Bool (Right × Refused) → Type 0
  Goes old r = MatchResult r
      (λ last. MatchBool last (MayInPlace (world_of old) k × (world_of q ≡ dropped holds (world_of old) old.member.place k))
      (IsTrue (has_others (standing_at (world_of old) k))
      × (world_of q ≡ owner_given (world_of old) old.member.place k (standing_at (world_of old) k))))
      (λ e. IsAlone (standing_at (world_of old) k) × AnyGuardOpen (world_of old) × (e.1 ≡ GuardOpen) × (world_of q ≡ world_of old))

  goes_now : (r : Result Bool (Right × Refused)) → Worlds r → IsLone p.member → Goes p r
  goes_now (Ok true) world lone = let w = world lone in (record { alone = w.0; quiet = quiet_there p w.1 }, w.2)
  goes_now (Ok false) world lone = world lone
  goes_now (Err e) world lone = let w = world lone in (w.0, opened_there p w.1, w.2, w.3)

  module _ (old : LocalModel T J) (same : p ≡ old) (r : Result Bool (Right × Refused)) (kept : Kept r) (world : Worlds r) where
    pub gone_keeps : MatchResult r (λ last. ¬ (IsTrue last) → KeepsShown (Shows shown holds old) (Shows shown holds q))
        (λ _. KeepsShown (Shows shown holds old) (Shows shown holds q))
    gone_keeps = subst (λ (x : LocalModel T J). MatchResult r (λ last. ¬ (IsTrue last) → KeepsShown (Shows shown holds x) (Shows shown holds q))
        (λ _. KeepsShown (Shows shown holds x) (Shows shown holds q))) same (keeps_now r kept world)

    pub gone_others : KeepsOthers k (Shows shown holds old) (Shows shown holds q)
    gone_others = subst (λ (x : LocalModel T J). KeepsOthers k (Shows shown holds x) (Shows shown holds q)) same (others_now r kept world)

    pub gone_worlds : IsTrue (is_lone old.member) → Goes old r
    gone_worlds exact = subst (λ (x : LocalModel T J). Goes x r) same
        (goes_now r world (subst (λ (x : LocalModel T J). IsLone x.member) (sym same) (lone_is old.member exact)))
