-- What a lone participant's looks at an owner's item, and its letting go, are for its world
use Rattle.std.proofs.Common.{◌≡◌, ◌≢◌, ◌↔◌, ℕ, ◌+◌, ◌<◌, Bool, true, false, IsTrue, List, [], ◌∷◌, ◌++◌, Some, None, get_or, set, slice_index_or, sym, refl, ap, ◌∙◌, subst, arith, length-set, ◌-◌, ◌^◌, ◌≤◌}
use Rattle.std.specs.Prelude.{Option, if◌then◌else◌, option_map, ◌==◌}
use Rattle.std.proofs.lemmas.Bool.{true≢false, lt-ltb}
use Rattle.std.proofs.lemmas.List.{set-get_or}
use mathlib.Core.Logic.{dite}
use native.Mathlib.Decide.{ℕ_discrete, dec_lt}
use base.Stored.{Gv}
use denote.RattleType.{RattleType}
use Rattle.sdd_participants.specs.declared.standing.Standing.TheVariants.{Owned, Shared, Retired}
use Rattle.sdd_participants.specs.declared.standing.Standing.{Standing}
use Rattle.sdd_participants.specs.declared.waiting.LimboEntry.TheVariants.{Item}
use Rattle.sdd_participants.specs.EpochState as time
use Rattle.sdd_shared_values.specs.SharedValues.{showing}
use Rattle.sdd_rights.specs.declared.right.StandingKind.{StandingKind}
use Rattle.sdd_rights.specs.declared.right.StandingKind.TheVariants as kinds
use Rattle.sdd_rights.specs.declared.right.Right.{Right}
use Rattle.sdd_rights.specs.StandingKind.{is_shared}
use Rattle.sdd_rights.specs.Right.{number_of, kind_of}
use Rattle.sdd_world_model.specs.Slots.{IsOwnedBy, has_others}
use Rattle.sdd_rights.specs.declared.views.ShownValue.{ShownValue}
use Rattle.sdd_rights.specs.declared.views.SlotsView.{SlotsView}
use Rattle.sdd_domain_invariant.specs.Codes.{alive, waiting, waits_for, full, claimed_word, counted, retired_word}
use Rattle.sdd_domain_invariant.specs.Slots.SlotSteps.{behind, retired_now}
use Rattle.sdd_domain_invariant.specs.Sums.{times}
use Rattle.sdd_domain_invariant.specs.Slots.{waits_in}
use Rattle.sdd_domain_invariant.proofs.Codes.{some_left, claimed_is, retired_is, sound}
use Rattle.sdd_domain_invariant.proofs.Sums.{is_same, is_other, total_snoc}
use Rattle.sdd_core.specs.declared.limits.Limits.{Limits}
use Rattle.sdd_domain_invariant.specs.Fractions.BankInvariant.{one_where}
use Rattle.sdd_domain_invariant.specs.Slots.FilledInvariant.{newest}
use Rattle.sdd_domain_invariant.specs.Slots.Records.{IsIn}
use Rattle.sdd_domain_invariant.proofs.Slots.Records.{in_tail}
use Rattle.sdd_world_model.specs.OwnerOrCell.{OwnerOrCell, AreOf}
use Rattle.sdd_space.specs.Ptr.{KeepsShown}
use Rattle.sdd_world_model.specs.World.{World, value_at, standing_at}
use Rattle.sdd_world_model.specs.WorldChanges.{owner_given, retired, with_standing}
use Rattle.sdd_participants.specs.Slab.{entry_at}
use Rattle.sdd_domain_steps.specs.LocalState.{LocalState, place_number, IsLone, KnowsOwner, LooksAt, RetiresAt, word_of, with_unique, LeavesAt, OwnerGoes}
use Rattle.sdd_domain_steps.specs.SpaceIds.{home_in}
use Rattle.sdd_domain_steps.specs.Items.{HasValue}
use Rattle.sdd_domain_steps.specs.SeenSlots.{IsOnce}
use Rattle.sdd_domain_steps.specs.Values.{one_showing, one_value}
use Rattle.sdd_domain_core.specs.Laws.{same_value, shows_is_value}
use Rattle.sdd_domain_steps.specs.InBags.{known_waiting}
use Rattle.sdd_domain_steps.specs.WordsAndValues.{MatchesPlace, Agrees, AreTied, WordsMatchValues, is_plain_word}
use Rattle.sdd_domain_steps.specs.Local.{LocalModel, listing, standing_by, value_by, standing_in, value_in, world_of}
use Rattle.sdd_domain_core.specs.Space.{ShowsBy, Shows, is_lone, caller_of, known_of}
use Rattle.sdd_world_model.specs.KnownEpochs.{KnowsOn}
use Rattle.sdd_world_model.specs.ParticipantChanges.{KeepsMoreWaiting}
use Rattle.sdd_world_model.specs.Releases.{left_waiting}
use Rattle.sdd_domain_core.proofs.MoreWaiting.{grows_by, grows_not}
use Rattle.sdd_domain_core.specs.Space as space
use Rattle.sdd_domain_core.proofs.Listings.{listing_at, listing_set, listing_same}
use Rattle.sdd_domain_core.proofs.Words.{alive_public, none_privately, public_alike, waiting_public, place_dead, inside, word_same, word_other, alive_taken, waiting_taken, value_there, stands_owned, stands_retired, counts_of, plain_retired, plain_less}
use Rattle.sdd_domain_steps.proofs.LocalLooks.{shown_now}
use Rattle.sdd_domain_core.proofs.LoneCalls.{alone, steps_alone, cells_kept, pointers_kept}
use Rattle.sdd_domain_core.proofs.GuardCalls.{lone_is}
use Rattle.sdd_domain_steps.proofs.Reclaims.{what_item}
use Rattle.sdd_domain_steps.proofs.InBags.{one_more}

-- where the word of an owner that is alone may count several it counts one, and tells one in either case
pub one_owner : (x : ℕ) (several : Bool) → 0 < alive x → counted x ≡ one_where several → (several ≡ true → x ≡ claimed_word true) → alive x ≡ 1
one_owner x true some kind unique = ap alive (unique refl) ∙ (claimed_is true).0
one_owner x false some kind unique = let few = sound.few x kind in omega arith

-- a slot's word is written that it had, and else nothing
pub unique_still : {J : Type 0} (m : LocalState J) (k : ℕ) (several : Bool) → (several ≡ true → word_of m k ≡ claimed_word true) → with_unique several k m ≡ m
unique_still m k true unique = (λ d. record m { words = set m.words (behind m.sizes k) (sym (unique refl) d) })
    ∙ (λ d. record m { words = set-get_or m.words (behind m.sizes k) 0 d })
unique_still m k false unique = refl

pub unique_only : {J : Type 0} (m : LocalState J) (k : ℕ) (several : Bool) → with_unique several k m ≡ record m { words = (with_unique several k m).words }
unique_only m k true = refl
unique_only m k false = refl

abbrev value_or : Gv → Option ShownValue → Gv
value_or g None = g
value_or g (Some s) = s.value

-- the ghost values has what the record tells
pub shown_entry : {T : Type 0} (k : ℕ) (shared : Bool) (g : Gv) (r : Option ShownValue) (e : Option (T × Gv))
    → r ≡ Some (record { slot = k; shared = shared; value = g }) → Agrees r e → (x : T × Gv) × (e ≡ Some x) × (x.1 ≡ g)
shown_entry k shared g None e is a = absurd a
shown_entry k shared g (Some r) None is a = absurd a
shown_entry k shared g (Some r) (Some x) is a = (x, refl, a ∙ ap (value_or g) is)

-- ---- a slot whose word tells of owners
module _ {T J : Type 0} (v : LocalModel T J) (t : AreTied v.member v.entries) (k : ℕ) (some : 0 < alive (word_of v.member k)) where
  pub low_alive : k < v.member.limits.slots
  low_alive = let s = t.slots in let q = t.places in let i = inside v.member.sizes v.member.words t.long (λ j l.
      subst (λ (n : ℕ). alive (get_or v.member.words (behind v.member.sizes (n + j)) 0) ≡ 0) (sym t.slots)
      (place_dead (word_of v.member (place_number v.member j)) (entry_at v.member.jobs j) (t.jobs j (omega arith)))) k some in omega arith

  module _ (shared : Bool) (kind : counted (word_of v.member k) ≡ one_where shared) where
    pub stands_alive : standing_at (world_of v) k ≡ Some (if shared then Shared (alive (word_of v.member k)) else Owned)
    stands_alive = listing_at v.member.limits.slots (standing_in v) k None low_alive ∙ stands_owned (word_of v.member k) shared some kind

    -- no more than may be
    pub few_alive : shared ≡ true → alive (word_of v.member k) ≤ 2 ^ 62
    few_alive e = let c = counts_of (word_of v.member k) (t.plain k low_alive) (kind ∙ ap one_where e) in let a = c.1 in let b = c.2 in omega arith

-- ---- an owner's item
module _ {T J : Type 0} (v : LocalModel T J) (t : AreTied v.member v.entries) (k : ℕ) (shared : Bool) (g : Gv) (knows : KnowsOwner v.member k shared g) where
  pub low : k < v.member.limits.slots
  low = low_alive v t k knows.alive

  pub taken : word_of v.member k ≢ 0
  taken = alive_taken (word_of v.member k) knows.alive

  pub entry : (x : T × Gv) × (slice_index_or v.entries k None ≡ Some x) × (x.1 ≡ g)
  entry = shown_entry k shared g (newest k v.member.filled) (slice_index_or v.entries k None) knows.newest
      (t.kept k low ((sound.lives (word_of v.member k) knows.alive).1))

  pub has_value : value_at (world_of v) k ≡ Some entry.0.0
  has_value = listing_at v.member.limits.slots (value_in v) k None low
      ∙ (value_there (word_of v.member k) (slice_index_or v.entries k None) taken ∙ ap (option_map (λ (y : T × Gv). y.0)) entry.1)

  -- so many owners its word tells
  abbrev pub owners : ℕ
  owners = alive (word_of v.member k)

  pub stands : standing_at (world_of v) k ≡ Some (if shared then Shared owners else Owned)
  stands = stands_alive v t k knows.alive shared knows.kind

  -- no more than may be
  pub few_owners : shared ≡ true → owners ≤ 2 ^ 62
  few_owners = few_alive v t k knows.alive shared knows.kind

-- in an owner's slot is the value that it tells
module _ {J : Type 0} (R : RattleType) (v : LocalModel R.Denot J) (k : ℕ) (shared : Bool) (x : R.Denot) (tied : WordsMatchValues v.member v.entries)
    (codes : (place : ℕ) (y : R.Denot) (g : Gv) → slice_index_or v.entries place None ≡ Some (y, g) → g ≡ showing R y) where
  pub owned_value : (IsLone v.member → KnowsOwner v.member k shared (showing R x)) → IsLone v.member → value_at (world_of v) k ≡ Some x
  owned_value recalled lone = let e = entry v (tied lone) k shared (showing R x) (recalled lone) in
      let same : e.0.0 ≡ x = one_showing R e.0.0 x (sym (codes k e.0.0 e.0.1 e.1) ∙ e.2) in
      has_value v (tied lone) k shared (showing R x) (recalled lone) ∙ ap Some same

-- ---- a look at a slot
module _ {J : Type 0} (R : RattleType) (v : LocalModel R.Denot J) (m : LocalState J) (k : ℕ) (sh : Bool) (x : R.Denot) where
  abbrev after : LocalModel R.Denot J
  after = record { member = m; entries = v.entries }

  module _ (looks : LooksAt k sh (showing R x) v.member m) where
    only_by : (s : SlotsView) (h : List ShownValue) → m ≡ record v.member { slots = s; shown = h } → m ≡ record v.member { slots = m.slots; shown = m.shown }
    only_by s h e = e ∙ (λ d. record v.member { slots = (sym e d).slots; shown = (sym e d).shown })

    pub only_looks : m ≡ record v.member { slots = m.slots; shown = m.shown }
    only_looks = dite (dec_lt 0 (times k v.member.slots.sees)) (λ sees. only_by v.member.slots v.member.shown (looks.seen sees).0)
        (λ blind. only_by _ _ (looks.unseen blind))

    pub closes_looks : m.slots.closes ≡ v.member.slots.closes
    closes_looks = dite (dec_lt 0 (times k v.member.slots.sees)) (λ sees. ap (λ (y : LocalState J). y.slots.closes) (looks.seen sees).0)
        (λ blind. ap (λ (y : LocalState J). y.slots.closes) (looks.unseen blind))

    pub same_world : world_of after ≡ world_of v
    same_world = ap (λ (y : LocalState J). world_of (record { member = y; entries = v.entries })) only_looks

    lone_then : IsTrue (is_lone m) → IsLone v.member
    lone_then exact = sym (ap (λ (y : LocalState J). y.limits.participants) only_looks) ∙ lone_is m exact

    module _ (is_there : IsLone v.member → value_at (world_of v) k ≡ Some x) where
      is_value : IsLone v.member → value_at (world_of after) k ≡ Some x
      is_value lone = ap (λ (w : World R.Denot). value_at w k) same_world ∙ is_there lone

      shows_by : (holds : R.Denot → List OwnerOrCell) → AreOf (home_in v.member) (holds x) → IsOnce m.shown → (b : Bool) → (IsTrue b → IsLone v.member)
          → ShowsBy b (showing R) holds after k x
      shows_by holds at once true lone = is_value (lone refl)
      shows_by holds at once false lone = let there = shown_now k sh (showing R x) v.member m looks in record {
        known = there;
        only = λ other is. once k other (showing R x) is there;
        home = subst (λ (y : LocalState J). AreOf (home_in y) (holds x)) (sym only_looks) at;
      }

      pub shows_it : (holds : R.Denot → List OwnerOrCell) → AreOf (home_in v.member) (holds x) → IsOnce m.shown → Shows (showing R) holds after k x
      shows_it holds at once = shows_by holds at once (is_lone m) lone_then

    keeps_by : (holds : R.Denot → List OwnerOrCell) → IsOnce m.shown → (b : Bool) (i : ℕ) (u : R.Denot) → ShowsBy b (showing R) holds v i u
        → ShowsBy b (showing R) holds after i u
    keeps_by holds once true i u h = ap (λ (w : World R.Denot). value_at w i) same_world ∙ h
    keeps_by holds once false i u h = dite (dec_lt 0 (times k v.member.slots.sees))
        (λ sees. subst (λ (y : LocalState J). space.SeesValue (showing R) holds y i u) (sym (looks.seen sees).0) h)
        (λ blind. let is = looks.unseen blind in let there : IsIn m.shown i (showing R u) = subst (λ (y : LocalState J). IsIn y.shown i (showing R u)) (sym is)
        (in_tail (record { slot = k; shared = sh; value = showing R x }) v.member.shown i (showing R u) h.known) in record {
          known = there;
          only = λ g other. once i g (showing R u) other there;
          home = subst (λ (y : LocalState J). AreOf (home_in y) (holds u)) (sym is) h.home;
        })

    pub keeps_it : (holds : R.Denot → List OwnerOrCell) → IsOnce m.shown → (p : LocalModel R.Denot J) → v ≡ p
        → KeepsShown (Shows (showing R) holds p) (Shows (showing R) holds after)
    keeps_it holds once p is i u h = let before : Shows (showing R) holds v i u
        = subst (λ (q : LocalModel R.Denot J). Shows (showing R) holds q i u) (sym is) h in
        subst (λ (b : Bool). ShowsBy b (showing R) holds after i u) (ap is_lone (sym only_looks)) (keeps_by holds once (is_lone v.member) i u before)

-- ---- what an owner tells is what its slot shows to a lone participant
module _ {J : Type 0} (R : RattleType) (v : LocalModel R.Denot J) (right : Right) (tied : WordsMatchValues v.member v.entries)
    (codes : (place : ℕ) (y : R.Denot) (g : Gv) → slice_index_or v.entries place None ≡ Some (y, g) → g ≡ showing R y)
    (recalled : IsLone v.member → (g : Gv) × HasValue g right × KnowsOwner v.member (number_of right) (is_shared (kind_of right)) g) where
  -- the value that it moved into the slot last is in it, and is what the owner tells
  filled_here : IsLone v.member → (y : R.Denot) × (value_at (world_of v) (number_of right) ≡ Some y) × HasValue (showing R y) right
  filled_here lone = let r = recalled lone in let k : ℕ = number_of right in let shared : Bool = is_shared (kind_of right) in
      let e = entry v (tied lone) k shared r.0 r.2 in (
        e.0.0,
        has_value v (tied lone) k shared r.0 r.2,
        subst (λ (g : Gv). HasValue g right) (sym e.2 ∙ codes k e.0.0 e.0.1 e.1) r.1,
      )

  has_there : (x : R.Denot) → IsLone v.member → HasValue (showing R x) right ↔ (value_at (world_of v) (number_of right) ≡ Some x)
  has_there x lone = let f = filled_here lone in (
    (λ has. f.1 ∙ ap Some (one_value R right f.0 x f.2 has)),
    (λ there. subst (λ (y : R.Denot). HasValue (showing R y) right) (same_value f.0 x (sym f.1 ∙ there)) f.2),
  )

  pub has_shown : (holds : R.Denot → List OwnerOrCell) (p : LocalModel R.Denot J) → v ≡ p → IsTrue (is_lone p.member) → (x : R.Denot)
      → HasValue (showing R x) right ↔ Shows (showing R) holds p (number_of right) x
  has_shown holds p same exact x =
      let here = has_there x (lone_is v.member (subst (λ (q : LocalModel R.Denot J). IsTrue (is_lone q.member)) (sym same) exact)) in
      let shows = shows_is_value (showing R) holds p (is_lone p.member) exact (number_of right) x in (
        (λ has. shows.1 (subst (λ (q : LocalModel R.Denot J). value_at (world_of q) (number_of right) ≡ Some x) same (here.0 has))),
        (λ shown. here.1 (subst (λ (q : LocalModel R.Denot J). value_at (world_of q) (number_of right) ≡ Some x) (sym same) (shows.0 shown))),
      )

-- ---- an owner goes
retires_by : {T : Type 0} (w : World T) (p k n : ℕ) (shared : Bool) → n ≡ 1 → owner_given w p k (Some (if shared then Shared n else Owned)) ≡ retired w p k
retires_by w p k n true one = ap (λ (m : ℕ). owner_given w p k (Some (Shared m))) one
retires_by w p k n false one = refl

pub none_other : (n : ℕ) (shared : Bool) → n ≡ 1 → has_others (Some (if shared then Shared n else Owned)) ≡ false
none_other n true one = ap (λ (m : ℕ). has_others (Some (Shared m))) one
none_other n false one = refl

pub owned_by : (kind : StandingKind) (n : ℕ) → 0 < n → (is_shared kind ≡ true → n ≤ 2 ^ 62) → IsOwnedBy kind (Some (if is_shared kind then Shared n else Owned))
owned_by kinds.Free n some few = record { alone = λ e. absurd cc; together = λ e. absurd cc }
owned_by kinds.Owned n some few = record { alone = λ _. refl; together = λ e. absurd cc }
owned_by kinds.Raw n some few = record { alone = λ e. absurd cc; together = λ e. absurd cc }
owned_by kinds.Shared n some few = record { alone = λ e. absurd cc; together = λ _. (n, record { shared = refl; some = omega arith; most = few refl }) }
owned_by kinds.Retired n some few = record { alone = λ e. absurd cc; together = λ e. absurd cc }

-- what it knows of words is otherwise
module _ {T J : Type 0} (v : LocalModel T J) (k y : ℕ) where
  abbrev pub rewritten : LocalState J
  rewritten = record v.member { words = set v.member.words (behind v.member.sizes k) y }

  module _ (t : AreTied v.member v.entries) (inside_here : k < v.member.sizes.slots) where
    pub rewritten_now : word_of rewritten k ≡ y
    rewritten_now = word_same v.member.sizes v.member.words t.long k y inside_here

    pub rewritten_then : (i : ℕ) → i ≢ k → word_of rewritten i ≡ word_of v.member i
    rewritten_then i ne = word_other v.member.sizes v.member.words t.long k y i ne

    -- a slot that is full before and after has its value
    module _ (was : word_of v.member k ≢ 0) (still : y ≢ 0) where
      pub value_still : (i : ℕ) → value_by (word_of rewritten i) (slice_index_or v.entries i None) ≡ value_in v i
      value_still i = let e : Option (T × Gv) = slice_index_or v.entries i None in dite (ℕ_discrete i k)
          (λ same. ap (λ (x : ℕ). value_by x e) (ap (word_of rewritten) same ∙ rewritten_now)
          ∙ (value_there y e still ∙ sym (ap (λ (x : ℕ). value_by x e) (ap (word_of v.member) same) ∙ value_there (word_of v.member k) e was)))
          (λ ne. ap (λ (x : ℕ). value_by x e) (rewritten_then i ne))

    pub standing_then : (i : ℕ) → i ≢ k → standing_by (word_of rewritten i) ≡ standing_in v i
    standing_then i ne = ap standing_by (rewritten_then i ne)

-- ---- it was the last
module _ {T J : Type 0} (v : LocalModel T J) (m : LocalState J) (k : ℕ) (shared : Bool) (g : Gv) (count : ℕ) (is : RetiresAt k shared count v.member m) where
  abbrev later : LocalModel T J
  later = record { member = m; entries = v.entries }

  abbrev y : ℕ
  y = retired_word shared

  abbrev waits_too : LocalState J
  waits_too = record v.member {
    own = time.awaiting (Item k) v.member.own;
    slots = record v.member.slots { waits = v.member.slots.waits ++ retired_now k count ∷ [] };
    words = set v.member.words (behind v.member.sizes k) y;
  }

  lone_still : IsLone m → IsLone v.member
  lone_still one = sym (ap (λ (y : LocalState J). y.limits.participants) is.member) ∙ one

  is_later : IsLone v.member → m ≡ waits_too
  is_later lone = is.member ∙ (λ d. record waits_too { known = is.lone lone d })

  -- it was
  pub last_owner : IsLone v.member → KnowsOwner v.member k shared g → alive (word_of v.member k) ≡ 1
  last_owner lone knows = one_owner (word_of v.member k) shared knows.alive knows.kind (is.last lone)

  module _ (t : AreTied v.member v.entries) (knows : KnowsOwner v.member k shared g) where
    inside_here : k < v.member.sizes.slots
    inside_here = let l = low v t k shared g knows in let s = t.slots in omega arith

    word_now : word_of waits_too k ≡ y
    word_now = rewritten_now v k y t inside_here

    word_then : (i : ℕ) → i ≢ k → word_of waits_too i ≡ word_of v.member i
    word_then = rewritten_then v k y t inside_here

    waits_there : waiting y ≡ 1
    waits_there = (retired_is shared).1

    quiet_before : (waiting (word_of v.member k) ≡ 0) × (full (word_of v.member k) ≡ 1)
    quiet_before = sound.lives (word_of v.member k) knows.alive

    tied_waits : AreTied waits_too v.entries
    tied_waits = let was = quiet_before in let one = waits_there in record {
      place = t.place;
      slots = t.slots;
      places = t.places;
      all_cells = t.all_cells;
      long = length-set v.member.words (behind v.member.sizes k) y ∙ t.long;
      wide = t.wide;
      plain = λ i l. dite (ℕ_discrete i k)
          (λ e. subst (λ (x : ℕ). IsTrue (is_plain_word x)) (sym (ap (word_of waits_too) e ∙ word_now)) (plain_retired shared))
          (λ ne. subst (λ (x : ℕ). IsTrue (is_plain_word x)) (sym (word_then i ne)) (t.plain i l));
      waits = λ i l. let s = total_snoc (waits_in i) v.member.slots.waits (retired_now k count) in let w = t.waits i l in dite (ℕ_discrete i k)
          (λ e. let o = is_same i k (sym e) in let a = ap waiting (ap (word_of v.member) e) in let c = was.0 in
          let b = ap waiting (ap (word_of waits_too) e ∙ word_now) in omega arith)
          (λ ne. let o = is_other i k (λ e. ne (sym e)) in let a = ap waiting (word_then i ne) in omega arith);
      privates = λ i l c. dite (ℕ_discrete i k)
          (λ e. t.privates i l c ∙ (ap (waits_for c) (ap (word_of v.member) e)
          ∙ (public_alike c (word_of v.member k) y (alive_public (word_of v.member k) knows.alive) (waiting_public y (omega arith))
          ∙ ap (waits_for c) (sym (ap (word_of waits_too) e ∙ word_now)))))
          (λ ne. t.privates i l c ∙ ap (waits_for c) (sym (word_then i ne)));
      kept = λ i l filled. dite (ℕ_discrete i k)
          (λ e. t.kept i l (ap full (ap (word_of v.member) e) ∙ was.1))
          (λ ne. t.kept i l (sym (ap full (word_then i ne)) ∙ filled));
      table = t.table;
      jobs = λ j l. subst (λ (w : ℕ). MatchesPlace w (entry_at v.member.jobs j))
          (sym (word_then (place_number v.member j) (λ e. let s = low v t k shared g knows in omega arith))) (t.jobs j l);
      bags = let near = low v t k shared g knows in one_more v.member.limits.slots (known_waiting v.member.slots) v.member.own.bags.waiting v.member.due
          t.bags (retired_now k count) (Item k) refl (what_item v.member.limits.slots (retired_now k count) near) (t.waits k near ∙ was.0)
          (none_privately k (word_of v.member k) v.member.slots.privates (t.privates k near) (alive_public (word_of v.member k) knows.alive));
      now = t.now;
    }

    still_there : y ≢ 0
    still_there = let one = waits_there in waiting_taken y (omega arith)

    world_waits : alone (record { member = waits_too; entries = v.entries }) ≡ retired (alone v) 0 k
    world_waits =
        let n : ℕ = v.member.limits.slots in let q : LocalModel T J = record { member = waits_too; entries = v.entries } in
        let standings : listing n (standing_in q) ≡ set (listing n (standing_in v)) k (Some Retired)
        = listing_set n (standing_in v) (standing_in q) k (λ i l ne. standing_then v k y t inside_here i ne)
        ∙ ap (set (listing n (standing_in v)) k) (ap standing_by word_now ∙ stands_retired y waits_there) in
        let values : listing n (value_in q) ≡ listing n (value_in v)
        = listing_same n (value_in v) (value_in q) (λ i l. value_still v k y t inside_here (taken v t k shared g knows) still_there i) in
        λ d. record (alone q) {
          standings = standings d;
          values = values d;
          cells = cells_kept v.member.limits.cells v.member.sizes v.member.words k y t.all_cells d;
          pointers = pointers_kept v.member.limits.cells v.member.sizes v.member.words k y t.all_cells d;
        }

    value_waits : (i : ℕ) (u : T) → value_at (world_of v) i ≡ Some u → value_at (world_of (record { member = waits_too; entries = v.entries })) i ≡ Some u
    value_waits i u was = ap (λ (vs : List (Option T)). slice_index_or vs i None)
        (listing_same v.member.limits.slots (value_in v) (value_in (record { member = waits_too; entries = v.entries }))
        (λ j l. value_still v k y t inside_here (taken v t k shared g knows) still_there j)) ∙ was

  module _ (tied : WordsMatchValues v.member v.entries) (knows : IsLone v.member → KnowsOwner v.member k shared g) where
    pub tied_later : WordsMatchValues m v.entries
    tied_later one = let lone = lone_still one in subst (λ (y : LocalState J). AreTied y v.entries) (sym (is_later lone)) (tied_waits (tied lone) (knows lone))

    pub world_later : IsLone v.member → world_of later ≡ owner_given (world_of v) v.member.place k (standing_at (world_of v) k)
    world_later lone = let t = tied lone in let know = knows lone in
        steps_alone (λ (w : World T) (p : ℕ). retired w p k) v later t.place (ap (λ (y : LocalState J). y.place) is.member ∙ t.place)
        (ap (λ (y : LocalState J). alone (record { member = y; entries = v.entries })) (is_later lone) ∙ world_waits t know)
        ∙ (sym (retires_by (world_of v) v.member.place k (alive (word_of v.member k)) shared (last_owner lone know))
        ∙ ap (owner_given (world_of v) v.member.place k) (sym (stands v t k shared g know)))

    keeps_when : (shown : T → Gv) (holds : T → List OwnerOrCell) (b : Bool) → (IsTrue b → IsLone v.member) → (i : ℕ) (u : T) → ShowsBy b shown holds v i u
        → ShowsBy b shown holds later i u
    keeps_when shown holds true lone i u h = ap (λ (y : LocalState J). value_at (world_of (record { member = y; entries = v.entries })) i)
        (is_later (lone refl))
        ∙ value_waits (tied (lone refl)) (knows (lone refl)) i u h
    keeps_when shown holds false lone i u h = subst (λ (y : LocalState J). space.SeesValue shown holds y i u) (sym is.member) h

-- ---- others stay
shared_of : (b : Bool) → one_where b ≡ 1 → b ≡ true
shared_of true e = refl
shared_of false e = absurd (omega arith)

fewer_by : {T : Type 0} (w : World T) (p k n : ℕ) (shared : Bool) → shared ≡ true → 1 < n
    → owner_given w p k (Some (if shared then Shared n else Owned)) ≡ with_standing w k (Shared (n - 1))
fewer_by w p k n true e more = λ d. if lt-ltb 1 n more d then with_standing w k (Shared (n - 1)) else retired w p k
fewer_by w p k n false e more = absurd (true≢false (sym e))

pub some_others : (n : ℕ) (shared : Bool) → shared ≡ true → 1 < n → has_others (Some (if shared then Shared n else Owned)) ≡ true
some_others n true e more = lt-ltb 1 n more
some_others n false e more = absurd (true≢false (sym e))

-- its word counts otherwise of an owner's item
module _ {T J : Type 0} (v : LocalModel T J) (t : AreTied v.member v.entries) (k : ℕ) (shared : Bool) (g : Gv) (knows : KnowsOwner v.member k shared g)
    (y : ℕ) (lives : 0 < alive y) (plain : IsTrue (is_plain_word y)) where
  near : k < v.member.sizes.slots
  near = let l = low v t k shared g knows in let s = t.slots in omega arith

  pub tied_recounted : AreTied (rewritten v k y) v.entries
  tied_recounted = let l = sound.lives y lives in let was = sound.lives (word_of v.member k) knows.alive in record {
    place = t.place;
    slots = t.slots;
    places = t.places;
    all_cells = t.all_cells;
    long = length-set v.member.words (behind v.member.sizes k) y ∙ t.long;
    wide = t.wide;
    plain = λ i low. dite (ℕ_discrete i k)
        (λ e. subst (λ (x : ℕ). IsTrue (is_plain_word x)) (sym (ap (word_of (rewritten v k y)) e ∙ rewritten_now v k y t near)) plain)
        (λ ne. subst (λ (x : ℕ). IsTrue (is_plain_word x)) (sym (rewritten_then v k y t near i ne)) (t.plain i low));
    waits = λ i low. dite (ℕ_discrete i k)
        (λ e. t.waits i low ∙ (ap waiting (ap (word_of v.member) e) ∙ (was.0
        ∙ sym (ap waiting (ap (word_of (rewritten v k y)) e ∙ rewritten_now v k y t near) ∙ l.0))))
        (λ ne. t.waits i low ∙ ap waiting (sym (rewritten_then v k y t near i ne)));
    privates = λ i low c. dite (ℕ_discrete i k)
        (λ e. t.privates i low c ∙ (ap (waits_for c) (ap (word_of v.member) e)
        ∙ (public_alike c (word_of v.member k) y (alive_public (word_of v.member k) knows.alive) (alive_public y lives)
        ∙ ap (waits_for c) (sym (ap (word_of (rewritten v k y)) e ∙ rewritten_now v k y t near)))))
        (λ ne. t.privates i low c ∙ ap (waits_for c) (sym (rewritten_then v k y t near i ne)));
    kept = λ i low filled. dite (ℕ_discrete i k)
        (λ e. t.kept i low (ap full (ap (word_of v.member) e) ∙ was.1))
        (λ ne. t.kept i low (sym (ap full (rewritten_then v k y t near i ne)) ∙ filled));
    table = t.table;
    jobs = λ j near_job. subst (λ (w : ℕ). MatchesPlace w (entry_at v.member.jobs j))
        (sym (rewritten_then v k y t near (place_number v.member j) (λ e. let s = low v t k shared g knows in omega arith))) (t.jobs j near_job);
    bags = t.bags;
    now = t.now;
  }

  values_recounted : listing v.member.limits.slots (value_in (record { member = rewritten v k y; entries = v.entries }))
      ≡ listing v.member.limits.slots (value_in v)
  values_recounted = listing_same v.member.limits.slots (value_in v) (value_in (record { member = rewritten v k y; entries = v.entries }))
      (λ i l. value_still v k y t near (taken v t k shared g knows) (alive_taken y lives) i)

  pub world_recounted : counted y ≡ 1 → (n : ℕ) → alive y ≡ n
      → world_of (record { member = rewritten v k y; entries = v.entries }) ≡ with_standing (world_of v) k (Shared n)
  world_recounted several n so_many =
      let slots : ℕ = v.member.limits.slots in let q : LocalModel T J = record { member = rewritten v k y; entries = v.entries } in
      let standings : listing slots (standing_in q) ≡ set (listing slots (standing_in v)) k (Some (Shared n))
      = listing_set slots (standing_in v) (standing_in q) k (λ i l ne. standing_then v k y t near i ne)
      ∙ ap (set (listing slots (standing_in v)) k) (ap standing_by (rewritten_now v k y t near)
      ∙ (stands_owned y true lives several ∙ ap (λ (o : ℕ). Some (Shared o)) so_many)) in
      λ d. record (world_of q) {
        standings = standings d;
        values = values_recounted d;
        cells = cells_kept v.member.limits.cells v.member.sizes v.member.words k y t.all_cells d;
        pointers = pointers_kept v.member.limits.cells v.member.sizes v.member.words k y t.all_cells d;
      }

  pub value_recounted : (i : ℕ) (u : T) → value_at (world_of v) i ≡ Some u
      → value_at (world_of (record { member = rewritten v k y; entries = v.entries })) i ≡ Some u
  value_recounted i u was = ap (λ (vs : List (Option T)). slice_index_or vs i None) values_recounted ∙ was

module _ {T J : Type 0} (v : LocalModel T J) (m : LocalState J) (k : ℕ) (shared : Bool) (g : Gv) (word : ℕ) (is : LeavesAt k word v.member m) where
  abbrev lessened : LocalModel T J
  lessened = record { member = rewritten v k (word - 1); entries = v.entries }

  module _ (lone : IsLone v.member) (t : AreTied v.member v.entries) (knows : KnowsOwner v.member k shared g) where
    is_counted : counted (word_of v.member k) ≡ 1
    is_counted = ap counted (is.lone lone) ∙ is.counted

    pub is_several : shared ≡ true
    is_several = shared_of shared (sym knows.kind ∙ is_counted)

    pub more_owners : 1 < alive (word_of v.member k)
    more_owners = let a = ap alive (is.lone lone) in let b = is.several in omega arith

    -- the word then
    less_now : (counted (word - 1) ≡ 1) × (alive (word - 1) + 1 ≡ alive word) × IsTrue (is_plain_word (word - 1))
    less_now = let plain = subst (λ (x : ℕ). IsTrue (is_plain_word x)) (is.lone lone) (t.plain k (low v t k shared g knows)) in
        let c = counts_of word plain is.counted in let c0 = c.0 in let c2 = c.2 in let more = is.several in
        let l = some_left (word - 1) (omega arith) in let l0 = l.0 in (l.3, omega arith, plain_less word plain is.counted is.several)

    less_lives : 0 < alive (word - 1)
    less_lives = let l = less_now.1 in let more = is.several in omega arith

    tied_lessened : AreTied (rewritten v k (word - 1)) v.entries
    tied_lessened = tied_recounted v t k shared g knows (word - 1) less_lives less_now.2

    pub tied_left : AreTied m v.entries
    tied_left = subst (λ (y : LocalState J). AreTied y v.entries) (sym is.member) tied_lessened

    world_lessened : world_of lessened ≡ with_standing (world_of v) k (Shared (alive (word_of v.member k) - 1))
    world_lessened = world_recounted v t k shared g knows (word - 1) less_lives less_now.2 less_now.0 (alive (word_of v.member k) - 1)
        (let fewer = less_now.1 in let found = ap alive (is.lone lone) in omega arith)

    pub world_left : world_of (record { member = m; entries = v.entries }) ≡ owner_given (world_of v) v.member.place k (standing_at (world_of v) k)
    world_left = ap (λ (y : LocalState J). world_of (record { member = y; entries = v.entries })) is.member ∙ (world_lessened
        ∙ (sym (fewer_by (world_of v) v.member.place k (alive (word_of v.member k)) shared is_several more_owners)
        ∙ ap (owner_given (world_of v) v.member.place k) (sym (stands v t k shared g knows))))

    value_left : (i : ℕ) (u : T) → value_at (world_of v) i ≡ Some u → value_at (world_of lessened) i ≡ Some u
    value_left = value_recounted v t k shared g knows (word - 1) less_lives less_now.2

-- ---- for an answer
module _ {T J : Type 0} (v : LocalModel T J) (m : LocalState J) (right : Right) (tied : WordsMatchValues v.member v.entries)
    (knows : IsLone v.member → (g : Gv) × KnowsOwner v.member (number_of right) (is_shared (kind_of right)) g) where
  abbrev pub Went : Bool → Type 0
  Went last = OwnerGoes (number_of right) (is_shared (kind_of right)) last v.member m

  abbrev own_slot : ℕ
  own_slot = number_of right

  abbrev shared : Bool
  shared = is_shared (kind_of right)

  -- of its own, of its limits and of its home all stays, but what waits
  pub went_limits : (last : Bool) → Went last → m.limits ≡ v.member.limits
  went_limits true w = ap (λ (y : LocalState J). y.limits) w.1.member
  went_limits false w = ap (λ (y : LocalState J). y.limits) w.1.member

  pub went_home : (last : Bool) → Went last → home_in m ≡ home_in v.member
  went_home true w = ap home_in w.1.member
  went_home false w = ap home_in w.1.member

  pub went_due : (last : Bool) → Went last → m.due ≡ v.member.due
  went_due true w = ap (λ (y : LocalState J). y.due) w.1.member
  went_due false w = ap (λ (y : LocalState J). y.due) w.1.member

  pub went_closes : (last : Bool) → Went last → m.slots.closes ≡ v.member.slots.closes
  went_closes true w = ap (λ (y : LocalState J). y.slots.closes) w.1.member
  went_closes false w = ap (λ (y : LocalState J). y.slots.closes) w.1.member

  -- nothing less waits with it
  pub grows_when : (last : Bool) → Went last → KeepsMoreWaiting v.member.own m.own
  grows_when true w = grows_by (number_of right) v.member.own m.own (ap (λ (y : LocalState J). y.own) w.1.member)
  grows_when false w = grows_not v.member.own m.own (ap (λ (y : LocalState J). y.own) w.1.member)

  -- what it keeps of its own
  pub went_own : (last : Bool) → Went last → m.own ≡ left_waiting last (number_of right) v.member.own
  went_own true w = ap (λ (y : LocalState J). y.own) w.1.member
  went_own false w = ap (λ (y : LocalState J). y.own) w.1.member

  -- what it knows of the count rises
  pub went_knows : (last : Bool) → Went last → KnowsOn (known_of v) (known_of (record { member = m; entries = v.entries }))
  went_knows true w = let knew = w.1.knew in let told = ap (λ (y : LocalState J). y.known) w.1.member in record {
    told = omega arith;
    since = ap (λ (y : LocalState J). y.since) w.1.member;
  }
  went_knows false w = let told = ap (λ (y : LocalState J). y.known) w.1.member in record {
    told = omega arith;
    since = ap (λ (y : LocalState J). y.since) w.1.member;
  }

  pub went_caller : (last : Bool) → Went last → caller_of (record { member = m; entries = v.entries }) ≡ caller_of v
  went_caller true w = ap (λ (y : LocalState J). caller_of (record { member = y; entries = v.entries })) w.1.member
  went_caller false w = ap (λ (y : LocalState J). caller_of (record { member = y; entries = v.entries })) w.1.member

  went_lone : (last : Bool) → Went last → IsLone m → IsLone v.member
  went_lone last w one = sym (ap (λ (l : Limits). l.participants) (went_limits last w)) ∙ one

  pub release_tied : (last : Bool) → Went last → WordsMatchValues m v.entries
  release_tied true w one = let lone = went_lone true w one in tied_later v m own_slot shared (knows lone).0 w.0 w.1 tied (λ _. (knows lone).1) one
  release_tied false w one = let lone = went_lone false w one in tied_left v m own_slot shared (knows lone).0 w.0 w.1 lone (tied lone) (knows lone).1

  world_now : (last : Bool) → Went last → IsLone v.member
      → world_of (record { member = m; entries = v.entries }) ≡ owner_given (world_of v) v.member.place own_slot (standing_at (world_of v) own_slot)
  world_now true w lone = world_later v m own_slot shared (knows lone).0 w.0 w.1 tied (λ _. (knows lone).1) lone
  world_now false w lone = world_left v m own_slot shared (knows lone).0 w.0 w.1 lone (tied lone) (knows lone).1

  tells_last : (last : Bool) → Went last → (lone : IsLone v.member)
      → IsTrue last ↔ ¬ (IsTrue (has_others (Some (if shared then Shared (alive (word_of v.member own_slot)) else Owned))))
  tells_last true w lone = let none = none_other (alive (word_of v.member own_slot)) shared
      (last_owner v m own_slot shared (knows lone).0 w.0 w.1 lone (knows lone).1) in
      ((λ _ some_other. true≢false (sym some_other ∙ none)), (λ _. refl))
  tells_last false w lone = let a = is_several v m own_slot shared (knows lone).0 w.0 w.1 lone (tied lone) (knows lone).1 in
      let b = more_owners v m own_slot shared (knows lone).0 w.0 w.1 lone (tied lone) (knows lone).1 in
      ((λ e. absurd (true≢false (sym e))), (λ none. absurd (none (some_others (alive (word_of v.member own_slot)) shared a b))))

  keeps_late : (last : Bool) → Went last → (shown : T → Gv) (holds : T → List OwnerOrCell) (b : Bool) → (IsTrue b → IsLone v.member) → (i : ℕ) (u : T)
      → ShowsBy b shown holds v i u → ShowsBy b shown holds (record { member = m; entries = v.entries }) i u
  keeps_late true w shown holds true lone i u h = keeps_when v m own_slot shared (knows (lone refl)).0 w.0 w.1 tied
      (λ _. (knows (lone refl)).1) shown holds true lone i u h
  keeps_late true w shown holds false lone i u h = subst (λ (y : LocalState J). space.SeesValue shown holds y i u) (sym w.1.member) h
  keeps_late false w shown holds true lone i u h = ap (λ (y : LocalState J). value_at (world_of (record { member = y; entries = v.entries })) i) w.1.member
      ∙ value_left v m own_slot shared (knows (lone refl)).0 w.0 w.1 (lone refl) (tied (lone refl)) (knows (lone refl)).1 i u h
  keeps_late false w shown holds false lone i u h = subst (λ (y : LocalState J). space.SeesValue shown holds y i u) (sym w.1.member) h

  module _ (last : Bool) (went : Went last) (p : LocalModel T J) (same : v ≡ p) where
    lone_of : IsTrue (is_lone p.member) → IsLone v.member
    lone_of exact = lone_is v.member (subst (λ (q : LocalModel T J). IsTrue (is_lone q.member)) (sym same) exact)

    stands_now : (exact : IsTrue (is_lone p.member))
        → standing_at (world_of p) own_slot ≡ Some (if shared then Shared (alive (word_of v.member own_slot)) else Owned)
    stands_now exact = let lone = lone_of exact in subst (λ (q : LocalModel T J). standing_at (world_of q) own_slot
        ≡ Some (if shared then Shared (alive (word_of v.member own_slot)) else Owned)) same (stands v (tied lone) own_slot shared (knows lone).0 (knows lone).1)

    pub release_owned : IsTrue (is_lone p.member) → IsOwnedBy (kind_of right) (standing_at (world_of p) (number_of right))
    release_owned exact = let lone = lone_of exact in subst (IsOwnedBy (kind_of right)) (sym (stands_now exact))
        (owned_by (kind_of right) (alive (word_of v.member own_slot)) (knows lone).1.alive
        (few_owners v (tied lone) own_slot shared (knows lone).0 (knows lone).1))

    pub release_last : IsTrue (is_lone p.member) → IsTrue last ↔ ¬ (IsTrue (has_others (standing_at (world_of p) (number_of right))))
    release_last exact = subst (λ (s : Option Standing). IsTrue last ↔ ¬ (IsTrue (has_others s))) (sym (stands_now exact))
        (tells_last last went (lone_of exact))

    pub release_world : IsTrue (is_lone p.member) → world_of (record { member = m; entries = v.entries })
        ≡ owner_given (world_of p) p.member.place (number_of right) (standing_at (world_of p) (number_of right))
    release_world exact = world_now last went (lone_of exact)
        ∙ ap (λ (q : LocalModel T J). owner_given (world_of q) q.member.place (number_of right) (standing_at (world_of q) (number_of right))) same

    pub release_keeps : (shown : T → Gv) (holds : T → List OwnerOrCell)
        → KeepsShown (Shows shown holds p) (Shows shown holds (record { member = m; entries = v.entries }))
    release_keeps shown holds i u h = let before : Shows shown holds v i u = subst (λ (q : LocalModel T J). Shows shown holds q i u) (sym same) h in
        subst (λ (b : Bool). ShowsBy b shown holds (record { member = m; entries = v.entries }) i u)
        (ap (λ (l : Limits). l.participants == 1) (sym (went_limits last went)))
        (keeps_late last went shown holds (is_lone v.member) (λ exact. lone_is v.member exact) i u before)
