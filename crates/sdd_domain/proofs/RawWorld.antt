-- What a lone participant's putting out of an item as raw, its taking back, and a look at it meanwhile are for its world
use Rattle.std.proofs.Common.{Bor, ◌≡◌, ◌≢◌, ◌↔◌, ℕ, ◌<◌, Bool, true, false, IsTrue, List, Some, None, set, slice_index_or, sym, refl, ap, ◌∙◌, subst, arith, length-set}
use Rattle.std.specs.Prelude.{Option, MatchOption, IfSome, IsSome}
use mathlib.Core.Logic.{dite}
use native.Mathlib.Decide.{ℕ_discrete, dec_lt}
use base.Stored.{Gv}
use denote.RattleType.{RattleType}
use Rattle.sdd_participants.specs.declared.standing.Standing.{Standing}
use Rattle.sdd_participants.specs.declared.standing.Standing.TheVariants.{Owned, Private, Raw, Retired, Shared}
use Rattle.sdd_shared_values.specs.SharedValues.{showing}
use Rattle.sdd_domain_invariant.specs.Codes.{alive, waiting, waits_for, full, counted, private, shared_base}
use Rattle.sdd_domain_invariant.specs.Slots.SlotSteps.{behind}
use Rattle.sdd_domain_invariant.proofs.Codes.{none_left, owned_is, raw_is, raw_plain, some_left, sound, waiting_is}
use Rattle.sdd_domain_invariant.specs.Fractions.BankInvariant.{one_where}
use Rattle.sdd_domain_invariant.specs.Slots.FilledInvariant.{newest}
use Rattle.sdd_world_model.specs.OwnerOrCell.{OwnerOrCell, AreOf}
use Rattle.sdd_space.specs.Ptr.{KeepsShown}
use Rattle.sdd_space.specs.Undisturbed.{Undisturbed}
use Rattle.sdd_world_model.specs.KnownEpochs.{KnowsOn}
use Rattle.sdd_world_model.specs.World.{World, value_at, standing_at}
use Rattle.sdd_world_model.specs.WorldInvariant.{IsWhole}
use Rattle.sdd_world_model.proofs.PlacesMatchStates.{Whole-restands}
use Rattle.sdd_world_model.specs.Out.{is_out}
use Rattle.sdd_rights.specs.declared.right.Right.{Right}
use Rattle.sdd_rights.specs.declared.right.StandingKind.TheVariants as kinds
use Rattle.sdd_rights.specs.Right.{number_of}
use Rattle.sdd_world_model.specs.WorldChanges.{with_standing}
use Rattle.sdd_domain_steps.specs.LocalState.{LocalState, IsLone, KnowsOwner, LooksAt, place_number, word_of}
use Rattle.sdd_domain_steps.specs.SeenSlots.{IsOnce}
use Rattle.sdd_domain_steps.specs.RawItems.{with_word, put_out, taken_back, IsOut, KnowsRaw}
use Rattle.sdd_domain_steps.specs.Values.{one_showing}
use Rattle.sdd_participants.specs.Slab.{entry_at}
use Rattle.sdd_domain_steps.specs.WordsAndValues.{AreTied, MatchesPlace, WordsMatchValues, is_plain_word}
use Rattle.sdd_domain_steps.specs.Local.{LocalModel, listing, standing_by, value_by, standing_in, value_in, world_of}
use Rattle.sdd_domain_core.specs.Space.{ShowsBy, Shows, is_lone, caller_in, caller_of, known_of}
use Rattle.sdd_domain_steps.specs.SpaceIds.{home_in}
use Rattle.sdd_domain_steps.specs.Items.{IsRightTo}
use Rattle.sdd_domain_core.specs.Sound.{IsSound}
use Rattle.sdd_domain_core.proofs.Sound.{sound_then, sound_step}
use Rattle.sdd_domain_core.proofs.Listings.{listing_at, listing_past, listing_set, listing_same}
use Rattle.sdd_domain_core.proofs.Words.{alive_public, public_alike, plain_by, word_same, word_other, stands_owned, stands_claimed, stands_private, stands_raw, stands_retired}
use Rattle.sdd_domain_core.proofs.OwnerLooks.{low, taken, stands, shown_entry, closes_looks, only_looks, shows_it, keeps_it}
use Rattle.sdd_domain_core.proofs.GuardCalls.{lone_is}
use Rattle.sdd_domain_core.proofs.Refusals.{words_only, words_undisturbed}
use Rattle.sdd_domain_core.proofs.LoneCalls.{cells_kept, pointers_kept}

-- ---- a word changes of an item that stays
-- an item that neither waits, for no collector or for one, nor is free
abbrev IsKeptBy : ℕ → Type 0
IsKeptBy word = (waiting word ≡ 0) × (full word ≡ 1) × (word ≢ 0) × (private word ≡ 0)

module _ {T J : Type 0} (v : LocalModel T J) (k y : ℕ) where
  abbrev changed : LocalModel T J
  changed = record { member = with_word k y v.member; entries = v.entries }

  module _ (t : AreTied v.member v.entries) (near : k < v.member.limits.slots) where
    -- the word is this then, and the others are as they were
    inside_here : k < v.member.sizes.slots
    inside_here = let s = t.slots in omega arith

    word_now : word_of (with_word k y v.member) k ≡ y
    word_now = word_same v.member.sizes v.member.words t.long k y inside_here

    word_then : (i : ℕ) → i ≢ k → word_of (with_word k y v.member) i ≡ word_of v.member i
    word_then i ne = word_other v.member.sizes v.member.words t.long k y i ne

    module _ (was : IsKeptBy (word_of v.member k)) (now : IsKeptBy y) where
      -- words, bags and ghost values go together still
      pub tied_word : IsTrue (is_plain_word y) → AreTied (with_word k y v.member) v.entries
      tied_word plain = record {
        place = t.place;
        slots = t.slots;
        places = t.places;
        all_cells = t.all_cells;
        long = length-set v.member.words (behind v.member.sizes k) y ∙ t.long;
        wide = t.wide;
        plain = λ i l. dite (ℕ_discrete i k)
            (λ e. subst (λ (x : ℕ). IsTrue (is_plain_word x)) (sym (ap (word_of (with_word k y v.member)) e ∙ word_now)) plain)
            (λ ne. subst (λ (x : ℕ). IsTrue (is_plain_word x)) (sym (word_then i ne)) (t.plain i l));
        waits = λ i l. dite (ℕ_discrete i k)
            (λ e. let w = t.waits i l in let a = ap waiting (ap (word_of v.member) e) in let b = was.0 in let c = now.0 in
            let d = ap waiting (ap (word_of (with_word k y v.member)) e ∙ word_now) in omega arith)
            (λ ne. t.waits i l ∙ ap waiting (sym (word_then i ne)));
        privates = λ i l c. dite (ℕ_discrete i k)
            (λ e. t.privates i l c ∙ (ap (waits_for c) (ap (word_of v.member) e) ∙ (public_alike c (word_of v.member k) y was.3 now.3
            ∙ ap (waits_for c) (sym (ap (word_of (with_word k y v.member)) e ∙ word_now)))))
            (λ ne. t.privates i l c ∙ ap (waits_for c) (sym (word_then i ne)));
        kept = λ i l filled. dite (ℕ_discrete i k) (λ e. t.kept i l (ap full (ap (word_of v.member) e) ∙ was.1))
            (λ ne. t.kept i l (sym (ap full (word_then i ne)) ∙ filled));
        table = t.table;
        jobs = λ j l. subst (λ (w : ℕ). MatchesPlace w (entry_at v.member.jobs j))
            (sym (word_then (place_number v.member j) (λ e. absurd (omega arith)))) (t.jobs j l);
        bags = t.bags;
        now = t.now;
      }

      -- a slot that isn't free has its value
      value_of : (x : ℕ) (e : Option (T × Gv)) → x ≢ 0 → value_by x e ≡ value_by 1 e
      value_of x e ne = grind arith

      -- so all values are as they were
      values_same : listing v.member.limits.slots (value_in changed) ≡ listing v.member.limits.slots (value_in v)
      values_same = listing_same v.member.limits.slots (value_in v) (value_in changed) (λ i l. dite (ℕ_discrete i k)
          (λ e. let entry : Option (T × Gv) = slice_index_or v.entries i None in
          ap (λ (x : ℕ). value_by x entry) (ap (word_of (with_word k y v.member)) e ∙ word_now) ∙ (value_of y entry now.2
          ∙ (sym (value_of (word_of v.member k) entry was.2) ∙ ap (λ (x : ℕ). value_by x entry) (sym (ap (word_of v.member) e)))))
          (λ ne. ap (λ (x : ℕ). value_by x (slice_index_or v.entries i None)) (word_then i ne)))

      -- in its world the slot stands otherwise, and nothing else has changed
      pub world_word : (s : Standing) → standing_by y ≡ Some s → world_of changed ≡ with_standing (world_of v) k s
      world_word s is = let n : ℕ = v.member.limits.slots in
          let standings : listing n (standing_in changed) ≡ set (listing n (standing_in v)) k (Some s)
          = listing_set n (standing_in v) (standing_in changed) k (λ i l ne. ap standing_by (word_then i ne))
          ∙ ap (set (listing n (standing_in v)) k) (ap standing_by word_now ∙ is) in
          λ d. record (world_of v) {
            standings = standings d;
            values = values_same d;
            cells = cells_kept v.member.limits.cells v.member.sizes v.member.words k y t.all_cells d;
            pointers = pointers_kept v.member.limits.cells v.member.sizes v.member.words k y t.all_cells d;
          }

      -- and each slot has its value still
      pub value_word : (i : ℕ) (u : T) → value_at (world_of v) i ≡ Some u → value_at (world_of changed) i ≡ Some u
      value_word i u h = ap (λ (l : List (Option T)). slice_index_or l i None) values_same ∙ h

-- so it is where it has an owner, and where it is out as raw
owned_kept : IsKeptBy 1
owned_kept = let o = owned_is 0 (omega arith) in
    (o.1, (sound.lives 1 (let a = o.0 in omega arith)).1, (λ e. absurd (omega arith)), alive_public 1 (let a = o.0 in omega arith))

raw_kept : IsKeptBy 2
raw_kept = let r = raw_is 0 (omega arith) in (r.1, r.2, (λ e. absurd (omega arith)), (raw_plain 0 (omega arith)).0)

-- ---- it goes out
module _ {T J : Type 0} (v : LocalModel T J) (k : ℕ) (tied : WordsMatchValues v.member v.entries)
    (knows : IsLone v.member → (g : Gv) × KnowsOwner v.member k false g) where
  near_owned : (lone : IsLone v.member) → k < v.member.limits.slots
  near_owned lone = let r = knows lone in low v (tied lone) k false r.0 r.1

  kept_owned : (lone : IsLone v.member) → IsKeptBy (word_of v.member k)
  kept_owned lone = let r = knows lone in let lives = sound.lives (word_of v.member k) r.1.alive in
      (lives.0, lives.1, taken v (tied lone) k false r.0 r.1, alive_public (word_of v.member k) r.1.alive)

  -- the invariant, the world, how the slot stood, and what is shown
  pub out_tied : WordsMatchValues (put_out k v.member) v.entries
  out_tied lone = tied_word v k 2 (tied lone) (near_owned lone) (kept_owned lone) raw_kept refl

  pub out_world : IsLone v.member → world_of (record { member = put_out k v.member; entries = v.entries }) ≡ with_standing (world_of v) k Raw
  out_world lone = world_word v k 2 (tied lone) (near_owned lone) (kept_owned lone) raw_kept Raw stands_raw

  pub out_stood : IsLone v.member → standing_at (world_of v) k ≡ Some Owned
  out_stood lone = let r = knows lone in stands v (tied lone) k false r.0 r.1

  out_keeps_by : (shown : T → Gv) (holds : T → List OwnerOrCell) (b : Bool) → (IsTrue b → IsLone v.member) → (i : ℕ) (u : T) → ShowsBy b shown holds v i u
      → ShowsBy b shown holds (record { member = put_out k v.member; entries = v.entries }) i u
  out_keeps_by shown holds true lone i u h =
      value_word v k 2 (tied (lone refl)) (near_owned (lone refl)) (kept_owned (lone refl)) raw_kept i u h
  out_keeps_by shown holds false lone i u h = record { known = h.known; only = h.only; home = h.home }

  pub out_keeps : (shown : T → Gv) (holds : T → List OwnerOrCell)
      → KeepsShown (Shows shown holds v) (Shows shown holds (record { member = put_out k v.member; entries = v.entries }))
  out_keeps shown holds i u h = out_keeps_by shown holds (is_lone v.member) (λ exact. lone_is v.member exact) i u h

-- ---- it comes back
-- no owner stands as raw
not_raw_owner : (x : ℕ) (several : Bool) → 0 < alive x → counted x ≡ one_where several → standing_by x ≢ Some Raw
not_raw_owner x true some kind e = let a : Some (Shared (alive x)) ≡ Some Raw = sym (stands_owned x true some kind) ∙ e in absurd cc
not_raw_owner x false some kind e = let a : Some Owned ≡ Some Raw = sym (stands_owned x false some kind) ∙ e in absurd cc

module _ {T J : Type 0} (v : LocalModel T J) (k : ℕ) (tied : WordsMatchValues v.member v.entries) where
  -- what stands as raw is out
  out_if : (x : ℕ) → IsTrue (is_plain_word x) → standing_by x ≡ Some Raw → x ≡ 2
  out_if x plain is = plain_by x plain (λ e. absurd (let a : None ≡ Some Raw = sym (ap standing_by e) ∙ is in cc))
      (λ e. absurd (let o = owned_is 0 (omega arith) in let a = ap alive e in let n = ap counted e in
      not_raw_owner x false (omega arith) (let few = sound.few x in omega arith) is))
      (λ e. absurd (let w = waiting_is 0 (omega arith) in let a = ap waiting e in
      let b : Some Retired ≡ Some Raw = sym (stands_retired x (omega arith)) ∙ is in cc)) (λ e. e)
      (λ b. dite (ℕ_discrete x shared_base) (λ e. absurd (let w = ap waiting e ∙ none_left.1 in
      let b : Some Retired ≡ Some Raw = sym (stands_retired x w) ∙ is in cc))
      (λ ne. absurd (let low = b.0 in let l = some_left x (omega arith) in not_raw_owner x true (let n = l.0 in omega arith) l.3 is)))
      (λ j e low. absurd (let b : Some (Private j) ≡ Some Raw = sym (ap standing_by e ∙ stands_private j (omega arith)) ∙ is in cc))

  -- what isn't out doesn't stand as raw
  pub not_out : IsLone v.member → (k < v.member.limits.slots → ¬ (IsOut v.member k)) → standing_at (world_of v) k ≢ Some Raw
  not_out lone never is = dite (dec_lt k v.member.limits.slots)
      (λ near. never near (out_if (word_of v.member k) ((tied lone).plain k near)
      (sym (listing_at v.member.limits.slots (standing_in v) k None near) ∙ is)))
      (λ far. absurd (let a : None ≡ Some Raw = sym (listing_past v.member.limits.slots (standing_in v) k None (omega arith)) ∙ is in cc))

  module _ (near : k < v.member.limits.slots) (knows : IsLone v.member → (g : Gv) × KnowsRaw v.member k g) where
    -- how the slot stood, the invariant, the world, and what is shown
    pub raw_stood : IsLone v.member → standing_at (world_of v) k ≡ Some Raw
    raw_stood lone = listing_at v.member.limits.slots (standing_in v) k None near
        ∙ (ap standing_by (knows lone).1.out ∙ stands_raw)

    kept_raw : IsLone v.member → IsKeptBy (word_of v.member k)
    kept_raw lone = subst IsKeptBy (sym (knows lone).1.out) raw_kept

    pub back_tied : WordsMatchValues (taken_back k v.member) v.entries
    back_tied lone = tied_word v k 1 (tied lone) near (kept_raw lone) owned_kept refl

    pub back_world : IsLone v.member → world_of (record { member = taken_back k v.member; entries = v.entries }) ≡ with_standing (world_of v) k Owned
    back_world lone = world_word v k 1 (tied lone) near (kept_raw lone) owned_kept Owned (stands_claimed false)

    back_keeps_by : (shown : T → Gv) (holds : T → List OwnerOrCell) (b : Bool) → (IsTrue b → IsLone v.member) → (i : ℕ) (u : T)
        → ShowsBy b shown holds v i u → ShowsBy b shown holds (record { member = taken_back k v.member; entries = v.entries }) i u
    back_keeps_by shown holds true lone i u h = value_word v k 1 (tied (lone refl)) near (kept_raw (lone refl)) owned_kept i u h
    back_keeps_by shown holds false lone i u h = record { known = h.known; only = h.only; home = h.home }

    pub back_keeps : (shown : T → Gv) (holds : T → List OwnerOrCell)
        → KeepsShown (Shows shown holds v) (Shows shown holds (record { member = taken_back k v.member; entries = v.entries }))
    back_keeps shown holds i u h = back_keeps_by shown holds (is_lone v.member) (λ exact. lone_is v.member exact) i u h

-- ---- what it shows meanwhile is what is in its slot
module _ {J : Type 0} (R : RattleType) (v : LocalModel R.Denot J) (k : ℕ) (x : R.Denot) (tied : WordsMatchValues v.member v.entries)
    (codes : (place : ℕ) (y : R.Denot) (g : Gv) → slice_index_or v.entries place None ≡ Some (y, g) → g ≡ showing R y)
    (near : k < v.member.limits.slots) (knows : IsLone v.member → KnowsRaw v.member k (showing R x)) where
  -- it is the value that was moved in last
  pub raw_value : IsLone v.member → value_at (world_of v) k ≡ Some x
  raw_value lone = let t = tied lone in let r = knows lone in
      let e = shown_entry k false (showing R x) (newest k v.member.filled) (slice_index_or v.entries k None) r.newest
      (t.kept k near (ap full r.out ∙ (raw_is 0 (omega arith)).2)) in
      let same : e.0.0 ≡ x = one_showing R e.0.0 x (sym (codes k e.0.0 e.0.1 e.1) ∙ e.2) in
      listing_at v.member.limits.slots (value_in v) k None near ∙ ((λ d. value_by (r.out d) (e.1 d)) ∙ ap Some same)

-- ---- for answers
module _ {T J : Type 0} (v : LocalModel T J) (m : LocalState J) (k : ℕ) (is : m ≡ put_out k v.member) (tied : WordsMatchValues v.member v.entries)
    (knows : IsLone v.member → (g : Gv) × KnowsOwner v.member k false g) where
  -- the invariants, how the slot stood, the world, and what is left alone
  pub puts_tied : WordsMatchValues m v.entries
  puts_tied = subst (λ (y : LocalState J). WordsMatchValues y v.entries) (sym is) (out_tied v k tied knows)

  puts_world_alone : IsLone v.member → world_of (record { member = m; entries = v.entries }) ≡ with_standing (world_of v) k Raw
  puts_world_alone lone = ap (λ (y : LocalState J). world_of (record { member = y; entries = v.entries })) is ∙ out_world v k tied knows lone

  pub puts_sound : (holds : T → List OwnerOrCell) → IsSound holds v → IsSound holds (record { member = m; entries = v.entries })
  puts_sound holds sound = sound_then holds v m sound (ap (λ (y : LocalState J). y.due) is ∙ sound.settled)
      (ap (λ (y : LocalState J). y.slots.closes) is ∙ sound.closes) (ap home_in is) (λ one.
      let lone : IsLone v.member = sym (ap (λ (y : LocalState J). y.limits.participants) is) ∙ one in
      subst (λ (w : World T). IsWhole w) (sym (puts_world_alone lone))
      (Whole-restands (world_of v) k Raw (ap is_out (out_stood v k tied knows lone)) refl (sound.whole lone)))

  module _ (p : LocalModel T J) (same : v ≡ p) where
    lone_of : IsTrue (is_lone p.member) → IsLone v.member
    lone_of exact = lone_is v.member (subst (λ (q : LocalModel T J). IsTrue (is_lone q.member)) (sym same) exact)

    pub puts_stood : IsTrue (is_lone p.member) → standing_at (world_of p) k ≡ Some Owned
    puts_stood exact = subst (λ (q : LocalModel T J). standing_at (world_of q) k ≡ Some Owned) same (out_stood v k tied knows (lone_of exact))

    pub puts_world : IsTrue (is_lone p.member) → world_of (record { member = m; entries = v.entries }) ≡ with_standing (world_of p) k Raw
    puts_world exact = puts_world_alone (lone_of exact) ∙ ap (λ (q : LocalModel T J). with_standing (world_of q) k Raw) same

    pub puts_undisturbed : (shown : T → Gv) (holds : T → List OwnerOrCell)
        → Undisturbed caller_of (λ (q : LocalModel T J). q.member.own) known_of (λ (q : LocalModel T J). Shows shown holds q) p
        (record { member = m; entries = v.entries })
    puts_undisturbed shown holds = words_undisturbed v m (words_only m v.member (put_out k v.member).words is) shown holds p same (subst (λ (y : LocalState J).
        KeepsShown (Shows shown holds v) (Shows shown holds (record { member = y; entries = v.entries }))) (sym is) (out_keeps v k tied knows shown holds))

-- what the taking back of an item answers
abbrev TakesOrNot : {T J : Type 0} → LocalModel T J → LocalState J → ℕ → Option Right → Type 0
TakesOrNot v m slot r = MatchOption r ((m ≡ v.member) × (IsLone v.member → slot < v.member.limits.slots → ¬ (IsOut v.member slot)))
    (λ right. (number_of right ≡ slot) × (slot < v.member.limits.slots) × (m ≡ taken_back slot v.member)
    × ((value : Gv) × IsRightTo v.member kinds.Owned value right × (IsLone v.member → KnowsRaw v.member slot value)))

module _ {T J : Type 0} (v : LocalModel T J) (m : LocalState J) (slot : ℕ) (tied : WordsMatchValues v.member v.entries) where
  -- only words are others
  takes_words : (r : Option Right) → TakesOrNot v m slot r → m ≡ record v.member { words = m.words }
  takes_words None a = a.0 ∙ (λ d. record v.member { words = sym (ap (λ (y : LocalState J). y.words) a.0) d })
  takes_words (Some right) a = a.2 ∙ (λ d. record v.member { words = sym (ap (λ (y : LocalState J). y.words) a.2) d })

  -- the invariants, what is shown, what is left alone, and the world
  pub takes_tied : (r : Option Right) → TakesOrNot v m slot r → WordsMatchValues m v.entries
  takes_tied None a = subst (λ (y : LocalState J). WordsMatchValues y v.entries) (sym a.0) tied
  takes_tied (Some right) a = subst (λ (y : LocalState J). WordsMatchValues y v.entries) (sym a.2)
      (back_tied v slot tied a.1 (λ lone. (a.3.0, a.3.2 lone)))

  takes_keeps : (shown : T → Gv) (holds : T → List OwnerOrCell) (r : Option Right) → TakesOrNot v m slot r
      → KeepsShown (Shows shown holds v) (Shows shown holds (record { member = m; entries = v.entries }))
  takes_keeps shown holds None a =
      λ i u h. subst (λ (y : LocalState J). Shows shown holds (record { member = y; entries = v.entries }) i u) (sym a.0) h
  takes_keeps shown holds (Some right) a = subst (λ (y : LocalState J). KeepsShown (Shows shown holds v)
      (Shows shown holds (record { member = y; entries = v.entries }))) (sym a.2)
      (back_keeps v slot tied a.1 (λ lone. (a.3.0, a.3.2 lone)) shown holds)

  pub takes_sound : (holds : T → List OwnerOrCell) → IsSound holds v → (r : Option Right) → TakesOrNot v m slot r
      → IsSound holds (record { member = m; entries = v.entries })
  takes_sound holds sound None a = subst (λ (y : LocalState J). IsSound holds (record { member = y; entries = v.entries })) (sym a.0) sound
  takes_sound holds sound (Some right) a = sound_then holds v m sound (ap (λ (y : LocalState J). y.due) a.2 ∙ sound.settled)
      (ap (λ (y : LocalState J). y.slots.closes) a.2 ∙ sound.closes) (ap home_in a.2) (λ one.
      let lone : IsLone v.member = sym (ap (λ (y : LocalState J). y.limits.participants) a.2) ∙ one in
      let knows : IsLone v.member → (g : Gv) × KnowsRaw v.member slot g = λ lone. (a.3.0, a.3.2 lone) in
      subst (λ (w : World T). IsWhole w) (sym (ap (λ (y : LocalState J). world_of (record { member = y; entries = v.entries })) a.2
      ∙ back_world v slot tied a.1 knows lone))
      (Whole-restands (world_of v) slot Owned (ap is_out (raw_stood v slot tied a.1 knows lone)) refl (sound.whole lone)))

  module _ (p : LocalModel T J) (same : v ≡ p) where
    lone_too : IsTrue (is_lone p.member) → IsLone v.member
    lone_too exact = lone_is v.member (subst (λ (q : LocalModel T J). IsTrue (is_lone q.member)) (sym same) exact)

    pub takes_undisturbed : (shown : T → Gv) (holds : T → List OwnerOrCell) (r : Option Right) → TakesOrNot v m slot r
        → Undisturbed caller_of (λ (q : LocalModel T J). q.member.own) known_of (λ (q : LocalModel T J). Shows shown holds q) p
        (record { member = m; entries = v.entries })
    takes_undisturbed shown holds r a = words_undisturbed v m (takes_words r a) shown holds p same (takes_keeps shown holds r a)

    pub takes_exact : (r : Option Right) → TakesOrNot v m slot r → IsTrue (is_lone p.member) → MatchOption r
        ((standing_at (world_of p) slot ≢ Some Raw) × (world_of (record { member = m; entries = v.entries }) ≡ world_of p))
        (λ _. (standing_at (world_of p) slot ≡ Some Raw)
        × (world_of (record { member = m; entries = v.entries }) ≡ with_standing (world_of p) slot Owned))
    takes_exact None a exact = (
      subst (λ (q : LocalModel T J). standing_at (world_of q) slot ≢ Some Raw) same (not_out v slot tied (lone_too exact) (a.1 (lone_too exact))),
      ap (λ (y : LocalState J). world_of (record { member = y; entries = v.entries })) a.0 ∙ ap world_of same,
    )
    takes_exact (Some right) a exact = let lone = lone_too exact in
        let knows : IsLone v.member → (g : Gv) × KnowsRaw v.member slot g = λ lone. (a.3.0, a.3.2 lone) in (
          subst (λ (q : LocalModel T J). standing_at (world_of q) slot ≡ Some Raw) same (raw_stood v slot tied a.1 knows lone),
          ap (λ (y : LocalState J). world_of (record { member = y; entries = v.entries })) a.2
              ∙ (back_world v slot tied a.1 knows lone ∙ ap (λ (q : LocalModel T J). with_standing (world_of q) slot Owned) same),
        )

-- what a look at an item under a guard answers that may be out
abbrev LooksOrNot : {J : Type 0} (R : RattleType) → (R.Denot → List OwnerOrCell) → LocalModel R.Denot J → LocalState J → ℕ → Option (Bor R.Denot) → Type 0
LooksOrNot R holds v m slot r = MatchOption r ((m ≡ v.member) × (IsLone v.member → slot < v.member.limits.slots → ¬ (IsOut v.member slot)))
    (λ x. (slot < v.member.limits.slots) × LooksAt slot false (showing R x.now) v.member m × IsOnce m.shown × AreOf (home_in v.member) (holds x.now)
    × (IsLone v.member → KnowsRaw v.member slot (showing R x.now)))

module _ {J : Type 0} (R : RattleType) (holds : R.Denot → List OwnerOrCell) (v : LocalModel R.Denot J) (m : LocalState J) (slot : ℕ)
    (tied : WordsMatchValues v.member v.entries)
    (codes : (place : ℕ) (y : R.Denot) (g : Gv) → slice_index_or v.entries place None ≡ Some (y, g) → g ≡ showing R y) where
  abbrev after : LocalModel R.Denot J
  after = record { member = m; entries = v.entries }

  -- only what its guards see is other
  looks_only : (r : Option (Bor R.Denot)) → LooksOrNot R holds v m slot r → m ≡ record v.member { slots = m.slots; shown = m.shown }
  looks_only None a = a.0 ∙ (λ d. record v.member { slots = (sym a.0 d).slots; shown = (sym a.0 d).shown })
  looks_only (Some x) a = only_looks R v m slot false x.now a.1

  looks_closes : (r : Option (Bor R.Denot)) → LooksOrNot R holds v m slot r → m.slots.closes ≡ v.member.slots.closes
  looks_closes None a = ap (λ (y : LocalState J). y.slots.closes) a.0
  looks_closes (Some x) a = closes_looks R v m slot false x.now a.1

  looks_world : (r : Option (Bor R.Denot)) → LooksOrNot R holds v m slot r → world_of after ≡ world_of v
  looks_world r a = ap (λ (y : LocalState J). world_of (record { member = y; entries = v.entries })) (looks_only r a)

  -- the invariant, what is shown, what is left alone, and the world
  pub looks_sound : IsSound holds v → (r : Option (Bor R.Denot)) → LooksOrNot R holds v m slot r → IsSound holds after
  looks_sound whole r a = sound_step holds v m whole (λ w _. w) (λ w _ _ i. i) (ap (λ (y : LocalState J). y.due) (looks_only r a))
      (looks_closes r a)
      (ap home_in (looks_only r a)) (λ _. looks_world r a)

  looks_keeps : (r : Option (Bor R.Denot)) → LooksOrNot R holds v m slot r → KeepsShown (Shows (showing R) holds v) (Shows (showing R) holds after)
  looks_keeps None a = λ i u h. subst (λ (y : LocalState J). Shows (showing R) holds (record { member = y; entries = v.entries }) i u) (sym a.0) h
  looks_keeps (Some x) a = keeps_it R v m slot false x.now a.1 holds a.2 v refl

  pub looks_shown : (r : Option (Bor R.Denot)) → LooksOrNot R holds v m slot r → IfSome r (λ x. Shows (showing R) holds after slot x.now)
  looks_shown None a = tt
  looks_shown (Some x) a = shows_it R v m slot false x.now a.1 (raw_value R v slot x.now tied codes a.0 a.4) holds a.3 a.2

  module _ (p : LocalModel R.Denot J) (same : v ≡ p) where
    pub looks_undisturbed : (r : Option (Bor R.Denot)) → LooksOrNot R holds v m slot r
        → Undisturbed caller_of (λ (q : LocalModel R.Denot J). q.member.own) known_of (λ (q : LocalModel R.Denot J). Shows (showing R) holds q) p after
    looks_undisturbed r a = subst (λ (q : LocalModel R.Denot J). Undisturbed caller_of (λ (q : LocalModel R.Denot J). q.member.own) known_of
        (λ (q : LocalModel R.Denot J). Shows (showing R) holds q) q after) same record {
          caller = ap caller_in (looks_only r a);
          own = ap (λ (y : LocalState J). y.own) (looks_only r a);
          known = subst (λ (y : LocalState J). KnowsOn (known_of v) (known_of (record { member = y; entries = v.entries }))) (sym (looks_only r a))
              (record { told = omega arith; since = refl });
          shown = looks_keeps r a;
        }

    pub looks_exact : (r : Option (Bor R.Denot)) → LooksOrNot R holds v m slot r → IsTrue (is_lone p.member)
        → (IsSome r ↔ (standing_at (world_of p) slot ≡ Some Raw)) × (world_of after ≡ world_of p)
    looks_exact r a exact = let lone : IsLone v.member = lone_is v.member (subst (λ (q : LocalModel R.Denot J). IsTrue (is_lone q.member)) (sym same) exact) in
        (stood r a lone, looks_world r a ∙ ap world_of same)
      where
        stood : (r : Option (Bor R.Denot)) → LooksOrNot R holds v m slot r → IsLone v.member → IsSome r ↔ (standing_at (world_of p) slot ≡ Some Raw)
        stood None a lone = (
          (λ some. absurd cc),
          (λ is. absurd (not_out v slot tied lone (a.1 lone) (subst (λ (q : LocalModel R.Denot J). standing_at (world_of q) slot ≡ Some Raw) (sym same) is))),
        )
        stood (Some x) a lone = (
          (λ _. subst (λ (q : LocalModel R.Denot J). standing_at (world_of q) slot ≡ Some Raw) same
              (raw_stood v slot tied a.0 (λ lone. (showing R x.now, a.4 lone)) lone)),
          (λ _. refl),
        )
