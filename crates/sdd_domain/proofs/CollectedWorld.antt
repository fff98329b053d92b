-- What it is for the world of a lone participant that an owner's item waits for a collector from now on
use Rattle.std.proofs.Common.{◌≡◌, ◌≢◌, ◌↔◌, ℕ, ◌<◌, Bool, true, false, IsTrue, List, [], ◌∷◌, ◌++◌, Some, None, length, set, slice_index_or, sym, refl, ap, ◌∙◌, subst, arith, length-set, ◌-◌}
use Rattle.std.specs.Prelude.{Option, if◌then◌else◌, ◌==◌}
use Rattle.std.proofs.lemmas.Bool.{true≢false}
use mathlib.Core.Logic.{dite}
use native.Mathlib.Decide.{ℕ_discrete}
use base.Stored.{Gv}
use Rattle.atomic_table.proofs.Lists.{at_last}
use Rattle.sdd_participants.specs.declared.standing.Standing.TheVariants.{Owned, Shared, Private}
use Rattle.sdd_participants.specs.declared.standing.Standing.{Standing}
use Rattle.sdd_participants.specs.declared.waiting.LimboEntry.TheVariants.{Item}
use Rattle.sdd_participants.specs.declared.waiting.LimboEntry.{LimboEntry}
use Rattle.sdd_participants.specs.EpochState as time
use Rattle.sdd_participants.specs.Slab.{entry_at, with_entry}
use Rattle.sdd_participants.specs.Waiting.{Waiting}
use Rattle.sdd_rights.specs.declared.right.Right.{Right}
use Rattle.sdd_rights.specs.StandingKind.{is_shared}
use Rattle.sdd_rights.specs.Right.{number_of, kind_of}
use Rattle.sdd_world_model.specs.Slots.{IsOwnedBy, has_others}
use Rattle.sdd_rights.specs.declared.views.PrivateItem.{PrivateItem}
use Rattle.sdd_rights.specs.declared.views.WaitingItem.{WaitingItem}
use Rattle.sdd_domain_invariant.specs.Codes.{alive, waiting, waits_for, full, private, private_word}
use Rattle.sdd_domain_invariant.specs.Collectors.CollectorWordSteps.{for_collector}
use Rattle.sdd_domain_invariant.specs.Slots.SlotSteps.{behind, retired_now}
use Rattle.sdd_domain_invariant.specs.Sums.{total}
use Rattle.sdd_domain_invariant.specs.Slots.{waits_in}
use Rattle.sdd_domain_invariant.proofs.Codes.{sound, private_is, waits_privately}
use Rattle.sdd_domain_invariant.proofs.Sums.{total_snoc}
use Rattle.sdd_core.specs.declared.limits.Limits.{Limits}
use Rattle.sdd_world_model.specs.Collecting.{collected, owner_collected}
use Rattle.sdd_world_model.specs.KnownEpochs.{KnowsOn}
use Rattle.sdd_world_model.specs.OwnerOrCell.{OwnerOrCell}
use Rattle.sdd_world_model.specs.Out.{is_out}
use Rattle.sdd_space.specs.Ptr.{KeepsShown}
use Rattle.sdd_world_model.specs.Releases.{left_waiting}
use Rattle.sdd_world_model.specs.World.{World, value_at, standing_at}
use Rattle.sdd_world_model.specs.WorldChanges.{owner_given, retired, with_standing}
use Rattle.sdd_world_model.specs.WorldInvariant.{IsWhole}
use Rattle.sdd_world_model.proofs.PlacesMatchStates.{Whole-waits, live-taken}
use Rattle.sdd_domain_core.specs.Collectors.{CollectsAt, OwnerCollected}
use Rattle.sdd_domain_steps.specs.InBags.{AreInBags, KnownWaiting, known_waiting, is_closed, private_for}
use Rattle.sdd_domain_steps.specs.Local.{LocalModel, listing, standing_by, standing_in, value_in, world_of}
use Rattle.sdd_domain_steps.specs.LocalState.{LocalState, place_number, IsLone, KnowsOwner, word_of}
use Rattle.sdd_domain_core.specs.Sound.{IsSound}
use Rattle.sdd_domain_steps.specs.SpaceIds.{home_in}
use Rattle.sdd_domain_core.specs.Space.{ShowsBy, Shows, is_lone, caller_of, known_of}
use Rattle.sdd_domain_core.specs.Space as space
use Rattle.sdd_domain_steps.specs.WordsAndValues.{MatchesPlace, AreTied, WordsMatchValues, is_plain_word}
use Rattle.sdd_domain_core.proofs.LoneCalls.{alone, steps_alone, cells_kept, pointers_kept}
use Rattle.sdd_domain_core.proofs.GuardCalls.{lone_is}
use Rattle.sdd_domain_steps.proofs.InBags.{none_plain, one_more, turned_private, without_last}
use Rattle.sdd_domain_core.proofs.Listings.{listing_same, listing_set}
use Rattle.sdd_domain_core.proofs.OwnerLooks.{few_owners, low, none_other, one_owner, owned_by, release_keeps, release_last, release_tied, release_world, rewritten_now, rewritten_then, standing_then, stands, taken, value_still, went_knows, went_own, went_caller}
use Rattle.sdd_domain_steps.proofs.PrivateTables.{for_one, for_other, for_other_slot}
use Rattle.sdd_domain_steps.proofs.Reclaims.{what_item}
use Rattle.sdd_domain_core.proofs.Sound.{lives, lone_true, sound_release, sound_then}
use Rattle.sdd_domain_core.proofs.Words.{alive_public, no_private, none_privately, plain_private, stands_private}

-- ---- an item that was to wait for no collector, with none that is being closed, waits for one
module _ (n : ℕ) (known : KnownWaiting) (waiting_now : List Waiting) (taken_out : List LimboEntry) (x : WaitingItem) (collector : ℕ)
    (t : AreInBags n (record known { plain = known.plain ++ x ∷ [] }) waiting_now taken_out) where
  pub privately_more : x.slot < n → known.closes ≡ None → total (waits_in x.slot) known.plain ≡ 0
      → AreInBags n (record known { private = known.private ++ for_collector collector x ∷ [] }) waiting_now taken_out
  privately_more low_slot none_closes none = let more : KnownWaiting = record known { plain = known.plain ++ x ∷ [] } in
      subst (λ (l : List WaitingItem). AreInBags n (record known { plain = l; private = known.private ++ for_collector collector x ∷ [] }) waiting_now
      taken_out)
      (without_last x.slot known.plain x refl ∙ none_plain x.slot known.plain none)
      (turned_private n more waiting_now taken_out t collector (length known.plain) x (at_last known.plain x (length known.plain) refl) low_slot
      (ap (λ (o : Option ℕ). is_closed o collector) none_closes))

-- a word of an item that waits for a collector tells of no other
other_named : (c d : ℕ) → d ≢ c → waits_for d (private_word c) ≡ 0
other_named c d ne = dite (ℕ_discrete (waits_for d (private_word c)) 0) (λ e. e)
    (λ some_wait. absurd (ne (let p = waits_privately d (private_word c) (omega arith) in let e = p.1 in omega arith)))

-- ---- the last owner's item waits for the collector
module _ {T J : Type 0} (v : LocalModel T J) (m : LocalState J) (c k : ℕ) (shared : Bool) (g : Gv) (count : ℕ)
    (is : CollectsAt c k shared count v.member m) where
  abbrev later : LocalModel T J
  later = record { member = m; entries = v.entries }

  abbrev y : ℕ
  y = private_word c

  abbrev item : PrivateItem
  item = for_collector c (retired_now k count)

  abbrev waits_too : LocalState J
  waits_too = record v.member {
    own = time.awaiting (Item k) v.member.own;
    slots = record v.member.slots { privates = v.member.slots.privates ++ item ∷ [] };
    words = set v.member.words (behind v.member.sizes k) y;
    collectors = with_entry v.member.collectors k c;
  }

  lone_still : IsLone m → IsLone v.member
  lone_still one = sym (ap (λ (z : LocalState J). z.limits.participants) is.member) ∙ one

  is_later : IsLone v.member → m ≡ waits_too
  is_later lone = is.member ∙ (λ d. record waits_too {
    known = is.lone lone d;
    slots = record v.member.slots { privates = v.member.slots.privates ++ item ∷ [] };
  })

  -- it was the last
  last_owner : IsLone v.member → KnowsOwner v.member k shared g → alive (word_of v.member k) ≡ 1
  last_owner lone knows = one_owner (word_of v.member k) shared knows.alive knows.kind (is.last lone)

  module _ (t : AreTied v.member v.entries) (knows : KnowsOwner v.member k shared g) where
    inside_here : k < v.member.sizes.slots
    inside_here = let l = low v t k shared g knows in let s = t.slots in omega arith

    word_now : word_of waits_too k ≡ y
    word_now = rewritten_now v k y t inside_here

    word_then : (i : ℕ) → i ≢ k → word_of waits_too i ≡ word_of v.member i
    word_then = rewritten_then v k y t inside_here

    quiet_before : (waiting (word_of v.member k) ≡ 0) × (full (word_of v.member k) ≡ 1)
    quiet_before = sound.lives (word_of v.member k) knows.alive

    public_before : private (word_of v.member k) ≡ 0
    public_before = alive_public (word_of v.member k) knows.alive

    tells_here : (d : ℕ) → total (private_for d k) (v.member.slots.privates ++ item ∷ []) ≡ waits_for d y
    tells_here d = let s = total_snoc (private_for d k) v.member.slots.privates item in let w = t.privates k (low v t k shared g knows) d in
        let z = no_private d (word_of v.member k) public_before in dite (ℕ_discrete d c)
        (λ same. let one = for_one d k item refl (sym same) in
        let named : waits_for d y ≡ 1 = ap (λ (j : ℕ). waits_for j y) same ∙ (private_is c is.fits).4 in omega arith)
        (λ ne. let none = for_other d k item (λ e. ne (sym e)) in let off = other_named c d ne in omega arith)

    tells_there : (i d : ℕ) → i < v.member.limits.slots → i ≢ k
        → total (private_for d i) (v.member.slots.privates ++ item ∷ []) ≡ waits_for d (word_of waits_too i)
    tells_there i d l ne = let s = total_snoc (private_for d i) v.member.slots.privates item in let w = t.privates i l d in
        let none = for_other_slot d i item (λ e. ne (sym e)) in let a = ap (waits_for d) (word_then i ne) in omega arith

    tied_waits : v.member.slots.closes ≡ None → AreTied waits_too v.entries
    tied_waits none_closes = let was = quiet_before in let now = private_is c is.fits in record {
      place = t.place;
      slots = t.slots;
      places = t.places;
      all_cells = t.all_cells;
      long = length-set v.member.words (behind v.member.sizes k) y ∙ t.long;
      wide = t.wide;
      plain = λ i l. dite (ℕ_discrete i k)
          (λ e. subst (λ (x : ℕ). IsTrue (is_plain_word x)) (sym (ap (word_of waits_too) e ∙ word_now)) (plain_private c is.fits))
          (λ ne. subst (λ (x : ℕ). IsTrue (is_plain_word x)) (sym (word_then i ne)) (t.plain i l));
      waits = λ i l. dite (ℕ_discrete i k)
          (λ e. t.waits i l ∙ (ap waiting (ap (word_of v.member) e) ∙ (was.0 ∙ sym (ap waiting (ap (word_of waits_too) e ∙ word_now) ∙ now.1))))
          (λ ne. t.waits i l ∙ ap waiting (sym (word_then i ne)));
      privates = λ i l d. dite (ℕ_discrete i k)
          (λ e. ap (λ (j : ℕ). total (private_for d j) (v.member.slots.privates ++ item ∷ [])) e ∙ (tells_here d
          ∙ ap (waits_for d) (sym (ap (word_of waits_too) e ∙ word_now))))
          (λ ne. tells_there i d l ne);
      kept = λ i l filled. dite (ℕ_discrete i k)
          (λ e. t.kept i l (ap full (ap (word_of v.member) e) ∙ was.1))
          (λ ne. t.kept i l (sym (ap full (word_then i ne)) ∙ filled));
      table = t.table;
      jobs = λ j l. subst (λ (w : ℕ). MatchesPlace w (entry_at v.member.jobs j))
          (sym (word_then (place_number v.member j) (λ e. let s = low v t k shared g knows in omega arith))) (t.jobs j l);
      bags = let near = low v t k shared g knows in let n : ℕ = v.member.limits.slots in let x : WaitingItem = retired_now k count in
          let none = t.waits k near ∙ was.0 in
          privately_more n (known_waiting v.member.slots) (time.awaiting (Item k) v.member.own).bags.waiting v.member.due x c
          (one_more n (known_waiting v.member.slots) v.member.own.bags.waiting v.member.due t.bags x (Item k) refl (what_item n x near) none
          (none_privately k (word_of v.member k) v.member.slots.privates (t.privates k near) public_before)) near none_closes none;
      now = t.now;
    }

    still_there : y ≢ 0
    still_there e = omega arith

    abbrev now_too : LocalModel T J
    now_too = record { member = waits_too; entries = v.entries }

    values_waits : listing v.member.limits.slots (value_in now_too) ≡ listing v.member.limits.slots (value_in v)
    values_waits = listing_same v.member.limits.slots (value_in v) (value_in now_too)
        (λ i l. value_still v k y t inside_here (taken v t k shared g knows) still_there i)

    world_waits : alone now_too ≡ collected (alone v) 0 c k
    world_waits = let n : ℕ = v.member.limits.slots in
        let standings : listing n (standing_in now_too) ≡ set (listing n (standing_in v)) k (Some (Private c))
        = listing_set n (standing_in v) (standing_in now_too) k (λ i l ne. standing_then v k y t inside_here i ne)
        ∙ ap (set (listing n (standing_in v)) k) (ap standing_by word_now ∙ stands_private c is.fits) in
        λ d. record (alone now_too) {
          standings = standings d;
          values = values_waits d;
          cells = cells_kept v.member.limits.cells v.member.sizes v.member.words k y t.all_cells d;
          pointers = pointers_kept v.member.limits.cells v.member.sizes v.member.words k y t.all_cells d;
        }

    value_waits : (i : ℕ) (u : T) → value_at (world_of v) i ≡ Some u → value_at (world_of now_too) i ≡ Some u
    value_waits i u was = ap (λ (vs : List (Option T)). slice_index_or vs i None) values_waits ∙ was

  module _ (tied : WordsMatchValues v.member v.entries) (knows : IsLone v.member → KnowsOwner v.member k shared g) where
    tied_later : v.member.slots.closes ≡ None → WordsMatchValues m v.entries
    tied_later none_closes one = let lone = lone_still one in
        subst (λ (z : LocalState J). AreTied z v.entries) (sym (is_later lone)) (tied_waits (tied lone) (knows lone) none_closes)

    world_later : IsLone v.member → world_of later ≡ collected (world_of v) v.member.place c k
    world_later lone = let t = tied lone in let know = knows lone in
        steps_alone (λ (w : World T) (p : ℕ). collected w p c k) v later t.place (ap (λ (z : LocalState J). z.place) is.member ∙ t.place)
        (ap (λ (z : LocalState J). alone (record { member = z; entries = v.entries })) (is_later lone) ∙ world_waits t know)

    keeps_when : (shown : T → Gv) (holds : T → List OwnerOrCell) (b : Bool) → (IsTrue b → IsLone v.member) → (i : ℕ) (u : T) → ShowsBy b shown holds v i u
        → ShowsBy b shown holds later i u
    keeps_when shown holds true lone i u h = ap (λ (z : LocalState J). value_at (world_of (record { member = z; entries = v.entries })) i)
        (is_later (lone refl)) ∙ value_waits (tied (lone refl)) (knows (lone refl)) i u h
    keeps_when shown holds false lone i u h = subst (λ (z : LocalState J). space.SeesValue shown holds z i u) (sym is.member) h

-- ---- an owner goes to a collector
collects_by : {T : Type 0} (w : World T) (p c k n : ℕ) (shared : Bool) → n ≡ 1
    → owner_collected w p c k (Some (if shared then Shared n else Owned)) ≡ collected w p c k
collects_by w p c k n true one = ap (λ (j : ℕ). owner_collected w p c k (Some (Shared j))) one
collects_by w p c k n false one = refl

out_by : (n : ℕ) (shared : Bool) → is_out (Some (if shared then Shared n else Owned)) ≡ true
out_by n true = refl
out_by n false = refl

-- beside others it does so as to nobody
beside_by : {T : Type 0} (w : World T) (p c k n : ℕ) (shared : Bool) → has_others (Some (if shared then Shared n else Owned)) ≡ true
    → owner_given w p k (Some (if shared then Shared n else Owned)) ≡ owner_collected w p c k (Some (if shared then Shared n else Owned))
beside_by w p c k n true more = (λ d. if more d then with_standing w k (Shared (n - 1)) else retired w p k)
    ∙ sym (λ d. if more d then with_standing w k (Shared (n - 1)) else collected w p c k)
beside_by w p c k n false more = absurd (true≢false (sym more))

-- so there are others where it wasn't the last
tells_beside : (s : Option Standing) → IsTrue false ↔ ¬ (IsTrue (has_others s)) → has_others s ≡ true
tells_beside s tells = by (has_others s) refl
  where
    by : (b : Bool) → has_others s ≡ b → has_others s ≡ true
    by true e = e
    by false e = absurd (true≢false (sym (tells.1 (λ t. true≢false (sym t ∙ e)))))

-- ---- for an answer
module _ {T J : Type 0} (v : LocalModel T J) (m : LocalState J) (c : ℕ) (right : Right) (tied : WordsMatchValues v.member v.entries)
    (closes : v.member.slots.closes ≡ None)
    (knows : IsLone v.member → (g : Gv) × KnowsOwner v.member (number_of right) (is_shared (kind_of right)) g) where
  abbrev pub Gave : Bool → Type 0
  Gave last = OwnerCollected c (number_of right) (is_shared (kind_of right)) last v.member m

  abbrev own_slot : ℕ
  own_slot = number_of right

  abbrev shared : Bool
  shared = is_shared (kind_of right)

  abbrev after : LocalModel T J
  after = record { member = m; entries = v.entries }

  pub gave_limits : (last : Bool) → Gave last → m.limits ≡ v.member.limits
  gave_limits true w = ap (λ (z : LocalState J). z.limits) w.1.member
  gave_limits false w = ap (λ (z : LocalState J). z.limits) w.1.member

  gave_home : (last : Bool) → Gave last → home_in m ≡ home_in v.member
  gave_home true w = ap home_in w.1.member
  gave_home false w = ap home_in w.1.member

  gave_due : (last : Bool) → Gave last → m.due ≡ v.member.due
  gave_due true w = ap (λ (z : LocalState J). z.due) w.1.member
  gave_due false w = ap (λ (z : LocalState J). z.due) w.1.member

  gave_closes : (last : Bool) → Gave last → m.slots.closes ≡ v.member.slots.closes
  gave_closes true w = ap (λ (z : LocalState J). z.slots.closes) w.1.member
  gave_closes false w = ap (λ (z : LocalState J). z.slots.closes) w.1.member

  -- what it knows of the count rises
  pub gave_knows : (last : Bool) → Gave last → KnowsOn (known_of v) (known_of after)
  gave_knows true w = let knew = w.1.knew in let told = ap (λ (z : LocalState J). z.known) w.1.member in record {
    told = omega arith;
    since = ap (λ (z : LocalState J). z.since) w.1.member;
  }
  gave_knows false w = went_knows v m right tied knows false w

  pub gave_caller : (last : Bool) → Gave last → caller_of after ≡ caller_of v
  gave_caller true w = ap (λ (z : LocalState J). caller_of (record { member = z; entries = v.entries })) w.1.member
  gave_caller false w = went_caller v m right tied knows false w

  gave_lone : (last : Bool) → Gave last → IsLone m → IsLone v.member
  gave_lone last w one = sym (ap (λ (l : Limits). l.participants) (gave_limits last w)) ∙ one

  pub gave_tied : (last : Bool) → Gave last → WordsMatchValues m v.entries
  gave_tied true w one = let lone = gave_lone true w one in tied_later v m c own_slot shared (knows lone).0 w.0 w.1 tied (λ _. (knows lone).1) closes one
  gave_tied false w one = release_tied v m right tied knows false w one

  stands_gave : (lone : IsLone v.member) → standing_at (world_of v) own_slot ≡ Some (if shared then Shared (alive (word_of v.member own_slot)) else Owned)
  stands_gave lone = stands v (tied lone) own_slot shared (knows lone).0 (knows lone).1

  one_there : (w : Gave true) (lone : IsLone v.member) → alive (word_of v.member own_slot) ≡ 1
  one_there w lone = last_owner v m c own_slot shared (knows lone).0 w.0 w.1 lone (knows lone).1

  tells_gave : (last : Bool) → Gave last → IsLone v.member → IsTrue last ↔ ¬ (IsTrue (has_others (standing_at (world_of v) own_slot)))
  tells_gave true w lone = let none = ap has_others (stands_gave lone) ∙ none_other (alive (word_of v.member own_slot)) shared (one_there w lone) in
      ((λ _ some_other. true≢false (sym some_other ∙ none)), (λ _. refl))
  tells_gave false w lone = release_last v m right tied knows false w v refl (lone_true v.member lone)

  world_gave : (last : Bool) → Gave last → IsLone v.member
      → world_of after ≡ owner_collected (world_of v) v.member.place c own_slot (standing_at (world_of v) own_slot)
  world_gave true w lone = world_later v m c own_slot shared (knows lone).0 w.0 w.1 tied (λ _. (knows lone).1) lone
      ∙ (sym (collects_by (world_of v) v.member.place c own_slot (alive (word_of v.member own_slot)) shared (one_there w lone))
      ∙ ap (owner_collected (world_of v) v.member.place c own_slot) (sym (stands_gave lone)))
  world_gave false w lone = let here = stands_gave lone in
      let more = sym (ap has_others here) ∙ tells_beside (standing_at (world_of v) own_slot) (tells_gave false w lone) in
      release_world v m right tied knows false w v refl (lone_true v.member lone)
      ∙ (ap (owner_given (world_of v) v.member.place own_slot) here
      ∙ (beside_by (world_of v) v.member.place c own_slot (alive (word_of v.member own_slot)) shared more
      ∙ ap (owner_collected (world_of v) v.member.place c own_slot) (sym here)))

  keeps_late : Gave true → (shown : T → Gv) (holds : T → List OwnerOrCell) (b : Bool) → (IsTrue b → IsLone v.member) → (i : ℕ) (u : T)
      → ShowsBy b shown holds v i u → ShowsBy b shown holds after i u
  keeps_late w shown holds true lone i u h = keeps_when v m c own_slot shared (knows (lone refl)).0 w.0 w.1 tied
      (λ _. (knows (lone refl)).1) shown holds true lone i u h
  keeps_late w shown holds false lone i u h = subst (λ (z : LocalState J). space.SeesValue shown holds z i u) (sym w.1.member) h

  keeps_gave : (last : Bool) → Gave last → (shown : T → Gv) (holds : T → List OwnerOrCell) → KeepsShown (Shows shown holds v) (Shows shown holds after)
  keeps_gave true w shown holds = λ i u h. subst (λ (b : Bool). ShowsBy b shown holds after i u)
      (ap (λ (l : Limits). l.participants == 1) (sym (gave_limits true w)))
      (keeps_late w shown holds (is_lone v.member) (λ exact. lone_is v.member exact) i u h)
  keeps_gave false w shown holds = release_keeps v m right tied knows false w v refl shown holds

  module _ (last : Bool) (gave : Gave last) (p : LocalModel T J) (same : v ≡ p) where
    lone_of : IsTrue (is_lone p.member) → IsLone v.member
    lone_of exact = lone_is v.member (subst (λ (q : LocalModel T J). IsTrue (is_lone q.member)) (sym same) exact)

    pub collect_owned : IsTrue (is_lone p.member) → IsOwnedBy (kind_of right) (standing_at (world_of p) (number_of right))
    collect_owned exact = let lone = lone_of exact in
        subst (λ (q : LocalModel T J). IsOwnedBy (kind_of right) (standing_at (world_of q) own_slot)) same
        (subst (IsOwnedBy (kind_of right)) (sym (stands_gave lone)) (owned_by (kind_of right) (alive (word_of v.member own_slot)) (knows lone).1.alive
        (few_owners v (tied lone) own_slot shared (knows lone).0 (knows lone).1)))

    pub collect_last : IsTrue (is_lone p.member) → IsTrue last ↔ ¬ (IsTrue (has_others (standing_at (world_of p) (number_of right))))
    collect_last exact = subst (λ (q : LocalModel T J). IsTrue last ↔ ¬ (IsTrue (has_others (standing_at (world_of q) own_slot)))) same
        (tells_gave last gave (lone_of exact))

    pub collect_world : IsTrue (is_lone p.member)
        → world_of after ≡ owner_collected (world_of p) p.member.place c (number_of right) (standing_at (world_of p) (number_of right))
    collect_world exact = world_gave last gave (lone_of exact)
        ∙ ap (λ (q : LocalModel T J). owner_collected (world_of q) q.member.place c own_slot (standing_at (world_of q) own_slot)) same

    pub collect_keeps : (shown : T → Gv) (holds : T → List OwnerOrCell) → KeepsShown (Shows shown holds p) (Shows shown holds after)
    collect_keeps shown holds = subst (λ (q : LocalModel T J). KeepsShown (Shows shown holds q) (Shows shown holds after)) same
        (keeps_gave last gave shown holds)

  -- and all that is always true is so still
  pub sound_collected : (holds : T → List OwnerOrCell) → IsSound holds v → (last : Bool) → Gave last → IsSound holds after
  sound_collected holds is true w = sound_then holds v m is (gave_due true w ∙ is.settled) (gave_closes true w ∙ is.closes) (gave_home true w)
      (λ one. let lone = gave_lone true w one in let u : World T = world_of v in
      subst (λ (z : World T). IsWhole z) (sym (world_later v m c own_slot shared (knows lone).0 w.0 w.1 tied (λ _. (knows lone).1) lone))
      (Whole-waits u v.member.place own_slot (Private c) refl (live-taken u.time v.member.place (lives v))
      (ap is_out (stands_gave lone) ∙ out_by (alive (word_of v.member own_slot)) shared) (is.whole lone)))
  sound_collected holds is false w = sound_release holds v m is right tied knows false w
