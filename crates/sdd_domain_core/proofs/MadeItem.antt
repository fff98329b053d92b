-- What a lone participant's making of an item is for its world
use Rattle.std.proofs.Common.{◌≡◌, ◌≢◌, ℕ, ◌<◌, Bool, true, false, IsTrue, List, ◌∷◌, Some, None, length, set, slice_index_or, sym, refl, ap, ◌∙◌, subst, ne_eqb, arith, length-set, get_or-set_same, get_or-set_other}
use Rattle.std.specs.Prelude.{Option, Result, Ok, Err, MatchResult, IfOk, IfErr, IsSome, if◌then◌else◌}
use mathlib.Core.Logic.{dite}
use native.Mathlib.Decide.{ℕ_discrete, dec_lt}
use base.Stored.{Gv}
use denote.RattleType.{RattleType}
use Rattle.sdd_core.specs.declared.refused.Refused.{Refused}
use Rattle.sdd_participants.specs.declared.standing.Standing.{Standing}
use Rattle.sdd_participants.specs.declared.standing.Standing.TheVariants.{Owned, Raw, Shared, Retired}
use Rattle.sdd_participants.specs.Slab.{entry_at, IsEmptyAt, IsFull}
use Rattle.sdd_participants.specs.Tally.{one_made}
use Rattle.sdd_shared_values.specs.SharedValues.{showing}
use Rattle.sdd_rights.specs.declared.right.StandingKind.{StandingKind}
use Rattle.sdd_rights.specs.declared.right.StandingKind.TheVariants as kinds
use Rattle.sdd_rights.specs.declared.right.Right.{Right}
use Rattle.sdd_rights.specs.StandingKind.{is_shared}
use Rattle.sdd_rights.specs.Right.{number_of}
use Rattle.sdd_world_model.specs.Slots.{first_standing}
use Rattle.sdd_rights.specs.declared.views.ShownValue.{ShownValue}
use Rattle.sdd_domain_invariant.specs.Codes.{claimed_word, waiting, waits_for, full}
use Rattle.sdd_domain_invariant.specs.Slots.SlotSteps.{behind}
use Rattle.sdd_domain_invariant.proofs.Codes.{sound, free_is, claimed_is}
use Rattle.sdd_domain_invariant.specs.Slots.FilledInvariant.{newest}
use Rattle.sdd_domain_invariant.proofs.Slots.FilledInvariant.{newest_now, newest_before}
use Rattle.sdd_world_model.specs.OwnerOrCell.{OwnerOrCell}
use Rattle.sdd_space.specs.Ptr.{KeepsShown}
use Rattle.sdd_world_model.specs.World.{value_at}
use Rattle.sdd_world_model.specs.WorldChanges.{made_as}
use Rattle.sdd_domain_steps.specs.LocalState.{LocalState, place_number, IsLone, IsUsedUp, MakesAt, word_of}
use Rattle.sdd_domain_steps.specs.Items.{HasValue, IsRightTo}
use Rattle.sdd_domain_steps.specs.WordsAndValues.{MatchesPlace, Entries, Agrees, AreTied, WordsMatchValues, is_plain_word}
use Rattle.sdd_domain_steps.specs.Local.{LocalModel, listing, standing_by, value_by, item_standing, standing_in, value_in, world_of}
use Rattle.sdd_domain_core.specs.Space.{ShowsBy, Shows, is_lone}
use Rattle.sdd_domain_core.proofs.Listings.{listing_at, listing_long, listing_past, listing_set, listing_all}
use Rattle.sdd_domain_core.proofs.Words.{alive_public, free_public, public_alike, word_same, word_other, plain_claimed, stands_claimed, stands_raw, stands_retired, value_there, alive_taken}
use Rattle.sdd_domain_core.proofs.GuardCalls.{lone_is}
use Rattle.sdd_domain_core.proofs.LoneCalls.{cells_kept, pointers_kept}

pub first_by : (kind : StandingKind) → first_standing kind ≡ (if is_shared kind then Shared 1 else Owned)
first_by kinds.Free = refl
first_by kinds.Owned = refl
first_by kinds.Raw = refl
first_by kinds.Shared = refl
first_by kinds.Retired = refl

-- a slot that isn't free has a standing
some_standing : (word : ℕ) → word ≢ 0 → (s : Standing) × (standing_by word ≡ Some s)
some_standing word taken = dite (ℕ_discrete (waiting word) 1) (λ e. (Retired, stands_retired word e))
    (λ ne. dite (ℕ_discrete word 2) (λ e. (Raw, ap standing_by e ∙ stands_raw))
    (λ other. (
      item_standing word,
      λ d. if ne_eqb word 0 taken d then None
          else (if ne_eqb (waiting word) 1 ne d then Some Retired else (if ne_eqb word 2 other d then Some Raw else Some (item_standing word))),
    )))

is_there : (s : Standing) → IsSome (Some s)
is_there s = refl

pub used_up : {T J : Type 0} (p : LocalModel T J) → IsUsedUp p.member → IsFull (world_of p).standings
used_up p used = listing_all (λ (e : Option Standing). IsSome e) p.member.limits.slots (standing_in p)
    (λ i low. let s = some_standing (word_of p.member i) (used i low) in
    subst (λ (e : Option Standing). IsSome e) (sym s.1) (is_there s.0))

module _ {T J : Type 0} (v : LocalModel T J) (k : ℕ) (shared : Bool) (x : T) (g : Gv) where
  abbrev r : ShownValue
  r = record { slot = k; shared = shared; value = g }

  abbrev y : ℕ
  y = claimed_word shared

  -- what it is once the item was made
  abbrev pub made_member : LocalState J
  made_member = record v.member {
    tally = one_made v.member.tally;
    filled = record { slot = k; shared = shared; value = g } ∷ v.member.filled;
    words = set v.member.words (behind v.member.sizes k) (claimed_word shared);
  }

  abbrev pub made_partaker : LocalModel T J
  made_partaker = record { member = made_member; entries = set v.entries k (Some (x, g)) }

  module _ (t : AreTied v.member v.entries) (low : k < v.member.limits.slots) (free : word_of v.member k ≡ 0) where
    here : k < v.member.sizes.slots
    here = let s = t.slots in omega arith

    wide : k < length v.entries
    wide = let w = t.wide in omega arith

    word_now : word_of made_member k ≡ y
    word_now = word_same v.member.sizes v.member.words t.long k y here

    word_then : (i : ℕ) → i ≢ k → word_of made_member i ≡ word_of v.member i
    word_then i ne = word_other v.member.sizes v.member.words t.long k y i ne

    filled_then : (i : ℕ) → i ≢ k → newest i made_member.filled ≡ newest i v.member.filled
    filled_then i ne = newest_before r v.member.filled i (λ e. ne (sym e))

    entry_now : slice_index_or made_partaker.entries k None ≡ Some (x, g)
    entry_now = get_or-set_same v.entries k (Some (x, g)) None wide

    entry_then : (i : ℕ) → i ≢ k → slice_index_or made_partaker.entries i None ≡ slice_index_or v.entries i None
    entry_then i ne = get_or-set_other v.entries k i (Some (x, g)) None ne

    agrees_now : Agrees (newest k made_member.filled) (slice_index_or made_partaker.entries k None)
    agrees_now = subst (λ (z : Option ShownValue × Option (T × Gv)). Agrees z.0 z.1) (λ d. (sym (newest_now r v.member.filled) d, sym entry_now d)) refl

    pub tied_made : AreTied made_member made_partaker.entries
    tied_made = record {
      place = t.place;
      slots = t.slots;
      places = t.places;
      all_cells = t.all_cells;
      long = length-set v.member.words (behind v.member.sizes k) y ∙ t.long;
      wide = length-set v.entries k (Some (x, g)) ∙ t.wide;
      plain = λ i l. dite (ℕ_discrete i k)
          (λ e. subst (λ (y : ℕ). IsTrue (is_plain_word y)) (sym (ap (word_of made_member) e ∙ word_now)) (plain_claimed shared))
          (λ ne. subst (λ (y : ℕ). IsTrue (is_plain_word y)) (sym (word_then i ne)) (t.plain i l));
      waits = λ i l. dite (ℕ_discrete i k)
          (λ e. let w = t.waits i l in let f = (free_is 0 (omega arith)).1 in let one = (claimed_is shared).0 in
          let o = (sound.lives y (omega arith)).0 in
          let a = ap waiting (ap (word_of v.member) e ∙ free) in let b = ap waiting (ap (word_of made_member) e ∙ word_now) in omega arith)
          (λ ne. t.waits i l ∙ ap waiting (sym (word_then i ne)));
      privates = λ i l c. dite (ℕ_discrete i k)
          (λ e. let one = (claimed_is shared).0 in t.privates i l c ∙ (ap (waits_for c) (ap (word_of v.member) e ∙ free)
          ∙ (public_alike c 0 y free_public (alive_public y (omega arith)) ∙ ap (waits_for c) (sym (ap (word_of made_member) e ∙ word_now)))))
          (λ ne. t.privates i l c ∙ ap (waits_for c) (sym (word_then i ne)));
      kept = λ i l filled. dite (ℕ_discrete i k)
          (λ e. subst (λ (j : ℕ). Agrees (newest j made_member.filled) (slice_index_or made_partaker.entries j None)) (sym e) agrees_now)
          (λ ne. subst (λ (z : Option ShownValue × Option (T × Gv)). Agrees z.0 z.1) (λ d. (sym (filled_then i ne) d, sym (entry_then i ne) d))
          (t.kept i l (sym (ap full (word_then i ne)) ∙ filled)));
      table = t.table;
      jobs = λ j l. subst (λ (w : ℕ). MatchesPlace w (entry_at v.member.jobs j))
          (sym (word_then (place_number v.member j) (λ e. let s = low in omega arith))) (t.jobs j l);
      bags = t.bags;
      now = t.now;
    }

    standing_now : standing_in made_partaker k ≡ Some (if shared then Shared 1 else Owned)
    standing_now = ap standing_by word_now ∙ stands_claimed shared

    value_now : value_in made_partaker k ≡ Some x
    value_now = let one = (claimed_is shared).0 in (λ d. value_by (word_now d) (entry_now d))
        ∙ value_there {T = T} y (Some (x, g)) (alive_taken y (omega arith))

    pub empty_then : IsEmptyAt (world_of v).standings k
    empty_then = (
      (let e = listing_long v.member.limits.slots (standing_in v) in omega arith),
      listing_at v.member.limits.slots (standing_in v) k None low ∙ ap standing_by free,
    )

    pub made_world : world_of made_partaker ≡ made_as (world_of v) k x (if shared then Shared 1 else Owned)
    made_world =
        let standings : listing v.member.limits.slots (standing_in made_partaker)
        ≡ set (listing v.member.limits.slots (standing_in v)) k (Some (if shared then Shared 1 else Owned))
        = listing_set v.member.limits.slots (standing_in v) (standing_in made_partaker) k
        (λ i l ne. ap standing_by (word_then i ne))
        ∙ ap (set (listing v.member.limits.slots (standing_in v)) k) standing_now in
        let values : listing v.member.limits.slots (value_in made_partaker) ≡ set (listing v.member.limits.slots (value_in v)) k (Some x)
        = listing_set v.member.limits.slots (value_in v) (value_in made_partaker) k (λ i l ne. λ d. value_by (word_then i ne d) (entry_then i ne d))
        ∙ ap (set (listing v.member.limits.slots (value_in v)) k) value_now in
        λ d. record (world_of made_partaker) {
          standings = standings d;
          values = values d;
          cells = cells_kept v.member.limits.cells v.member.sizes v.member.words k (claimed_word shared) t.all_cells d;
          pointers = pointers_kept v.member.limits.cells v.member.sizes v.member.words k (claimed_word shared) t.all_cells d;
        }

    -- each slot shows what it showed
    pub value_kept : (i : ℕ) (u : T) → value_at (world_of v) i ≡ Some u → value_at (world_of made_partaker) i ≡ Some u
    value_kept i u was = dite (ℕ_discrete i k)
        (λ e. absurd (no_value (sym (ap (value_at (world_of v)) e ∙ (listing_at v.member.limits.slots (value_in v) k None low
        ∙ ap (λ (w : ℕ). value_by w (slice_index_or v.entries k None)) free)) ∙ was)))
        (λ ne. dite (dec_lt i v.member.limits.slots)
        (λ l. listing_at v.member.limits.slots (value_in made_partaker) i None l ∙ ((λ d. value_by (word_then i ne d) (entry_then i ne d))
        ∙ (sym (listing_at v.member.limits.slots (value_in v) i None l) ∙ was)))
        (λ far. absurd (no_value (sym (listing_past v.member.limits.slots (value_in v) i None (omega arith)) ∙ was))))
      where
        no_value : {u : T} → ¬ (◌≡◌ {A = Option T} None (Some u))
        no_value e = absurd cc

-- ---- for an answer
module _ {J : Type 0} (R : RattleType) (v : LocalModel R.Denot J) (m : LocalState J) (es : Entries R.Denot) (kind : StandingKind) where
  abbrev after : LocalModel R.Denot J
  after = record { member = m; entries = es }

  -- it was refused
  abbrev pub Was : {B : Type 0} → (B × Refused → Type 0) → (B × Refused → Type 0) → B × Refused → Type 0
  Was Back Why e = Back e × (m ≡ v.member) × Why e × (IsLone v.member → (e.1 ≡ Refused.NoSlot) × IsUsedUp v.member) × (es ≡ v.entries)

  -- the value is in the slot, and in the ghost values
  module _ (x : R.Denot) (k : ℕ) (makes : MakesAt k (is_shared kind) (showing R x) v.member m) (entered : es ≡ set v.entries k (Some (x, showing R x))) where
    is_made : after ≡ made_partaker v k (is_shared kind) x (showing R x)
    is_made = λ d. record { member = makes.member d; entries = entered d }

    pub makes_tied : WordsMatchValues v.member v.entries → WordsMatchValues m es
    makes_tied tied one = let lone : IsLone v.member = sym (ap (λ (z : LocalState J). z.limits.participants) makes.member) ∙ one in
        subst (λ (p : LocalModel R.Denot J). AreTied p.member p.entries) (sym is_made)
        (tied_made v k (is_shared kind) x (showing R x) (tied lone) makes.inside (makes.lone lone))

    pub makes_world : WordsMatchValues v.member v.entries → IsLone v.member → IsEmptyAt (world_of v).standings k
        × (world_of after ≡ made_as (world_of v) k x (first_standing kind))
    makes_world tied lone = (
      empty_then v k (is_shared kind) x (showing R x) (tied lone) makes.inside (makes.lone lone),
      ap world_of is_made ∙ (made_world v k (is_shared kind) x (showing R x) (tied lone) makes.inside (makes.lone lone)
          ∙ ap (made_as (world_of v) k x) (sym (first_by kind))),
    )

    keeps_by : (holds : R.Denot → List OwnerOrCell) (b : Bool) → (IsTrue b → IsLone v.member) → WordsMatchValues v.member v.entries → (i : ℕ) (u : R.Denot)
        → ShowsBy b (showing R) holds v i u → ShowsBy b (showing R) holds (made_partaker v k (is_shared kind) x (showing R x)) i u
    keeps_by holds true lone tied i u h = value_kept v k (is_shared kind) x (showing R x) (tied (lone refl)) makes.inside (makes.lone (lone refl)) i u h
    keeps_by holds false lone tied i u h = h

    pub makes_keeps : (holds : R.Denot → List OwnerOrCell) → WordsMatchValues v.member v.entries → KeepsShown (Shows (showing R) holds v)
        (Shows (showing R) holds after)
    makes_keeps holds tied i u h = subst (λ (p : LocalModel R.Denot J). Shows (showing R) holds p i u) (sym is_made)
        (keeps_by holds (is_lone v.member) (λ exact. lone_is v.member exact) tied i u h)

  module _ {B : Type 0} (P : R.Denot → Type 0) (Back Why : B × Refused → Type 0) where
    abbrev pub Answers : Result Right (B × Refused) → Type 0
    Answers r = MatchResult r (λ right. (x : R.Denot) × P x × MakesAt (number_of right) (is_shared kind) (showing R x) v.member m
        × IsRightTo v.member kind (showing R x) right × (es ≡ set v.entries (number_of right) (Some (x, showing R x)))) (Was Back Why)

    pub answered_tied : (r : Result Right (B × Refused)) → Answers r → WordsMatchValues v.member v.entries → WordsMatchValues m es
    answered_tied (Ok right) a tied = makes_tied a.0 (number_of right) a.2 a.4 tied
    answered_tied (Err e) a tied = subst (λ (p : LocalModel R.Denot J). WordsMatchValues p.member p.entries)
        (λ d. record { member = sym a.1 d; entries = sym a.4 d }) tied

    pub answered_owns : (r : Result Right (B × Refused)) → Answers r → IfOk r (λ right. (x : R.Denot) × P x × HasValue (showing R x) right)
    answered_owns (Ok right) a = (a.0, a.1, a.3.value)
    answered_owns (Err e) a = tt

    pub answered_lone : (r : Result Right (B × Refused)) (p : LocalModel R.Denot J) → v ≡ p → Answers r → IsTrue (is_lone p.member)
        → IfErr r (λ e. (e.1 ≡ Refused.NoSlot) × IsFull (world_of p).standings)
    answered_lone (Ok right) p is a exact = tt
    answered_lone (Err e) p is a exact = let n = a.3 (lone_is v.member (subst (λ (q : LocalModel R.Denot J). IsTrue (is_lone q.member)) (sym is) exact)) in
        (n.0, subst (λ (q : LocalModel R.Denot J). IsFull (world_of q).standings) is (used_up v n.1))

    pub answered_keeps : (holds : R.Denot → List OwnerOrCell) (r : Result Right (B × Refused)) (p : LocalModel R.Denot J) → v ≡ p → Answers r
        → WordsMatchValues v.member v.entries → KeepsShown (Shows (showing R) holds p) (Shows (showing R) holds after)
    answered_keeps holds (Ok right) p is a tied i u h = makes_keeps a.0 (number_of right) a.2 a.4 holds tied i u
        (subst (λ (q : LocalModel R.Denot J). Shows (showing R) holds q i u) (sym is) h)
    answered_keeps holds (Err e) p is a tied i u h = subst (λ (q : LocalModel R.Denot J). Shows (showing R) holds q i u)
        (sym is ∙ (λ d. record { member = sym a.1 d; entries = sym a.4 d })) h

    pub answered_world : (r : Result Right (B × Refused)) (p : LocalModel R.Denot J) → v ≡ p → Answers r → WordsMatchValues v.member v.entries → IsTrue
        (is_lone p.member)
        → MatchResult r (λ right. IsEmptyAt (world_of p).standings (number_of right)
        × ((x : R.Denot) × P x × (world_of after ≡ made_as (world_of p) (number_of right) x (first_standing kind))))
        (λ e. IsFull (world_of p).standings × (Back e × (e.1 ≡ Refused.NoSlot)) × (world_of after ≡ world_of p))
    answered_world (Ok right) p is a tied exact = let lone = lone_is v.member
        (subst (λ (q : LocalModel R.Denot J). IsTrue (is_lone q.member)) (sym is) exact) in
        let w = makes_world a.0 (number_of right) a.2 a.4 tied lone in (
          subst (λ (q : LocalModel R.Denot J). IsEmptyAt (world_of q).standings (number_of right)) is w.0,
          (a.0, a.1, w.1 ∙ ap (λ (q : LocalModel R.Denot J). made_as (world_of q) (number_of right) a.0 (first_standing kind)) is),
        )
    answered_world (Err e) p is a tied exact = let n = answered_lone (Err e) p is a exact in (
      n.1,
      (a.0, n.0),
      ap world_of ((λ d. record { member = a.1 d; entries = a.4 d }) ∙ is),
    )

  pub answered_exact : {B : Type 0} (P : R.Denot → Type 0) (back : B) (Why : B × Refused
      → Type 0) (r : Result Right (B × Refused)) (p : LocalModel R.Denot J) → v ≡ p
      → Answers P (λ e. e.0 ≡ back) Why r → WordsMatchValues v.member v.entries → IsTrue (is_lone p.member)
      → MatchResult r (λ right. IsEmptyAt (world_of p).standings (number_of right)
      × ((x : R.Denot) × P x × (world_of after ≡ made_as (world_of p) (number_of right) x (first_standing kind))))
      (λ e. IsFull (world_of p).standings × (e ≡ (back, Refused.NoSlot)) × (world_of after ≡ world_of p))
  answered_exact P back Why (Ok right) p is a tied exact = answered_world P (λ e. e.0 ≡ back) Why (Ok right) p is a tied exact
  answered_exact P back Why (Err e) p is a tied exact = let w = answered_world P (λ e. e.0 ≡ back) Why (Err e) p is a tied exact in
      (w.0, (λ d. (w.1.0 d, w.1.1 d)), w.2)

  -- of a value that is at hand
  pub as_answered : (x : R.Denot) (Why : R.Denot × Refused → Type 0) (r : Result Right (R.Denot × Refused))
      → MatchResult r (λ right. MakesAt (number_of right) (is_shared kind) (showing R x) v.member m × IsRightTo v.member kind (showing R x) right)
      (λ e. (e.0 ≡ x) × (m ≡ v.member) × Why e × (IsLone v.member → (e.1 ≡ Refused.NoSlot) × IsUsedUp v.member))
      → MatchResult r (λ right. es ≡ set v.entries (number_of right) (Some (x, showing R x))) (λ _. es ≡ v.entries)
      → Answers (λ y. y ≡ x) (λ e. e.0 ≡ x) Why r
  as_answered x Why (Ok right) a b = (x, refl, a.0, a.1, b)
  as_answered x Why (Err e) a b = (a.0, a.1, a.2, a.3, b)

  pub value_owns : (x : R.Denot) (r : Result Right (R.Denot × Refused)) → IfOk r (λ right. (y : R.Denot) × (y ≡ x) × HasValue (showing R y) right)
      → IfOk r (λ right. HasValue (showing R x) right)
  value_owns x (Ok right) a = subst (λ (y : R.Denot). HasValue (showing R y) right) a.1 a.2
  value_owns x (Err e) a = tt

  pub value_exact : (x : R.Denot) (r : Result Right (R.Denot × Refused)) (p : LocalModel R.Denot J)
      → MatchResult r (λ right. IsEmptyAt (world_of p).standings (number_of right)
      × ((y : R.Denot) × (y ≡ x) × (world_of after ≡ made_as (world_of p) (number_of right) y (first_standing kind))))
      (λ e. IsFull (world_of p).standings × (e ≡ (x, Refused.NoSlot)) × (world_of after ≡ world_of p))
      → MatchResult r (λ right. IsEmptyAt (world_of p).standings (number_of right)
      × (world_of after ≡ made_as (world_of p) (number_of right) x (first_standing kind)))
      (λ e. IsFull (world_of p).standings × (e ≡ (x, Refused.NoSlot)) × (world_of after ≡ world_of p))
  value_exact x (Ok right) p a = (a.0, a.1.2 ∙ ap (λ (y : R.Denot). made_as (world_of p) (number_of right) y (first_standing kind)) a.1.1)
  value_exact x (Err e) p a = a
