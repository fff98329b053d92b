-- Who is there, and which guards are open, after each step of a state
use Rattle.sdd_script_model.proofs.Words.{sum_by-set, sum_by_push, Job, Ended, keeps-closed, Limits, all_awaiting, one_where, count-cons, all_awaiting-guards, Gives, how, before, live-is, ended-lives, registered-live, registered-lives, registered-apart, guards-closed, still-live, IsStart, in_world, Gives-all_reclaimed, in_before, guards-registered, ◌≡◌, ◌≢◌, ◌⊎◌, ℕ, suc, ◌+◌, ◌<◌, ◌≤◌, ◌==◌, Bool, true, false, if◌then◌else◌, List, [], ◌∷◌, ◌++◌, Option, Some, None, IsSome, is_some, length, count_by, slice_index_or, slice_set, inl, inr, refl, sym, ap, ◌∙◌, subst, lt-ltb, arith, IsTrue, false≢true, EpochState, IsLive, IsVacant, is_open, nobody, phase_at, due_next, Participant, World, IsPlaceOf, place_at, opened, Val, holdings_of, ScriptState, OpenSince, opening_at, later, ParticipantsMatch, set_past, nat_tests, common_steps, is_of}
use Rattle.sdd_script_model.proofs.Entry.{at-same, at-other, at-pushed, as-each, inside}
use Rattle.sdd_participants.specs.EpochState as time
use Rattle.sdd_world_model.specs.WorldChanges as steps
use Rattle.sdd_script_model.specs.ScriptState as state

-- ---- what stands in a list of names

-- what stands after one more name was given
pub pushed-entry : {X : Type 0} (xs : List (Option X)) (x y : X) (k : ℕ) → slice_index_or (xs ++ Some x ∷ []) k None ≡ Some y →
    ((k ≡ length xs) × (x ≡ y)) ⊎ (slice_index_or xs k None ≡ Some y)
pushed-entry xs x y k e = grind (arith, common_steps)

-- what stands after one was spent
pub left-entry : {X : Type 0} (xs : List (Option X)) (k j : ℕ) (y : X) → slice_index_or (slice_set xs k None) j None ≡ Some y →
    (j ≢ k) × (slice_index_or xs j None ≡ Some y)
left-entry xs k j y e = grind (arith, common_steps, set_past)

-- what stands at one number
pub one-entry : {X : Type 0} (xs : List (Option X)) (k j : ℕ) (x y : X) → k ≡ j → slice_index_or xs k None ≡ Some x → slice_index_or xs j None ≡ Some y →
    x ≡ y
one-entry xs k j x y is e f = (let z : Some x ≡ Some y = sym e ∙ ap (λ i. slice_index_or xs i None) is ∙ f in cc)

abbrev pub place : OpenSince → ℕ
place x = x.place

none-entry : (y : Option OpenSince) (q : ℕ) → ((x : OpenSince) → y ≡ Some x → x.place ≢ q) → one_where (is_of q y) ≡ 0
none-entry y q apart = grind (arith, nat_tests)

-- a place that no guard is open at
none-of : (guards : List (Option OpenSince)) (q : ℕ) → ((g : ℕ) (y : OpenSince) → slice_index_or guards g None ≡ Some y → y.place ≢ q) →
    count_by (is_of q) guards ≡ 0
none-of [] q apart = refl
none-of (y ∷ guards) q apart =
    omega (arith, none-entry y q (apart 0), none-of guards q (λ g. apart (suc g)), count-cons (is_of q) y guards)

-- ---- worlds in which nobody comes or goes, and no guard is opened or closed

-- each place has its phase and its guards as before
pub record KeepsGuards (old new : World Val) : Type 0 where
  pub phases : new.time.phases ≡ old.time.phases
  pub places : length new.time.places ≡ length old.time.places
  pub guards : (q : ℕ) → (place_at new q).guards ≡ (place_at old q).guards

pub live-by : (t u : EpochState) → u.phases ≡ t.phases → length u.places ≡ length t.places → (q : ℕ) → IsLive t q → IsLive u q
live-by t u phases places q live = grind (arith, common_steps)

pub keeps-live : {v w : World Val} → KeepsGuards v w → (q : ℕ) → IsPlaceOf v q → IsPlaceOf w q
keeps-live {v} {w} k q live = live-by v.time w.time k.phases k.places q live

-- the time is as before: an item is made, an owner more is there, a cell changes
pub keeps-time : (v w : World Val) → w.time ≡ v.time → KeepsGuards v w
keeps-time v w e = grind arith

-- one place is written, and has as many guards
pub keeps-place : (v w : World Val) (p : ℕ) (x : Participant) → w.time ≡ time.with_place v.time p x → x.guards ≡ (place_at v p).guards → KeepsGuards v w
keeps-place v w p x e same =
    let each = as-each (λ (y : Participant). y.guards) v.time.places p x nobody same in grind (arith, common_steps)

pub keeps-gives : {p : ℕ} {v w : World Val} → Gives p v w → KeepsGuards v w
keeps-gives {p} {v} {w} g =
    keeps-place v w p (all_awaiting g.slots (place_at v p)) g.time (all_awaiting-guards g.slots (place_at v p))

pub keeps-deferred : (w : World Val) (p k : ℕ) → KeepsGuards w (steps.deferred w p k)
keeps-deferred w p k = keeps-place w (steps.deferred w p k) p (time.awaiting (Job k) (place_at w p)) refl refl

-- ---- an opening

-- who is there is as before, and one guard of p more is open
pub record OpensOne (p : ℕ) (old new : World Val) : Type 0 where
  pub phases : new.time.phases ≡ old.time.phases
  pub places : length new.time.places ≡ length old.time.places
  pub guards : (q : ℕ) → (place_at new q).guards ≡ (place_at old q).guards + one_where (p == q)

module _ (w : World Val) (p : ℕ) (l : p < length w.time.places) where
  nested-one : OpensOne p w (steps.nested w p)
  nested-one = grind (arith, common_steps)

  pub opens-one : OpensOne p w (opened holdings_of w p)
  opens-one = elim (how holdings_of w p l) [
    | inl n ↦ subst (OpensOne p w) (sym n.nests) nested-one
    | inr c ↦
        let start = before holdings_of w p in
        let end = steps.all_reclaimed holdings_of start p (due_next (place_at (steps.nested w p) p)) in
        let turned = keeps-place (steps.nested w p) start p (time.rotated w.time.count (place_at (steps.nested w p) p)) refl refl in
        let given = keeps-gives (Gives-all_reclaimed holdings_of start p (due_next (place_at (steps.nested w p) p)) (in_before holdings_of w p l)) in
        let settled = keeps-place end (steps.settled end p) p (time.settled (place_at end p)) refl refl in
        subst (OpensOne p w) (sym c.change) (record {
          phases = given.phases;
          places = settled.places ∙ given.places ∙ turned.places ∙ nested-one.places;
          guards = λ q. omega (arith, nested-one.guards q, turned.guards q, given.guards q, settled.guards q);
        })
  ]

-- ---- a state after each step

-- an item, a cell, a queue, a stack or a bag was made: some place is not free
abbrev pub IsPlaced : ScriptState → Type 0
IsPlaced d = 0 < length d.slots + length d.cells + length d.queues + length d.stacks + length d.bags → (p : ℕ) × IsSome (phase_at d.world.time p)

-- the participant that acts is inside
pub placed-inside : (d : ScriptState) (p : ℕ) → IsPlaceOf d.world p → IsPlaced d
placed-inside d p live = λ some. (p, ap is_some (live-is d.world.time p live))

module _ (d new : ScriptState) (a : ParticipantsMatch d) where
  -- no guard is opened or closed, and nobody comes or goes
  pub attended-same : KeepsGuards d.world new.world → new.places ≡ d.places → new.guards ≡ d.guards → d.moment ≤ new.moment → IsPlaced new →
      ParticipantsMatch new
  attended-same k places guards moment placed =
      let was : (n : ℕ) (x : OpenSince) → opening_at new.places n ≡ Some x → opening_at d.places n ≡ Some x =
      λ n x e. ap (λ ps. opening_at ps n) (sym places) ∙ e in
      record {
        inside = λ n x e. keeps-live k x.place (a.inside n x (was n x e));
        apart = λ n m x y e f. a.apart n m x y (was n x e) (was m y f);
        opened = λ p. k.guards p ∙ a.opened p ∙ ap (count_by (is_of p)) (sym guards);
        since = λ g y e. grind (arith, common_steps, a.since g y);
        early = λ n x e. omega (arith, a.early n x (was n x e), moment);
        placed = placed;
      }

  -- and a participant acts
  pub attended-acts : KeepsGuards d.world new.world → new.places ≡ d.places → new.guards ≡ d.guards → d.moment ≤ new.moment → (p : ℕ) →
      IsPlaceOf d.world p → ParticipantsMatch new
  attended-acts k places guards moment p live = attended-same k places guards moment (placed-inside new p (keeps-live k p live))

-- nobody is there at first
pub attended-start : {limits : Limits} (d : ScriptState) → IsStart limits d → ParticipantsMatch d
attended-start d start = record {
  inside = λ n x e. absurd (none start.places n x e);
  apart = λ n m x y e f same. absurd (none start.places n x e);
  opened = λ p. ap (λ (t : EpochState). (time.place_at t p).guards) start.world.time ∙ sym (ap (count_by (is_of p)) start.guards);
  since = λ g y e. absurd (none start.guards g y e);
  early = λ n x e. absurd (none start.places n x e);
  placed = λ some. absurd (grind arith);
} where
  none : {xs : List (Option OpenSince)} → xs ≡ [] → (n : ℕ) (x : OpenSince) → opening_at xs n ≡ Some x → ⊥
  none is n x e = (let never : None ≡ Some x = sym (ap (λ ps. opening_at ps n) is) ∙ e in cc)

module _ (d : ScriptState) (a : ParticipantsMatch d) where
  -- one line later
  pub attended-later : ParticipantsMatch (later d)
  attended-later = attended-same d (later d) a (keeps-time d.world d.world refl) refl refl (omega arith) a.placed

  -- an open guard's participant is open
  pub open-guard : (g : ℕ) (y : OpenSince) → opening_at d.guards g ≡ Some y → 0 < (place_at d.world y.place).guards
  open-guard g y e = grind (arith, common_steps)

  pub open-place : (g p : ℕ) (y : OpenSince) → opening_at d.guards g ≡ Some y → y.place ≡ p → IsTrue (is_open (place_at d.world p))
  open-place g p y e is =
      subst (λ (q : ℕ). IsTrue (is_open (place_at d.world q))) is (lt-ltb 0 (place_at d.world y.place).guards (open-guard g y e))

  -- a guard's participant is inside
  pub guard-inside : (g p : ℕ) (y : OpenSince) → opening_at d.guards g ≡ Some y → y.place ≡ p → IsPlaceOf d.world p
  guard-inside g p y e is = (let who = a.since g y e in subst (IsPlaceOf d.world) (who.3 ∙ is) (a.inside who.0 who.1 who.2))

  -- no guard is open at a place that is nobody's
  pub shut : (p : ℕ) → ((n : ℕ) (x : OpenSince) → opening_at d.places n ≡ Some x → x.place ≢ p) → (place_at d.world p).guards ≡ 0
  shut p nobodys = a.opened p ∙ none-of d.guards p (λ g y e same. let who = a.since g y e in nobodys who.0 who.1 who.2 (who.3 ∙ same))

  -- ---- a participant registers at a place that nobody has
  module _ (p : ℕ) (vacant : IsVacant d.world.time p) (phased : length d.world.time.phases ≡ length d.world.time.places) where
    newcomer-live : IsLive (time.registered d.world.time p) p
    newcomer-live = registered-live d.world.time p phased vacant

    pub vacant-apart : (n : ℕ) (x : OpenSince) → opening_at d.places n ≡ Some x → x.place ≢ p
    vacant-apart n x e = registered-apart d.world.time p x.place vacant (a.inside n x e)

    pub registered-guards : (q : ℕ) → (time.place_at (time.registered d.world.time p) q).guards ≡ (place_at d.world q).guards
    registered-guards q = guards-registered d.world.time p q (shut p vacant-apart)

    abbrev newcomer : OpenSince
    newcomer = record { place = p; since = 0 }

    abbrev with_newcomer : ScriptState
    with_newcomer = in_world (state.with_newcomer d p) (steps.registered d.world p)

    entry : (n : ℕ) (x : OpenSince) → opening_at with_newcomer.places n ≡ Some x → ((n ≡ length d.places) × (newcomer ≡ x)) ⊎ (opening_at d.places n ≡ Some x)
    entry n x = pushed-entry d.places newcomer x n

    pub attended-registered : ParticipantsMatch with_newcomer
    attended-registered = record {
      inside = λ n x e. (let or = entry n x e in let old = registered-lives d.world.time p x.place phased in let was = a.inside n x in
          let new = newcomer-live in grind arith);
      apart = λ n m x y e f same. grind (arith, entry n x e, entry m y f, vacant-apart n x, vacant-apart m y, a.apart n m x y);
      opened = λ q. registered-guards q ∙ a.opened q;
      since = λ g y e.
          (let was = a.since g y e in
          let lt = inside d.places was.0 (ap is_some was.2) in
          (was.0, was.1, at-pushed d.places (Some newcomer) None was.0 (λ z. omega (arith, z, lt)) ∙ was.2, was.3, was.4));
      early = λ n x e. grind (arith, entry n x e, a.early n x);
      placed = λ some. (p, ap is_some (live-is (time.registered d.world.time p) p newcomer-live));
    }

  -- ---- participant n, which has no guard open, ends
  module _ (n : ℕ) (x : OpenSince) (there : opening_at d.places n ≡ Some x) (closed : IsTrue (is_open (place_at d.world x.place)) → ⊥) where
    abbrev without_one : ScriptState
    without_one = in_world (state.without_participant d n) (steps.ended d.world x.place)

    its-phase : phase_at (time.ended d.world.time x.place) x.place ≡ Some Ended
    its-phase =
        let phases = d.world.time.phases in
        at-same phases x.place (Some Ended) None (inside phases x.place (ap is_some (live-is d.world.time x.place (a.inside n x there))))

    pub attended-ended : ParticipantsMatch without_one
    attended-ended =
        let was = λ (m : ℕ) (y : OpenSince). left-entry d.places n m y in
        record {
          inside = λ m y e.
              (let old = was m y e in
              ended-lives d.world.time x.place y.place (λ same. old.0 (a.apart m n y x old.1 there same)) (a.inside m y old.1));
          apart = λ m k y z e f same. a.apart m k y z (was m y e).1 (was k z f).1 same;
          opened = a.opened;
          -- a guard is another's
          since = λ g y e.
              (let h = a.since g y e in
              let apart = λ (is : h.0 ≡ n). closed (open-place g x.place y e (sym h.3 ∙ ap place (one-entry d.places h.0 n h.1 x is h.2 there))) in
              (h.0, h.1, at-other d.places n h.0 None None apart ∙ h.2, h.3, h.4));
          early = λ m y e. a.early m y (was m y e).1;
          placed = λ some. (x.place, ap is_some its-phase);
        }

  -- ---- a guard of p is closed
  module _ (g p : ℕ) (y : OpenSince) (there : opening_at d.guards g ≡ Some y) (is : y.place ≡ p) where
    abbrev without_guard : ScriptState
    without_guard = in_world (state.without_guard d g) (steps.closed d.world p)

    closer-live : IsPlaceOf d.world p
    closer-live = guard-inside g p y there is

    some : 0 < (place_at d.world p).guards
    some = subst (λ q. 0 < (place_at d.world q).guards) is (open-guard g y there)

    lives-closed : (q : ℕ) → IsPlaceOf d.world q → IsLive (time.closed d.world.time p) q
    lives-closed q here = still-live d.world.time (time.closed d.world.time p) q (keeps-closed d.world.time p closer-live) here

    -- one guard of p fewer is open
    pub closed-guards : (q : ℕ) → (time.place_at (time.closed d.world.time p) q).guards + one_where (p == q) ≡ (place_at d.world q).guards
    closed-guards q = guards-closed d.world.time p q closer-live some

    pub attended-closed : ParticipantsMatch without_guard
    attended-closed = record {
      inside = λ n x e. lives-closed x.place (a.inside n x e);
      apart = a.apart;
      opened = λ q.
          (let without = sum_by-set (λ x. one_where (is_of q x)) d.guards g None None (inside d.guards g (ap is_some there)) in
          let closed = closed-guards q in let was = a.opened q in grind (arith, common_steps));
      since = λ h z e. a.since h z (left-entry d.guards g h z e).1;
      early = a.early;
      placed = λ some. (p, ap is_some (live-is (time.closed d.world.time p) p (lives-closed p closer-live)));
    }

  -- ---- participant n opens a guard at its place
  module _ (n : ℕ) (x : OpenSince) (there : opening_at d.places n ≡ Some x) where
    abbrev now : OpenSince
    now = record { place = x.place; since = d.moment }

    abbrev places_if : Bool → List (Option OpenSince)
    places_if nested = if nested then d.places else slice_set d.places n (Some now)

    abbrev with_guard : ScriptState
    with_guard = in_world (state.with_guard d n x.place) (opened holdings_of d.world x.place)

    opens : OpensOne x.place d.world with_guard.world
    opens = opens-one d.world x.place (a.inside n x there).0

    lives-opened : (q : ℕ) → IsPlaceOf d.world q → IsPlaceOf with_guard.world q
    lives-opened = live-by d.world.time with_guard.world.time opens.phases opens.places

    counts : (q : ℕ) → (place_at with_guard.world q).guards ≡ count_by (is_of q) (d.guards ++ Some now ∷ [])
    counts q =
        let pushed = sum_by_push (λ y. one_where (is_of q y)) d.guards (Some now) in
        omega (arith, opens.guards q, pushed, a.opened q)

    own-entry : (nested : Bool) → opening_at (places_if nested) n ≡ Some (if nested then x else now)
    own-entry true = there
    own-entry false = at-same d.places n (Some now) None (inside d.places n (ap is_some there))

    -- an entry of one that opened is as it was, or it is the participant's own, since now
    abbrev WasOr : Bool → ℕ → OpenSince → Type 0
    WasOr nested m y = ((opening_at d.places m ≡ Some y) × ((nested ≡ true) ⊎ (m ≢ n))) ⊎ ((m ≡ n) × (now ≡ y))

    pub entry-before : (nested : Bool) (m : ℕ) (y : OpenSince) → opening_at (places_if nested) m ≡ Some y → WasOr nested m y
    entry-before nested m y e = let own = own-entry nested in grind (arith, common_steps)

    -- a guard's participant has not been without one since
    abbrev HasSince : Bool → OpenSince → Type 0
    HasSince nested y = (m : ℕ) × (z : OpenSince) × (opening_at (places_if nested) m ≡ Some z) × (z.place ≡ y.place) × (z.since ≤ y.since)

    own-since : (nested : Bool) → HasSince nested now
    own-since true = (n, x, there, refl, a.early n x there)
    own-since false = (n, now, own-entry false, refl, omega arith)

    old-since : (nested : Bool) → is_open (place_at d.world x.place) ≡ nested → (g : ℕ) (y : OpenSince) → opening_at d.guards g ≡ Some y → HasSince nested y
    old-since true is g y e = a.since g y e
    old-since false is g y e =
        let h = a.since g y e in
        let apart : h.0 ≢ n = λ same.
        false≢true (sym is ∙ open-place g x.place y e (sym h.3 ∙ ap place (one-entry d.places h.0 n h.1 x same h.2 there))) in
        (h.0, h.1, at-other d.places n h.0 (Some now) None apart ∙ h.2, h.3, h.4)

    sinces : (nested : Bool) → is_open (place_at d.world x.place) ≡ nested → (g : ℕ) (y : OpenSince) → opening_at (d.guards ++ Some now ∷ []) g ≡ Some y →
        HasSince nested y
    sinces nested is g y e =
        elim (pushed-entry d.guards now y g e) [
          | inl last ↦ subst (HasSince nested) last.1 (own-since nested)
          | inr old ↦ old-since nested is g y old
        ]

    pub attended-opened : (dates : List ℕ) → ParticipantsMatch (record with_guard { dates = dates })
    attended-opened dates =
        let nested = is_open (place_at d.world x.place) in
        record {
          inside = λ m y e. (let or = entry-before nested m y e in let was = a.inside m y in let lives = lives-opened y.place in
              let own = lives-opened x.place (a.inside n x there) in grind arith);
          apart = λ m k y z e f same.
              grind (arith, entry-before nested m y e, entry-before nested k z f, a.apart m k y z, a.apart m n y x, a.apart n k x z);
          opened = counts;
          since = sinces nested refl;
          early = λ m y e. (let z = entry-before nested m y e in let early = a.early m y in grind arith);
          placed = placed-inside with_guard x.place (lives-opened x.place (a.inside n x there));
        }
