-- What the lines so far say of a state, after one line more
use Rattle.sdd_script_model.proofs.Words.{option_map, eq-eqb, ne_eqb, get_or_push, length_push, length-set, is_ended, having_seen, PlaceState, Ended, registered, ended, live-is, ended-lives, registered-live, registered-lives, registered-apart, ItemName, JobName, PlaceName, Answer, Reply, Call, Register, At, Line, caller, has_ended, is_waiting_in, last_found, open_guards, start_of, IsParticipant, place_in, place_of, Live, live-taken, registered-keeps, LimboEntry, ◌≡◌, ◌≢◌, ◌⊎◌, ℕ, ◌<◌, ◌≤◌, Bool, true, false, nat_lt, List, ◌∷◌, Option, Some, None, IsSome, is_some, length, slice_index_or, inl, inr, refl, sym, ap, ◌∙◌, subst, arith, cases_eq, false≢true, nat_tests, Contains, EpochState, IsLive, IsVacant, nobody, phase_at, Participant, World, IsPlaceOf, place_at, IsWhole, Val, ScriptState, OpenSince, opening_at, later}
use Rattle.sdd_script_model.proofs.Lemmas.{live-by, at-other, at-same, at-pushed, at-end, at-default, inside}
use Rattle.sdd_script_model.proofs.History.{quiet-shown, home, home-apart, home-inside, begins-not, begins-now, not-adopted, quiet-changes, quiet-ended, quiet-found, quiet-guards, seen-as, waits-same, start-begun, start-kept, still-ended, HasSeen, HoldsAt, Tells}
use Rattle.sdd_script_model.proofs.LineKinds.{CalmLine}
use Rattle.sdd_script_model.proofs.WaitsAt.{awaits-taken}
use Rattle.sdd_participants.specs.EpochState as time
use Rattle.sdd_script_text.specs.declared.answer.Reply.TheVariants as reply
use Rattle.sdd_script_text.specs.Actions as call
use Rattle.sdd_script_model.specs.ScriptState as state
use Rattle.sdd_script_model.proofs.History as history

-- where a participant that is there is
pub home-is : (d : ScriptState) (n : ℕ) → IsParticipant d n → home d.places n ≡ Some (place_of d n)
home-is d n there = by (opening_at d.places n) there where
  by : (x : Option OpenSince) → IsSome x → option_map (λ (y : OpenSince). y.place) x ≡ Some (place_in x)
  by None there = absurd (false≢true there)
  by (Some x) there = refl

pub not-some : {q : ℕ} → ◌≡◌ {A = Option ℕ} None (Some q) → ⊥
not-some e = cc

module _ (past : List Line) (old new : ScriptState) (call : Call) (given : Reply) (reclaimed : List ItemName) (ran : List JobName) (k : Tells past old)
    (after : IsWhole new.world) where
  abbrev pub answer : Answer
  answer = record { reply = given; reclaimed = reclaimed; ran = ran }

  abbrev pub line : Line
  line = record { before = old; call = call; answer = answer; after = new }

  -- who holds what waits holds it still, where who is there is as before, and who has ended
  pub held-on : ((n : ℕ) → home new.places n ≡ home old.places n) → (n q : ℕ) →
      (is_ended (phase_at old.world.time q) ≡ true → is_ended (phase_at new.world.time q) ≡ true) → HoldsAt past old n q → HoldsAt (line ∷ past) new n q
  held-on same n q stays (inl there) = inl (same n ∙ there)
  held-on same n q stays (inr (none, over, place)) = inr (same n ∙ none, still-ended past line n over, stays place)

  -- ---- a calm line
  pub tells-calm : CalmLine (later old) new call given → Tells (line ∷ past) new
  tells-calm c =
      let same = λ (n : ℕ). ap (λ ps. home ps n) c.places in
      let was = λ (n q : ℕ) (e : home new.places n ≡ Some q). sym (same n) ∙ e in
      let no_opening = λ (n : ℕ). c.no_opening n in
      record {
        whole = after;
        inside = λ n q e. live-by old.world.time new.world.time c.world.phases c.world.places q (k.inside n q (was n q e));
        apart = λ n m q e f. k.apart n m q (was n q e) (was m q f);
        found = λ n q e. c.world.found q ∙ k.found n q (was n q e) ∙ sym (quiet-found past line n (c.no_opening n));
        guards = λ n q e. c.world.guards q ∙ k.guards n q (was n q e) ∙ sym (quiet-guards past line n (c.no_opening n) (c.no_close n));
        here = λ n q e. quiet-ended past line n (c.no_end n) ∙ k.here n q (was n q e);
        fresh = λ n l.
            (let f = k.fresh n (omega (arith, l, ap length c.places)) in (
              quiet-found past line n (c.no_opening n) ∙ f.0,
              quiet-guards past line n (c.no_opening n) (c.no_close n) ∙ f.1,
              quiet-ended past line n (c.no_end n) ∙ f.2,
            ));
        waits = λ x now. by x now (is_waiting_in old.world x) refl;
        shown =
            (let same = quiet-shown past line 0 (c.no_opening (caller call)) in
            (omega (arith, k.shown.0, same, c.world.count), omega (arith, k.shown.1, same, c.world.count)));
        behind = λ n q e. omega (arith, k.behind n q (was n q e), c.world.found q, quiet-shown past line 0 (c.no_opening (caller call)));
      } where
        by : (x : LimboEntry) → is_waiting_in new.world x ≡ true → (b : Bool) → is_waiting_in old.world x ≡ b → HasSeen (line ∷ past) new x
        by x now true was =
            let h = k.waits x was in
            let n = (start_of past x).holder in
            let stays = λ (e : is_ended (phase_at old.world.time h.place) ≡ true). ap (λ ps. is_ended (slice_index_or ps h.place None)) c.world.phases ∙ e in
            seen-as (line ∷ past) new x (start_of past x)
            (start-kept past line x (begins-not past line x was) (not-adopted past old line n h.place k.here stays h.held)) h.place h.seen
            (c.world.kept h.place x h.seen h.waits now) (held-on (λ m. ap (λ ps. home ps m) c.places) n h.place stays h.held)
            (quiet-changes past line n (c.no_opening n) ∙ h.count)
        by x now false was =
            let own = c.own x now was in
            let there : home old.places (caller call) ≡ Some c.place = ap (option_map (λ (x : OpenSince). x.place)) own.1 ∙ ap (λ q. Some q) own.2 in
            seen-as (line ∷ past) new x (history.here past line x) (start-begun past line x (begins-now past line x now was)) c.place 0
            (c.world.begun x now was) (inl (ap (λ ps. home ps (caller call)) c.places ∙ there)) (omega arith)

-- ---- a participant comes

ended-there : (phase : Option PlaceState) → is_ended phase ≡ true → IsSome phase
ended-there None e = absurd (false≢true e)
ended-there (Some s) e = refl

-- a place that can be taken has not ended
vacant-ended : (t : EpochState) (p q : ℕ) → length t.phases ≡ length t.places → IsVacant t p → is_ended (phase_at t q) ≡ true → q ≢ p
vacant-ended t p q lengths (inl empty) over same =
    false≢true (sym (ap is_ended empty.1) ∙ ap (λ r. is_ended (phase_at t r)) (sym same) ∙ over)
vacant-ended t p q lengths (inr next) over same =
    absurd (omega (arith, inside t.phases q (ended-there (phase_at t q) over), lengths, next.0, same))

registered-count : (t : EpochState) (p : ℕ) → (time.registered t p).count ≡ t.count
registered-count t p = by (nat_lt p (length t.places)) refl where
  by : (b : Bool) → nat_lt p (length t.places) ≡ b → (time.registered t p).count ≡ t.count
  by true e = rw e refl
  by false e = rw e refl

module _ (t : EpochState) (p : ℕ) (lengths : length t.phases ≡ length t.places) (vacant : IsVacant t p) where
  -- the newcomer's place
  newcomer-if : (b : Bool) → nat_lt p (length t.places) ≡ b → IsVacant t p → time.place_at (time.registered t p) p ≡ time.newcomer t.room
  newcomer-if true e v = let l : p < length t.places = grind (arith, nat_tests, e) in rw e (at-same t.places p (time.newcomer t.room) nobody l)
  newcomer-if false e (inl empty) =
      let past : length t.places ≤ p = grind (arith, nat_tests, e) in absurd (omega (arith, past, empty.0, lengths))
  newcomer-if false e (inr next) = rw e (get_or_push t.places (time.newcomer t.room) nobody p (sym next.0))

  newcomer-at : time.place_at (time.registered t p) p ≡ time.newcomer t.room
  newcomer-at = newcomer-if (nat_lt p (length t.places)) refl vacant

  -- what has ended has ended still
  registered-ended : (q : ℕ) → is_ended (phase_at t q) ≡ true → is_ended (phase_at (time.registered t p) q) ≡ true
  registered-ended q over = by (nat_lt p (length t.places)) refl where
    by : (b : Bool) → nat_lt p (length t.places) ≡ b → is_ended (phase_at (time.registered t p) q) ≡ true
    by true e = rw e (ap is_ended (at-other t.phases p q (Some Live) None (vacant-ended t p q lengths vacant over)) ∙ over)
    by false e =
        let l = inside t.phases q (ended-there (phase_at t q) over) in
        rw e (ap is_ended (at-pushed t.phases (Some Live) None q (λ same. absurd (omega (arith, l, same)))) ∙ over)

module _ (past : List Line) (old new : ScriptState) (name : PlaceName) (reclaimed : List ItemName) (ran : List JobName) (k : Tells past old)
    (after : IsWhole new.world) (p : ℕ) (vacant : IsVacant old.world.time p) (world : new.world ≡ registered old.world p)
    (places : new.places ≡ (state.with_newcomer (later old) p).places) where
  abbrev coming : Line
  coming = line past old new Register (reply.Place name) reclaimed ran k after

  lengths : length old.world.time.phases ≡ length old.world.time.places
  lengths = k.whole.housed.lengths

  own-place : place_at new.world p ≡ time.newcomer old.world.time.room
  own-place = ap (λ (w : World Val). place_at w p) world ∙ newcomer-at old.world.time p lengths vacant

  other-home : (n : ℕ) → n ≢ length old.places → home new.places n ≡ home old.places n
  other-home n ne =
      ap (λ ps. home ps n) places ∙ ap (option_map (λ (x : OpenSince). x.place)) (at-pushed old.places (Some (record { place = p; since = 0 })) None n ne)

  own-home : home new.places (length old.places) ≡ Some p
  own-home =
      ap (λ ps. home ps (length old.places)) places
      ∙ ap (option_map (λ (x : OpenSince). x.place)) (at-end old.places (Some (record { place = p; since = 0 })) None)

  each-home : (n q : ℕ) → home new.places n ≡ Some q → ((n ≡ length old.places) × (p ≡ q)) ⊎ ((n ≢ length old.places) × (home old.places n ≡ Some q))
  each-home n q e =
      elim (cases_eq n (length old.places)) [
        | inl is ↦ inl (is, home-apart new.places n p q (ap (λ m. home new.places m) is ∙ own-home) e)
        | inr ne ↦ inr (ne, sym (other-home n ne) ∙ e)
      ]

  -- who was there has another place, which is as before
  elsewhere : (n q : ℕ) → home old.places n ≡ Some q → q ≢ p
  elsewhere n q e = registered-apart old.world.time p q vacant (k.inside n q e)

  same-place : (n q : ℕ) → home old.places n ≡ Some q → place_at new.world q ≡ place_at old.world q
  same-place n q e =
      ap (λ (w : World Val). place_at w q) world
      ∙ registered-keeps old.world.time p q (live-taken old.world.time q (k.inside n q e)) vacant

  newcomer-last : (n : ℕ) → n ≡ length old.places → length old.places ≤ n
  newcomer-last n is = omega (arith, is)

  pub tells-comes : Tells (coming ∷ past) new
  tells-comes = record {
    whole = after;
    inside = λ n q e.
        elim (each-home n q e) [
          | inl h ↦ subst (λ (w : World Val). IsPlaceOf w q) (sym world)
              (subst (λ r. IsLive (time.registered old.world.time p) r) h.1 (registered-live old.world.time p lengths vacant))
          | inr h ↦ subst (λ (w : World Val). IsPlaceOf w q) (sym world) (registered-lives old.world.time p q lengths (k.inside n q h.1))
        ];
    apart = λ n m q e f.
        elim (each-home n q e) [
          | inl h ↦
              elim (each-home m q f) [
                | inl g ↦ h.0 ∙ sym g.0
                | inr g ↦ absurd (elsewhere m q g.1 (sym h.1))
              ]
          | inr h ↦
              elim (each-home m q f) [
                | inl g ↦ absurd (elsewhere n q h.1 (sym g.1))
                | inr g ↦ k.apart n m q h.1 g.1
              ]
        ];
    found = λ n q e.
        elim (each-home n q e) [
          | inl h ↦ subst (λ r. (place_at new.world r).found ≡ last_found n past) h.1
              (ap (λ (x : Participant). x.found) own-place ∙ sym (k.fresh n (newcomer-last n h.0)).0)
          | inr h ↦ ap (λ (x : Participant). x.found) (same-place n q h.1) ∙ k.found n q h.1
        ];
    guards = λ n q e.
        elim (each-home n q e) [
          | inl h ↦ subst (λ r. (place_at new.world r).guards ≡ open_guards n past) h.1
              (ap (λ (x : Participant). x.guards) own-place ∙ sym (k.fresh n (newcomer-last n h.0)).1)
          | inr h ↦ ap (λ (x : Participant). x.guards) (same-place n q h.1) ∙ k.guards n q h.1
        ];
    here = λ n q e.
        elim (each-home n q e) [
          | inl h ↦ (k.fresh n (newcomer-last n h.0)).2
          | inr h ↦ k.here n q h.1
        ];
    fresh = λ n l. k.fresh n (omega (arith, l, ap length places, length_push old.places (Some (record { place = p; since = 0 }))));
    waits = λ x now. by x (sym (ap (λ (w : World Val). is_waiting_in w x) world ∙ waits-same old.world (registered old.world p) x refl refl) ∙ now);
    shown =
        (let same : new.world.time.count ≡ old.world.time.count =
        ap (λ (w : World Val). w.time.count) world ∙ registered-count old.world.time p in
        (omega (arith, k.shown.0, same), omega (arith, k.shown.1, same)));
    behind = λ n q e.
        elim (each-home n q e) [
          | inl h ↦
              (let none : (place_at new.world q).found ≡ 0 =
              subst (λ r. (place_at new.world r).found ≡ 0) h.1 (ap (λ (x : Participant). x.found) own-place) in
              omega (arith, none))
          | inr h ↦ omega (arith, ap (λ (x : Participant). x.found) (same-place n q h.1), k.behind n q h.1)
        ];
  } where
    held : (n q : ℕ) → HoldsAt past old n q → HoldsAt (coming ∷ past) new n q
    held n q (inl there) = (let l = home-inside old.places n q there in inl (other-home n (λ same. absurd (omega (arith, l, same))) ∙ there))
    held n q (inr (none, over, place)) =
        inr (
          other-home n (λ same. false≢true (sym (k.fresh n (newcomer-last n same)).2 ∙ over)) ∙ none,
          over,
          ap (λ (w : World Val). is_ended (phase_at w.time q)) world ∙ registered-ended old.world.time p lengths vacant q place,
        )

    by : (x : LimboEntry) → is_waiting_in old.world x ≡ true → HasSeen (coming ∷ past) new x
    by x was =
        let h = k.waits x was in
        let n = (start_of past x).holder in
        let stays = λ (e : is_ended (phase_at old.world.time h.place) ≡ true).
        ap (λ (w : World Val). is_ended (phase_at w.time h.place)) world ∙ registered-ended old.world.time p lengths vacant h.place e in
        let same : place_at new.world h.place ≡ place_at old.world h.place =
        ap (λ (w : World Val). place_at w h.place) world
        ∙ registered-keeps old.world.time p h.place (awaits-taken old.world h.place x h.seen h.waits k.whole) vacant in
        seen-as (coming ∷ past) new x (start_of past x)
        (start-kept past coming x (begins-not past coming x was) (not-adopted past old coming n h.place k.here stays h.held)) h.place h.seen
        (subst (λ (y : Participant). Contains y.bags.waiting (having_seen h.seen x)) (sym same) h.waits) (held n h.place h.held) h.count

-- ---- a participant goes

module _ (past : List Line) (old new : ScriptState) (name : PlaceName) (reclaimed : List ItemName) (ran : List JobName) (k : Tells past old)
    (after : IsWhole new.world) (there : IsParticipant old name.0) (world : new.world ≡ ended old.world (place_of old name.0))
    (places : new.places ≡ (state.without_participant (later old) name.0).places) where
  abbrev going : Line
  going = line past old new (At name call.End) reply.Done reclaimed ran k after

  abbrev ender : ℕ
  ender = place_of old name.0

  its-home : home old.places name.0 ≡ Some ender
  its-home = home-is old name.0 there

  gone-home : home new.places name.0 ≡ None
  gone-home = ap (λ ps. home ps name.0) places ∙ ap (option_map (λ (x : OpenSince). x.place)) (at-default old.places name.0 None)

  rest-home : (n : ℕ) → n ≢ name.0 → home new.places n ≡ home old.places n
  rest-home n ne = ap (λ ps. home ps n) places ∙ ap (option_map (λ (x : OpenSince). x.place)) (at-other old.places name.0 n None None ne)

  left-home : (n q : ℕ) → home new.places n ≡ Some q → (n ≢ name.0) × (home old.places n ≡ Some q)
  left-home n q e =
      elim (cases_eq n name.0) [
        | inl is ↦ absurd (not-some (sym gone-home ∙ ap (λ m. home new.places m) (sym is) ∙ e))
        | inr ne ↦ (ne, sym (rest-home n ne) ∙ e)
      ]

  as-before : (q : ℕ) → place_at new.world q ≡ place_at old.world q
  as-before q = ap (λ (w : World Val). place_at w q) world

  its-phase : is_ended (phase_at new.world.time ender) ≡ true
  its-phase =
      let t = old.world.time in
      let l = inside t.phases ender (ap is_some (live-is t ender (k.inside name.0 ender its-home))) in
      ap (λ (w : World Val). is_ended (phase_at w.time ender)) world ∙ ap is_ended (at-same t.phases ender (Some Ended) None l)

  over-still : (q : ℕ) → is_ended (phase_at old.world.time q) ≡ true → is_ended (phase_at new.world.time q) ≡ true
  over-still q over =
      elim (cases_eq q ender) [
        | inl is ↦ ap (λ r. is_ended (phase_at new.world.time r)) is ∙ its-phase
        | inr ne ↦
            ap (λ (w : World Val). is_ended (phase_at w.time q)) world ∙ ap is_ended (at-other old.world.time.phases ender q (Some Ended) None ne) ∙ over
      ]

  pub tells-goes : Tells (going ∷ past) new
  tells-goes = record {
    whole = after;
    inside = λ n q e.
        (let h = left-home n q e in
        subst (λ (w : World Val). IsPlaceOf w q) (sym world)
        (ended-lives old.world.time ender q (λ same. h.0 (k.apart n name.0 q h.1 (its-home ∙ ap (λ r. Some r) (sym same)))) (k.inside n q h.1)));
    apart = λ n m q e f. k.apart n m q (left-home n q e).1 (left-home m q f).1;
    found = λ n q e. ap (λ (x : Participant). x.found) (as-before q) ∙ k.found n q (left-home n q e).1;
    guards = λ n q e. ap (λ (x : Participant). x.guards) (as-before q) ∙ k.guards n q (left-home n q e).1;
    here = λ n q e. (let h = left-home n q e in quiet-ended past going n (ne_eqb name.0 n (λ same. h.0 (sym same))) ∙ k.here n q h.1);
    fresh = λ n l.
        (let f = k.fresh n (omega (arith, l, ap length places, length-set old.places name.0 None)) in
        let in_range = home-inside old.places name.0 ender its-home in (
          f.0,
          f.1,
          quiet-ended past going n
              (ne_eqb name.0 n (λ same. absurd (omega (arith, same, l, in_range, ap length places, length-set old.places name.0 None)))) ∙ f.2,
        ));
    waits = λ x now. by x (sym (ap (λ (w : World Val). is_waiting_in w x) world ∙ waits-same old.world (ended old.world ender) x refl refl) ∙ now);
    shown =
        (let same = ap (λ (w : World Val). w.time.count) world in (omega (arith, k.shown.0, same), omega (arith, k.shown.1, same)));
    behind = λ n q e. omega (arith, ap (λ (x : Participant). x.found) (as-before q), k.behind n q (left-home n q e).1);
  } where
    held : (n q : ℕ) → HoldsAt past old n q → HoldsAt (going ∷ past) new n q
    held n q (inl here) =
        elim (cases_eq n name.0) [
          | inl is ↦
              (let same : ender ≡ q = home-apart old.places n ender q (ap (λ m. home old.places m) is ∙ its-home) here in
              let over : has_ended n (going ∷ past) ≡ true = (let e = eq-eqb name.0 n (sym is) in rw e refl) in
              inr (ap (λ m. home new.places m) is ∙ gone-home, over, ap (λ r. is_ended (phase_at new.world.time r)) (sym same) ∙ its-phase))
          | inr ne ↦ inl (rest-home n ne ∙ here)
        ]
    held n q (inr (none, over, place)) =
        inr (rest-home n (λ same. not-some (sym none ∙ ap (λ m. home old.places m) same ∙ its-home)) ∙ none, still-ended past going n over, over-still q place)

    by : (x : LimboEntry) → is_waiting_in old.world x ≡ true → HasSeen (going ∷ past) new x
    by x was =
        let h = k.waits x was in
        let n = (start_of past x).holder in
        seen-as (going ∷ past) new x (start_of past x)
        (start-kept past going x (begins-not past going x was) (not-adopted past old going n h.place k.here (over-still h.place) h.held)) h.place h.seen
        (subst (λ (y : Participant). Contains y.bags.waiting (having_seen h.seen x)) (sym (as-before h.place)) h.waits)
        (held n h.place h.held) h.count
