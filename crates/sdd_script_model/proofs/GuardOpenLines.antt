-- What the lines so far say of a state, after a line that opens a guard; and that its answer names exactly what is due
use Rattle.sdd_script_model.proofs.Words.{◌&&◌, ◌↔◌, not, option_map, eq-eqb, ne_eqb, epoch_of, Epoch, is_ended, having_seen, Job, value_at, opened_at, is_of_slot, live-is, runs-once, one-if, none-if, how, IsChange, Nests, opened-other, opens-keeps, out-waits-not, filled-there, some-waits, GuardName, ItemName, JobName, PlaceName, At, Line, changes, count_shown, is_waiting_in, last_found, open_guards, opens, opens_first, start_of, IsParticipant, place_of, opened-goes, IsDueAt, is_change, LimboEntry, is_some, ◌≡◌, ◌≢◌, ◌⊎◌, ℕ, ◌+◌, ◌≤◌, ◌==◌, Bool, true, false, nat_lt, if◌then◌else◌, List, ◌∷◌, Some, None, length, slice_index_or, slice_set, inl, inr, refl, sym, ap, ◌∙◌, subst, arith, cases_eq, cases_lt, false≢true, nat_tests, length-set, Contains, Item, is_open, phase_at, Participant, is_waiting, World, IsPlaceOf, place_at, standing_at, opened, reclaims, IsWhole, Val, holdings_of, ScriptState, OpenSince, later}
use Rattle.sdd_script_model.proofs.Lemmas.{live-by, opens-one, begins-out, slots-opened, taken-before, counted-there, as-each}
use Rattle.sdd_script_model.proofs.History.{home, home-apart, home-inside, begins-not, begins-now, not-adopted, quiet-changes, quiet-found, quiet-guards, seen-as, start-begun, start-kept, HasSeen, HoldsAt, Tells}
use Rattle.sdd_script_model.proofs.StateByLines.{held-on, home-is, line, not-some}
use Rattle.sdd_script_model.proofs.LineKinds.{some-is}
use Rattle.sdd_script_model.proofs.WaitsAt.{AwaitsAt, awaits-once, awaits-waits, awaits-young, change-awaits, due-from, due-there, nests-awaits}
use Rattle.sdd_world_model.proofs.ParticipantChanges as own
use Rattle.sdd_script_text.specs.declared.answer.Reply.TheVariants as reply
use Rattle.sdd_script_text.specs.Actions as call
use Rattle.sdd_script_model.specs.ScriptState as state
use Rattle.sdd_script_model.proofs.History as history

shut-is : (g : ℕ) → (g == 0) ≡ not (nat_lt 0 g)
shut-is g = by (nat_lt 0 g) refl where
  by : (b : Bool) → nat_lt 0 g ≡ b → (g == 0) ≡ not b
  by true e = grind (arith, nat_tests, e)
  by false e = grind (arith, nat_tests, e)

-- two counts in turn show two epochs
next-epoch : (count : ℕ) → epoch_of (count + 1) ≢ epoch_of count
next-epoch count same = omega (arith, same)

one-of : (m n : ℕ) → m ≤ n → n ≤ m + 1 → (n ≡ m) ⊎ (n ≡ m + 1)
one-of m n low high =
    elim (cases_lt m n) [
      | inl more ↦ inr (omega (arith, more, high))
      | inr none ↦ inl (omega (arith, low, none))
    ]

module _ (past : List Line) (old new : ScriptState) (name : PlaceName) (g : GuardName) (epoch : Epoch) (reclaimed : List ItemName) (ran : List JobName)
    (k : Tells past old) (after : IsWhole new.world) (there : IsParticipant old name.0) (epoch_is : epoch ≡ epoch_of new.world.time.count)
    (world : new.world ≡ opened holdings_of old.world (place_of old name.0))
    (places : new.places ≡ (state.with_guard (later old) name.0 (place_of old name.0)).places) where
  abbrev opening : Line
  opening = line past old new (At name call.Open) (reply.Guard g epoch) reclaimed ran k after

  abbrev opener : ℕ
  opener = place_of old name.0

  abbrev w : World Val
  w = old.world

  its-home : home old.places name.0 ≡ Some opener
  its-home = home-is old name.0 there

  live : IsPlaceOf w opener
  live = k.inside name.0 opener its-home

  same-home : (n : ℕ) → home new.places n ≡ home old.places n
  same-home n = ap (λ ps. home ps n) places ∙ by (is_open (place_at w opener)) where
    now : OpenSince
    now = record { place = opener; since = (later old).moment }

    by : (b : Bool) → home (if b then old.places else slice_set old.places name.0 (Some now)) n ≡ home old.places n
    by true = refl
    by false = as-each (option_map (λ (x : OpenSince). x.place)) old.places name.0 (Some now) None (sym its-home) n

  same-length : length new.places ≡ length old.places
  same-length = ap length places ∙ by (is_open (place_at w opener)) where
    now : OpenSince
    now = record { place = opener; since = (later old).moment }

    by : (b : Bool) → length (if b then old.places else slice_set old.places name.0 (Some now)) ≡ length old.places
    by true = refl
    by false = length-set old.places name.0 (Some now)

  was : (n q : ℕ) → home new.places n ≡ Some q → home old.places n ≡ Some q
  was n q e = sym (same-home n) ∙ e

  -- it is the opener, or another, at another place
  own-or : (n q : ℕ) → home old.places n ≡ Some q → ((n ≡ name.0) × (q ≡ opener)) ⊎ ((n ≢ name.0) × (q ≢ opener))
  own-or n q e =
      elim (cases_eq n name.0) [
        | inl is ↦ inl (is, home-apart old.places n q opener e (ap (λ m. home old.places m) is ∙ its-home))
        | inr ne ↦ inr (ne, λ same. ne (k.apart n name.0 q e (its-home ∙ ap (λ r. Some r) (sym same))))
      ]

  other-opens : (n : ℕ) → n ≢ name.0 → opens n opening ≡ false
  other-opens n ne = ne_eqb name.0 n (λ same. ne (sym same))

  -- ---- the opening as the lines have it

  mine : opens name.0 opening ≡ true
  mine = eq-eqb name.0 name.0 refl

  first-is : opens_first name.0 past opening ≡ not (is_open (place_at w opener))
  first-is = rw mine (ap (λ n. n == 0) (sym (k.guards name.0 opener its-home)) ∙ shut-is (place_at w opener).guards)

  count-same : new.world.time.count ≡ w.time.count
  count-same =
      ap (λ (u : World Val). u.time.count) world ∙ (own.opens holdings_of w opener live.0 (is_open (place_at w opener)) refl).count

  -- an outermost opening shows the count
  shown-if : is_open (place_at w opener) ≡ false → (w.time.count ≡ count_shown past) ⊎ (w.time.count ≡ count_shown past + 1) →
      count_shown (opening ∷ past) ≡ w.time.count
  shown-if shut (inl same) =
      let first : opens_first name.0 past opening ≡ true = first-is ∙ ap not shut in
      let shows : (epoch == epoch_of (count_shown past)) ≡ true =
      eq-eqb epoch (epoch_of (count_shown past)) (epoch_is ∙ ap epoch_of (count-same ∙ same)) in
      rw (first, shows) (sym same)
  shown-if shut (inr more) =
      let first : opens_first name.0 past opening ≡ true = first-is ∙ ap not shut in
      let shows : (epoch == epoch_of (count_shown past)) ≡ false =
      ne_eqb epoch (epoch_of (count_shown past)) (λ e. next-epoch (count_shown past) (sym (epoch_is ∙ ap epoch_of (count-same ∙ more)) ∙ e)) in
      rw (first, shows) (sym more)

  shown-shut : is_open (place_at w opener) ≡ false → count_shown (opening ∷ past) ≡ w.time.count
  shown-shut shut = shown-if shut (one-of (count_shown past) w.time.count k.shown.0 k.shown.1)

  shown-nested : is_open (place_at w opener) ≡ true → count_shown (opening ∷ past) ≡ count_shown past
  shown-nested nested = let first : opens_first name.0 past opening ≡ false = first-is ∙ ap not nested in rw first refl

  nests-change : Nests holdings_of w opener → is_change name.0 past opening ≡ false
  nests-change n =
      elim n.why [
        | inl nested ↦ (let first : opens_first name.0 past opening ≡ false = first-is ∙ ap not nested in rw first refl)
        | inr (shut, same) ↦
            (let first : opens_first name.0 past opening ≡ true = first-is ∙ ap not shut in
            let e : (count_shown (opening ∷ past) == last_found name.0 past) ≡ true =
            eq-eqb (count_shown (opening ∷ past)) (last_found name.0 past) (shown-shut shut ∙ sym same ∙ k.found name.0 opener its-home) in
            ap (λ b. b && not (count_shown (opening ∷ past) == last_found name.0 past)) first ∙ ap not e)
      ]

  change-change : IsChange holdings_of w opener → is_change name.0 past opening ≡ true
  change-change c =
      let first : opens_first name.0 past opening ≡ true = first-is ∙ ap not c.closed_before in
      let e : (count_shown (opening ∷ past) == last_found name.0 past) ≡ false =
      ne_eqb (count_shown (opening ∷ past)) (last_found name.0 past)
      (λ same. c.another (k.found name.0 opener its-home ∙ sym same ∙ shown-shut c.closed_before)) in
      ap (λ b. b && not (count_shown (opening ∷ past) == last_found name.0 past)) first ∙ ap not e

  -- ---- who is there

  own-found : (place_at (opened holdings_of w opener) opener).found ≡ last_found name.0 (opening ∷ past)
  own-found = by (is_open (place_at w opener)) refl where
    by : (b : Bool) → is_open (place_at w opener) ≡ b → (place_at (opened holdings_of w opener) opener).found ≡ last_found name.0 (opening ∷ past)
    by true e =
        let first = first-is ∙ ap not e in
        let o = own.opens holdings_of w opener live.0 true e in
        ap (λ (x : Participant). x.found) o.own ∙ rw e (k.found name.0 opener its-home ∙ sym (rw first refl))
    by false e =
        let first = first-is ∙ ap not e in
        let o = own.opens holdings_of w opener live.0 false e in
        o.found (λ nested. false≢true (sym e ∙ nested))
        ∙ sym (ap (λ b. if b then count_shown (opening ∷ past) else last_found name.0 past) first ∙ shown-shut e)

  found-now : (n q : ℕ) → home old.places n ≡ Some q → (place_at new.world q).found ≡ last_found n (opening ∷ past)
  found-now n q e =
      ap (λ (u : World Val). (place_at u q).found) world
      ∙ elim (own-or n q e) [
        | inl h ↦
            subst (λ m. (place_at (opened holdings_of w opener) q).found ≡ last_found m (opening ∷ past)) (sym h.0)
            (ap (λ r. (place_at (opened holdings_of w opener) r).found) h.1 ∙ own-found)
        | inr h ↦
            ap (λ (x : Participant). x.found) (opened-other holdings_of w opener live.0 q h.1) ∙ k.found n q e
            ∙ sym (quiet-found past opening n (other-opens n h.0))
      ]

  guards-now : (n q : ℕ) → home old.places n ≡ Some q → (place_at new.world q).guards ≡ open_guards n (opening ∷ past)
  guards-now n q e =
      let one = (opens-one w opener live.0).guards q in
      ap (λ (u : World Val). (place_at u q).guards) world
      ∙ elim (own-or n q e) [
        | inl h ↦
            (let told : open_guards name.0 (opening ∷ past) ≡ open_guards name.0 past + 1 = rw mine refl in
            let same : open_guards n (opening ∷ past) ≡ open_guards name.0 (opening ∷ past) = ap (λ m. open_guards m (opening ∷ past)) h.0 in
            let before : open_guards n past ≡ open_guards name.0 past = ap (λ m. open_guards m past) h.0 in
            omega (arith, one, one-if opener q (sym h.1), told, same, before, k.guards n q e))
        | inr h ↦
            (let told = quiet-guards past opening n (other-opens n h.0) refl in
            omega (arith, one, none-if opener q (λ same. h.1 (sym same)), told, k.guards n q e))
      ]

  -- ---- what waits

  stays-ended : (q : ℕ) → is_ended (phase_at w.time q) ≡ true → is_ended (phase_at new.world.time q) ≡ true
  stays-ended q e =
      ap (λ (u : World Val). is_ended (phase_at u.time q)) world
      ∙ ap (λ ps. is_ended (slice_index_or ps q None)) (opens-one w opener live.0).phases ∙ e

  -- what waits at the opener's place is the opener's, and what waits elsewhere is another's
  holder-is : (n q : ℕ) → HoldsAt past old n q → ((n ≡ name.0) × (q ≡ opener)) ⊎ ((n ≢ name.0) × (q ≢ opener))
  holder-is n q (inl here) = own-or n q here
  holder-is n q (inr (none, over, place)) =
      inr (
        λ same. not-some (sym none ∙ ap (λ m. home old.places m) same ∙ its-home),
        λ same. false≢true (sym (ap is_ended (live-is w.time opener live)) ∙ ap (λ r. is_ended (phase_at w.time r)) (sym same) ∙ place),
      )

  -- what is due doesn't wait any more
  gone-then : (x : LimboEntry) → is_waiting_in w x ≡ true → Contains (reclaims w opener) x → is_waiting_in (opened holdings_of w opener) x ≡ true → ⊥
  gone-then (Item s) waits due now =
      let v = some-is (value_at w s) (filled-there w s k.whole.filled ∙ some-waits (standing_at w s) waits) in
      let some = counted-there (is_of_slot s) (reclaims w opener) (Item s) due (eq-eqb s s refl) in
      let gone = opened-goes holdings_of w opener live.0 s (standing_at w s) v.0 waits some (record { standing = refl; value = v.1 }) in
      false≢true (sym (ap is_waiting gone.standing) ∙ now)
  gone-then (Job j) waits due now =
      false≢true (sym (ap is_some ((runs-once holdings_of w k.whole.jobs_once).runs opener j live due).1) ∙ now)

  -- what begins to wait was given up to the opener
  begun-then : (x : LimboEntry) → is_waiting_in w x ≡ false → is_waiting_in (opened holdings_of w opener) x ≡ true →
      AwaitsAt (opened holdings_of w opener) opener x 0
  begun-then (Item s) idle now =
      elim (opens-keeps opener s holdings_of w live.0 k.whole (begins-out (slots-opened w opener) s now idle)).1 [
        | inl still ↦ absurd (false≢true (sym (out-waits-not (standing_at (opened holdings_of w opener) s) still) ∙ now))
        | inr fresh ↦ fresh.1
      ]
  begun-then (Job j) idle now = absurd (false≢true (sym idle ∙ taken-before w opener k.whole live j now))

  module _ (x : LimboEntry) (now : is_waiting_in new.world x ≡ true) where
    now-opened : is_waiting_in (opened holdings_of w opener) x ≡ true
    now-opened = ap (λ (u : World Val). is_waiting_in u x) (sym world) ∙ now

    -- it waited, and waits still, so many changes later
    waits-later : (waits : is_waiting_in w x ≡ true) (seen : ℕ) → AwaitsAt (opened holdings_of w opener) (k.waits x waits).place x seen →
        changes (start_of past x).holder (opening ∷ past) ≡ changes (start_of past x).holder (start_of past x).lines + seen → HasSeen (opening ∷ past) new x
    waits-later waits seen still count =
        let h = k.waits x waits in
        let n = (start_of past x).holder in
        seen-as (opening ∷ past) new x (start_of past x)
        (start-kept past opening x (begins-not past opening x waits) (not-adopted past old opening n h.place k.here (stays-ended h.place) h.held)) h.place seen
        (subst (λ (u : World Val). AwaitsAt u h.place x seen) (sym world) still)
        (held-on past old new (At name call.Open) (reply.Guard g epoch) reclaimed ran k after same-home n h.place (stays-ended h.place) h.held) count

    -- it waits with the opener
    by-own : (waits : is_waiting_in w x ≡ true) → (start_of past x).holder ≡ name.0 → (k.waits x waits).place ≡ opener →
        Nests holdings_of w opener ⊎ IsChange holdings_of w opener → HasSeen (opening ∷ past) new x
    by-own waits holder place (inl nests) =
        let h = k.waits x waits in
        let quiet : changes (start_of past x).holder (opening ∷ past) ≡ changes (start_of past x).holder past =
        subst (λ m. changes m (opening ∷ past) ≡ changes m past) (sym holder) (let e = nests-change nests in rw e refl) in
        waits-later waits h.seen
        (subst (λ q. AwaitsAt (opened holdings_of w opener) q x h.seen) (sym place)
        (nests-awaits w opener x h.seen live.0 nests (subst (λ q. AwaitsAt w q x h.seen) place h.waits))) (quiet ∙ h.count)
    by-own waits holder place (inr change) =
        let h = k.waits x waits in
        let here : AwaitsAt w opener x h.seen = subst (λ q. AwaitsAt w q x h.seen) place h.waits in
        let more : changes (start_of past x).holder (opening ∷ past) ≡ changes (start_of past x).holder past + 1 =
        subst (λ m. changes m (opening ∷ past) ≡ changes m past + 1) (sym holder) (let e = change-change change in rw e refl) in
        elim (cases_lt h.seen 2) [
          | inl young ↦
              waits-later waits (h.seen + 1)
              (subst (λ q. AwaitsAt (opened holdings_of w opener) q x (h.seen + 1)) (sym place) (change-awaits w opener x h.seen live.0 change young here))
              (omega (arith, more, h.count))
          | inr ripe ↦
              (let two : h.seen ≡ 2 = omega (arith, ripe, awaits-young w opener x h.seen here k.whole) in
              let due = due-there x (place_at w opener).bags.waiting (subst (λ c. AwaitsAt w opener x c) two here) in
              absurd (gone-then x waits (subst (λ xs. Contains xs x) (sym change.due) due) now-opened))
        ]

    by-waiting : is_waiting_in w x ≡ true → HasSeen (opening ∷ past) new x
    by-waiting waits =
        let h = k.waits x waits in
        elim (holder-is (start_of past x).holder h.place h.held) [
          | inl own ↦ by-own waits own.0 own.1 (how holdings_of w opener live.0)
          | inr other ↦
              waits-later waits h.seen
              (subst (λ (y : Participant). Contains y.bags.waiting (having_seen h.seen x))
              (sym (opened-other holdings_of w opener live.0 h.place other.1)) h.waits)
              (quiet-changes past opening (start_of past x).holder (other-opens (start_of past x).holder other.0) ∙ h.count)
        ]

    -- it was given up by what the opening reclaims
    by-begun : is_waiting_in w x ≡ false → HasSeen (opening ∷ past) new x
    by-begun idle =
        seen-as (opening ∷ past) new x (history.here past opening x) (start-begun past opening x (begins-now past opening x now idle)) opener 0
        (subst (λ (u : World Val). AwaitsAt u opener x 0) (sym world) (begun-then x idle now-opened)) (inl (same-home name.0 ∙ its-home)) (omega arith)

    waits-now : HasSeen (opening ∷ past) new x
    waits-now = by (is_waiting_in w x) refl where
      by : (b : Bool) → is_waiting_in w x ≡ b → HasSeen (opening ∷ past) new x
      by true e = by-waiting e
      by false e = by-begun e

  pub tells-opens : Tells (opening ∷ past) new
  tells-opens = record {
    whole = after;
    inside = λ n q e.
        subst (λ (u : World Val). IsPlaceOf u q) (sym world)
        (live-by w.time (opened holdings_of w opener).time (opens-one w opener live.0).phases (opens-one w opener live.0).places q (k.inside n q (was n q e)));
    apart = λ n m q e f. k.apart n m q (was n q e) (was m q f);
    found = λ n q e. found-now n q (was n q e);
    guards = λ n q e. guards-now n q (was n q e);
    here = λ n q e. k.here n q (was n q e);
    fresh = λ n l.
        (let far : length old.places ≤ n = omega (arith, l, same-length) in
        let f = k.fresh n far in
        let in_range = home-inside old.places name.0 opener its-home in
        let other = other-opens n (λ same. absurd (omega (arith, same, far, in_range))) in
        (quiet-found past opening n other ∙ f.0, quiet-guards past opening n other refl ∙ f.1, f.2));
    waits = waits-now;
    shown = bounds (is_open (place_at w opener)) refl;
    behind = λ n q e. found-low n q (was n q e);
  } where
    bounds : (b : Bool) → is_open (place_at w opener) ≡ b →
        (count_shown (opening ∷ past) ≤ new.world.time.count) × (new.world.time.count ≤ count_shown (opening ∷ past) + 1)
    bounds true e = (omega (arith, k.shown.0, count-same, shown-nested e), omega (arith, k.shown.1, count-same, shown-nested e))
    bounds false e = (omega (arith, count-same, shown-shut e), omega (arith, count-same, shown-shut e))

    more : (b : Bool) → is_open (place_at w opener) ≡ b → count_shown past ≤ count_shown (opening ∷ past)
    more true e = omega (arith, shown-nested e)
    more false e = omega (arith, k.shown.0, shown-shut e)

    own-low : (b : Bool) → is_open (place_at w opener) ≡ b → (place_at (opened holdings_of w opener) opener).found ≤ count_shown (opening ∷ past)
    own-low true e =
        let same = ap (λ (x : Participant). x.found) (own.opens holdings_of w opener live.0 true e).own in
        let slots = (own.opens holdings_of w opener live.0 true e).slots in
        let nested : (opened_at w.time.count slots (place_at w opener)).found ≡ (place_at w opener).found = rw e refl in
        omega (arith, same, nested, k.behind name.0 opener its-home, shown-nested e)
    own-low false e =
        omega (arith, (own.opens holdings_of w opener live.0 false e).found (λ nested. false≢true (sym e ∙ nested)), shown-shut e)

    found-low : (n q : ℕ) → home old.places n ≡ Some q → (place_at new.world q).found ≤ count_shown (opening ∷ past)
    found-low n q e =
        let same = ap (λ (u : World Val). (place_at u q).found) world in
        elim (own-or n q e) [
          | inl h ↦ omega (arith, same, ap (λ r. (place_at (opened holdings_of w opener) r).found) h.1, own-low (is_open (place_at w opener)) refl)
          | inr h ↦
              omega (
                arith,
                same,
                ap (λ (x : Participant). x.found) (opened-other holdings_of w opener live.0 q h.1),
                k.behind n q e,
                more (is_open (place_at w opener)) refl,
              )
        ]

  -- ---- what is due

  due-told : (x : LimboEntry) → Contains (reclaims w opener) x → Nests holdings_of w opener ⊎ IsChange holdings_of w opener → IsDueAt name.0 past opening x
  due-told x c (inl nests) = absurd (let lt = c.1 in omega (arith, lt, ap length nests.none))
  due-told x c (inr change) =
      let due = due-from x (place_at w opener).bags.waiting (subst (λ xs. Contains xs x) change.due c) in
      let waits = awaits-waits w opener x due.0 due.2 k.whole in
      let h = k.waits x waits in
      let same = awaits-once w opener x due.0 due.2 k.whole h.place h.seen h.waits in
      elim (holder-is (start_of past x).holder h.place h.held) [
        | inr other ↦ absurd (other.1 same.0)
        | inl own ↦ record {
          change = change-change change;
          waits = waits;
          holder = own.0;
          between = subst (λ m. changes m past ≡ changes m (start_of past x).lines + 2) own.0
              (omega (arith, h.count, same.1, due.1, awaits-young w opener x due.0 due.2 k.whole));
        }
      ]

  told-due : (x : LimboEntry) → IsDueAt name.0 past opening x → Nests holdings_of w opener ⊎ IsChange holdings_of w opener → Contains (reclaims w opener) x
  told-due x d (inl nests) = absurd (false≢true (sym (nests-change nests) ∙ d.change))
  told-due x d (inr change) =
      let h = k.waits x d.waits in
      elim (holder-is (start_of past x).holder h.place h.held) [
        | inr other ↦ absurd (other.0 d.holder)
        | inl own ↦
            (let before : changes (start_of past x).holder past ≡ changes name.0 past = ap (λ m. changes m past) d.holder in
            let first : changes (start_of past x).holder (start_of past x).lines ≡ changes name.0 (start_of past x).lines =
            ap (λ m. changes m (start_of past x).lines) d.holder in
            let two : h.seen ≡ 2 = omega (arith, h.count, d.between, before, first) in
            let here : AwaitsAt w opener x 2 = subst (λ q. AwaitsAt w q x 2) own.1 (subst (λ c. AwaitsAt w h.place x c) two h.waits) in
            subst (λ xs. Contains xs x) (sym change.due) (due-there x (place_at w opener).bags.waiting here))
      ]

  pub due-is : (x : LimboEntry) → Contains (reclaims w opener) x ↔ IsDueAt name.0 past opening x
  due-is x = (λ c. due-told x c (how holdings_of w opener live.0), λ d. told-due x d (how holdings_of w opener live.0))
