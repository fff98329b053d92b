-- What the lines so far say of a state, after a line that closes a guard
use Rattle.sdd_script_model.proofs.Words.{◌&&◌, not, list_all, eq-eqb, ne_eqb, with_place, rested, is_ended, having_seen, Entries, PlaceState, keeps-closed, closed, live-is, nothing-waits, guards-closed, one-if, still-live, GuardName, ItemName, JobName, PlaceName, At, Line, adopts, count_shown, has_ended, is_waiting_in, leaves_none_ended, open_guards, start_of, IsParticipant, place_of, passes, last_count, LimboEntry, [], ◌≡◌, ◌≢◌, ◌⊎◌, ℕ, ◌+◌, ◌-◌, ◌<◌, ◌≤◌, ◌==◌, Bool, true, false, nat_lt, if◌then◌else◌, List, ◌∷◌, Some, None, length, slice_index_or, inl, inr, refl, sym, ap, ◌∙◌, subst, arith, cases_eq, cases_lt, false≢true, nat_tests, Contains, EpochState, IsLive, is_open, phase_at, Participant, World, IsPlaceOf, place_at, IsWhole, Val, ScriptState}
use Rattle.sdd_participants.specs.Bags.{Bags}
use Rattle.sdd_participants.proofs.Adoptions.{none-left}
use Rattle.sdd_world_model.specs.Adopting.{IsToScan}
use Rattle.sdd_world_model.proofs.Adoption.{adopts-what-is-left}
use Rattle.sdd_world_model.proofs.GuardClosed.{how-closed, put-same}
use Rattle.sdd_world_model.proofs.UnderGuards.{closed-persists}
use Rattle.sdd_script_model.proofs.History.{home, home-apart, home-inside, begins-not, not-adopted, quiet-guards, none-ended, seen-as, waits-same, start-adopted, start-kept, HasSeen, Tells}
use Rattle.sdd_script_model.proofs.StateByLines.{home-is, line, held-on}
use Rattle.sdd_script_model.proofs.WaitsAt.{AwaitsAt}
use Rattle.sdd_participants.specs.EpochState as time
use Rattle.sdd_script_text.specs.declared.answer.Reply.TheVariants as reply
use Rattle.sdd_script_text.specs.Actions as call
use Rattle.sdd_script_model.proofs.History as history

-- ---- a close scans, or leaves what waits and who has ended as it is

-- what waits, and what each place is, is as before
pub record StaysPut (t u : EpochState) : Type 0 where
  pub phases : u.phases ≡ t.phases
  pub count : u.count ≡ t.count
  pub bags : (q : ℕ) → (time.place_at u q).bags ≡ (time.place_at t q).bags

module _ (t : EpochState) (p : ℕ) (l : IsLive t p) where
  put-still : (x : Participant) → x.bags ≡ (time.place_at t p).bags → StaysPut t (with_place t p x)
  put-still x e = record { phases = refl; count = refl; bags = put-same (λ (y : Participant). y.bags) t p x l.0 e }

  abbrev one : Bool
  one = nat_lt 1 (time.place_at t p).guards

  abbrev shown : Bool
  shown = is_open (time.place_at t p)

  abbrev down : Bool
  down = (time.place_at t p).countdown == 0

  abbrev same_count : Bool
  same_count = (time.place_at t p).found == t.count

  still-more : one ≡ true → StaysPut t (time.closed t p)
  still-more e = rw e (put-still (record (time.place_at t p) { guards = (time.place_at t p).guards - 1 }) refl)

  still-shut : one ≡ false → shown ≡ false → StaysPut t (time.closed t p)
  still-shut e f = rw (e, f) (record { phases = refl; count = refl; bags = λ q. refl })

  still-up : one ≡ false → shown ≡ true → down ≡ false → StaysPut t (time.closed t p)
  still-up e f g = rw (e, f, g) (put-still (rested t.marked (time.place_at t p)) refl)

  still-other : one ≡ false → shown ≡ true → down ≡ true → same_count ≡ false → StaysPut t (time.closed t p)
  still-other e f g h = rw (e, f, g, h) (put-still (rested t.marked (time.place_at t p)) refl)

  -- the raise of the count leaves what each place is
  raised-phases : (u : EpochState) → (time.raised u).phases ≡ u.phases
  raised-phases u = by (nat_lt u.count last_count && list_all (passes u.count) u.places) where
    by : (b : Bool) → (if b then record u { count = u.count + 1 } else u).phases ≡ u.phases
    by true = refl
    by false = refl

  scanned-phases : one ≡ false → shown ≡ true → down ≡ true → same_count ≡ true → (time.closed t p).phases ≡ (time.adopted t p).phases
  scanned-phases e f g h = rw (e, f, g, h) (raised-phases (record (time.adopted t p) { marked = false }))

  closed-how : ((time.place_at t p).guards ≡ 1) × ((time.place_at t p).countdown ≡ 0) × ((time.place_at t p).found ≡ t.count)
      × ((time.closed t p).phases ≡ (time.adopted t p).phases) ⊎ StaysPut t (time.closed t p)
  closed-how = by one refl shown refl down refl same_count refl where
    by : (a : Bool) → one ≡ a → (b : Bool) → shown ≡ b → (c : Bool) → down ≡ c → (d : Bool) → same_count ≡ d →
        (((time.place_at t p).guards ≡ 1) × ((time.place_at t p).countdown ≡ 0) × ((time.place_at t p).found ≡ t.count)
        × ((time.closed t p).phases ≡ (time.adopted t p).phases)) ⊎ StaysPut t (time.closed t p)
    by true e b f c g d h = inr (still-more e)
    by false e false f c g d h = inr (still-shut e f)
    by false e true f false g d h = inr (still-up e f g)
    by false e true f true g false h = inr (still-other e f g h)
    by false e true f true g true h =
        inl (grind (arith, nat_tests, e, f), grind (arith, nat_tests, g), grind (arith, nat_tests, h), scanned-phases e f g h)

  -- one guard of p fewer is open, if one was
  fewer-guards : (time.place_at (time.closed t p) p).guards ≡ (time.place_at t p).guards - 1
  fewer-guards = by (cases_lt 0 (time.place_at t p).guards) where
    by : (0 < (time.place_at t p).guards) ⊎ ((time.place_at t p).guards ≤ 0) → (time.place_at (time.closed t p) p).guards ≡ (time.place_at t p).guards - 1
    by (inl some) = omega (arith, guards-closed t p p l some, one-if p p refl)
    by (inr none) =
        let a : one ≡ false = grind (arith, nat_tests, none) in
        let b : shown ≡ false = grind (arith, nat_tests, none) in
        rw (a, b) (omega (arith, none))

-- ---- a guard is closed

module _ (past : List Line) (old new : ScriptState) (name : PlaceName) (g : GuardName) (reclaimed : List ItemName) (ran : List JobName) (k : Tells past old)
    (after : IsWhole new.world) (there : IsParticipant old name.0) (world : new.world ≡ closed old.world (place_of old name.0))
    (places : new.places ≡ old.places) where
  abbrev closing : Line
  closing = line past old new (At name (call.Close g)) reply.Done reclaimed ran k after

  abbrev closer : ℕ
  closer = place_of old name.0

  abbrev t : EpochState
  t = old.world.time

  its-home : home old.places name.0 ≡ Some closer
  its-home = home-is old name.0 there

  live : IsLive t closer
  live = k.inside name.0 closer its-home

  same-home : (n : ℕ) → home new.places n ≡ home old.places n
  same-home n = ap (λ ps. home ps n) places

  was : (n q : ℕ) → home new.places n ≡ Some q → home old.places n ≡ Some q
  was n q e = sym (same-home n) ∙ e

  guards-now : (n q : ℕ) → home old.places n ≡ Some q → (place_at new.world q).guards ≡ open_guards n (closing ∷ past)
  guards-now n q e =
      elim (cases_eq n name.0) [
        | inl is ↦
            (let own : closer ≡ q = home-apart old.places n closer q (ap (λ m. home old.places m) is ∙ its-home) e in
            let mine : (name.0 == n) ≡ true = eq-eqb name.0 n (sym is) in
            let told : open_guards n (closing ∷ past) ≡ open_guards n past - 1 = rw mine refl in
            let here : (place_at new.world q).guards ≡ (place_at old.world q).guards - 1 =
            subst (λ r. (place_at new.world r).guards ≡ (place_at old.world r).guards - 1) own
            (ap (λ (w : World Val). (place_at w closer).guards) world ∙ fewer-guards t closer live) in
            omega (arith, here, told, k.guards n q e))
        | inr ne ↦
            (let apart : q ≢ closer = λ same. ne (k.apart n name.0 q e (its-home ∙ ap (λ r. Some r) (sym same))) in
            ap (λ (w : World Val). (place_at w q).guards) world ∙ (how-closed t closer live).guards q apart ∙ k.guards n q e
            ∙ sym (quiet-guards past closing n refl (ne_eqb name.0 n (λ same. ne (sym same)))))
      ]

  -- what waited at a place that has ended waits with who scans, as if it began to now
  adopted-now : IsToScan old.world closer → (x : LimboEntry) (q seen : ℕ) → is_ended (phase_at t q) ≡ true → AwaitsAt old.world q x seen →
      AwaitsAt new.world closer x 0
  adopted-now scan x q seen over h =
      let free = (adopts-what-is-left old.world k.whole closer q scan over).0 in
      let bare : (place_at new.world q).bags.waiting ≡ [] =
      after.housed.bare q (ap (λ (w : World Val). phase_at w.time q) world ∙ free) in
      elim ((how-closed t closer live).waits q (having_seen seen x) h) [
        | inl still ↦
            absurd (nothing-waits (place_at (closed old.world closer) q).bags.waiting (having_seen seen x) still
            (ap (λ (w : World Val). (place_at w q).bags.waiting) (sym world) ∙ bare))
        | inr moved ↦ subst (λ (w : World Val). AwaitsAt w closer x 0) (sym world) moved.1
      ]

  module _ (x : LimboEntry) (waits : is_waiting_in old.world x ≡ true) where
    h : HasSeen past old x
    h = k.waits x waits

    -- it waits still, and its holder is as before
    goes-on : (is_ended (phase_at t h.place) ≡ true → is_ended (phase_at new.world.time h.place) ≡ true) → AwaitsAt new.world h.place x h.seen →
        HasSeen (closing ∷ past) new x
    goes-on stays still =
        let n = (start_of past x).holder in
        seen-as (closing ∷ past) new x (start_of past x)
        (start-kept past closing x (begins-not past closing x waits) (not-adopted past old closing n h.place k.here stays h.held)) h.place h.seen still
        (held-on past old new (At name (call.Close g)) reply.Done reclaimed ran k after same-home n h.place stays h.held) h.count

    -- it waited with one who is there
    by-live : home old.places (start_of past x).holder ≡ Some h.place → HasSeen (closing ∷ past) new x
    by-live here =
        let on : is_ended (phase_at t h.place) ≡ false = ap is_ended (live-is t h.place (k.inside (start_of past x).holder h.place here)) in
        goes-on (λ over. absurd (false≢true (sym on ∙ over)))
        (subst (λ (w : World Val). AwaitsAt w h.place x h.seen) (sym world)
        ((closed-persists t closer h.place live on).waits (having_seen h.seen x) h.waits))

    -- it waited with one who has ended
    by-ended : has_ended (start_of past x).holder past ≡ true → is_ended (phase_at t h.place) ≡ true → HasSeen (closing ∷ past) new x
    by-ended over place =
        elim (closed-how t closer live) [
          | inl scan ↦
              (let to_scan : IsToScan old.world closer = record { place = live; last = scan.0; countdown = scan.1; found = scan.2 } in
              let none : leaves_none_ended closing ≡ true =
              ap (λ (w : World Val). list_all (λ phase. not (is_ended phase)) w.time.phases) world
              ∙ ap (λ (xs : Entries PlaceState). list_all (λ phase. not (is_ended phase)) xs) scan.3
              ∙ none-ended (time.adopted t closer).phases (none-left t closer live k.whole.housed.lengths) in
              let only : (open_guards name.0 past == 1) ≡ true = eq-eqb (open_guards name.0 past) 1 (sym (k.guards name.0 closer its-home) ∙ scan.0) in
              let mine : (name.0 == name.0) ≡ true = eq-eqb name.0 name.0 refl in
              let adopting : adopts past closing ≡ true = rw (mine, only, none) refl in
              seen-as (closing ∷ past) new x (history.here past closing x) (start-adopted past closing x (begins-not past closing x waits) over adopting)
              closer 0 (adopted-now to_scan x h.place h.seen place h.waits) (inl (same-home name.0 ∙ its-home)) (omega arith))
          | inr still ↦
              goes-on
              (λ e. ap (λ (w : World Val). is_ended (phase_at w.time h.place)) world ∙ ap (λ ps. is_ended (slice_index_or ps h.place None)) still.phases ∙ e)
              (subst (λ (w : World Val). AwaitsAt w h.place x h.seen) (sym world)
              (subst (λ (b : Bags). Contains b.waiting (having_seen h.seen x)) (sym (still.bags h.place)) h.waits))
        ]

    waits-on : HasSeen (closing ∷ past) new x
    waits-on = elim h.held [
      | inl here ↦ by-live here
      | inr (none, over, place) ↦ by-ended over place
    ]

  count-now : (count_shown past ≤ new.world.time.count) × (new.world.time.count ≤ count_shown past + 1)
  count-now =
      let same = ap (λ (w : World Val). w.time.count) world in
      elim (closed-how t closer live) [
        | inl scan ↦
            (let low = k.behind name.0 closer its-home in
            elim (how-closed t closer live).goes_on [
              | inl e ↦ (omega (arith, k.shown.0, scan.2, low, same, e), omega (arith, k.shown.1, scan.2, low, same, e))
              | inr e ↦ (omega (arith, k.shown.0, scan.2, low, same, e), omega (arith, k.shown.0, scan.2, low, same, e))
            ])
        | inr still ↦ (omega (arith, k.shown.0, same, still.count), omega (arith, k.shown.1, same, still.count))
      ]

  pub tells-closes : Tells (closing ∷ past) new
  tells-closes = record {
    whole = after;
    inside = λ n q e.
        subst (λ (w : World Val). IsPlaceOf w q) (sym world)
        (still-live t (time.closed t closer) q (keeps-closed t closer live) (k.inside n q (was n q e)));
    apart = λ n m q e f. k.apart n m q (was n q e) (was m q f);
    found = λ n q e. ap (λ (w : World Val). (place_at w q).found) world ∙ (how-closed t closer live).found q ∙ k.found n q (was n q e);
    guards = λ n q e. guards-now n q (was n q e);
    here = λ n q e. k.here n q (was n q e);
    fresh = λ n l.
        (let far : length old.places ≤ n = omega (arith, l, ap length places) in
        let f = k.fresh n far in
        let in_range = home-inside old.places name.0 closer its-home in
        (f.0, quiet-guards past closing n refl (ne_eqb name.0 n (λ same. absurd (omega (arith, same, l, in_range, ap length places)))) ∙ f.1, f.2));
    waits = λ x now. waits-on x (sym (ap (λ (w : World Val). is_waiting_in w x) world ∙ waits-same old.world (closed old.world closer) x refl refl) ∙ now);
    shown = count-now;
    behind = λ n q e.
        omega (arith, ap (λ (w : World Val). (place_at w q).found) world, (how-closed t closer live).found q, k.behind n q (was n q e));
  }
