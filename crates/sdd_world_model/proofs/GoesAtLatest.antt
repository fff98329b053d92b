-- When an item or a job goes at latest
use Rattle.std.proofs.Common.{◌≡◌, ◌≢◌, ◌⊎◌, inl, inr, ℕ, ◌+◌, ◌<◌, ◌≤◌, List, Bool, refl, sym, ◌∙◌, arith, true, false}
use Rattle.std.specs.Prelude.{◌-◌, ◌*◌, ◌==◌, if◌then◌else◌, not}
use Rattle.std.proofs.lemmas.Bool.Decides.{nat_tests}
use Rattle.sdd_participants.specs.EpochState.{EpochState, with_place, nobody, is_open, passes, last_count, counted_down, phase_at, rested}
use Rattle.sdd_participants.specs.EpochState as time
use Rattle.sdd_participants.specs.declared.waiting.LimboEntry.{LimboEntry}
use Rattle.sdd_participants.specs.declared.participant.Participant.{Participant}
use Rattle.sdd_world_model.specs.World.{World, place_at}
use Rattle.sdd_world_model.specs.WorldChanges.{closed}
use Rattle.sdd_world_model.specs.OwnerOrCell.{OwnerOrCell}
use Rattle.sdd_world_model.specs.WorldInvariant.{IsWhole}
use Rattle.sdd_world_model.specs.ReclaimBound.{WaitsWith, IsGone, left, IsHeldUp, OpeningsLower, NoCallRaises, GoesAtLatest, WaitsThrough, GoesInTime}
use Rattle.sdd_world_model.specs.ReclaimBound.WaitsThrough.{starts, one_opening, one_call}
use Rattle.sdd_world_model.proofs.PlacesMatchStates.{items}
use Rattle.sdd_participants.proofs.Adoptions.{same-or-not}
use Rattle.sdd_world_model.proofs.WaitingEntries.{waiting-place, differs}
use Rattle.sdd_world_model.proofs.ReclaimBound.{Measure, IsIdleClose, resting, nested-open, not-open, opens-lower, Outcome, each-call, waits-low, Wanes, wanes-opening, wanes-call}

-- what is left with this participant at this count
abbrev left_of : (count : ℕ) → Participant → (seen : ℕ) → ℕ
left_of count x seen = if not (x.found == count) then 1 + 128 * (2 - seen) else x.countdown + (if is_open x then 1 else 2) + 128 * (2 - seen)

matches : (m n : ℕ) → m ≡ n → (m == n) ≡ true
matches m n e = grind (arith, nat_tests)

left-another : (count seen : ℕ) (x : Participant) → x.found ≢ count → left_of count x seen ≡ 1 + 128 * (2 - seen)
left-another count seen x apart = rw (differs x.found count apart) refl

left-open : (count seen : ℕ) (x : Participant) → x.found ≡ count → is_open x ≡ true → left_of count x seen ≡ x.countdown + 1 + 128 * (2 - seen)
left-open count seen x found o = rw (matches x.found count found, o) refl

left-shut : (count seen : ℕ) (x : Participant) → x.found ≡ count → is_open x ≡ false → left_of count x seen ≡ x.countdown + 2 + 128 * (2 - seen)
left-shut count seen x found o = rw (matches x.found count found, o) refl

left-bounds-if : (count seen : ℕ) (x : Participant) → (x.found ≡ count) ⊎ (x.found ≢ count) → (b : Bool) → is_open x ≡ b →
    (1 + 128 * (2 - seen) ≤ left_of count x seen) × (left_of count x seen ≤ x.countdown + 2 + 128 * (2 - seen))
left-bounds-if count seen x (inl found) true o = let all = left-open count seen x found o in (omega (arith, all), omega (arith, all))
left-bounds-if count seen x (inl found) false o = let all = left-shut count seen x found o in (omega (arith, all), omega (arith, all))
left-bounds-if count seen x (inr apart) b o = let all = left-another count seen x apart in (omega (arith, all), omega (arith, all))

left-bounds : (count seen : ℕ) (x : Participant) → (1 + 128 * (2 - seen) ≤ left_of count x seen) × (left_of count x seen ≤ x.countdown + 2 + 128 * (2 - seen))
left-bounds count seen x = left-bounds-if count seen x (same-or-not x.found count) (is_open x) refl

-- the same count is found, and there is no more to count down
slower-if : (count seen : ℕ) (x y : Participant) → y.found ≡ x.found → is_open y ≡ is_open x → y.countdown ≤ x.countdown →
    (x.found ≡ count) ⊎ (x.found ≢ count) → (b : Bool) → is_open x ≡ b → left_of count y seen ≤ left_of count x seen
slower-if count seen x y f g d (inl found) true o = omega (arith, d, left-open count seen x found o, left-open count seen y (f ∙ found) (g ∙ o))
slower-if count seen x y f g d (inl found) false o = omega (arith, d, left-shut count seen x found o, left-shut count seen y (f ∙ found) (g ∙ o))
slower-if count seen x y f g d (inr apart) b o = omega (arith, left-another count seen x apart, left-another count seen y (λ e. apart (sym f ∙ e)))

slower : (count seen : ℕ) (x y : Participant) → y.found ≡ x.found → is_open y ≡ is_open x → y.countdown ≤ x.countdown →
    left_of count y seen ≤ left_of count x seen
slower count seen x y f g d = slower-if count seen x y f g d (same-or-not x.found count) (is_open x) refl

-- what the count found says of two counts, one after the other
later : (count seen : ℕ) (x : Participant) → x.found ≤ count → left_of (count + 1) x seen ≤ left_of count x seen
later count seen x found = omega (arith, (left-bounds count seen x).0, left-another (count + 1) seen x (λ same. absurd (omega (arith, same, found))))

rests-counting : (count seen : ℕ) (x : Participant) → x.found ≡ count → is_open x ≡ true → x.countdown ≢ 0 →
    left_of count (resting (x.countdown - 1) x) seen ≤ left_of count x seen
rests-counting count seen x found o some =
    omega (arith, some, left-open count seen x found o, left-shut count seen (resting (x.countdown - 1) x) found refl)

rests-elsewhere : (count seen countdown : ℕ) (x : Participant) → x.found ≢ count → left_of count (resting countdown x) seen ≤ left_of count x seen
rests-elsewhere count seen countdown x apart = omega (arith, left-another count seen x apart, left-another count seen (resting countdown x) apart)

rests-raised : (count seen countdown : ℕ) (x : Participant) → x.found ≡ count → left_of (count + 1) (resting countdown x) seen ≤ left_of count x seen
rests-raised count seen countdown x found =
    let apart : x.found ≢ count + 1 = λ same. absurd (omega (arith, same, found)) in
    omega (arith, (left-bounds count seen x).0, left-another (count + 1) seen (resting countdown x) apart)

-- an outermost opening that finds the count found last
nests-lower : (count seen : ℕ) (x : Participant) → x.found ≡ count → is_open x ≡ false → left_of count (time.nested x) seen + 1 ≤ left_of count x seen
nests-lower count seen x found shut =
    omega (arith, left-open count seen (time.nested x) found (nested-open x), left-shut count seen x found shut)

-- one that is a change
changes-lower : (count seen : ℕ) (x y : Participant) → x.found ≢ count → y.found ≡ count → is_open y ≡ true → y.countdown ≤ 127 → seen < 2 →
    left_of count y (seen + 1) + 1 ≤ left_of count x seen
changes-lower count seen x y another found o low young =
    omega (arith, low, young, left-open count (seen + 1) y found o, left-another count seen x another)

-- what is left with a countdown to the next scan: no close raises it, but one that is held up
abbrev by_countdown : Measure (λ _. ⊥)
by_countdown = record {
  remains = left_of;
  some = λ count seen x. omega (arith, (left-bounds count seen x).0);
  slower = slower;
  later = later;
  nests = nests-lower;
  changes = changes-lower;
  last = λ count x another. left-another count 2 x another;
  counts_down = λ count seen x found o some. inl (rests-counting count seen x found o some);
  elsewhere = rests-elsewhere;
  raised = rests-raised;
}

module _ {T : Type 0} (holds : T → List OwnerOrCell) where
  pub openings-lower : (w : World T) → IsWhole w → OpeningsLower holds w
  openings-lower w i = λ q what seen h shut.
      opens-lower by_countdown holds w q what seen (waiting-place w q what seen h) i h (not-open (is_open (place_at w q)) shut)

  -- a close that doesn't lower it is held up
  held : (w new : World T) (q : ℕ) → IsIdleClose (λ _. ⊥) w new q → (new ≡ closed w q) × IsHeldUp w q
  held w new q idle = (idle.closes, elim (idle.why) [ inl never ↦ absurd never | inr h ↦ h ])

  outcome : (w new : World T) (q : ℕ) (what : LimboEntry) (seen : ℕ) → Outcome by_countdown holds w new q what seen →
      IsGone new what
      ⊎ ((later : ℕ) × WaitsWith new q what later × ((left new.time q later ≤ left w.time q seen) ⊎ ((new ≡ closed w q) × IsHeldUp w q)))
  outcome w new q what seen (inl gone) = inl gone
  outcome w new q what seen (inr (later, waits, inl lower)) = inr (later, waits, inl lower)
  outcome w new q what seen (inr (later, waits, inr idle)) = inr (later, waits, inr (held w new q idle))

  pub no-call-raises : (w : World T) → IsWhole w → NoCallRaises holds w
  no-call-raises w i = λ new call q what seen live h. outcome w new q what seen (each-call by_countdown holds q what seen call i live h)

  pub left-bounded : (w : World T) (q : ℕ) (what : LimboEntry) (seen : ℕ) → IsWhole w → WaitsWith w q what seen → left w.time q seen ≤ 385
  left-bounded w q what seen i h = omega (arith, waits-low w q what seen (items i) h, (left-bounds w.time.count seen (place_at w q)).1)

  pub goes-at-latest : (w : World T) → IsWhole w → GoesAtLatest holds w
  goes-at-latest w i =
      record { bounded = λ q what seen h. left-bounded w q what seen i h; lowered = openings-lower w i; never_raised = no-call-raises w i }

  still : {w new : World T} {q seen n : ℕ} {what : LimboEntry} → IsGone new what ⊎ Wanes by_countdown holds w new q what seen n → ¬ (IsGone new what) →
      Wanes by_countdown holds w new q what seen n
  still (inl gone) there = absurd (there gone)
  still (inr on) there = on

  wanes : (q : ℕ) (what : LimboEntry) (seen : ℕ) {n : ℕ} {w new : World T} → WaitsThrough holds q what n w new → IsWhole w → WaitsWith w q what seen →
      Wanes by_countdown holds w new q what seen n
  wanes q what seen (starts w) i h = record { whole = i; later = seen; waits = h; lower = omega arith }
  wanes q what seen (one_opening n w v path live shut there) i h =
      still (wanes-opening by_countdown holds w v q what seen n (wanes q what seen path i h) live (not-open (is_open (place_at v q)) shut)) there
  wanes q what seen (one_call n w v new path live call free there) i h =
      still (wanes-call by_countdown holds w v new q what seen n (wanes q what seen path i h) live call (λ idle. free (held v new q idle))) there

  pub goes-in-time : (w : World T) → IsWhole w → GoesInTime holds w
  goes-in-time w i = λ q what seen h n new path.
      let o = wanes q what seen path i h in
      omega (arith, o.lower, (left-bounds new.time.count o.later (place_at new q)).0)
