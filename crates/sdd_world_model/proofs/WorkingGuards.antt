-- Work under accelerated guards doesn't hinder them
use Rattle.std.proofs.Common.{◌≡◌, ◌≢◌, ◌⊎◌, inl, inr, ℕ, ◌+◌, ◌<◌, ◌≤◌, List, length, Bool, refl, sym, ap, ◌∙◌, arith, true, false, Some, nat_lt, IsTrue, map, slice_index_or, subst}
use Rattle.std.specs.Prelude.{◌-◌, ◌==◌, if◌then◌else◌, not}
use Rattle.std.proofs.lemmas.List.{length-map, length-set, get_or-set_same}
use Rattle.std.proofs.lemmas.Bool.Decides.{nat_tests}
use Rattle.std.proofs.Math.ListN.{get_or-map}
use Rattle.sdd_participants.specs.declared.waiting.LimboEntry.{LimboEntry}
use Rattle.sdd_participants.specs.declared.waiting.LimboEntry.TheVariants.{Item, Job}
use Rattle.sdd_participants.specs.declared.place_states.PlaceState.{PlaceState}
use Rattle.sdd_participants.specs.declared.participant.Participant.{Participant}
use Rattle.sdd_participants.specs.PlaceStates.{is_live}
use Rattle.sdd_participants.specs.Slab.{Entries, with_entry}
use Rattle.sdd_participants.specs.Collecting.{time_without, without}
use Rattle.sdd_participants.specs.EpochState.{EpochState, IsLive, with_place, nobody, is_open, last_count}
use Rattle.sdd_participants.specs.EpochState as time
use Rattle.sdd_participants.proofs.Adoptions.{keeps-closed, same-or-not}
use Rattle.sdd_participants.specs.declared.standing.Standing.TheVariants.{Owned, Shared}
use Rattle.sdd_world_model.specs.Collecting.{is_for, without_collector}
use Rattle.sdd_world_model.specs.OwnerOrCell.{OwnerOrCell}
use Rattle.sdd_world_model.specs.ParticipantChanges.{all_awaiting}
use Rattle.sdd_world_model.specs.ReclaimBound.{WaitsWith, IsGone, IsHeldUp}
use Rattle.sdd_world_model.specs.World.{World, IsPlaceOf, place_at}
use Rattle.sdd_world_model.specs.WorldChanges.{made, made_shared, retired, owner_given, deferred, with_cell, opened, accelerated, closed}
use Rattle.sdd_world_model.specs.WorldInvariant.{IsWhole}
use Rattle.sdd_world_model.specs.WorldStep.{WorldStep}
use Rattle.sdd_world_model.specs.WorldStep.WorldStep.{registers, ends, opens, closes, stirs, accelerates, makes, shares, retires, releases, defers, collects, closes_collector, edits, drops, puts_out_raw, takes_back_raw, changes_cells, closes_cell, changes_pointers}
use Rattle.sdd_world_model.specs.WorkingGuards.{openings_left, Calls, HasGone, MovesOn, WorksThrough, IsWork, Works, PassesWork, WorkingGuardsPass, BusyGuardsCount, WorkLaws, WorkingGuardsReclaim}
use Rattle.sdd_world_model.specs.UnderGuards.{CallsUnder}
use Rattle.sdd_world_model.specs.UnderGuards.CallsUnder.{none, more_calls}
use Rattle.sdd_world_model.proofs.PlacesMatchStates.{Whole-opened, Whole-closed, registered-lives, ended-lives}
use Rattle.sdd_world_model.specs.WorkingGuards.Calls.{no_call, one_more}
use Rattle.sdd_world_model.specs.WorkingGuards.Works.{no_work, more_work, one_guard}
use Rattle.sdd_world_model.specs.WorkingGuards.WorksThrough.{starts, one_opening, one_close, one_call}
use Rattle.sdd_world_model.proofs.GuardClosed.{how-closed, put-same, goes-up}
use Rattle.sdd_world_model.proofs.WaitingEntries.{differs, opens-changed}
use Rattle.sdd_world_model.proofs.AcceleratedReclaim.{AllClosed, all-closed, not-guarded, closed-is, phases-opened}
use Rattle.sdd_world_model.proofs.Nesting.{guards-closed, one-if, none-if, still-live}
use Rattle.sdd_world_model.proofs.GuardOpened.{how, opened-other, Nests, IsChange}
use Rattle.sdd_world_model.proofs.ParticipantChanges.{Gives, Gives-owner_given, Gives-cell_closed, Gives-dropped, Gives-collector_closed}
use Rattle.sdd_world_model.proofs.ParticipantChanges as own
use Rattle.sdd_world_model.proofs.AcceleratedGuards.{nesting-opened}
use Rattle.sdd_world_model.proofs.WorldInvariant.{all_awaiting-guards, one_where}
use Rattle.sdd_world_model.proofs.ReclaimBound.{Measure, IsIdleClose, resting, nested-open, not-open, Wanes, Whole-called, wanes-opening, wanes-call}

-- how many openings are left with this participant at this count
abbrev openings_of : (count : ℕ) → Participant → (seen : ℕ) → ℕ
openings_of count x seen = (if not (x.found == count) then 1 else (if is_open x then 1 else 2)) + (2 - seen)

matches : (m n : ℕ) → m ≡ n → (m == n) ≡ true
matches m n e = grind (arith, nat_tests)

openings-another : (count seen : ℕ) (x : Participant) → x.found ≢ count → openings_of count x seen ≡ 1 + (2 - seen)
openings-another count seen x apart = rw (differs x.found count apart) refl

openings-open : (count seen : ℕ) (x : Participant) → x.found ≡ count → is_open x ≡ true → openings_of count x seen ≡ 1 + (2 - seen)
openings-open count seen x found o = rw (matches x.found count found, o) refl

openings-shut : (count seen : ℕ) (x : Participant) → x.found ≡ count → is_open x ≡ false → openings_of count x seen ≡ 2 + (2 - seen)
openings-shut count seen x found o = rw (matches x.found count found, o) refl

openings-bounds-if : (count seen : ℕ) (x : Participant) → (x.found ≡ count) ⊎ (x.found ≢ count) → (b : Bool) → is_open x ≡ b →
    (1 + (2 - seen) ≤ openings_of count x seen) × (openings_of count x seen ≤ 2 + (2 - seen))
openings-bounds-if count seen x (inl found) true o = let all = openings-open count seen x found o in (omega (arith, all), omega (arith, all))
openings-bounds-if count seen x (inl found) false o = let all = openings-shut count seen x found o in (omega (arith, all), omega (arith, all))
openings-bounds-if count seen x (inr apart) b o = let all = openings-another count seen x apart in (omega (arith, all), omega (arith, all))

openings-bounds : (count seen : ℕ) (x : Participant) → (1 + (2 - seen) ≤ openings_of count x seen) × (openings_of count x seen ≤ 2 + (2 - seen))
openings-bounds count seen x = openings-bounds-if count seen x (same-or-not x.found count) (is_open x) refl

-- the countdown plays no part
openings-slower : (count seen : ℕ) (x y : Participant) → y.found ≡ x.found → is_open y ≡ is_open x → y.countdown ≤ x.countdown →
    openings_of count y seen ≤ openings_of count x seen
openings-slower count seen x y f o d = let same : openings_of count y seen ≡ openings_of count x seen = rw (f, o) refl in omega (arith, same)

openings-later : (count seen : ℕ) (x : Participant) → x.found ≤ count → openings_of (count + 1) x seen ≤ openings_of count x seen
openings-later count seen x found =
    omega (arith, (openings-bounds count seen x).0, openings-another (count + 1) seen x (λ same. absurd (omega (arith, same, found))))

-- each opening lowers it
openings-nest : (count seen : ℕ) (x : Participant) → x.found ≡ count → is_open x ≡ false → openings_of count (time.nested x) seen + 1 ≤ openings_of count x seen
openings-nest count seen x found shut = omega (arith, openings-open count seen (time.nested x) found (nested-open x), openings-shut count seen x found shut)

openings-change : (count seen : ℕ) (x y : Participant) → x.found ≢ count → y.found ≡ count → is_open y ≡ true → y.countdown ≤ 127 → seen < 2 →
    openings_of count y (seen + 1) + 1 ≤ openings_of count x seen
openings-change count seen x y another found o low young =
    omega (arith, young, openings-open count (seen + 1) y found o, openings-another count seen x another)

-- no close raises it after which another count is to be found
openings-elsewhere : (count seen countdown : ℕ) (x : Participant) → x.found ≢ count → openings_of count (resting countdown x) seen ≤ openings_of count x seen
openings-elsewhere count seen countdown x apart =
    omega (arith, openings-another count seen x apart, openings-another count seen (resting countdown x) apart)

openings-raised : (count seen countdown : ℕ) (x : Participant) → x.found ≡ count → openings_of (count + 1) (resting countdown x) seen ≤ openings_of count x seen
openings-raised count seen countdown x found =
    let apart : x.found ≢ count + 1 = λ same. absurd (omega (arith, same, found)) in
    omega (arith, (openings-bounds count seen x).0, openings-another (count + 1) seen (resting countdown x) apart)

-- a close may raise it that doesn't scan
abbrev by_openings : Measure (λ countdown. countdown ≢ 0)
by_openings = record {
  remains = openings_of;
  some = λ count seen x. omega (arith, (openings-bounds count seen x).0);
  slower = openings-slower;
  later = openings-later;
  nests = openings-nest;
  changes = openings-change;
  last = λ count x another. openings-another count 2 x another;
  counts_down = λ count seen x found o some. inr some;
  elsewhere = openings-elsewhere;
  raised = openings-raised;
}

module _ {T : Type 0} (holds : T → List OwnerOrCell) where
  -- after an idle close no other count is to be found, and no guard is open
  not-idle : (w new : World T) (q : ℕ) → MovesOn holds w q → ¬ (IsIdleClose (λ countdown. countdown ≢ 0) w new q)
  not-idle w new q (inl another) idle = absurd (grind (arith, nat_tests, another, idle.found))
  not-idle w new q (inr (scans, free)) idle = elim (idle.why) [ inl counts ↦ absurd (counts scans) | inr held ↦ absurd (free held) ]

  not-last : (w new : World T) (q : ℕ) → (IsTrue (is_open (place_at w q)) → IsTrue (is_open (place_at new q))) →
      ¬ (IsIdleClose (λ countdown. countdown ≢ 0) w new q)
  not-last w new q keeps idle = let never : false ≡ true = sym idle.shut ∙ keeps idle.was_open in absurd (cc)

  calls-of : (q : ℕ) {n : ℕ} {u w : World T} → WorksThrough holds q n u w → Calls holds u w
  calls-of q (starts w) = no_call w
  calls-of q (one_opening n u v path live shut) = one_more u v (opened holds v q) (calls-of q path) (opens v q live)
  calls-of q (one_close n u v path live moves) = one_more u v (closed v q) (calls-of q path) (closes v q live)
  calls-of q (one_call n u v w path live call keeps) = one_more u v w (calls-of q path) call

  -- it was free before, or is now, or goes on to wait
  abbrev Goes : (w new : World T) (q : ℕ) (what : LimboEntry) (seen n : ℕ) → Type 0
  Goes w new q what seen n = HasGone holds what w new ⊎ Wanes by_openings holds w new q what seen n

  free-now : (w new : World T) (q : ℕ) (what : LimboEntry) (seen n : ℕ) → Calls holds w new → (IsGone new what) ⊎ Wanes by_openings holds w new q what seen n →
      Goes w new q what seen n
  free-now w new q what seen n path (inl gone) = inl (new, path, no_call new, gone)
  free-now w new q what seen n path (inr on) = inr on

  free-later : (w v new : World T) (q : ℕ) (what : LimboEntry) (seen n m : ℕ) → Calls holds w v → (call : WorldStep holds v new) → Goes w v q what seen n →
      (Wanes by_openings holds w v q what seen n → (IsGone new what) ⊎ Wanes by_openings holds w new q what seen m) →
      Goes w new q what seen m
  free-later w v new q what seen n m path call (inl (there, before, after, free)) next = inl (there, before, one_more there v new after call, free)
  free-later w v new q what seen n m path call (inr on) next = free-now w new q what seen m (one_more w v new path call) (next on)

  goes : (q : ℕ) (what : LimboEntry) (seen : ℕ) {n : ℕ} {w new : World T} → WorksThrough holds q n w new → IsWhole w → WaitsWith w q what seen
      → Goes w new q what seen n
  goes q what seen (starts w) i h = inr (record { whole = i; later = seen; waits = h; lower = omega arith })
  goes q what seen (one_opening n w v path live shut) i h =
      free-later w v (opened holds v q) q what seen n (n + 1) (calls-of q path) (opens v q live) (goes q what seen path i h)
      (λ on. wanes-opening by_openings holds w v q what seen n on live (not-open (is_open (place_at v q)) shut))
  goes q what seen (one_close n w v path live moves) i h =
      free-later w v (closed v q) q what seen n n (calls-of q path) (closes v q live) (goes q what seen path i h)
      (λ on. wanes-call by_openings holds w v (closed v q) q what seen n on live (closes v q live) (not-idle v (closed v q) q moves))
  goes q what seen (one_call n w v new path live call keeps) i h =
      free-later w v new q what seen n n (calls-of q path) call (goes q what seen path i h)
      (λ on. wanes-call by_openings holds w v new q what seen n on live call (not-last v new q keeps))

  by-then : (w new : World T) (q : ℕ) (what : LimboEntry) (seen n : ℕ) → openings_left w.time q seen ≤ n → Goes w new q what seen n → HasGone holds what w new
  by-then w new q what seen n enough (inl free) = free
  by-then w new q what seen n enough (inr on) =
      absurd (omega (arith, on.lower, enough, (openings-bounds new.time.count on.later (place_at new q)).0))

  pub working-guards-reclaim : (w : World T) → IsWhole w → WorkingGuardsReclaim holds w
  working-guards-reclaim w i = record {
    bounded = λ q seen. omega (arith, (openings-bounds w.time.count seen (place_at w q)).1);
    gone = λ q seen what h n new path enough. by-then w new q what seen n enough (goes q what seen path i h);
  }

  joins : (q m : ℕ) (u : World T) {n : ℕ} {v w : World T} → WorksThrough holds q m u v → WorksThrough holds q n v w → WorksThrough holds q (m + n) u w
  joins q m u first (starts w) = subst (λ (k : ℕ). WorksThrough holds q k u w) (omega arith) first
  joins q m u first (one_opening n v w path live shut) =
      subst (λ (k : ℕ). WorksThrough holds q k u (opened holds w q)) (omega arith) (one_opening (m + n) u w (joins q m u first path) live shut)
  joins q m u first (one_close n v w path live moves) = one_close (m + n) u w (joins q m u first path) live moves
  joins q m u first (one_call n v w x path live call keeps) = one_call (m + n) u w x (joins q m u first path) live call keeps

  work-follows : (u : World T) {v w : World T} → Works holds u v → Works holds v w → Works holds u w
  work-follows u first (no_work w) = first
  work-follows u first (more_work v x w path call is) = more_work u x w (work-follows u first path) call is
  work-follows u first (one_guard p v x w path live inside) = one_guard p u x w (work-follows u first path) live inside

  pub work-laws : WorkLaws holds
  work-laws = record {
    ways = λ q m n u v w first path. joins q m u first path;
    following = λ u v w first path. work-follows u first path;
    nothing = λ w. no_work w;
    making = λ w k value free. more_work w w (made w k value) (no_work w) (makes w k value Owned (inl refl) free) tt;
    making_shared = λ w k value free. more_work w w (made_shared w k value) (no_work w) (makes w k value (Shared 1) (inr refl) free) tt;
    retiring = λ w p k live there. more_work w w (retired w p k) (no_work w) (retires w p k live there) tt;
    releasing = λ w p k n live there. more_work w w (owner_given w p k (Some (Shared n))) (no_work w) (releases w p k n live there) tt;
    deferring = λ w p j live free. more_work w w (deferred w p j) (no_work w) (defers w p j live free) tt;
    filling = λ w c cell.
        more_work w w (with_cell w c cell) (no_work w) (changes_cells w (with_entry w.cells c cell) (length-set w.cells c (Some cell))) tt;
    guarding = λ w worked p live inside. one_guard p w w worked (no_work w) live inside;
  }

-- the same guards are open, whoever has one open has found what it had found, and the same participants are there
record KeepsGuards (t u : EpochState) : Type 0 where
  guards : (q : ℕ) → (time.place_at u q).guards ≡ (time.place_at t q).guards
  found : (q : ℕ) → IsTrue (is_open (time.place_at t q)) → (time.place_at u q).found ≡ (time.place_at t q).found
  places : length u.places ≡ length t.places
  lives : time.lives u ≡ time.lives t
  nesting : u.nesting ≡ t.nesting

keeps-all : (t : EpochState) → KeepsGuards t t
keeps-all t = record { guards = λ q. refl; found = λ q o. refl; places = refl; lives = refl; nesting = refl }

open-on : (t u : EpochState) (q : ℕ) → KeepsGuards t u → IsTrue (is_open (time.place_at t q)) → IsTrue (is_open (time.place_at u q))
open-on t u q k o = ap (λ (n : ℕ). nat_lt 0 n) (k.guards q) ∙ o

live-on : (t u : EpochState) (q : ℕ) → KeepsGuards t u → IsLive t q → IsLive u q
live-on t u q k l = (omega (arith, k.places, l.0), subst (λ (bs : List Bool). IsTrue (slice_index_or bs q false)) (sym k.lives) l.1)

keeps-then : (t u v : EpochState) → KeepsGuards t u → KeepsGuards u v → KeepsGuards t v
keeps-then t u v a b = record {
  guards = λ q. b.guards q ∙ a.guards q;
  found = λ q o. b.found q (open-on t u q a o) ∙ a.found q o;
  places = b.places ∙ a.places;
  lives = b.lives ∙ a.lives;
  nesting = b.nesting ∙ a.nesting;
}

keeps-place : (t : EpochState) (p : ℕ) (x : Participant) → p < length t.places → x.guards ≡ (time.place_at t p).guards →
    x.found ≡ (time.place_at t p).found → KeepsGuards t (with_place t p x)
keeps-place t p x l g f = record {
  guards = put-same (λ (y : Participant). y.guards) t p x l g;
  found = λ q o. put-same (λ (y : Participant). y.found) t p x l f q;
  places = length-set t.places p x;
  lives = refl;
  nesting = refl;
}

keeps-chosen : (t : EpochState) (chosen : LimboEntry → Bool) → KeepsGuards t (time_without chosen t)
keeps-chosen t chosen = record {
  guards = λ q. ap (λ (x : Participant). x.guards) (get_or-map (without chosen) t.places q nobody);
  found = λ q o. ap (λ (x : Participant). x.found) (get_or-map (without chosen) t.places q nobody);
  places = length-map t.places (without chosen);
  lives = refl;
  nesting = refl;
}

module _ {T : Type 0} (holds : T → List OwnerOrCell) where
  keeps-given : (w new : World T) (p : ℕ) → p < length w.time.places → Gives p w new → KeepsGuards w.time new.time
  keeps-given w new p l g =
      let x = all_awaiting g.slots (place_at w p) in
      subst (λ (t : EpochState). KeepsGuards w.time t) (sym g.time)
      (keeps-place w.time p x l (all_awaiting-guards g.slots (place_at w p)) (own.all_awaiting-found g.slots (place_at w p)))

  keeps-awaiting : (w : World T) (p : ℕ) (what : LimboEntry) → p < length w.time.places → KeepsGuards w.time (time.awaiting_at w.time p what)
  keeps-awaiting w p what l = keeps-place w.time p (time.awaiting what (place_at w p)) l refl refl

  keeps-accelerated : (w : World T) (p : ℕ) → p < length w.time.places → KeepsGuards w.time (accelerated w p).time
  keeps-accelerated w p l = keeps-place w.time p (time.accelerated (place_at w p)) l refl refl

  work-keeps : {v w : World T} (call : WorldStep holds v w) → IsWork holds call → KeepsGuards v.time w.time
  work-keeps (registers w p vacant) never = absurd never
  work-keeps (ends w p live shut) never = absurd never
  work-keeps (opens w p live) never = absurd never
  work-keeps (closes w p live) never = absurd never
  work-keeps (stirs w p live) is = keeps-place w.time p (time.with_garbage (place_at w p)) live.0 refl refl
  work-keeps (accelerates w p live) is = keeps-accelerated w p live.0
  work-keeps (makes w k value s first empty) is = keeps-all w.time
  work-keeps (shares w k n there) is = keeps-all w.time
  work-keeps (retires w p k live there) is = keeps-awaiting w p (Item k) live.0
  work-keeps (releases w p k n live there) is = keeps-given w _ p live.0 (Gives-owner_given w p k (Some (Shared n)) there)
  work-keeps (defers w p j live free) is = keeps-awaiting w p (Job j) live.0
  work-keeps (collects w p c k live alone) is = keeps-awaiting w p (Item k) live.0
  work-keeps (closes_collector w p c live quiet) is =
      let start = without_collector w c in
      let first = keeps-chosen w.time (is_for w c) in
      keeps-then w.time start.time _ first (keeps-given start _ p (omega (arith, live.0, first.places)) (Gives-collector_closed holds w p c live.0))
  work-keeps (edits w k value may) is = keeps-all w.time
  work-keeps (drops w p k live may) is = keeps-given w _ p live.0 (Gives-dropped holds w p k live.0)
  work-keeps (puts_out_raw w k there) is = keeps-all w.time
  work-keeps (takes_back_raw w k there) is = keeps-all w.time
  work-keeps (changes_cells w cells same) is = keeps-all w.time
  work-keeps (closes_cell w p c live) is = keeps-given w _ p live.0 (Gives-cell_closed w p c live.0)
  work-keeps (changes_pointers w pointers same) is = keeps-all w.time

  -- an opening of p: one guard of p more, and who had one open has found what it had found
  record OpensOne (p : ℕ) (t u : EpochState) : Type 0 where
    guards : (q : ℕ) → (time.place_at u q).guards ≡ (time.place_at t q).guards + one_where (p == q)
    found : (q : ℕ) → IsTrue (is_open (time.place_at t q)) → (time.place_at u q).found ≡ (time.place_at t q).found
    places : length u.places ≡ length t.places
    lives : time.lives u ≡ time.lives t
    nesting : u.nesting ≡ t.nesting

  opened-own : (w : World T) (p : ℕ) → p < length w.time.places → Nests holds w p ⊎ IsChange holds w p →
      ((place_at (opened holds w p) p).guards ≡ (place_at w p).guards + 1) ×
      (IsTrue (is_open (place_at w p)) → (place_at (opened holds w p) p).found ≡ (place_at w p).found)
  opened-own w p l (inl n) =
      let here : place_at (opened holds w p) p ≡ time.nested (place_at w p) =
      ap (λ (u : World T). place_at u p) n.nests ∙ get_or-set_same w.time.places p (time.nested (place_at w p)) nobody l in
      (ap (λ (x : Participant). x.guards) here, λ o. ap (λ (x : Participant). x.found) here)
  opened-own w p l (inr c) =
      let o = own.opens holds w p l (is_open (place_at w p)) refl in
      let y : Participant = time.rotated w.time.count (time.nested (place_at w p)) in
      let another = differs (place_at w p).found w.time.count c.another in
      let here : place_at (opened holds w p) p ≡ time.settled (all_awaiting o.slots y) =
      o.own ∙ opens-changed w.time.count o.slots (place_at w p) c.closed_before another in (
        ap (λ (x : Participant). x.guards) here ∙ all_awaiting-guards o.slots y,
        λ o. absurd (let never : false ≡ true = sym c.closed_before ∙ o in cc),
      )

  opened-at : (w : World T) (p : ℕ) → p < length w.time.places → (q : ℕ) → (q ≡ p) ⊎ (q ≢ p) →
      ((place_at (opened holds w p) q).guards ≡ (place_at w q).guards + one_where (p == q)) ×
      (IsTrue (is_open (place_at w q)) → (place_at (opened holds w p) q).found ≡ (place_at w q).found)
  opened-at w p l q (inl e) =
      let at = opened-own w p l (how holds w p l) in rw e (omega (arith, at.0, one-if p p refl), at.1)
  opened-at w p l q (inr apart) =
      let same = opened-other holds w p l q apart in
      (omega (arith, ap (λ (x : Participant). x.guards) same, none-if p q (λ e. apart (sym e))), λ o. ap (λ (x : Participant). x.found) same)

  opens-one : (w : World T) (p : ℕ) → IsPlaceOf w p → IsWhole w → OpensOne p w.time (opened holds w p).time
  opens-one w p live i =
      let phases = phases-opened holds w p live.0 (how holds w p live.0) in
      let lengths = (Whole-opened holds w p live i).housed.lengths in record {
        guards = λ q. (opened-at w p live.0 q (same-or-not q p)).0;
        found = λ q. (opened-at w p live.0 q (same-or-not q p)).1;
        places = omega (arith, lengths, ap (λ (xs : Entries PlaceState). length xs) phases, i.housed.lengths);
        lives = ap (λ (xs : Entries PlaceState). map is_live xs) phases;
        nesting = nesting-opened holds w p live.0 (how holds w p live.0);
      }

  opened-lives : (v : World T) (p q : ℕ) → IsPlaceOf v p → IsPlaceOf v q → IsWhole v → IsPlaceOf (opened holds v p) q
  opened-lives v p q l live i =
      let o = opens-one v p l i in
      (omega (arith, o.places, live.0), subst (λ (bs : List Bool). IsTrue (slice_index_or bs q false)) (sym o.lives) live.1)

  still-opened : (v : World T) (p q : ℕ) → IsPlaceOf v p → IsWhole v → IsTrue (is_open (place_at v q)) → IsTrue (is_open (place_at (opened holds v p) q))
  still-opened v p q l i o = let more = (opens-one v p l i).guards q in grind (arith, nat_tests, more, o)

  -- a guard that is opened and closed again, with what is kept under it
  bracket : (v w : World T) (p : ℕ) → IsPlaceOf v p → IsWhole v → IsPlaceOf w p → KeepsGuards (opened holds v p).time w.time →
      KeepsGuards v.time (closed w p).time
  bracket v w p l i live k =
      let o = opens-one v p l i in
      let some : 0 < (place_at w p).guards = omega (arith, k.guards p, o.guards p, one-if p p refl) in
      let kept = keeps-closed w.time p live in record {
        guards = λ q. omega (arith, guards-closed w.time p q live some, k.guards q, o.guards q);
        found = λ q was. (how-closed w.time p live).found q ∙ k.found q (still-opened v p q l i was) ∙ o.found q was;
        places = kept.places ∙ k.places ∙ o.places;
        lives = kept.lives ∙ k.lives ∙ o.lives;
        nesting = kept.nesting ∙ k.nesting ∙ o.nesting;
      }

  works-whole : {v w : World T} → Works holds v w → IsWhole v → KeepsGuards v.time w.time × IsWhole w
  works-whole (no_work w) i = (keeps-all w.time, i)
  works-whole (more_work u v w path call is) i =
      let there = works-whole path i in (keeps-then u.time v.time w.time there.0 (work-keeps call is), Whole-called holds call there.1)
  works-whole (one_guard p u v w path l inside) i =
      let there = works-whole path i in
      let first = Whole-opened holds v p l there.1 in
      let end = works-whole inside first in
      let live = live-on (opened holds v p).time w.time p end.0 (opened-lives v p p l l there.1) in
      (keeps-then u.time v.time (closed w p).time there.0 (bracket v w p l there.1 live end.0), Whole-closed w p live end.1)

  -- a way, and who makes the openings is there and has a guard open
  record GoesOn (q n : ℕ) (u w : World T) : Type 0 where
    way : WorksThrough holds q n u w
    whole : IsWhole w
    live : IsPlaceOf w q
    some_open : IsTrue (is_open (place_at w q))

  -- one call more
  next : (q n : ℕ) (u v w : World T) → GoesOn q n u v → WorldStep holds v w → IsPlaceOf w q → IsTrue (is_open (place_at w q)) → GoesOn q n u w
  next q n u v w on call live o = record {
    way = one_call n u v w on.way on.live call (λ _. o);
    whole = Whole-called holds call on.whole;
    live = live;
    some_open = o;
  }

  goes-opened : (q n : ℕ) (u v : World T) (p : ℕ) → IsPlaceOf v p → GoesOn q n u v → GoesOn q n u (opened holds v p)
  goes-opened q n u v p l on =
      next q n u v (opened holds v p) on (opens v p l) (opened-lives v p q l on.live on.whole) (still-opened v p q l on.whole on.some_open)

  goes-working : (q n : ℕ) (u : World T) {v w : World T} → Works holds v w → GoesOn q n u v → GoesOn q n u w
  goes-working q n u (no_work w) on = on
  goes-working q n u (more_work v x w path call is) on =
      let there = goes-working q n u path on in
      let k = work-keeps call is in
      next q n u x w there call (live-on x.time w.time q k there.live) (open-on x.time w.time q k there.some_open)
  goes-working q n u (one_guard p v x w path l inside) on =
      let there = goes-working q n u path on in
      let end = goes-working q n u inside (goes-opened q n u x p l there) in
      let k = (works-whole inside (Whole-opened holds x p l there.whole)).0 in
      let live = live-on (opened holds x p).time w.time p k (opened-lives x p p l l there.whole) in
      let all = bracket x w p l there.whole live k in
      next q n u w (closed w p) end (closes w p live) (live-on x.time (closed w p).time q all there.live)
      (open-on x.time (closed w p).time q all there.some_open)

  -- the first guard is open
  goes-first : (w : World T) (q : ℕ) → IsPlaceOf w q → IsWhole w → ¬ (IsTrue (is_open (place_at w q))) → GoesOn q 1 w (opened holds w q)
  goes-first w q live i shut =
      let more = (opens-one w q live i).guards q in
      let one = one-if q q refl in record {
        way = one_opening 0 w w (starts w) live shut;
        whole = Whole-opened holds w q live i;
        live = opened-lives w q q live live i;
        some_open = let some : (place_at (opened holds w q) q).guards ≡ (place_at w q).guards + 1 = omega (arith, more, one) in grind (arith, nat_tests, some);
      }

  goes-accelerated : (q n : ℕ) (u w : World T) → GoesOn q n u w → GoesOn q n u (accelerated w q)
  goes-accelerated q n u w on =
      let k = keeps-accelerated w q on.live.0 in
      next q n u w (accelerated w q) on (accelerates w q on.live) (live-on w.time (accelerated w q).time q k on.live)
      (open-on w.time (accelerated w q).time q k on.some_open)

  scans-next : (w : World T) (q : ℕ) → q < length w.time.places → (place_at (accelerated w q) q).countdown ≡ 0
  scans-next w q l = ap (λ (x : Participant). x.countdown) (get_or-set_same w.time.places q (time.accelerated (place_at w q)) nobody l)

  not-held : (w : World T) (q : ℕ) → ((p : ℕ) → p ≢ q → is_open (place_at w p) ≡ false) → w.time.count < last_count → ¬ (IsHeldUp w q)
  not-held w q shut room (inl late) = absurd (omega (arith, late, room))
  not-held w q shut room (inr (p, apart, o)) = let never : false ≡ true = sym (shut p apart) ∙ o in absurd (cc)

  -- the last guard is closed, accelerated: no other count is to be found, or it was the last one found
  moves-if : (w : World T) (q : ℕ) → ((p : ℕ) → p ≢ q → is_open (place_at w p) ≡ false) → (place_at w q).countdown ≡ 0 →
      (place_at w q).found < last_count → ((place_at w q).found ≡ w.time.count) ⊎ ((place_at w q).found ≢ w.time.count) → MovesOn holds w q
  moves-if w q shut scans room (inl same) = inr (scans, not-held w q shut (omega (arith, same, room)))
  moves-if w q shut scans room (inr apart) = inl (ap not (differs (place_at w q).found w.time.count apart))

  -- no count is raised that its scan doesn't find
  count-after : (w : World T) (q : ℕ) → IsPlaceOf w q → (place_at w q).guards ≡ 1 → (place_at w q).countdown ≡ 0 → w.time.count ≤ (place_at w q).found + 1 →
      ((place_at w q).found ≡ w.time.count) ⊎ ((place_at w q).found ≢ w.time.count) → (closed w q).time.count ≤ (place_at w q).found + 1
  count-after w q live one scans near (inl same) =
      omega (arith, same, (goes-up w.time.count (closed w q).time.count (how-closed w.time q live).goes_on).1)
  count-after w q live one scans near (inr apart) =
      let test = differs (place_at w q).found w.time.count apart in
      let none : time.scanned w.time q ≡ w.time = rw test refl in
      let is = closed-is holds w.time q (rw one refl) (rw one refl) (rw scans refl) in
      let same : (closed w q).time.count ≡ w.time.count = ap (λ (t : EpochState). t.count) is ∙ ap (λ (t : EpochState). t.count) none in
      omega (arith, same, near)

  -- a close of the one guard that is open leaves none open
  closed-all : (w : World T) (q : ℕ) → IsPlaceOf w q → (place_at w q).guards ≡ 1 → ((p : ℕ) → p ≢ q → is_open (place_at w p) ≡ false) → (p : ℕ) →
      (p ≡ q) ⊎ (p ≢ q) → is_open (place_at (closed w q) p) ≡ false
  closed-all w q live one shut p (inl e) =
      let fewer = guards-closed w.time q q live (omega (arith, one)) in
      let zero : (place_at (closed w q) q).guards ≡ 0 = omega (arith, fewer, one, one-if q q refl) in
      ap (λ (r : ℕ). is_open (place_at (closed w q) r)) e ∙ ap (λ (n : ℕ). nat_lt 0 n) zero
  closed-all w q live one shut p (inr apart) = ap (λ (n : ℕ). nat_lt 0 n) ((how-closed w.time q live).guards p apart) ∙ shut p apart

  module _ (w worked : World T) (q : ℕ) (live : IsPlaceOf w q) (i : IsWhole w) (shut : AllClosed w) (room : w.time.count < last_count)
      (works : Works holds (opened holds w q) worked) where
    abbrev ready : World T
    ready = accelerated worked q

    -- from the opening to the close
    all-along : GoesOn q 1 w ready
    all-along =
        goes-accelerated q 1 w worked
        (goes-working q 1 w works (goes-first w q live i (λ o. let never : false ≡ true = sym (shut q) ∙ o in absurd (cc))))

    first : OpensOne q w.time (opened holds w q).time
    first = opens-one w q live i

    kept : KeepsGuards (opened holds w q).time ready.time
    kept =
        let there = works-whole works (Whole-opened holds w q live i) in
        keeps-then (opened holds w q).time worked.time ready.time there.0
        (keeps-accelerated worked q (live-on (opened holds w q).time worked.time q there.0 (opened-lives w q q live live i)).0)

    others : (p : ℕ) → p ≢ q → is_open (place_at ready p) ≡ false
    others p apart =
        let same : (place_at ready p).guards ≡ (place_at w p).guards = omega (arith, kept.guards p, first.guards p, none-if q p (λ e. apart (sym e))) in
        ap (λ (n : ℕ). nat_lt 0 n) same ∙ shut p

    one-guard : (place_at ready q).guards ≡ 1
    one-guard =
        let before : (place_at w q).guards ≡ 0 = let no = shut q in grind (arith, nat_tests, no) in
        omega (arith, kept.guards q, first.guards q, one-if q q refl, before)

    found-then : (place_at ready q).found ≡ w.time.count
    found-then =
        let o = own.opens holds w q live.0 (is_open (place_at w q)) refl in
        let start = goes-first w q live i (λ o. let never : false ≡ true = sym (shut q) ∙ o in absurd (cc)) in
        kept.found q start.some_open ∙ o.found (λ o. let never : false ≡ true = sym (shut q) ∙ o in absurd (cc))

    scans-then : (place_at ready q).countdown ≡ 0
    scans-then =
        let there = works-whole works (Whole-opened holds w q live i) in
        scans-next worked q (live-on (opened holds w q).time worked.time q there.0 (opened-lives w q q live live i)).0

    passes : PassesWork holds q w (closed ready q)
    passes =
        let end = keeps-closed ready.time q all-along.live in
        let either = same-or-not (place_at ready q).found ready.time.count in
        let near = (all-along.whole.abreast q).near all-along.some_open in
        let moves = moves-if ready q others scans-then (omega (arith, found-then, room)) either in
        record {
          one = one_close 1 w ready all-along.way all-along.live moves;
          quiet = not-guarded (closed ready q) (λ p. closed-all ready q all-along.live one-guard others p (same-or-not p q));
          place = still-live ready.time (closed ready q).time q end all-along.live;
          places = end.places ∙ kept.places ∙ first.places;
          live = end.lives ∙ kept.lives ∙ first.lives;
          nesting = end.nesting ∙ kept.nesting ∙ first.nesting;
          count = omega (arith, found-then, count-after ready q all-along.live one-guard scans-then near either);
        }

  pub working-guards-pass : (w : World T) → IsWhole w → WorkingGuardsPass holds w
  working-guards-pass w i = λ q live quiet room new guard.
      subst (λ (u : World T). PassesWork holds q w u) (sym guard.closes) (passes w guard.worked q live i (all-closed w quiet) room guard.works)

  -- who has a guard open can't end
  live-called : (q : ℕ) {v w : World T} → WorldStep holds v w → IsWhole v → IsPlaceOf v q → IsTrue (is_open (place_at v q)) → IsPlaceOf w q
  live-called q (registers v p vacant) i live o = registered-lives v.time p q i.housed.lengths live
  live-called q (ends v p l shut) i live o =
      ended-lives v.time p q (λ e. absurd (shut (subst (λ (r : ℕ). IsTrue (is_open (place_at v r))) e o))) live
  live-called q (opens v p l) i live o = opened-lives v p q l live i
  live-called q (closes v p l) i live o = still-live v.time (closed v p).time q (keeps-closed v.time p l) live
  live-called q {v} {w} call i live o = live-on v.time w.time q (work-keeps call tt) live

  -- any calls go on from any way, while a guard of q is open
  goes-under : (q n : ℕ) (u : World T) {v w : World T} → CallsUnder holds q v w → GoesOn q n u v → GoesOn q n u w
  goes-under q n u (none w o) on = on
  goes-under q n u (more_calls v x w path call o) on =
      let there = goes-under q n u path on in next q n u x w there call (live-called q call there.whole there.live there.some_open) o

  still-free : (v w : World T) (q : ℕ) → v.time.count ≡ w.time.count → KeepsGuards v.time w.time → ¬ (IsHeldUp v q) → ¬ (IsHeldUp w q)
  still-free v w q same k free (inl late) = free (inl (omega (arith, late, same)))
  still-free v w q same k free (inr (p, apart, o)) = free (inr (p, apart, ap (λ (n : ℕ). nat_lt 0 n) (sym (k.guards p)) ∙ o))

  pub busy-guards-count : (w : World T) → IsWhole w → BusyGuardsCount holds w
  busy-guards-count w i = λ q live shut new path free.
      let there = goes-under q 1 w path (goes-first w q live i shut) in
      let end = goes-accelerated q 1 w new there in
      one_close 1 w (accelerated new q) end.way end.live
      (inr (scans-next new q there.live.0, still-free new (accelerated new q) q refl (keeps-accelerated new q there.live.0) free))
