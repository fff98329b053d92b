-- What is always true of a world is true after each call: each place keeps its phase
use Rattle.std.proofs.Common.{◌≡◌, ◌≢◌, ◌⊎◌, inl, inr, ℕ, ◌+◌, ◌<◌, ◌≤◌, List, [], ◌∷◌, ◌++◌, length, Bool, refl, sym, ap, ◌∙◌, arith, true, false, Some, None, nat_lt, Option, map, sum_by, slice_index_or, slice_set, IsTrue, subst}
use Rattle.std.specs.Prelude.{◌-◌, ◌==◌, Contains, if◌then◌else◌}
use Rattle.std.proofs.Math.ListN.{get_or-append, get_or-map}
use Rattle.std.proofs.lemmas.List.{get_or_push, length-map, length-set, length-append, get_or-set_same, get_or-set_other, get_or_past}
use Rattle.std.proofs.lemmas.List.Sums.{sum_by-set, sum_by-append}
use Rattle.std.proofs.lemmas.Bool.Decides.{nat_tests}
use Rattle.sdd_participants.specs.Waiting.{Waiting, having_seen}
use Rattle.sdd_participants.specs.declared.waiting.LimboEntry.TheVariants.{Item, Job}
use Rattle.sdd_participants.specs.EpochState.{EpochState, with_place, nobody, newcomer, due_next, is_open, phase_at, rested, waiting_count, IsLive, IsVacant}
use Rattle.sdd_participants.specs.EpochState as time
use Rattle.sdd_participants.specs.PlaceStates.{is_live}
use Rattle.sdd_participants.specs.Slab.{Entries, IsEmptyAt}
use Rattle.sdd_participants.specs.declared.place_states.PlaceState.{PlaceState}
use Rattle.sdd_participants.specs.declared.place_states.PlaceState.TheVariants.{Live, Ended}
use Rattle.sdd_participants.specs.declared.participant.Participant.{Participant}
use Rattle.sdd_participants.specs.declared.participant.CountdownState.{CountdownState}
use Rattle.sdd_participants.specs.declared.standing.Standing.{Standing}
use Rattle.sdd_participants.specs.declared.standing.Standing.TheVariants.{Shared, Retired}
use Rattle.sdd_participants.specs.declared.standing.CellContents.{CellContents}
use Rattle.sdd_participants.specs.declared.standing.RawCellContents.{RawCellContents}
use Rattle.sdd_world_model.specs.Slots.{is_waiting}
use Rattle.sdd_participants.proofs.Adoptions.{Scans, scans-if, scans-there, live-entry, same-or-not}
use Rattle.sdd_world_model.specs.World.{World, standing_at, place_at}
use Rattle.sdd_participants.specs.Collecting.{rest_of, time_without, without}
use Rattle.sdd_participants.specs.declared.waiting.LimboEntry.{LimboEntry}
use Rattle.sdd_world_model.specs.Collecting.{collector_closed, is_for, waiting_for, without_collector}
use Rattle.sdd_world_model.specs.WorldChanges.{waiting_as, made_as, with_standing, with_value, dropped, owner_given, retired, cell_closed, deferred, all_reclaimed, changed}
use Rattle.sdd_world_model.specs.WorldChanges as steps
use Rattle.sdd_world_model.specs.OwnerOrCell.{OwnerOrCell}
use Rattle.sdd_world_model.specs.WorldInvariant.{KeepsUp, PlacesMatchStates, IsWhole, is_of_job}
use Rattle.sdd_world_model.specs.ParticipantChanges.{all_awaiting}
use Rattle.sdd_world_model.specs.Out.{is_out}
use Rattle.sdd_world_model.specs.WorldStep.{IsFirst}
use Rattle.sdd_world_model.proofs.ParticipantChanges.{Gives, Gives-all_reclaimed, Gives-owner_given, Gives-cell_closed, Gives-dropped}
use Rattle.sdd_world_model.proofs.WorldInvariant.{HasItems, below-or-past, append-last, all_awaiting-guards}
use Rattle.sdd_world_model.proofs.WorldInvariant as whole
use Rattle.sdd_world_model.proofs.TimesListed.{listed-closed, listed-registered}
use Rattle.sdd_world_model.proofs.Jobs.{JobsOnce}
use Rattle.sdd_world_model.proofs.Jobs as jobs
use Rattle.sdd_world_model.specs.ReclaimBound.{Waits, WaitsWith}
use Rattle.sdd_world_model.proofs.GuardOpened.{how, Nests, IsChange}
use Rattle.sdd_world_model.proofs.WaitingEntries.{waiting-place}

-- the place is there, and not free
pub record IsTaken (t : EpochState) (p : ℕ) : Type 0 where
  pub there : p < length t.places
  pub taken : phase_at t p ≢ None

pub live-is : (t : EpochState) (p : ℕ) → IsLive t p → phase_at t p ≡ Some Live
live-is t p l = live-entry t.phases p l.1

pub live-taken : (t : EpochState) (p : ℕ) → IsLive t p → IsTaken t p
live-taken t p l = record { there = l.0; taken = λ none. let live : phase_at t p ≡ Some Live = live-is t p l in cc }

-- one place changes
housed-at : (t : EpochState) (p : ℕ) (x : Participant) (P : ℕ → Participant → Type 0) → p < length t.places → P p x → ((r : ℕ) → P r (time.place_at t r))
    → (r : ℕ) →
    (r ≡ p) ⊎ (r ≢ p) → P r (time.place_at (with_place t p x) r)
housed-at t p x P l a b r (inl e) =
    subst (λ (n : ℕ). P n (time.place_at (with_place t p x) n)) (sym e) (subst (λ (y : Participant). P p y) (sym (get_or-set_same t.places p x nobody l)) a)
housed-at t p x P l a b r (inr apart) = subst (λ (y : Participant). P r y) (sym (get_or-set_other t.places p r x nobody apart)) (b r)

pub each-place : (t : EpochState) (p : ℕ) (x : Participant) (P : ℕ → Participant → Type 0) → p < length t.places → P p x → ((r : ℕ) → P r (time.place_at t r)) →
    (r : ℕ) → P r (time.place_at (with_place t p x) r)
each-place t p x P l a b r = housed-at t p x P l a b r (same-or-not r p)

housed-put : (t : EpochState) (p : ℕ) (x : Participant) → IsTaken t p → (IsTrue (is_open x) → phase_at t p ≡ Some Live) → PlacesMatchStates t
    → PlacesMatchStates (with_place t p x)
housed-put t p x l opened h =
    record {
      lengths = h.lengths ∙ sym (length-set t.places p x);
      shut = each-place t p x (λ r y. IsTrue (is_open y) → phase_at t r ≡ Some Live) l.there opened h.shut;
      bare = each-place t p x (λ r y. phase_at t r ≡ None → y.bags.waiting ≡ []) l.there (λ none. absurd (l.taken none)) h.bare;
    }

-- a live place may be anything
housed-live : (t : EpochState) (p : ℕ) (x : Participant) → IsLive t p → PlacesMatchStates t → PlacesMatchStates (with_place t p x)
housed-live t p x l h = housed-put t p x (live-taken t p l) (λ _. live-is t p l) h

-- as many guards as before
housed-keeps : (t : EpochState) (p : ℕ) (x : Participant) → IsTaken t p → x.guards ≡ (time.place_at t p).guards → PlacesMatchStates t
    → PlacesMatchStates (with_place t p x)
housed-keeps t p x l e h = housed-put t p x l (λ o. h.shut p (subst (λ (n : ℕ). IsTrue (nat_lt 0 n)) e o)) h

taken-put : (t : EpochState) (p : ℕ) (x : Participant) → IsTaken t p → IsTaken (with_place t p x) p
taken-put t p x l = record { there = omega (arith, l.there, length-set t.places p x); taken = l.taken }

-- what is chosen is taken out
place-without : (t : EpochState) (chosen : LimboEntry → Bool) (p : ℕ) → time.place_at (time_without chosen t) p ≡ without chosen (time.place_at t p)
place-without t chosen p = get_or-map (without chosen) t.places p nobody

taken-without : (t : EpochState) (chosen : LimboEntry → Bool) (p : ℕ) → IsTaken t p → IsTaken (time_without chosen t) p
taken-without t chosen p l = record { there = omega (arith, l.there, length-map t.places (without chosen)); taken = l.taken }

housed-without : (t : EpochState) (chosen : LimboEntry → Bool) → PlacesMatchStates t → PlacesMatchStates (time_without chosen t)
housed-without t chosen h = record {
  lengths = h.lengths ∙ sym (length-map t.places (without chosen));
  shut = λ p o. h.shut p (subst (λ (x : Participant). IsTrue (is_open x)) (place-without t chosen p) o);
  bare = λ p none. ap (λ (x : Participant). x.bags.waiting) (place-without t chosen p) ∙ ap (rest_of chosen) (h.bare p none);
}

-- a new item waits not
first-idle : (s : Standing) → IsFirst s → is_waiting (Some s) ≡ false
first-idle s (inl e) = rw e refl
first-idle s (inr e) = rw e refl

module _ {T : Type 0} where
  pub items : {w : World T} → IsWhole w → HasItems w
  items i = record { filled = i.filled; once = i.once; abreast = i.abreast; counted = i.counted }

  pub with-places : {w : World T} → HasItems w → JobsOnce w → PlacesMatchStates w.time → IsWhole w
  with-places i j h = record { filled = i.filled; once = i.once; jobs_once = j; abreast = i.abreast; housed = h; counted = i.counted }

  housed-gives : {u v : World T} (p : ℕ) → IsTaken u.time p → PlacesMatchStates u.time → Gives p u v → IsTaken v.time p × PlacesMatchStates v.time
  housed-gives {u} {v} p l h g =
      let x = all_awaiting g.slots (place_at u p) in
      subst (λ (t : EpochState). IsTaken t p × PlacesMatchStates t) (sym g.time)
      (taken-put u.time p x l, housed-keeps u.time p x l (all_awaiting-guards g.slots (place_at u p)) h)

  module _ (holds : T → List OwnerOrCell) where
    -- a change
    housed-changed : (w : World T) (p : ℕ) → IsTaken w.time p → PlacesMatchStates w.time → PlacesMatchStates (changed holds w p).time
    housed-changed w p l h =
        let x = time.rotated w.time.count (place_at w p) in
        let start = steps.rotated w p in
        let start_taken = taken-put w.time p x l in
        let end = all_reclaimed holds start p (due_next (place_at w p)) in
        let g = Gives-all_reclaimed holds start p (due_next (place_at w p)) start_taken.there in
        let after = housed-gives p start_taken (housed-keeps w.time p x l refl h) g in
        housed-keeps end.time p (time.settled (place_at end p)) after.0 refl after.1

    pub taken-changed : (w : World T) (p : ℕ) → IsTaken w.time p → IsTaken (changed holds w p).time p
    taken-changed w p l =
        let start = steps.rotated w p in
        let start_taken = taken-put w.time p (time.rotated w.time.count (place_at w p)) l in
        let end = all_reclaimed holds start p (due_next (place_at w p)) in
        let g = Gives-all_reclaimed holds start p (due_next (place_at w p)) start_taken.there in
        let end_taken =
        subst (λ (t : EpochState). IsTaken t p) (sym g.time) (taken-put start.time p (all_awaiting g.slots (place_at start p)) start_taken) in
        taken-put end.time p (time.settled (place_at end p)) end_taken

    pub Whole-changed : (w : World T) (p : ℕ) → IsTaken w.time p → IsWhole w → IsWhole (changed holds w p)
    Whole-changed w p l i = with-places (whole.Items-changed holds w p l.there (items i)) (jobs.once-changed holds w p l.there i.jobs_once)
        (housed-changed w p l i.housed)

    housed-nested : (w : World T) (p : ℕ) → IsLive w.time p → PlacesMatchStates w.time → PlacesMatchStates (steps.nested w p).time
    housed-nested w p l h = housed-live w.time p (time.nested (place_at w p)) l h

    housed-changes : (w : World T) (p : ℕ) → IsLive w.time p → PlacesMatchStates w.time → PlacesMatchStates (changed holds (steps.nested w p) p).time
    housed-changes w p l h =
        housed-changed (steps.nested w p) p (taken-put w.time p (time.nested (place_at w p)) (live-taken w.time p l)) (housed-nested w p l h)

    pub Whole-changes_nested : (w : World T) (p : ℕ) → IsLive w.time p → IsWhole w → IsWhole (changed holds (steps.nested w p) p)
    Whole-changes_nested w p l i = with-places (whole.Items-changes_nested holds w p l.0 (items i)) (jobs.once-changes_nested holds w p l.0 i.jobs_once)
        (housed-changes w p l i.housed)

    housed-opened : (w : World T) (p : ℕ) → IsLive w.time p → PlacesMatchStates w.time → Nests holds w p ⊎ IsChange holds w p
        → PlacesMatchStates (steps.opened holds w p).time
    housed-opened w p l h (inl n) = subst (λ (u : World T). PlacesMatchStates u.time) (sym n.nests) (housed-nested w p l h)
    housed-opened w p l h (inr c) = subst (λ (u : World T). PlacesMatchStates u.time) (sym c.change) (housed-changes w p l h)

    pub Whole-opened : (w : World T) (p : ℕ) → IsLive w.time p → IsWhole w → IsWhole (steps.opened holds w p)
    Whole-opened w p l i = with-places (whole.Items-opened holds w p l.0 (items i)) (jobs.once-opened holds w p l.0 i.jobs_once)
        (housed-opened w p l i.housed (how holds w p l.0))

    -- a collector is closed
    housed-collector_closed : (w : World T) (p c : ℕ) → IsTaken w.time p → PlacesMatchStates w.time → PlacesMatchStates (collector_closed holds w p c).time
    housed-collector_closed w p c l h =
        let start = without_collector w c in
        let start_taken = taken-without w.time (is_for w c) p l in
        let g = Gives-all_reclaimed holds start p (waiting_for w c) start_taken.there in
        (housed-gives p start_taken (housed-without w.time (is_for w c) h) g).1

    pub Whole-collector_closed : (w : World T) (p c : ℕ) → IsTaken w.time p → IsWhole w → IsWhole (collector_closed holds w p c)
    Whole-collector_closed w p c l i =
        with-places (whole.Items-collector_closed holds w p c l.there (items i)) (jobs.once-collector_closed holds w p c l.there i.jobs_once)
        (housed-collector_closed w p c l i.housed)

    -- an item is dropped in its place
    pub Whole-dropped : (w : World T) (p k : ℕ) → IsTaken w.time p → is_out (standing_at w k) ≡ true → IsWhole w → IsWhole (dropped holds w p k)
    Whole-dropped w p k l out i =
        with-places (whole.Items-dropped holds w p k l.there out (items i)) (jobs.once-dropped holds w p k l.there i.jobs_once)
        (housed-gives p l i.housed (Gives-dropped holds w p k l.there)).1

  -- an item has another value
  pub Whole-with_value : (w : World T) (k : ℕ) (v : T) → is_out (standing_at w k) ≡ true → IsWhole w → IsWhole (with_value w k v)
  Whole-with_value w k v out i = with-places (whole.Items-with_value w k v out (items i)) i.jobs_once i.housed

  pub Whole-paced : (w : World T) (p : ℕ) (pace : CountdownState) → IsTaken w.time p → KeepsUp w.time.count (time.paced pace (place_at w p)) → IsWhole w →
      IsWhole (record w { time = time.paced_at w.time p pace })
  Whole-paced w p pace l a i =
      with-places (whole.Items-paced w p pace l.there a (items i)) (jobs.once-place w p (time.paced pace (place_at w p)) l.there refl i.jobs_once)
      (housed-keeps w.time p (time.paced pace (place_at w p)) l refl i.housed)

  pub Whole-cell_closed : (w : World T) (p c : ℕ) → IsLive w.time p → IsWhole w → IsWhole (cell_closed w p c)
  Whole-cell_closed w p c l i =
      with-places (whole.Items-cell_closed w p c l.0 (items i)) (jobs.once-cell_closed w p c l.0 i.jobs_once)
      (housed-gives p (live-taken w.time p l) i.housed (Gives-cell_closed w p c l.0)).1

  pub Whole-deferred : (w : World T) (p j : ℕ) → IsTaken w.time p → IsEmptyAt w.jobs j → IsWhole w → IsWhole (deferred w p j)
  Whole-deferred w p j l free i =
      with-places (whole.Items-deferred w p j l.there (items i)) (jobs.once-deferred w p j l.there free i.jobs_once)
      (housed-keeps w.time p (time.awaiting (Job j) (place_at w p)) l refl i.housed)

  pub Whole-waits : (w : World T) (p k : ℕ) (s : Standing) → is_waiting (Some s) ≡ true → IsTaken w.time p → is_out (standing_at w k) ≡ true →
      IsWhole w → IsWhole (waiting_as w p k s)
  Whole-waits w p k s waits l out i =
      with-places (whole.Items-waiting w p k s waits l.there out (items i)) (jobs.once-waiting w p k s l.there i.jobs_once)
      (housed-keeps w.time p (time.awaiting (Item k) (place_at w p)) l refl i.housed)

  pub Whole-retires : (w : World T) (p k : ℕ) → IsTaken w.time p → is_out (standing_at w k) ≡ true → IsWhole w → IsWhole (retired w p k)
  Whole-retires w p k l out i = Whole-waits w p k Retired refl l out i

  -- an item that is shared has one owner more or fewer
  pub Whole-shared : (w : World T) (k n m : ℕ) → standing_at w k ≡ Some (Shared n) → IsWhole w → IsWhole (with_standing w k (Shared m))
  Whole-shared w k n m is i = with-places (whole.Items-shared w k n m is (items i)) i.jobs_once i.housed

  -- an item that is out stands otherwise, and is out
  pub Whole-restands : (w : World T) (k : ℕ) (s : Standing) → is_out (standing_at w k) ≡ true → is_out (Some s) ≡ true → IsWhole w →
      IsWhole (with_standing w k s)
  Whole-restands w k s was now i = with-places (whole.Items-restands w k s was now (items i)) i.jobs_once i.housed

  pub Whole-owner_given : (w : World T) (p k : ℕ) → IsTaken w.time p → (s : Option Standing) → standing_at w k ≡ s → IsWhole w → IsWhole (owner_given w p k s)
  Whole-owner_given w p k l s is i =
      with-places (whole.Items-owner_given w p k l.there s is (items i)) (jobs.once-owner_given w p k l.there s is i.jobs_once)
      (housed-gives p l i.housed (Gives-owner_given w p k s is)).1

  pub Whole-stirred : (w : World T) (p : ℕ) → IsLive w.time p → IsWhole w → IsWhole (steps.stirred w p)
  Whole-stirred w p l i = with-places (whole.Items-stirred w p l.0 (items i)) (jobs.once-place w p (time.with_garbage (place_at w p)) l.0 refl i.jobs_once)
      (housed-live w.time p (time.with_garbage (place_at w p)) l i.housed)

  pub Whole-accelerated : (w : World T) (p : ℕ) → IsLive w.time p → IsWhole w → IsWhole (steps.accelerated w p)
  Whole-accelerated w p l i = with-places (whole.Items-accelerated w p l.0 (items i)) (jobs.once-place w p (time.accelerated (place_at w p)) l.0 refl
      i.jobs_once) (housed-live w.time p (time.accelerated (place_at w p)) l i.housed)

  pub Whole-cells : (w : World T) (cells : Entries CellContents) → IsWhole w → IsWhole (record w { cells = cells })
  Whole-cells w cells i = with-places (whole.Items-cells w cells (items i)) i.jobs_once i.housed

  pub Whole-pointers : (w : World T) (pointers : List RawCellContents) → IsWhole w → IsWhole (record w { pointers = pointers })
  Whole-pointers w pointers i = with-places (whole.Items-pointers w pointers (items i)) i.jobs_once i.housed

  pub Whole-made_as : (w : World T) (k : ℕ) (v : T) (s : Standing) → IsFirst s → IsEmptyAt w.standings k → IsWhole w → IsWhole (made_as w k v s)
  Whole-made_as w k v s first empty i = with-places (whole.Items-made_as w k v s (first-idle s first) empty.0 empty.1 (items i)) i.jobs_once i.housed

pub nothing-waits : (ws : List Waiting) (y : Waiting) → Contains ws y → ws ≡ [] → ⊥
nothing-waits ws y h e = let none : Contains [] y = subst (λ (vs : List Waiting). Contains vs y) e h in absurd (omega (arith, none.1))

open-there : (ps : List Participant) (p : ℕ) → IsTrue (is_open (slice_index_or ps p nobody)) → (p < length ps) ⊎ (length ps ≤ p) → p < length ps
open-there ps p o (inl l) = l
open-there ps p o (inr past) =
    let never : IsTrue (is_open nobody) = subst (λ (x : Participant). IsTrue (is_open x)) (get_or_past ps p nobody past) o in absurd (cc)

-- a close
housed-scans : (t u : EpochState) (p : ℕ) → Scans p t u → PlacesMatchStates t → PlacesMatchStates u
housed-scans t u p s h =
    let a = s.adopting_first in
    subst (λ (v : EpochState). PlacesMatchStates v) (sym s.is)
    (record {
      lengths = a.phased ∙ h.lengths ∙ sym a.places;
      shut = λ r o. a.stays_live r (h.shut r (subst (λ (n : ℕ). IsTrue (nat_lt 0 n)) (a.stays r).guards o));
      bare = a.bare h.bare;
    })

live-scans : (t u : EpochState) (p : ℕ) → IsLive t p → Scans p t u → IsLive u p
live-scans t u p l s =
    let living = ap (λ (v : EpochState). time.lives v) s.is ∙ s.adopting_first.living in
    (scans-there l.0 s, subst (λ (bs : List Bool). IsTrue (slice_index_or bs p false)) (sym living) l.1)

housed-last : (t : EpochState) (p : ℕ) → IsLive t p → PlacesMatchStates t → (b : Bool) → PlacesMatchStates (if b then time.left_by t p else t)
housed-last t p l h true =
    let scans = (time.place_at t p).countdown == 0 in
    let u : EpochState = if scans then time.scanned t p else t in
    let s = scans-if t p l scans in
    housed-live u p (rested t.marked (time.place_at u p)) (live-scans t u p l s) (housed-scans t u p s h)
housed-last t p l h false = h

housed-closed : (t : EpochState) (p : ℕ) → IsLive t p → PlacesMatchStates t → (b : Bool) → nat_lt 1 (time.place_at t p).guards ≡ b
    → PlacesMatchStates (time.closed t p)
housed-closed t p l h true e = rw e (housed-live t p (record (time.place_at t p) { guards = (time.place_at t p).guards - 1 }) l h)
housed-closed t p l h false e = rw e (housed-last t p l h (is_open (time.place_at t p)))

-- an end, and a newcomer
set-phase : (xs : Entries PlaceState) (p r : ℕ) (x : PlaceState) → p < length xs → (r ≡ p) ⊎ (r ≢ p) →
    ((r ≡ p) × (slice_index_or (slice_set xs p (Some x)) r None ≡ Some x))
    ⊎ ((r ≢ p) × (slice_index_or (slice_set xs p (Some x)) r None ≡ slice_index_or xs r None))
set-phase xs p r x l (inl e) = inl (e, rw e (get_or-set_same xs p (Some x) None l))
set-phase xs p r x l (inr apart) = inr (apart, get_or-set_other xs p r (Some x) None apart)

module _ (t : EpochState) (p : ℕ) (l : p < length t.phases) (h : PlacesMatchStates t) (x : PlaceState) (q : ℕ) where
  abbrev now : Option PlaceState
  now = slice_index_or (slice_set t.phases p (Some x)) q None

  abbrev Becomes : Type 0
  Becomes = ((q ≡ p) × (now ≡ Some x)) ⊎ ((q ≢ p) × (now ≡ phase_at t q))

  phase-shut : (IsTrue (is_open (time.place_at t p)) → ⊥) ⊎ (x ≡ Live) → Becomes → IsTrue (is_open (time.place_at t q)) → now ≡ Some Live
  phase-shut (inl closed) (inl (e, s)) o = absurd (closed (subst (λ (n : ℕ). IsTrue (is_open (time.place_at t n))) e o))
  phase-shut (inr live) (inl (e, s)) o = s ∙ ap (λ (y : PlaceState). Some y) live
  phase-shut why (inr (apart, s)) o = s ∙ h.shut q o

  phase-bare : Becomes → now ≡ None → (time.place_at t q).bags.waiting ≡ []
  phase-bare (inl (e, s)) none = absurd (cc)
  phase-bare (inr (apart, s)) none = h.bare q (sym s ∙ none)

housed-phased : (t : EpochState) (p : ℕ) (x : PlaceState) → p < length t.phases → (IsTrue (is_open (time.place_at t p)) → ⊥) ⊎ (x ≡ Live)
    → PlacesMatchStates t →
    PlacesMatchStates (record t { phases = slice_set t.phases p (Some x) })
housed-phased t p x l why h =
    record {
      lengths = length-set t.phases p (Some x) ∙ h.lengths;
      shut = λ q o. phase-shut t p l h x q why (set-phase t.phases p q x l (same-or-not q p)) o;
      bare = λ q none. phase-bare t p l h x q (set-phase t.phases p q x l (same-or-not q p)) none;
    }

-- what stands behind the others
fresh-bare : (room : ℕ) (x : Participant) → (x ≡ newcomer room) ⊎ (x ≡ nobody) → (x.bags.waiting ≡ []) × (x.guards ≡ 0)
fresh-bare room x (inl e) = rw e (refl, refl)
fresh-bare room x (inr e) = rw e (refl, refl)

module _ (t : EpochState) (h : PlacesMatchStates t) where
  abbrev more : EpochState
  more = record t { places = t.places ++ newcomer t.room ∷ []; phases = t.phases ++ Some Live ∷ [] }

  more-at : (q : ℕ) → (q < length t.places) ⊎ (length t.places ≤ q) → (IsTrue (is_open (time.place_at more q)) → phase_at more q ≡ Some Live)
      × (phase_at more q ≡ None → (time.place_at more q).bags.waiting ≡ [])
  more-at q (inl l) =
      let place = get_or-append t.places (newcomer t.room ∷ []) nobody q l in
      let phase = get_or-append t.phases (Some Live ∷ []) None q (omega (arith, l, h.lengths)) in (
        λ o. phase ∙ h.shut q (subst (λ (x : Participant). IsTrue (is_open x)) place o),
        λ none. ap (λ (x : Participant). x.bags.waiting) place ∙ h.bare q (sym phase ∙ none),
      )
  more-at q (inr past) =
      let new = fresh-bare t.room (time.place_at more q) (append-last t.places (newcomer t.room) q past) in (
        λ o. let never : IsTrue (nat_lt 0 0) = subst (λ (n : ℕ). IsTrue (nat_lt 0 n)) new.1 o in absurd (cc),
        λ none. new.0,
      )

  housed-more : PlacesMatchStates more
  housed-more =
      record {
        lengths = length-append t.phases (Some Live ∷ []) ∙ ap (λ n. n + 1) h.lengths ∙ sym (length-append t.places (newcomer t.room ∷ []));
        shut = λ q. (more-at q (below-or-past q (length t.places))).0;
        bare = λ q. (more-at q (below-or-past q (length t.places))).1;
      }

vacant-bare : (t : EpochState) (p : ℕ) → PlacesMatchStates t → IsVacant t p → p < length t.places → phase_at t p ≡ None
vacant-bare t p h (inl empty) l = empty.1
vacant-bare t p h (inr next) l = absurd (omega (arith, l, next.0))

-- a place that is taken by another, or by who calls, is not vacant: a newcomer leaves it as it is
registered-at : (t : EpochState) (p q : ℕ) → q < length t.places → q ≢ p → (b : Bool) → nat_lt p (length t.places) ≡ b →
    time.place_at (time.registered t p) q ≡ time.place_at t q
registered-at t p q l apart true e = rw e (get_or-set_other t.places p q (newcomer t.room) nobody apart)
registered-at t p q l apart false e = rw e (get_or-append t.places (newcomer t.room ∷ []) nobody q l)

pub vacant-apart : (t : EpochState) (p q : ℕ) → IsTaken t q → IsVacant t p → q ≢ p
vacant-apart t p q l (inl empty) e = l.taken (ap (λ (n : ℕ). phase_at t n) e ∙ empty.1)
vacant-apart t p q l (inr next) e = absurd (omega (arith, l.there, next.0, e))

pub registered-keeps : (t : EpochState) (p q : ℕ) → IsTaken t q → IsVacant t p → time.place_at (time.registered t p) q ≡ time.place_at t q
registered-keeps t p q l v = registered-at t p q l.there (vacant-apart t p q l v) (nat_lt p (length t.places)) refl

-- who has something waiting has a place, and so has who has a guard open
pub waiting-taken : {T : Type 0} (w : World T) (q : ℕ) (what : LimboEntry) (seen : ℕ) → IsWhole w → WaitsWith w q what seen → IsTaken w.time q
waiting-taken w q what seen i h =
    record { there = waiting-place w q what seen h; taken = λ none. nothing-waits (place_at w q).bags.waiting (having_seen seen what) h (i.housed.bare q none) }

pub waits-taken : {T : Type 0} (w : World T) (q k seen : ℕ) → IsWhole w → Waits w q k seen → IsTaken w.time q
waits-taken w q k seen i h = waiting-taken w q (Item k) seen i h

pub guard-taken : {T : Type 0} (w : World T) (p : ℕ) → IsWhole w → IsTrue (is_open (place_at w p)) → IsTaken w.time p
guard-taken w p i o =
    record {
      there = open-there w.time.places p o (below-or-past p (length w.time.places));
      taken = λ none. let live : phase_at w.time p ≡ Some Live = i.housed.shut p o in cc;
    }

-- a newcomer at a free place: first the place is live, and then the participant is new
housed-new : (t : EpochState) (p : ℕ) → p < length t.places → PlacesMatchStates t →
    PlacesMatchStates (record t { places = slice_set t.places p (newcomer t.room); phases = slice_set t.phases p (Some Live) })
housed-new t p l h =
    let u : EpochState = record t { phases = slice_set t.phases p (Some Live) } in
    let inside : p < length t.phases = omega (arith, l, h.lengths) in
    let live : phase_at u p ≡ Some Live = get_or-set_same t.phases p (Some Live) None inside in
    housed-put u p (newcomer t.room) (record { there = l; taken = λ none. let clash : Some Live ≡ None = sym live ∙ none in cc }) (λ _. live)
    (housed-phased t p Live inside (inr refl) h)

housed-registered : (t : EpochState) (p : ℕ) → PlacesMatchStates t → (b : Bool) → nat_lt p (length t.places) ≡ b → PlacesMatchStates (time.registered t p)
housed-registered t p h true e = let l : p < length t.places = grind (arith, nat_tests, e) in rw e (housed-new t p l h)
housed-registered t p h false e = rw e (housed-more t h)

module _ {T : Type 0} where
  pub Whole-closed : (w : World T) (p : ℕ) → IsLive w.time p → IsWhole w → IsWhole (steps.closed w p)
  Whole-closed w p l i = with-places (whole.Items-closed w p l (items i)) (λ j. listed-closed (is_of_job j) w.time p l ∙ i.jobs_once j)
      (housed-closed w.time p l i.housed (nat_lt 1 (place_at w p).guards) refl)

  pub Whole-registered : (w : World T) (p : ℕ) → IsVacant w.time p → IsWhole w → IsWhole (steps.registered w p)
  Whole-registered w p v i =
      let bare : p < length w.time.places → (place_at w p).bags.waiting ≡ [] = λ l. i.housed.bare p (vacant-bare w.time p i.housed v l) in
      with-places (whole.Items-registered w p bare (items i)) (λ j. listed-registered (is_of_job j) w.time p bare ∙ i.jobs_once j)
      (housed-registered w.time p i.housed (nat_lt p (length w.time.places)) refl)

  pub Whole-ended : (w : World T) (p : ℕ) → IsLive w.time p → (IsTrue (is_open (place_at w p)) → ⊥) → IsWhole w → IsWhole (steps.ended w p)
  Whole-ended w p l shut i =
      let h = housed-phased w.time p Ended (omega (arith, l.0, i.housed.lengths)) (inl shut) i.housed in
      record {
        filled = i.filled;
        once = i.once;
        jobs_once = i.jobs_once;
        abreast = i.abreast;
        housed = record { lengths = h.lengths; shut = h.shut; bare = h.bare };
        counted = i.counted;
      }

-- what a newcomer makes of the other places
still-live : (t : EpochState) (p q : ℕ) → IsLive t q →
    ((q ≡ p) × (slice_index_or (slice_set t.phases p (Some Live)) q None ≡ Some Live))
    ⊎ ((q ≢ p) × (slice_index_or (slice_set t.phases p (Some Live)) q None ≡ slice_index_or t.phases q None)) →
    slice_index_or (slice_set t.phases p (Some Live)) q None ≡ Some Live
still-live t p q l (inl h) = h.1
still-live t p q l (inr h) = h.1 ∙ live-is t q l

live-at : (xs : Entries PlaceState) (p : ℕ) → slice_index_or xs p None ≡ Some Live → IsTrue (slice_index_or (map is_live xs) p false)
live-at xs p e = get_or-map is_live xs p None ∙ ap is_live e

registered-lives-if : (t : EpochState) (p q : ℕ) → length t.phases ≡ length t.places → (b : Bool) → nat_lt p (length t.places) ≡ b →
    IsLive t q → IsLive (time.registered t p) q
registered-lives-if t p q same true e l =
    let inside : p < length t.phases = grind (arith, nat_tests, e, same) in
    let live : slice_index_or (slice_set t.phases p (Some Live)) q None ≡ Some Live =
    still-live t p q l (set-phase t.phases p q Live inside (same-or-not q p)) in
    rw e (omega (arith, l.0, length-set t.places p (newcomer t.room)), live-at (slice_set t.phases p (Some Live)) q live)
registered-lives-if t p q same false e l =
    let phase = get_or-append t.phases (Some Live ∷ []) None q (omega (arith, l.0, same)) ∙ live-is t q l in
    rw e (omega (arith, l.0, length-append t.places (newcomer t.room ∷ [])), live-at (t.phases ++ Some Live ∷ []) q phase)

pub registered-lives : (t : EpochState) (p q : ℕ) → length t.phases ≡ length t.places → IsLive t q → IsLive (time.registered t p) q
registered-lives t p q same l = registered-lives-if t p q same (nat_lt p (length t.places)) refl l

registered-live-if : (t : EpochState) (p : ℕ) → length t.phases ≡ length t.places → IsVacant t p → (b : Bool) → nat_lt p (length t.places) ≡ b →
    IsLive (time.registered t p) p
registered-live-if t p same v true e =
    let l : p < length t.places = grind (arith, nat_tests, e) in
    let live = get_or-set_same t.phases p (Some Live) None (omega (arith, l, same)) in
    rw e (omega (arith, l, length-set t.places p (newcomer t.room)), live-at (slice_set t.phases p (Some Live)) p live)
registered-live-if t p same (inl empty) false e = let past : length t.places ≤ p = grind (arith, nat_tests, e) in absurd (omega (arith, past, empty.0, same))
registered-live-if t p same (inr next) false e =
    let live = get_or_push t.phases (Some Live) None p (omega (arith, next.0, same)) in
    rw e (omega (arith, next.0, length-append t.places (newcomer t.room ∷ [])), live-at (t.phases ++ Some Live ∷ []) p live)

pub registered-live : (t : EpochState) (p : ℕ) → length t.phases ≡ length t.places → IsVacant t p → IsLive (time.registered t p) p
registered-live t p same v = registered-live-if t p same v (nat_lt p (length t.places)) refl

-- the newcomer is another than each who is there
pub registered-apart : (t : EpochState) (p q : ℕ) → IsVacant t p → IsLive t q → q ≢ p
registered-apart t p q v l = vacant-apart t p q (live-taken t q l) v

-- an end leaves the others live
pub ended-lives : (t : EpochState) (p q : ℕ) → q ≢ p → IsLive t q → IsLive (time.ended t p) q
ended-lives t p q apart l =
    (l.0, live-at (slice_set t.phases p (Some Ended)) q (get_or-set_other t.phases p q (Some Ended) None apart ∙ live-is t q l))

-- no more waits, and the limits are as before
pub record AddsNothing (old new : EpochState) : Type 0 where
  pub waiting : sum_by waiting_count new.places ≤ sum_by waiting_count old.places
  pub participants : new.participants ≡ old.participants
  pub room : new.room ≡ old.room

registered-nothing : (t : EpochState) (p : ℕ) → (b : Bool) → nat_lt p (length t.places) ≡ b → AddsNothing t (time.registered t p)
registered-nothing t p true e =
    let l : p < length t.places = grind (arith, nat_tests, e) in
    let one = sum_by-set waiting_count t.places p (newcomer t.room) nobody l in
    rw e (record { waiting = omega (arith, one); participants = refl; room = refl })
registered-nothing t p false e =
    rw e (record { waiting = omega (arith, sum_by-append waiting_count t.places (newcomer t.room ∷ [])); participants = refl; room = refl })

pub registered-adds : (t : EpochState) (p : ℕ) → AddsNothing t (time.registered t p)
registered-adds t p = registered-nothing t p (nat_lt p (length t.places)) refl

-- a world without places
pub housed-none : (t : EpochState) → t.places ≡ [] → t.phases ≡ [] → PlacesMatchStates t
housed-none t places phases =
    record {
      lengths = ap (λ (xs : Entries PlaceState). length xs) phases ∙ sym (ap (λ (ps : List Participant). length ps) places);
      shut = λ p o.
          let never : IsTrue (is_open nobody) = subst (λ (ps : List Participant). IsTrue (is_open (slice_index_or ps p nobody))) places o in absurd (cc);
      bare = λ p none. ap (λ (ps : List Participant). (slice_index_or ps p nobody).bags.waiting) places;
    }
