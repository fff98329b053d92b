-- No step makes more slots wait than there are
use Rattle.std.proofs.Common.{◌≡◌, inl, inr, ℕ, ◌+◌, ◌<◌, ◌≤◌, List, [], ◌∷◌, length, cond, Bool, true, false, nat_lt, refl, sym, ap, ◌∙◌, arith, Some, None, map, drop, get_or, drop-cons, add-one, slice_index_or, sum_by, count_by, Option}
use Rattle.std.specs.Prelude.{◌-◌, is_none}
use Rattle.std.proofs.lemmas.Grind.{common_steps}
use Rattle.std.proofs.lemmas.List.{get_or_past, length-set, length-append, set_past}
use Rattle.std.proofs.lemmas.Bool.Decides.{nat_tests}
use Rattle.std.proofs.lemmas.List.Sums.{sum_by-set}
use Rattle.sdd_participants.specs.Waiting.{fresh}
use Rattle.sdd_participants.specs.declared.waiting.LimboEntry.TheVariants.{Item, Job}
use Rattle.sdd_participants.specs.declared.waiting.LimboEntry.{LimboEntry}
use Rattle.sdd_participants.specs.Slab.{Entries, IsEmptyAt, entry_at, with_entry, without_entry}
use Rattle.sdd_participants.specs.EpochState.{waiting_count, nobody}
use Rattle.sdd_participants.specs.EpochState as time
use Rattle.sdd_participants.specs.PlaceStates.{is_live}
use Rattle.sdd_participants.specs.declared.place_states.PlaceState.{PlaceState}
use Rattle.sdd_participants.specs.declared.participant.Participant.{Participant}
use Rattle.sdd_participants.specs.declared.standing.Standing.{Standing}
use Rattle.sdd_participants.specs.declared.standing.Standing.TheVariants.{Shared, Retired}
use Rattle.sdd_participants.specs.declared.standing.CellContents.{CellContents}
use Rattle.sdd_participants.specs.declared.standing.RawCellContents.{RawCellContents}
use Rattle.sdd_world_model.specs.Slots.{is_waiting}
use Rattle.sdd_world_model.specs.World.{World, KeepsSizes, weight, is_loose, standing_at, value_at, place_at}
use Rattle.sdd_world_model.specs.WorldChanges.{made_as, with_standing, waiting_as, retired, spilled, cell_closed, held_in, owner_given, given, given_all, freed, vacated, dropped_out, dropped, taken_out, waiting_value, slot_reclaimed, reclaimed, all_reclaimed, deferred, ran}
use Rattle.sdd_world_model.specs.OwnerOrCell.{OwnerOrCell, owned, shared, atomic_owned, atomic_shared, atomic_raw}
use Rattle.sdd_world_model.specs.Out.{is_out}
use Rattle.sdd_world_model.specs.WorldStep.{IsFirst}
use Rattle.sdd_world_model.proofs.Standings.{out-waits-not, out-inside, owner-given}

-- as many places, slots, places of jobs, and room; and as much that waits, is loose or free
pub record SameSize {T : Type 0} (old new : World T) : Type 0 where
  pub weight_same : weight new ≡ weight old
  pub places_same : length new.time.places ≡ length old.time.places
  pub phases_same : new.time.phases ≡ old.time.phases
  pub slots_same : length new.standings ≡ length old.standings
  pub jobs_same : length new.jobs ≡ length old.jobs
  pub home_same : new.home ≡ old.home
  pub nesting_same : new.time.nesting ≡ old.time.nesting
  pub room_same : new.time.room ≡ old.time.room

pub in_range : (xs : List (Option Standing)) (k : ℕ) (s : Standing) → slice_index_or xs k None ≡ Some s → k < length xs
in_range xs k s is = grind (arith, get_or_past)

waits-loose : (s : Option Standing) → is_waiting s ≡ true → is_loose s ≡ false
waits-loose s waits = rw (waits, is_loose) refl

out-loose : (s : Option Standing) → is_out s ≡ true → is_loose s ≡ true
out-loose s out = rw (out-waits-not s out, is_loose) refl

-- how much a slot weighs that is loose or not
abbrev loose_weight : Option Standing → ℕ
loose_weight s = cond (is_loose s) 1 0

-- how much a place of a job weighs that is free or not
abbrev free_weight : Option (Unit {0}) → ℕ
free_weight j = cond (is_none j) 1 0

-- one slot stands otherwise: whether its item is loose is as before
stands-weight : {T : Type 0} (w : World T) (k : ℕ) (s : Standing) → k < length w.standings → is_loose (Some s) ≡ is_loose (standing_at w k) →
    count_by is_loose (with_entry w.standings k s) ≡ count_by is_loose w.standings
stands-weight w k s l e =
    let all = sum_by-set loose_weight w.standings k (Some s) None l in
    let same : loose_weight (Some s) ≡ loose_weight (standing_at w k) = rw e refl in
    omega (arith, all, same)

-- an item that is out begins to wait
pub SameSize-waiting : {T : Type 0} (w : World T) (p k : ℕ) (s : Standing) → is_waiting (Some s) ≡ true → p < length w.time.places →
    is_out (standing_at w k) ≡ true → SameSize w (waiting_as w p k s)
SameSize-waiting w p k s waits l out =
    let x : Participant = time.awaiting (Item k) (place_at w p) in
    let places = sum_by-set waiting_count w.time.places p x nobody l in
    let more : waiting_count x ≡ waiting_count (place_at w p) + 1 = length-append (place_at w p).bags.waiting (fresh (Item k) ∷ []) in
    let slots = sum_by-set loose_weight w.standings k (Some s) None (out-inside w.standings k out) in
    let was : loose_weight (standing_at w k) ≡ 1 = rw (out-loose (standing_at w k) out) refl in
    let now : loose_weight (Some s) ≡ 0 = rw (waits-loose (Some s) waits) refl in
    record {
      weight_same = omega (arith, places, more, slots, was, now);
      places_same = length-set w.time.places p x;
      phases_same = refl;
      slots_same = length-set w.standings k (Some s);
      jobs_same = refl;
      home_same = refl;
      nesting_same = refl;
      room_same = refl;
    }

pub SameSize-retired : {T : Type 0} (w : World T) (p k : ℕ) → p < length w.time.places → is_out (standing_at w k) ≡ true → SameSize w (retired w p k)
SameSize-retired w p k l out = SameSize-waiting w p k Retired refl l out

-- an item that is shared has one owner more or fewer
pub SameSize-shared : {T : Type 0} (w : World T) (k n m : ℕ) → standing_at w k ≡ Some (Shared n) → SameSize w (with_standing w k (Shared m))
SameSize-shared w k n m is =
    record {
      weight_same = ap (λ (n : ℕ). sum_by waiting_count w.time.places + n + count_by is_none w.jobs)
          (stands-weight w k (Shared m) (in_range w.standings k (Shared n) is) (sym (ap is_loose is)));
      places_same = refl;
      phases_same = refl;
      slots_same = length-set w.standings k (Some (Shared m));
      jobs_same = refl;
      home_same = refl;
      nesting_same = refl;
      room_same = refl;
    }

-- the cells weigh nothing
pub SameSize-cells : {T : Type 0} (w : World T) (cells : Entries CellContents) → SameSize w (record w { cells = cells })
SameSize-cells w cells =
    record {
      weight_same = refl;
      places_same = refl;
      phases_same = refl;
      slots_same = refl;
      jobs_same = refl;
      home_same = refl;
      nesting_same = refl;
      room_same = refl;
    }

pub SameSize-refl : {T : Type 0} (w : World T) → SameSize w w
SameSize-refl w =
    record {
      weight_same = refl;
      places_same = refl;
      phases_same = refl;
      slots_same = refl;
      jobs_same = refl;
      home_same = refl;
      nesting_same = refl;
      room_same = refl;
    }

pub SameSize-trans : {T : Type 0} {u v w : World T} → SameSize u v → SameSize v w → SameSize u w
SameSize-trans a b =
    record {
      weight_same = b.weight_same ∙ a.weight_same;
      places_same = b.places_same ∙ a.places_same;
      phases_same = b.phases_same ∙ a.phases_same;
      slots_same = b.slots_same
          ∙ a.slots_same;
      jobs_same = b.jobs_same ∙ a.jobs_same;
      home_same = b.home_same ∙ a.home_same;
      nesting_same = b.nesting_same ∙ a.nesting_same;
      room_same = b.room_same ∙ a.room_same;
    }

pub SameSize-owner_given : {T : Type 0} (w : World T) (p k : ℕ) → p < length w.time.places → (s : Option Standing) → standing_at w k ≡ s →
    SameSize w (owner_given w p k s)
SameSize-owner_given {T} w p k l s is =
    owner-given (λ (u : World T). SameSize w u) w p k s is (SameSize-refl w) (λ out. SameSize-retired w p k l out)
    (λ n several more. SameSize-shared w k n (n - 1) several)

SameSize-spilled : {T : Type 0} (w : World T) (p : ℕ) → p < length w.time.places → (held : Option ℕ) → SameSize w (spilled w p held)
SameSize-spilled w p l None = SameSize-refl w
SameSize-spilled w p l (Some k) = SameSize-owner_given w p k l (standing_at w k) refl

pub SameSize-cell_closed : {T : Type 0} (w : World T) (p c : ℕ) → p < length w.time.places → SameSize w (cell_closed w p c)
SameSize-cell_closed w p c l =
    SameSize-trans (SameSize-cells w (without_entry w.cells c))
    (SameSize-spilled (record w { cells = without_entry w.cells c }) p l (held_in (entry_at w.cells c)))

pub SameSize-given : {T : Type 0} (w : World T) (p : ℕ) (h : OwnerOrCell) → p < length w.time.places → SameSize w (given w p h)
SameSize-given w p (owned k home) l = SameSize-owner_given w p k l (standing_at w k) refl
SameSize-given w p (shared k home) l = SameSize-owner_given w p k l (standing_at w k) refl
SameSize-given w p (atomic_owned c home) l = SameSize-cell_closed w p c l
SameSize-given w p (atomic_shared c home) l = SameSize-cell_closed w p c l
SameSize-given w p (atomic_raw c home) l = SameSize-cell_closed w p c l

pub SameSize-given_all : {T : Type 0} (w : World T) (p : ℕ) (hs : List OwnerOrCell) → p < length w.time.places → SameSize w (given_all w p hs)
SameSize-given_all w p [] l = SameSize-refl w
SameSize-given_all w p (h ∷ hs) l =
    let one = SameSize-given w p h l in
    SameSize-trans one (SameSize-given_all (given w p h) p hs (omega (arith, one.places_same)))

-- a free slot is as loose as one whose item is out
pub SameSize-vacated : {T : Type 0} (w : World T) (k : ℕ) → is_out (standing_at w k) ≡ true → SameSize w (vacated w k)
SameSize-vacated w k out =
    let all = sum_by-set loose_weight w.standings k None None (out-inside w.standings k out) in
    let was : loose_weight (standing_at w k) ≡ 1 = rw (out-loose (standing_at w k) out) refl in
    record {
      weight_same = omega (arith, all, was);
      places_same = refl;
      phases_same = refl;
      slots_same = length-set w.standings k None;
      jobs_same = refl;
      home_same = refl;
      nesting_same = refl;
      room_same = refl;
    }

-- an item is dropped in its place
SameSize-dropped_out : {T : Type 0} (holds : T → List OwnerOrCell) (w : World T) (p k : ℕ) → p < length w.time.places → is_out (standing_at w k) ≡ true →
    (value : Option T) → SameSize w (dropped_out holds w p k value)
SameSize-dropped_out holds w p k l out None = SameSize-refl w
SameSize-dropped_out holds w p k l out (Some value) =
    SameSize-trans (SameSize-vacated w k out) (SameSize-given_all (vacated w k) p (holds value) l)

pub SameSize-dropped : {T : Type 0} (holds : T → List OwnerOrCell) (w : World T) (p k : ℕ) → p < length w.time.places → is_out (standing_at w k) ≡ true →
    SameSize w (dropped holds w p k)
SameSize-dropped holds w p k l out = SameSize-dropped_out holds w p k l out (value_at w k)

-- at most one slot more is loose, or one place of a job more is free
pub record FreesOne {T : Type 0} (old new : World T) : Type 0 where
  pub weight_grows : weight new ≤ weight old + 1
  pub places_same : length new.time.places ≡ length old.time.places
  pub phases_same : new.time.phases ≡ old.time.phases
  pub slots_same : length new.standings ≡ length old.standings
  pub jobs_same : length new.jobs ≡ length old.jobs
  pub home_same : new.home ≡ old.home
  pub nesting_same : new.time.nesting ≡ old.time.nesting
  pub room_same : new.time.room ≡ old.time.room

pub FreesOne-refl : {T : Type 0} (w : World T) → FreesOne w w
FreesOne-refl w =
    record {
      weight_grows = omega arith;
      places_same = refl;
      phases_same = refl;
      slots_same = refl;
      jobs_same = refl;
      home_same = refl;
      nesting_same = refl;
      room_same = refl;
    }

pub freed-FreesOne : {T : Type 0} (w : World T) (k : ℕ) → k < length w.standings → FreesOne w (freed w k)
freed-FreesOne w k l =
    let m = sum_by-set (λ s. cond (is_loose s) 1 0) w.standings k None None l in
    record {
      weight_grows = omega (arith, m);
      places_same = refl;
      phases_same = refl;
      slots_same = grind
          (arith, common_steps);
      jobs_same = refl;
      home_same = refl;
      nesting_same = refl;
      room_same = refl;
    }

FreesOne-then : {T : Type 0} {u v w : World T} → FreesOne u v → SameSize v w → FreesOne u w
FreesOne-then a b =
    record {
      weight_grows = omega (arith, a.weight_grows, b.weight_same);
      places_same = b.places_same ∙ a.places_same;
      phases_same = b.phases_same ∙ a.phases_same;
      slots_same = b.slots_same
          ∙ a.slots_same;
      jobs_same = b.jobs_same ∙ a.jobs_same;
      home_same = b.home_same ∙ a.home_same;
      nesting_same = b.nesting_same ∙ a.nesting_same;
      room_same = b.room_same ∙ a.room_same;
    }

pub FreesOne-taken_out : {T : Type 0} (holds : T → List OwnerOrCell) (w : World T) (p k : ℕ) → p < length w.time.places → k < length w.standings →
    (value : Option T) → FreesOne w (taken_out holds w p k value)
FreesOne-taken_out holds w p k l lk None = FreesOne-refl w
FreesOne-taken_out holds w p k l lk (Some value) = FreesOne-then (freed-FreesOne w k lk) (SameSize-given_all (freed w k) p (holds value) l)

FreesOne-standing : {T : Type 0} (holds : T → List OwnerOrCell) (w : World T) (p k : ℕ) → p < length w.time.places → (s : Option Standing) →
    standing_at w k ≡ s → FreesOne w (taken_out holds w p k (waiting_value w k s))
FreesOne-standing holds w p k l None is = FreesOne-refl w
FreesOne-standing holds w p k l (Some s) is = FreesOne-taken_out holds w p k l (in_range w.standings k s is) (waiting_value w k (Some s))

pub FreesOne-slot_reclaimed : {T : Type 0} (holds : T → List OwnerOrCell) (w : World T) (p k : ℕ) → p < length w.time.places →
    FreesOne w (slot_reclaimed holds w p k)
FreesOne-slot_reclaimed holds w p k l = FreesOne-standing holds w p k l (standing_at w k) refl

-- one place of a job more is free at most, where one is freed
pub one-freed : (jobs : Entries (Unit {0})) (j : ℕ) → count_by is_none (without_entry jobs j) ≤ count_by is_none jobs + 1
one-freed jobs j = by (nat_lt j (length jobs)) refl where
  by : (b : Bool) → nat_lt j (length jobs) ≡ b → count_by is_none (without_entry jobs j) ≤ count_by is_none jobs + 1
  by true e =
      let inside : j < length jobs = grind (arith, nat_tests, e) in
      let m = sum_by-set free_weight jobs j None None inside in omega (arith, m)
  by false e = rw (set_past jobs j None (grind (arith, nat_tests, e))) (omega arith)

-- a job runs
ran-free : {T : Type 0} (w : World T) (j : ℕ) → FreesOne w (ran w j)
ran-free w j =
    record {
      weight_grows = omega (arith, one-freed w.jobs j);
      places_same = refl;
      phases_same = refl;
      slots_same = refl;
      jobs_same = length-set w.jobs j None;
      home_same = refl;
      nesting_same = refl;
      room_same = refl;
    }

pub FreesOne-reclaimed : {T : Type 0} (holds : T → List OwnerOrCell) (w : World T) (p : ℕ) (x : LimboEntry) → p < length w.time.places →
    FreesOne w (reclaimed holds w p x)
FreesOne-reclaimed holds w p (Item k) l = FreesOne-slot_reclaimed holds w p k l
FreesOne-reclaimed holds w p (Job j) l = ran-free w j

-- to reclaim the rest is to reclaim the next one, and then the rest
pub all_reclaimed-drop : {T : Type 0} (holds : T → List OwnerOrCell) (w : World T) (p : ℕ) (xs : List LimboEntry) (i : ℕ) (d : LimboEntry) → i < length xs →
    all_reclaimed holds w p (drop i xs) ≡ all_reclaimed holds (reclaimed holds w p (get_or xs i d)) p (drop (i + 1) xs)
all_reclaimed-drop holds w p xs i d l =
    ap (λ ys. all_reclaimed holds w p ys) (drop-cons xs i d l ∙ ap (λ n. get_or xs i d ∷ drop n xs) (sym (add-one i)))

pub SameSize-sizes : {T : Type 0} {old new : World T} → SameSize old new → KeepsSizes old new
SameSize-sizes f =
    record {
      home = f.home_same;
      places = f.places_same;
      live = ap (λ (xs : Entries PlaceState). map is_live xs) f.phases_same;
      slots = f.slots_same;
      jobs = f.jobs_same;
      nesting = f.nesting_same;
      room = f.room_same;
    }

pub FreesOne-sizes : {T : Type 0} {old new : World T} → FreesOne old new → KeepsSizes old new
FreesOne-sizes f =
    record {
      home = f.home_same;
      places = f.places_same;
      live = ap (λ (xs : Entries PlaceState). map is_live xs) f.phases_same;
      slots = f.slots_same;
      jobs = f.jobs_same;
      nesting = f.nesting_same;
      room = f.room_same;
    }

pub KeepsSizes-trans : {T : Type 0} {u v w : World T} → KeepsSizes u v → KeepsSizes v w → KeepsSizes u w
KeepsSizes-trans a b =
    record {
      home = b.home ∙ a.home;
      places = b.places ∙ a.places;
      live = b.live ∙ a.live;
      slots = b.slots ∙ a.slots;
      jobs = b.jobs ∙ a.jobs;
      nesting = b.nesting ∙ a.nesting;
      room = b.room ∙ a.room;
    }
