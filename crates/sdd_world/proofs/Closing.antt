-- The closing of a world goes on at one participant, and comes to an end
use Rattle.std.proofs.Common.{◌≡◌, ℕ, ◌+◌, ◌-◌, ◌*◌, ◌<◌, ◌≤◌, List, [], ◌∷◌, ◌++◌, length, Bool, cond, count_by, sum_by, refl, sym, ap, ◌∙◌, arith, true, false, Some, None, map, take, drop, get_or, zero, suc, add-one, slice_index_or, slice_set, Option}
use Rattle.std.specs.Prelude.{◌↔◌}
use Rattle.std.proofs.lemmas.Grind.{common_steps}
use Rattle.std.proofs.lemmas.List.{length-map, length-set, get_or_past, get_or-set_same, set-set, set-get_or}
use Rattle.std.proofs.lemmas.Bool.Decides.{nat_tests}
use Rattle.std.proofs.lemmas.List.Sums.{sum_by-set, sum_by_push, sum_by-cons}
use Rattle.sdd_participants.specs.declared.waiting.LimboEntry.{LimboEntry}
use Rattle.sdd_participants.specs.Waiting.{Waiting, fresh, aged, left, older, is_due}
use Rattle.sdd_participants.specs.declared.waiting.LimboEntry.TheVariants.{Item, Job}
use Rattle.sdd_participants.specs.EpochState.{without_waiting, EpochState, IsLive, with_place, nobody, pace_of, due_next, rotated}
use Rattle.sdd_participants.specs.EpochState as time
use Rattle.sdd_participants.specs.Slab.{entry_at}
use Rattle.sdd_participants.specs.declared.participant.Participant.{Participant}
use Rattle.sdd_participants.specs.declared.participant.CountdownState.{CountdownState}
use Rattle.sdd_participants.specs.declared.standing.Standing.{Standing}
use Rattle.sdd_participants.specs.declared.standing.Standing.TheVariants.{Shared, Retired}
use Rattle.sdd_world_model.specs.World.{World, standing_at, place_at}
use Rattle.sdd_world_model.specs.WorldChanges.{retired, with_standing, without_cell, spilled, cell_closed, held_in, owner_given, given, given_all, freed, taken_out, waiting_value, reclaimed, all_reclaimed, changed}
use Rattle.sdd_world_model.specs.WorldChanges as steps
use Rattle.sdd_world_model.specs.OwnerOrCell.{OwnerOrCell, owned, shared, atomic_owned, atomic_shared, atomic_raw}
use Rattle.sdd_world_model.specs.Out.{is_out}
use Rattle.sdd_world_model.proofs.Standings.{out-inside, owner-given}
use Rattle.sdd_world_core.specs.Closing.{paced}
use Rattle.sdd_world_core.proofs.Lending.{SameGuards, guards-placed}
use Rattle.sdd_world.specs.Closing.{aged_out, all_aged_out, emptied}

-- how many changes it takes until what waits is gone, and one more
abbrev to_go : Waiting → ℕ
to_go w = 3 - w.seen + 1

-- how much what waits may still see, and what may yet be given
abbrev pub ahead : {T : Type 0} → List Waiting → World T → ℕ
ahead waiting w = sum_by to_go waiting + 4 * count_by is_out w.standings

-- the place has this pace, and this waits with it
abbrev pub moved : EpochState → ℕ → ℕ → ℕ → List Waiting → EpochState
moved t p found countdown waiting =
    with_place t p (record (time.place_at t p) { found = found; countdown = countdown; bags = record (time.place_at t p).bags { waiting = waiting } })

-- only the pace of p changes, and what waits with p; and no more is ahead
pub record Moves {T : Type 0} (p : ℕ) (old new : World T) : Type 0 where
  pub found : ℕ
  pub countdown : ℕ
  pub waiting : List Waiting
  pub time : new.time ≡ moved old.time p found countdown waiting
  pub no_more : ahead waiting new ≤ ahead (place_at old p).bags.waiting old

moved-same : (t : EpochState) (p : ℕ) → t ≡ moved t p (time.place_at t p).found (time.place_at t p).countdown (time.place_at t p).bags.waiting
moved-same t p = sym (ap (λ (ps : List Participant). record t { places = ps }) (set-get_or t.places p nobody))

moved-place : (t : EpochState) (p found countdown : ℕ) (ws : List Waiting) → p < length t.places →
    time.place_at (moved t p found countdown ws) p ≡ record
    (time.place_at t p) { found = found; countdown = countdown; bags = record (time.place_at t p).bags { waiting = ws } }
moved-place t p found countdown ws l = get_or-set_same t.places p _ nobody l

moved-moved : (t : EpochState) (p found countdown : ℕ) (ws : List Waiting) (found2 countdown2 : ℕ) (ws2 : List Waiting) → p < length t.places →
    moved (moved t p found countdown ws) p found2 countdown2 ws2 ≡ moved t p found2 countdown2 ws2
moved-moved t p found countdown ws found2 countdown2 ws2 l =
    let here = moved-place t p found countdown ws l in
    rw here (ap (λ (ps : List Participant). record t { places = ps }) (set-set t.places p _ _))

in_range : (xs : List (Option Standing)) (k : ℕ) (s : Standing) → slice_index_or xs k None ≡ Some s → k < length xs
in_range xs k s is = grind (arith, get_or_past)

-- what has seen less than three changes has fewer before it
to_go-older : (x : Waiting) → is_due (older x) ≡ false → to_go (older x) + 1 ≤ to_go x
to_go-older x young = grind (arith, nat_tests)

fewer-cons : (x : Waiting) (ws : List Waiting) (b : Bool) → is_due (older x) ≡ b → sum_by to_go (left (aged ws)) + length ws ≤ sum_by to_go ws →
    sum_by to_go (left (aged (x ∷ ws))) + length (x ∷ ws) ≤ sum_by to_go (x ∷ ws)
fewer-cons x ws true e h = rw e (omega (arith, h, sum_by-cons to_go x ws))
fewer-cons x ws false e h = rw e (omega (arith, h, to_go-older x e, sum_by-cons to_go x ws, sum_by-cons to_go (older x) (left (aged ws))))

-- a change brings everything that waits nearer to its end
fewer : (ws : List Waiting) → sum_by to_go (left (aged ws)) + length ws ≤ sum_by to_go ws
fewer [] = omega arith
fewer (x ∷ ws) = fewer-cons x ws (is_due (older x)) refl (fewer ws)

paced-moved : (t : EpochState) (p found countdown : ℕ) (ws : List Waiting) (pace : CountdownState) → p < length t.places →
    time.paced_at (moved t p found countdown ws) p pace ≡ moved t p pace.found pace.countdown ws
paced-moved t p found countdown ws pace l =
    let here = moved-place t p found countdown ws l in
    rw here (ap (λ (ps : List Participant). record t { places = ps }) (set-set t.places p _ _))

some-waits : (ws : List Waiting) → (ws ≡ [] → ⊥) → 0 < length ws
some-waits [] h = absurd (h refl)
some-waits (x ∷ xs) h = omega arith

module _ {T : Type 0} where
  -- what waits with p then
  pub Moves-waiting : {p : ℕ} {u v : World T} → (m : Moves p u v) → p < length u.time.places → (place_at v p).bags.waiting ≡ m.waiting
  Moves-waiting {p} {u} m l = rw m.time (ap (λ (x : Participant). x.bags.waiting) (moved-place u.time p m.found m.countdown m.waiting l))

  pub Moves-refl : (p : ℕ) (w : World T) → Moves p w w
  Moves-refl p w = record { found = _; countdown = _; waiting = _; time = moved-same w.time p; no_more = omega arith }

  pub Moves-trans : {p : ℕ} {u v w : World T} → p < length u.time.places → Moves p u v → Moves p v w → Moves p u w
  Moves-trans {p} {u} {v} {w} l a b =
      let through = ap (λ (ws : List Waiting). ahead ws v) (Moves-waiting a l) in
      record {
        found = b.found;
        countdown = b.countdown;
        waiting = b.waiting;
        time = b.time ∙ ap (λ t. moved t p b.found b.countdown b.waiting) a.time
            ∙ moved-moved u.time p a.found a.countdown a.waiting b.found b.countdown b.waiting l;
        no_more = omega (arith, a.no_more, b.no_more, through);
      }

  Moves-range : {p : ℕ} {u v : World T} → p < length u.time.places → Moves p u v → p < length v.time.places
  Moves-range {p} l a = let e = ap (λ (t : EpochState). length t.places) a.time in grind (arith, common_steps, e)

  -- an item that is out begins to wait
  Moves-retired : (w : World T) (p k : ℕ) → is_out (standing_at w k) ≡ true → Moves p w (retired w p k)
  Moves-retired w p k there =
      let one = sum_by-set (λ s. cond (is_out s) 1 0) w.standings k (Some Retired) None (out-inside w.standings k there) in
      let was = ap {B = ℕ} (λ (b : Bool). cond b 1 0) there in
      let more = sum_by_push to_go (place_at w p).bags.waiting (fresh (Item k)) in
      record { found = _; countdown = _; waiting = _; time = refl; no_more = omega (arith, one, was, more) }

  -- an item that is shared has fewer owners, or more
  Moves-shared : (w : World T) (p k n m : ℕ) → standing_at w k ≡ Some (Shared n) → Moves p w (with_standing w k (Shared m))
  Moves-shared w p k n m there =
      let one = sum_by-set (λ s. cond (is_out s) 1 0) w.standings k (Some (Shared m)) None (in_range w.standings k (Shared n) there) in
      let was = ap {B = ℕ} (λ (s : Option Standing). cond (is_out s) 1 0) there in
      record { found = _; countdown = _; waiting = _; time = moved-same w.time p; no_more = omega (arith, one, was) }

  Moves-owner_given : (w : World T) (p k : ℕ) (s : Option Standing) → standing_at w k ≡ s → Moves p w (owner_given w p k s)
  Moves-owner_given w p k s is =
      owner-given (λ (u : World T). Moves p w u) w p k s is (Moves-refl p w) (λ there. Moves-retired w p k there)
      (λ n several more. Moves-shared w p k n (n - 1) several)

  Moves-spilled : (w : World T) (p : ℕ) (held : Option ℕ) → Moves p w (spilled w p held)
  Moves-spilled w p None = Moves-refl p w
  Moves-spilled w p (Some k) = Moves-owner_given w p k (standing_at w k) refl

  Moves-without_cell : (w : World T) (p c : ℕ) → Moves p w (without_cell w c)
  Moves-without_cell w p c = record { found = _; countdown = _; waiting = _; time = moved-same w.time p; no_more = omega arith }

  Moves-cell_closed : (w : World T) (p c : ℕ) → p < length w.time.places → Moves p w (cell_closed w p c)
  Moves-cell_closed w p c l = Moves-trans l (Moves-without_cell w p c) (Moves-spilled (without_cell w c) p (held_in (entry_at w.cells c)))

  Moves-given : (w : World T) (p : ℕ) (h : OwnerOrCell) → p < length w.time.places → Moves p w (given w p h)
  Moves-given w p (owned k home) l = Moves-owner_given w p k (standing_at w k) refl
  Moves-given w p (shared k home) l = Moves-owner_given w p k (standing_at w k) refl
  Moves-given w p (atomic_owned c home) l = Moves-cell_closed w p c l
  Moves-given w p (atomic_shared c home) l = Moves-cell_closed w p c l
  Moves-given w p (atomic_raw c home) l = Moves-cell_closed w p c l

  Moves-given_all : (w : World T) (p : ℕ) (hs : List OwnerOrCell) → p < length w.time.places → Moves p w (given_all w p hs)
  Moves-given_all w p [] l = Moves-refl p w
  Moves-given_all w p (h ∷ hs) l =
      let one = Moves-given w p h l in
      Moves-trans l one (Moves-given_all (given w p h) p hs (Moves-range l one))

  Moves-freed : (w : World T) (p k : ℕ) → k < length w.standings → Moves p w (freed w k)
  Moves-freed w p k l =
      let one = sum_by-set (λ s. cond (is_out s) 1 0) w.standings k None None l in
      record { found = _; countdown = _; waiting = _; time = moved-same w.time p; no_more = omega (arith, one) }

  module _ (holds : T → List OwnerOrCell) where
    Moves-taken_out : (w : World T) (p k : ℕ) → p < length w.time.places → k < length w.standings → (value : Option T) → Moves p w (taken_out holds w p k value)
    Moves-taken_out w p k l lk None = Moves-refl p w
    Moves-taken_out w p k l lk (Some value) = Moves-trans l (Moves-freed w p k lk) (Moves-given_all (freed w k) p (holds value) l)

    Moves-standing : (w : World T) (p k : ℕ) → p < length w.time.places → (s : Option Standing) → standing_at w k ≡ s →
        Moves p w (taken_out holds w p k (waiting_value w k s))
    Moves-standing w p k l None is = Moves-refl p w
    Moves-standing w p k l (Some s) is = Moves-taken_out w p k l (in_range w.standings k s is) (waiting_value w k (Some s))

    Moves-reclaimed : (w : World T) (p : ℕ) (x : LimboEntry) → p < length w.time.places → Moves p w (reclaimed holds w p x)
    Moves-reclaimed w p (Item k) l = Moves-standing w p k l (standing_at w k) refl
    Moves-reclaimed w p (Job j) l = record { found = _; countdown = _; waiting = _; time = moved-same w.time p; no_more = omega arith }

    Moves-all_reclaimed : (w : World T) (p : ℕ) (xs : List LimboEntry) → p < length w.time.places → Moves p w (all_reclaimed holds w p xs)
    Moves-all_reclaimed w p [] l = Moves-refl p w
    Moves-all_reclaimed w p (x ∷ xs) l =
        let one = Moves-reclaimed w p x l in
        Moves-trans l one (Moves-all_reclaimed (reclaimed holds w p x) p xs (Moves-range l one))

    Moves-settled : (w : World T) (p : ℕ) → Moves p w (steps.settled w p)
    Moves-settled w p = record { found = _; countdown = _; waiting = _; time = refl; no_more = omega arith }

    Moves-rotated : (w : World T) (p : ℕ) → Moves p w (steps.rotated w p)
    Moves-rotated w p = record { found = _; countdown = _; waiting = _; time = refl; no_more = omega (arith, fewer (place_at w p).bags.waiting) }

    -- what follows a rotation in a change
    Moves-after : (w : World T) (p : ℕ) → p < length w.time.places → Moves p (steps.rotated w p) (changed holds w p)
    Moves-after w p l =
        let here = Moves-range l (Moves-rotated w p) in
        let reclaims = Moves-all_reclaimed (steps.rotated w p) p (due_next (place_at w p)) here in
        Moves-trans here reclaims (Moves-settled (all_reclaimed holds (steps.rotated w p) p (due_next (place_at w p))) p)

    Moves-changed : (w : World T) (p : ℕ) → p < length w.time.places → Moves p w (changed holds w p)
    Moves-changed w p l = Moves-trans l (Moves-rotated w p) (Moves-after w p l)

    -- a change brings the end of the closing nearer
    changed-ahead : (w : World T) (p : ℕ) → p < length w.time.places →
        ahead (place_at (changed holds w p) p).bags.waiting (changed holds w p) + length (place_at w p).bags.waiting ≤ ahead (place_at w p).bags.waiting w
    changed-ahead w p l =
        let here = Moves-range l (Moves-rotated w p) in
        let rest = Moves-after w p l in
        let at_end = ap (λ (ws : List Waiting). ahead ws (changed holds w p)) (Moves-waiting rest here) in
        let rotated_place =
        ap (λ (x : Participant). sum_by to_go x.bags.waiting) (get_or-set_same w.time.places p (time.rotated w.time.count (place_at w p)) nobody l) in
        omega (arith, at_end, rest.no_more, rotated_place, fewer (place_at w p).bags.waiting)

    -- such a change adds nothing to what waits but what it keeps at its place
    pub all_aged_out-append : (w : World T) (ps qs : List ℕ) → all_aged_out holds w (ps ++ qs) ≡ all_aged_out holds (all_aged_out holds w ps) qs
    all_aged_out-append w [] qs = refl
    all_aged_out-append w (p ∷ ps) qs = all_aged_out-append (aged_out holds w p) ps qs

-- only what waits with p is another
pub record MovesWaiting {T : Type 0} (p : ℕ) (old new : World T) : Type 0 where
  pub waiting : List Waiting
  pub time : new.time ≡ moved old.time p (place_at old p).found (place_at old p).countdown waiting

module _ {T : Type 0} where
  pub MovesWaiting-refl : (p : ℕ) (w : World T) → MovesWaiting p w w
  MovesWaiting-refl p w = record { waiting = (place_at w p).bags.waiting; time = moved-same w.time p }

  pub MovesWaiting-trans : {p : ℕ} {u v w : World T} → p < length u.time.places → MovesWaiting p u v → MovesWaiting p v w → MovesWaiting p u w
  MovesWaiting-trans {p} {u} {v} {w} l a b =
      let at_v : place_at v p ≡ record (place_at u p) { bags = record (place_at u p).bags { waiting = a.waiting } } =
      ap (λ (t : EpochState). time.place_at t p) a.time ∙ moved-place u.time p (place_at u p).found (place_at u p).countdown a.waiting l in
      record {
        waiting = b.waiting;
        time = b.time ∙ ap (λ (x : Participant). moved v.time p x.found x.countdown b.waiting) at_v
            ∙ ap (λ t. moved t p (place_at u p).found (place_at u p).countdown b.waiting) a.time
            ∙ moved-moved u.time p (place_at u p).found (place_at u p).countdown a.waiting (place_at u p).found (place_at u p).countdown b.waiting l;
      }

  pub MovesWaiting-aged_out : (holds : T → List OwnerOrCell) (w : World T) (p : ℕ) → p < length w.time.places → MovesWaiting p w (aged_out holds w p)
  MovesWaiting-aged_out holds w p l =
      let m = Moves-changed holds w p l in
      let there = Moves-waiting m l in
      record {
        waiting = (place_at (changed holds w p) p).bags.waiting;
        time = rw there
            (ap (λ t. time.paced_at t p (pace_of (place_at w p))) m.time ∙ paced-moved w.time p m.found m.countdown m.waiting (pace_of (place_at w p)) l);
      }

  MovesWaiting-range : {p : ℕ} {u v : World T} → p < length u.time.places → MovesWaiting p u v → p < length v.time.places
  MovesWaiting-range {p} {u} l m =
      omega (
        arith,
        ap (λ (t : EpochState). length t.places) m.time,
        length-set u.time.places p
            (record (place_at u p) { bags = record (place_at u p).bags { waiting = m.waiting } }),
      )

  pub aged_out-range : (holds : T → List OwnerOrCell) (w : World T) (p : ℕ) → p < length w.time.places → p < length (aged_out holds w p).time.places
  aged_out-range holds w p l = MovesWaiting-range l (MovesWaiting-aged_out holds w p l)

  paced-ahead : (w : World T) (p : ℕ) (pace : CountdownState) → p < length w.time.places →
      ahead (place_at (paced w p pace) p).bags.waiting (paced w p pace) ≡ ahead (place_at w p).bags.waiting w
  paced-ahead w p pace l =
      ap (λ (x : Participant). sum_by to_go x.bags.waiting + 4 * count_by is_out w.standings)
      (get_or-set_same w.time.places p (time.paced pace (place_at w p)) nobody l)

  -- where something waits, such a change brings the end nearer
  pub aged_out-ahead : (holds : T → List OwnerOrCell) (w : World T) (p : ℕ) → p < length w.time.places → ((place_at w p).bags.waiting ≡ [] → ⊥) →
      ahead (place_at (aged_out holds w p) p).bags.waiting (aged_out holds w p) < ahead (place_at w p).bags.waiting w
  aged_out-ahead holds w p l h =
      let same = paced-ahead (changed holds w p) p (pace_of (place_at w p)) (Moves-range l (Moves-changed holds w p l)) in
      omega (arith, same, changed-ahead holds w p l, some-waits (place_at w p).bags.waiting h)

-- ---- as many guards are open
module _ {T : Type 0} where
  pub MovesWaiting-guards : {p : ℕ} {u v : World T} → p < length u.time.places → MovesWaiting p u v → SameGuards u v
  MovesWaiting-guards {p} {u} {v} l m q =
      let x : Participant = record (place_at u p) { bags = record (place_at u p).bags { waiting = m.waiting } } in
      ap (λ (t : EpochState). (time.place_at t q).guards) m.time ∙ guards-placed u p x l refl q

  -- nothing waits with p any more
  pub emptied-guards : (u v : World T) (p : ℕ) → p < length u.time.places → v.time ≡ with_place u.time p (without_waiting (place_at u p)) → SameGuards u v
  emptied-guards u v p l e q = ap (λ (t : EpochState). (time.place_at t q).guards) e ∙ guards-placed u p (without_waiting (place_at u p)) l refl q

-- as many places of the list as i are emptied
abbrev pub emptied_to : EpochState → ℕ → EpochState
emptied_to t i = record t { places = map without_waiting (take i t.places) ++ drop i t.places }

emptied_next : (xs : List Participant) (i : ℕ) → i < length xs →
    slice_set (map without_waiting (take i xs) ++ drop i xs) i
    (without_waiting (get_or (map without_waiting (take i xs) ++ drop i xs) i nobody)) ≡ map without_waiting (take (suc i) xs) ++ drop (suc i) xs
emptied_next [] i l = absurd (omega arith)
emptied_next (x ∷ xs) zero l = refl
emptied_next (x ∷ xs) (suc i) l = ap (λ (r : List Participant). without_waiting x ∷ r) (emptied_next xs i (omega arith))

pub emptied_to-more : (t : EpochState) (i : ℕ) → i < length t.places →
    with_place (emptied_to t i) i (without_waiting (time.place_at (emptied_to t i) i)) ≡ emptied_to t (i + 1)
emptied_to-more t i l = rw add-one (ap (λ (ps : List Participant). record t { places = ps }) (emptied_next t.places i l))

-- the same places are live where nothing waits with anyone
pub emptied-live : (t : EpochState) (p : ℕ) → IsLive t p ↔ IsLive (emptied t) p
emptied-live t p =
    let long = length-map t.places without_waiting in
    (λ live. (omega (arith, long, live.0), live.1), λ live. (omega (arith, long, live.0), live.1))
