-- What a call makes of what waits with the participant that calls
use Rattle.std.proofs.Common.{◌≡◌, ℕ, ◌<◌, ◌++◌, List, [], ◌∷◌, length, Bool, refl, sym, ap, ◌∙◌, arith, true, false, not, Some, None, Option, IsTrue}
use Rattle.std.specs.Prelude.{◌==◌}
use Rattle.std.proofs.lemmas.List.{length-map, length-set, get_or-set_same, set-set, set-get_or}
use Rattle.std.proofs.lemmas.Bool.Decides.{nat_tests}
use Rattle.sdd_participants.specs.declared.waiting.LimboEntry.{LimboEntry}
use Rattle.sdd_participants.specs.declared.waiting.LimboEntry.TheVariants.{Item, Job}
use Rattle.sdd_participants.specs.EpochState.{EpochState, with_place, nobody, due_next, is_open}
use Rattle.sdd_participants.specs.EpochState as time
use Rattle.sdd_participants.specs.Slab.{entry_at, without_entry}
use Rattle.sdd_participants.specs.declared.participant.Participant.{Participant}
use Rattle.sdd_participants.specs.declared.standing.Standing.{Standing}
use Rattle.sdd_world_model.specs.World.{World, standing_at, value_at, place_at}
use Rattle.std.proofs.Math.ListN.{get_or-map}
use Rattle.sdd_participants.specs.Collecting.{without}
use Rattle.sdd_world_model.specs.Collecting.{collector_closed, is_for, waiting_for, without_collector}
use Rattle.sdd_world_model.specs.ParticipantChanges.{all_awaiting, IsCollected, KeepsMoreWaiting, changed_at, opened_at}
use Rattle.sdd_world_model.specs.WorldChanges.{retired, spilled, cell_closed, held_in, owner_given, given, given_all, freed, vacated, dropped_out, dropped, taken_out, waiting_value, slot_reclaimed, reclaimed, all_reclaimed, changed, opened, caught_up}
use Rattle.sdd_world_model.specs.WorldChanges as steps
use Rattle.sdd_world_model.specs.OwnerOrCell.{OwnerOrCell, owned, shared, atomic_owned, atomic_shared, atomic_raw}
use Rattle.sdd_world_model.proofs.Standings.{owner-given}

all_awaiting-append : (ks js : List ℕ) (x : Participant) → all_awaiting (ks ++ js) x ≡ all_awaiting js (all_awaiting ks x)
all_awaiting-append [] js x = refl
all_awaiting-append (k ∷ ks) js x = all_awaiting-append ks js (time.awaiting (Item k) x)

pub all_awaiting-found : (ks : List ℕ) (x : Participant) → (all_awaiting ks x).found ≡ x.found
all_awaiting-found [] x = refl
all_awaiting-found (k ∷ ks) x = all_awaiting-found ks (time.awaiting (Item k) x)

there : (t : EpochState) (p : ℕ) (x : Participant) → p < length t.places → time.place_at (with_place t p x) p ≡ x
there t p x l = get_or-set_same t.places p x nobody l

again : (t : EpochState) (p : ℕ) (x y : Participant) → with_place (with_place t p x) p y ≡ with_place t p y
again t p x y = ap (λ (ps : List Participant). record t { places = ps }) (set-set t.places p x y)

same : (t : EpochState) (p : ℕ) → t ≡ with_place t p (time.place_at t p)
same t p = sym (ap (λ (ps : List Participant). record t { places = ps }) (set-get_or t.places p nobody))

-- only what waits with p is more, by these slots
pub record Gives {T : Type 0} (p : ℕ) (old new : World T) : Type 0 where
  pub slots : List ℕ
  pub time : new.time ≡ with_place old.time p (all_awaiting slots (place_at old p))

module _ {T : Type 0} where
  Gives-nothing : {p : ℕ} {u v : World T} → v.time ≡ u.time → Gives p u v
  Gives-nothing {p} {u} e = record { slots = []; time = e ∙ same u.time p }

  Gives-here : {p : ℕ} {u v : World T} → p < length u.time.places → (g : Gives p u v) → place_at v p ≡ all_awaiting g.slots (place_at u p)
  Gives-here {p} {u} l g = ap (λ (t : EpochState). time.place_at t p) g.time ∙ there u.time p _ l

  pub Gives-range : {p : ℕ} {u v : World T} → p < length u.time.places → Gives p u v → p < length v.time.places
  Gives-range {p} {u} l g = omega (arith, ap (λ (t : EpochState). length t.places) g.time, length-set u.time.places p (all_awaiting g.slots (place_at u p)))

  Gives-trans : {p : ℕ} {u v w : World T} → p < length u.time.places → Gives p u v → Gives p v w → Gives p u w
  Gives-trans {p} {u} {v} {w} l a b =
      record {
        slots = a.slots ++ b.slots;
        time =
            b.time
            ∙ ap (λ (x : Participant). with_place v.time p (all_awaiting b.slots x)) (Gives-here l a)
            ∙ ap (λ (x : Participant). with_place v.time p x) (sym (all_awaiting-append a.slots b.slots (place_at u p)))
            ∙ ap (λ (t : EpochState). with_place t p (all_awaiting (a.slots ++ b.slots) (place_at u p))) a.time
            ∙ again u.time p _ _;
      }

  pub gives-grows : {p : ℕ} {u v : World T} → p < length u.time.places → Gives p u v → KeepsMoreWaiting (place_at u p) (place_at v p)
  gives-grows {p} {u} {v} l g =
      λ start h. (h.0 ++ g.slots, Gives-here l g ∙ ap (λ (x : Participant). all_awaiting g.slots x) h.1 ∙ sym (all_awaiting-append h.0 g.slots start))

  pub Gives-retired : (w : World T) (p k : ℕ) → Gives p w (retired w p k)
  Gives-retired w p k = record { slots = k ∷ []; time = refl }

  pub Gives-owner_given : (w : World T) (p k : ℕ) (s : Option Standing) → standing_at w k ≡ s → Gives p w (owner_given w p k s)
  Gives-owner_given w p k s is =
      owner-given (λ (u : World T). Gives p w u) w p k s is (Gives-nothing refl) (λ out. Gives-retired w p k) (λ n several more. Gives-nothing refl)

  Gives-spilled : (w : World T) (p : ℕ) (held : Option ℕ) → Gives p w (spilled w p held)
  Gives-spilled w p None = Gives-nothing refl
  Gives-spilled w p (Some k) = Gives-owner_given w p k (standing_at w k) refl

  pub Gives-cell_closed : (w : World T) (p c : ℕ) → p < length w.time.places → Gives p w (cell_closed w p c)
  Gives-cell_closed w p c l = Gives-trans l (Gives-nothing refl) (Gives-spilled (record w { cells = without_entry w.cells c }) p (held_in (entry_at w.cells c)))

  pub Gives-given : (w : World T) (p : ℕ) (h : OwnerOrCell) → p < length w.time.places → Gives p w (given w p h)
  Gives-given w p (owned k home) l = Gives-owner_given w p k (standing_at w k) refl
  Gives-given w p (shared k home) l = Gives-owner_given w p k (standing_at w k) refl
  Gives-given w p (atomic_owned c home) l = Gives-cell_closed w p c l
  Gives-given w p (atomic_shared c home) l = Gives-cell_closed w p c l
  Gives-given w p (atomic_raw c home) l = Gives-cell_closed w p c l

  Gives-given_all : (w : World T) (p : ℕ) (hs : List OwnerOrCell) → p < length w.time.places → Gives p w (given_all w p hs)
  Gives-given_all w p [] l = Gives-nothing refl
  Gives-given_all w p (h ∷ hs) l =
      let one = Gives-given w p h l in
      Gives-trans l one (Gives-given_all (given w p h) p hs (Gives-range l one))

  module _ (holds : T → List OwnerOrCell) where
    Gives-taken_out : (w : World T) (p k : ℕ) → p < length w.time.places → (value : Option T) → Gives p w (taken_out holds w p k value)
    Gives-taken_out w p k l None = Gives-nothing refl
    Gives-taken_out w p k l (Some value) = Gives-trans l (Gives-nothing refl) (Gives-given_all (freed w k) p (holds value) l)

    Gives-dropped_out : (w : World T) (p k : ℕ) → p < length w.time.places → (value : Option T) → Gives p w (dropped_out holds w p k value)
    Gives-dropped_out w p k l None = Gives-nothing refl
    Gives-dropped_out w p k l (Some value) = Gives-trans l (Gives-nothing refl) (Gives-given_all (vacated w k) p (holds value) l)

    pub Gives-dropped : (w : World T) (p k : ℕ) → p < length w.time.places → Gives p w (dropped holds w p k)
    Gives-dropped w p k l = Gives-dropped_out w p k l (value_at w k)

    pub Gives-reclaimed : (w : World T) (p : ℕ) (x : LimboEntry) → p < length w.time.places → Gives p w (reclaimed holds w p x)
    Gives-reclaimed w p (Item k) l = Gives-taken_out w p k l (waiting_value w k (standing_at w k))
    Gives-reclaimed w p (Job j) l = Gives-nothing refl

    pub Gives-all_reclaimed : (w : World T) (p : ℕ) (xs : List LimboEntry) → p < length w.time.places → Gives p w (all_reclaimed holds w p xs)
    Gives-all_reclaimed w p [] l = Gives-nothing refl
    Gives-all_reclaimed w p (x ∷ xs) l =
        let one = Gives-reclaimed w p x l in
        Gives-trans l one (Gives-all_reclaimed (reclaimed holds w p x) p xs (Gives-range l one))

    -- the close of a collector
    without-here : (w : World T) (p c : ℕ) → place_at (without_collector w c) p ≡ without (is_for w c) (place_at w p)
    without-here w p c = get_or-map (without (is_for w c)) w.time.places p nobody

    pub Gives-collector_closed : (w : World T) (p c : ℕ) → p < length w.time.places → Gives p (without_collector w c) (collector_closed holds w p c)
    Gives-collector_closed w p c l =
        Gives-all_reclaimed (without_collector w c) p (waiting_for w c) (omega (arith, l, length-map w.time.places (without (is_for w c))))

    pub collector-own : (w : World T) (p c : ℕ) → p < length w.time.places → IsCollected (place_at w p) (place_at (collector_closed holds w p c) p)
    collector-own w p c l =
        let inside : p < length (without_collector w c).time.places = omega (arith, l, length-map w.time.places (without (is_for w c))) in
        let g = Gives-collector_closed w p c l in
        record {
          chosen = is_for w c;
          given = g.slots;
          own = Gives-here inside g ∙ ap (all_awaiting g.slots) (without-here w p c);
        }

    -- a change of p, as p has it, and the count
    pub record Changes (w : World T) (p : ℕ) : Type 0 where
      pub slots : List ℕ
      pub own : place_at (changed holds w p) p ≡ changed_at w.time.count slots (place_at w p)
      pub count : (changed holds w p).time.count ≡ w.time.count
      pub from_due : due_next (place_at w p) ≡ [] → slots ≡ []

    pub changes : (w : World T) (p : ℕ) → p < length w.time.places → Changes w p
    unfolding Gives-all_reclaimed Gives-nothing
    changes w p l =
        let start = steps.rotated w p in
        let in_start : p < length start.time.places = omega (arith, l, length-set w.time.places p (time.rotated w.time.count (place_at w p))) in
        let end = all_reclaimed holds start p (due_next (place_at w p)) in
        let g = Gives-all_reclaimed start p (due_next (place_at w p)) in_start in
        record {
          slots = g.slots;
          own =
              there end.time p _ (Gives-range in_start g)
              ∙ ap (λ (x : Participant). time.settled x) (Gives-here in_start g ∙ ap (λ (x : Participant). all_awaiting g.slots x)
              (there w.time p (time.rotated w.time.count (place_at w p)) l));
          count = ap (λ (t : EpochState). t.count) g.time;
          from_due = λ e. ap (λ (xs : List LimboEntry). (Gives-all_reclaimed start p xs in_start).slots) e;
        }

-- an opening of p, as p has it: the count that it finds, and what is given up to it
pub record Opens {T : Type 0} (holds : T → List OwnerOrCell) (w : World T) (p : ℕ) : Type 0 where
  pub slots : List ℕ
  pub own : place_at (opened holds w p) p ≡ opened_at w.time.count slots (place_at w p)
  pub count : (opened holds w p).time.count ≡ w.time.count
  pub found : ¬ (IsTrue (is_open (place_at w p))) → (place_at (opened holds w p) p).found ≡ w.time.count
  pub from_due : due_next (place_at w p) ≡ [] → slots ≡ []

module _ {T : Type 0} (holds : T → List OwnerOrCell) where
  opens-nested : (w : World T) (p : ℕ) → p < length w.time.places → opened holds w p ≡ steps.nested w p → is_open (place_at w p) ≡ true → Opens holds w p
  opens-nested w p l is opened_before =
      record {
        slots = [];
        own = ap (λ (v : World T). place_at v p) is ∙ rw opened_before (there w.time p _ l);
        count = ap (λ (v : World T). v.time.count) is;
        found = λ closed. absurd (closed opened_before);
        from_due = λ _. refl;
      }

  opens-outermost : (w : World T) (p : ℕ) → p < length w.time.places → is_open (place_at w p) ≡ false →
      opened holds w p ≡ caught_up holds (steps.nested w p) p → (same_count : Bool) → ((place_at w p).found == w.time.count) ≡ same_count → Opens holds w p
  opens-outermost w p l closed is true e =
      let here = there w.time p (time.nested (place_at w p)) l in
      let test : time.finds_another (steps.nested w p).time p ≡ false = ap (λ (x : Participant). not (x.found == w.time.count)) here ∙ ap not e in
      let to : opened holds w p ≡ steps.nested w p = is ∙ rw test refl in
      record {
        slots = [];
        own = ap (λ (v : World T). place_at v p) to ∙ here ∙ rw (closed, e) refl;
        count = ap (λ (v : World T). v.time.count) to;
        found = λ _. ap (λ (v : World T). (place_at v p).found) to ∙ ap (λ (x : Participant). x.found) here ∙ grind (arith, nat_tests, e);
        from_due = λ _. refl;
      }
  opens-outermost w p l closed is false e =
      let here = there w.time p (time.nested (place_at w p)) l in
      let test : time.finds_another (steps.nested w p).time p ≡ true = ap (λ (x : Participant). not (x.found == w.time.count)) here ∙ ap not e in
      let to : opened holds w p ≡ changed holds (steps.nested w p) p = is ∙ rw test refl in
      let in_nested : p < length (steps.nested w p).time.places = omega (arith, l, length-set w.time.places p (time.nested (place_at w p))) in
      let c = changes holds (steps.nested w p) p in_nested in
      let own = ap (λ (v : World T). place_at v p) to ∙ c.own ∙ ap (λ (x : Participant). changed_at w.time.count c.slots x) here in
      record {
        slots = c.slots;
        own = own ∙ rw (closed, e) refl;
        count = ap (λ (v : World T). v.time.count) to ∙ c.count;
        found = λ _. ap (λ (x : Participant). x.found) own ∙ all_awaiting-found c.slots _;
        from_due = λ nothing. c.from_due (ap (λ (x : Participant). due_next x) here ∙ nothing);
      }

  pub opens : (w : World T) (p : ℕ) → p < length w.time.places → (b : Bool) → is_open (place_at w p) ≡ b → Opens holds w p
  opens w p l true e = opens-nested w p l (rw e refl) e
  opens w p l false e = opens-outermost w p l e (rw e refl) ((place_at w p).found == w.time.count) refl
