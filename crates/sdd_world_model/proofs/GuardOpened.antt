-- What an opening makes of each slot and each participant
use Rattle.std.proofs.Common.{◌≡◌, ◌≢◌, ◌⊎◌, inl, inr, ℕ, ◌+◌, ◌<◌, ◌≤◌, List, [], ◌∷◌, length, cond, Bool, refl, sym, ap, ◌∙◌, arith, true, false, Some, None, Option}
use Rattle.std.specs.Prelude.{◌-◌, ◌==◌, not, Contains}
use Rattle.std.proofs.lemmas.List.Elements.{Contains-append_left}
use Rattle.std.proofs.lemmas.List.{length-set, get_or-set_same, get_or-set_other}
use Rattle.std.proofs.lemmas.Bool.Decides.{nat_tests}
use Rattle.sdd_participants.specs.declared.waiting.LimboEntry.{LimboEntry}
use Rattle.sdd_participants.specs.Waiting.{Waiting, fresh}
use Rattle.sdd_participants.specs.declared.waiting.LimboEntry.TheVariants.{Item, Job}
use Rattle.sdd_participants.specs.EpochState.{EpochState, with_place, nobody, due_next, is_open}
use Rattle.sdd_participants.specs.EpochState as time
use Rattle.sdd_participants.specs.Slab.{entry_at, without_entry}
use Rattle.sdd_participants.specs.declared.participant.Participant.{Participant}
use Rattle.sdd_participants.specs.declared.standing.Standing.{Standing}
use Rattle.sdd_participants.specs.declared.standing.Standing.TheVariants.{Owned, Raw, Shared, Retired, Private as privately}
use Rattle.sdd_world_model.specs.Slots.{is_waiting}
use Rattle.sdd_world_model.specs.World.{World, standing_at, value_at, place_at}
use Rattle.sdd_world_model.specs.WorldChanges.{with_standing, retired, spilled, cell_closed, held_in, owner_given, given, given_all, freed, taken_out, waiting_value, reclaimed, all_reclaimed, changed, opened, reclaims}
use Rattle.sdd_world_model.specs.WorldChanges as steps
use Rattle.sdd_world_model.specs.OwnerOrCell.{OwnerOrCell, owned, shared, atomic_owned, atomic_shared, atomic_raw}
use Rattle.sdd_world_model.specs.ParticipantChanges.{all_awaiting}
use Rattle.sdd_world_model.specs.WorldInvariant.{is_of_slot}
use Rattle.sdd_world_model.specs.Out.{is_out}
use Rattle.sdd_world_model.proofs.Standings.{waits-out-not, out-apart, owner-given}
use Rattle.sdd_world_model.proofs.ParticipantChanges.{Gives-all_reclaimed}
use Rattle.sdd_world_model.proofs.WorldInvariant.{count-cons, times_among}
use Rattle.sdd_participants.proofs.Adoptions.{same-or-not}
pub use Rattle.sdd_participants.proofs.Adoptions.{none-there as none-here}

-- What is kept by the retirement of an item that is out, by the freeing of a cell, and by an owner fewer of several, is kept by all giving.
module _ {T : Type 0} (p : ℕ) (P : World T → Type 0)
    (retires : (w : World T) (k : ℕ) → is_out (standing_at w k) ≡ true → P w → P (retired w p k))
    (frees_cell : (w : World T) (c : ℕ) → P w → P (record w { cells = without_entry w.cells c }))
    (shares : (w : World T) (k n m : ℕ) → standing_at w k ≡ Some (Shared n) → P w → P (with_standing w k (Shared m))) where
  pub keeps-owner_given : (w : World T) (k : ℕ) (s : Option Standing) → standing_at w k ≡ s → P w → P (owner_given w p k s)
  keeps-owner_given w k s is i = owner-given P w p k s is i (λ out. retires w k out i) (λ n several more. shares w k n (n - 1) several i)

  keeps-spilled : (w : World T) (held : Option ℕ) → P w → P (spilled w p held)
  keeps-spilled w None i = i
  keeps-spilled w (Some k) i = keeps-owner_given w k (standing_at w k) refl i

  pub keeps-cell_closed : (w : World T) (c : ℕ) → P w → P (cell_closed w p c)
  keeps-cell_closed w c i = keeps-spilled (record w { cells = without_entry w.cells c }) (held_in (entry_at w.cells c)) (frees_cell w c i)

  pub keeps-given : (w : World T) (h : OwnerOrCell) → P w → P (given w p h)
  keeps-given w (owned k home) i = keeps-owner_given w k (standing_at w k) refl i
  keeps-given w (shared k home) i = keeps-owner_given w k (standing_at w k) refl i
  keeps-given w (atomic_owned c home) i = keeps-cell_closed w c i
  keeps-given w (atomic_shared c home) i = keeps-cell_closed w c i
  keeps-given w (atomic_raw c home) i = keeps-cell_closed w c i

  pub keeps-given_all : (w : World T) (hs : List OwnerOrCell) → P w → P (given_all w p hs)
  keeps-given_all w [] i = i
  keeps-given_all w (h ∷ hs) i = keeps-given_all (given w p h) hs (keeps-given w h i)

-- the slot stands so, and has this value
pub record Stands {T : Type 0} (k : ℕ) (s : Option Standing) (v : Option T) (w : World T) : Type 0 where
  pub standing : standing_at w k ≡ s
  pub value : value_at w k ≡ v

-- among what is reclaimed is the slot's item first, or later
among-cons : (k : ℕ) (x : LimboEntry) (xs : List LimboEntry) → (b : Bool) → is_of_slot k x ≡ b → times_among k (x ∷ xs) ≡ cond b 1 0 + times_among k xs
among-cons k x xs b e = count-cons (is_of_slot k) x xs ∙ rw e refl

module _ {T : Type 0} where
  free-stands : (w : World T) (j k : ℕ) (s : Option Standing) (v : Option T) → k ≢ j → Stands k s v w → Stands k s v (freed w j)
  free-stands w j k s v apart i =
      record { standing = get_or-set_other w.standings j k None None apart ∙ i.standing; value = get_or-set_other w.values j k None None apart ∙ i.value }

  free-gone : (w : World T) (k : ℕ) → Stands k None None (freed w k)
  free-gone w k = record { standing = none-here w.standings k; value = none-here w.values k }

  retired-apart : (w : World T) (p j k : ℕ) (s : Option Standing) (v : Option T) → k ≢ j → Stands k s v w → Stands k s v (retired w p j)
  retired-apart w p j k s v apart i =
      record { standing = get_or-set_other w.standings j k (Some Retired) None apart ∙ i.standing; value = i.value }

  pub shared-apart : (w : World T) (j m k : ℕ) (s : Option Standing) (v : Option T) → k ≢ j → Stands k s v w → Stands k s v (with_standing w j (Shared m))
  shared-apart w j m k s v apart i =
      record { standing = get_or-set_other w.standings j k (Some (Shared m)) None apart ∙ i.standing; value = i.value }

  -- what stands so, and is not out, is another slot's than what is
  stands-apart : (w : World T) (j k : ℕ) (s : Option Standing) (v : Option T) → is_out s ≡ false → is_out (standing_at w j) ≡ true → Stands k s v w → k ≢ j
  stands-apart w j k s v idle out i = out-apart w.standings j k out (ap is_out i.standing ∙ idle)

  -- what is given up is another slot's
  module _ (p k : ℕ) (s : Option Standing) (v : Option T) (idle : is_out s ≡ false) where
    retires-stands : (u : World T) (j : ℕ) → is_out (standing_at u j) ≡ true → Stands k s v u → Stands k s v (retired u p j)
    retires-stands u j out i = retired-apart u p j k s v (stands-apart u j k s v idle out i) i

    frees-stands : (u : World T) (c : ℕ) → Stands k s v u → Stands k s v (record u { cells = without_entry u.cells c })
    frees-stands u c i = record { standing = i.standing; value = i.value }

    shares-stands : (u : World T) (j n m : ℕ) → standing_at u j ≡ Some (Shared n) → Stands k s v u → Stands k s v (with_standing u j (Shared m))
    shares-stands u j n m is i = shared-apart u j m k s v (stands-apart u j k s v idle (ap is_out is) i) i

    given-stands : (w : World T) (hs : List OwnerOrCell) → Stands k s v w → Stands k s v (given_all w p hs)
    given-stands w hs i = keeps-given_all p (Stands k s v) retires-stands frees-stands shares-stands w hs i

    pub owner_given-stands : (w : World T) (j : ℕ) (t : Option Standing) → standing_at w j ≡ t → Stands k s v w → Stands k s v (owner_given w p j t)
    owner_given-stands w j t is i = keeps-owner_given p (Stands k s v) retires-stands frees-stands shares-stands w j t is i

    pub closed-stands : (w : World T) (c : ℕ) → Stands k s v w → Stands k s v (cell_closed w p c)
    closed-stands w c i = keeps-cell_closed p (Stands k s v) retires-stands frees-stands shares-stands w c i

  module _ (holds : T → List OwnerOrCell) (p k : ℕ) where
    -- reclaiming another slot's item
    out-stands : (w : World T) (j : ℕ) (s : Option Standing) (v : Option T) → is_out s ≡ false → k ≢ j → (u : Option T) → Stands k s v w →
        Stands k s v (taken_out holds w p j u)
    out-stands w j s v idle apart None i = i
    out-stands w j s v idle apart (Some u) i = given-stands p k s v idle (freed w j) (holds u) (free-stands w j k s v apart i)

    reclaimed-stands : (w : World T) (x : LimboEntry) (s : Option Standing) (v : Option T) → is_out s ≡ false → is_of_slot k x ≡ false → Stands k s v w →
        Stands k s v (reclaimed holds w p x)
    reclaimed-stands w (Item j) s v idle other i =
        out-stands w j s v idle (λ e. absurd (grind (arith, nat_tests, other, e))) (waiting_value w j (standing_at w j)) i
    reclaimed-stands w (Job n) s v idle other i = record { standing = i.standing; value = i.value }

    -- nothing comes back into a slot that is free
    out-gone : (w : World T) (j : ℕ) → (k ≡ j) ⊎ (k ≢ j) → (u : Option T) → Stands k None None w → Stands k None None (taken_out holds w p j u)
    out-gone w j same None i = i
    out-gone w j (inl e) (Some u) i = given-stands p k None None refl (freed w j) (holds u) (rw e (free-gone w j))
    out-gone w j (inr apart) (Some u) i = given-stands p k None None refl (freed w j) (holds u) (free-stands w j k None None apart i)

    reclaimed-gone : (w : World T) (x : LimboEntry) → Stands k None None w → Stands k None None (reclaimed holds w p x)
    reclaimed-gone w (Item j) i = out-gone w j (same-or-not k j) (waiting_value w j (standing_at w j)) i
    reclaimed-gone w (Job n) i = record { standing = i.standing; value = i.value }

    all-gone : (xs : List LimboEntry) (w : World T) → Stands k None None w → Stands k None None (all_reclaimed holds w p xs)
    all-gone [] w i = i
    all-gone (x ∷ xs) w i = all-gone xs (reclaimed holds w p x) (reclaimed-gone w x i)

    -- an item that is not among what is reclaimed stays
    all-stands-if : (x : LimboEntry) (xs : List LimboEntry) (w : World T) (s : Option Standing) (v : Option T) → is_out s ≡ false → times_among k (x ∷ xs) ≡ 0 →
        (b : Bool) → is_of_slot k x ≡ b → Stands k s v w →
        (times_among k xs ≡ 0) × Stands k s v (reclaimed holds w p x)
    all-stands-if x xs w s v idle none true e i = absurd (omega (arith, none, among-cons k x xs true e))
    all-stands-if x xs w s v idle none false e i = (omega (arith, none, among-cons k x xs false e), reclaimed-stands w x s v idle e i)

    pub all-stands : (xs : List LimboEntry) (w : World T) (s : Option Standing) (v : Option T) → is_out s ≡ false → times_among k xs ≡ 0 → Stands k s v w →
        Stands k s v (all_reclaimed holds w p xs)
    all-stands [] w s v idle none i = i
    all-stands (x ∷ xs) w s v idle none i =
        let rest = all-stands-if x xs w s v idle none (is_of_slot k x) refl i in
        all-stands xs (reclaimed holds w p x) s v idle rest.0 rest.1

    -- an item that is among it goes
    there-goes : (w : World T) (j : ℕ) (s : Option Standing) (v : T) → k ≡ j → is_waiting s ≡ true → Stands k s (Some v) w →
        Stands k None None (taken_out holds w p j (waiting_value w j s))
    there-goes w j None v e waits i = absurd (cc)
    there-goes w j (Some Owned) v e waits i = absurd (cc)
    there-goes w j (Some Raw) v e waits i = absurd (cc)
    there-goes w j (Some (Shared n)) v e waits i = absurd (cc)
    there-goes w j (Some Retired) v e waits i =
        let there : value_at w j ≡ Some v = sym (ap (λ (n : ℕ). value_at w n) e) ∙ i.value in
        rw there (given-stands p k None None refl (freed w j) (holds v) (rw e (free-gone w j)))
    there-goes w j (Some (privately c)) v e waits i =
        let there : value_at w j ≡ Some v = sym (ap (λ (n : ℕ). value_at w n) e) ∙ i.value in
        rw there (given-stands p k None None refl (freed w j) (holds v) (rw e (free-gone w j)))

    reclaimed-goes : (w : World T) (x : LimboEntry) (s : Option Standing) (v : T) → is_of_slot k x ≡ true → is_waiting s ≡ true → Stands k s (Some v) w →
        Stands k None None (reclaimed holds w p x)
    reclaimed-goes w (Item j) s v of waits i =
        let e : k ≡ j = grind (arith, nat_tests, of) in
        rw (sym (ap (λ (n : ℕ). standing_at w n) e) ∙ i.standing) (there-goes w j s v e waits i)
    reclaimed-goes w (Job n) s v of waits i = absurd (cc)

    all-goes-if : (x : LimboEntry) (xs : List LimboEntry) (w : World T) (s : Option Standing) (v : T) → is_waiting s ≡ true → 1 ≤ times_among k (x ∷ xs)
        → (b : Bool) →
        is_of_slot k x ≡ b → Stands k s (Some v) w →
        Stands k None None (reclaimed holds w p x) ⊎ ((1 ≤ times_among k xs) × Stands k s (Some v) (reclaimed holds w p x))
    all-goes-if x xs w s v waits some true e i = inl (reclaimed-goes w x s v e waits i)
    all-goes-if x xs w s v waits some false e i =
        inr (omega (arith, some, among-cons k x xs false e), reclaimed-stands w x s (Some v) (waits-out-not s waits) e i)

    pub all-goes : (xs : List LimboEntry) (w : World T) (s : Option Standing) (v : T) → is_waiting s ≡ true →
        Stands k None None w ⊎ ((1 ≤ times_among k xs) × Stands k s (Some v) w) →
        Stands k None None (all_reclaimed holds w p xs)
    all-goes [] w s v waits (inl gone) = gone
    all-goes [] w s v waits (inr on) = absurd (omega (arith, on.0))
    all-goes (x ∷ xs) w s v waits (inl gone) = all-goes xs (reclaimed holds w p x) s v waits (inl (reclaimed-gone w x gone))
    all-goes (x ∷ xs) w s v waits (inr on) = all-goes xs (reclaimed holds w p x) s v waits (all-goes-if x xs w s v waits on.0 (is_of_slot k x) refl on.1)

-- how a place stands after others gave to p
-- what waits goes on waiting where something more begins to
pub still-waits : (what : LimboEntry) (x : Participant) (w : Waiting) → Contains x.bags.waiting w → Contains (time.awaiting what x).bags.waiting w
still-waits what x w h = Contains-append_left x.bags.waiting (fresh what ∷ []) w h

pub all_awaiting-waiting : (ks : List ℕ) (x : Participant) (y : Waiting) → Contains x.bags.waiting y → Contains (all_awaiting ks x).bags.waiting y
all_awaiting-waiting [] x y h = h
all_awaiting-waiting (k ∷ ks) x y h = all_awaiting-waiting ks (time.awaiting (Item k) x) y (Contains-append_left x.bags.waiting (fresh (Item k) ∷ []) y h)

-- a nested opening, or one that finds no other count
pub record Nests {T : Type 0} (holds : T → List OwnerOrCell) (w : World T) (p : ℕ) : Type 0 where
  pub nests : opened holds w p ≡ steps.nested w p
  pub none : reclaims w p ≡ []
  pub why : (is_open (place_at w p) ≡ true) ⊎ ((is_open (place_at w p) ≡ false) × ((place_at w p).found ≡ w.time.count))

-- an opening that is a change
pub record IsChange {T : Type 0} (holds : T → List OwnerOrCell) (w : World T) (p : ℕ) : Type 0 where
  pub change : opened holds w p ≡ changed holds (steps.nested w p) p
  pub due : reclaims w p ≡ due_next (place_at w p)
  pub closed_before : is_open (place_at w p) ≡ false
  pub another : (place_at w p).found ≢ w.time.count

module _ {T : Type 0} (holds : T → List OwnerOrCell) (w : World T) (p : ℕ) where
  nested-here : p < length w.time.places → place_at (steps.nested w p) p ≡ time.nested (place_at w p)
  nested-here l = get_or-set_same w.time.places p (time.nested (place_at w p)) nobody l

  nested-test : p < length w.time.places → (b : Bool) → ((place_at w p).found == w.time.count) ≡ b → time.finds_another (steps.nested w p).time p ≡ not b
  nested-test l b e = ap (λ (x : Participant). not (x.found == w.time.count)) (nested-here l) ∙ ap not e

  how-outermost : p < length w.time.places → is_open (place_at w p) ≡ false → (b : Bool) → ((place_at w p).found == w.time.count) ≡ b →
      Nests holds w p ⊎ IsChange holds w p
  how-outermost l shut true e =
      inl
      (record {
        nests = rw (shut, nested-test l true e) refl;
        none = rw (shut, e) refl;
        why = inr (shut, grind (arith, nat_tests, e));
      })
  how-outermost l shut false e =
      inr
      (record {
        change = rw (shut, nested-test l false e) refl;
        due = rw (shut, e) refl;
        closed_before = shut;
        another = grind (arith, nat_tests, e);
      })

  how-if : p < length w.time.places → (b : Bool) → is_open (place_at w p) ≡ b → Nests holds w p ⊎ IsChange holds w p
  how-if l true e = inl (record { nests = rw e refl; none = rw e refl; why = inl e })
  how-if l false e = how-outermost l e ((place_at w p).found == w.time.count) refl

  pub how : p < length w.time.places → Nests holds w p ⊎ IsChange holds w p
  how l = how-if l (is_open (place_at w p)) refl

  -- the world in which a change reclaims
  abbrev pub before : World T
  before = steps.rotated (steps.nested w p) p

  pub in_before : p < length w.time.places → p < length before.time.places
  in_before l =
      let y : Participant = time.nested (place_at w p) in
      omega (arith, l, length-set w.time.places p y, length-set (steps.nested w p).time.places p (time.rotated w.time.count (place_at (steps.nested w p) p)))

  pub due-here : p < length w.time.places → due_next (place_at (steps.nested w p) p) ≡ due_next (place_at w p)
  due-here l = ap (λ (x : Participant). due_next x) (nested-here l)

  -- each slot
  stays-if : p < length w.time.places → (k : ℕ) (s : Option Standing) (v : Option T) → is_out s ≡ false → times_among k (reclaims w p) ≡ 0 →
      Stands k s v w → Nests holds w p ⊎ IsChange holds w p →
      Stands k s v (opened holds w p)
  stays-if l k s v idle none i (inl n) = rw n.nests (record { standing = i.standing; value = i.value })
  stays-if l k s v idle none i (inr c) =
      let due_none : times_among k (due_next (place_at (steps.nested w p) p)) ≡ 0 = ap (λ (xs : List LimboEntry). times_among k xs) (due-here l ∙ sym c.due)
      ∙ none in
      let end = all-stands holds p k (due_next (place_at (steps.nested w p) p)) before s v idle due_none (record { standing = i.standing; value = i.value }) in
      rw c.change (record { standing = end.standing; value = end.value })

  pub opened-stays : p < length w.time.places → (k : ℕ) (s : Option Standing) (v : Option T) → is_out s ≡ false → times_among k (reclaims w p) ≡ 0 →
      Stands k s v w → Stands k s v (opened holds w p)
  opened-stays l k s v idle none i = stays-if l k s v idle none i (how l)

  goes-if : p < length w.time.places → (k : ℕ) (s : Option Standing) (v : T) → is_waiting s ≡ true → 1 ≤ times_among k (reclaims w p) →
      Stands k s (Some v) w → Nests holds w p ⊎ IsChange holds w p →
      Stands k None None (opened holds w p)
  goes-if l k s v waits some i (inl n) = absurd (omega (arith, some, ap (λ (xs : List LimboEntry). times_among k xs) n.none))
  goes-if l k s v waits some i (inr c) =
      let same : times_among k (due_next (place_at (steps.nested w p) p)) ≡ times_among k (reclaims w p) =
      ap (λ (xs : List LimboEntry). times_among k xs) (due-here l ∙ sym c.due) in
      let end =
      all-goes holds p k (due_next (place_at (steps.nested w p) p)) before s v waits
      (inr (omega (arith, some, same), record { standing = i.standing; value = i.value })) in
      rw c.change (record { standing = end.standing; value = end.value })

  pub opened-goes : p < length w.time.places → (k : ℕ) (s : Option Standing) (v : T) → is_waiting s ≡ true → 1 ≤ times_among k (reclaims w p) →
      Stands k s (Some v) w → Stands k None None (opened holds w p)
  opened-goes l k s v waits some i = goes-if l k s v waits some i (how l)

  -- each other participant
  changed-other : p < length w.time.places → (q : ℕ) → q ≢ p → place_at (changed holds (steps.nested w p) p) q ≡ place_at w q
  changed-other l q apart =
      let due = due_next (place_at (steps.nested w p) p) in
      let end = all_reclaimed holds before p due in
      let g = Gives-all_reclaimed holds before p due (in_before l) in
      get_or-set_other end.time.places p q (time.settled (place_at end p)) nobody apart
      ∙ ap (λ (t : EpochState). time.place_at t q) g.time
      ∙ get_or-set_other before.time.places p q (all_awaiting g.slots (place_at before p)) nobody apart
      ∙ get_or-set_other (steps.nested w p).time.places p q (time.rotated w.time.count (place_at (steps.nested w p) p)) nobody apart
      ∙ get_or-set_other w.time.places p q (time.nested (place_at w p)) nobody apart

  other-if : p < length w.time.places → (q : ℕ) → q ≢ p → Nests holds w p ⊎ IsChange holds w p → place_at (opened holds w p) q ≡ place_at w q
  other-if l q apart (inl n) = ap (λ (u : World T). place_at u q) n.nests ∙ get_or-set_other w.time.places p q (time.nested (place_at w p)) nobody apart
  other-if l q apart (inr c) = ap (λ (u : World T). place_at u q) c.change ∙ changed-other l q apart

  pub opened-other : p < length w.time.places → (q : ℕ) → q ≢ p → place_at (opened holds w p) q ≡ place_at w q
  opened-other l q apart = other-if l q apart (how l)
