-- What each of the small steps of a call keeps, the call keeps
use Rattle.sdd_script_model.proofs.Words.{◌≡◌, ℕ, Bool, true, false, List, [], ◌∷◌, Option, Some, None, refl, if◌then◌else◌, entry_at, without_entry, EpochState, due_next, is_open, Standing, LimboEntry, Item, Job, is_out, OwnerOrCell, owned, shared, atomic_owned, atomic_shared, atomic_raw, World, place_at, standing_at, ran, retired, owner_given, with_standing, cell_closed, freed, given_all, held_in, spilled, taken_out, waiting_value, reclaimed, all_reclaimed, opened, keeps-owner_given, Val, holdings_of, given, changed, caught_up}
use Rattle.sdd_participants.specs.EpochState as time
use Rattle.sdd_participants.specs.declared.standing.Standing.TheVariants as standing
use Rattle.sdd_world_model.specs.WorldChanges as steps

-- What is kept where an owner is given up, and where a cell is freed, is kept where all of a value is given up, and where something is reclaimed.
module _ (P : World Val → Type 0) (p : ℕ)
    (gives : (w : World Val) (k : ℕ) (s : Option Standing) → standing_at w k ≡ s → P w → P (owner_given w p k s))
    (frees_cell : (w : World Val) (c : ℕ) → P w → P (record w { cells = without_entry w.cells c })) where
  spills : (w : World Val) (held : Option ℕ) → P w → P (spilled w p held)
  spills w None h = h
  spills w (Some k) h = gives w k (standing_at w k) refl h

  pub closes-cell : (w : World Val) (c : ℕ) → P w → P (cell_closed w p c)
  closes-cell w c h = spills (record w { cells = without_entry w.cells c }) (held_in (entry_at w.cells c)) (frees_cell w c h)

  gives-one : (w : World Val) (x : OwnerOrCell) → P w → P (given w p x)
  gives-one w (owned k home) h = gives w k (standing_at w k) refl h
  gives-one w (shared k home) h = gives w k (standing_at w k) refl h
  gives-one w (atomic_owned c home) h = closes-cell w c h
  gives-one w (atomic_shared c home) h = closes-cell w c h
  gives-one w (atomic_raw c home) h = closes-cell w c h

  pub gives-all : (w : World Val) (hs : List OwnerOrCell) → P w → P (given_all w p hs)
  gives-all w [] h = h
  gives-all w (x ∷ hs) h = gives-all (given w p x) hs (gives-one w x h)

  module _ (frees : (w : World Val) (k : ℕ) → P w → P (freed w k)) (times : (w : World Val) (t : EpochState) → P w → P (record w { time = t }))
      (runs : (w : World Val) (n : ℕ) → P w → P (ran w n)) where
    takes-out : (w : World Val) (k : ℕ) (v : Option Val) → P w → P (taken_out holdings_of w p k v)
    takes-out w k None h = h
    takes-out w k (Some v) h = gives-all (freed w k) (holdings_of v) (frees w k h)

    reclaims-one : (w : World Val) (x : LimboEntry) → P w → P (reclaimed holdings_of w p x)
    reclaims-one w (Item k) h = takes-out w k (waiting_value w k (standing_at w k)) h
    reclaims-one w (Job n) h = runs w n h

    pub reclaims-all : (w : World Val) (xs : List LimboEntry) → P w → P (all_reclaimed holdings_of w p xs)
    reclaims-all w [] h = h
    reclaims-all w (x ∷ xs) h = reclaims-all (reclaimed holdings_of w p x) xs (reclaims-one w x h)

    changes : (w : World Val) → P w → P (changed holdings_of w p)
    changes w h =
        let end = all_reclaimed holdings_of (steps.rotated w p) p (due_next (place_at w p)) in
        times end (time.settled_at end.time p) (reclaims-all (steps.rotated w p) (due_next (place_at w p)) (times w (time.rotated_at w.time p) h))

    either-kept : (b : Bool) (u v : World Val) → P u → P v → P (if b then u else v)
    either-kept true u v h g = h
    either-kept false u v h g = g

    pub opens-guard : (w : World Val) → P w → P (opened holdings_of w p)
    opens-guard w h =
        let u = steps.nested w p in
        let here = times w (time.nested_at w.time p) h in
        either-kept (is_open (place_at w p)) u (caught_up holdings_of u p) here
        (either-kept (time.finds_another u.time p) (changed holdings_of u p) u (changes u here) here)

-- And so where it is kept by each of the small steps of which these consist.
module _ (P : World Val → Type 0)
    (retires : (w : World Val) (p k : ℕ) → is_out (standing_at w k) ≡ true → P w → P (retired w p k))
    (frees_cell : (w : World Val) (c : ℕ) → P w → P (record w { cells = without_entry w.cells c }))
    (shares : (w : World Val) (k n m : ℕ) → standing_at w k ≡ Some (standing.Shared n) → P w → P (with_standing w k (standing.Shared m))) where
  pub keeps-given : (w : World Val) (p k : ℕ) (s : Option Standing) → standing_at w k ≡ s → P w → P (owner_given w p k s)
  keeps-given w p k s is h = keeps-owner_given p P (λ u j. retires u p j) frees_cell shares w k s is h

  pub keeps-closed : (w : World Val) (p c : ℕ) → P w → P (cell_closed w p c)
  keeps-closed w p c h = closes-cell P p (λ u. keeps-given u p) frees_cell w c h

  pub keeps-all_given : (w : World Val) (p : ℕ) (hs : List OwnerOrCell) → P w → P (given_all w p hs)
  keeps-all_given w p hs h = gives-all P p (λ u. keeps-given u p) frees_cell w hs h

  module _ (frees : (w : World Val) (k : ℕ) → P w → P (freed w k)) (times : (w : World Val) (t : EpochState) → P w → P (record w { time = t }))
      (runs : (w : World Val) (n : ℕ) → P w → P (ran w n)) where
    pub keeps-all : (w : World Val) (p : ℕ) (xs : List LimboEntry) → P w → P (all_reclaimed holdings_of w p xs)
    keeps-all w p xs h = reclaims-all P p (λ u. keeps-given u p) frees_cell frees times runs w xs h

    pub keeps-opened : (w : World Val) (p : ℕ) → P w → P (opened holdings_of w p)
    keeps-opened w p h = opens-guard P p (λ u. keeps-given u p) frees_cell frees times runs w h
