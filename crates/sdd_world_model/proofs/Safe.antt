-- What is safe from a guard stays so while the guard is open
use Rattle.std.proofs.Common.{◌≡◌, ◌≢◌, ◌⊎◌, inl, inr, ℕ, ◌+◌, ◌<◌, List, [], ◌∷◌, length, Bool, refl, sym, ap, ◌∙◌, arith, true, false, Some, None, Option, IsTrue, subst, zero, suc}
use Rattle.std.specs.Prelude.{Contains, ◌≤◌}
use Rattle.std.proofs.lemmas.List.{get_or-set_same, get_or-set_other, length-set}
use Rattle.std.proofs.lemmas.List.Elements.{Contains-push, Contains-append_left}
use Rattle.std.proofs.lemmas.Bool.Decides.{nat_tests}
use Rattle.sdd_participants.specs.declared.waiting.LimboEntry.{LimboEntry}
use Rattle.sdd_participants.specs.Waiting.{fresh, having_seen}
use Rattle.sdd_participants.specs.declared.waiting.LimboEntry.TheVariants.{Item, Job}
use Rattle.sdd_participants.specs.EpochState.{nobody, due_next, is_open}
use Rattle.sdd_participants.specs.EpochState as time
use Rattle.sdd_participants.specs.declared.participant.Participant.{Participant}
use Rattle.sdd_participants.specs.declared.standing.Standing.{Standing}
use Rattle.sdd_participants.specs.declared.standing.Standing.TheVariants.{Owned, Raw, Shared, Retired, Private as privately}
use Rattle.sdd_world_model.specs.Slots.{is_waiting}
use Rattle.sdd_world_model.specs.World.{World, standing_at, place_at}
use Rattle.sdd_world_model.specs.Collecting.{collected}
use Rattle.sdd_world_model.specs.WorldChanges.{with_standing, waiting_as, retired, owner_given, cell_closed, freed, taken_out, waiting_value, reclaimed, all_reclaimed, changed, opened, reclaims}
use Rattle.sdd_world_model.specs.WorldChanges as steps
use Rattle.sdd_world_model.specs.OwnerOrCell.{OwnerOrCell}
use Rattle.sdd_world_model.specs.WorldInvariant.{IsWhole, is_of_slot}
use Rattle.sdd_world_model.specs.ReclaimBound.{Waits}
use Rattle.sdd_world_model.specs.Out.{is_out}
use Rattle.sdd_world_model.specs.UnderGuards.{IsUnder, IsSafe}
use Rattle.sdd_world_model.specs.WorldStep.{WorldStep}
use Rattle.sdd_world_model.specs.WorldStep.WorldStep.{registers, ends, opens, closes, stirs, accelerates, makes, shares, retires, releases, defers, collects, closes_collector, edits, drops, puts_out_raw, takes_back_raw, changes_cells, closes_cell, changes_pointers}
use Rattle.sdd_world_model.proofs.WorldInvariant.{count-cons, times_among, times-aged}
use Rattle.sdd_world_model.proofs.AnyGuardOpen.{guarded}
use Rattle.sdd_world_model.proofs.Standings.{alone-out, out-waits-not, out-inside, out-apart, waits-out-not}
use Rattle.sdd_world_model.proofs.WaitingCounts.{in_range}
use Rattle.sdd_world_model.proofs.WaitingEntries.{one-place}
use Rattle.sdd_world_model.proofs.GuardOpened.{keeps-owner_given, keeps-given_all, keeps-cell_closed, how, Nests, IsChange, before, in_before, due-here}
use Rattle.sdd_world_model.proofs.UnderGuards.{one-call, under-not-due, under-waits, under-owner_given}
use Rattle.sdd_participants.proofs.Adoptions.{same-or-not}

module _ {T : Type 0} (q k : ℕ) where
  -- the slot's item is out, or was given up to q, and has seen no change since
  abbrev IsOutOrFresh : World T → Type 0
  IsOutOrFresh w = (q < length w.time.places) × ((is_out (standing_at w k) ≡ true) ⊎ ((is_waiting (standing_at w k) ≡ true) × Waits w q k 0))

  waiting-here : (w : World T) (j : ℕ) (s : Standing) → q < length w.time.places → place_at (waiting_as w q j s) q ≡ time.awaiting (Item j) (place_at w q)
  waiting-here w j s l = get_or-set_same w.time.places q (time.awaiting (Item j) (place_at w q)) nobody l

  still-there : (w : World T) (j : ℕ) (s : Standing) → q < length w.time.places → q < length (waiting_as w q j s).time.places
  still-there w j s l = omega (arith, l, length-set w.time.places q (time.awaiting (Item j) (place_at w q)))

  waits-out : (w : World T) (j : ℕ) (s : Standing) → is_waiting (Some s) ≡ true → is_out (standing_at w j) ≡ true → q < length w.time.places →
      is_out (standing_at w k) ≡ true → (k ≡ j) ⊎ (k ≢ j) → IsOutOrFresh (waiting_as w q j s)
  waits-out w j s waits was l out (inl e) = rw e (
    still-there w j s l,
    inr (
      ap is_waiting (get_or-set_same w.standings j (Some s) None (out-inside w.standings j was)) ∙ waits,
      subst (λ (x : Participant). Contains x.bags.waiting (having_seen 0 (Item j))) (sym (waiting-here w j s l))
          (Contains-push (place_at w q).bags.waiting (fresh (Item j))),
    ),
  )
  waits-out w j s waits was l out (inr apart) =
      (still-there w j s l, inl (ap (λ (s : Option Standing). is_out s) (get_or-set_other w.standings j k (Some s) None apart) ∙ out))

  waits-keeps : (w : World T) (j : ℕ) (s : Standing) → is_waiting (Some s) ≡ true → is_out (standing_at w j) ≡ true → IsOutOrFresh w →
      IsOutOrFresh (waiting_as w q j s)
  waits-keeps w j s waits was (l, inl out) = waits-out w j s waits was l out (same-or-not k j)
  waits-keeps w j s waits was (l, inr h) =
      let apart : k ≢ j = out-apart w.standings j k was (waits-out-not (standing_at w k) h.0) in (
        still-there w j s l,
        inr (
          ap is_waiting (get_or-set_other w.standings j k (Some s) None apart) ∙ h.0,
          subst (λ (x : Participant). Contains x.bags.waiting (having_seen 0 (Item k))) (sym (waiting-here w j s l))
              (Contains-append_left (place_at w q).bags.waiting (fresh (Item j) ∷ []) (having_seen 0 (Item k)) h.1),
        ),
      )

  retires-keeps : (w : World T) (j : ℕ) → is_out (standing_at w j) ≡ true → IsOutOrFresh w → IsOutOrFresh (retired w q j)
  retires-keeps w j was h = waits-keeps w j Retired refl was h

  -- an item that is shared stays out, with one owner more or fewer
  shares-out : (w : World T) (j n m : ℕ) → standing_at w j ≡ Some (Shared n) → is_out (standing_at w k) ≡ true → (k ≡ j) ⊎ (k ≢ j) →
      is_out (standing_at (with_standing w j (Shared m)) k) ≡ true
  shares-out w j n m is out (inl e) = rw e (ap is_out (get_or-set_same w.standings j (Some (Shared m)) None (in_range w.standings j (Shared n) is)))
  shares-out w j n m is out (inr apart) = ap is_out (get_or-set_other w.standings j k (Some (Shared m)) None apart) ∙ out

  shares-keeps : (w : World T) (j n m : ℕ) → standing_at w j ≡ Some (Shared n) → IsOutOrFresh w → IsOutOrFresh (with_standing w j (Shared m))
  shares-keeps w j n m is (l, inl out) = (l, inl (shares-out w j n m is out (same-or-not k j)))
  shares-keeps w j n m is (l, inr h) =
      let apart : k ≢ j = out-apart w.standings j k (ap is_out is) (waits-out-not (standing_at w k) h.0) in
      (l, inr (ap is_waiting (get_or-set_other w.standings j k (Some (Shared m)) None apart) ∙ h.0, h.1))

  gives-keeps : (w : World T) (j : ℕ) (s : Option Standing) → standing_at w j ≡ s → IsOutOrFresh w → IsOutOrFresh (owner_given w q j s)
  gives-keeps w j s is h = keeps-owner_given q IsOutOrFresh retires-keeps (λ u d i. i) shares-keeps w j s is h

  closes_cell-keeps : (w : World T) (c : ℕ) → IsOutOrFresh w → IsOutOrFresh (cell_closed w q c)
  closes_cell-keeps w c h = keeps-cell_closed q IsOutOrFresh retires-keeps (λ u d i. i) shares-keeps w c h

  freed-keeps : (w : World T) (j : ℕ) → k ≢ j → IsOutOrFresh w → IsOutOrFresh (freed w j)
  freed-keeps w j apart (l, inl out) = (l, inl (ap (λ (s : Option Standing). is_out s) (get_or-set_other w.standings j k None None apart) ∙ out))
  freed-keeps w j apart (l, inr h) = (l, inr (ap is_waiting (get_or-set_other w.standings j k None None apart) ∙ h.0, h.1))

  module _ (holds : T → List OwnerOrCell) where
    taken-keeps : (w : World T) (j : ℕ) → k ≢ j → (v : Option T) → IsOutOrFresh w → IsOutOrFresh (taken_out holds w q j v)
    taken-keeps w j apart None h = h
    taken-keeps w j apart (Some v) h =
        keeps-given_all q IsOutOrFresh retires-keeps (λ u d h. h) shares-keeps (freed w j) (holds v) (freed-keeps w j apart h)

    reclaims-keeps : (w : World T) (x : LimboEntry) → is_of_slot k x ≡ false → IsOutOrFresh w → IsOutOrFresh (reclaimed holds w q x)
    reclaims-keeps w (Item j) other h = taken-keeps w j (λ e. absurd (grind (arith, nat_tests, other, e))) (waiting_value w j (standing_at w j)) h
    reclaims-keeps w (Job n) other h = h

    reclaims-if : (x : LimboEntry) (xs : List LimboEntry) (w : World T) → times_among k (x ∷ xs) ≡ 0 → (b : Bool) → is_of_slot k x ≡ b → IsOutOrFresh w →
        (times_among k xs ≡ 0) × IsOutOrFresh (reclaimed holds w q x)
    reclaims-if x xs w none true e h =
        let all : times_among k (x ∷ xs) ≡ 1 + times_among k xs = count-cons (is_of_slot k) x xs ∙ rw e refl in absurd (omega (arith, none, all))
    reclaims-if x xs w none false e h =
        let all : times_among k (x ∷ xs) ≡ 0 + times_among k xs = count-cons (is_of_slot k) x xs ∙ rw e refl in
        (omega (arith, none, all), reclaims-keeps w x e h)

    all-keeps : (xs : List LimboEntry) (w : World T) → times_among k xs ≡ 0 → IsOutOrFresh w → IsOutOrFresh (all_reclaimed holds w q xs)
    all-keeps [] w none h = h
    all-keeps (x ∷ xs) w none h =
        let rest = reclaims-if x xs w none (is_of_slot k x) refl h in all-keeps xs (reclaimed holds w q x) rest.0 rest.1

    -- what is out is among nobody's due
    pub none-due : (w : World T) → IsWhole w → is_out (standing_at w k) ≡ true → times_among k (due_next (place_at w q)) ≡ 0
    none-due w i out =
        let waits : is_waiting (standing_at w k) ≡ false = out-waits-not (standing_at w k) out in
        let once = rw waits at (i.once k) in
        omega (arith, once, one-place k w.time.places q, times-aged k (place_at w q).bags.waiting)

    settles-keeps : (w : World T) → IsOutOrFresh w → IsOutOrFresh (steps.settled w q)
    settles-keeps w (l, s) =
        let x : Participant = time.settled (place_at w q) in
        let here : place_at (steps.settled w q) q ≡ x = get_or-set_same w.time.places q x nobody l in (
          omega (arith, l, length-set w.time.places q x),
          elim s [
            | inl out ↦ inl out
            | inr h ↦ inr (h.0, subst (λ (y : Participant). Contains y.bags.waiting (having_seen 0 (Item k))) (sym here) h.1)
          ],
        )

    opens-if : (w : World T) → q < length w.time.places → IsWhole w → is_out (standing_at w k) ≡ true → Nests holds w q ⊎ IsChange holds w q →
        IsOutOrFresh (opened holds w q)
    opens-if w l i out (inl n) = rw n.nests (omega (arith, l, length-set w.time.places q (time.nested (place_at w q))), inl out)
    opens-if w l i out (inr c) =
        let due = due_next (place_at (steps.nested w q) q) in
        let none : times_among k due ≡ 0 = ap (λ (xs : List LimboEntry). times_among k xs) (due-here holds w q l) ∙ none-due w i out in
        rw c.change (settles-keeps (all_reclaimed holds (before holds w q) q due) (all-keeps due (before holds w q) none (in_before holds w q l, inl out)))

    pub opens-keeps : (w : World T) → q < length w.time.places → IsWhole w → is_out (standing_at w k) ≡ true → IsOutOrFresh (opened holds w q)
    opens-keeps w l i out = opens-if w l i out (how holds w q l)

-- an item that is out stands otherwise, and is out
restands-out : {T : Type 0} (k : ℕ) (w : World T) (j : ℕ) (s : Standing) → is_out (standing_at w j) ≡ true → is_out (Some s) ≡ true →
    is_out (standing_at w k) ≡ true → (k ≡ j) ⊎ (k ≢ j) → is_out (standing_at (with_standing w j s) k) ≡ true
restands-out k w j s was now out (inl e) = rw e (ap is_out (get_or-set_same w.standings j (Some s) None (out-inside w.standings j was)) ∙ now)
restands-out k w j s was now out (inr apart) = ap is_out (get_or-set_other w.standings j k (Some s) None apart) ∙ out

module _ {T : Type 0} (p k : ℕ) where
  safe-or : {q : ℕ} (w : World T) → IsTrue (is_open (place_at w p)) → IsOutOrFresh q k w → IsSafe w p k
  safe-or w o (l, inl out) = record { guarded = o; stays = inl out }
  safe-or {q} w o (l, inr h) = record {
    guarded = o;
    stays = inr (record { guarded = o; waiting = h.0; holder = q; seen = 0; waits = h.1; safe = omega arith });
  }

  safe-out : {w : World T} → IsTrue (is_open (place_at w p)) → is_out (standing_at w k) ≡ true → IsSafe w p k
  safe-out o out = record { guarded = o; stays = inl out }

  module _ (holds : T → List OwnerOrCell) where
    -- what is out stays out, or waits with whom it was given up to
    out-call : {v w : World T} → WorldStep holds v w → IsWhole v → IsTrue (is_open (place_at v p)) → is_out (standing_at v k) ≡ true →
        IsTrue (is_open (place_at w p)) → IsSafe w p k
    out-call (registers v r vacant) i on out o = safe-out o out
    out-call (ends v r l shut) i on out o = safe-out o out
    out-call (opens v r l) i on out o = safe-or (opened holds v r) o (opens-keeps r k holds v l.0 i out)
    out-call (closes v r l) i on out o = safe-out o out
    out-call (stirs v r l) i on out o = safe-out o out
    out-call (accelerates v r l) i on out o = safe-out o out
    out-call (makes v j value s first empty) i on out o =
        let apart : k ≢ j = λ e. out-apart v.standings k j out (ap is_out empty.1) (sym e) in
        safe-out o (ap is_out (get_or-set_other v.standings j k (Some s) None apart) ∙ out)
    out-call (shares v j n is) i on out o = safe-out o (shares-out 0 k v j n (n + 1) is out (same-or-not k j))
    out-call (retires v r j l there) i on out o = safe-or (retired v r j) o (retires-keeps r k v j (ap is_out there) (l.0, inl out))
    out-call (releases v r j n l is) i on out o =
        safe-or (owner_given v r j (Some (Shared n))) o (gives-keeps r k v j (Some (Shared n)) is (l.0, inl out))
    out-call (defers v r j l free) i on out o = safe-out o out
    out-call (collects v r c j l alone) i on out o =
        safe-or (collected v r c j) o (waits-keeps r k v j (privately c) refl (alone-out (standing_at v j) alone) (l.0, inl out))
    out-call (closes_collector v r c l quiet) i on out o = absurd (quiet (guarded v p on))
    out-call (edits v j value may) i on out o = absurd (may.quiet (guarded v p on))
    out-call (drops v r j l may) i on out o = absurd (may.quiet (guarded v p on))
    out-call (puts_out_raw v j is) i on out o = safe-out o (restands-out k v j Raw (ap is_out is) refl out (same-or-not k j))
    out-call (takes_back_raw v j is) i on out o = safe-out o (restands-out k v j Owned (ap is_out is) refl out (same-or-not k j))
    out-call (changes_cells v cells same) i on out o = safe-out o out
    out-call (closes_cell v r c l) i on out o = safe-or (cell_closed v r c) o (closes_cell-keeps r k v c (l.0, inl out))
    out-call (changes_pointers v pointers same) i on out o = safe-out o out

    -- each call keeps safe what was, where the guard is open afterwards
    pub safe-call : {v w : World T} → WorldStep holds v w → IsWhole v → IsSafe v p k → IsTrue (is_open (place_at w p)) → IsSafe w p k
    safe-call call i safe o = elim safe.stays [
      | inl out ↦ out-call call i safe.guarded out o
      | inr under ↦ record { guarded = o; stays = inr (one-call holds p k call i under o).1.under }
    ]

    pub safe-waits : (v : World T) (r j : ℕ) (s : Standing) → is_waiting (Some s) ≡ true → r < length v.time.places → is_out (standing_at v j) ≡ true →
        IsSafe v p k → IsTrue (is_open (place_at (waiting_as v r j s) p)) → IsSafe (waiting_as v r j s) p k
    safe-waits v r j s waits l was safe o = elim safe.stays [
      | inl out ↦ safe-or (waiting_as v r j s) o (waits-keeps r k v j s waits was (l, inl out))
      | inr under ↦ record { guarded = o; stays = inr (under-waits holds v p k r j s l was under o).under }
    ]

    -- what is out is among nothing that an opening reclaims
    out-not-due : (w : World T) (r : ℕ) → r < length w.time.places → IsWhole w → is_out (standing_at w k) ≡ true → times_among k (reclaims w r) ≡ 0
    out-not-due w r l i out = elim (how holds w r l) [
      | inl n ↦ ap (λ (xs : List LimboEntry). times_among k xs) n.none
      | inr c ↦ ap (λ (xs : List LimboEntry). times_among k xs) c.due ∙ none-due r k holds w i out
    ]

    among-one : (x : LimboEntry) (xs : List LimboEntry) → (b : Bool) → is_of_slot k x ≡ b → (x ≡ Item k) ⊎ (1 ≤ times_among k xs) → 1 ≤ times_among k (x ∷ xs)
    among-one x xs true e h = let all : times_among k (x ∷ xs) ≡ 1 + times_among k xs = count-cons (is_of_slot k) x xs ∙ rw e refl in omega (arith, all)
    among-one x xs false e (inl is) =
        let own : is_of_slot k x ≡ true = rw is (grind (arith, nat_tests)) in let never : true ≡ false = sym own ∙ e in absurd (cc)
    among-one x xs false e (inr h) =
        let all : times_among k (x ∷ xs) ≡ 0 + times_among k xs = count-cons (is_of_slot k) x xs ∙ rw e refl in omega (arith, all, h)

    among-counts : (xs : List LimboEntry) → Contains xs (Item k) → 1 ≤ times_among k xs
    among-counts [] h = absurd (omega (arith, h.1))
    among-counts (x ∷ xs) (zero, l, e) = among-one x xs (is_of_slot k x) refl (inl e)
    among-counts (x ∷ xs) (suc n, l, e) = among-one x xs (is_of_slot k x) refl (inr (among-counts xs (n, omega (arith, l), e)))

    -- what is safe from a guard is not among what an opening reclaims
    pub safe-not-due : (w : World T) (r : ℕ) → r < length w.time.places → IsWhole w → IsSafe w p k → Contains (reclaims w r) (Item k) → ⊥
    safe-not-due w r l i safe h = by safe.stays where
      by : (is_out (standing_at w k) ≡ true) ⊎ IsUnder w p k → ⊥
      by (inl out) = omega (arith, among-counts (reclaims w r) h, out-not-due w r l i out)
      by (inr under) = omega (arith, among-counts (reclaims w r) h, under-not-due holds w p k r l i under)
