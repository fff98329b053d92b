-- A job that is deferred while a guard is open waits while it is, and no opening runs it
use Rattle.std.proofs.Common.{◌≡◌, ◌≢◌, ◌⊎◌, inl, inr, ℕ, ◌+◌, ◌<◌, ◌≤◌, List, [], length, count_by, refl, sym, ap, ◌∙◌, arith, true, false, Some, IsTrue, subst}
use Rattle.std.specs.Prelude.{◌-◌, Contains, is_some, min}
use Rattle.std.proofs.lemmas.List.{get_or-set_same, get_or-set_other}
use Rattle.std.proofs.lemmas.List.Elements.{Contains-push}
use Rattle.std.proofs.lemmas.Bool.Decides.{nat_tests}
use Rattle.sdd_participants.specs.Waiting.{Waiting, aged, fresh, having_seen, left}
use Rattle.sdd_participants.specs.declared.waiting.LimboEntry.{LimboEntry}
use Rattle.sdd_participants.specs.declared.waiting.LimboEntry.TheVariants.{Item, Job}
use Rattle.sdd_participants.specs.EpochState.{EpochState, with_place, nobody, due_next, is_open, phase_at}
use Rattle.sdd_participants.specs.PlaceStates.{is_ended}
use Rattle.sdd_participants.specs.EpochState as time
use Rattle.sdd_participants.specs.Slab.{entry_at}
use Rattle.sdd_participants.specs.declared.participant.Participant.{Participant}
use Rattle.sdd_participants.specs.declared.standing.Standing.TheVariants.{Owned, Raw, Shared}
use Rattle.sdd_participants.proofs.Adoptions.{same-or-not}
use Rattle.sdd_world_model.specs.World.{World, place_at, IsPlaceOf}
use Rattle.sdd_world_model.specs.WorldChanges.{accelerated, cell_closed, closed, deferred, made_as, opened, owner_given, reclaims, registered, retired, stirred, with_standing}
use Rattle.sdd_world_model.specs.Collecting.{collected}
use Rattle.sdd_world_model.specs.OwnerOrCell.{OwnerOrCell}
use Rattle.sdd_world_model.specs.ParticipantChanges.{all_awaiting}
use Rattle.sdd_world_model.specs.WorldInvariant.{IsWhole, is_of_job, jobs_with}
use Rattle.sdd_world_model.specs.ReclaimBound.{WaitsWith}
use Rattle.sdd_world_model.specs.UnderGuards.{more, IsHeldBack, JobStaysUnder, CallsUnder, KeepsJobsUnderGuards, KeepsFreshJobsUnderGuards}
use Rattle.sdd_world_model.specs.UnderGuards.CallsUnder.{none, more_calls}
use Rattle.sdd_world_model.specs.WorldStep.{WorldStep}
use Rattle.sdd_world_model.specs.WorldStep.WorldStep.{registers, ends, opens, closes, stirs, accelerates, makes, shares, retires, releases, defers, collects, closes_collector, edits, drops, puts_out_raw, takes_back_raw, changes_cells, closes_cell, changes_pointers}
use Rattle.sdd_world_model.proofs.ParticipantChanges.{Gives, Gives-owner_given, Gives-cell_closed}
use Rattle.sdd_world_model.proofs.ParticipantChanges as own
use Rattle.sdd_world_model.proofs.AnyGuardOpen.{guarded}
use Rattle.sdd_world_model.proofs.PlacesMatchStates.{Whole-deferred, live-taken, registered-keeps, waiting-taken, guard-taken}
use Rattle.sdd_world_model.proofs.GuardClosed.{how-closed}
use Rattle.sdd_world_model.proofs.TimesListed.{among-counts, listed-aged, listed-counts, listed-one, listed-two}
use Rattle.sdd_world_model.proofs.GuardOpened.{how, Nests, IsChange, opened-other, still-waits}
use Rattle.sdd_world_model.proofs.WaitingEntries.{change-waiting, older-left, once-bound, once-waits, waiting-place}
use Rattle.sdd_world_model.proofs.UnderGuards.{Persists, Persists-same, persists-place, persists-given, nests-persists}
use Rattle.sdd_world_model.proofs.ReclaimBound.{Whole-called}

own-test : (j : ℕ) → is_of_job j (Job j) ≡ true
own-test j = grind (arith, nat_tests)

module _ {T : Type 0} (w : World T) (q j seen : ℕ) (i : IsWhole w) (h : WaitsWith w q (Job j) seen) where
  counts : 1 ≤ jobs_with j (place_at w q)
  counts = listed-counts (is_of_job j) (Job j) (own-test j) seen (place_at w q).bags.waiting h

  -- the place of a job that waits is taken
  job-there : is_some (entry_at w.jobs j) ≡ true
  job-there = once-waits (is_some (entry_at w.jobs j)) (omega (arith, i.jobs_once j, counts, listed-one (is_of_job j) w.time.places q))

  -- what another participant has due is not this job
  other-due : (p : ℕ) → p ≢ q → count_by (is_of_job j) (due_next (place_at w p)) ≡ 0
  other-due p apart =
      let both = listed-two (is_of_job j) w.time.places p q apart (waiting-place w q (Job j) seen h) in
      omega (arith, both, counts, i.jobs_once j, once-bound (is_some (entry_at w.jobs j)), listed-aged (is_of_job j) (place_at w p).bags.waiting)

  -- nor is it due while it is younger
  young-due : seen < 2 → count_by (is_of_job j) (due_next (place_at w q)) ≡ 0
  young-due young =
      let ws = (place_at w q).bags.waiting in
      let still = listed-counts (is_of_job j) (Job j) (own-test j) (seen + 1) (left (aged ws)) (older-left (Job j) seen ws young h) in
      omega (arith, still, i.jobs_once j, once-bound (is_some (entry_at w.jobs j)), listed-aged (is_of_job j) ws, listed-one (is_of_job j) w.time.places q)

persists-awaiting : (something : LimboEntry) (x : Participant) → Persists x (time.awaiting something x)
persists-awaiting something x = record { found = refl; waits = still-waits something x }

module _ {T : Type 0} where
  -- it goes on waiting with its holder, and no change is made
  moves : (v w : World T) (p : ℕ) (what : LimboEntry) → (u : IsHeldBack v p what) → IsTrue (is_open (place_at w p)) →
      Persists (place_at v p) (place_at w p) → Persists (place_at v u.holder) (place_at w u.holder) → IsHeldBack w p what
  moves v w p what u o on_p on_q =
      let same : more w p u.holder ≡ more v p u.holder =
      ap (λ (n : ℕ). min 2 (n + 1 - (place_at w u.holder).found)) on_p.found ∙ ap (λ (n : ℕ). min 2 ((place_at v p).found + 1 - n)) on_q.found in
      record {
        guarded = o;
        holder = u.holder;
        seen = u.seen;
        waits = on_q.waits (having_seen u.seen what) u.waits;
        safe = omega (arith, u.safe, same);
      }

  -- one place changes, and goes on as it was
  held-place : (v w : World T) (p : ℕ) (what : LimboEntry) (r : ℕ) (x : Participant) → r < length v.time.places → w.time ≡ with_place v.time r x →
      Persists (place_at v r) x → (u : IsHeldBack v p what) → IsTrue (is_open (place_at w p)) → IsHeldBack w p what
  held-place v w p what r x l e on u o =
      let at : (q : ℕ) → Persists (place_at v q) (place_at w q) =
      λ q. subst (λ (t : EpochState). Persists (place_at v q) (time.place_at t q)) (sym e) (persists-place v.time r q x l on) in
      moves v w p what u o (at p) (at u.holder)

  -- no place changes
  held-still : (v w : World T) (p : ℕ) (what : LimboEntry) → w.time ≡ v.time → (u : IsHeldBack v p what) → IsTrue (is_open (place_at w p)) → IsHeldBack w p what
  held-still v w p what e u o =
      let at : (q : ℕ) → Persists (place_at v q) (place_at w q) =
      λ q. Persists-same (place_at v q) (place_at w q) (ap (λ (t : EpochState). time.place_at t q) e) in
      moves v w p what u o (at p) (at u.holder)

  module _ (holds : T → List OwnerOrCell) where
    -- items are given up to a place
    held-gives : (v w : World T) (p : ℕ) (what : LimboEntry) (r : ℕ) → r < length v.time.places → Gives r v w → (u : IsHeldBack v p what) →
        IsTrue (is_open (place_at w p)) → IsHeldBack w p what
    held-gives v w p what r l g u o =
        held-place v w p what r (all_awaiting g.slots (place_at v r)) l g.time (persists-given holds g.slots (place_at v r)) u o

    -- a close: it goes on to wait with its holder, or waits anew with who adopted it
    held-closes : (v : World T) (p : ℕ) (what : LimboEntry) (r : ℕ) → IsPlaceOf v r → IsTrue (is_open (place_at (closed v r) p)) → (u : IsHeldBack v p what) →
        WaitsWith (closed v r) u.holder what u.seen ⊎ ((is_ended (phase_at v.time u.holder) ≡ true) × WaitsWith (closed v r) r what 0) →
        IsHeldBack (closed v r) p what
    held-closes v p what r l o u (inl h) =
        let c = how-closed v.time r l in
        let same : more (closed v r) p u.holder ≡ more v p u.holder =
        ap (λ (n : ℕ). min 2 (n + 1 - (place_at (closed v r) u.holder).found)) (c.found p)
        ∙ ap (λ (n : ℕ). min 2 ((place_at v p).found + 1 - n)) (c.found u.holder) in
        record { guarded = o; holder = u.holder; seen = u.seen; waits = h; safe = omega (arith, u.safe, same) }
    held-closes v p what r l o u (inr h) = record { guarded = o; holder = r; seen = 0; waits = h.1; safe = omega arith }

    -- the holder makes a change: that was one of those that it could make
    holder-young : (w : World T) (p : ℕ) (what : LimboEntry) → (u : IsHeldBack w p what) → IsWhole w → IsChange holds w u.holder → u.seen < 2
    holder-young w p what u i c =
        omega (arith, u.safe, (i.abreast p).near u.guarded, (i.abreast p).found, (i.abreast u.holder).found, c.another)

    holder-changes : (w : World T) (p : ℕ) (what : LimboEntry) → (u : IsHeldBack w p what) → IsWhole w → (c : IsChange holds w u.holder) →
        u.holder < length w.time.places → p ≢ u.holder → IsTrue (is_open (place_at (opened holds w u.holder) p)) → IsHeldBack (opened holds w u.holder) p what
    holder-changes w p what u i c l apart o =
        let q = u.holder in
        let new = opened holds w q in
        let a = i.abreast p in
        let young : u.seen < 2 = holder-young w p what u i c in
        let found : (place_at new q).found ≡ w.time.count =
        (own.opens holds w q l (is_open (place_at w q)) refl).found (λ o. let never : false ≡ true = sym c.closed_before ∙ o in absurd (cc)) in
        let before : (place_at new p).found ≡ (place_at w p).found = ap (λ (x : Participant). x.found) (opened-other holds w q l p apart) in
        record {
          guarded = o;
          holder = q;
          seen = u.seen + 1;
          waits = change-waiting holds w q what u.seen l c young u.waits;
          safe = omega (arith, u.safe, a.near u.guarded, a.found, (i.abreast q).found, c.another, found, before);
        }

    held-changes : (w : World T) (p : ℕ) (what : LimboEntry) (r : ℕ) → r < length w.time.places → IsWhole w → (u : IsHeldBack w p what) → IsChange holds w r →
        p ≢ r → IsTrue (is_open (place_at (opened holds w r) p)) → (r ≡ u.holder) ⊎ (r ≢ u.holder) → IsHeldBack (opened holds w r) p what
    held-changes w p what r l i u c apart o (inr other) =
        moves w (opened holds w r) p what u o (Persists-same (place_at w p) (place_at (opened holds w r) p) (opened-other holds w r l p apart))
        (Persists-same (place_at w u.holder) (place_at (opened holds w r) u.holder) (opened-other holds w r l u.holder (λ e. other (sym e))))
    held-changes w p what r l i u c apart o (inl e) =
        subst (λ (m : ℕ). IsHeldBack (opened holds w m) p what) (sym e)
        (holder-changes w p what u i (subst (λ (m : ℕ). IsChange holds w m) e c) (subst (λ (m : ℕ). m < length w.time.places) e l)
        (λ same. apart (same ∙ sym e)) (subst (λ (m : ℕ). IsTrue (is_open (place_at (opened holds w m) p))) e o))

    -- who has a guard open makes no change
    not-guarding : (w : World T) (p r : ℕ) → IsTrue (is_open (place_at w p)) → IsChange holds w r → p ≢ r
    not-guarding w p r o c e = let never : false ≡ true = sym c.closed_before ∙ subst (λ (m : ℕ). IsTrue (is_open (place_at w m))) e o in absurd (cc)

    held-opens : (w : World T) (p : ℕ) (what : LimboEntry) (r : ℕ) → r < length w.time.places → IsWhole w → (u : IsHeldBack w p what) →
        IsTrue (is_open (place_at (opened holds w r) p)) → Nests holds w r ⊎ IsChange holds w r → IsHeldBack (opened holds w r) p what
    held-opens w p what r l i u o (inl n) =
        moves w (opened holds w r) p what u o (nests-persists holds w r p l n) (nests-persists holds w r u.holder l n)
    held-opens w p what r l i u o (inr c) = held-changes w p what r l i u c (not-guarding w p r u.guarded c) o (same-or-not r u.holder)

    -- each call leaves it held back where the guard is open afterwards
    held-call : (p : ℕ) (what : LimboEntry) {v w : World T} → WorldStep holds v w → IsWhole v → IsHeldBack v p what → IsTrue (is_open (place_at w p)) →
        IsHeldBack w p what
    held-call p what (registers v r vacant) i u o =
        moves v (registered v r) p what u o
        (Persists-same (place_at v p) (place_at (registered v r) p) (registered-keeps v.time r p (guard-taken v p i u.guarded) vacant))
        (Persists-same (place_at v u.holder) (place_at (registered v r) u.holder)
        (registered-keeps v.time r u.holder (waiting-taken v u.holder what u.seen i u.waits) vacant))
    held-call p what (ends v r l shut) i u o =
        record { guarded = o; holder = u.holder; seen = u.seen; waits = u.waits; safe = omega (arith, u.safe) }
    held-call p what (opens v r l) i u o = held-opens v p what r l.0 i u o (how holds v r l.0)
    held-call p what (closes v r l) i u o =
        held-closes v p what r l o u ((how-closed v.time r l).waits u.holder (having_seen u.seen what) u.waits)
    held-call p what (stirs v r l) i u o =
        held-place v (stirred v r) p what r (time.with_garbage (place_at v r)) l.0 refl (record { found = refl; waits = λ y h. h }) u o
    held-call p what (accelerates v r l) i u o =
        held-place v (accelerated v r) p what r (time.accelerated (place_at v r)) l.0 refl (record { found = refl; waits = λ y h. h }) u o
    held-call p what (makes v j value s first empty) i u o = held-still v (made_as v j value s) p what refl u o
    held-call p what (shares v j n is) i u o = held-still v (with_standing v j (Shared (n + 1))) p what refl u o
    held-call p what (retires v r j l there) i u o =
        held-place v (retired v r j) p what r (time.awaiting (Item j) (place_at v r)) l.0 refl (persists-awaiting (Item j) (place_at v r)) u o
    held-call p what (releases v r j n l is) i u o =
        held-gives v (owner_given v r j (Some (Shared n))) p what r l.0 (Gives-owner_given v r j (Some (Shared n)) is) u o
    held-call p what (defers v r j l free) i u o =
        held-place v (deferred v r j) p what r (time.awaiting (Job j) (place_at v r)) l.0 refl (persists-awaiting (Job j) (place_at v r)) u o
    held-call p what (collects v r c j l alone) i u o =
        held-place v (collected v r c j) p what r (time.awaiting (Item j) (place_at v r)) l.0 refl (persists-awaiting (Item j) (place_at v r)) u o
    held-call p what (closes_collector v r c l quiet) i u o = absurd (quiet (guarded v p u.guarded))
    held-call p what (edits v j value may) i u o = absurd (may.quiet (guarded v p u.guarded))
    held-call p what (drops v r j l may) i u o = absurd (may.quiet (guarded v p u.guarded))
    held-call p what (puts_out_raw v j is) i u o = held-still v (with_standing v j Raw) p what refl u o
    held-call p what (takes_back_raw v j is) i u o = held-still v (with_standing v j Owned) p what refl u o
    held-call p what (changes_cells v cells same) i u o = held-still v (record v { cells = cells }) p what refl u o
    held-call p what (closes_cell v r c l) i u o = held-gives v (cell_closed v r c) p what r l.0 (Gives-cell_closed v r c l.0) u o
    held-call p what (changes_pointers v pointers same) i u o = held-still v (record v { pointers = pointers }) p what refl u o

    held-calls : (p : ℕ) (what : LimboEntry) {v w : World T} → CallsUnder holds p v w → IsWhole v → IsHeldBack v p what → IsWhole w × IsHeldBack w p what
    held-calls p what (none v o) i u = (i, u)
    held-calls p what (more_calls u v w path call o) i held =
        let there = held-calls p what path i held in (Whole-called holds call there.0, held-call p what call there.0 there.1 o)

    -- no opening runs a job that is held back
    none-due : (w : World T) (p j r : ℕ) → IsWhole w → (u : IsHeldBack w p (Job j)) → IsChange holds w r → (r ≡ u.holder) ⊎ (r ≢ u.holder) →
        count_by (is_of_job j) (due_next (place_at w r)) ≡ 0
    none-due w p j r i u c (inr apart) = other-due w u.holder j u.seen i u.waits r apart
    none-due w p j r i u c (inl e) =
        ap (λ (m : ℕ). count_by (is_of_job j) (due_next (place_at w m))) e
        ∙ young-due w u.holder j u.seen i u.waits (holder-young w p (Job j) u i (subst (λ (m : ℕ). IsChange holds w m) e c))

    not-due-if : (w : World T) (p j r : ℕ) → IsWhole w → (u : IsHeldBack w p (Job j)) → Nests holds w r ⊎ IsChange holds w r →
        ¬ (Contains (reclaims w r) (Job j))
    not-due-if w p j r i u (inl n) h =
        let nothing : Contains [] (Job j) = subst (λ (xs : List LimboEntry). Contains xs (Job j)) n.none h in absurd (omega (arith, nothing.1))
    not-due-if w p j r i u (inr c) h =
        let some = among-counts (is_of_job j) (Job j) (own-test j) (due_next (place_at w r)) (subst (λ (xs : List LimboEntry). Contains xs (Job j)) c.due h) in
        absurd (omega (arith, some, none-due w p j r i u c (same-or-not r u.holder)))

    stays : (w : World T) (p j : ℕ) → IsWhole w → IsHeldBack w p (Job j) → JobStaysUnder w p j
    stays w p j i u = record {
      under = u;
      there = job-there w u.holder j u.seen i u.waits;
      not_due = λ r l. not-due-if w p j r i u (how holds w r l.0);
    }

    fresh-held : (w : World T) (p q : ℕ) (what : LimboEntry) → IsTrue (is_open (place_at w p)) → WaitsWith w q what 0 → IsHeldBack w p what
    fresh-held w p q what o h = record { guarded = o; holder = q; seen = 0; waits = h; safe = omega arith }

    pub keeps-fresh-jobs-under-guards : (w : World T) → IsWhole w → KeepsFreshJobsUnderGuards holds w
    keeps-fresh-jobs-under-guards w i = λ p q j o h new path.
        let end = held-calls p (Job j) path i (fresh-held w p q (Job j) o h) in stays new p j end.0 end.1

    deferred-open : (w : World T) (p q j : ℕ) → q < length w.time.places → IsTrue (is_open (place_at w p)) → (p ≡ q) ⊎ (p ≢ q) →
        IsTrue (is_open (place_at (deferred w q j) p))
    deferred-open w p q j l o (inl e) =
        let x : Participant = time.awaiting (Job j) (place_at w q) in
        let here : place_at (deferred w q j) q ≡ x = get_or-set_same w.time.places q x nobody l in
        subst (λ (m : ℕ). IsTrue (is_open (place_at (deferred w q j) m))) (sym e)
        (subst (λ (z : Participant). IsTrue (is_open z)) (sym here) (subst (λ (m : ℕ). IsTrue (is_open (place_at w m))) e o))
    deferred-open w p q j l o (inr apart) =
        subst (λ (z : Participant). IsTrue (is_open z)) (sym (get_or-set_other w.time.places q p (time.awaiting (Job j) (place_at w q)) nobody apart)) o

    deferred-waits : (w : World T) (q j : ℕ) → q < length w.time.places → WaitsWith (deferred w q j) q (Job j) 0
    deferred-waits w q j l =
        let x : Participant = time.awaiting (Job j) (place_at w q) in
        let here : place_at (deferred w q j) q ≡ x = get_or-set_same w.time.places q x nobody l in
        subst (λ (z : Participant). Contains z.bags.waiting (having_seen 0 (Job j))) (sym here) (Contains-push (place_at w q).bags.waiting (fresh (Job j)))

    pub keeps-jobs-under-guards : (w : World T) → IsWhole w → KeepsJobsUnderGuards holds w
    keeps-jobs-under-guards w i = λ p q j o l free new path.
        keeps-fresh-jobs-under-guards (deferred w q j) (Whole-deferred w q j (live-taken w.time q l) free i) p q j
        (deferred-open w p q j l.0 o (same-or-not p q)) (deferred-waits w q j l.0) new path
