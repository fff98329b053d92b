-- Four accelerated guards, one after another, reclaim what waits, and run it
use Rattle.std.proofs.Common.{◌≡◌, ◌≢◌, ◌⊎◌, inl, inr, ℕ, ◌+◌, ◌<◌, ◌≤◌, List, [], ◌∷◌, length, Bool, refl, sym, ap, ◌∙◌, arith, true, false, Some, None, nat_lt, Option, zero, suc, slice_index_or, IsTrue, map, subst}
use Rattle.std.specs.Prelude.{◌==◌, ◌&&◌, ◌||◌, Contains, is_some, not}
use Rattle.std.specs.List.{list_all}
use Rattle.std.proofs.lemmas.List.{get_or-set_same, get_or-set_other, get_or_past, length-set}
use Rattle.std.proofs.lemmas.Bool.Decides.{nat_tests}
use Rattle.sdd_participants.specs.Waiting.{Waiting, having_seen}
use Rattle.sdd_participants.specs.declared.waiting.LimboEntry.{LimboEntry}
use Rattle.sdd_participants.specs.declared.waiting.LimboEntry.TheVariants.{Item, Job}
use Rattle.sdd_participants.specs.EpochState.{EpochState, with_place, nobody, is_open, passes, last_count, due_next, rested, IsLive}
use Rattle.sdd_participants.specs.EpochState as time
use Rattle.sdd_participants.specs.declared.participant.Participant.{Participant}
use Rattle.sdd_world_model.specs.Slots.{is_waiting}
use Rattle.sdd_world_model.specs.World.{AnyGuardOpen, World, standing_at, value_at, place_at, IsPlaceOf}
use Rattle.sdd_world_model.specs.WorldChanges.{opened, closed, accelerated, reclaims}
use Rattle.sdd_world_model.specs.WorldChanges as steps
use Rattle.sdd_world_model.specs.OwnerOrCell.{OwnerOrCell}
use Rattle.sdd_world_model.specs.ParticipantChanges.{opened_at}
use Rattle.sdd_world_model.specs.WorldInvariant.{times_waiting, IsWhole}
use Rattle.sdd_world_model.specs.ReclaimBound.{WaitsWith, IsCleared, accelerated_guard, FourGuardsReclaim}
use Rattle.sdd_world_model.proofs.ParticipantChanges.{opens, Gives-all_reclaimed}
use Rattle.sdd_world_model.proofs.ParticipantChanges as own
use Rattle.sdd_world_model.proofs.WorldInvariant.{below-or-past, filled-there, some-waits, all_awaiting-guards, times_among, times-aged}
use Rattle.sdd_world_model.proofs.PlacesMatchStates.{Whole-opened, Whole-closed, Whole-accelerated, live-is}
use Rattle.sdd_participants.proofs.Adoptions.{adopts, keeps-closed, scans-if, scans-there, same-or-not}
use Rattle.sdd_world_model.proofs.GuardClosed.{how-closed}
use Rattle.sdd_participants.specs.PlaceStates.{is_live, is_ended}
use Rattle.sdd_participants.specs.Slab.{Entries, entry_at}
use Rattle.sdd_participants.specs.declared.place_states.PlaceState.{PlaceState}
use Rattle.sdd_world_model.proofs.GuardOpened.{how, Nests, IsChange, Stands, opened-stays, opened-goes, opened-other, in_before}
use Rattle.sdd_world_model.proofs.WaitingEntries.{waits-standing, waiting-young, entry-due, ripe-due, one-place, nests-waiting, change-waiting}
use Rattle.sdd_world_model.proofs.Jobs.{opened-ran, opened-kept}
use Rattle.sdd_world_model.proofs.UnderGuards.{closed-persists}
use Rattle.sdd_world_model.proofs.AnyGuardOpen.{whichever, open-inside}

-- nobody has a guard open
abbrev pub AllClosed : {T : Type 0} → World T → Type 0
AllClosed w = (q : ℕ) → is_open (place_at w q) ≡ false

shut : (b : Bool) → (IsTrue b → ⊥) → b ≡ false
shut true h = absurd (h refl)
shut false h = refl

-- no guard is open exactly where each participant has none
pub all-closed : {T : Type 0} (w : World T) → (AnyGuardOpen w → ⊥) → AllClosed w
all-closed w h = λ q. shut (is_open (place_at w q)) (λ o. h (open-inside w.time.places q (below-or-past q (length w.time.places)) o))

pub not-guarded : {T : Type 0} (w : World T) → AllClosed w → AnyGuardOpen w → ⊥
not-guarded w h (k, x, l, here, o) =
    let there : IsTrue (is_open (place_at w k)) = subst (λ (z : Participant). IsTrue (is_open z)) (sym here ∙ whichever w.time.places k x nobody l) o in
    let never : false ≡ true = sym (h k) ∙ there in
    absurd (cc)

all-passing : (count : ℕ) (ps : List Participant) → ((p : ℕ) → passes count (slice_index_or ps p nobody) ≡ true) → list_all (passes count) ps ≡ true
all-passing count [] h = refl
all-passing count (x ∷ ps) h = rw (h zero) (all-passing count ps (λ p. h (suc p)))

-- the last guard of p is closed at countdown 0, and its scan raises the count
closed-raises : (t : EpochState) (p : ℕ) → nat_lt 1 (time.place_at t p).guards ≡ false → is_open (time.place_at t p) ≡ true →
    ((time.place_at t p).countdown == 0) ≡ true → ((time.place_at t p).found == t.count) ≡ true →
    (u : EpochState) → u ≡ time.adopted t p → (nat_lt u.count last_count && list_all (passes u.count) u.places) ≡ true →
    time.closed t p ≡ with_place (record u { marked = false; count = u.count + 1 }) p (rested t.marked (time.place_at u p))
closed-raises t p one o c f u u_is all = rw (one, o, c, f, ← u_is, all) refl

passes-same : (count : ℕ) (x y : Participant) → y.found ≡ x.found → y.guards ≡ x.guards → passes count y ≡ passes count x
passes-same count x y f g = rw (f, g) refl

-- the phases are as before, and so the place is live
live-of : (t u : EpochState) (p : ℕ) → u.phases ≡ t.phases → p < length u.places → IsLive t p → IsLive u p
live-of t u p e there l = (there, subst (λ (xs : Entries PlaceState). IsTrue (slice_index_or (map is_live xs) p false)) (sym e) l.1)

-- an outermost opening, as p has it
record IsAlone (count : ℕ) (x : Participant) : Type 0 where
  guards : x.guards ≡ 1
  found : x.found ≡ count

alone-opened : (count : ℕ) (slots : List ℕ) (x : Participant) → is_open x ≡ false → (b : Bool) → (x.found == count) ≡ b →
    IsAlone count (opened_at count slots x)
alone-opened count slots x o true e =
    let none : x.guards ≡ 0 = grind (arith, nat_tests, o) in
    let same : x.found ≡ count = grind (arith, nat_tests, e) in
    rw (o, e) (record { guards = omega (arith, none); found = same })
alone-opened count slots x o false e =
    let none : x.guards ≡ 0 = grind (arith, nat_tests, o) in
    let y : Participant = time.rotated count (time.nested x) in
    rw (o, e) (record { guards = all_awaiting-guards slots y ∙ omega (arith, none); found = own.all_awaiting-found slots y })

or-right : (a b : Bool) → b ≡ true → (a || b) ≡ true
or-right true b e = refl
or-right false b e = e

and-both : (a b : Bool) → a ≡ true → b ≡ true → (a && b) ≡ true
and-both a b e f = rw (e, f) refl

module _ {T : Type 0} (holds : T → List OwnerOrCell) where
  -- what one accelerated guard makes of a world whose guards are all closed
  pub record Raises (w : World T) (p : ℕ) : Type 0 where
    pub count : (accelerated_guard holds w p).time.count ≡ w.time.count + 1
    pub found : (place_at (accelerated_guard holds w p) p).found ≡ w.time.count

  opened-alone : (w : World T) (p : ℕ) → p < length w.time.places → AllClosed w → IsAlone w.time.count (place_at (opened holds w p) p)
  opened-alone w p l shut =
      let o = opens holds w p l (is_open (place_at w p)) refl in
      let a = alone-opened w.time.count o.slots (place_at w p) (shut p) ((place_at w p).found == w.time.count) refl in
      record { guards = ap (λ (x : Participant). x.guards) o.own ∙ a.guards; found = ap (λ (x : Participant). x.found) o.own ∙ a.found }

  -- nobody has no guard open
  opened-range : (w : World T) (p : ℕ) → p < length w.time.places → AllClosed w →
      (p < length (opened holds w p).time.places) ⊎ (length (opened holds w p).time.places ≤ p) → p < length (opened holds w p).time.places
  opened-range w p l shut (inl inside) = inside
  opened-range w p l shut (inr past) =
      let none : (place_at (opened holds w p) p).guards ≡ 0 = ap (λ (x : Participant). x.guards) (get_or_past (opened holds w p).time.places p nobody past) in
      absurd (omega (arith, none, (opened-alone w p l shut).guards))

  opened-place : (w : World T) (p : ℕ) → p < length w.time.places → AllClosed w → p < length (opened holds w p).time.places
  opened-place w p l shut = opened-range w p l shut (below-or-past p (length (opened holds w p).time.places))

  -- after it has been accelerated
  abbrev ready : World T → ℕ → World T
  ready w p = accelerated (opened holds w p) p

  ready-here : (w : World T) (p : ℕ) → p < length w.time.places → AllClosed w → place_at (ready w p) p ≡ time.accelerated (place_at (opened holds w p) p)
  ready-here w p l shut = get_or-set_same (opened holds w p).time.places p (time.accelerated (place_at (opened holds w p) p)) nobody (opened-place w p l shut)

  ready-other : (w : World T) (p q : ℕ) → p < length w.time.places → q ≢ p → place_at (ready w p) q ≡ place_at w q
  ready-other w p q l apart =
      get_or-set_other (opened holds w p).time.places p q (time.accelerated (place_at (opened holds w p) p)) nobody apart ∙ opened-other holds w p l q apart

  ready-passes : (w : World T) (p q : ℕ) → p < length w.time.places → AllClosed w → (q ≡ p) ⊎ (q ≢ p) → passes w.time.count (place_at (ready w p) q) ≡ true
  ready-passes w p q l shut (inl e) =
      let a = opened-alone w p l shut in
      let same : ((place_at (ready w p) p).found == w.time.count) ≡ true = rw (ready-here w p l shut, a.found) (grind (arith, nat_tests)) in
      subst (λ (m : ℕ). passes w.time.count (place_at (ready w p) m) ≡ true) (sym e)
      (or-right (not (is_open (place_at (ready w p) p))) ((place_at (ready w p) p).found == w.time.count) same)
  ready-passes w p q l shut (inr apart) = rw (ready-other w p q l apart, shut q) refl

  ready-count : (w : World T) (p : ℕ) → p < length w.time.places → (ready w p).time.count ≡ w.time.count
  ready-count w p l = (opens holds w p l (is_open (place_at w p)) refl).count

  ready-place : (w : World T) (p : ℕ) → p < length w.time.places → AllClosed w → p < length (ready w p).time.places
  ready-place w p l shut =
      omega (arith, opened-place w p l shut, length-set (opened holds w p).time.places p (time.accelerated (place_at (opened holds w p) p)))

  pub phases-opened : (w : World T) (p : ℕ) → p < length w.time.places → Nests holds w p ⊎ IsChange holds w p →
      (opened holds w p).time.phases ≡ w.time.phases
  phases-opened w p l (inl n) = ap (λ (u : World T). u.time.phases) n.nests
  phases-opened w p l (inr c) =
      let g = Gives-all_reclaimed holds (steps.rotated (steps.nested w p) p) p (due_next (place_at (steps.nested w p) p)) (in_before holds w p l) in
      ap (λ (u : World T). u.time.phases) c.change ∙ ap (λ (t : EpochState). t.phases) g.time

  opened-live : (w : World T) (p : ℕ) → IsPlaceOf w p → AllClosed w → IsPlaceOf (opened holds w p) p
  opened-live w p l shut = live-of w.time (opened holds w p).time p (phases-opened w p l.0 (how holds w p l.0)) (opened-place w p l.0 shut) l

  pub ready-live : (w : World T) (p : ℕ) → IsPlaceOf w p → AllClosed w → IsPlaceOf (ready w p) p
  ready-live w p l shut = live-of w.time (ready w p).time p (phases-opened w p l.0 (how holds w p l.0)) (ready-place w p l.0 shut) l

  pub raises : (w : World T) (p : ℕ) → IsPlaceOf w p → AllClosed w → w.time.count < last_count → Raises w p
  raises w p live shut room =
      let l = live.0 in
      let t = (ready w p).time in
      let u = time.adopted t p in
      let a = adopts t p (ready-live w p live shut) in
      let alone = opened-alone w p l shut in
      let here = ready-here w p l shut in
      let guards : (place_at (ready w p) p).guards ≡ 1 = ap (λ (x : Participant). x.guards) here ∙ alone.guards in
      let found : (place_at (ready w p) p).found ≡ t.count = ap (λ (x : Participant). x.found) here ∙ alone.found ∙ sym (ready-count w p l) in
      let count : u.count ≡ w.time.count = ap (λ (v : EpochState). v.count) a.only ∙ ready-count w p l in
      let all : list_all (passes u.count) u.places ≡ true =
      all-passing u.count u.places (λ q. subst (λ (n : ℕ). passes n (time.place_at u q) ≡ true) (sym count)
      (passes-same w.time.count (time.place_at t q) (time.place_at u q) (a.stays q).found (a.stays q).guards ∙ ready-passes w p q l shut (same-or-not q p))) in
      let low : nat_lt u.count last_count ≡ true = grind (arith, nat_tests, count, room) in
      let is =
      closed-raises t p (rw guards refl) (rw guards refl) (rw here refl) (grind (arith, nat_tests, found)) u refl
      (and-both (nat_lt u.count last_count) (list_all (passes u.count) u.places) low all) in
      let end : Participant = rested t.marked (time.place_at u p) in
      record {
        count = ap (λ (v : EpochState). v.count) is ∙ ap (λ (n : ℕ). n + 1) count;
        found =
            ap (λ (v : EpochState). (time.place_at v p).found) is
            ∙ ap (λ (x : Participant). x.found) (get_or-set_same u.places p end nobody (omega (arith, a.places, ready-place w p l shut)))
            ∙ (a.stays p).found ∙ found ∙ ready-count w p l;
      }

  -- a close at countdown 0 of the last guard, whether its scan raises the count or not
  pub closed-is : (t : EpochState) (p : ℕ) → nat_lt 1 (time.place_at t p).guards ≡ false → is_open (time.place_at t p) ≡ true →
      ((time.place_at t p).countdown == 0) ≡ true →
      time.closed t p ≡ with_place (time.scanned t p) p (rested t.marked (time.place_at (time.scanned t p) p))
  closed-is t p one o c = rw (one, o, c) refl

  -- afterwards no guard is open again
  shut-if : (w : World T) (p q : ℕ) → IsPlaceOf w p → AllClosed w → (q ≡ p) ⊎ (q ≢ p) → is_open (place_at (accelerated_guard holds w p) q) ≡ false
  shut-if w p q live shut (inl e) =
      let t = (ready w p).time in
      let here = ready-here w p live.0 shut in
      let guards : (place_at (ready w p) p).guards ≡ 1 = ap (λ (x : Participant). x.guards) here ∙ (opened-alone w p live.0 shut).guards in
      let s = time.scanned t p in
      let inside = scans-there (ready-place w p live.0 shut) (scans-if t p (ready-live w p live shut) true) in
      subst (λ (m : ℕ). is_open (place_at (accelerated_guard holds w p) m) ≡ false) (sym e)
      (ap (λ (u : EpochState). is_open (time.place_at u p)) (closed-is t p (rw guards refl) (rw guards refl) (rw here refl))
      ∙ ap (λ (x : Participant). is_open x) (get_or-set_same s.places p (rested t.marked (time.place_at s p)) nobody inside))
  shut-if w p q live shut (inr apart) =
      ap (λ (n : ℕ). nat_lt 0 n) ((how-closed (ready w p).time p (ready-live w p live shut)).guards q apart)
      ∙ ap (λ (x : Participant). is_open x) (ready-other w p q live.0 apart) ∙ shut q

  pub still-closed : (w : World T) (p : ℕ) → IsPlaceOf w p → AllClosed w → AllClosed (accelerated_guard holds w p)
  still-closed w p live shut = λ q. shut-if w p q live shut (same-or-not q p)

  pub still-lives : (w : World T) (p : ℕ) → IsPlaceOf w p → AllClosed w → time.lives (accelerated_guard holds w p).time ≡ time.lives w.time
  still-lives w p live shut =
      (keeps-closed (ready w p).time p (ready-live w p live shut)).lives
      ∙ ap (λ (xs : Entries PlaceState). map is_live xs) (phases-opened w p live.0 (how holds w p live.0))

  pub still-place : (w : World T) (p : ℕ) → IsPlaceOf w p → AllClosed w → IsPlaceOf (accelerated_guard holds w p) p
  still-place w p live shut = (
    omega (arith, (keeps-closed (ready w p).time p (ready-live w p live shut)).places, ready-place w p live.0 shut),
    subst (λ (bs : List Bool). IsTrue (slice_index_or bs p false)) (sym (still-lives w p live shut)) live.1,
  )

  pub still-whole : (w : World T) (p : ℕ) → IsPlaceOf w p → AllClosed w → IsWhole w → IsWhole (accelerated_guard holds w p)
  still-whole w p l shut i =
      Whole-closed (ready w p) p (ready-live w p l shut) (Whole-accelerated (opened holds w p) p (opened-live w p l shut) (Whole-opened holds w p l i))

  -- it has gone, or waits with p and has seen at least so many changes
  data HasSeen (w : World T) (p : ℕ) (what : LimboEntry) (least : ℕ) : Type 0 where
    gone : IsCleared w what → HasSeen w p what least
    waits : (seen : ℕ) → least ≤ seen → WaitsWith w p what seen → HasSeen w p what least

  -- an accelerated guard and its opening leave the same waiting, and the same gone
  closed-waits : (w : World T) (p : ℕ) (what : LimboEntry) (seen : ℕ) → IsPlaceOf w p → AllClosed w → WaitsWith (opened holds w p) p what seen →
      WaitsWith (accelerated_guard holds w p) p what seen
  closed-waits w p what seen l shut h =
      let y : Waiting = having_seen seen what in
      let ready_waits : Contains (place_at (ready w p) p).bags.waiting y =
      subst (λ (x : Participant). Contains x.bags.waiting y) (sym (ready-here w p l.0 shut)) h in
      let live = ready-live w p l shut in
      (closed-persists (ready w p).time p p live (ap is_ended (live-is (ready w p).time p live))).waits y ready_waits

  closed-cleared : (w : World T) (p : ℕ) (what : LimboEntry) → IsCleared (opened holds w p) what → IsCleared (accelerated_guard holds w p) what
  closed-cleared w p (Item k) h = h
  closed-cleared w p (Job j) h = h

  -- what does not wait is not due
  never-due : (w : World T) (p k : ℕ) → IsWhole w → is_waiting (standing_at w k) ≡ false → Nests holds w p ⊎ IsChange holds w p →
      times_among k (reclaims w p) ≡ 0
  never-due w p k i idle (inl n) = ap (λ xs. times_among k xs) n.none
  never-due w p k i idle (inr c) =
      let none : times_waiting w k ≡ 0 = i.once k ∙ rw idle refl in
      let due : times_among k (due_next (place_at w p)) ≡ 0 = omega (arith, none, one-place k w.time.places p, times-aged k (place_at w p).bags.waiting) in
      ap (λ xs. times_among k xs) c.due ∙ due

  -- no job is due whose place is free
  never-runs : (w : World T) (p j : ℕ) → p < length w.time.places → IsWhole w → entry_at w.jobs j ≡ None → ¬ (Contains (reclaims w p) (Job j))
  never-runs w p j l i free due =
      let there : is_some (entry_at w.jobs j) ≡ true = (opened-ran holds w p j l i.jobs_once due (how holds w p l)).0 in
      absurd (let never : true ≡ false = sym there ∙ ap (λ (o : Option (Unit {0})). is_some o) free in cc)

  -- what has gone doesn't come back by an opening
  gone-opened : (w : World T) (p : ℕ) (what : LimboEntry) → p < length w.time.places → IsWhole w → IsCleared w what → IsCleared (opened holds w p) what
  gone-opened w p (Item k) l i g =
      let o =
      opened-stays holds w p l k None None refl (never-due w p k i (ap is_waiting g.0) (how holds w p l)) (record { standing = g.0; value = g.1 }) in
      (o.standing, o.value)
  gone-opened w p (Job j) l i g = opened-kept holds w p j l (never-runs w p j l i g) (how holds w p l) ∙ g

  value-there : (w : World T) (k : ℕ) → IsWhole w → is_waiting (standing_at w k) ≡ true → (v : Option T) → value_at w k ≡ v → is_some v ≡ true
  value-there w k i standing v e = ap is_some (sym e) ∙ filled-there w k i.filled ∙ some-waits (standing_at w k) standing

  due-goes : (w : World T) (p k : ℕ) → p < length w.time.places → IsWhole w → is_waiting (standing_at w k) ≡ true → 1 ≤ times_among k (reclaims w p) →
      (v : Option T) → value_at w k ≡ v → is_some v ≡ true → Stands k None None (opened holds w p)
  due-goes w p k l i standing some None e there = absurd (cc)
  due-goes w p k l i standing some (Some v) e there = opened-goes holds w p l k (standing_at w k) v standing some (record { standing = refl; value = e })

  -- what has seen two changes goes at the next one
  ripe-cleared : (w : World T) (p : ℕ) (what : LimboEntry) → p < length w.time.places → IsWhole w → WaitsWith w p what 2 → IsChange holds w p →
      IsCleared (opened holds w p) what
  ripe-cleared w p (Item k) l i h c =
      let some : 1 ≤ times_among k (reclaims w p) =
      subst (λ xs. 1 ≤ times_among k xs) (sym c.due) (entry-due k (place_at w p).bags.waiting h) in
      let standing = waits-standing w p k 2 i h in
      let free = due-goes w p k l i standing some (value_at w k) refl (value-there w k i standing (value_at w k) refl) in
      (free.standing, free.value)
  ripe-cleared w p (Job j) l i h c =
      let among : Contains (reclaims w p) (Job j) =
      subst (λ (xs : List LimboEntry). Contains xs (Job j)) (sym c.due) (ripe-due (Job j) (place_at w p).bags.waiting h) in
      (opened-ran holds w p j l i.jobs_once among (inr c)).1

  nests-why : (w : World T) (p : ℕ) → AllClosed w → (place_at w p).found ≢ w.time.count →
      (is_open (place_at w p) ≡ true) ⊎ ((is_open (place_at w p) ≡ false) × ((place_at w p).found ≡ w.time.count)) → ⊥
  nests-why w p shut another (inl o) = let never : false ≡ true = sym (shut p) ∙ o in absurd (cc)
  nests-why w p shut another (inr h) = another h.1

  -- one accelerated guard: what waits is no younger
  change-grows : (w : World T) (p : ℕ) (what : LimboEntry) (least seen : ℕ) → IsPlaceOf w p → AllClosed w → IsWhole w → least ≤ seen → WaitsWith w p what seen →
      IsChange holds w p → (seen < 2) ⊎ (2 ≤ seen) →
      HasSeen (accelerated_guard holds w p) p what (least + 1)
  change-grows w p what least seen l shut i more h c (inl young) =
      waits (seen + 1) (omega (arith, more)) (closed-waits w p what (seen + 1) l shut (change-waiting holds w p what seen l.0 c young h))
  change-grows w p what least seen l shut i more h c (inr old) =
      let two : seen ≡ 2 = omega (arith, old, waiting-young w p what seen i h) in
      gone (closed-cleared w p what (ripe-cleared w p what l.0 i (subst (λ (n : ℕ). WaitsWith w p what n) two h) c))

  fewer : (w : World T) (p : ℕ) (what : LimboEntry) (least : ℕ) → HasSeen w p what (least + 1) → HasSeen w p what least
  fewer w p what least (gone g) = gone g
  fewer w p what least (waits seen more h) = waits seen (omega (arith, more)) h

  any-grows : (w : World T) (p : ℕ) (what : LimboEntry) (least seen : ℕ) → IsPlaceOf w p → AllClosed w → IsWhole w → least ≤ seen → WaitsWith w p what seen →
      Nests holds w p ⊎ IsChange holds w p → HasSeen (accelerated_guard holds w p) p what least
  any-grows w p what least seen l shut i more h (inl n) =
      waits seen more (closed-waits w p what seen l shut (nests-waiting holds w p what seen l.0 n h))
  any-grows w p what least seen l shut i more h (inr c) =
      fewer (accelerated_guard holds w p) p what least (change-grows w p what least seen l shut i more h c (below-or-past seen 2))

  -- where p finds another count, its opening is a change
  must-change : (w : World T) (p : ℕ) → AllClosed w → (place_at w p).found ≢ w.time.count → Nests holds w p ⊎ IsChange holds w p → IsChange holds w p
  must-change w p shut another (inr c) = c
  must-change w p shut another (inl n) = absurd (nests-why w p shut another n.why)

  after-one : (w : World T) (p : ℕ) (what : LimboEntry) (least : ℕ) → IsPlaceOf w p → AllClosed w → IsWhole w → HasSeen w p what least →
      HasSeen (accelerated_guard holds w p) p what least
  after-one w p what least l shut i (gone g) = gone (closed-cleared w p what (gone-opened w p what l.0 i g))
  after-one w p what least l shut i (waits seen more h) = any-grows w p what least seen l shut i more h (how holds w p l.0)

  after-change : (w : World T) (p : ℕ) (what : LimboEntry) (least : ℕ) → IsPlaceOf w p → AllClosed w → IsWhole w → (place_at w p).found ≢ w.time.count →
      HasSeen w p what least → HasSeen (accelerated_guard holds w p) p what (least + 1)
  after-change w p what least l shut i another (gone g) = gone (closed-cleared w p what (gone-opened w p what l.0 i g))
  after-change w p what least l shut i another (waits seen more h) =
      change-grows w p what least seen l shut i more h (must-change w p shut another (how holds w p l.0)) (below-or-past seen 2)

  -- what has seen three changes is gone
  gone-by-then : (w : World T) (p : ℕ) (what : LimboEntry) → IsWhole w → HasSeen w p what 3 → IsCleared w what
  gone-by-then w p what i (gone g) = g
  gone-by-then w p what i (waits seen more h) = absurd (omega (arith, more, waiting-young w p what seen i h))

  pub four-guards : (w : World T) → IsWhole w → FourGuardsReclaim holds w
  four-guards w i = λ p what seen l quiet room h.
      let g : World T → World T = λ u. accelerated_guard holds u p in
      let shut = all-closed w quiet in
      let l1 = still-place w p l shut in let s1 = still-closed w p l shut in let i1 = still-whole w p l shut i in
      let l2 = still-place (g w) p l1 s1 in let s2 = still-closed (g w) p l1 s1 in let i2 = still-whole (g w) p l1 s1 i1 in
      let l3 = still-place (g (g w)) p l2 s2 in let s3 = still-closed (g (g w)) p l2 s2 in let i3 = still-whole (g (g w)) p l2 s2 i2 in
      let i4 = still-whole (g (g (g w))) p l3 s3 i3 in
      let r1 = raises w p l shut (omega (arith, room)) in
      let r2 = raises (g w) p l1 s1 (omega (arith, room, r1.count)) in
      let r3 = raises (g (g w)) p l2 s2 (omega (arith, room, r1.count, r2.count)) in
      let h1 : HasSeen (g w) p what 0 = after-one w p what 0 l shut i (waits seen (omega arith) h) in
      let h2 : HasSeen (g (g w)) p what 1 = after-change (g w) p what 0 l1 s1 i1 (λ e. absurd (omega (arith, e, r1.found, r1.count))) h1 in
      let h3 : HasSeen (g (g (g w))) p what 2 = after-change (g (g w)) p what 1 l2 s2 i2 (λ e. absurd (omega (arith, e, r2.found, r2.count))) h2 in
      let h4 : HasSeen (g (g (g (g w)))) p what 3 = after-change (g (g (g w))) p what 2 l3 s3 i3 (λ e. absurd (omega (arith, e, r3.found, r3.count))) h3 in
      gone-by-then (g (g (g (g w)))) p what i4 h4
