-- How the wait of an item wanes, by any measure of what is left of it
use Rattle.std.proofs.Common.{◌≡◌, ◌≢◌, ◌⊎◌, inl, inr, ℕ, ◌+◌, ◌<◌, ◌≤◌, List, [], ◌∷◌, length, Bool, refl, sym, ap, ◌∙◌, arith, true, false, Some, None, nat_lt, Option, zero, suc, slice_index_or, IsTrue, subst}
use Rattle.std.specs.Prelude.{◌-◌, ◌==◌, ◌&&◌, Contains, is_some, if◌then◌else◌}
use Rattle.std.specs.List.{list_all}
use Rattle.std.proofs.lemmas.List.{length-map, get_or-set_same, get_or-set_other}
use Rattle.std.proofs.lemmas.Bool.Decides.{nat_tests}
use Rattle.sdd_participants.specs.Waiting.{Waiting, having_seen}
use Rattle.sdd_participants.specs.declared.waiting.LimboEntry.TheVariants.{Item, Job}
use Rattle.sdd_participants.specs.EpochState.{EpochState, with_place, nobody, is_open, passes, last_count, counted_down, phase_at, rested}
use Rattle.sdd_participants.specs.EpochState as time
use Rattle.sdd_participants.specs.declared.participant.Participant.{Participant}
use Rattle.sdd_participants.specs.declared.standing.Standing.TheVariants.{Owned, Raw, Shared, Private as privately}
use Rattle.sdd_participants.specs.Collecting.{without}
use Rattle.sdd_world_model.specs.Collecting.{collected, collector_closed, is_for, waiting_for, without_collector}
use Rattle.std.proofs.Math.ListN.{get_or-map}
use Rattle.sdd_world_model.specs.World.{World, standing_at, value_at, place_at, IsPlaceOf}
use Rattle.sdd_world_model.specs.WorldChanges.{made_as, with_standing, with_value, dropped, retired, owner_given, cell_closed, deferred, opened, closed, registered, ended, reclaims}
use Rattle.sdd_world_model.specs.OwnerOrCell.{OwnerOrCell}
use Rattle.sdd_world_model.specs.ParticipantChanges.{all_awaiting}
use Rattle.sdd_world_model.specs.WorldInvariant.{IsWhole}
use Rattle.sdd_world_model.proofs.TimesListed.{rest-contains}
use Rattle.sdd_world_model.proofs.Collecting.{goes}
use Rattle.sdd_world_model.specs.Out.{is_out}
use Rattle.sdd_world_model.proofs.Jobs.{opened-ran}
use Rattle.sdd_participants.specs.declared.waiting.LimboEntry.{LimboEntry}
use Rattle.sdd_world_model.specs.ReclaimBound.{Waits, WaitsWith, IsGone, IsHeldUp}
use Rattle.sdd_world_model.specs.WorldStep.{WorldStep}
use Rattle.sdd_world_model.specs.WorldStep.WorldStep.{registers, ends, opens, closes, stirs, accelerates, makes, shares, retires, releases, defers, collects, closes_collector, edits, drops, puts_out_raw, takes_back_raw, changes_cells, closes_cell, changes_pointers}
use Rattle.sdd_world_model.proofs.ParticipantChanges.{Gives, Gives-all_reclaimed, Gives-owner_given, Gives-cell_closed, Gives-dropped, all_awaiting-found}
use Rattle.sdd_world_model.proofs.ParticipantChanges as own
use Rattle.sdd_world_model.proofs.Standings.{alone-out}
use Rattle.sdd_world_model.proofs.WorldInvariant.{HasItems, Items-opened, below-or-past, times_among, filled-there, all_awaiting-guards, some-waits}
use Rattle.sdd_world_model.proofs.PlacesMatchStates.{Whole-opened, Whole-closed, Whole-stirred, Whole-accelerated, Whole-made_as, Whole-shared, Whole-restands, Whole-retires, Whole-waits, Whole-collector_closed, Whole-deferred, Whole-owner_given, Whole-cells, Whole-pointers, Whole-cell_closed, Whole-with_value, Whole-dropped, Whole-registered, Whole-ended, items, live-is, live-taken, registered-keeps}
use Rattle.sdd_world_model.proofs.GuardClosed.{how-closed}
use Rattle.sdd_participants.proofs.Adoptions.{Adopts, adopts, same-or-not, scans-if, scans-there}
use Rattle.sdd_participants.specs.PlaceStates.{is_ended}
use Rattle.sdd_world_model.proofs.GuardOpened.{how, Nests, IsChange, opened-goes, opened-other, all_awaiting-waiting, still-waits}
use Rattle.sdd_world_model.proofs.WaitingEntries.{ripe-due, nests-waiting, change-waiting, waiting-young, waits-standing, entry-due, differs, opens-changed}
use Rattle.sdd_world_model.proofs.UnderGuards.{closed-persists}

-- the last guard is closed, and so much is to be counted down
abbrev pub resting : ℕ → Participant → Participant
resting countdown x = record x { guards = 0; countdown = countdown }

-- what is left to an item that waits with this participant at this count and has seen so many changes;
-- and at which countdowns a close of the last guard may leave more
pub record Measure (Idles : ℕ → Type 0) : Type 0 where
  pub remains : (count : ℕ) → Participant → (seen : ℕ) → ℕ
  pub some : (count seen : ℕ) (x : Participant) → 1 ≤ remains count x seen
  -- the same count is found, and there is no more to count down
  pub slower : (count seen : ℕ) (x y : Participant) → y.found ≡ x.found → is_open y ≡ is_open x → y.countdown ≤ x.countdown →
      remains count y seen ≤ remains count x seen
  pub later : (count seen : ℕ) (x : Participant) → x.found ≤ count → remains (count + 1) x seen ≤ remains count x seen
  -- an outermost opening: at the count found last, at another one, and at the last change
  pub nests : (count seen : ℕ) (x : Participant) → x.found ≡ count → is_open x ≡ false → remains count (time.nested x) seen + 1 ≤ remains count x seen
  pub changes : (count seen : ℕ) (x y : Participant) → x.found ≢ count → y.found ≡ count → is_open y ≡ true → y.countdown ≤ 127 → seen < 2 →
      remains count y (seen + 1) + 1 ≤ remains count x seen
  pub last : (count : ℕ) (x : Participant) → x.found ≢ count → remains count x 2 ≡ 1
  -- a close of the last guard: without a scan, where another count is to be found, and where its scan raised the count
  pub counts_down : (count seen : ℕ) (x : Participant) → x.found ≡ count → is_open x ≡ true → x.countdown ≢ 0 →
      (remains count (resting (x.countdown - 1) x) seen ≤ remains count x seen) ⊎ Idles x.countdown
  pub elsewhere : (count seen countdown : ℕ) (x : Participant) → x.found ≢ count → remains count (resting countdown x) seen ≤ remains count x seen
  pub raised : (count seen countdown : ℕ) (x : Participant) → x.found ≡ count → remains (count + 1) (resting countdown x) seen ≤ remains count x seen

-- a close of q's last guard that may leave more: no other count is there to be found, and it doesn't scan, or its scan is held up
pub record IsIdleClose {T : Type 0} (Idles : ℕ → Type 0) (w new : World T) (q : ℕ) : Type 0 where
  pub closes : new ≡ closed w q
  pub why : Idles (place_at w q).countdown ⊎ IsHeldUp w q
  pub found : (place_at w q).found ≡ w.time.count
  pub was_open : is_open (place_at w q) ≡ true
  pub shut : is_open (place_at new q) ≡ false

-- there is no more to count down once there is garbage
stirred-lower-if : (d : ℕ) (b : Bool) → (d == 128) ≡ b → time.stirred d ≤ d
stirred-lower-if d true e = let full : d ≡ 128 = grind (arith, nat_tests, e) in rw e (omega (arith, full))
stirred-lower-if d false e = rw e (omega arith)

stirred-lower : (d : ℕ) → time.stirred d ≤ d
stirred-lower d = stirred-lower-if d (d == 128) refl

all_awaiting-countdown : (ks : List ℕ) (x : Participant) → (all_awaiting ks x).countdown ≤ x.countdown
all_awaiting-countdown [] x = omega arith
all_awaiting-countdown (k ∷ ks) x = omega (arith, all_awaiting-countdown ks (time.awaiting (Item k) x), stirred-lower x.countdown)

-- who stops a scan that fails
abbrev Stops : ℕ → List Participant → Type 0
Stops count ps = (p : ℕ) × (passes count (slice_index_or ps p nobody) ≡ false)

and-fails : (a b : Bool) → (a && b) ≡ false → (a ≡ false) ⊎ (b ≡ false)
and-fails true b e = inr e
and-fails false b e = inl refl

stops-or : (count : ℕ) (x : Participant) (ps : List Participant) → (passes count x ≡ false) ⊎ (list_all (passes count) ps ≡ false) →
    (list_all (passes count) ps ≡ false → Stops count ps) → Stops count (x ∷ ps)
stops-or count x ps (inl e) on = (zero, e)
stops-or count x ps (inr e) on = let there = on e in (suc there.0, there.1)

stops : (count : ℕ) (ps : List Participant) → list_all (passes count) ps ≡ false → Stops count ps
stops count [] e = absurd (cc)
stops count (x ∷ ps) e = stops-or count x ps (and-fails (passes count x) (list_all (passes count) ps) e) (λ h. stops count ps h)

stopped-if : (count : ℕ) (x : Participant) (o b : Bool) → is_open x ≡ o → (x.found == count) ≡ b → passes count x ≡ false →
    (is_open x ≡ true) × (x.found ≢ count)
stopped-if count x true false o e h = (o, λ same. absurd (grind (arith, nat_tests, e, same)))
stopped-if count x true true o e h = let never : true ≡ false = rw (o, e) at h in absurd (cc)
stopped-if count x false b o e h = let never : true ≡ false = rw o at h in absurd (cc)

stopped : (count : ℕ) (x : Participant) → passes count x ≡ false → (is_open x ≡ true) × (x.found ≢ count)
stopped count x h = stopped-if count x (is_open x) (x.found == count) refl refl h

not-below : (m n : ℕ) → nat_lt m n ≡ false → n ≤ m
not-below m n e = grind (arith, nat_tests)

inner-open : (n : ℕ) → nat_lt 1 n ≡ true → nat_lt 0 (n - 1) ≡ nat_lt 0 n
inner-open n e = grind (arith, nat_tests)

-- who has something waiting counts down from 127 at most
something : (ws : List Waiting) (y : Waiting) → Contains ws y → ws ≡ [] → ⊥
something ws y h e = let none : Contains [] y = subst (λ (vs : List Waiting). Contains vs y) e h in absurd (omega (arith, none.1))

is-there : {X : Type 0} (v : Option X) → is_some v ≡ true → (x : X) × (v ≡ Some x)
is-there None e = absurd (cc)
is-there (Some x) e = (x, refl)

pub nested-open : (x : Participant) → is_open (time.nested x) ≡ true
nested-open x = grind (arith, nat_tests)

still-open : (n : ℕ) → nat_lt 0 n ≡ true → nat_lt 0 (n + 1) ≡ nat_lt 0 n
still-open n e = grind (arith, nat_tests)

module _ {T : Type 0} where
  waits-low-if : (w : World T) (q : ℕ) (what : LimboEntry) (seen : ℕ) → HasItems w → WaitsWith w q what seen → ((place_at w q).countdown ≡ 128)
      ⊎ ((place_at w q).countdown ≢ 128) →
      (place_at w q).countdown ≤ 127
  waits-low-if w q what seen i h (inl full) = absurd (something (place_at w q).bags.waiting (having_seen seen what) h ((i.abreast q).quiet full))
  waits-low-if w q what seen i h (inr apart) = omega (arith, apart, (i.abreast q).countdown)

  pub waits-low : (w : World T) (q : ℕ) (what : LimboEntry) (seen : ℕ) → HasItems w → WaitsWith w q what seen → (place_at w q).countdown ≤ 127
  waits-low w q what seen i h = waits-low-if w q what seen i h (same-or-not (place_at w q).countdown 128)

  -- what waits has its value
  waits-value : (w : World T) (q k seen : ℕ) → IsWhole w → Waits w q k seen → (v : T) × (value_at w k ≡ Some v)
  waits-value w q k seen i h =
      is-there (value_at w k) (filled-there w k i.filled ∙ some-waits (standing_at w k) (waits-standing w q k seen i h))

pub not-open : (b : Bool) → ¬ (IsTrue b) → b ≡ false
not-open true h = absurd (h refl)
not-open false h = refl

-- each call leaves a whole world whole
module _ {T : Type 0} (holds : T → List OwnerOrCell) where
  pub Whole-called : {w new : World T} → WorldStep holds w new → IsWhole w → IsWhole new
  Whole-called (registers w r vacant) i = Whole-registered w r vacant i
  Whole-called (ends w r l shut) i = Whole-ended w r l shut i
  Whole-called (opens w r l) i = Whole-opened holds w r l i
  Whole-called (closes w r l) i = Whole-closed w r l i
  Whole-called (stirs w r l) i = Whole-stirred w r l i
  Whole-called (accelerates w r l) i = Whole-accelerated w r l i
  Whole-called (makes w j value s first empty) i = Whole-made_as w j value s first empty i
  Whole-called (shares w j n is) i = Whole-shared w j n (n + 1) is i
  Whole-called (retires w r j l there) i = Whole-retires w r j (live-taken w.time r l) (ap is_out there) i
  Whole-called (releases w r j n l is) i = Whole-owner_given w r j (live-taken w.time r l) (Some (Shared n)) is i
  Whole-called (defers w r j l free) i = Whole-deferred w r j (live-taken w.time r l) free i
  Whole-called (collects w r c j l alone) i = Whole-waits w r j (privately c) refl (live-taken w.time r l) (alone-out (standing_at w j) alone) i
  Whole-called (closes_collector w r c l quiet) i = Whole-collector_closed holds w r c (live-taken w.time r l) i
  Whole-called (edits w j value may) i = Whole-with_value w j value (alone-out (standing_at w j) may.alone) i
  Whole-called (drops w r j l may) i = Whole-dropped holds w r j (live-taken w.time r l) (alone-out (standing_at w j) may.alone) i
  Whole-called (puts_out_raw w j is) i = Whole-restands w j Raw (ap is_out is) refl i
  Whole-called (takes_back_raw w j is) i = Whole-restands w j Owned (ap is_out is) refl i
  Whole-called (changes_cells w cells same) i = Whole-cells w cells i
  Whole-called (closes_cell w r c l) i = Whole-cell_closed w r c l i
  Whole-called (changes_pointers w pointers same) i = Whole-pointers w pointers i

-- what has seen two changes goes at the next one
module _ {T : Type 0} (holds : T → List OwnerOrCell) (w : World T) (q : ℕ) (l : q < length w.time.places) (i : IsWhole w) (c : IsChange holds w q) where
  ripe-goes : (what : LimboEntry) → WaitsWith w q what 2 → IsGone (opened holds w q) what
  ripe-goes (Item k) h =
      let some : 1 ≤ times_among k (reclaims w q) = subst (λ xs. 1 ≤ times_among k xs) (sym c.due) (entry-due k (place_at w q).bags.waiting h) in
      let v = waits-value w q k 2 i h in
      (opened-goes holds w q l k (standing_at w k) v.0 (waits-standing w q k 2 i h) some (record { standing = refl; value = v.1 })).standing
  ripe-goes (Job j) h =
      let among : Contains (reclaims w q) (Job j) =
      subst (λ (xs : List LimboEntry). Contains xs (Job j)) (sym c.due) (ripe-due (Job j) (place_at w q).bags.waiting h) in
      (opened-ran holds w q j l i.jobs_once among (inr c)).1

-- what waits for a collector is an item, and goes by its close
collector-takes : {T : Type 0} (holds : T → List OwnerOrCell) (w : World T) (r c q : ℕ) (what : LimboEntry) (seen : ℕ) → IsWhole w →
    WaitsWith w q what seen → is_for w c what ≡ true → IsGone (collector_closed holds w r c) what
collector-takes holds w r c q (Item k) seen i h for = (goes w c k i holds r (waits-standing w q k seen i h) for).standing
collector-takes holds w r c q (Job j) seen i h for = absurd (let never : false ≡ true = for in cc)

-- whatever the measure
module _ {Idles : ℕ → Type 0} (m : Measure Idles) where
  -- what is left to an item that waits with q and has seen so many changes
  abbrev pub remaining : EpochState → (q seen : ℕ) → ℕ
  remaining t q seen = m.remains t.count (time.place_at t q) seen

  -- the count may go on by one
  later-if : (count new seen : ℕ) (x : Participant) → x.found ≤ count → (new ≡ count) ⊎ (new ≡ count + 1) → m.remains new x seen ≤ m.remains count x seen
  later-if count new seen x found (inl e) = subst (λ (n : ℕ). m.remains n x seen ≤ m.remains count x seen) (sym e) (omega arith)
  later-if count new seen x found (inr e) = subst (λ (n : ℕ). m.remains n x seen ≤ m.remains count x seen) (sym e) (m.later count seen x found)

  -- a participant goes on: what waits with it waits, and no more is left
  record Lowers (count new : ℕ) (x y : Participant) : Type 0 where
    waits : (w : Waiting) → Contains x.bags.waiting w → Contains y.bags.waiting w
    lower : (seen : ℕ) → m.remains new y seen ≤ m.remains count x seen

  -- what is left looks at the count found, the guards and the countdown
  same-left : (count seen : ℕ) (x y : Participant) → y.found ≡ x.found → y.guards ≡ x.guards → y.countdown ≡ x.countdown →
      m.remains count y seen ≡ m.remains count x seen
  same-left count seen x y f g d =
      let there = m.slower count seen x y f (ap (λ (n : ℕ). nat_lt 0 n) g) (omega (arith, d)) in
      let back = m.slower count seen y x (sym f) (sym (ap (λ (n : ℕ). nat_lt 0 n) g)) (omega (arith, d)) in
      omega (arith, there, back)

  Lowers-later : (count new : ℕ) (x y : Participant) → x.found ≤ count → (new ≡ count) ⊎ (new ≡ count + 1) → y ≡ x → Lowers count new x y
  Lowers-later count new x y found c e =
      subst (λ (z : Participant). Lowers count new x z) (sym e) (record { waits = λ w h. h; lower = λ seen. later-if count new seen x found c })

  Lowers-same : (count : ℕ) (x y : Participant) → y ≡ x → Lowers count count x y
  Lowers-same count x y e = subst (λ (z : Participant). Lowers count count x z) (sym e) (record { waits = λ w h. h; lower = λ seen. omega arith })

  lowers-at : (t : EpochState) (p q : ℕ) (x : Participant) → p < length t.places → Lowers t.count t.count (time.place_at t p) x → (q ≡ p) ⊎ (q ≢ p) →
      Lowers t.count t.count (time.place_at t q) (time.place_at (with_place t p x) q)
  lowers-at t p q x l on (inl e) =
      subst (λ (n : ℕ). Lowers t.count t.count (time.place_at t n) (time.place_at (with_place t p x) n)) (sym e)
      (subst (λ (z : Participant). Lowers t.count t.count (time.place_at t p) z) (sym (get_or-set_same t.places p x nobody l)) on)
  lowers-at t p q x l on (inr apart) =
      Lowers-same t.count (time.place_at t q) (time.place_at (with_place t p x) q) (get_or-set_other t.places p q x nobody apart)

  lowers-place : (t : EpochState) (p q : ℕ) (x : Participant) → p < length t.places → Lowers t.count t.count (time.place_at t p) x →
      Lowers t.count t.count (time.place_at t q) (time.place_at (with_place t p x) q)
  lowers-place t p q x l on = lowers-at t p q x l on (same-or-not q p)

  Lowers-slower : (count : ℕ) (x y : Participant) → ((w : Waiting) → Contains x.bags.waiting w → Contains y.bags.waiting w) → y.found ≡ x.found →
      y.guards ≡ x.guards →
      y.countdown ≤ x.countdown → Lowers count count x y
  Lowers-slower count x y on f g d = record { waits = on; lower = λ seen. m.slower count seen x y f (ap (λ (n : ℕ). nat_lt 0 n) g) d }

  Lowers-given : (count : ℕ) (ks : List ℕ) (x : Participant) → Lowers count count x (all_awaiting ks x)
  Lowers-given count ks x =
      Lowers-slower count x (all_awaiting ks x) (λ w h. all_awaiting-waiting ks x w h)
      (all_awaiting-found ks x) (all_awaiting-guards ks x) (all_awaiting-countdown ks x)

  put-left : (t : EpochState) (q seen : ℕ) (y : Participant) → q < length t.places → remaining (with_place t q y) q seen ≡ m.remains t.count y seen
  put-left t q seen y l = ap (λ (x : Participant). m.remains t.count x seen) (get_or-set_same t.places q y nobody l)

  -- a close of the holder's own
  module _ {T : Type 0} (w : World T) (q seen : ℕ) (live : IsPlaceOf w q) (l : q < length w.time.places) where
    held-if : (u : EpochState) → Adopts q w.time u → (time.place_at u q).found ≡ u.count →
        (nat_lt u.count last_count ≡ false) ⊎ (list_all (passes u.count) u.places ≡ false) → IsHeldUp w q
    held-if u a found (inl e) = inl (omega (arith, not-below u.count last_count e, ap (λ (t : EpochState). t.count) a.only))
    held-if u a found (inr e) =
        let there = stops u.count u.places e in
        let r : ℕ = there.0 in
        let who = stopped u.count (time.place_at u r) there.1 in
        let opened : is_open (place_at w r) ≡ true = ap (λ (n : ℕ). nat_lt 0 n) (sym (a.stays r).guards) ∙ who.0 in
        inr (r, (λ same. who.1 (ap (λ (n : ℕ). (time.place_at u n).found) same ∙ found)), opened)

    abbrev Closes : EpochState → Type 0
    Closes u = (remaining u q seen ≤ remaining w.time q seen) ⊎ (((place_at w q).found ≡ w.time.count) × (Idles (place_at w q).countdown ⊎ IsHeldUp w q))

    closes-put : (u v : EpochState) (y : Participant) → u ≡ with_place v q y → q < length v.places → m.remains v.count y seen ≤ remaining w.time q seen
        → Closes u
    closes-put u v y e inside h =
        let after : remaining u q seen ≡ m.remains v.count y seen = ap (λ (z : EpochState). remaining z q seen) e ∙ put-left v q seen y inside in
        inl (omega (arith, after, h))

    closes-raised : ((place_at w q).countdown == 0) ≡ true → ((place_at w q).found == w.time.count) ≡ true → (place_at w q).found ≡ w.time.count →
        (u : EpochState) → u ≡ time.adopted w.time q → Adopts q w.time u → (b : Bool) → (nat_lt u.count last_count && list_all (passes u.count) u.places) ≡ b →
        Closes (time.left_by w.time q)
    closes-raised ended test found u u_is a true e =
        let x = time.place_at u q in
        let v : EpochState = record u { marked = false; count = u.count + 1 } in
        let s = a.stays q in
        let count = ap (λ (t : EpochState). t.count) a.only in
        let here : x.found ≡ u.count = s.found ∙ found ∙ sym count in
        let rest = m.raised u.count seen (counted_down w.time.marked x.countdown) x here in
        let was : m.remains u.count x seen ≡ remaining w.time q seen =
        same-left u.count seen (place_at w q) x s.found s.guards s.countdown ∙ ap (λ (n : ℕ). m.remains n (place_at w q) seen) count in
        closes-put (time.left_by w.time q) v (rested w.time.marked x) (rw (ended, test, ← u_is, e) refl) (omega (arith, l, a.places)) (omega (arith, rest, was))
    closes-raised ended test found u u_is a false e =
        let here : (time.place_at u q).found ≡ u.count = (a.stays q).found ∙ found ∙ sym (ap (λ (t : EpochState). t.count) a.only) in
        inr (found, inr (held-if u a here (and-fails (nat_lt u.count last_count) (list_all (passes u.count) u.places) e)))

    closes-ended : ((place_at w q).countdown == 0) ≡ true → (b : Bool) → ((place_at w q).found == w.time.count) ≡ b → Closes (time.left_by w.time q)
    closes-ended ended true test =
        let u = time.adopted w.time q in
        closes-raised ended test (grind (arith, nat_tests, test)) u refl (adopts w.time q live) (nat_lt u.count last_count && list_all
        (passes u.count) u.places)
        refl
    closes-ended ended false test =
        closes-put (time.left_by w.time q) w.time (resting 127 (place_at w q)) (rw (ended, test, ended) refl) l
        (m.elsewhere w.time.count seen 127 (place_at w q) (λ same. absurd (grind (arith, nat_tests, test, same))))

    closes-last : (place_at w q).countdown ≤ 127 → is_open (place_at w q) ≡ true → (b : Bool) → ((place_at w q).countdown == 0) ≡ b →
        Closes (time.left_by w.time q)
    closes-last low o true ended = closes-ended ended ((place_at w q).found == w.time.count) refl
    closes-last low o false counting =
        let d = (place_at w q).countdown in
        let full : (d == 128) ≡ false = differs d 128 (λ e. absurd (omega (arith, e, low))) in
        let some : d ≢ 0 = λ e. absurd (grind (arith, nat_tests, counting, e)) in
        let is : time.left_by w.time q ≡ with_place w.time q (resting (d - 1) (place_at w q)) = rw (counting, counting, full) refl in
        elim (same-or-not (place_at w q).found w.time.count) [
          | inl found ↦ elim (m.counts_down w.time.count seen (place_at w q) found o some) [
            | inl lower ↦ closes-put (time.left_by w.time q) w.time (resting (d - 1) (place_at w q)) is l lower
            | inr idles ↦ inr (found, inl idles)
          ]
          | inr apart ↦ closes-put (time.left_by w.time q) w.time (resting (d - 1) (place_at w q)) is l
              (m.elsewhere w.time.count seen (d - 1) (place_at w q) apart)
        ]

    -- with the last guard closed none is open
    left-shut : is_open (time.place_at (time.left_by w.time q) q) ≡ false
    left-shut =
        let scans = (place_at w q).countdown == 0 in
        let s : EpochState = if scans then time.scanned w.time q else w.time in
        let end : Participant = rested w.time.marked (time.place_at s q) in
        ap (λ (x : Participant). is_open x) (get_or-set_same s.places q end nobody (scans-there l (scans-if w.time q live scans)))

    closes-outermost : is_open (place_at w q) ≡ true → closed w q ≡ record w { time = time.left_by w.time q } → Closes (time.left_by w.time q) →
        (remaining (time.left_by w.time q) q seen ≤ remaining w.time q seen) ⊎ IsIdleClose Idles w (closed w q) q
    closes-outermost o last (inl lower) = inl lower
    closes-outermost o last (inr why) =
        inr (record { closes = refl; why = why.1; found = why.0; was_open = o; shut = ap (λ (u : World T). is_open (place_at u q)) last ∙ left-shut })

    closes-own-if : (place_at w q).countdown ≤ 127 → (a : Bool) → nat_lt 1 (place_at w q).guards ≡ a → (b : Bool) → is_open (place_at w q) ≡ b →
        (remaining (time.closed w.time q) q seen ≤ remaining w.time q seen) ⊎ IsIdleClose Idles w (closed w q) q
    closes-own-if low true e b o =
        let y : Participant = record (place_at w q) { guards = (place_at w q).guards - 1 } in
        let is : time.closed w.time q ≡ with_place w.time q y = rw e refl in
        let after : remaining (time.closed w.time q) q seen ≡ m.remains w.time.count y seen =
        ap (λ (z : EpochState). remaining z q seen) is ∙ put-left w.time q seen y l in
        inl (omega (arith, after, m.slower w.time.count seen (place_at w q) y refl (inner-open (place_at w q).guards e) (omega arith)))
    closes-own-if low false e true o =
        let last : time.closed w.time q ≡ time.left_by w.time q = rw (e, o) refl in
        subst (λ (u : EpochState). (remaining u q seen ≤ remaining w.time q seen) ⊎ IsIdleClose Idles w (closed w q) q) (sym last)
        (closes-outermost o (ap (λ (u : EpochState). record w { time = u }) last) (closes-last low o ((place_at w q).countdown == 0) refl))
    closes-own-if low false e false o =
        let nothing : time.closed w.time q ≡ w.time = rw (e, o) refl in
        inl (omega (arith, ap (λ (u : EpochState). remaining u q seen) nothing))

    closes-own : (place_at w q).countdown ≤ 127 → (remaining (time.closed w.time q) q seen ≤ remaining w.time q seen) ⊎ IsIdleClose Idles w (closed w q) q
    closes-own low = closes-own-if low (nat_lt 1 (place_at w q).guards) refl (is_open (place_at w q)) refl

  module _ {T : Type 0} (holds : T → List OwnerOrCell) (w : World T) (q : ℕ) (what : LimboEntry) (seen : ℕ) (l : q < length w.time.places) (i : IsWhole w)
      (h : WaitsWith w q what seen) where
    abbrev pub end : World T
    end = opened holds w q

    -- an outermost opening of the holder
    abbrev pub Opens : Type 0
    Opens =
        ((remaining w.time q seen ≡ 1) × (IsGone end what))
        ⊎ ((later : ℕ) × WaitsWith end q what later × (remaining end.time q later + 1 ≤ remaining w.time q seen))

    opens-nests : (n : Nests holds w q) → is_open (place_at w q) ≡ false → (place_at w q).found ≡ w.time.count → Opens
    opens-nests n shut found =
        let x = place_at w q in
        let after : remaining end.time q seen ≡ m.remains w.time.count (time.nested x) seen =
        ap (λ (u : World T). remaining u.time q seen) n.nests ∙ put-left w.time q seen (time.nested x) l in
        inr (seen, nests-waiting holds w q what seen l n h, omega (arith, after, m.nests w.time.count seen x found shut))

    changes-open : (c : IsChange holds w q) → is_open (place_at end q) ≡ true
    changes-open c =
        let o = own.opens holds w q l (is_open (place_at w q)) refl in
        let x = place_at w q in
        let y : Participant = time.rotated w.time.count (time.nested x) in
        let another = differs x.found w.time.count c.another in
        let there : place_at end q ≡ time.settled (all_awaiting o.slots y) = o.own ∙ opens-changed w.time.count o.slots x c.closed_before another in
        ap (λ (z : Participant). is_open z) there ∙ ap (λ (n : ℕ). nat_lt 0 n) (all_awaiting-guards o.slots y) ∙ nested-open x

    opens-young : (c : IsChange holds w q) → seen < 2 → Opens
    opens-young c young =
        let o = own.opens holds w q l (is_open (place_at w q)) refl in
        let found : (place_at end q).found ≡ w.time.count = o.found (λ b. let never : false ≡ true = sym c.closed_before ∙ b in absurd (cc)) in
        let waits = change-waiting holds w q what seen l c young h in
        let low = waits-low end q what (seen + 1) (Items-opened holds w q l (items i)) waits in
        let after : remaining end.time q (seen + 1) ≡ m.remains w.time.count (place_at end q) (seen + 1) =
        ap (λ (n : ℕ). m.remains n (place_at end q) (seen + 1)) o.count in
        inr (seen + 1, waits, omega (arith, after, m.changes w.time.count seen (place_at w q) (place_at end q) c.another found (changes-open c) low young))

    opens-ripe : (c : IsChange holds w q) → seen ≡ 2 → Opens
    opens-ripe c ripe =
        let one : remaining w.time q seen ≡ 1 = ap (λ (n : ℕ). remaining w.time q n) ripe ∙ m.last w.time.count (place_at w q) c.another in
        inl (one, ripe-goes holds w q l i c what (subst (λ (n : ℕ). WaitsWith w q what n) ripe h))

    opens-change : (c : IsChange holds w q) → (seen < 2) ⊎ (2 ≤ seen) → Opens
    opens-change c (inl young) = opens-young c young
    opens-change c (inr old) = opens-ripe c (omega (arith, old, waiting-young w q what seen i h))

    opens-nests-why : (n : Nests holds w q) → is_open (place_at w q) ≡ false →
        (is_open (place_at w q) ≡ true) ⊎ ((is_open (place_at w q) ≡ false) × ((place_at w q).found ≡ w.time.count)) → Opens
    opens-nests-why n shut (inl o) = absurd (cc)
    opens-nests-why n shut (inr why) = opens-nests n shut why.1

    opens-if : is_open (place_at w q) ≡ false → Nests holds w q ⊎ IsChange holds w q → Opens
    opens-if shut (inl n) = opens-nests-why n shut n.why
    opens-if shut (inr c) = opens-change c (below-or-past seen 2)

    pub opens-lower : is_open (place_at w q) ≡ false → Opens
    opens-lower shut = opens-if shut (how holds w q l)

  module _ {T : Type 0} (holds : T → List OwnerOrCell) where
    -- what a call makes of an item that waits
    abbrev pub Outcome : (w new : World T) (q : ℕ) (what : LimboEntry) (seen : ℕ) → Type 0
    Outcome w new q what seen =
        (IsGone new what)
        ⊎ ((later : ℕ) × WaitsWith new q what later × ((remaining new.time q later ≤ remaining w.time q seen) ⊎ IsIdleClose Idles w new q))

    goes-on : (w new : World T) (q : ℕ) (what : LimboEntry) (seen : ℕ) → WaitsWith w q what seen
        → Lowers w.time.count new.time.count (place_at w q) (place_at new q) → Outcome w new q what seen
    goes-on w new q what seen h on = inr (seen, on.waits (having_seen seen what) h, inl (on.lower seen))

    goes-on-place : (w : World T) (r q : ℕ) (what : LimboEntry) (seen : ℕ) (y : Participant) → r < length w.time.places → WaitsWith w q what seen →
        Lowers w.time.count w.time.count (place_at w r) y →
        Outcome w (record w { time = with_place w.time r y }) q what seen
    goes-on-place w r q what seen y l h on = goes-on w (record w { time = with_place w.time r y }) q what seen h (lowers-place w.time r q y l on)

    opening-outermost : (w : World T) (q : ℕ) (what : LimboEntry) (seen : ℕ) (live : IsPlaceOf w q) (i : IsWhole w) (h : WaitsWith w q what seen)
        → Opens holds w q what seen live.0 i h →
        Outcome w (opened holds w q) q what seen
    opening-outermost w q what seen live i h (inl gone) = inl gone.1
    opening-outermost w q what seen live i h (inr on) = inr (on.0, on.1, inl (omega (arith, on.2)))

    opening-nested : (w : World T) (q : ℕ) (what : LimboEntry) (seen : ℕ) → q < length w.time.places → is_open (place_at w q) ≡ true → WaitsWith w q what seen →
        Nests holds w q ⊎ IsChange holds w q → Outcome w (opened holds w q) q what seen
    opening-nested w q what seen l o h (inr c) = let never : false ≡ true = sym c.closed_before ∙ o in absurd (cc)
    opening-nested w q what seen l o h (inl n) =
        let x = place_at w q in
        let lower = m.slower w.time.count seen x (time.nested x) refl (still-open x.guards o) (omega arith) in
        let after : remaining (opened holds w q).time q seen ≡ m.remains w.time.count (time.nested x) seen =
        ap (λ (u : World T). remaining u.time q seen) n.nests ∙ put-left w.time q seen (time.nested x) l in
        inr (seen, nests-waiting holds w q what seen l n h, inl (omega (arith, after, lower)))

    opening-own : (w : World T) (q : ℕ) (what : LimboEntry) (seen : ℕ) → IsPlaceOf w q → IsWhole w → WaitsWith w q what seen → (b : Bool)
        → is_open (place_at w q) ≡ b →
        Outcome w (opened holds w q) q what seen
    opening-own w q what seen live i h true o = opening-nested w q what seen live.0 o h (how holds w q live.0)
    opening-own w q what seen live i h false o = opening-outermost w q what seen live i h (opens-lower holds w q what seen live.0 i h o)

    opening : (w : World T) (r q : ℕ) (what : LimboEntry) (seen : ℕ) → r < length w.time.places → IsWhole w → IsPlaceOf w q → WaitsWith w q what seen
        → (r ≡ q) ⊎ (r ≢ q) →
        Outcome w (opened holds w r) q what seen
    opening w r q what seen l i live h (inl e) =
        subst (λ (n : ℕ). Outcome w (opened holds w n) q what seen) (sym e) (opening-own w q what seen live i h (is_open (place_at w q)) refl)
    opening w r q what seen l i live h (inr apart) =
        let count = (own.opens holds w r l (is_open (place_at w r)) refl).count in
        goes-on w (opened holds w r) q what seen h
        (Lowers-later w.time.count (opened holds w r).time.count (place_at w q) (place_at (opened holds w r) q) (i.abreast q).found (inl count)
        (opened-other holds w r l q (λ same. apart (sym same))))

    closing-own : (w : World T) (q : ℕ) (what : LimboEntry) (seen : ℕ) → WaitsWith (closed w q) q what seen →
        (remaining (closed w q).time q seen ≤ remaining w.time q seen) ⊎ IsIdleClose Idles w (closed w q) q →
        Outcome w (closed w q) q what seen
    closing-own w q what seen h (inl lower) = inr (seen, h, inl lower)
    closing-own w q what seen h (inr idle) = inr (seen, h, inr idle)

    not-ended : (w : World T) (q : ℕ) → IsPlaceOf w q → is_ended (phase_at w.time q) ≡ false
    not-ended w q live = ap is_ended (live-is w.time q live)

    -- another's close: what waits with q goes on to wait with it
    closing-other : (w : World T) (r q : ℕ) → IsPlaceOf w r → IsPlaceOf w q → IsWhole w → q ≢ r →
        Lowers w.time.count (closed w r).time.count (place_at w q) (place_at (closed w r) q)
    closing-other w r q l live i apart =
        let x = place_at w q in
        let y = place_at (closed w r) q in
        let c = how-closed w.time r l in
        record {
          waits = (closed-persists w.time r q l (not-ended w q live)).waits;
          lower = λ seen. omega (
            arith,
            same-left (closed w r).time.count seen x y (c.found q) (c.guards q apart) (c.countdown q apart),
            later-if w.time.count (closed w r).time.count seen x (i.abreast q).found c.goes_on,
          );
        }

    closing : (w : World T) (r q : ℕ) (what : LimboEntry) (seen : ℕ) → IsPlaceOf w r → IsWhole w → IsPlaceOf w q → WaitsWith w q what seen → (r ≡ q) ⊎ (r ≢ q) →
        Outcome w (closed w r) q what seen
    closing w r q what seen l i live h (inl e) =
        let waits = (closed-persists w.time q q live (not-ended w q live)).waits (having_seen seen what) h in
        subst (λ (n : ℕ). Outcome w (closed w n) q what seen) (sym e)
        (closing-own w q what seen waits (closes-own w q seen live live.0 (waits-low w q what seen (items i) h)))
    closing w r q what seen l i live h (inr apart) = goes-on w (closed w r) q what seen h (closing-other w r q l live i (λ same. apart (sym same)))

    registered-count : (t : EpochState) (p : ℕ) (b : Bool) → nat_lt p (length t.places) ≡ b → (time.registered t p).count ≡ t.count
    registered-count t p true e = rw e refl
    registered-count t p false e = rw e refl

    -- what leaves time as it is
    goes-still : (w new : World T) (q : ℕ) (what : LimboEntry) (seen : ℕ) → WaitsWith w q what seen → new.time ≡ w.time → Outcome w new q what seen
    goes-still w new q what seen h e =
        goes-on w new q what seen h
        (subst (λ (t : EpochState). Lowers w.time.count t.count (place_at w q) (time.place_at t q)) (sym e)
        (Lowers-same w.time.count (place_at w q) (place_at w q) refl))

    -- items are given up to a place
    goes-gives : (w new : World T) (r q : ℕ) (what : LimboEntry) (seen : ℕ) → r < length w.time.places → WaitsWith w q what seen → Gives r w new
        → Outcome w new q what seen
    goes-gives w new r q what seen l h g =
        let on = lowers-place w.time r q (all_awaiting g.slots (place_at w r)) l (Lowers-given w.time.count g.slots (place_at w r)) in
        goes-on w new q what seen h
        (subst (λ (t : EpochState). Lowers w.time.count t.count (place_at w q) (time.place_at t q)) (sym g.time) on)

    -- a collector is closed: what waited for it is reclaimed, and all else goes on to wait
    collector-closes : (w : World T) (r c q : ℕ) (what : LimboEntry) (seen : ℕ) → r < length w.time.places → IsWhole w → WaitsWith w q what seen → (b : Bool) →
        is_for w c what ≡ b →
        Outcome w (collector_closed holds w r c) q what seen
    collector-closes w r c q what seen l i h true for = inl (collector-takes holds w r c q what seen i h for)
    collector-closes w r c q what seen l i h false other =
        let start = without_collector w c in
        let chosen = is_for w c in
        let inside : r < length start.time.places = omega (arith, l, length-map w.time.places (without chosen)) in
        let here : place_at start q ≡ without chosen (place_at w q) = get_or-map (without chosen) w.time.places q nobody in
        let g = Gives-all_reclaimed holds start r (waiting_for w c) inside in
        let on = subst (λ (t : EpochState). Lowers w.time.count w.time.count (place_at start q) (time.place_at t q)) (sym g.time)
        (lowers-place start.time r q (all_awaiting g.slots (place_at start r)) inside (Lowers-given w.time.count g.slots (place_at start r))) in
        let count : (collector_closed holds w r c).time.count ≡ w.time.count = ap (λ (t : EpochState). t.count) g.time in
        let stays : Contains (without chosen (place_at w q)).bags.waiting (having_seen seen what) =
        rest-contains chosen (place_at w q).bags.waiting (having_seen seen what) other h in
        let waits : WaitsWith start q what seen = subst (λ (x : Participant). Contains x.bags.waiting (having_seen seen what)) (sym here) stays in
        let same : m.remains w.time.count (place_at start q) seen ≡ remaining w.time q seen =
        ap (λ (x : Participant). m.remains w.time.count x seen) here
        ∙ same-left w.time.count seen (place_at w q) (without chosen (place_at w q)) refl refl refl in
        let after : remaining (collector_closed holds w r c).time q seen ≡ m.remains w.time.count (place_at (collector_closed holds w r c) q) seen =
        ap (λ (n : ℕ). m.remains n (place_at (collector_closed holds w r c) q) seen) count in
        inr (seen, on.waits (having_seen seen what) waits, inl (omega (arith, on.lower seen, same, after)))

    pub each-call : (q : ℕ) (what : LimboEntry) (seen : ℕ) {w new : World T} → WorldStep holds w new → IsWhole w → IsPlaceOf w q → WaitsWith w q what seen
        → Outcome w new q what seen
    each-call q what seen (registers w r vacant) i live h =
        goes-on w (registered w r) q what seen h
        (Lowers-later w.time.count (registered w r).time.count (place_at w q) (place_at (registered w r) q) (i.abreast q).found
        (inl (registered-count w.time r (nat_lt r (length w.time.places)) refl))
        (registered-keeps w.time r q (live-taken w.time q live) vacant))
    each-call q what seen (ends w r l shut) i live h = goes-on w (ended w r) q what seen h (Lowers-same w.time.count (place_at w q) (place_at w q) refl)
    each-call q what seen (opens w r l) i live h = opening w r q what seen l.0 i live h (same-or-not r q)
    each-call q what seen (closes w r l) i live h = closing w r q what seen l i live h (same-or-not r q)
    each-call q what seen (stirs w r l) i live h =
        let x = place_at w r in
        goes-on-place w r q what seen (time.with_garbage x) l.0 h
        (Lowers-slower w.time.count x (time.with_garbage x) (λ y g. g) refl refl (stirred-lower x.countdown))
    each-call q what seen (accelerates w r l) i live h =
        let x = place_at w r in
        goes-on-place w r q what seen (time.accelerated x) l.0 h (Lowers-slower w.time.count x (time.accelerated x) (λ y g. g) refl refl (omega arith))
    each-call q what seen (makes w j value s first empty) i live h = goes-still w (made_as w j value s) q what seen h refl
    each-call q what seen (shares w j n is) i live h = goes-still w (with_standing w j (Shared (n + 1))) q what seen h refl
    each-call q what seen (retires w r j l there) i live h =
        goes-on w (retired w r j) q what seen h
        (lowers-place w.time r q (time.awaiting (Item j) (place_at w r)) l.0 (Lowers-given w.time.count (j ∷ []) (place_at w r)))
    each-call q what seen (releases w r j n l is) i live h =
        goes-gives w (owner_given w r j (Some (Shared n))) r q what seen l.0 h (Gives-owner_given w r j (Some (Shared n)) is)
    each-call q what seen (defers w r j l free) i live h =
        let x = place_at w r in
        let y : Participant = time.awaiting (Job j) x in
        goes-on w (deferred w r j) q what seen h
        (lowers-place w.time r q y l.0 (Lowers-slower w.time.count x y (still-waits (Job j) x) refl refl (stirred-lower x.countdown)))
    each-call q what seen (collects w r c j l alone) i live h =
        goes-on w (collected w r c j) q what seen h
        (lowers-place w.time r q (time.awaiting (Item j) (place_at w r)) l.0 (Lowers-given w.time.count (j ∷ []) (place_at w r)))
    each-call q what seen (closes_collector w r c l quiet) i live h = collector-closes w r c q what seen l.0 i h (is_for w c what) refl
    each-call q what seen (edits w j value may) i live h = goes-still w (with_value w j value) q what seen h refl
    each-call q what seen (drops w r j l may) i live h = goes-gives w (dropped holds w r j) r q what seen l.0 h (Gives-dropped holds w r j l.0)
    each-call q what seen (puts_out_raw w j is) i live h = goes-still w (with_standing w j Raw) q what seen h refl
    each-call q what seen (takes_back_raw w j is) i live h = goes-still w (with_standing w j Owned) q what seen h refl
    each-call q what seen (changes_cells w cells same) i live h = goes-still w (record w { cells = cells }) q what seen h refl
    each-call q what seen (closes_cell w r c l) i live h = goes-gives w (cell_closed w r c) r q what seen l.0 h (Gives-cell_closed w r c l.0)
    each-call q what seen (changes_pointers w pointers same) i live h = goes-still w (record w { pointers = pointers }) q what seen h refl

    -- the item still waits, and each outermost opening has lowered what is left
    pub record Wanes (w new : World T) (q : ℕ) (what : LimboEntry) (seen openings : ℕ) : Type 0 where
      pub whole : IsWhole new
      pub later : ℕ
      pub waits : WaitsWith new q what later
      pub lower : remaining new.time q later + openings ≤ remaining w.time q seen

    -- an outermost opening of the holder reclaims the item, or lowers what is left
    wanes-opened : (w v : World T) (q : ℕ) (what : LimboEntry) (seen n : ℕ) (o : Wanes w v q what seen n) (live : IsPlaceOf v q)
        → Opens holds v q what o.later live.0 o.whole o.waits →
        (IsGone (opened holds v q) what) ⊎ Wanes w (opened holds v q) q what seen (n + 1)
    wanes-opened w v q what seen n o live (inl gone) = inl gone.1
    wanes-opened w v q what seen n o live (inr on) =
        inr (record { whole = Whole-opened holds v q live o.whole; later = on.0; waits = on.1; lower = omega (arith, o.lower, on.2) })

    pub wanes-opening : (w v : World T) (q : ℕ) (what : LimboEntry) (seen n : ℕ) → Wanes w v q what seen n → IsPlaceOf v q → is_open (place_at v q) ≡ false →
        (IsGone (opened holds v q) what) ⊎ Wanes w (opened holds v q) q what seen (n + 1)
    wanes-opening w v q what seen n o live shut = wanes-opened w v q what seen n o live (opens-lower holds v q what o.later live.0 o.whole o.waits shut)

    -- any call reclaims the item, or leaves no more, but for an idle close
    wanes-called : (w v new : World T) (q : ℕ) (what : LimboEntry) (seen n : ℕ) (o : Wanes w v q what seen n) → IsWhole new → Outcome v new q what o.later →
        ¬ (IsIdleClose Idles v new q) → (IsGone new what) ⊎ Wanes w new q what seen n
    wanes-called w v new q what seen n o i (inl gone) moves = inl gone
    wanes-called w v new q what seen n o i (inr (later, waits, inl lower)) moves =
        inr (record { whole = i; later = later; waits = waits; lower = omega (arith, o.lower, lower) })
    wanes-called w v new q what seen n o i (inr (later, waits, inr idle)) moves = absurd (moves idle)

    pub wanes-call : (w v new : World T) (q : ℕ) (what : LimboEntry) (seen n : ℕ) → Wanes w v q what seen n → IsPlaceOf v q → WorldStep holds v new
        → ¬ (IsIdleClose Idles v new q) →
        (IsGone new what) ⊎ Wanes w new q what seen n
    wanes-call w v new q what seen n o live call moves =
        wanes-called w v new q what seen n o (Whole-called holds call o.whole) (each-call q what o.later call o.whole live o.waits) moves
