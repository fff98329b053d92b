-- What is always true of a world is true after each step
use Rattle.std.proofs.Common.{subst, ◌≡◌, ◌≢◌, ◌⊎◌, inl, inr, ℕ, ◌+◌, ◌<◌, ◌≤◌, List, [], ◌∷◌, ◌++◌, length, cond, Bool, refl, sym, ap, ◌∙◌, arith, true, false, Some, None, nat_lt, Option, map, zero, suc, slice_index_or, slice_set, IsTrue, sum_by, count_by}
use Rattle.std.specs.Prelude.{◌==◌, ◌&&◌, ◌-◌, is_some, if◌then◌else◌, All, not}
use Rattle.std.proofs.Math.ListN.{get_or-map, get_or-append}
use Rattle.std.proofs.Math.Seq.{map-set_same}
use Rattle.std.proofs.lemmas.List.{length-map, length-set, get_or-set_same, get_or-set_other, map-set, set-set}
use Rattle.std.proofs.lemmas.List.Sums.{sum_by-set, sum_by-append}
use Rattle.std.proofs.lemmas.List.Elements.{All-filter, All-push, All-nil, All-weaker, filter_passes}
use Rattle.std.specs.List.{list_all}
use Rattle.std.proofs.lemmas.Bool.Decides.{nat_tests}
use Rattle.sdd_participants.proofs.Adoptions.{Adopts, Stays, adopts, scans-if, scans-there, same-or-not}
use Rattle.sdd_participants.specs.declared.waiting.LimboEntry.{LimboEntry}
use Rattle.sdd_participants.specs.Waiting.{Waiting, fresh, aged, left, due, is_due}
use Rattle.sdd_participants.specs.declared.waiting.LimboEntry.TheVariants.{Item, Job}
use Rattle.sdd_participants.specs.Bags.{Bags}
use Rattle.sdd_participants.specs.EpochState.{EpochState, with_place, nobody, newcomer, due_next, is_open, passes, last_count, stirred, counted_down, pace_of, rested, IsLive}
use Rattle.sdd_participants.specs.EpochState as time
use Rattle.sdd_participants.specs.Slab.{Entries, entry_at, without_entry}
use Rattle.sdd_participants.specs.Tally.{one_in_place, one_made, one_reclaimed}
use Rattle.sdd_participants.specs.declared.tally.Tally.{Tally}
use Rattle.sdd_participants.specs.declared.participant.Participant.{Participant}
use Rattle.sdd_participants.specs.declared.participant.CountdownState.{CountdownState}
use Rattle.sdd_participants.specs.declared.standing.Standing.{Standing}
use Rattle.sdd_participants.specs.declared.standing.Standing.TheVariants.{Owned, Raw, Shared, Retired, Private as privately}
use Rattle.sdd_participants.specs.declared.standing.CellContents.{CellContents}
use Rattle.sdd_participants.specs.declared.standing.RawCellContents.{RawCellContents}
use Rattle.sdd_world_model.specs.Slots.{is_waiting, IsWaiting}
use Rattle.sdd_world_model.specs.World.{World, standing_at, value_at, place_at}
use Rattle.sdd_participants.specs.Collecting.{rest_of, without}
use Rattle.sdd_world_model.specs.Collecting.{collector_closed, is_for, waiting_for, without_collector}
use Rattle.sdd_world_model.specs.WorldChanges.{made_as, with_standing, waiting_as, retired, deferred, spilled, cell_closed, held_in, owner_given, given, given_all, freed, vacated, dropped_out, dropped, with_value, taken_out, waiting_value, slot_reclaimed, reclaimed, all_reclaimed, changed}
use Rattle.sdd_world_model.specs.WorldChanges as steps
use Rattle.sdd_world_model.specs.OwnerOrCell.{OwnerOrCell, owned, shared, atomic_owned, atomic_shared, atomic_raw}
use Rattle.sdd_world_model.specs.Out.{is_out}
use Rattle.sdd_world_model.specs.WorldInvariant.{is_of_slot, times_with, once_if, times_waiting, taken, KeepsUp, IsCounted}
use Rattle.sdd_world_model.specs.ParticipantChanges.{all_awaiting}
use Rattle.sdd_world_model.proofs.ParticipantChanges.{Gives-range, Gives-given, Gives-reclaimed, Gives-all_reclaimed, changes}
pub use Rattle.sdd_world_model.proofs.TimesListed.{count-cons}
use Rattle.sdd_world_model.proofs.TimesListed.{listed-place, listed-same, listed-awaiting, listed-aged, listed-additive, listed-without}
use Rattle.sdd_world_model.proofs.Standings.{out-some, out-waits-not, out-inside, owner-given}
use Rattle.sdd_world_model.proofs.WaitingCounts.{in_range}

abbrev pub one_where : Bool → ℕ
one_where b = cond b 1 0

-- how often a slot's item is among these
abbrev pub times_among : ℕ → List LimboEntry → ℕ
times_among k xs = count_by (is_of_slot k) xs

abbrev pub times_listed : ℕ → List Waiting → ℕ
times_listed k ws = count_by (λ (w : Waiting). is_of_slot k w.what) ws

-- what is always true of a world, but for the phases of its places
pub record HasItems {T : Type 0} (w : World T) : Type 0 where
  pub filled : map is_some w.values ≡ map is_some w.standings
  pub once : (k : ℕ) → times_waiting w k ≡ once_if (is_waiting (standing_at w k))
  pub abreast : (p : ℕ) → KeepsUp w.time.count (place_at w p)
  pub counted : IsCounted w.tally (taken w)

-- so much waits, and these are to be reclaimed yet
pub record IsWholeBut {T : Type 0} (xs : List LimboEntry) (w : World T) : Type 0 where
  pub filled : map is_some w.values ≡ map is_some w.standings
  pub once : (k : ℕ) → times_waiting w k + times_among k xs ≡ once_if (is_waiting (standing_at w k))
  pub abreast : (p : ℕ) → KeepsUp w.time.count (place_at w p)
  pub counted : IsCounted w.tally (taken w)

-- one place changes
pub times-place : (t : EpochState) (p k : ℕ) (x : Participant) → p < length t.places →
    sum_by (times_with k) (with_place t p x).places + times_with k (time.place_at t p) ≡ sum_by (times_with k) t.places + times_with k x
times-place t p k x l = listed-place (is_of_slot k) t p x l

pub times-same : (t : EpochState) (p k : ℕ) (x : Participant) → p < length t.places → x.bags.waiting ≡ (time.place_at t p).bags.waiting →
    sum_by (times_with k) (with_place t p x).places ≡ sum_by (times_with k) t.places
times-same t p k x l e = listed-same (is_of_slot k) t p x l e

abreast-at : (t : EpochState) (count p q : ℕ) (x : Participant) → p < length t.places → KeepsUp count x → ((r : ℕ) → KeepsUp count (time.place_at t r)) →
    (q ≡ p) ⊎ (q ≢ p) →
    KeepsUp count (time.place_at (with_place t p x) q)
abreast-at t count p q x l a all (inl e) = rw (e, get_or-set_same t.places p x nobody l) a
abreast-at t count p q x l a all (inr apart) = rw (get_or-set_other t.places p q x nobody apart) (all q)

pub abreast-place : (t : EpochState) (count p : ℕ) (x : Participant) → p < length t.places → KeepsUp count x → ((r : ℕ) → KeepsUp count (time.place_at t r)) →
    (q : ℕ) → KeepsUp count (time.place_at (with_place t p x) q)
abreast-place t count p x l a all q = abreast-at t count p q x l a all (same-or-not q p)

-- an item or a job begins to wait
stirred-bound : (d : ℕ) → d ≤ 128 → (b : Bool) → (d == 128) ≡ b → stirred d ≤ 127
stirred-bound d h true e = rw e (omega arith)
stirred-bound d h false e = let apart : d ≢ 128 = grind (arith, nat_tests, e) in rw e (omega arith)

pub abreast-awaiting : (count : ℕ) (what : LimboEntry) (x : Participant) → KeepsUp count x → KeepsUp count (time.awaiting what x)
abreast-awaiting count what x a =
    let low : stirred x.countdown ≤ 127 = stirred-bound x.countdown a.countdown (x.countdown == 128) refl in
    record {
      found = a.found;
      near = a.near;
      young = All-push (λ (w : Waiting). w.seen ≤ 2) x.bags.waiting (fresh what) a.young (omega arith);
      countdown = omega arith;
      quiet = λ e. absurd (omega (arith, e, low));
    }

-- what is chosen is taken out
abreast-without : (count : ℕ) (chosen : LimboEntry → Bool) (x : Participant) → KeepsUp count x → KeepsUp count (without chosen x)
abreast-without count chosen x a = record {
  found = a.found;
  near = a.near;
  young = All-filter (λ (w : Waiting). not (chosen w.what)) (λ (w : Waiting). w.seen ≤ 2) x.bags.waiting a.young;
  countdown = a.countdown;
  quiet = λ e. ap (rest_of chosen) (a.quiet e);
}

abreast-all : (count : ℕ) (chosen : LimboEntry → Bool) (ps : List Participant) (p : ℕ) → KeepsUp count (slice_index_or ps p nobody) →
    KeepsUp count (slice_index_or (map (without chosen) ps) p nobody)
abreast-all count chosen ps p a =
    subst (λ (x : Participant). KeepsUp count x) (sym (get_or-map (without chosen) ps p nobody)) (abreast-without count chosen (slice_index_or ps p nobody) a)

pub times-awaiting : (j : ℕ) (what : LimboEntry) (x : Participant) → times_with j (time.awaiting what x) ≡ times_with j x + cond (is_of_slot j what) 1 0
times-awaiting j what x = listed-awaiting (is_of_slot j) what x

passes-young : (w : Waiting) → not (is_due w) ≡ true → w.seen ≤ 2
passes-young w e = grind (arith, nat_tests, e)

left-young : (ws : List Waiting) → All (λ (w : Waiting). w.seen ≤ 2) (left (aged ws))
left-young ws =
    All-weaker (λ (w : Waiting). not (is_due w) ≡ true) (λ (w : Waiting). w.seen ≤ 2) passes-young (left (aged ws))
    (filter_passes (λ (w : Waiting). not (is_due w)) (aged ws))

-- after a change, what waited is left or due
pub times-aged : (k : ℕ) (ws : List Waiting) → times_listed k (left (aged ws)) + times_among k (due (aged ws)) ≡ times_listed k ws
times-aged k ws = listed-aged (is_of_slot k) ws

-- a change, before and after what is due is reclaimed
abreast-rotated : (count : ℕ) (x : Participant) → x.countdown ≤ 128 → (x.countdown ≡ 128 → x.bags.waiting ≡ []) → KeepsUp count (time.rotated count x)
abreast-rotated count x low quiet =
    record {
      found = omega arith;
      near = λ _. omega arith;
      young = left-young x.bags.waiting;
      countdown = low;
      quiet = λ e. ap (λ (ws : List Waiting). left (aged ws)) (quiet e);
    }

settled-bound : (x : Participant) (ws : List Waiting) → x.bags.waiting ≡ ws → (time.settled x).countdown ≤ 128
settled-bound x [] e = rw e (omega arith)
settled-bound x (w ∷ ws) e = rw e (omega arith)

settled-quiet : (x : Participant) (ws : List Waiting) → x.bags.waiting ≡ ws → (time.settled x).countdown ≡ 128 → ws ≡ []
settled-quiet x [] e h = refl
settled-quiet x (w ∷ ws) e h = absurd (omega (arith, rw e at h))

abreast-settled : (count : ℕ) (x : Participant) → KeepsUp count x → KeepsUp count (time.settled x)
abreast-settled count x a =
    record {
      found = a.found;
      near = a.near;
      young = a.young;
      countdown = settled-bound x x.bags.waiting refl;
      quiet = settled-quiet x x.bags.waiting refl;
    }

-- a slot's standing is set
set-standing : (ss : List (Option Standing)) (k j : ℕ) (s : Option Standing) → k < length ss → (j ≡ k) ⊎ (j ≢ k) →
    ((j ≡ k) × (slice_index_or (slice_set ss k s) j None ≡ s)) ⊎ ((j ≢ k) × (slice_index_or (slice_set ss k s) j None ≡ slice_index_or ss j None))
set-standing ss k j s l (inl e) = inl (e, rw e (get_or-set_same ss k s None l))
set-standing ss k j s l (inr apart) = inr (apart, get_or-set_other ss k j s None apart)

apart-test : (k j : ℕ) → j ≢ k → (k == j) ≡ false
apart-test k j apart = grind (arith, nat_tests)

same-test : (k j : ℕ) → j ≡ k → (k == j) ≡ true
same-test k j e = grind (arith, nat_tests)

pub some-waits : (s : Option Standing) → is_waiting s ≡ true → is_some s ≡ true
some-waits None e = absurd (cc)
some-waits (Some s) e = refl

pub waits-inside : (ss : List (Option Standing)) (k : ℕ) → IsWaiting (slice_index_or ss k None) → k < length ss
waits-inside [] k h = absurd (cc)
waits-inside (s ∷ ss) zero h = omega arith
waits-inside (s ∷ ss) (suc k) h = omega (arith, waits-inside ss k h)

one-reclaimed : (t : Tally) (n m : ℕ) → m + 1 ≡ n → IsCounted t n → IsCounted (one_reclaimed t) m
one-reclaimed t n m e c = λ room. let all = c room in omega (arith, all, e, room)

one-in_place : (t : Tally) (n m : ℕ) → m + 1 ≡ n → IsCounted t n → IsCounted (one_in_place t) m
one-in_place t n m e c = λ room. let all = c room in omega (arith, all, e, room)

pub all_awaiting-guards : (ks : List ℕ) (x : Participant) → (all_awaiting ks x).guards ≡ x.guards
all_awaiting-guards [] x = refl
all_awaiting-guards (k ∷ ks) x = all_awaiting-guards ks (time.awaiting (Item k) x)

one-made : (t : Tally) (n m : ℕ) → m ≡ n + 1 → IsCounted t n → IsCounted (one_made t) m
one-made t n m e c = λ room. let all = c (omega (arith, room)) in omega (arith, all, e, room)

and-right : (a b : Bool) → (a && b) ≡ true → b ≡ true
and-right true b e = e
and-right false b e = absurd (cc)

and-left : (a b : Bool) → (a && b) ≡ true → a ≡ true
and-left true b e = refl
and-left false b e = absurd (cc)

-- a scan that passes every place passes each
pub all-pass : (count : ℕ) (ps : List Participant) (p : ℕ) → list_all (passes count) ps ≡ true → passes count (slice_index_or ps p nobody) ≡ true
all-pass count [] p e = refl
all-pass count (x ∷ ps) zero e = and-left (passes count x) (list_all (passes count) ps) e
all-pass count (x ∷ ps) (suc p) e = all-pass count ps p (and-right (passes count x) (list_all (passes count) ps) e)

passed-found : (count : ℕ) (x : Participant) → IsTrue (is_open x) → (b : Bool) → (x.found == count) ≡ b → passes count x ≡ true → count + 1 ≤ x.found + 1
passed-found count x o true e h = let same : x.found ≡ count = grind (arith, nat_tests, e) in omega (arith, same)
passed-found count x o false e h = let never : false ≡ true = rw (o, e) at h in absurd (cc)

passed-near : (count : ℕ) (x : Participant) → IsTrue (is_open x) → passes count x ≡ true → count + 1 ≤ x.found + 1
passed-near count x o e = passed-found count x o (x.found == count) refl e

counted-bound : (marked : Bool) (d : ℕ) → d ≤ 128 → (zero_test : Bool) → (d == 0) ≡ zero_test → (full : Bool) → (d == 128) ≡ full → counted_down marked d ≤ 128
counted-bound marked d h true e full f = rw e (omega arith)
counted-bound true d h false e true f = rw (e, f) (omega arith)
counted-bound false d h false e true f = rw (e, f) (omega arith)
counted-bound marked d h false e false f = rw (e, f) (omega arith)

counted-quiet : (marked : Bool) (d : ℕ) → d ≤ 128 → (zero_test : Bool) → (d == 0) ≡ zero_test → (full : Bool) → (d == 128) ≡ full →
    counted_down marked d ≡ 128 → d ≡ 128
counted-quiet marked d h true e full f is = absurd (omega (arith, rw e at is))
counted-quiet marked d h false e true f is = grind (arith, nat_tests, f)
counted-quiet marked d h false e false f is =
    let apart : d ≢ 0 = grind (arith, nat_tests, e) in
    let less : d - 1 ≡ 128 = rw (e, f) at is in
    omega (arith, less)

-- who counts down at 0 adopts, and everyone keeps up with the count
quiet-other : (x y : Participant) → Stays x y → (x.countdown ≡ 128 → x.bags.waiting ≡ []) →
    (y.bags.waiting ≡ x.bags.waiting) ⊎ (y.bags.waiting ≡ []) → y.countdown ≡ 128 → y.bags.waiting ≡ []
quiet-other x y s quiet (inl e) h = e ∙ quiet (sym s.countdown ∙ h)
quiet-other x y s quiet (inr e) h = e

quiet-each : (t u : EpochState) (p : ℕ) → Adopts p t u → (time.place_at t p).countdown ≡ 0 →
    ((r : ℕ) → (time.place_at t r).countdown ≡ 128 → (time.place_at t r).bags.waiting ≡ []) → (r : ℕ) → (r ≡ p) ⊎ (r ≢ p) →
    (time.place_at u r).countdown ≡ 128 → (time.place_at u r).bags.waiting ≡ []
quiet-each t u p a none quiet r (inl e) h =
    let same = (a.stays p).countdown in
    let here : (time.place_at u p).countdown ≡ 128 = subst (λ (n : ℕ). (time.place_at u n).countdown ≡ 128) e h in
    absurd (omega (arith, same, here, none))
quiet-each t u p a none quiet r (inr apart) h = quiet-other (time.place_at t r) (time.place_at u r) (a.stays r) (quiet r) (a.others r apart) h

abreast-adopted : (t u : EpochState) (p count : ℕ) → Adopts p t u → (time.place_at t p).countdown ≡ 0 → ((r : ℕ) → KeepsUp count (time.place_at t r)) →
    (r : ℕ) → KeepsUp count (time.place_at u r)
abreast-adopted t u p count a none all r =
    let s = a.stays r in
    let i = all r in
    record {
      found = omega (arith, i.found, s.found);
      near = λ o. omega (arith, i.near (subst (λ (n : ℕ). IsTrue (nat_lt 0 n)) s.guards o), s.found);
      young = a.young (λ q. (all q).young) r;
      countdown = omega (arith, i.countdown, s.countdown);
      quiet = quiet-each t u p a none (λ q. (all q).quiet) r (same-or-not r p);
    }

below-or-past-suc : (p n : ℕ) → (p < n) ⊎ (n ≤ p) → (suc p < suc n) ⊎ (suc n ≤ suc p)
below-or-past-suc p n (inl l) = inl (omega (arith, l))
below-or-past-suc p n (inr l) = inr (omega (arith, l))

pub below-or-past : (p n : ℕ) → (p < n) ⊎ (n ≤ p)
below-or-past p zero = inr (omega arith)
below-or-past zero (suc n) = inl (omega arith)
below-or-past (suc p) (suc n) = below-or-past-suc p n (below-or-past p n)

-- who stands behind the others: the last of them, or nobody
pub append-last : (ps : List Participant) (x : Participant) (p : ℕ) → length ps ≤ p →
    (slice_index_or (ps ++ x ∷ []) p nobody ≡ x) ⊎ (slice_index_or (ps ++ x ∷ []) p nobody ≡ nobody)
append-last [] x zero h = inl refl
append-last [] x (suc p) h = inr refl
append-last (y ∷ ps) x zero h = absurd (omega (arith, h))
append-last (y ∷ ps) x (suc p) h = append-last ps x p (omega (arith, h))

nobody-abreast : (count : ℕ) → KeepsUp count nobody
nobody-abreast count =
    record { found = omega arith; near = λ o. absurd (cc); young = All-nil (λ (w : Waiting). w.seen ≤ 2); countdown = omega arith; quiet = λ _. refl }

new-abreast : (count room : ℕ) (x : Participant) → (x ≡ newcomer room) ⊎ (x ≡ nobody) → KeepsUp count x
new-abreast count room x (inl e) =
    rw e (record { found = omega arith; near = λ o. absurd (cc); young = All-nil (λ (w : Waiting). w.seen ≤ 2); countdown = omega arith; quiet = λ _. refl })
new-abreast count room x (inr e) = rw e (nobody-abreast count)

module _ {T : Type 0} where
  pub filled-there : (w : World T) (k : ℕ) → map is_some w.values ≡ map is_some w.standings → is_some (value_at w k) ≡ is_some (standing_at w k)
  filled-there w k e = sym (get_or-map is_some w.values k None) ∙ ap (λ (bs : List Bool). slice_index_or bs k false) e ∙ get_or-map is_some w.standings k None

  same-filled : (w : World T) (k : ℕ) (s : Option Standing) → map is_some w.values ≡ map is_some w.standings → is_some s ≡ is_some (standing_at w k) →
      map is_some w.values ≡ map is_some (slice_set w.standings k s)
  same-filled w k s e f = e ∙ sym (map-set_same is_some w.standings k s None f)

  set-filled : (w : World T) (k : ℕ) (s : Option Standing) (v : Option T) → map is_some w.values ≡ map is_some w.standings → is_some v ≡ is_some s →
      map is_some (slice_set w.values k v) ≡ map is_some (slice_set w.standings k s)
  set-filled w k s v e f =
      map-set is_some w.values k v
      ∙ ap (λ (bs : List Bool). slice_set bs k (is_some v)) e
      ∙ ap (λ (b : Bool). slice_set (map is_some w.standings) k b) f
      ∙ sym (map-set is_some w.standings k s)

  -- how many slots are taken, where one is set
  pub set-taken : (w : World T) (k : ℕ) (s : Option Standing) → k < length w.standings →
      count_by is_some (slice_set w.standings k s) + cond (is_some (standing_at w k)) 1 0 ≡ taken w + cond (is_some s) 1 0
  set-taken w k s l = sum_by-set (λ (s : Option Standing). cond (is_some s) 1 0) w.standings k s None l

  pub whole-but-nothing : (w : World T) → HasItems w → IsWholeBut [] w
  whole-but-nothing w i = record { filled = i.filled; once = λ k. omega (arith, i.once k); abreast = i.abreast; counted = i.counted }

  pub whole-of : (w : World T) → IsWholeBut [] w → HasItems w
  whole-of w i = record { filled = i.filled; once = λ k. omega (arith, i.once k); abreast = i.abreast; counted = i.counted }

  -- an item that is out begins to wait
  waiting-times : (w : World T) (p k j : ℕ) (s : Standing) → p < length w.time.places →
      times_waiting (waiting_as w p k s) j ≡ times_waiting w j + cond (k == j) 1 0
  waiting-times w p k j s l =
      omega (arith, times-place w.time p j (time.awaiting (Item k) (place_at w p)) l, times-awaiting j (Item k) (place_at w p))

  waiting-once : (w : World T) (p k j : ℕ) (s : Standing) (xs : List LimboEntry) → is_waiting (Some s) ≡ true → p < length w.time.places →
      is_waiting (standing_at w k) ≡ false → IsWholeBut xs w →
      ((j ≡ k) × (standing_at (waiting_as w p k s) j ≡ Some s)) ⊎ ((j ≢ k) × (standing_at (waiting_as w p k s) j ≡ standing_at w j)) →
      times_waiting (waiting_as w p k s) j + times_among j xs ≡ once_if (is_waiting (standing_at (waiting_as w p k s) j))
  waiting-once w p k j s xs waits l idle i (inl (e, is)) =
      let before : times_waiting w j + times_among j xs ≡ 0 = i.once j ∙ rw (e, idle) refl in
      let more : one_where (k == j) ≡ 1 = rw (same-test k j e) refl in
      rw (is, waits) (omega (arith, waiting-times w p k j s l, before, more))
  waiting-once w p k j s xs waits l idle i (inr (apart, is)) =
      let more : one_where (k == j) ≡ 0 = rw (apart-test k j apart) refl in
      rw is (omega (arith, waiting-times w p k j s l, i.once j, more))

  Whole-waiting : (w : World T) (p k : ℕ) (s : Standing) (xs : List LimboEntry) → is_waiting (Some s) ≡ true → p < length w.time.places →
      is_out (standing_at w k) ≡ true → IsWholeBut xs w → IsWholeBut xs (waiting_as w p k s)
  Whole-waiting w p k s xs waits l out i =
      let inside : k < length w.standings = out-inside w.standings k out in
      let some = out-some (standing_at w k) out in
      let same : taken (waiting_as w p k s) ≡ taken w =
      let c = set-taken w k (Some s) inside in let o : one_where (is_some (standing_at w k)) ≡ 1 = rw some refl in omega (arith, c, o) in
      record {
        filled = same-filled w k (Some s) i.filled (sym some);
        once = λ j. waiting-once w p k j s xs waits l (out-waits-not (standing_at w k) out) i
            (set-standing w.standings k j (Some s) inside (same-or-not j k));
        abreast =
            abreast-place w.time w.time.count p (time.awaiting (Item k) (place_at w p)) l
            (abreast-awaiting w.time.count (Item k) (place_at w p) (i.abreast p)) i.abreast;
        counted = rw same i.counted;
      }

  Whole-retired : (w : World T) (p k : ℕ) (xs : List LimboEntry) → p < length w.time.places → is_out (standing_at w k) ≡ true → IsWholeBut xs w →
      IsWholeBut xs (retired w p k)
  Whole-retired w p k xs l out i = Whole-waiting w p k Retired xs refl l out i

  -- a job begins to wait
  pub Items-deferred : (w : World T) (p j : ℕ) → p < length w.time.places → HasItems w → HasItems (deferred w p j)
  Items-deferred w p j l i =
      let x : Participant = time.awaiting (Job j) (place_at w p) in
      record {
        filled = i.filled;
        once = λ k. omega (arith, i.once k, times-place w.time p k x l, times-awaiting k (Job j) (place_at w p));
        abreast = abreast-place w.time w.time.count p x l (abreast-awaiting w.time.count (Job j) (place_at w p) (i.abreast p)) i.abreast;
        counted = i.counted;
      }

  -- an item that is shared has one owner more or fewer
  shared-once : (w : World T) (k n m j : ℕ) (xs : List LimboEntry) → standing_at w k ≡ Some (Shared n) → IsWholeBut xs w →
      ((j ≡ k) × (standing_at (with_standing w k (Shared m)) j ≡ Some (Shared m)))
      ⊎ ((j ≢ k) × (standing_at (with_standing w k (Shared m)) j ≡ standing_at w j)) →
      times_waiting w j + times_among j xs ≡ once_if (is_waiting (standing_at (with_standing w k (Shared m)) j))
  shared-once w k n m j xs is i (inl (e, s)) = rw s (i.once j ∙ rw (e, is) refl)
  shared-once w k n m j xs is i (inr (apart, s)) = rw s (i.once j)

  Whole-shared-but : (w : World T) (k n m : ℕ) (xs : List LimboEntry) → standing_at w k ≡ Some (Shared n) → IsWholeBut xs w →
      IsWholeBut xs (with_standing w k (Shared m))
  Whole-shared-but w k n m xs is i =
      let inside : k < length w.standings = in_range w.standings k (Shared n) is in
      let same : taken (with_standing w k (Shared m)) ≡ taken w =
      let c = set-taken w k (Some (Shared m)) inside in let o : one_where (is_some (standing_at w k)) ≡ 1 = rw is refl in omega (arith, c, o) in
      record {
        filled = same-filled w k (Some (Shared m)) i.filled (sym (ap is_some is));
        once = λ j. shared-once w k n m j xs is i (set-standing w.standings k j (Some (Shared m)) inside (same-or-not j k));
        abreast = i.abreast;
        counted = rw same i.counted;
      }

  -- an item that is out stands otherwise, and is out
  restands-once : (w : World T) (k j : ℕ) (s : Standing) → is_waiting (standing_at w k) ≡ false → is_waiting (Some s) ≡ false → HasItems w →
      ((j ≡ k) × (standing_at (with_standing w k s) j ≡ Some s)) ⊎ ((j ≢ k) × (standing_at (with_standing w k s) j ≡ standing_at w j)) →
      times_waiting w j ≡ once_if (is_waiting (standing_at (with_standing w k s) j))
  restands-once w k j s was now i (inl (e, is)) = rw (is, now) (i.once j ∙ rw (e, was) refl)
  restands-once w k j s was now i (inr (apart, is)) = rw is (i.once j)

  pub Items-restands : (w : World T) (k : ℕ) (s : Standing) → is_out (standing_at w k) ≡ true → is_out (Some s) ≡ true → HasItems w →
      HasItems (with_standing w k s)
  Items-restands w k s was now i =
      let inside : k < length w.standings = out-inside w.standings k was in
      let some = out-some (standing_at w k) was in
      let same : taken (with_standing w k s) ≡ taken w =
      let c = set-taken w k (Some s) inside in let o : one_where (is_some (standing_at w k)) ≡ 1 = rw some refl in omega (arith, c, o) in
      record {
        filled = same-filled w k (Some s) i.filled (sym some);
        once = λ j. restands-once w k j s (out-waits-not (standing_at w k) was) (out-waits-not (Some s) now) i
            (set-standing w.standings k j (Some s) inside (same-or-not j k));
        abreast = i.abreast;
        counted = rw same i.counted;
      }

  Whole-owner_given : (w : World T) (p k : ℕ) (xs : List LimboEntry) (s : Option Standing) → p < length w.time.places → standing_at w k ≡ s → IsWholeBut xs w →
      IsWholeBut xs (owner_given w p k s)
  Whole-owner_given w p k xs s l is i =
      owner-given (λ (u : World T). IsWholeBut xs u) w p k s is i (λ out. Whole-retired w p k xs l out i)
      (λ n several more. Whole-shared-but w k n (n - 1) xs several i)

  Whole-spilled : (w : World T) (p : ℕ) (xs : List LimboEntry) (held : Option ℕ) → p < length w.time.places → IsWholeBut xs w → IsWholeBut xs (spilled w p held)
  Whole-spilled w p xs None l i = i
  Whole-spilled w p xs (Some k) l i = Whole-owner_given w p k xs (standing_at w k) l refl i

  Whole-cell_closed-but : (w : World T) (p c : ℕ) (xs : List LimboEntry) → p < length w.time.places → IsWholeBut xs w → IsWholeBut xs (cell_closed w p c)
  Whole-cell_closed-but w p c xs l i =
      Whole-spilled (record w { cells = without_entry w.cells c }) p xs (held_in (entry_at w.cells c)) l
      (record { filled = i.filled; once = i.once; abreast = i.abreast; counted = i.counted })

  Whole-given : (w : World T) (p : ℕ) (h : OwnerOrCell) (xs : List LimboEntry) → p < length w.time.places → IsWholeBut xs w → IsWholeBut xs (given w p h)
  Whole-given w p (owned k home) xs l i = Whole-owner_given w p k xs (standing_at w k) l refl i
  Whole-given w p (shared k home) xs l i = Whole-owner_given w p k xs (standing_at w k) l refl i
  Whole-given w p (atomic_owned c home) xs l i = Whole-cell_closed-but w p c xs l i
  Whole-given w p (atomic_shared c home) xs l i = Whole-cell_closed-but w p c xs l i
  Whole-given w p (atomic_raw c home) xs l i = Whole-cell_closed-but w p c xs l i

  Whole-given_all : (w : World T) (p : ℕ) (hs : List OwnerOrCell) (xs : List LimboEntry) → p < length w.time.places → IsWholeBut xs w
      → IsWholeBut xs (given_all w p hs)
  Whole-given_all w p [] xs l i = i
  Whole-given_all w p (h ∷ hs) xs l i = Whole-given_all (given w p h) p hs xs (Gives-range l (Gives-given w p h l)) (Whole-given w p h xs l i)

  -- a slot that waited is free
  freed-once : (w : World T) (k j : ℕ) (x : LimboEntry) (xs : List LimboEntry) → ((j : ℕ) → is_of_slot j x ≡ (k == j)) → is_waiting (standing_at w k) ≡ true →
      IsWholeBut (x ∷ xs) w →
      ((j ≡ k) × (standing_at (freed w k) j ≡ None)) ⊎ ((j ≢ k) × (standing_at (freed w k) j ≡ standing_at w j)) →
      times_waiting w j + times_among j xs ≡ once_if (is_waiting (standing_at (freed w k) j))
  freed-once w k j x xs of waits i (inl (e, s)) =
      let before : times_waiting w j + times_among j (x ∷ xs) ≡ 1 = i.once j ∙ rw (e, waits) refl in
      let here : times_among j (x ∷ xs) ≡ 1 + times_among j xs = count-cons (is_of_slot j) x xs ∙ rw (of j, same-test k j e) refl in
      rw s (omega (arith, before, here))
  freed-once w k j x xs of waits i (inr (apart, s)) =
      let here : times_among j (x ∷ xs) ≡ 0 + times_among j xs = count-cons (is_of_slot j) x xs ∙ rw (of j, apart-test k j apart) refl in
      rw s (omega (arith, i.once j, here))

  Whole-freed : (w : World T) (k : ℕ) (x : LimboEntry) (xs : List LimboEntry) → ((j : ℕ) → is_of_slot j x ≡ (k == j)) → is_waiting (standing_at w k) ≡ true →
      IsWholeBut (x ∷ xs) w → IsWholeBut xs (freed w k)
  Whole-freed w k x xs of waits i =
      let inside : k < length w.standings = waits-inside w.standings k waits in
      let one : one_where (is_some (standing_at w k)) ≡ 1 = rw (some-waits (standing_at w k) waits) refl in
      let fewer : taken (freed w k) + 1 ≡ taken w = omega (arith, set-taken w k None inside, one) in
      record {
        filled = set-filled w k None None i.filled refl;
        once = λ j. freed-once w k j x xs of waits i (set-standing w.standings k j None inside (same-or-not j k));
        abreast = i.abreast;
        counted = one-reclaimed w.tally (taken w) (taken (freed w k)) fewer i.counted;
      }

  -- a slot whose item was out is free
  vacated-once : (w : World T) (k j : ℕ) (xs : List LimboEntry) → is_waiting (standing_at w k) ≡ false → IsWholeBut xs w →
      ((j ≡ k) × (standing_at (vacated w k) j ≡ None)) ⊎ ((j ≢ k) × (standing_at (vacated w k) j ≡ standing_at w j)) →
      times_waiting w j + times_among j xs ≡ once_if (is_waiting (standing_at (vacated w k) j))
  vacated-once w k j xs idle i (inl (e, s)) = rw s (i.once j ∙ rw (e, idle) refl)
  vacated-once w k j xs idle i (inr (apart, s)) = rw s (i.once j)

  Whole-vacated : (w : World T) (k : ℕ) (xs : List LimboEntry) → is_out (standing_at w k) ≡ true → IsWholeBut xs w → IsWholeBut xs (vacated w k)
  Whole-vacated w k xs out i =
      let inside : k < length w.standings = out-inside w.standings k out in
      let one : one_where (is_some (standing_at w k)) ≡ 1 = rw (out-some (standing_at w k) out) refl in
      let fewer : taken (vacated w k) + 1 ≡ taken w = omega (arith, set-taken w k None inside, one) in
      record {
        filled = set-filled w k None None i.filled refl;
        once = λ j. vacated-once w k j xs (out-waits-not (standing_at w k) out) i (set-standing w.standings k j None inside (same-or-not j k));
        abreast = i.abreast;
        counted = one-in_place w.tally (taken w) (taken (vacated w k)) fewer i.counted;
      }

  module _ (holds : T → List OwnerOrCell) where
    Whole-dropped_out : (w : World T) (p k : ℕ) (xs : List LimboEntry) → p < length w.time.places → is_out (standing_at w k) ≡ true → IsWholeBut xs w →
        (v : Option T) → IsWholeBut xs (dropped_out holds w p k v)
    Whole-dropped_out w p k xs l out i None = i
    Whole-dropped_out w p k xs l out i (Some v) = Whole-given_all (vacated w k) p (holds v) xs l (Whole-vacated w k xs out i)

    pub Items-dropped : (w : World T) (p k : ℕ) → p < length w.time.places → is_out (standing_at w k) ≡ true → HasItems w → HasItems (dropped holds w p k)
    Items-dropped w p k l out i = whole-of (dropped holds w p k) (Whole-dropped_out w p k [] l out (whole-but-nothing w i) (value_at w k))

    Whole-value : (w : World T) (p k : ℕ) (x : LimboEntry) (xs : List LimboEntry) → p < length w.time.places → ((j : ℕ) → is_of_slot j x ≡ (k == j)) →
        is_waiting (standing_at w k) ≡ true →
        IsWholeBut (x ∷ xs) w → (v : Option T) → is_some v ≡ true → IsWholeBut xs (taken_out holds w p k v)
    Whole-value w p k x xs l of waits i None e = absurd (cc)
    Whole-value w p k x xs l of waits i (Some v) e = Whole-given_all (freed w k) p (holds v) xs l (Whole-freed w k x xs of waits i)

    -- what is to be reclaimed waits
    among-waits : (w : World T) (k : ℕ) (x : LimboEntry) (xs : List LimboEntry) → ((j : ℕ) → is_of_slot j x ≡ (k == j)) → IsWholeBut (x ∷ xs) w →
        is_waiting (standing_at w k) ≡ false → ⊥
    among-waits w k x xs of i idle =
        let before : times_waiting w k + times_among k (x ∷ xs) ≡ 0 = i.once k ∙ rw idle refl in
        let here : times_among k (x ∷ xs) ≡ 1 + times_among k xs = count-cons (is_of_slot k) x xs ∙ rw (of k, same-test k k refl) refl in
        absurd (omega (arith, before, here))

    Whole-standing : (w : World T) (p k : ℕ) (x : LimboEntry) (xs : List LimboEntry) → p < length w.time.places → ((j : ℕ) → is_of_slot j x ≡ (k == j)) →
        (s : Option Standing) → standing_at w k ≡ s →
        IsWholeBut (x ∷ xs) w → IsWholeBut xs (taken_out holds w p k (waiting_value w k s))
    Whole-standing w p k x xs l of None is i = absurd (among-waits w k x xs of i (ap is_waiting is))
    Whole-standing w p k x xs l of (Some Owned) is i = absurd (among-waits w k x xs of i (ap is_waiting is))
    Whole-standing w p k x xs l of (Some Raw) is i = absurd (among-waits w k x xs of i (ap is_waiting is))
    Whole-standing w p k x xs l of (Some (Shared n)) is i = absurd (among-waits w k x xs of i (ap is_waiting is))
    Whole-standing w p k x xs l of (Some Retired) is i =
        Whole-value w p k x xs l of (ap is_waiting is) i (value_at w k) (filled-there w k i.filled ∙ ap is_some is)
    Whole-standing w p k x xs l of (Some (privately c)) is i =
        Whole-value w p k x xs l of (ap is_waiting is) i (value_at w k) (filled-there w k i.filled ∙ ap is_some is)

    Whole-reclaimed : (w : World T) (p : ℕ) (x : LimboEntry) (xs : List LimboEntry) → p < length w.time.places → IsWholeBut (x ∷ xs) w →
        IsWholeBut xs (reclaimed holds w p x)
    Whole-reclaimed w p (Item k) xs l i = Whole-standing w p k (Item k) xs l (λ j. refl) (standing_at w k) refl i
    Whole-reclaimed w p (Job n) xs l i =
        record { filled = i.filled; once = λ k. omega (arith, i.once k, count-cons (is_of_slot k) (Job n) xs); abreast = i.abreast; counted = i.counted }

    pub Whole-all_reclaimed : (w : World T) (p : ℕ) (xs : List LimboEntry) → p < length w.time.places → IsWholeBut xs w
        → IsWholeBut [] (all_reclaimed holds w p xs)
    Whole-all_reclaimed w p [] l i = i
    Whole-all_reclaimed w p (x ∷ xs) l i =
        Whole-all_reclaimed (reclaimed holds w p x) p xs (Gives-range l (Gives-reclaimed holds w p x l)) (Whole-reclaimed w p x xs l i)

  -- only a place changed, and nothing that waits there
  Whole-place : (w : World T) (p : ℕ) (x : Participant) → p < length w.time.places → x.bags.waiting ≡ (place_at w p).bags.waiting →
      KeepsUp w.time.count x → HasItems w →
      HasItems (record w { time = with_place w.time p x })
  Whole-place w p x l e a i =
      record {
        filled = i.filled;
        once = λ k. times-same w.time p k x l e ∙ i.once k;
        abreast = abreast-place w.time w.time.count p x l a i.abreast;
        counted = i.counted;
      }

  -- one more guard or none, and then a rotation
  Whole-rotated : (w : World T) (p : ℕ) (x : Participant) → p < length w.time.places → x.bags ≡ (place_at w p).bags →
      x.countdown ≡ (place_at w p).countdown → HasItems w →
      IsWholeBut (due_next x) (record w { time = with_place w.time p (time.rotated w.time.count x) })
  Whole-rotated w p x l bags pace i =
      let a = i.abreast p in
      let listed : (k : ℕ) → times_listed k x.bags.waiting ≡ times_with k (place_at w p) = λ k. ap (λ (b : Bags). times_listed k b.waiting) bags in
      record {
        filled = i.filled;
        once = λ k. omega (arith, i.once k, times-place w.time p k (time.rotated w.time.count x) l, times-aged k x.bags.waiting, listed k);
        abreast =
            abreast-place w.time w.time.count p (time.rotated w.time.count x) l
            (abreast-rotated w.time.count x (omega (arith, a.countdown, pace)) (λ e. ap (λ (b : Bags). b.waiting) bags ∙ a.quiet (sym pace ∙ e)))
            i.abreast;
        counted = i.counted;
      }

  Whole-settles : (holds : T → List OwnerOrCell) (start : World T) (p : ℕ) (xs : List LimboEntry) → p < length start.time.places → IsWholeBut xs start →
      HasItems (steps.settled (all_reclaimed holds start p xs) p)
  Whole-settles holds start p xs l i =
      let end = all_reclaimed holds start p xs in
      let there = whole-of end (Whole-all_reclaimed holds start p xs l i) in
      Whole-place end p (time.settled (place_at end p)) (Gives-range l (Gives-all_reclaimed holds start p xs l)) refl
      (abreast-settled end.time.count (place_at end p) (there.abreast p)) there

  pub Items-changed : (holds : T → List OwnerOrCell) (w : World T) (p : ℕ) → p < length w.time.places → HasItems w → HasItems (changed holds w p)
  Items-changed holds w p l i =
      let in_start : p < length (steps.rotated w p).time.places = omega (arith, l, length-set w.time.places p (time.rotated w.time.count (place_at w p))) in
      Whole-settles holds (steps.rotated w p) p (due_next (place_at w p)) in_start (Whole-rotated w p (place_at w p) l refl refl i)

  -- an opening
  nested-rotated : (w : World T) (p : ℕ) → p < length w.time.places →
      steps.rotated (steps.nested w p) p ≡ record w { time = with_place w.time p (time.rotated w.time.count (time.nested (place_at w p))) }
  nested-rotated w p l =
      ap (λ (x : Participant). record w { time = with_place (with_place w.time p (time.nested (place_at w p))) p (time.rotated w.time.count x) })
      (get_or-set_same w.time.places p (time.nested (place_at w p)) nobody l)
      ∙ ap (λ (ps : List Participant). record w { time = record w.time { places = ps } })
      (set-set w.time.places p (time.nested (place_at w p)) (time.rotated w.time.count (time.nested (place_at w p))))

  pub Items-changes_nested : (holds : T → List OwnerOrCell) (w : World T) (p : ℕ) → p < length w.time.places → HasItems w →
      HasItems (changed holds (steps.nested w p) p)
  Items-changes_nested holds w p l i =
      let y : Participant = time.nested (place_at w p) in
      let here : place_at (steps.nested w p) p ≡ y = get_or-set_same w.time.places p y nobody l in
      let start = steps.rotated (steps.nested w p) p in
      let in_start : p < length start.time.places =
      omega (arith, l, length-set w.time.places p y, length-set (steps.nested w p).time.places p (time.rotated w.time.count (place_at (steps.nested w p) p))) in
      let from : IsWholeBut (due_next y) start = rw (nested-rotated w p l) (Whole-rotated w p y l refl refl i) in
      Whole-settles holds start p (due_next (place_at (steps.nested w p) p)) in_start
      (subst (λ (z : Participant). IsWholeBut (due_next z) start) (sym here) from)

  pub Items-nested : (w : World T) (p : ℕ) → p < length w.time.places → w.time.count ≤ (place_at w p).found + 1 → HasItems w → HasItems (steps.nested w p)
  Items-nested w p l near i =
      let a = i.abreast p in
      Whole-place w p (time.nested (place_at w p)) l refl
      (record { found = a.found; near = λ _. near; young = a.young; countdown = a.countdown; quiet = a.quiet }) i

  Whole-caught_up_if : (holds : T → List OwnerOrCell) (w : World T) (p : ℕ) → p < length w.time.places → HasItems w → (b : Bool) →
      ((place_at w p).found == w.time.count) ≡ b →
      time.finds_another (steps.nested w p).time p ≡ not b → HasItems (steps.caught_up holds (steps.nested w p) p)
  Whole-caught_up_if holds w p l i true e test =
      let same : (place_at w p).found ≡ w.time.count = grind (arith, nat_tests, e) in
      rw test (Items-nested w p l (omega (arith, same)) i)
  Whole-caught_up_if holds w p l i false e test = rw test (Items-changes_nested holds w p l i)

  Whole-caught_up : (holds : T → List OwnerOrCell) (w : World T) (p : ℕ) → p < length w.time.places → HasItems w → (b : Bool) →
      ((place_at w p).found == w.time.count) ≡ b →
      HasItems (steps.caught_up holds (steps.nested w p) p)
  Whole-caught_up holds w p l i b e =
      let here : place_at (steps.nested w p) p ≡ time.nested (place_at w p) = get_or-set_same w.time.places p (time.nested (place_at w p)) nobody l in
      let test : time.finds_another (steps.nested w p).time p ≡ not b = ap (λ (x : Participant). not (x.found == w.time.count)) here ∙ ap not e in
      Whole-caught_up_if holds w p l i b e test

  Whole-opened_if : (holds : T → List OwnerOrCell) (w : World T) (p : ℕ) → p < length w.time.places → HasItems w → (b : Bool) → is_open (place_at w p) ≡ b →
      HasItems (steps.opened holds w p)
  Whole-opened_if holds w p l i true e = rw e (Items-nested w p l ((i.abreast p).near e) i)
  Whole-opened_if holds w p l i false e = rw e (Whole-caught_up holds w p l i ((place_at w p).found == w.time.count) refl)

  pub Items-opened : (holds : T → List OwnerOrCell) (w : World T) (p : ℕ) → p < length w.time.places → HasItems w → HasItems (steps.opened holds w p)
  Items-opened holds w p l i = Whole-opened_if holds w p l i (is_open (place_at w p)) refl

  pub Items-cell_closed : (w : World T) (p c : ℕ) → p < length w.time.places → HasItems w → HasItems (cell_closed w p c)
  Items-cell_closed w p c l i = whole-of (cell_closed w p c) (Whole-cell_closed-but w p c [] l (whole-but-nothing w i))

  pub Items-waiting : (w : World T) (p k : ℕ) (s : Standing) → is_waiting (Some s) ≡ true → p < length w.time.places → is_out (standing_at w k) ≡ true →
      HasItems w → HasItems (waiting_as w p k s)
  Items-waiting w p k s waits l out i = whole-of (waiting_as w p k s) (Whole-waiting w p k s [] waits l out (whole-but-nothing w i))

  -- a collector is closed
  Whole-without : (w : World T) (c : ℕ) → HasItems w → IsWholeBut (waiting_for w c) (without_collector w c)
  Whole-without w c i = record {
    filled = i.filled;
    once = λ k. omega (arith, i.once k, listed-without (is_of_slot k) (is_for w c) w.time.places);
    abreast = λ p. abreast-all w.time.count (is_for w c) w.time.places p (i.abreast p);
    counted = i.counted;
  }

  pub Items-collector_closed : (holds : T → List OwnerOrCell) (w : World T) (p c : ℕ) → p < length w.time.places → HasItems w →
      HasItems (collector_closed holds w p c)
  Items-collector_closed holds w p c l i =
      let start = without_collector w c in
      let inside : p < length start.time.places = omega (arith, l, length-map w.time.places (without (is_for w c))) in
      whole-of (collector_closed holds w p c) (Whole-all_reclaimed holds start p (waiting_for w c) inside (Whole-without w c i))

  pub Items-shared : (w : World T) (k n m : ℕ) → standing_at w k ≡ Some (Shared n) → HasItems w → HasItems (with_standing w k (Shared m))
  Items-shared w k n m is i = whole-of (with_standing w k (Shared m)) (Whole-shared-but w k n m [] is (whole-but-nothing w i))

  pub Items-owner_given : (w : World T) (p k : ℕ) → p < length w.time.places → (s : Option Standing) → standing_at w k ≡ s → HasItems w →
      HasItems (owner_given w p k s)
  Items-owner_given w p k l s is i = whole-of (owner_given w p k s) (Whole-owner_given w p k [] s l is (whole-but-nothing w i))

  -- an item has another value
  pub Items-with_value : (w : World T) (k : ℕ) (v : T) → is_out (standing_at w k) ≡ true → HasItems w → HasItems (with_value w k v)
  Items-with_value w k v out i = record {
    filled = map-set_same is_some w.values k (Some v) None (sym (filled-there w k i.filled ∙ out-some (standing_at w k) out)) ∙ i.filled;
    once = i.once;
    abreast = i.abreast;
    counted = i.counted;
  }

  pub Items-cells : (w : World T) (cells : Entries CellContents) → HasItems w → HasItems (record w { cells = cells })
  Items-cells w cells i = record { filled = i.filled; once = i.once; abreast = i.abreast; counted = i.counted }

  pub Items-pointers : (w : World T) (pointers : List RawCellContents) → HasItems w → HasItems (record w { pointers = pointers })
  Items-pointers w pointers i = record { filled = i.filled; once = i.once; abreast = i.abreast; counted = i.counted }

  pub Items-stirred : (w : World T) (p : ℕ) → p < length w.time.places → HasItems w → HasItems (steps.stirred w p)
  Items-stirred w p l i =
      let a = i.abreast p in
      let low : stirred (place_at w p).countdown ≤ 127 = stirred-bound (place_at w p).countdown a.countdown ((place_at w p).countdown == 128) refl in
      Whole-place w p (time.with_garbage (place_at w p)) l refl
      (record { found = a.found; near = a.near; young = a.young; countdown = omega arith; quiet = λ e. absurd (omega (arith, e, low)) }) i

  pub Items-accelerated : (w : World T) (p : ℕ) → p < length w.time.places → HasItems w → HasItems (steps.accelerated w p)
  Items-accelerated w p l i =
      let a = i.abreast p in
      Whole-place w p (time.accelerated (place_at w p)) l refl
      (record { found = a.found; near = a.near; young = a.young; countdown = omega arith; quiet = λ e. absurd (omega (arith, e)) }) i

  -- a change, after which p has its pace again
  pub Items-paced : (w : World T) (p : ℕ) (pace : CountdownState) → p < length w.time.places → KeepsUp w.time.count (time.paced pace (place_at w p))
      → HasItems w →
      HasItems (record w { time = time.paced_at w.time p pace })
  Items-paced w p pace l a i = Whole-place w p (time.paced pace (place_at w p)) l refl a i

  pub abreast-paced : (holds : T → List OwnerOrCell) (w : World T) (p : ℕ) → p < length w.time.places → HasItems w →
      KeepsUp (changed holds w p).time.count (time.paced (pace_of (place_at w p)) (place_at (changed holds w p) p))
  abreast-paced holds w p l i =
      let a = i.abreast p in
      let c = changes holds w p l in
      let after = Items-changed holds w p l i in
      let guards : (place_at (changed holds w p) p).guards ≡ (place_at w p).guards =
      ap (λ (x : Participant). x.guards) c.own ∙ all_awaiting-guards c.slots (time.rotated w.time.count (place_at w p)) in
      record {
        found = omega (arith, a.found, c.count);
        near = λ o. omega (arith, a.near (subst (λ (n : ℕ). IsTrue (nat_lt 0 n)) guards o), c.count);
        young = (after.abreast p).young;
        countdown = a.countdown;
        quiet = λ e.
            let nothing = a.quiet e in
            ap (λ (x : Participant). x.bags.waiting) c.own
            ∙ rw (c.from_due (ap (λ (ws : List Waiting). due (aged ws)) nothing)) (ap (λ (ws : List Waiting). left (aged ws)) nothing);
      }

  -- a value is put into a free slot
  made-once : (w : World T) (k j : ℕ) (v : T) (s : Standing) → is_waiting (Some s) ≡ false → standing_at w k ≡ None → HasItems w →
      ((j ≡ k) × (standing_at (made_as w k v s) j ≡ Some s)) ⊎ ((j ≢ k) × (standing_at (made_as w k v s) j ≡ standing_at w j)) →
      times_waiting w j ≡ once_if (is_waiting (standing_at (made_as w k v s) j))
  made-once w k j v s idle free i (inl (e, is)) = rw (is, idle) (i.once j ∙ rw (e, free) refl)
  made-once w k j v s idle free i (inr (apart, is)) = rw is (i.once j)

  pub Items-made_as : (w : World T) (k : ℕ) (v : T) (s : Standing) → is_waiting (Some s) ≡ false → k < length w.standings → standing_at w k ≡ None →
      HasItems w → HasItems (made_as w k v s)
  Items-made_as w k v s idle l free i =
      let none : one_where (is_some (standing_at w k)) ≡ 0 = rw free refl in
      let one : taken (made_as w k v s) ≡ taken w + 1 = omega (arith, set-taken w k (Some s) l, none) in
      record {
        filled = set-filled w k (Some s) (Some v) i.filled refl;
        once = λ j. made-once w k j v s idle free i (set-standing w.standings k j (Some s) l (same-or-not j k));
        abreast = i.abreast;
        counted = one-made w.tally (taken w) (taken (made_as w k v s)) one i.counted;
      }

  -- a guard is closed
  Whole-inner : (w : World T) (p : ℕ) → p < length w.time.places → nat_lt 1 (place_at w p).guards ≡ true → HasItems w →
      HasItems (record w { time = with_place w.time p (record (place_at w p) { guards = (place_at w p).guards - 1 }) })
  Whole-inner w p l e i =
      let a = i.abreast p in
      let two : 1 < (place_at w p).guards = grind (arith, nat_tests, e) in
      let opened : is_open (place_at w p) ≡ true = grind (arith, nat_tests) in
      Whole-place w p (record (place_at w p) { guards = (place_at w p).guards - 1 }) l refl
      (record { found = a.found; near = λ _. a.near opened; young = a.young; countdown = a.countdown; quiet = a.quiet }) i

  -- the count goes on by one: who has a guard open has found the one before
  Whole-raised : (w : World T) → ((p : ℕ) → passes w.time.count (place_at w p) ≡ true) → HasItems w →
      HasItems (record w { time = record w.time { count = w.time.count + 1 } })
  Whole-raised w all i =
      record {
        filled = i.filled;
        once = i.once;
        abreast = λ p. let a = i.abreast p in
            record {
              found = omega (arith, a.found);
              near = λ o. passed-near w.time.count (place_at w p) o (all p);
              young = a.young;
              countdown = a.countdown;
              quiet = a.quiet;
            };
        counted = i.counted;
      }

  Whole-raised_if : (w : World T) (b : Bool) → (nat_lt w.time.count last_count && list_all (passes w.time.count) w.time.places) ≡ b → HasItems w →
      HasItems (record w { time = if b then record w.time { count = w.time.count + 1 } else w.time })
  Whole-raised_if w true e i =
      Whole-raised w (λ p. all-pass w.time.count w.time.places p
      (and-right (nat_lt w.time.count last_count) (list_all (passes w.time.count) w.time.places) e)) i
  Whole-raised_if w false e i = i

  Whole-unmarked : (w : World T) → HasItems w → HasItems (record w { time = record w.time { marked = false } })
  Whole-unmarked w i = record { filled = i.filled; once = i.once; abreast = i.abreast; counted = i.counted }

  Whole-adopted : (w : World T) (p : ℕ) → IsLive w.time p → (place_at w p).countdown ≡ 0 → HasItems w → HasItems (record w { time = time.adopted w.time p })
  Whole-adopted w p l none i =
      let u = time.adopted w.time p in
      let a = adopts w.time p l in
      let count : w.time.count ≡ u.count = sym (ap (λ (t : EpochState). t.count) a.only) in
      record {
        filled = i.filled;
        once = λ k. a.totals (times_listed k) (listed-additive (is_of_slot k)) ∙ i.once k;
        abreast = λ r. subst (λ (n : ℕ). KeepsUp n (time.place_at u r)) count (abreast-adopted w.time u p w.time.count a none i.abreast r);
        counted = i.counted;
      }

  Whole-scanned_if : (w : World T) (p : ℕ) → IsLive w.time p → (place_at w p).countdown ≡ 0 → (b : Bool) → HasItems w →
      HasItems (record w { time = if b then time.raised (record (time.adopted w.time p) { marked = false }) else w.time })
  Whole-scanned_if w p l none true i =
      let u = time.adopted w.time p in
      Whole-raised_if (record w { time = record u { marked = false } }) (nat_lt u.count last_count && list_all (passes u.count) u.places) refl
      (Whole-unmarked (record w { time = u }) (Whole-adopted w p l none i))
  Whole-scanned_if w p l none false i = i

  Whole-scans_if : (w : World T) (p : ℕ) → IsLive w.time p → (b : Bool) → ((place_at w p).countdown == 0) ≡ b → HasItems w →
      HasItems (record w { time = if b then time.scanned w.time p else w.time })
  Whole-scans_if w p l true e i = Whole-scanned_if w p l (grind (arith, nat_tests, e)) ((place_at w p).found == w.time.count) i
  Whole-scans_if w p l false e i = i

  Whole-left : (w : World T) (p : ℕ) (marked : Bool) → p < length w.time.places → HasItems w →
      HasItems (record w { time = with_place w.time p (rested marked (place_at w p)) })
  Whole-left w p marked l i =
      let a = i.abreast p in
      let d = (place_at w p).countdown in
      Whole-place w p (rested marked (place_at w p)) l refl
      (record {
        found = a.found;
        near = λ o. absurd (cc);
        young = a.young;
        countdown = counted-bound marked d a.countdown (d == 0) refl (d == 128) refl;
        quiet = λ e. a.quiet (counted-quiet marked d a.countdown (d == 0) refl (d == 128) refl e);
      })
      i

  Whole-last : (w : World T) (p : ℕ) → IsLive w.time p → HasItems w → (b : Bool) →
      HasItems (record w { time = if b then time.left_by w.time p else w.time })
  Whole-last w p l i true =
      let scans = (place_at w p).countdown == 0 in
      let u : World T = record w { time = if scans then time.scanned w.time p else w.time } in
      Whole-left u p w.time.marked (scans-there l.0 (scans-if w.time p l scans)) (Whole-scans_if w p l scans refl i)
  Whole-last w p l i false = i

  Whole-closed-if : (w : World T) (p : ℕ) → IsLive w.time p → HasItems w → (b : Bool) → nat_lt 1 (place_at w p).guards ≡ b → HasItems (steps.closed w p)
  Whole-closed-if w p l i true e = rw e (Whole-inner w p l.0 e i)
  Whole-closed-if w p l i false e = rw e (Whole-last w p l i (is_open (place_at w p)))

  pub Items-closed : (w : World T) (p : ℕ) → IsLive w.time p → HasItems w → HasItems (steps.closed w p)
  Items-closed w p l i = Whole-closed-if w p l i (nat_lt 1 (place_at w p).guards) refl

  -- a newcomer takes a place, or one place more
  registered-abreast : (w : World T) (p : ℕ) → HasItems w → (p < length w.time.places) ⊎ (length w.time.places ≤ p) →
      KeepsUp w.time.count (slice_index_or (w.time.places ++ newcomer w.time.room ∷ []) p nobody)
  registered-abreast w p i (inl l) = rw (get_or-append w.time.places (newcomer w.time.room ∷ []) nobody p l) (i.abreast p)
  registered-abreast w p i (inr past) =
      new-abreast w.time.count w.time.room (slice_index_or (w.time.places ++ newcomer w.time.room ∷ []) p nobody)
      (append-last w.time.places (newcomer w.time.room) p past)

  Whole-registered-if : (w : World T) (p : ℕ) → (p < length w.time.places → (place_at w p).bags.waiting ≡ []) → HasItems w → (b : Bool) →
      nat_lt p (length w.time.places) ≡ b → HasItems (steps.registered w p)
  Whole-registered-if w p bare i true e =
      let l : p < length w.time.places = grind (arith, nat_tests, e) in
      let x = newcomer w.time.room in
      let new = Whole-place w p x l (sym (bare l)) (new-abreast w.time.count w.time.room x (inl refl)) i in
      rw e (record { filled = new.filled; once = new.once; abreast = new.abreast; counted = new.counted })
  Whole-registered-if w p bare i false e =
      rw e
      (record {
        filled = i.filled;
        once = λ k. sum_by-append (times_with k) w.time.places (newcomer w.time.room ∷ []) ∙ omega (arith, i.once k);
        abreast = λ q. registered-abreast w q i (below-or-past q (length w.time.places));
        counted = i.counted;
      })

  pub Items-registered : (w : World T) (p : ℕ) → (p < length w.time.places → (place_at w p).bags.waiting ≡ []) → HasItems w → HasItems (steps.registered w p)
  Items-registered w p bare i = Whole-registered-if w p bare i (nat_lt p (length w.time.places)) refl

  -- where a value was, it is
  made-value : (w : World T) (k : ℕ) (v : T) (s : Standing) → HasItems w → standing_at w k ≡ None → (j : ℕ) (u : T) → value_at w j ≡ Some u →
      (j ≡ k) ⊎ (j ≢ k) → value_at (made_as w k v s) j ≡ Some u
  made-value w k v s i free j u h (inr apart) = get_or-set_other w.values k j (Some v) None apart ∙ h
  made-value w k v s i free j u h (inl e) =
      let some : is_some (value_at w j) ≡ true = ap is_some h in
      let none : is_some (value_at w k) ≡ false = filled-there w k i.filled ∙ ap is_some free in
      absurd (cc)

  pub made-keeps : (w : World T) (k : ℕ) (v : T) (s : Standing) → HasItems w → standing_at w k ≡ None → (j : ℕ) (u : T) → value_at w j ≡ Some u →
      value_at (made_as w k v s) j ≡ Some u
  made-keeps w k v s i free j u h = made-value w k v s i free j u h (same-or-not j k)
