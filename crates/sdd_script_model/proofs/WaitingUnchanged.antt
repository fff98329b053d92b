-- What waits, after a step in which nobody comes or goes and no guard is opened or closed
use Rattle.sdd_script_model.proofs.Words.{sum_by, get_or-map, length-map, with_place, Waiting, having_seen, Job, without, collector_closed, is_for, without_collector, all_awaiting, listed-without, all_awaiting-waiting, Gives, Gives-collector_closed, one_where, all_awaiting-guards, is_waiting_in, Contains-push, fresh, each-place, listed-awaiting, listed-place, rest-contains, still-waits, all_awaiting-found, ◌≡◌, ◌⊎◌, ℕ, ◌<◌, ◌≤◌, Bool, true, false, List, [], ◌∷◌, length, count_by, inl, inr, refl, sym, ap, ◌∙◌, subst, arith, false≢true, Contains, LimboEntry, Item, EpochState, nobody, Participant, is_waiting, World, place_at, IsWhole, Val, holdings_of, length-set}
use Rattle.sdd_world_model.proofs.Collecting.{goes}
use Rattle.sdd_script_model.proofs.Lemmas.{at-same}
use Rattle.sdd_script_model.proofs.WaitsAt.{AwaitsAt, awaits-waits, is_of, of-same, one-place, times_waiting, times_with, whole-once}
use Rattle.sdd_participants.specs.EpochState as time
use Rattle.sdd_world_model.specs.WorldChanges as steps

-- the places are as before, what waits goes on to wait where it did, and what begins to wait waits with p
pub record Calmly (p : ℕ) (v w : World Val) : Type 0 where
  pub phases : w.time.phases ≡ v.time.phases
  pub places : length w.time.places ≡ length v.time.places
  pub count : w.time.count ≡ v.time.count
  pub found : (q : ℕ) → (place_at w q).found ≡ (place_at v q).found
  pub guards : (q : ℕ) → (place_at w q).guards ≡ (place_at v q).guards
  pub kept : (q : ℕ) (x : LimboEntry) (seen : ℕ) → AwaitsAt v q x seen → is_waiting_in w x ≡ true → AwaitsAt w q x seen
  pub begun : (x : LimboEntry) → is_waiting_in w x ≡ true → is_waiting_in v x ≡ false → AwaitsAt w p x 0

-- ---- what is new at a place

-- it begins to wait, if that is what begins to wait
fresh-or : (x what : LimboEntry) (y : Participant) (b : Bool) → is_of x what ≡ b →
    Contains (time.awaiting what y).bags.waiting (fresh x) ⊎ (times_with x (time.awaiting what y) ≡ times_with x y)
fresh-or x what y true e =
    inl (subst (λ z. Contains (time.awaiting what y).bags.waiting (fresh z)) (of-same x what e) (Contains-push y.bags.waiting (fresh what)))
fresh-or x what y false e =
    let none : one_where (is_of x what) ≡ 0 = rw e refl in
    inr (omega (arith, listed-awaiting (is_of x) what y, none))

pub fresh-one : (x what : LimboEntry) (y : Participant) → times_with x y ≡ 0 → 1 ≤ times_with x (time.awaiting what y) →
    Contains (time.awaiting what y).bags.waiting (fresh x)
fresh-one x what y none some =
    elim (fresh-or x what y (is_of x what) refl) [
      | inl h ↦ h
      | inr same ↦ absurd (omega (arith, none, some, same))
    ]

-- of items that begin to wait, one that didn't wait there before is fresh
pub fresh-among : (x : LimboEntry) (ks : List ℕ) (y : Participant) → times_with x y ≡ 0 → 1 ≤ times_with x (all_awaiting ks y) →
    Contains (all_awaiting ks y).bags.waiting (fresh x)
fresh-among x [] y none some = absurd (omega (arith, none, some))
fresh-among x (k ∷ ks) y none some =
    elim (fresh-or x (Item k) y (is_of x (Item k)) refl) [
      | inl h ↦ all_awaiting-waiting ks (time.awaiting (Item k) y) (fresh x) h
      | inr same ↦ fresh-among x ks (time.awaiting (Item k) y) (omega (arith, none, same)) some
    ]

-- what waits nowhere of the one time, and once of the other, in which one place differs, waits there
only-there : (t u : EpochState) (p : ℕ) (x : LimboEntry) (y : Participant) → p < length t.places → u ≡ with_place t p y →
    sum_by (times_with x) t.places ≡ 0 → sum_by (times_with x) u.places ≡ 1 → (times_with x (time.place_at t p) ≡ 0) × (1 ≤ times_with x y)
only-there t u p x y l e none one =
    let put = listed-place (is_of x) t p y l in
    let here = one-place x t.places p in
    let same : sum_by (times_with x) u.places ≡ sum_by (times_with x) (with_place t p y).places = ap (λ (z : EpochState). sum_by (times_with x) z.places) e in
    (omega (arith, here, none), omega (arith, put, here, none, one, same))

module _ (p : ℕ) (v w : World Val) (whole : IsWhole v) (after : IsWhole w) where
  one-now : (x : LimboEntry) → is_waiting_in w x ≡ true → times_waiting w x ≡ 1
  one-now x now = rw now at (whole-once w after x)

  none-before : (x : LimboEntry) → is_waiting_in v x ≡ false → times_waiting v x ≡ 0
  none-before x was = rw was at (whole-once v whole x)

  -- while time stands still nothing begins to wait
  pub still-begins : w.time ≡ v.time → (x : LimboEntry) → is_waiting_in w x ≡ true → is_waiting_in v x ≡ false → ⊥
  still-begins e x now was =
      let same : times_waiting w x ≡ times_waiting v x = ap (λ (t : EpochState). sum_by (times_with x) t.places) e in
      omega (arith, same, one-now x now, none-before x was)

  pub calm-still : w.time ≡ v.time → Calmly p v w
  calm-still e = record {
    phases = ap (λ (t : EpochState). t.phases) e;
    places = ap (λ (t : EpochState). length t.places) e;
    count = ap (λ (t : EpochState). t.count) e;
    found = λ q. ap (λ (t : EpochState). (time.place_at t q).found) e;
    guards = λ q. ap (λ (t : EpochState). (time.place_at t q).guards) e;
    kept = λ q x seen h now. subst (λ (t : EpochState). Contains (time.place_at t q).bags.waiting (having_seen seen x)) (sym e) h;
    begun = λ x now was. absurd (still-begins e x now was);
  }

  -- the place of p is written, and what is new in it is fresh
  pub calm-put : (y : Participant) → p < length v.time.places → w.time ≡ with_place v.time p y → y.found ≡ (place_at v p).found →
      y.guards ≡ (place_at v p).guards → ((z : Waiting) → Contains (place_at v p).bags.waiting z → Contains y.bags.waiting z) →
      ((x : LimboEntry) → times_with x (place_at v p) ≡ 0 → 1 ≤ times_with x y → Contains y.bags.waiting (fresh x)) → Calmly p v w
  calm-put y l e found guards kept only =
      let each = each-place v.time p y in
      let here : place_at w p ≡ y = ap (λ (t : EpochState). time.place_at t p) e ∙ at-same v.time.places p y nobody l in
      record {
        phases = ap (λ (t : EpochState). t.phases) e;
        places = ap (λ (t : EpochState). length t.places) e ∙ length-set v.time.places p y;
        count = ap (λ (t : EpochState). t.count) e;
        found = λ q. ap (λ (t : EpochState). (time.place_at t q).found) e ∙ each (λ r z. z.found ≡ (place_at v r).found) l found (λ r. refl) q;
        guards = λ q. ap (λ (t : EpochState). (time.place_at t q).guards) e ∙ each (λ r z. z.guards ≡ (place_at v r).guards) l guards (λ r. refl) q;
        kept = λ q x seen h now.
            subst (λ (t : EpochState). Contains (time.place_at t q).bags.waiting (having_seen seen x)) (sym e)
            (each (λ r z. Contains (place_at v r).bags.waiting (having_seen seen x) → Contains z.bags.waiting (having_seen seen x)) l
            (kept (having_seen seen x)) (λ r g. g) q h);
        begun = λ x now was.
            (let new = only-there v.time w.time p x y l e (none-before x was) (one-now x now) in
            subst (λ (z : Participant). Contains z.bags.waiting (fresh x)) (sym here) (only x new.0 new.1));
      }

  -- what waits there is as before
  pub calm-same : (y : Participant) → p < length v.time.places → w.time ≡ with_place v.time p y → y.found ≡ (place_at v p).found →
      y.guards ≡ (place_at v p).guards → y.bags.waiting ≡ (place_at v p).bags.waiting → Calmly p v w
  calm-same y l e found guards bags =
      calm-put y l e found guards (λ z h. subst (λ ws. Contains ws z) (sym bags) h) (λ x none some.
      (let same : times_with x y ≡ times_with x (place_at v p) = ap (λ ws. count_by (λ (z : Waiting). is_of x z.what) ws) bags in
      absurd (omega (arith, same, none, some))))

  -- items are given up to it
  pub calm-gives : p < length v.time.places → Gives p v w → Calmly p v w
  calm-gives l g =
      let y = place_at v p in
      calm-put (all_awaiting g.slots y) l g.time (all_awaiting-found g.slots y) (all_awaiting-guards g.slots y) (all_awaiting-waiting g.slots y)
      (λ x. fresh-among x g.slots y)

-- ---- each step

module _ (v : World Val) (p : ℕ) (l : p < length v.time.places) (whole : IsWhole v) where
  pub calm-stirred : IsWhole (steps.stirred v p) → Calmly p v (steps.stirred v p)
  calm-stirred after = calm-same p v (steps.stirred v p) whole after (time.with_garbage (place_at v p)) l refl refl refl refl

  pub calm-accelerated : IsWhole (steps.accelerated v p) → Calmly p v (steps.accelerated v p)
  calm-accelerated after = calm-same p v (steps.accelerated v p) whole after (time.accelerated (place_at v p)) l refl refl refl refl

  -- a job waits
  pub calm-deferred : (j : ℕ) → IsWhole (steps.deferred v p j) → Calmly p v (steps.deferred v p j)
  calm-deferred j after =
      let y = place_at v p in
      calm-put p v (steps.deferred v p j) whole after (time.awaiting (Job j) y) l refl refl refl (still-waits (Job j) y) (λ x. fresh-one x (Job j) y)

  -- the close of a collector: what waits for it doesn't wait any more
  module _ (c : ℕ) (after : IsWhole (collector_closed holdings_of v p c)) where
    abbrev w : World Val
    w = collector_closed holdings_of v p c

    abbrev u : World Val
    u = without_collector v c

    abbrev chosen : LimboEntry → Bool
    chosen = is_for v c

    within : p < length u.time.places
    within = omega (arith, l, length-map v.time.places (without chosen))

    abbrev g : Gives p u w
    g = Gives-collector_closed holdings_of v p c l

    there : (q : ℕ) → place_at u q ≡ without chosen (place_at v q)
    there q = get_or-map (without chosen) v.time.places q nobody

    -- what waits for it doesn't wait any more
    gone-for : (x : LimboEntry) → is_waiting_in v x ≡ true → chosen x ≡ true → is_waiting_in w x ≡ true → ⊥
    gone-for (Item s) waits for now =
        false≢true (sym (ap is_waiting (goes v c s whole holdings_of p waits for).standing) ∙ now)
    gone-for (Job j) waits for now = false≢true for

    stays-at : (q : ℕ) (x : LimboEntry) (seen : ℕ) → AwaitsAt v q x seen → is_waiting_in w x ≡ true → (b : Bool) → chosen x ≡ b → AwaitsAt w q x seen
    stays-at q x seen h now true for = absurd (gone-for x (awaits-waits v q x seen h whole) for now)
    stays-at q x seen h now false other =
        let y : Waiting = having_seen seen x in
        let stays : Contains (place_at u q).bags.waiting y =
        subst (λ (z : Participant). Contains z.bags.waiting y) (sym (there q)) (rest-contains chosen (place_at v q).bags.waiting y other h) in
        subst (λ (t : EpochState). Contains (time.place_at t q).bags.waiting y) (sym g.time)
        (each-place u.time p (all_awaiting g.slots (place_at u p)) (λ r z. Contains (place_at u r).bags.waiting y → Contains z.bags.waiting y) within
        (all_awaiting-waiting g.slots (place_at u p) y) (λ r k. k) q stays)

    pub calm-collector : Calmly p v w
    calm-collector =
        let x = place_at u p in
        let each = each-place u.time p (all_awaiting g.slots x) in
        let here : place_at w p ≡ all_awaiting g.slots x =
        ap (λ (t : EpochState). time.place_at t p) g.time ∙ at-same u.time.places p (all_awaiting g.slots x) nobody within in
        record {
          phases = ap (λ (t : EpochState). t.phases) g.time;
          places = ap (λ (t : EpochState). length t.places) g.time ∙ length-set u.time.places p (all_awaiting g.slots x)
              ∙ length-map v.time.places (without chosen);
          count = ap (λ (t : EpochState). t.count) g.time;
          found = λ q. ap (λ (t : EpochState). (time.place_at t q).found) g.time
              ∙ each (λ r y. y.found ≡ (place_at u r).found) within (all_awaiting-found g.slots x) (λ r. refl) q
              ∙ ap (λ (y : Participant). y.found) (there q);
          guards = λ q. ap (λ (t : EpochState). (time.place_at t q).guards) g.time
              ∙ each (λ r y. y.guards ≡ (place_at u r).guards) within (all_awaiting-guards g.slots x) (λ r. refl) q
              ∙ ap (λ (y : Participant). y.guards) (there q);
          kept = λ q y seen h now. stays-at q y seen h now (chosen y) refl;
          begun = λ y now was.
              (let none : times_waiting u y ≡ 0 = omega (arith, listed-without (is_of y) chosen v.time.places, rw was at (whole-once v whole y)) in
              let new = only-there u.time w.time p y (all_awaiting g.slots x) within g.time none (rw now at (whole-once w after y)) in
              subst (λ (z : Participant). Contains z.bags.waiting (fresh y)) (sym here) (fresh-among y g.slots x new.0 new.1));
        }
