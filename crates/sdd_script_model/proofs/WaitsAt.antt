-- An item or a job that waits at a place
use Rattle.sdd_script_model.proofs.Words.{sum_by, zero, eq-eqb, get_or-set_other, get_or-set_same, get_or_past, sum_by-cons, sum_by-set, Waiting, having_seen, Job, is_of_job, is_of_slot, once_if, nothing-waits, IsChange, Nests, all_awaiting-waiting, count-cons, is_waiting_in, All-contains, aged, due, is_due, older, differs, opens-changed, IsTaken, ◌≡◌, ◌≢◌, ◌⊎◌, ℕ, suc, ◌+◌, ◌<◌, ◌≤◌, ◌==◌, Bool, true, false, List, [], ◌∷◌, length, count_by, slice_index_or, slice_set, inl, inr, refl, sym, ap, ◌∙◌, subst, arith, cases_eq, cases_lt, false≢true, nat_tests, Contains, LimboEntry, Item, nobody, is_open, Participant, World, place_at, opened, IsWhole, Val, holdings_of}
use Rattle.sdd_participants.specs.Waiting.{left}
use Rattle.sdd_script_model.proofs.Lemmas.{counted-there}
use Rattle.sdd_participants.specs.EpochState as time
use Rattle.sdd_world_model.proofs.ParticipantChanges as own

-- ---- how often it waits

-- what waits is this
abbrev pub is_of : LimboEntry → LimboEntry → Bool
is_of (Item s) = is_of_slot s
is_of (Job k) = is_of_job k

pub of-same : (x y : LimboEntry) → is_of x y ≡ true → y ≡ x
of-same (Item s) (Item k) e = let same : k ≡ s = grind (arith, nat_tests, e) in ap (λ j. Item j) same
of-same (Item s) (Job k) e = absurd (false≢true e)
of-same (Job j) (Item k) e = absurd (false≢true e)
of-same (Job j) (Job k) e = let same : k ≡ j = grind (arith, nat_tests, e) in ap (λ i. Job i) same

pub of-self : (x : LimboEntry) → is_of x x ≡ true
of-self (Item s) = eq-eqb s s refl
of-self (Job k) = eq-eqb k k refl

-- how often it is among these
abbrev pub times_listed : LimboEntry → List Waiting → ℕ
times_listed x ws = count_by (λ (w : Waiting). is_of x w.what) ws

abbrev pub times_with : LimboEntry → Participant → ℕ
times_with x p = times_listed x p.bags.waiting

abbrev pub times_waiting : World Val → LimboEntry → ℕ
times_waiting w x = sum_by (times_with x) w.time.places

-- it waits at a place, and has seen so many changes
abbrev pub AwaitsAt : World Val → (place : ℕ) → LimboEntry → (seen : ℕ) → Type 0
AwaitsAt w q x seen = Contains (place_at w q).bags.waiting (having_seen seen x)

pub whole-once : (w : World Val) → IsWhole w → (x : LimboEntry) → times_waiting w x ≡ once_if (is_waiting_in w x)
whole-once w i (Item s) = i.once s
whole-once w i (Job k) = i.jobs_once k

once-bound : (b : Bool) → once_if b ≤ 1
once-bound true = omega arith
once-bound false = omega arith

once-waits : (b : Bool) → 1 ≤ once_if b → b ≡ true
once-waits true h = refl
once-waits false h = absurd (omega (arith, h))

pub one-place : (x : LimboEntry) (ps : List Participant) (p : ℕ) → times_with x (slice_index_or ps p nobody) ≤ sum_by (times_with x) ps
one-place x [] p = omega arith
one-place x (y ∷ ps) zero = omega (arith, sum_by-cons (times_with x) y ps)
one-place x (y ∷ ps) (suc p) = omega (arith, sum_by-cons (times_with x) y ps, one-place x ps p)

two-places : (x : LimboEntry) (ps : List Participant) (p q : ℕ) → p ≢ q → q < length ps →
    times_with x (slice_index_or ps p nobody) + times_with x (slice_index_or ps q nobody) ≤ sum_by (times_with x) ps
two-places x ps p q apart l =
    let without = slice_set ps q nobody in
    let same : times_with x (slice_index_or without p nobody) ≡ times_with x (slice_index_or ps p nobody) =
    ap (λ (y : Participant). times_with x y) (get_or-set_other ps q p nobody nobody apart) in
    omega (arith, sum_by-set (times_with x) ps q nobody nobody l, one-place x without p, same)

entry-counts : (x : LimboEntry) (seen : ℕ) (ws : List Waiting) → Contains ws (having_seen seen x) → 1 ≤ times_listed x ws
entry-counts x seen ws h = counted-there (λ (w : Waiting). is_of x w.what) ws (having_seen seen x) h (of-self x)

-- what is among these once has seen so many changes
one-entry : (x : LimboEntry) (ws : List Waiting) (c e : ℕ) → Contains ws (having_seen c x) → Contains ws (having_seen e x) → times_listed x ws ≤ 1 → c ≡ e
one-entry x [] c e h g once = absurd (omega (arith, h.1))
one-entry x (w ∷ ws) c e (zero, l, is) (zero, m, as_well) once = ap (λ (y : Waiting). y.seen) (sym is ∙ as_well)
one-entry x (w ∷ ws) c e (zero, l, is) (suc j, m, as_well) once =
    let first : is_of x w.what ≡ true = ap (λ (y : Waiting). is_of x y.what) is ∙ of-self x in
    let all : times_listed x (w ∷ ws) ≡ 1 + times_listed x ws = count-cons (λ (y : Waiting). is_of x y.what) w ws ∙ rw first refl in
    absurd (omega (arith, once, all, entry-counts x e ws (j, omega (arith, m), as_well)))
one-entry x (w ∷ ws) c e (suc i, l, is) (zero, m, as_well) once =
    let first : is_of x w.what ≡ true = ap (λ (y : Waiting). is_of x y.what) as_well ∙ of-self x in
    let all : times_listed x (w ∷ ws) ≡ 1 + times_listed x ws = count-cons (λ (y : Waiting). is_of x y.what) w ws ∙ rw first refl in
    absurd (omega (arith, once, all, entry-counts x c ws (i, omega (arith, l), is)))
one-entry x (w ∷ ws) c e (suc i, l, is) (suc j, m, as_well) once =
    one-entry x ws c e (i, omega (arith, l), is) (j, omega (arith, m), as_well)
    (omega (arith, once, count-cons (λ (y : Waiting). is_of x y.what) w ws))

module _ (w : World Val) (q : ℕ) (x : LimboEntry) (seen : ℕ) (h : AwaitsAt w q x seen) where
  at-place : q < length w.time.places
  at-place = by (cases_lt q (length w.time.places)) where
    by : (q < length w.time.places) ⊎ (length w.time.places ≤ q) → q < length w.time.places
    by (inl l) = l
    by (inr past) =
        let nothing : (place_at w q).bags.waiting ≡ [] = ap (λ (y : Participant). y.bags.waiting) (get_or_past w.time.places q nobody past) in
        absurd (nothing-waits (place_at w q).bags.waiting (having_seen seen x) h nothing)

  module _ (i : IsWhole w) where
    pub awaits-waits : is_waiting_in w x ≡ true
    awaits-waits =
        once-waits (is_waiting_in w x)
        (omega (arith, whole-once w i x, entry-counts x seen (place_at w q).bags.waiting h, one-place x w.time.places q))

    pub awaits-young : seen ≤ 2
    awaits-young = All-contains (λ (y : Waiting). y.seen ≤ 2) (place_at w q).bags.waiting (having_seen seen x) (i.abreast q).young h

    pub awaits-taken : IsTaken w.time q
    awaits-taken = record {
      there = at-place;
      taken = λ none. nothing-waits (place_at w q).bags.waiting (having_seen seen x) h (i.housed.bare q none);
    }

    -- it waits nowhere else, and has seen no other number of changes
    pub awaits-once : (r c : ℕ) → AwaitsAt w r x c → (r ≡ q) × (c ≡ seen)
    awaits-once r c g =
        let all = whole-once w i x in
        let bound = once-bound (is_waiting_in w x) in
        let mine = entry-counts x seen (place_at w q).bags.waiting h in
        elim (cases_eq r q) [
          | inl same ↦ (
            same,
            one-entry x (place_at w q).bags.waiting c seen (subst (λ p. AwaitsAt w p x c) same g) h
                (omega (arith, all, bound, one-place x w.time.places q)),
          )
          | inr apart ↦
              absurd (omega (arith, all, bound, mine, entry-counts x c (place_at w r).bags.waiting g, two-places x w.time.places r q apart at-place))
        ]

-- ---- a change

later-listed : {X : Type 0} (x : X) (xs : List X) (y : X) → Contains xs y → Contains (x ∷ xs) y
later-listed x xs y h = (suc h.0, omega (arith, h.1), h.2)

-- behind one that is due, and before, or not
left-behind : (w : Waiting) (ws : List Waiting) (y : Waiting) (b : Bool) → is_due (older w) ≡ b → Contains (left (aged ws)) y →
    Contains (left (aged (w ∷ ws))) y
left-behind w ws y true e h = rw e h
left-behind w ws y false e h = rw e (later-listed (older w) (left (aged ws)) y h)

due-behind : (w : Waiting) (ws : List Waiting) (x : LimboEntry) (b : Bool) → is_due (older w) ≡ b → Contains (due (aged ws)) x →
    Contains (due (aged (w ∷ ws))) x
due-behind w ws x true e h = rw e (later-listed w.what (due (aged ws)) x h)
due-behind w ws x false e h = rw e h

-- what has seen fewer than two has seen one more
pub older-there : (x : LimboEntry) (c : ℕ) (ws : List Waiting) → c < 2 → Contains ws (having_seen c x) → Contains (left (aged ws)) (having_seen (c + 1) x)
older-there x c [] young h = absurd (omega (arith, h.1))
older-there x c (w ∷ ws) young (zero, l, e) =
    let fits : is_due (older w) ≡ false = rw e (grind (arith, nat_tests, young)) in
    rw fits (zero, omega arith, ap (λ (y : Waiting). older y) e)
older-there x c (w ∷ ws) young (suc k, l, e) =
    left-behind w ws (having_seen (c + 1) x) (is_due (older w)) refl (older-there x c ws young (k, omega (arith, l), e))

-- what has seen two is due
pub due-there : (x : LimboEntry) (ws : List Waiting) → Contains ws (having_seen 2 x) → Contains (due (aged ws)) x
due-there x [] h = absurd (omega (arith, h.1))
due-there x (w ∷ ws) (zero, l, e) =
    let ripe : is_due (older w) ≡ true = rw e refl in
    rw ripe (zero, omega arith, ap (λ (y : Waiting). y.what) e)
due-there x (w ∷ ws) (suc k, l, e) = due-behind w ws x (is_due (older w)) refl (due-there x ws (k, omega (arith, l), e))

-- what is among these has seen two, or more
abbrev IsRipe : LimboEntry → List Waiting → Type 0
IsRipe x ws = (c : ℕ) × (2 ≤ c) × Contains ws (having_seen c x)

ripe-first : (x : LimboEntry) (w : Waiting) (ws : List Waiting) → is_due (older w) ≡ true → (Contains (due (aged ws)) x → IsRipe x (w ∷ ws)) →
    Contains (w.what ∷ due (aged ws)) x → IsRipe x (w ∷ ws)
ripe-first x w ws e rest (zero, l, is) = (w.seen, grind (arith, nat_tests, e), (zero, omega arith, ap (λ y. having_seen w.seen y) is))
ripe-first x w ws e rest (suc k, l, is) = rest (k, omega (arith, l), is)

ripe-or : (x : LimboEntry) (w : Waiting) (ws : List Waiting) (b : Bool) → is_due (older w) ≡ b → (Contains (due (aged ws)) x → IsRipe x (w ∷ ws)) →
    Contains (due (aged (w ∷ ws))) x → IsRipe x (w ∷ ws)
ripe-or x w ws true e rest h = ripe-first x w ws e rest (rw e at h)
ripe-or x w ws false e rest h = rest (rw e at h)

-- what is due has seen two, or more
pub due-from : (x : LimboEntry) (ws : List Waiting) → Contains (due (aged ws)) x → IsRipe x ws
due-from x [] h = absurd (omega (arith, h.1))
due-from x (w ∷ ws) h =
    ripe-or x w ws (is_due (older w)) refl (λ g. let f = due-from x ws g in (f.0, f.1, later-listed w ws (having_seen f.0 x) f.2)) h

module _ (w : World Val) (p : ℕ) (x : LimboEntry) (seen : ℕ) (l : p < length w.time.places) where
  pub nests-awaits : Nests holdings_of w p → AwaitsAt w p x seen → AwaitsAt (opened holdings_of w p) p x seen
  nests-awaits n h =
      let here : place_at (opened holdings_of w p) p ≡ time.nested (place_at w p) =
      ap (λ (u : World Val). place_at u p) n.nests ∙ get_or-set_same w.time.places p (time.nested (place_at w p)) nobody l in
      subst (λ (y : Participant). Contains y.bags.waiting (having_seen seen x)) (sym here) h

  pub change-awaits : IsChange holdings_of w p → seen < 2 → AwaitsAt w p x seen → AwaitsAt (opened holdings_of w p) p x (seen + 1)
  change-awaits c young h =
      let o = own.opens holdings_of w p l (is_open (place_at w p)) refl in
      let y : Waiting = having_seen (seen + 1) x in
      let test : ((place_at w p).found == w.time.count) ≡ false = differs (place_at w p).found w.time.count c.another in
      let here = o.own ∙ opens-changed w.time.count o.slots (place_at w p) c.closed_before test in
      subst (λ (z : Participant). Contains z.bags.waiting y) (sym here)
      (all_awaiting-waiting o.slots (time.rotated w.time.count (time.nested (place_at w p))) y (older-there x seen (place_at w p).bags.waiting young h))
