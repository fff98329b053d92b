-- How often something waits, counted over what waits: what changes one place, an age or a holder makes of it
use Rattle.std.proofs.Common.{zero-add, zero, suc, ◌⊎◌, inl, inr, ◌≡◌, ◌≢◌, ℕ, ◌+◌, ◌<◌, ◌≤◌, slice_index_or, slice_set, List, [], ◌∷◌, length, cond, Bool, refl, sym, ap, ◌∙◌, arith, true, false, nat_lt, sum_by, count_by}
use Rattle.std.specs.Prelude.{◌-◌, ◌==◌, Contains, map, if◌then◌else◌}
use Rattle.std.proofs.lemmas.Bool.Decides.{nat_tests}
use Rattle.std.proofs.lemmas.List.Sums.{get_or-le-sum_by, sum_by-set, sum_by-append, sum_by-cons}
use Rattle.std.proofs.lemmas.List.{get_or-set_other}
use Rattle.sdd_participants.proofs.Adoptions.{IsAdditive, scans-if, scans-there}
use Rattle.sdd_participants.specs.declared.waiting.LimboEntry.{LimboEntry}
use Rattle.sdd_participants.specs.Waiting.{Waiting, anew, fresh, having_seen, aged, left, due, older, is_due}
use Rattle.sdd_participants.specs.EpochState.{EpochState, IsLive, with_place, nobody, newcomer, is_open, rested}
use Rattle.sdd_participants.specs.EpochState as time
use Rattle.sdd_participants.specs.Collecting.{chosen_of, chosen_among, rest_of, without}
use Rattle.sdd_participants.specs.declared.participant.Participant.{Participant}

pub count-cons : {X : Type 0} (p : X → Bool) (x : X) (xs : List X) → count_by p (x ∷ xs) ≡ cond (p x) 1 0 + count_by p xs
count-cons p x xs = sum_by-cons (λ x. cond (p x) 1 0) x xs

-- what is not chosen is left
rest-cons : (chosen : LimboEntry → Bool) (w : Waiting) (ws : List Waiting) (y : Waiting) → chosen y.what ≡ false → (w ≡ y) ⊎ Contains (rest_of chosen ws) y →
    (b : Bool) → chosen w.what ≡ b → Contains (rest_of chosen (w ∷ ws)) y
rest-cons chosen w ws y other (inl e) true is = absurd (let never : true ≡ false = sym is ∙ ap (λ (z : Waiting). chosen z.what) e ∙ other in cc)
rest-cons chosen w ws y other (inl e) false is = rw is (zero, omega arith, e)
rest-cons chosen w ws y other (inr h) true is = rw is h
rest-cons chosen w ws y other (inr h) false is = rw is (suc h.0, omega (arith, h.1), h.2)

rest-or : (chosen : LimboEntry → Bool) (w : Waiting) (ws : List Waiting) (y : Waiting) → chosen y.what ≡ false → Contains (w ∷ ws) y →
    (Contains ws y → Contains (rest_of chosen ws) y) → Contains (rest_of chosen (w ∷ ws)) y
rest-or chosen w ws y other (zero, l, e) on = rest-cons chosen w ws y other (inl e) (chosen w.what) refl
rest-or chosen w ws y other (suc n, l, e) on = rest-cons chosen w ws y other (inr (on (n, omega (arith, l), e))) (chosen w.what) refl

pub rest-contains : (chosen : LimboEntry → Bool) (ws : List Waiting) (y : Waiting) → chosen y.what ≡ false → Contains ws y → Contains (rest_of chosen ws) y
rest-contains chosen [] y other h = h
rest-contains chosen (w ∷ ws) y other h = rest-or chosen w ws y other h (λ g. rest-contains chosen ws y other g)

module _ (of : LimboEntry → Bool) where
  -- how often it is among these
  abbrev pub listed : List Waiting → ℕ
  listed ws = count_by (λ (w : Waiting). of w.what) ws

  -- and how often it waits with a participant
  abbrev pub listed_with : Participant → ℕ
  listed_with p = listed p.bags.waiting

  -- one place changes
  pub listed-place : (t : EpochState) (p : ℕ) (x : Participant) → p < length t.places →
      sum_by listed_with (with_place t p x).places + listed_with (time.place_at t p) ≡ sum_by listed_with t.places + listed_with x
  listed-place t p x l = sum_by-set listed_with t.places p x nobody l

  pub listed-same : (t : EpochState) (p : ℕ) (x : Participant) → p < length t.places → x.bags.waiting ≡ (time.place_at t p).bags.waiting →
      sum_by listed_with (with_place t p x).places ≡ sum_by listed_with t.places
  listed-same t p x l e =
      let same : listed_with x ≡ listed_with (time.place_at t p) = ap listed e in
      omega (arith, listed-place t p x l, same)

  -- something begins to wait
  pub listed-awaiting : (what : LimboEntry) (x : Participant) → listed_with (time.awaiting what x) ≡ listed_with x + cond (of what) 1 0
  listed-awaiting what x =
      sum_by-append (λ (w : Waiting). cond (of w.what) 1 0) x.bags.waiting (fresh what ∷ [])
      ∙ ap (λ n. listed_with x + n) (zero-add (cond (of what) 1 0))

  -- who is among these is counted
  pub listed-counts : (what : LimboEntry) → of what ≡ true → (seen : ℕ) (ws : List Waiting) → Contains ws (having_seen seen what) → 1 ≤ listed ws
  listed-counts what own seen ws (k, l, is) =
      rw (is, own) at (get_or-le-sum_by (λ (w : Waiting). cond (of w.what) 1 0) ws k (having_seen seen what) l)

  pub among-counts : (what : LimboEntry) → of what ≡ true → (xs : List LimboEntry) → Contains xs what → 1 ≤ count_by of xs
  among-counts what own xs (k, l, is) = rw (is, own) at (get_or-le-sum_by (λ (x : LimboEntry). cond (of x) 1 0) xs k what l)

  -- what waits with one participant, and what waits with two
  pub listed-one : (ps : List Participant) (p : ℕ) → listed_with (slice_index_or ps p nobody) ≤ sum_by listed_with ps
  listed-one [] p = omega arith
  listed-one (x ∷ ps) zero = omega (arith, sum_by-cons listed_with x ps)
  listed-one (x ∷ ps) (suc p) = omega (arith, sum_by-cons listed_with x ps, listed-one ps p)

  pub listed-two : (ps : List Participant) (p q : ℕ) → p ≢ q → q < length ps →
      listed_with (slice_index_or ps p nobody) + listed_with (slice_index_or ps q nobody) ≤ sum_by listed_with ps
  listed-two ps p q apart l =
      let without = slice_set ps q nobody in
      let other : slice_index_or without p nobody ≡ slice_index_or ps p nobody = get_or-set_other ps q p nobody nobody apart in
      let same : listed_with (slice_index_or without p nobody) ≡ listed_with (slice_index_or ps p nobody) = ap (λ (x : Participant). listed_with x) other in
      omega (arith, sum_by-set listed_with ps q nobody nobody l, listed-one without p, same)

  -- after a change, what waited is left or due
  listed-aged-cons : (w : Waiting) (ws : List Waiting) → listed (left (aged ws)) + count_by of (due (aged ws)) ≡ listed ws →
      (b : Bool) → is_due (older w) ≡ b → listed (left (aged (w ∷ ws))) + count_by of (due (aged (w ∷ ws))) ≡ listed (w ∷ ws)
  listed-aged-cons w ws h true e =
      let all = count-cons (λ (w : Waiting). of w.what) w ws in
      let some = count-cons of w.what (due (aged ws)) in
      rw e (omega (arith, h, all, some))
  listed-aged-cons w ws h false e =
      let all = count-cons (λ (w : Waiting). of w.what) w ws in
      let some = count-cons (λ (w : Waiting). of w.what) (older w) (left (aged ws)) in
      rw e (omega (arith, h, all, some))

  pub listed-aged : (ws : List Waiting) → listed (left (aged ws)) + count_by of (due (aged ws)) ≡ listed ws
  listed-aged [] = refl
  listed-aged (w ∷ ws) = listed-aged-cons w ws (listed-aged ws) (is_due (older w)) refl

  -- what is chosen is taken out, and the rest is left
  listed-rest-cons : (chosen : LimboEntry → Bool) (w : Waiting) (ws : List Waiting) → listed (rest_of chosen ws) + count_by of
      (chosen_of chosen ws) ≡ listed ws →
      (b : Bool) → chosen w.what ≡ b → listed (rest_of chosen (w ∷ ws)) + count_by of (chosen_of chosen (w ∷ ws)) ≡ listed (w ∷ ws)
  listed-rest-cons chosen w ws h true e =
      let all = count-cons (λ (w : Waiting). of w.what) w ws in
      let some = count-cons of w.what (chosen_of chosen ws) in
      rw e (omega (arith, h, all, some))
  listed-rest-cons chosen w ws h false e =
      let all = count-cons (λ (w : Waiting). of w.what) w ws in
      let some = count-cons (λ (w : Waiting). of w.what) w (rest_of chosen ws) in
      rw e (omega (arith, h, all, some))

  listed-rest : (chosen : LimboEntry → Bool) (ws : List Waiting) → listed (rest_of chosen ws) + count_by of (chosen_of chosen ws) ≡ listed ws
  listed-rest chosen [] = refl
  listed-rest chosen (w ∷ ws) = listed-rest-cons chosen w ws (listed-rest chosen ws) (chosen w.what) refl

  pub listed-without : (chosen : LimboEntry → Bool) (ps : List Participant) →
      sum_by listed_with (map (without chosen) ps) + count_by of (chosen_among chosen ps) ≡ sum_by listed_with ps
  listed-without chosen [] = refl
  listed-without chosen (p ∷ ps) =
      let here = listed-rest chosen p.bags.waiting in
      let rest = listed-without chosen ps in
      let one = sum_by-cons listed_with (without chosen p) (map (without chosen) ps) in
      let all = sum_by-cons listed_with p ps in
      let long = sum_by-append (λ x. cond (of x) 1 0) (chosen_of chosen p.bags.waiting) (chosen_among chosen ps) in
      omega (arith, here, rest, one, all, long)

  -- where all of it is chosen, none is left
  none-rest-cons : (chosen : LimboEntry → Bool) → ((x : LimboEntry) → of x ≡ true → chosen x ≡ true) → (w : Waiting) (ws : List Waiting)
      → listed (rest_of chosen ws) ≡ 0 →
      (b : Bool) → chosen w.what ≡ b → (a : Bool) → of w.what ≡ a → listed (rest_of chosen (w ∷ ws)) ≡ 0
  none-rest-cons chosen only w ws h true e a is = rw e h
  none-rest-cons chosen only w ws h false e true is = absurd (let never : true ≡ false = sym (only w.what is) ∙ e in cc)
  none-rest-cons chosen only w ws h false e false is =
      let one : cond {A = ℕ} (of w.what) 1 0 ≡ 0 = rw is refl in
      rw e (omega (arith, h, one, count-cons (λ (w : Waiting). of w.what) w (rest_of chosen ws)))

  none-rest : (chosen : LimboEntry → Bool) → ((x : LimboEntry) → of x ≡ true → chosen x ≡ true) → (ws : List Waiting) → listed (rest_of chosen ws) ≡ 0
  none-rest chosen only [] = refl
  none-rest chosen only (w ∷ ws) = none-rest-cons chosen only w ws (none-rest chosen only ws) (chosen w.what) refl (of w.what) refl

  pub none-left : (chosen : LimboEntry → Bool) → ((x : LimboEntry) → of x ≡ true → chosen x ≡ true) → (ps : List Participant) →
      sum_by listed_with (map (without chosen) ps) ≡ 0
  none-left chosen only [] = refl
  none-left chosen only (p ∷ ps) =
      let one = sum_by-cons listed_with (without chosen p) (map (without chosen) ps) in
      omega (arith, one, none-rest chosen only p.bags.waiting, none-left chosen only ps)

  -- where none of it is chosen, none is taken
  none-chosen-cons : (chosen : LimboEntry → Bool) → ((x : LimboEntry) → of x ≡ true → chosen x ≡ false) → (w : Waiting) (ws : List Waiting) →
      count_by of (chosen_of chosen ws) ≡ 0 → (b : Bool) → chosen w.what ≡ b → (a : Bool) → of w.what ≡ a → count_by of (chosen_of chosen (w ∷ ws)) ≡ 0
  none-chosen-cons chosen never w ws h false e a is = rw e h
  none-chosen-cons chosen never w ws h true e true is = absurd (let clash : true ≡ false = sym e ∙ never w.what is in cc)
  none-chosen-cons chosen never w ws h true e false is =
      let one : cond {A = ℕ} (of w.what) 1 0 ≡ 0 = rw is refl in
      rw e (omega (arith, h, one, count-cons of w.what (chosen_of chosen ws)))

  none-chosen : (chosen : LimboEntry → Bool) → ((x : LimboEntry) → of x ≡ true → chosen x ≡ false) → (ws : List Waiting) → count_by of (chosen_of chosen ws) ≡ 0
  none-chosen chosen never [] = refl
  none-chosen chosen never (w ∷ ws) = none-chosen-cons chosen never w ws (none-chosen chosen never ws) (chosen w.what) refl (of w.what) refl

  pub none-taken : (chosen : LimboEntry → Bool) → ((x : LimboEntry) → of x ≡ true → chosen x ≡ false) → (ps : List Participant) →
      count_by of (chosen_among chosen ps) ≡ 0
  none-taken chosen never [] = refl
  none-taken chosen never (p ∷ ps) =
      let long = sum_by-append (λ x. cond (of x) 1 0) (chosen_of chosen p.bags.waiting) (chosen_among chosen ps) in
      omega (arith, long, none-chosen chosen never p.bags.waiting, none-taken chosen never ps)

  -- an adoption moves all that waits, and loses nothing
  listed-anew : (ws : List Waiting) → listed (map anew ws) ≡ listed ws
  listed-anew [] = refl
  listed-anew (w ∷ ws) =
      let one = count-cons (λ (w : Waiting). of w.what) w ws in
      let other = count-cons (λ (w : Waiting). of w.what) (anew w) (map anew ws) in
      omega (arith, one, other, listed-anew ws)

  pub listed-additive : IsAdditive listed
  listed-additive =
      record {
        none = refl;
        both = λ xs ys. sum_by-append (λ (w : Waiting). cond (of w.what) 1 0) xs (map anew ys) ∙ ap (λ n. listed xs + n) (listed-anew ys);
      }

  -- a close of a guard moves what waits, and loses nothing
  listed-last : (t : EpochState) (p : ℕ) → IsLive t p → (b : Bool) → sum_by listed_with (if b then time.left_by t p else t).places ≡ sum_by listed_with t.places
  listed-last t p l true =
      let scans = (time.place_at t p).countdown == 0 in
      let u : EpochState = if scans then time.scanned t p else t in
      let s = scans-if t p l scans in
      listed-same u p (rested t.marked (time.place_at u p)) (scans-there l.0 s) refl
      ∙ ap (λ (v : EpochState). sum_by listed_with v.places) s.is
      ∙ s.adopting_first.totals listed listed-additive
  listed-last t p l false = refl

  listed-closed-if : (t : EpochState) (p : ℕ) → IsLive t p → (b : Bool) → nat_lt 1 (time.place_at t p).guards ≡ b →
      sum_by listed_with (time.closed t p).places ≡ sum_by listed_with t.places
  listed-closed-if t p l true e =
      rw e (listed-same t p (record (time.place_at t p) { guards = (time.place_at t p).guards - 1 }) l.0 refl)
  listed-closed-if t p l false e = rw e (listed-last t p l (is_open (time.place_at t p)))

  pub listed-closed : (t : EpochState) (p : ℕ) → IsLive t p → sum_by listed_with (time.closed t p).places ≡ sum_by listed_with t.places
  listed-closed t p l = listed-closed-if t p l (nat_lt 1 (time.place_at t p).guards) refl

  -- a newcomer brings nothing that waits
  listed-registered-if : (t : EpochState) (p : ℕ) → (p < length t.places → (time.place_at t p).bags.waiting ≡ []) → (b : Bool)
      → nat_lt p (length t.places) ≡ b →
      sum_by listed_with (time.registered t p).places ≡ sum_by listed_with t.places
  listed-registered-if t p bare true e =
      let l : p < length t.places = grind (arith, nat_tests, e) in
      rw e (listed-same t p (newcomer t.room) l (sym (bare l)))
  listed-registered-if t p bare false e = rw e (omega (arith, sum_by-append listed_with t.places (newcomer t.room ∷ [])))

  pub listed-registered : (t : EpochState) (p : ℕ) → (p < length t.places → (time.place_at t p).bags.waiting ≡ []) →
      sum_by listed_with (time.registered t p).places ≡ sum_by listed_with t.places
  listed-registered t p bare = listed-registered-if t p bare (nat_lt p (length t.places)) refl
