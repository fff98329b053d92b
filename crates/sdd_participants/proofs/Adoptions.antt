-- What an adoption makes of each place
use Rattle.std.proofs.Common.{◌≡◌, ◌≢◌, ◌⊎◌, inl, inr, ℕ, ◌+◌, ◌<◌, ◌≤◌, List, [], ◌∷◌, ◌++◌, length, Bool, refl, sym, ap, ◌∙◌, arith, true, false, Some, None, Option, map, zero, suc, slice_index_or, slice_set, IsTrue, sum_by, subst, add-one}
use Rattle.std.specs.Prelude.{◌-◌, ◌==◌, ◌&&◌, All, Contains, if◌then◌else◌, nat_lt}
use Rattle.std.specs.List.{list_all}
use Rattle.std.proofs.lemmas.List.{append-nil, append_assoc}
use Rattle.std.proofs.Math.Nat.{eq-or-lt_of_le}
use Rattle.std.proofs.Math.Seq.{map-set_same}
pub use Rattle.std.proofs.lemmas.Bool.{cases_eq as same-or-not}
use Rattle.std.proofs.lemmas.List.{length-set, length-map, length-append, get_or-set_same, get_or-set_other, map-append, set_comm, set-set}
use Rattle.std.proofs.lemmas.List.Sums.{sum_by-set}
use Rattle.std.proofs.lemmas.List.Elements.{All-append, All-map, All-nil, Contains-append_left, Contains-append_right}
use Rattle.sdd_participants.specs.Waiting.{Waiting, anew}
use Rattle.sdd_participants.specs.PlaceStates.{is_live, is_ended}
use Rattle.sdd_participants.specs.EpochState.{EpochState, place_at, phase_at, with_place, nobody, NobodyEnded, lives, IsLive, adopting, without_waiting, adopted_from, adopted_below, adopted, scanned, raised, passes, last_count, left_by, rested, closed, is_open, waiting_count, KeepsPlaces}
use Rattle.sdd_participants.specs.Slab.{Entries}
use Rattle.sdd_participants.specs.Bags.{Bags}
use Rattle.sdd_participants.specs.declared.place_states.PlaceState.{PlaceState}
use Rattle.sdd_participants.specs.declared.place_states.PlaceState.TheVariants.{Live, Ended}
use Rattle.sdd_participants.specs.declared.participant.Participant.{Participant}

-- which phase it is
live-is : (x : Option PlaceState) → is_live x ≡ true → x ≡ Some Live
live-is None h = absurd (cc)
live-is (Some Live) h = refl
live-is (Some Ended) h = absurd (cc)

pub live-entry : (xs : Entries PlaceState) (p : ℕ) → IsTrue (slice_index_or (map is_live xs) p false) → slice_index_or xs p None ≡ Some Live
live-entry [] p h = absurd (cc)
live-entry (x ∷ xs) zero h = live-is x h
live-entry (x ∷ xs) (suc p) h = live-entry xs p h

pub ended-is : (x : Option PlaceState) → is_ended x ≡ true → x ≡ Some Ended
ended-is None h = absurd (cc)
ended-is (Some Live) h = absurd (cc)
ended-is (Some Ended) h = refl

ended-not-live : (x : Option PlaceState) → is_ended x ≡ true → is_live x ≡ false
ended-not-live x h = ap is_live (ended-is x h)

live-not-ended : (x : Option PlaceState) → x ≡ Some Live → is_ended x ≡ true → ⊥
live-not-ended x live over = let never : is_ended x ≡ false = ap is_ended live in cc

-- who is live is another than who has ended
pub live-apart : (t : EpochState) (p q : ℕ) → IsLive t p → is_ended (phase_at t q) ≡ true → p ≢ q
live-apart t p q l h e =
    let one : phase_at t p ≡ Some Live = live-entry t.phases p l.1 in
    let other : phase_at t p ≡ Some Ended = ap (λ (n : ℕ). phase_at t n) e ∙ ended-is (phase_at t q) h in
    absurd (cc)

pub none-there : {E : Type 0} (xs : List (Option E)) (k : ℕ) → slice_index_or (slice_set xs k None) k None ≡ None
none-there [] k = refl
none-there (x ∷ xs) zero = refl
none-there (x ∷ xs) (suc k) = none-there xs k

contains-map : (ws : List Waiting) (w : Waiting) → Contains ws w → Contains (map anew ws) (anew w)
contains-map [] w h = absurd (omega (arith, h.1))
contains-map (y ∷ ys) w (zero, l, e) = (zero, omega arith, ap anew e)
contains-map (y ∷ ys) w (suc k, l, e) = let on = contains-map ys w (k, omega (arith, l), e) in (suc on.0, omega (arith, on.1), on.2)

-- all but what waits is as before
pub record Stays (x y : Participant) : Type 0 where
  pub found : y.found ≡ x.found
  pub guards : y.guards ≡ x.guards
  pub countdown : y.countdown ≡ x.countdown
  pub room : y.bags.room ≡ x.bags.room

Stays-refl : (x : Participant) → Stays x x
Stays-refl x = record { found = refl; guards = refl; countdown = refl; room = refl }

-- a measure of what waits, which doesn't look at the changes seen
pub record IsAdditive (m : List Waiting → ℕ) : Type 0 where
  pub none : m [] ≡ 0
  pub both : (xs ys : List Waiting) → m (xs ++ map anew ys) ≡ m xs + m ys

abbrev pub total : (List Waiting → ℕ) → EpochState → ℕ
total m t = sum_by (λ (p : Participant). m p.bags.waiting) t.places

abbrev IsYoung : Participant → Type 0
IsYoung x = All (λ (w : Waiting). w.seen ≤ 2) x.bags.waiting

abbrev pub IsBare : EpochState → ℕ → Participant → Type 0
IsBare t r x = phase_at t r ≡ None → x.bags.waiting ≡ []

-- p has adopted from some places
pub record Adopts (p : ℕ) (old new : EpochState) : Type 0 where
  pub only : new ≡ record old { places = new.places; phases = new.phases }
  pub places : length new.places ≡ length old.places
  pub phased : length new.phases ≡ length old.phases
  pub living : lives new ≡ lives old
  pub stays : (r : ℕ) → Stays (place_at old r) (place_at new r)
  pub ended : (r : ℕ) → is_ended (phase_at new r) ≡ true → is_ended (phase_at old r) ≡ true
  pub stays_live : (r : ℕ) → phase_at old r ≡ Some Live → phase_at new r ≡ Some Live
  pub waits : (r : ℕ) (w : Waiting) → Contains (place_at old r).bags.waiting w →
      Contains (place_at new r).bags.waiting w ⊎ ((is_ended (phase_at old r) ≡ true) × Contains (place_at new p).bags.waiting (anew w))
  pub young : ((r : ℕ) → IsYoung (place_at old r)) → (r : ℕ) → IsYoung (place_at new r)
  pub others : (r : ℕ) → r ≢ p → ((place_at new r).bags.waiting ≡ (place_at old r).bags.waiting) ⊎ ((place_at new r).bags.waiting ≡ [])
  pub bare : ((r : ℕ) → IsBare old r (place_at old r)) → (r : ℕ) → IsBare new r (place_at new r)
  pub own : (ws : List Waiting) × (place_at new p ≡ adopting ws (place_at old p))
  pub totals : (m : List Waiting → ℕ) → IsAdditive m → total m new ≡ total m old

pub adopting-nothing : (x : Participant) → x ≡ adopting [] x
adopting-nothing x = ap (λ (ws : List Waiting). record x { bags = record x.bags { waiting = ws } }) (sym (append-nil x.bags.waiting))

adopting-more : (vs ws : List Waiting) (x : Participant) → adopting ws (adopting vs x) ≡ adopting (vs ++ ws) x
adopting-more vs ws x =
    ap (λ (us : List Waiting). record x { bags = record x.bags { waiting = us } })
    (append_assoc x.bags.waiting (map anew vs) (map anew ws) ∙ ap (λ (us : List Waiting). x.bags.waiting ++ us) (sym (map-append anew vs ws)))

pub Adopts-refl : (p : ℕ) (t : EpochState) → Adopts p t t
Adopts-refl p t =
    record {
      only = refl;
      places = refl;
      phased = refl;
      living = refl;
      stays = λ r. Stays-refl (place_at t r);
      ended = λ r h. h;
      stays_live = λ r h. h;
      waits = λ r w h. inl h;
      young = λ h. h;
      others = λ r apart. inl refl;
      bare = λ h. h;
      own = ([], adopting-nothing (place_at t p));
      totals = λ m a. refl;
    }

-- one adoption after another
module _ (p : ℕ) (u v w : EpochState) (a : Adopts p u v) (b : Adopts p v w) where
  abbrev Ends : ℕ → Waiting → Type 0
  Ends r x = Contains (place_at w r).bags.waiting x ⊎ ((is_ended (phase_at u r) ≡ true) × Contains (place_at w p).bags.waiting (anew x))

  waits-moved : (r : ℕ) (x : Waiting) → is_ended (phase_at u r) ≡ true →
      Contains (place_at w p).bags.waiting (anew x) ⊎ ((is_ended (phase_at v p) ≡ true) × Contains (place_at w p).bags.waiting (anew x)) → Ends r x
  waits-moved r x e (inl h) = inr (e, h)
  waits-moved r x e (inr h) = inr (e, h.1)

  waits-stayed : (r : ℕ) (x : Waiting) →
      Contains (place_at w r).bags.waiting x ⊎ ((is_ended (phase_at v r) ≡ true) × Contains (place_at w p).bags.waiting (anew x)) → Ends r x
  waits-stayed r x (inl h) = inl h
  waits-stayed r x (inr h) = inr (a.ended r h.0, h.1)

  waits-then : (r : ℕ) (x : Waiting) →
      Contains (place_at v r).bags.waiting x ⊎ ((is_ended (phase_at u r) ≡ true) × Contains (place_at v p).bags.waiting (anew x)) → Ends r x
  waits-then r x (inl h) = waits-stayed r x (b.waits r x h)
  waits-then r x (inr h) = waits-moved r x h.0 (b.waits p (anew x) h.1)

  others-then : (r : ℕ) → ((place_at v r).bags.waiting ≡ (place_at u r).bags.waiting) ⊎ ((place_at v r).bags.waiting ≡ []) →
      ((place_at w r).bags.waiting ≡ (place_at v r).bags.waiting) ⊎ ((place_at w r).bags.waiting ≡ []) →
      ((place_at w r).bags.waiting ≡ (place_at u r).bags.waiting) ⊎ ((place_at w r).bags.waiting ≡ [])
  others-then r h (inr e) = inr e
  others-then r (inl e) (inl f) = inl (f ∙ e)
  others-then r (inr e) (inl f) = inr (f ∙ e)

  pub Adopts-trans : Adopts p u w
  Adopts-trans =
      record {
        only = b.only ∙ ap (λ (t : EpochState). record t { places = w.places; phases = w.phases }) a.only;
        places = b.places ∙ a.places;
        phased = b.phased ∙ a.phased;
        living = b.living ∙ a.living;
        stays = λ r. record {
          found = (b.stays r).found ∙ (a.stays r).found;
          guards = (b.stays r).guards ∙ (a.stays r).guards;
          countdown = (b.stays r).countdown ∙ (a.stays r).countdown;
          room = (b.stays r).room ∙ (a.stays r).room;
        };
        ended = λ r h. a.ended r (b.ended r h);
        stays_live = λ r h. b.stays_live r (a.stays_live r h);
        waits = λ r x h. waits-then r x (a.waits r x h);
        young = λ h. b.young (a.young h);
        others = λ r apart. others-then r (a.others r apart) (b.others r apart);
        bare = λ h. b.bare (a.bare h);
        own = (a.own.0 ++ b.own.0, b.own.1 ∙ ap (λ (x : Participant). adopting b.own.0 x) a.own.1 ∙ adopting-more a.own.0 b.own.0 (place_at u p));
        totals = λ m h. b.totals m h ∙ a.totals m h;
      }

-- from one place that has ended
module _ (t : EpochState) (p q : ℕ) (l : IsLive t p) (there : q < length t.places) (over : is_ended (phase_at t q) ≡ true) where
  abbrev adopter : Participant
  adopter = adopting (place_at t q).bags.waiting (place_at t p)

  abbrev left_empty : Participant
  left_empty = without_waiting (place_at t q)

  abbrev halfway : List Participant
  halfway = slice_set t.places p adopter

  abbrev after : EpochState
  after = adopted_from t p q

  apart : p ≢ q
  apart = live-apart t p q l over

  halfway-there : q < length halfway
  halfway-there = omega (arith, there, length-set t.places p adopter)

  at-left : place_at after q ≡ left_empty
  at-left = get_or-set_same halfway q left_empty nobody halfway-there

  at-adopter : place_at after p ≡ adopter
  at-adopter = get_or-set_other halfway q p left_empty nobody apart ∙ get_or-set_same t.places p adopter nobody l.0

  at-other : (r : ℕ) → r ≢ q → r ≢ p → place_at after r ≡ place_at t r
  at-other r nq np = get_or-set_other halfway q r left_empty nobody nq ∙ get_or-set_other t.places p r adopter nobody np

  -- what holds of each place afterwards
  each-if : (P : ℕ → Participant → Type 0) → P p adopter → P q left_empty → ((r : ℕ) → r ≢ q → r ≢ p → P r (place_at t r)) → (r : ℕ) →
      (r ≡ q) ⊎ (r ≢ q) → (r ≡ p) ⊎ (r ≢ p) → P r (place_at after r)
  each-if P a b c r (inl e) s = subst (λ (n : ℕ). P n (place_at after n)) (sym e) (subst (λ (x : Participant). P q x) (sym at-left) b)
  each-if P a b c r (inr nq) (inl e) = subst (λ (n : ℕ). P n (place_at after n)) (sym e) (subst (λ (x : Participant). P p x) (sym at-adopter) a)
  each-if P a b c r (inr nq) (inr np) = subst (λ (x : Participant). P r x) (sym (at-other r nq np)) (c r nq np)

  each : (P : ℕ → Participant → Type 0) → P p adopter → P q left_empty → ((r : ℕ) → r ≢ q → r ≢ p → P r (place_at t r)) → (r : ℕ) → P r (place_at after r)
  each P a b c r = each-if P a b c r (same-or-not r q) (same-or-not r p)

  phase-other : (r : ℕ) → r ≢ q → phase_at after r ≡ phase_at t r
  phase-other r nq = get_or-set_other t.phases q r None None nq

  still-ended : (r : ℕ) → (r ≡ q) ⊎ (r ≢ q) → is_ended (phase_at after r) ≡ true → is_ended (phase_at t r) ≡ true
  still-ended r (inl e) h =
      let none : is_ended (phase_at after r) ≡ false = ap (λ (n : ℕ). is_ended (phase_at after n)) e ∙ ap is_ended (none-there t.phases q) in absurd (cc)
  still-ended r (inr nq) h = ap is_ended (sym (phase-other r nq)) ∙ h

  total-after : (m : List Waiting → ℕ) → IsAdditive m → total m after ≡ total m t
  total-after m h =
      let f : Participant → ℕ = λ (x : Participant). m x.bags.waiting in
      let one = sum_by-set f t.places p adopter nobody l.0 in
      let two = sum_by-set f halfway q left_empty nobody halfway-there in
      let was : f (slice_index_or halfway q nobody) ≡ f (place_at t q) = ap f (get_or-set_other t.places p q adopter nobody (λ e. apart (sym e))) in
      omega (arith, one, two, was, h.none, h.both (place_at t p).bags.waiting (place_at t q).bags.waiting)

  abbrev Goes : ℕ → Participant → Type 0
  Goes r x = (w : Waiting) → Contains (place_at t r).bags.waiting w →
      Contains x.bags.waiting w ⊎ ((is_ended (phase_at t r) ≡ true) × Contains (place_at after p).bags.waiting (anew w))

  goes-over : Goes q left_empty
  goes-over w h =
      inr (
        over,
        subst (λ (x : Participant). Contains x.bags.waiting (anew w)) (sym at-adopter)
            (Contains-append_right (place_at t p).bags.waiting (map anew (place_at t q).bags.waiting) (anew w) (contains-map (place_at t q).bags.waiting w h)),
      )

  pub Adopts-from : Adopts p t after
  Adopts-from =
      record {
        only = refl;
        places = length-set halfway q left_empty ∙ length-set t.places p adopter;
        phased = length-set t.phases q None;
        living = map-set_same is_live t.phases q None None (sym (ended-not-live (phase_at t q) over));
        stays = each (λ r x. Stays (place_at t r) x) (record { found = refl; guards = refl; countdown = refl; room = refl })
            (record { found = refl; guards = refl; countdown = refl; room = refl }) (λ r _ _. Stays-refl (place_at t r));
        ended = λ r h. still-ended r (same-or-not r q) h;
        stays_live = λ r h. phase-other r (λ e. live-not-ended (phase_at t q) (sym (ap (λ (n : ℕ). phase_at t n) e) ∙ h) over) ∙ h;
        waits = each Goes (λ w h. inl (Contains-append_left (place_at t p).bags.waiting (map anew (place_at t q).bags.waiting) w h)) goes-over
            (λ r _ _ w h. inl h);
        young = λ h. each (λ r x. IsYoung x)
            (All-append (λ (w : Waiting). w.seen ≤ 2) (place_at t p).bags.waiting (map anew (place_at t q).bags.waiting) (h p)
            (All-map (λ (w : Waiting). w.seen ≤ 2) anew (place_at t q).bags.waiting (λ k d lt. omega arith)))
            (All-nil (λ (w : Waiting). w.seen ≤ 2)) (λ r _ _. h r);
        others = each (λ r x. r ≢ p → (x.bags.waiting ≡ (place_at t r).bags.waiting) ⊎ (x.bags.waiting ≡ [])) (λ np. absurd (np refl)) (λ _. inr refl)
            (λ r _ _ _. inl refl);
        bare = λ h. each (λ r x. IsBare after r x)
            (λ none. let live : phase_at after p ≡ Some Live = phase-other p apart ∙ live-entry t.phases p l.1 in absurd (cc))
            (λ _. refl) (λ r nq _ none. h r (sym (phase-other r nq) ∙ none));
        own = ((place_at t q).bags.waiting, at-adopter);
        totals = total-after;
      }

-- from all places below n
pub live-after : {p : ℕ} {t u : EpochState} → IsLive t p → Adopts p t u → IsLive u p
live-after {p} l a = (omega (arith, l.0, a.places), subst (λ (bs : List Bool). IsTrue (slice_index_or bs p false)) (sym a.living) l.1)

adopts-step : (t : EpochState) (p n : ℕ) → IsLive t p → n < length t.places → (before : EpochState) → Adopts p t before → (b : Bool) →
    is_ended (phase_at before n) ≡ b → Adopts p t (if b then adopted_from before p n else before)
adopts-step t p n l there before a true e =
    Adopts-trans p t before (adopted_from before p n) a (Adopts-from before p n (live-after l a) (omega (arith, there, a.places)) e)
adopts-step t p n l there before a false e = a

pub adopts-below : (t : EpochState) (p n : ℕ) → IsLive t p → n ≤ length t.places → Adopts p t (adopted_below t p n)
adopts-below t p zero l h = Adopts-refl p t
adopts-below t p (suc n) l h =
    let before = adopted_below t p n in
    adopts-step t p n l (omega (arith, h)) before (adopts-below t p n l (omega (arith, h))) (is_ended (phase_at before n)) refl

pub adopted-next : (t u : EpochState) (p n : ℕ) → u ≡ adopted_below t p n → (b : Bool) → is_ended (phase_at u n) ≡ b →
    (if b then adopted_from u p n else u) ≡ adopted_below t p (n + 1)
adopted-next t u p n same b =
    rw add-one (subst (λ (v : EpochState). is_ended (phase_at v n) ≡ b → (if b then adopted_from v p n else v) ≡ adopted_below t p (suc n)) (sym same)
    (λ e. rw e refl))

pub adopts : (t : EpochState) (p : ℕ) → IsLive t p → Adopts p t (adopted t p)
adopts t p l = adopts-below t p (length t.places) l (omega arith)

-- who left something has a free place then
untouched-step : (before t : EpochState) (p n r : ℕ) → phase_at before r ≡ phase_at t r → r ≢ n → (b : Bool) →
    phase_at (if b then adopted_from before p n else before) r ≡ phase_at t r
untouched-step before t p n r same apart true = get_or-set_other before.phases n r None None apart ∙ same
untouched-step before t p n r same apart false = same

untouched : (t : EpochState) (p n r : ℕ) → n ≤ r → phase_at (adopted_below t p n) r ≡ phase_at t r
untouched t p zero r h = refl
untouched t p (suc n) r h =
    let before = adopted_below t p n in
    untouched-step before t p n r (untouched t p n r (omega (arith, h))) (λ e. absurd (omega (arith, e, h))) (is_ended (phase_at before n))

frees-step : (before : EpochState) (p n r : ℕ) → (r < n → phase_at before r ≡ None) → (r ≡ n → is_ended (phase_at before n) ≡ true) → (r ≡ n) ⊎ (r < n) →
    (b : Bool) → is_ended (phase_at before n) ≡ b → phase_at (if b then adopted_from before p n else before) r ≡ None
frees-step before p n r prior over (inr l) true e = get_or-set_other before.phases n r None None (λ same. absurd (omega (arith, same, l))) ∙ prior l
frees-step before p n r prior over (inr l) false e = prior l
frees-step before p n r prior over (inl same) true e = ap (λ (m : ℕ). phase_at (adopted_from before p n) m) same ∙ none-there before.phases n
frees-step before p n r prior over (inl same) false e = let yes : is_ended (phase_at before n) ≡ true = over same in absurd (cc)

pub frees-below : (t : EpochState) (p n r : ℕ) → r < n → is_ended (phase_at t r) ≡ true → phase_at (adopted_below t p n) r ≡ None
frees-below t p zero r h e = absurd (omega (arith, h))
frees-below t p (suc n) r h e =
    let before = adopted_below t p n in
    frees-step before p n r (λ l. frees-below t p n r l e)
    (λ same. ap is_ended (untouched t p n n (omega arith)) ∙ subst (λ (m : ℕ). is_ended (phase_at t m) ≡ true) same e)
    (eq-or-lt_of_le (omega (arith, h))) (is_ended (phase_at before n)) refl

-- who has ended has a place
ended-inside : (xs : Entries PlaceState) (q : ℕ) → is_ended (slice_index_or xs q None) ≡ true → (n : ℕ) → length xs ≡ n → q < n
ended-inside [] q e n same = absurd (cc)
ended-inside (x ∷ xs) zero e n same = omega (arith, same)
ended-inside (x ∷ xs) (suc q) e n same = (let rest = ended-inside xs q e (length xs) refl in omega (arith, rest, same))

-- where nobody has ended nothing is adopted
nothing-below : (t : EpochState) (p n : ℕ) → NobodyEnded t.phases → adopted_below t p n ≡ t
nothing-below t p zero none = refl
nothing-below t p (suc n) none = rw (nothing-below t p n none, none n) refl

pub nothing-left : (t : EpochState) (p : ℕ) → t.marked ≡ false → NobodyEnded t.phases → t ≡ record (adopted t p) { marked = false }
nothing-left t p unmarked none = rw (nothing-below t p (length t.places) none) (ap (λ b. record t { marked = b }) unmarked)

-- nobody has ended once all that was left is adopted
pub none-left : (t : EpochState) (p : ℕ) → IsLive t p → length t.phases ≡ length t.places → NobodyEnded (adopted t p).phases
none-left t p l same q = by (is_ended (phase_at (adopted t p) q)) refl where
  by : (b : Bool) → is_ended (phase_at (adopted t p) q) ≡ b → b ≡ false
  by false e = refl
  by true e =
      let before = (adopts t p l).ended q e in
      let inside : q < length t.places = ended-inside t.phases q before (length t.places) same in
      sym e ∙ ap is_ended (frees-below t p (length t.places) q inside before)

-- a scan adopts, and then raises the count or not
pub record Scans (p : ℕ) (old new : EpochState) : Type 0 where
  pub first : EpochState
  pub adopting_first : Adopts p old first
  pub marked : Bool
  pub is : new ≡ record first { marked = marked; count = new.count }
  pub goes_on : (new.count ≡ old.count) ⊎ (new.count ≡ old.count + 1)

pub Scans-nothing : (p : ℕ) (t : EpochState) → Scans p t t
Scans-nothing p t = record { first = t; adopting_first = Adopts-refl p t; marked = t.marked; is = refl; goes_on = inl refl }

scans-raised : (t u : EpochState) (p : ℕ) → Adopts p t u → (b : Bool) →
    Scans p t (if b then record u { marked = false; count = u.count + 1 } else record u { marked = false })
scans-raised t u p a true =
    record { first = u; adopting_first = a; marked = false; is = refl; goes_on = inr (ap (λ (v : EpochState). v.count + 1) a.only) }
scans-raised t u p a false = record { first = u; adopting_first = a; marked = false; is = refl; goes_on = inl (ap (λ (v : EpochState). v.count) a.only) }

scans-found : (t : EpochState) (p : ℕ) → IsLive t p → (b : Bool) → Scans p t (if b then raised (record (adopted t p) { marked = false }) else t)
scans-found t p l true =
    let u = adopted t p in scans-raised t u p (adopts t p l) (nat_lt u.count last_count && list_all (passes u.count) u.places)
scans-found t p l false = Scans-nothing p t

pub scans-if : (t : EpochState) (p : ℕ) → IsLive t p → (b : Bool) → Scans p t (if b then scanned t p else t)
scans-if t p l true = scans-found t p l ((place_at t p).found == t.count)
scans-if t p l false = Scans-nothing p t

-- a close keeps the places
scans-places : {p : ℕ} {t u : EpochState} → (s : Scans p t u) → u.places ≡ s.first.places
scans-places s = ap (λ (v : EpochState). v.places) s.is

pub scans-place : {p : ℕ} {t u : EpochState} → (s : Scans p t u) → (q : ℕ) → place_at u q ≡ place_at s.first q
scans-place s q = ap (λ (v : EpochState). place_at v q) s.is

pub scans-there : {p : ℕ} {t u : EpochState} → p < length t.places → Scans p t u → p < length u.places
scans-there l s = omega (arith, l, s.adopting_first.places, ap (λ (ps : List Participant). length ps) (scans-places s))

pub waiting-total : IsAdditive (λ (ws : List Waiting). length ws)
waiting-total = record { none = refl; both = λ xs ys. omega (arith, length-append xs (map anew ys), length-map ys anew) }

keeps-put : (t : EpochState) (p : ℕ) (x : Participant) → p < length t.places → x.bags ≡ (place_at t p).bags → KeepsPlaces t (with_place t p x)
keeps-put t p x l e =
    let one = sum_by-set waiting_count t.places p x nobody l in
    let same : waiting_count x ≡ waiting_count (place_at t p) = ap (λ (b : Bags). length b.waiting) e in
    record { places = length-set t.places p x; lives = refl; participants = refl; nesting = refl; room = refl; waiting = omega (arith, one, same) }

keeps-then : {t u v : EpochState} → KeepsPlaces t u → KeepsPlaces u v → KeepsPlaces t v
keeps-then a b =
    record {
      places = b.places ∙ a.places;
      lives = b.lives ∙ a.lives;
      participants = b.participants ∙ a.participants;
      nesting = b.nesting ∙ a.nesting;
      room = b.room ∙ a.room;
      waiting = b.waiting ∙ a.waiting;
    }

pub keeps-scans : {p : ℕ} {t u : EpochState} → Scans p t u → KeepsPlaces t u
keeps-scans s =
    let a = s.adopting_first in
    let places = scans-places s in
    record {
      places = ap (λ (ps : List Participant). length ps) places ∙ a.places;
      lives = ap (λ (v : EpochState). lives v) s.is ∙ a.living;
      participants = ap (λ (v : EpochState). v.participants) s.is ∙ ap (λ (v : EpochState). v.participants) a.only;
      nesting = ap (λ (v : EpochState). v.nesting) s.is ∙ ap (λ (v : EpochState). v.nesting) a.only;
      room = ap (λ (v : EpochState). v.room) s.is ∙ ap (λ (v : EpochState). v.room) a.only;
      waiting = ap (λ (ps : List Participant). sum_by waiting_count ps) places ∙ a.totals (λ (ws : List Waiting). length ws) waiting-total;
    }

keeps-left : (t u : EpochState) (p : ℕ) (x : Participant) → IsLive t p → Scans p t u → x.bags ≡ (place_at u p).bags → KeepsPlaces t (with_place u p x)
keeps-left t u p x l s e = keeps-then (keeps-scans s) (keeps-put u p x (scans-there l.0 s) e)

keeps-last : (t : EpochState) (p : ℕ) → IsLive t p → (b : Bool) → KeepsPlaces t (if b then left_by t p else t)
keeps-last t p l true =
    let scans = (place_at t p).countdown == 0 in
    let u : EpochState = if scans then scanned t p else t in
    keeps-left t u p (rested t.marked (place_at u p)) l (scans-if t p l scans) refl
keeps-last t p l false = record { places = refl; lives = refl; participants = refl; nesting = refl; room = refl; waiting = refl }

keeps-closed-if : (t : EpochState) (p : ℕ) → IsLive t p → (b : Bool) → nat_lt 1 (place_at t p).guards ≡ b → KeepsPlaces t (closed t p)
keeps-closed-if t p l true e = rw e (keeps-put t p (record (place_at t p) { guards = (place_at t p).guards - 1 }) l.0 refl)
keeps-closed-if t p l false e = rw e (keeps-last t p l (is_open (place_at t p)))

pub keeps-closed : (t : EpochState) (p : ℕ) → IsLive t p → KeepsPlaces t (closed t p)
keeps-closed t p l = keeps-closed-if t p l (nat_lt 1 (place_at t p).guards) refl

-- there is room for what two places have
pub two-waiting : (t : EpochState) (p q : ℕ) → p ≢ q → p < length t.places → q < length t.places →
    waiting_count (place_at t p) + waiting_count (place_at t q) ≤ sum_by waiting_count t.places
two-waiting t p q apart lp lq =
    let one = sum_by-set waiting_count t.places p nobody nobody lp in
    let without = slice_set t.places p nobody in
    let two = sum_by-set waiting_count without q nobody nobody (omega (arith, lq, length-set t.places p nobody)) in
    let same : waiting_count (slice_index_or without q nobody) ≡ waiting_count (place_at t q) =
    ap waiting_count (get_or-set_other t.places p q nobody nobody (λ e. apart (sym e))) in
    omega (arith, one, two, same)

-- which one stands there, whatever would stand past the end
pub there-is : (ps : List Participant) (k : ℕ) (d e : Participant) → k < length ps → slice_index_or ps k d ≡ slice_index_or ps k e
there-is [] k d e l = absurd (omega (arith, l))
there-is (x ∷ ps) zero d e l = refl
there-is (x ∷ ps) (suc k) d e l = there-is ps k d e (omega (arith, l))

-- the bags of q are taken out, adopted by p, and put back
module _ (t : EpochState) (p q : ℕ) (lp : p < length t.places) (lq : q < length t.places) (apart : p ≢ q) (x y z : Participant)
    (taken old own left : Bags) where
  abbrev bared : List Participant
  bared = slice_set t.places q (record x { bags = taken })

  abbrev fed : List Participant
  fed = slice_set bared p (record y { bags = own })

  pub adopted-places : x ≡ slice_index_or t.places q x → old ≡ x.bags → y ≡ slice_index_or bared p y →
      own ≡ record y.bags { waiting = y.bags.waiting ++ map anew old.waiting } → z ≡ slice_index_or fed q z → left ≡ record old { waiting = [] } →
      slice_set fed q (record z { bags = left }) ≡ (adopted_from t p q).places
  adopted-places x_is old_is y_is own_is z_is left_is =
      let x_there : x ≡ place_at t q = x_is ∙ there-is t.places q x nobody lq in
      let y_there : y ≡ place_at t p =
      y_is ∙ get_or-set_other t.places q p (record x { bags = taken }) y apart ∙ there-is t.places p y nobody lp in
      let bared_q : slice_index_or bared q z ≡ record x { bags = taken } = get_or-set_same t.places q (record x { bags = taken }) z lq in
      let z_there : z ≡ record x { bags = taken } =
      z_is ∙ get_or-set_other bared p q (record y { bags = own }) z (λ e. apart (sym e)) ∙ bared_q in
      let emptied : record z { bags = left } ≡ without_waiting (place_at t q) =
      ap (λ (u : Participant). record u { bags = left }) z_there
      ∙ ap (λ (b : Bags). record x { bags = b }) (left_is ∙ ap (λ (b : Bags). record b { waiting = [] }) old_is)
      ∙ ap (λ (u : Participant). without_waiting u) x_there in
      let adopter : record y { bags = own } ≡ adopting (place_at t q).bags.waiting (place_at t p) =
      ap (λ (b : Bags). record y { bags = b })
      (own_is ∙ ap (λ (b : Bags). record y.bags { waiting = y.bags.waiting ++ map anew b.waiting }) (old_is ∙ ap (λ (u : Participant). u.bags) x_there))
      ∙ ap (λ (u : Participant). adopting (place_at t q).bags.waiting u) y_there in
      ap (λ (ps : List Participant). slice_set ps q (record z { bags = left }))
      (set_comm t.places q p (record x { bags = taken }) (record y { bags = own }) (λ e. apart (sym e)))
      ∙ set-set (slice_set t.places p (record y { bags = own })) q (record x { bags = taken }) (record z { bags = left })
      ∙ ap (λ (u : Participant). slice_set (slice_set t.places p (record y { bags = own })) q u) emptied
      ∙ ap (λ (u : Participant). slice_set (slice_set t.places p u) q (without_waiting (place_at t q))) adopter
