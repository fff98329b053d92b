-- What a close of a guard makes of each place
use Rattle.std.proofs.Common.{◌≡◌, ◌≢◌, ◌⊎◌, inl, inr, ℕ, ◌+◌, ◌<◌, ◌≤◌, [], length, Bool, refl, sym, ap, ◌∙◌, arith, true, false, nat_lt, IsTrue, subst}
use Rattle.std.specs.Prelude.{◌-◌, ◌==◌, Contains, if◌then◌else◌}
use Rattle.std.proofs.lemmas.List.{get_or-set_same}
use Rattle.std.proofs.lemmas.Bool.Decides.{nat_tests}
use Rattle.sdd_participants.specs.Waiting.{Waiting, anew}
use Rattle.sdd_participants.specs.Bags.{Bags}
use Rattle.sdd_participants.specs.PlaceStates.{is_ended}
use Rattle.sdd_participants.specs.EpochState.{EpochState, IsLive, with_place, nobody, is_open, phase_at, place_at, closed, left_by, scanned, rested}
use Rattle.sdd_participants.specs.declared.participant.Participant.{Participant}
use Rattle.sdd_participants.proofs.Adoptions.{Scans, Scans-nothing, scans-if, scans-there, scans-place, adopting-nothing}
use Rattle.sdd_world_model.specs.ParticipantChanges.{GuardClosed, closed_with}
use Rattle.sdd_world_model.proofs.PlacesMatchStates.{each-place}

-- what is the same of a place that changes, is the same of each
pub put-same : {X : Type 0} (f : Participant → X) (t : EpochState) (p : ℕ) (x : Participant) → p < length t.places → f x ≡ f (place_at t p) → (q : ℕ) →
    f (place_at (with_place t p x) q) ≡ f (place_at t q)
put-same f t p x l e q = each-place t p x (λ r y. f y ≡ f (place_at t r)) l e (λ r. refl) q

pub record Closes (p : ℕ) (old new : EpochState) : Type 0 where
  pub goes_on : (new.count ≡ old.count) ⊎ (new.count ≡ old.count + 1)
  pub found : (q : ℕ) → (place_at new q).found ≡ (place_at old q).found
  pub guards : (q : ℕ) → q ≢ p → (place_at new q).guards ≡ (place_at old q).guards
  pub countdown : (q : ℕ) → q ≢ p → (place_at new q).countdown ≡ (place_at old q).countdown
  -- what waits with an ended participant may wait with p afterwards; all else goes on to wait where it does
  pub waits : (q : ℕ) (w : Waiting) → Contains (place_at old q).bags.waiting w →
      Contains (place_at new q).bags.waiting w ⊎ ((is_ended (phase_at old q) ≡ true) × Contains (place_at new p).bags.waiting (anew w))

Closes-nothing : (p : ℕ) (t : EpochState) → Closes p t t
Closes-nothing p t = record { goes_on = inl refl; found = λ q. refl; guards = λ q _. refl; countdown = λ q _. refl; waits = λ q w h. inl h }

-- after a scan, or none, p has fewer guards
module _ (t s : EpochState) (p : ℕ) (x : Participant) (l : p < length t.places) (scan : Scans p t s) (found : x.found ≡ (place_at s p).found)
    (bags : x.bags ≡ (place_at s p).bags) where
  inside : p < length s.places
  inside = scans-there l scan

  bags-at : (q : ℕ) → (place_at (with_place s p x) q).bags ≡ (place_at scan.first q).bags
  bags-at q = put-same (λ (y : Participant). y.bags) s p x inside bags q ∙ ap (λ (y : Participant). y.bags) (scans-place scan q)

  other-at : {X : Type 0} (f : Participant → X) (q : ℕ) → q ≢ p → f (place_at (with_place s p x) q) ≡ f (place_at scan.first q)
  other-at f q apart = ap f (each-place s p x (λ r y. r ≢ p → y ≡ place_at s r) inside (λ np. absurd (np refl)) (λ r _. refl) q apart ∙ scans-place scan q)

  waits-at : (q : ℕ) (w : Waiting) →
      Contains (place_at scan.first q).bags.waiting w ⊎ ((is_ended (phase_at t q) ≡ true) × Contains (place_at scan.first p).bags.waiting (anew w)) →
      Contains (place_at (with_place s p x) q).bags.waiting w
      ⊎ ((is_ended (phase_at t q) ≡ true) × Contains (place_at (with_place s p x) p).bags.waiting (anew w))
  waits-at q w (inl h) = inl (subst (λ (b : Bags). Contains b.waiting w) (sym (bags-at q)) h)
  waits-at q w (inr h) = inr (h.0, subst (λ (b : Bags). Contains b.waiting (anew w)) (sym (bags-at p)) h.1)

  closes-put : Closes p t (with_place s p x)
  closes-put =
      let a = scan.adopting_first in
      record {
        goes_on = scan.goes_on;
        found = λ q. put-same (λ (y : Participant). y.found) s p x inside found q ∙ ap (λ (y : Participant). y.found) (scans-place scan q) ∙ (a.stays q).found;
        guards = λ q apart. other-at (λ (y : Participant). y.guards) q apart ∙ (a.stays q).guards;
        countdown = λ q apart. other-at (λ (y : Participant). y.countdown) q apart ∙ (a.stays q).countdown;
        waits = λ q w h. waits-at q w (a.waits q w h);
      }

closes-last : (t : EpochState) (p : ℕ) → IsLive t p → (b : Bool) → Closes p t (if b then left_by t p else t)
closes-last t p l true =
    let scans = (place_at t p).countdown == 0 in
    let u : EpochState = if scans then scanned t p else t in
    closes-put t u p (rested t.marked (place_at u p)) l.0 (scans-if t p l scans) refl refl
closes-last t p l false = Closes-nothing p t

closes-if : (t : EpochState) (p : ℕ) → IsLive t p → (b : Bool) → nat_lt 1 (place_at t p).guards ≡ b → Closes p t (closed t p)
closes-if t p l true e =
    rw e (closes-put t t p (record (place_at t p) { guards = (place_at t p).guards - 1 }) l.0 (Scans-nothing p t) refl refl)
closes-if t p l false e = rw e (closes-last t p l (is_open (place_at t p)))

pub how-closed : (t : EpochState) (p : ℕ) → IsLive t p → Closes p t (closed t p)
how-closed t p l = closes-if t p l (nat_lt 1 (place_at t p).guards) refl

-- while a guard of p is open still, the count is as before
inner-last : (t : EpochState) (p : ℕ) → IsLive t p → (b : Bool) → IsTrue (is_open (place_at (if b then left_by t p else t) p)) →
    (if b then left_by t p else t).count ≡ t.count
inner-last t p l true o =
    let scans = (place_at t p).countdown == 0 in
    let s : EpochState = if scans then scanned t p else t in
    let there = get_or-set_same s.places p (rested t.marked (place_at s p)) nobody (scans-there l.0 (scans-if t p l scans)) in
    let never : false ≡ true = sym (ap (λ (x : Participant). is_open x) there) ∙ o in
    absurd (cc)
inner-last t p l false o = refl

inner-if : (t : EpochState) (p : ℕ) → IsLive t p → (b : Bool) → nat_lt 1 (place_at t p).guards ≡ b → IsTrue (is_open (place_at (closed t p) p)) →
    (closed t p).count ≡ t.count
inner-if t p l true e o = rw e refl
inner-if t p l false e o = rw e (inner-last t p l (is_open (place_at t p)) (rw e at o))

pub inner-count : (t : EpochState) (p : ℕ) → IsLive t p → IsTrue (is_open (place_at (closed t p) p)) → (closed t p).count ≡ t.count
inner-count t p l o = inner-if t p l (nat_lt 1 (place_at t p).guards) refl o

pub goes-up : (m n : ℕ) → (n ≡ m) ⊎ (n ≡ m + 1) → (m ≤ n) × (n ≤ m + 1)
goes-up m n (inl e) = (omega (arith, e), omega (arith, e))
goes-up m n (inr e) = (omega (arith, e), omega (arith, e))

-- a close of p, as p has it
own-scanned : (t : EpochState) (p : ℕ) → IsLive t p → nat_lt 1 (place_at t p).guards ≡ false → is_open (place_at t p) ≡ true → (b : Bool) →
    ((place_at t p).countdown == 0) ≡ b → (s : EpochState) → (scan : Scans p t s) → (b ≡ false → s ≡ t) →
    GuardClosed (place_at t p) (place_at (with_place s p (rested t.marked (place_at s p))) p)
own-scanned t p l one o true none s scan same =
    let a = scan.adopting_first in
    let there = get_or-set_same s.places p (rested t.marked (place_at s p)) nobody (scans-there l.0 scan) in
    record {
      marked = t.marked;
      left = a.own.0;
      own = there ∙ ap (λ (x : Participant). rested t.marked x) (scans-place scan p ∙ a.own.1) ∙ sym (rw (one, o) refl);
      scans = λ _. (grind (arith, nat_tests, one, o), grind (arith, nat_tests, none));
    }
own-scanned t p l one o false some s scan same =
    let x = place_at t p in
    let there = get_or-set_same s.places p (rested t.marked (place_at s p)) nobody (scans-there l.0 scan) in
    let is : rested t.marked x ≡ closed_with t.marked x = sym (rw (one, o) refl) in
    record {
      marked = t.marked;
      left = [];
      own = there ∙ ap (λ (u : EpochState). rested t.marked (place_at u p)) (same refl) ∙ is
          ∙ ap (λ (y : Participant). closed_with t.marked y) (adopting-nothing x);
      scans = λ h. absurd (h refl);
    }

scan-none : (t : EpochState) (p : ℕ) (b : Bool) → b ≡ false → (if b then scanned t p else t) ≡ t
scan-none t p b e = rw e refl

own-last : (t : EpochState) (p : ℕ) → IsLive t p → nat_lt 1 (place_at t p).guards ≡ false → (b : Bool) → is_open (place_at t p) ≡ b →
    GuardClosed (place_at t p) (place_at (if b then left_by t p else t) p)
own-last t p l one true o =
    let b = (place_at t p).countdown == 0 in
    own-scanned t p l one o b refl (if b then scanned t p else t) (scans-if t p l b) (scan-none t p b)
own-last t p l one false o =
    let x = place_at t p in
    let is : x ≡ closed_with t.marked x = sym (rw (one, o) refl) in
    record {
      marked = t.marked;
      left = [];
      own = is ∙ ap (λ (y : Participant). closed_with t.marked y) (adopting-nothing x);
      scans = λ h. absurd (h refl);
    }

own-if : (t : EpochState) (p : ℕ) → IsLive t p → (b : Bool) → nat_lt 1 (place_at t p).guards ≡ b → GuardClosed (place_at t p) (place_at (closed t p) p)
own-if t p l true e =
    let x = place_at t p in
    let y : Participant = record x { guards = x.guards - 1 } in
    let there : place_at (closed t p) p ≡ y = rw e (get_or-set_same t.places p y nobody l.0) in
    let is : y ≡ closed_with t.marked x = sym (rw e refl) in
    record {
      marked = t.marked;
      left = [];
      own = there ∙ is ∙ ap (λ (z : Participant). closed_with t.marked z) (adopting-nothing x);
      scans = λ h. absurd (h refl);
    }
own-if t p l false e = rw e (own-last t p l e (is_open (place_at t p)) refl)

pub own-closed : (t : EpochState) (p : ℕ) → IsLive t p → GuardClosed (place_at t p) (place_at (closed t p) p)
own-closed t p l = own-if t p l (nat_lt 1 (place_at t p).guards) refl
