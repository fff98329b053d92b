-- What a step does to each place.
use Rattle.std.proofs.Common.{◌≡◌, ℕ, ◌<◌, Bool, true, false, cond, eqb, ◌||◌, List, [], ◌∷◌, length, get_or, set, map, zero, suc, refl, sym, ap, subst, ◌∙◌, ⊎_elim, get_or-set_same, get_or-set_other}
use Rattle.std.proofs.lemmas.Bool.{ltb-true, true≢false, false≢true, eqb-true, eqb-false, cases_lt, and_parts, or_cases}
use Rattle.std.proofs.lemmas.List.{get_or_past, length-map}
use Rattle.sdd_machine.specs.declared.machine.steps.Step.{Step}
use Rattle.sdd_machine.specs.declared.machine.steps.Step.TheVariants.{Register, Read, Publish, Retire, Lock, Adopt, Look, Advance, Unlock, Close, End}
use Rattle.sdd_machine.specs.declared.machine.places.Phase.{Phase}
use Rattle.sdd_machine.specs.declared.machine.places.Phase.TheVariants.{Free, Closed, Reading, Open, Ended}
use Rattle.sdd_machine.specs.Table.{State, Place, place_at, free_place, is_free, is_closed, is_reading, is_open, is_ended, possible, after, registered, reading, closed, ended, retiring, published, left, freed, taking, finds_another, read_of, posted, rotated}
use Rattle.std.specs.FinSet as set

-- by cases on whether p is q
pub at_place : (p q : ℕ) (P : Bool → Type 0) → (p ≡ q → P true) → ((p ≡ q → ⊥) → P false) → P (eqb p q)
at_place p q P same other =
    elim (eqb p q) as (λ t. eqb p q ≡ t → P t) [ true ↦ λ e. same (eqb-true p q e) | false ↦ λ e. other (eqb-false p q e) ] refl

pub in_range : (xs : List Place) (p : ℕ) → is_free (get_or xs p free_place).phase ≡ false → p < length xs
in_range xs p e =
    ⊎_elim (λ l. l) (λ g. absurd (true≢false (sym (ap (λ (x : Place). is_free x.phase) (get_or_past xs p free_place g)) ∙ e))) (cases_lt p (length xs))

pub free_is : (h : Phase) → is_free h ≡ true → h ≡ Free
free_is Free e = refl
free_is Closed e = absurd (false≢true e)
free_is (Reading c) e = absurd (false≢true e)
free_is Open e = absurd (false≢true e)
free_is Ended e = absurd (false≢true e)

pub closed_is : (h : Phase) → is_closed h ≡ true → h ≡ Closed
closed_is Free e = absurd (false≢true e)
closed_is Closed e = refl
closed_is (Reading c) e = absurd (false≢true e)
closed_is Open e = absurd (false≢true e)
closed_is Ended e = absurd (false≢true e)

pub reading_is : (h : Phase) → is_reading h ≡ true → (c : ℕ) × (h ≡ Reading c)
reading_is Free e = absurd (false≢true e)
reading_is Closed e = absurd (false≢true e)
reading_is (Reading c) e = (c, refl)
reading_is Open e = absurd (false≢true e)
reading_is Ended e = absurd (false≢true e)

pub open_is : (h : Phase) → is_open h ≡ true → h ≡ Open
open_is Free e = absurd (false≢true e)
open_is Closed e = absurd (false≢true e)
open_is (Reading c) e = absurd (false≢true e)
open_is Open e = refl
open_is Ended e = absurd (false≢true e)

-- one place changed
pub place-with : (xs : List Place) (p q : ℕ) (f : Place → Place) → p < length xs →
    get_or (set xs p (f (get_or xs p free_place))) q free_place ≡ cond (eqb p q) (f (get_or xs q free_place)) (get_or xs q free_place)
place-with xs p q f l =
    at_place p q (λ t. get_or (set xs p (f (get_or xs p free_place))) q free_place ≡ cond t (f (get_or xs q free_place)) (get_or xs q free_place))
    (λ e. subst (λ (r : ℕ). get_or (set xs p (f (get_or xs p free_place))) r free_place ≡ f (get_or xs r free_place)) e
    (get_or-set_same xs p (f (get_or xs p free_place)) free_place l))
    (λ ne. get_or-set_other xs p q (f (get_or xs p free_place)) free_place (λ e. ne (sym e)))

pub place-freed : (xs : List Place) (q : ℕ) → get_or (map freed xs) q free_place ≡ freed (get_or xs q free_place)
place-freed [] q = refl
place-freed (x ∷ xs) zero = refl
place-freed (x ∷ xs) (suc q) = place-freed xs q

-- what a publish makes of a place, field by field
abbrev pub published_if : Bool → Place → Place
published_if moves x = record {
  phase = Open;
  found = read_of x.phase;
  current = cond moves set.empty x.current;
  prev = cond moves x.current x.prev;
  next = cond moves x.prev x.next;
}

abbrev pub published_fields : Place → Place
published_fields x = published_if (finds_another x) x

published_is : (x : Place) → published x ≡ published_fields x
published_is x =
    elim (finds_another x) as (λ t. posted Open (read_of x.phase) (cond t (rotated x) x) ≡ published_if t x) [ true ↦ refl | false ↦ refl ]

-- and what an adopt makes of one
abbrev pub freed_if : Bool → Place → Place
freed_if free x = record {
  phase = cond free Free x.phase;
  found = x.found;
  current = cond free set.empty x.current;
  prev = cond free set.empty x.prev;
  next = cond free set.empty x.next;
}

abbrev pub freed_fields : Place → Place
freed_fields x = freed_if (is_ended x.phase) x

freed_is : (x : Place) → freed x ≡ freed_fields x
freed_is x =
    elim (is_ended x.phase) as (λ t. cond t (record free_place { found = x.found }) x ≡ freed_if t x) [ true ↦ refl | false ↦ refl ]

-- what a step does to place q, where x stands
abbrev pub effect : State → Step → ℕ → Place → Place
effect s (Register p) q x = cond (eqb p q) (registered x) x
effect s (Read p) q x = cond (eqb p q) (reading s.count x) x
effect s (Publish p) q x = cond (eqb p q) (published_fields x) x
effect s (Retire p i) q x = cond (eqb p q) (retiring i x) x
effect s (Adopt p) q x = cond (eqb p q) (taking (left s.places) (freed_fields x)) (freed_fields x)
effect s (Close p) q x = cond (eqb p q) (closed x) x
effect s (End p) q x = cond (eqb p q) (ended x) x
effect s _ q x = x

pub open_not_free : (h : Phase) → is_open h ≡ true → is_free h ≡ false
open_not_free h e = ap is_free (open_is h e)

pub closed_not_free : (h : Phase) → is_closed h ≡ true → is_free h ≡ false
closed_not_free h e = ap is_free (closed_is h e)

pub retire_not_free : (h : Phase) → (is_closed h || is_open h) ≡ true → is_free h ≡ false
retire_not_free h e = ⊎_elim (closed_not_free h) (open_not_free h) (or_cases (is_closed h) (is_open h) e)

-- an adopt is possible only where the holder of the lock is open
pub place_after : (s : State) (step : Step) (q : ℕ) → possible s step ≡ true → ((p : ℕ) → step ≡ Adopt p → p < length s.places) →
    place_at (after s step) q ≡ effect s step q (place_at s q)
place_after s (Register p) q h a = place-with s.places p q registered (ltb-true p (length s.places) (and_parts _ _ h).0)
place_after s (Read p) q h a = place-with s.places p q (reading s.count) (in_range s.places p (closed_not_free _ h))
place_after s (Publish p) q h a =
    let x = place_at s q in
    place-with s.places p q published (in_range s.places p (let r = reading_is _ h in ap is_free r.1))
    ∙ ap (λ (y : Place). cond (eqb p q) y x) (published_is x)
place_after s (Retire p i) q h a = place-with s.places p q (retiring i) (in_range s.places p (retire_not_free _ (and_parts _ _ (and_parts _ _ h).0).0))
place_after s (Lock p) q h a = refl
place_after s (Adopt p) q h a =
    place-with (map freed s.places) p q (taking (left s.places)) (subst (λ (n : ℕ). p < n) (sym (length-map s.places freed)) (a p refl))
    ∙ ap (λ (x : Place). cond (eqb p q) (taking (left s.places) x) x) (place-freed s.places q ∙ freed_is (place_at s q))
place_after s (Look p) q h a = refl
place_after s (Advance p) q h a = refl
place_after s (Unlock p) q h a = refl
place_after s (Close p) q h a = place-with s.places p q closed (in_range s.places p (open_not_free _ (and_parts _ _ h).0))
place_after s (End p) q h a = place-with s.places p q ended (in_range s.places p (closed_not_free _ h))
