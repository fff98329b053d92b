-- Guards: what is published and not closed stays open, and the count is raised at most once.
use Rattle.std.proofs.Common.{◌≡◌, ℕ, ◌+◌, ◌≤◌, Bool, true, false, cond, eqb, List, [], ◌∷◌, ◌++◌, refl, sym, ap, subst, ◌∙◌, arith}
use Rattle.std.proofs.lemmas.Bool.{true≢false, eqb-false, and_parts}
use Rattle.sdd_machine.specs.declared.machine.steps.Step.{Step}
use Rattle.sdd_machine.specs.declared.machine.steps.Step.TheVariants.{Register, Read, Publish, Retire, Lock, Adopt, Look, Advance, Unlock, Close, End}
use Rattle.sdd_machine.specs.declared.machine.places.Phase.{Phase}
use Rattle.sdd_machine.specs.declared.machine.places.Phase.TheVariants.{Free, Open}
use Rattle.sdd_machine.specs.Table.{Size, State, Place, place_at, is_free, is_closed, is_reading, is_ended, possible, registered, reading, closed, ended, retiring, left, taking, raises}
use Rattle.sdd_machine.proofs.Histories.{IsHistory}
use Rattle.sdd_machine.specs.History.{state, count_at, last_read}
use Rattle.sdd_machine.proofs.Places.{at_place, effect, freed_fields, published_fields}
use Rattle.std.proofs.lemmas.Bool.{or_parts, or_from}
use Rattle.sdd_machine.specs.History.{closes}
use Rattle.sdd_machine.proofs.Counts.{since, PhaseOk, good, place_step}

pub count_step : (size : Size) (h : List Step) (step : Step) → count_at size h ≤ count_at size (step ∷ h)
count_step size h (Register p) = omega arith
count_step size h (Read p) = omega arith
count_step size h (Publish p) = omega arith
count_step size h (Retire p i) = omega arith
count_step size h (Lock p) = omega arith
count_step size h (Adopt p) = omega arith
count_step size h (Look p) = omega arith
count_step size h (Advance p) =
    elim (raises (state size h) p) as (λ t. count_at size h ≤ cond t (count_at size h + 1) (count_at size h)) [ true ↦ omega arith | false ↦ omega arith ]
count_step size h (Unlock p) = omega arith
count_step size h (Close p) = omega arith
count_step size h (End p) = omega arith

pub count_grows : (size : Size) (recent h : List Step) → count_at size h ≤ count_at size (recent ++ h)
count_grows size [] h = omega arith
count_grows size (step ∷ recent) h = let a = count_grows size recent h in let b = count_step size (recent ++ h) step in omega arith

pub earlier : (size : Size) (recent h : List Step) → IsHistory size (recent ++ h) → IsHistory size h
earlier size [] h i = i
earlier size (step ∷ recent) h i = earlier size recent h i.1

closes_parts : (q : ℕ) (step : Step) (h : List Step) → closes q (step ∷ h) ≡ false → (closes q (step ∷ []) ≡ false) × (closes q h ≡ false)
closes_parts q (Register p) h e = (refl, e)
closes_parts q (Read p) h e = (refl, e)
closes_parts q (Publish p) h e = (refl, e)
closes_parts q (Retire p i) h e = (refl, e)
closes_parts q (Lock p) h e = (refl, e)
closes_parts q (Adopt p) h e = (refl, e)
closes_parts q (Look p) h e = (refl, e)
closes_parts q (Advance p) h e = (refl, e)
closes_parts q (Unlock p) h e = (refl, e)
closes_parts q (Close p) h e = let parts = or_parts (eqb p q) (closes q h) e in (or_from (eqb p q) false parts.0 refl, parts.1)
closes_parts q (End p) h e = (refl, e)

-- a place in a phase that isn't Open is another one than an open place
apart : (s : State) (p q : ℕ) (test : Phase → Bool) → test (place_at s p).phase ≡ true → test Open ≡ false → (place_at s q).phase ≡ Open → p ≡ q → ⊥
apart s p q test is shut op e = true≢false (sym is ∙ (ap (λ (k : ℕ). test (place_at s k).phase) e ∙ (ap test op ∙ shut)))

open_stays : (size : Size) (h : List Step) (step : Step) (q : ℕ) → possible (state size h) step ≡ true → closes q (step ∷ []) ≡ false →
    (place_at (state size h) q).phase ≡ Open →
    ((effect (state size h) step q (place_at (state size h) q)).phase ≡ Open) × (since size q (step ∷ h) ≡ since size q h)
open_stays size h (Register p) q can cl op =
    let s = state size h in let x = place_at s q in
    (at_place p q (λ t. (cond t (registered x) x).phase ≡ Open) (λ e. absurd (apart s p q is_free (and_parts _ _ can).1 refl op e)) (λ _. op), refl)
open_stays size h (Read p) q can cl op =
    let s = state size h in let x = place_at s q in
    (at_place p q (λ t. (cond t (reading s.count x) x).phase ≡ Open) (λ e. absurd (apart s p q is_closed can refl op e)) (λ _. op), refl)
open_stays size h (Publish p) q can cl op =
    let s = state size h in let x = place_at s q in (
      at_place p q (λ t. (cond t (published_fields x) x).phase ≡ Open) (λ _. refl) (λ _. op),
      at_place p q (λ t. cond t (count_at size h) (since size q h) ≡ since size q h) (λ e. absurd (apart s p q is_reading can refl op e)) (λ _. refl),
    )
open_stays size h (Retire p i) q can cl op =
    let s = state size h in let x = place_at s q in
    (at_place p q (λ t. (cond t (retiring i x) x).phase ≡ Open) (λ _. op) (λ _. op), refl)
open_stays size h (Lock p) q can cl op = (op, refl)
open_stays size h (Adopt p) q can cl op =
    let s = state size h in let x = place_at s q in let l = left s.places in
    let k : cond (is_ended x.phase) Free x.phase ≡ Open = subst (λ (ph : Phase). cond (is_ended ph) Free ph ≡ Open) (sym op) refl in
    (at_place p q (λ t. (cond t (taking l (freed_fields x)) (freed_fields x)).phase ≡ Open) (λ _. k) (λ _. k), refl)
open_stays size h (Look p) q can cl op = (op, refl)
open_stays size h (Advance p) q can cl op = (op, refl)
open_stays size h (Unlock p) q can cl op = (op, refl)
open_stays size h (Close p) q can cl op =
    let s = state size h in let x = place_at s q in
    (at_place p q (λ t. (cond t (closed x) x).phase ≡ Open) (λ e. absurd (eqb-false p q (or_parts (eqb p q) false cl).0 e)) (λ _. op), refl)
open_stays size h (End p) q can cl op =
    let s = state size h in let x = place_at s q in
    (at_place p q (λ t. (cond t (ended x) x).phase ≡ Open) (λ e. absurd (apart s p q is_closed can refl op e)) (λ _. op), refl)

-- a guard stays open until it closes
pub still_open : (size : Size) (q : ℕ) (inside before : List Step) → IsHistory size (inside ++ Publish q ∷ before) → closes q inside ≡ false →
    ((place_at (state size (inside ++ Publish q ∷ before)) q).phase ≡ Open) × (since size q (inside ++ Publish q ∷ before) ≡ count_at size before)
still_open size q [] before i cl =
    let s = state size before in let x = place_at s q in (
      ap (λ (y : Place). y.phase) (place_step size before (Publish q) (good size before i.1) i.0 q)
          ∙ at_place q q (λ t. (cond t (published_fields x) x).phase ≡ Open) (λ _. refl) (λ ne. absurd (ne refl)),
      at_place q q (λ t. cond t (count_at size before) (since size q before) ≡ count_at size before) (λ _. refl) (λ ne. absurd (ne refl)),
    )
still_open size q (step ∷ inside) before i cl =
    let h = inside ++ Publish q ∷ before in
    let parts = closes_parts q step inside cl in
    let was = still_open size q inside before i.1 parts.1 in
    let next = open_stays size h step q i.0 parts.0 was.0 in
    (ap (λ (y : Place). y.phase) (place_step size h step (good size h i.1) i.0 q) ∙ next.0, next.1 ∙ was.1)

pub raised_once : (size : Size) (q : ℕ) (inside before : List Step) → IsHistory size (inside ++ Publish q ∷ before) → closes q inside ≡ false →
    count_at size (inside ++ Publish q ∷ before) ≤ count_at size before + 1
raised_once size q inside before i cl =
    let h = inside ++ Publish q ∷ before in
    let is = still_open size q inside before i cl in
    let g = good size h i in
    let ok : ((place_at (state size h) q).found ≤ since size q h) × (since size q h ≤ count_at size h) × (count_at size h ≤ since size q h + 1) =
    subst (λ (ph : Phase). PhaseOk (count_at size h) (since size q h) (last_read size q h) ph (place_at (state size h) q).found) is.0 (g.places q) in
    let e : since size q h ≡ count_at size before = is.1 in
    omega arith
