-- The counts: what a place found, what it read, and the scan.
use Rattle.std.proofs.Common.{◌≡◌, ◌≢◌, ℕ, ◌+◌, ◌<◌, ◌≤◌, Bool, true, false, cond, eqb, ltb, leb, not, ◌&&◌, List, [], ◌∷◌, length, replicate, get_or, zero, suc, refl, sym, ap, subst, ◌∙◌, ⊎_elim, inl, inr, ◌⊎◌, arith, Option, Some, None}
use Rattle.std.proofs.lemmas.Bool.{leb-true, true≢false, false≢true, eqb-true, eqb-false, cases_eq, and_parts, or_cases, not-true, not-false}
use Rattle.std.specs.Prelude.{◌==◌}
use Rattle.sdd_machine.specs.declared.machine.steps.Step.{Step}
use Rattle.sdd_machine.specs.declared.machine.steps.Step.TheVariants.{Register, Read, Publish, Retire, Lock, Adopt, Look, Advance, Unlock, Close, End}
use Rattle.sdd_machine.specs.declared.machine.places.Phase.{Phase}
use Rattle.sdd_machine.specs.declared.machine.places.Phase.TheVariants.{Free, Closed, Reading, Open, Ended}
use Rattle.sdd_machine.specs.declared.machine.places.Scan.{Scan}
use Rattle.sdd_machine.specs.Table.{Size, State, Place, place_at, free_place, is_free, is_closed, is_reading, is_open, is_ended, read_of, possible, registered, reading, closed, ended, retiring, left, taking, raises, skip, looked, scan_looked, scan_advanced, holds, adopts, looks, advances}
use Rattle.sdd_machine.proofs.Histories.{IsHistory}
use Rattle.sdd_machine.specs.History.{state, count_at, last_read, last_published}
use Rattle.sdd_machine.proofs.Places.{at_place, in_range, closed_is, reading_is, open_is, effect, place_after, freed_fields, published_fields}

-- the count at q's last publish
abbrev pub since : Size → ℕ → List Step → ℕ
since size q [] = 0
since size q (Publish p ∷ h) = cond (eqb p q) (count_at size h) (since size q h)
since size q (_ ∷ h) = since size q h

-- c is the count now, b the one at the last publish, r what was read last, f what was found last
abbrev pub PhaseOk : ℕ → ℕ → ℕ → Phase → ℕ → Type 0
PhaseOk c b r Free f = Unit {0}
PhaseOk c b r Closed f = f ≤ c
PhaseOk c b r (Reading d) f = (d ≡ r) × (f ≤ d) × (d ≤ c)
PhaseOk c b r Open f = (f ≤ b) × (b ≤ c) × (c ≤ b + 1)
PhaseOk c b r Ended f = Unit {0}

-- what the holder of the lock has looked at and passed, it may count past
pub record IsScan (b : ℕ → ℕ) (at : ℕ → Place) (x : Scan) : Type 0 where
  pub opened : (at x.holder).phase ≡ Open
  pub passed : x.failed ≡ false → (q : ℕ) → q < x.cursor → (q ≡ x.holder → ⊥) → (at q).phase ≡ Open → (at x.holder).found ≤ b q

abbrev pub ScanOk : (ℕ → ℕ) → (ℕ → Place) → Option Scan → Type 0
ScanOk b at None = Unit {0}
ScanOk b at (Some x) = IsScan b at x

pub record GoodOf (c : ℕ) (b r l : ℕ → ℕ) (at : ℕ → Place) (scan : Option Scan) : Type 0 where
  pub places : (q : ℕ) → PhaseOk c (b q) (r q) (at q).phase (at q).found
  pub found : (q : ℕ) → (at q).found ≡ l q
  pub scanned : ScanOk b at scan

abbrev pub Good : Size → List Step → Type 0
Good size h =
    GoodOf (count_at size h) (λ q. since size q h) (λ q. last_read size q h) (λ q. last_published size q h) (λ q. place_at (state size h) q) (state size h).scan

-- one place changed, that isn't the holder's
scan_other : (b b' : ℕ → ℕ) (at : ℕ → Place) (x : Scan) (p : ℕ) (f : Place → Place) → IsScan b at x → (p ≡ x.holder → ⊥) →
    ((f (at p)).phase ≡ Open → (at x.holder).found ≤ b' p) → ((q : ℕ) → (p ≡ q → ⊥) → b' q ≡ b q) →
    IsScan b' (λ q. cond (eqb p q) (f (at q)) (at q)) x
scan_other b b' at x p f i ne new same = record {
  opened = at_place p x.holder (λ t. (cond t (f (at x.holder)) (at x.holder)).phase ≡ Open) (λ e. absurd (ne e)) (λ _. i.opened);
  passed = λ ok q lt other op.
      let kept : (cond (eqb p x.holder) (f (at x.holder)) (at x.holder)).found ≡ (at x.holder).found =
      at_place p x.holder (λ t. (cond t (f (at x.holder)) (at x.holder)).found ≡ (at x.holder).found) (λ e. absurd (ne e)) (λ _. refl) in
      subst (λ (k : ℕ). k ≤ b' q) (sym kept)
      (at_place p q (λ t. (cond t (f (at q)) (at q)).phase ≡ Open → (at x.holder).found ≤ b' q)
      (λ e o. subst (λ (k : ℕ). (f (at k)).phase ≡ Open → (at x.holder).found ≤ b' k) e new o)
      (λ d o. subst (λ (k : ℕ). (at x.holder).found ≤ k) (sym (same q d)) (i.passed ok q lt other o))
      op);
}

scan_other_ok : (b b' : ℕ → ℕ) (at : ℕ → Place) (o : Option Scan) (p : ℕ) (f : Place → Place) → ScanOk b at o →
    ((x : Scan) → o ≡ Some x → IsScan b at x → p ≡ x.holder → ⊥) →
    ((x : Scan) → IsScan b at x → (f (at p)).phase ≡ Open → (at x.holder).found ≤ b' p) → ((q : ℕ) → (p ≡ q → ⊥) → b' q ≡ b q) →
    ScanOk b' (λ q. cond (eqb p q) (f (at q)) (at q)) o
scan_other_ok b b' at None p f i ne new same = tt
scan_other_ok b b' at (Some x) p f i ne new same = scan_other b b' at x p f i (ne x refl i) (new x i) same

-- each place is changed, but what is open stays so with what it found, and nothing else opens
scan_kept : (b : ℕ → ℕ) (at at' : ℕ → Place) (o : Option Scan) → ScanOk b at o →
    ((q : ℕ) → (at q).phase ≡ Open → ((at' q).phase ≡ Open) × ((at' q).found ≡ (at q).found)) →
    ((q : ℕ) → (at' q).phase ≡ Open → (at q).phase ≡ Open) → ScanOk b at' o
scan_kept b at at' None i on off = tt
scan_kept b at at' (Some x) i on off = record {
  opened = (on x.holder i.opened).0;
  passed = λ ok q lt other op. subst (λ (k : ℕ). k ≤ b q) (sym (on x.holder i.opened).1) (i.passed ok q lt other (off q op));
}

pub holder_open : (b : ℕ → ℕ) (at : ℕ → Place) (o : Option Scan) (p : ℕ) → ScanOk b at o → holds p o ≡ true → (at p).phase ≡ Open
holder_open b at None p i h = absurd (false≢true h)
holder_open b at (Some x) p i h = subst (λ (k : ℕ). (at k).phase ≡ Open) (eqb-true x.holder p h) i.opened

pub adopts_holds : (o : Option Scan) (p : ℕ) → adopts p o ≡ true → holds p o ≡ true
adopts_holds None p h = h
adopts_holds (Some x) p h = (and_parts _ _ h).0

-- at an advance by p each open place published at p's count at least
advance_le : (c : ℕ) (b r : ℕ → ℕ) (at : ℕ → Place) (n p : ℕ) (o : Option Scan) →
    ((q : ℕ) → PhaseOk c (b q) (r q) (at q).phase (at q).found) → ((q : ℕ) → (at q).phase ≡ Open → q < n) → ScanOk b at o →
    advances n p o ≡ true → (q : ℕ) → (at q).phase ≡ Open → (at p).found ≤ b q
advance_le c b r at n p None ok within i h q op = absurd (false≢true h)
advance_le c b r at n p (Some x) ok within i h q op =
    let parts = and_parts (x.holder == p && not x.advanced && not x.failed) (leb n x.cursor) h in
    let more = and_parts (x.holder == p && not x.advanced) (not x.failed) parts.0 in
    let is_p : x.holder ≡ p = eqb-true x.holder p (and_parts (x.holder == p) (not x.advanced) more.0).0 in
    subst (λ (k : ℕ). (at k).found ≤ b q) is_p
    (⊎_elim
    (λ e. subst (λ (k : ℕ). (at k).found ≤ b q) e (let found : PhaseOk c (b q) (r q) Open (at q).found =
    subst (λ (ph : Phase). PhaseOk c (b q) (r q) ph (at q).found) op (ok q) in found.0))
    (λ ne. let lt : q < n = within q op in let le : n ≤ x.cursor = leb-true n x.cursor parts.1 in i.passed (not-true _ more.1) q (omega arith) ne op)
    (cases_eq q x.holder))

raised_ok : (c b r : ℕ) (ph : Phase) (f : ℕ) → PhaseOk c b r ph f → (ph ≡ Open → c ≤ b) → PhaseOk (c + 1) b r ph f
raised_ok c b r Free f ok le = tt
raised_ok c b r Closed f ok le = omega arith
raised_ok c b r (Reading d) f ok le = (ok.0, ok.1, omega arith)
raised_ok c b r Open f ok le = let h : c ≤ b = le refl in (ok.0, omega arith, omega arith)
raised_ok c b r Ended f ok le = tt

-- what the invariant says of places after a step, place by place
abbrev AtPlace : Size → List Step → Step → ℕ → Place → Type 0
AtPlace size h step q y = PhaseOk (count_at size (step ∷ h)) (since size q (step ∷ h)) (last_read size q (step ∷ h)) y.phase y.found

freed_ok : (c b r : ℕ) (ph : Phase) (f : ℕ) → PhaseOk c b r ph f → PhaseOk c b r (cond (is_ended ph) Free ph) f
freed_ok c b r Free f ok = ok
freed_ok c b r Closed f ok = ok
freed_ok c b r (Reading d) f ok = ok
freed_ok c b r Open f ok = ok
freed_ok c b r Ended f ok = tt

pub at_q : (P : Phase → Type 0) (at : ℕ → Place) (p q : ℕ) (k : Phase) → p ≡ q → (at p).phase ≡ k → P (at q).phase → P k
at_q P at p q k e h x = subst P (subst (λ (j : ℕ). (at j).phase ≡ k) e h) x

places_step : (size : Size) (h : List Step) (step : Step) → Good size h → possible (state size h) step ≡ true → (q : ℕ) →
    AtPlace size h step q (effect (state size h) step q (place_at (state size h) q))
places_step size h (Register p) g can q =
    let x = place_at (state size h) q in
    at_place p q (λ t. PhaseOk (count_at size h) (since size q h) (last_read size q h) (cond t (registered x) x).phase (cond t (registered x) x).found)
    (λ e. omega arith) (λ _. g.places q)
places_step size h (Read p) g can q =
    let s = state size h in let x = place_at s q in let c = count_at size h in
    at_place p q (λ t. PhaseOk c (since size q h) (cond t c (last_read size q h)) (cond t (reading c x) x).phase (cond t (reading c x) x).found)
    (λ e. let le : x.found ≤ c = at_q (λ (ph : Phase). PhaseOk c (since size q h) (last_read size q h) ph x.found)
    (place_at s) p q Closed e (closed_is _ can) (g.places q) in (refl, le, omega arith))
    (λ _. g.places q)
places_step size h (Publish p) g can q =
    let s = state size h in let x = place_at s q in let c = count_at size h in
    at_place p q (λ t. PhaseOk c (cond t c (since size q h)) (last_read size q h) (cond t (published_fields x) x).phase (cond t (published_fields x) x).found)
    (λ e. let r = reading_is _ can in
    let ok : (r.0 ≡ last_read size q h) × (x.found ≤ r.0) × (r.0 ≤ c) =
    at_q (λ (ph : Phase). PhaseOk c (since size q h) (last_read size q h) ph x.found) (place_at s) p q (Reading r.0) e r.1 (g.places q) in
    let is : read_of x.phase ≡ r.0 = ap read_of (subst (λ (j : ℕ). (place_at s j).phase ≡ Reading r.0) e r.1) in
    (omega arith, omega arith, omega arith))
    (λ _. g.places q)
places_step size h (Retire p i) g can q =
    let x = place_at (state size h) q in
    at_place p q (λ t. PhaseOk (count_at size h) (since size q h) (last_read size q h) (cond t (retiring i x) x).phase (cond t (retiring i x) x).found)
    (λ _. g.places q) (λ _. g.places q)
places_step size h (Lock p) g can q = g.places q
places_step size h (Adopt p) g can q =
    let s = state size h in let x = place_at s q in let l = left s.places in
    let ok = freed_ok (count_at size h) (since size q h) (last_read size q h) x.phase x.found (g.places q) in
    at_place p q (λ t. PhaseOk (count_at size h) (since size q h) (last_read size q h)
    (cond t (taking l (freed_fields x)) (freed_fields x)).phase (cond t (taking l (freed_fields x)) (freed_fields x)).found)
    (λ _. ok) (λ _. ok)
places_step size h (Look p) g can q = g.places q
places_step size h (Advance p) g can q =
    let s = state size h in let x = place_at s q in let c = count_at size h in
    let le : (place_at s q).phase ≡ Open → (place_at s p).found ≤ since size q h =
    advance_le c (λ j. since size j h) (λ j. last_read size j h) (place_at s)
    (length s.places) p s.scan g.places (λ j o. in_range s.places j (ap is_free o)) g.scanned can q in
    elim (raises s p) as (λ t. raises s p ≡ t → PhaseOk (cond t (c + 1) c) (since size q h) (last_read size q h) x.phase x.found) [
      | true ↦ λ e. raised_ok c (since size q h) (last_read size q h) x.phase x.found (g.places q)
          (λ o. let eq : c ≡ (place_at s p).found = eqb-true c (place_at s p).found (and_parts _ _ e).0 in
          let under : (place_at s p).found ≤ since size q h = le o in omega arith)
      | false ↦ λ e. g.places q
    ] refl
places_step size h (Unlock p) g can q = g.places q
places_step size h (Close p) g can q =
    let s = state size h in let x = place_at s q in let c = count_at size h in
    at_place p q (λ t. PhaseOk c (since size q h) (last_read size q h) (cond t (closed x) x).phase (cond t (closed x) x).found)
    (λ e. let ok : (x.found ≤ since size q h) × (since size q h ≤ c) × (c ≤ since size q h + 1) =
    at_q (λ (ph : Phase). PhaseOk c (since size q h) (last_read size q h) ph x.found)
    (place_at s) p q Open e (open_is _ (and_parts _ _ can).0) (g.places q) in omega arith)
    (λ _. g.places q)
places_step size h (End p) g can q =
    let x = place_at (state size h) q in
    at_place p q (λ t. PhaseOk (count_at size h) (since size q h) (last_read size q h) (cond t (ended x) x).phase (cond t (ended x) x).found)
    (λ e. tt) (λ _. g.places q)

found_step : (size : Size) (h : List Step) (step : Step) → Good size h → possible (state size h) step ≡ true → (q : ℕ) →
    (effect (state size h) step q (place_at (state size h) q)).found ≡ last_published size q (step ∷ h)
found_step size h (Register p) g can q =
    let x = place_at (state size h) q in
    at_place p q (λ t. (cond t (registered x) x).found ≡ cond t 0 (last_published size q h)) (λ _. refl) (λ _. g.found q)
found_step size h (Read p) g can q =
    let s = state size h in let x = place_at s q in
    at_place p q (λ t. (cond t (reading s.count x) x).found ≡ last_published size q h) (λ _. g.found q) (λ _. g.found q)
found_step size h (Publish p) g can q =
    let s = state size h in let x = place_at s q in let c = count_at size h in
    at_place p q (λ t. (cond t (published_fields x) x).found ≡ cond t (last_read size q h) (last_published size q h))
    (λ e. let r = reading_is _ can in
    let ok : (r.0 ≡ last_read size q h) × (x.found ≤ r.0) × (r.0 ≤ c) =
    at_q (λ (ph : Phase). PhaseOk c (since size q h) (last_read size q h) ph x.found) (place_at s) p q (Reading r.0) e r.1 (g.places q) in
    ap read_of (subst (λ (j : ℕ). (place_at s j).phase ≡ Reading r.0) e r.1) ∙ ok.0)
    (λ _. g.found q)
found_step size h (Retire p i) g can q =
    let x = place_at (state size h) q in
    at_place p q (λ t. (cond t (retiring i x) x).found ≡ last_published size q h) (λ _. g.found q) (λ _. g.found q)
found_step size h (Lock p) g can q = g.found q
found_step size h (Adopt p) g can q =
    let s = state size h in let x = place_at s q in let l = left s.places in
    at_place p q (λ t. (cond t (taking l (freed_fields x)) (freed_fields x)).found ≡ last_published size q h) (λ _. g.found q) (λ _. g.found q)
found_step size h (Look p) g can q = g.found q
found_step size h (Advance p) g can q = g.found q
found_step size h (Unlock p) g can q = g.found q
found_step size h (Close p) g can q =
    let x = place_at (state size h) q in
    at_place p q (λ t. (cond t (closed x) x).found ≡ last_published size q h) (λ _. g.found q) (λ _. g.found q)
found_step size h (End p) g can q =
    let x = place_at (state size h) q in
    at_place p q (λ t. (cond t (ended x) x).found ≡ last_published size q h) (λ _. g.found q) (λ _. g.found q)

-- the holder is open, so it is no place in another phase
pub not_holder : (b : ℕ → ℕ) (at : ℕ → Place) (p : ℕ) (test : Phase → Bool) → test (at p).phase ≡ true → test Open ≡ false → (x : Scan) →
    IsScan b at x → p ≡ x.holder → ⊥
not_holder b at p test is not_open x i e =
    true≢false (sym is ∙ (ap (λ (k : ℕ). test (at k).phase) e ∙ (ap test i.opened ∙ not_open)))

not_holds : (x : Scan) (p : ℕ) → not (x.holder == p) ≡ true → p ≡ x.holder → ⊥
not_holds x p e eq = eqb-false x.holder p (not-true _ e) (sym eq)

pub not_holds_of : (o : Option Scan) (p : ℕ) → not (holds p o) ≡ true → (x : Scan) → o ≡ Some x → p ≡ x.holder → ⊥
not_holds_of None p e x is eq = cc
not_holds_of (Some y) p e x is eq = not_holds y p e (eq ∙ (let f : y ≡ x = cc in ap (λ (z : Scan). z.holder) (sym f)))

freed_open : (ph : Phase) → cond (is_ended ph) Free ph ≡ Open → ph ≡ Open
freed_open Free e = e
freed_open Closed e = e
freed_open (Reading d) e = e
freed_open Open e = e
freed_open Ended e = cc

open_freed : (ph : Phase) → ph ≡ Open → cond (is_ended ph) Free ph ≡ Open
open_freed ph e = subst (λ (k : Phase). cond (is_ended k) Free k ≡ Open) (sym e) refl

below_skip : (p a q : ℕ) → q < skip p (a + 1) → (q ≡ p → ⊥) → (q < a) ⊎ (q ≡ a)
below_skip p a q lt ne =
    at_place (a + 1) p (λ t. q < cond t (a + 1 + 1) (a + 1) → (q < a) ⊎ (q ≡ a))
    (λ e l. ⊎_elim (λ is. inr is) (λ other. let far : q ≢ a + 1 = λ f. ne (f ∙ e) in inl (omega arith)) (cases_eq q a))
    (λ _ l. ⊎_elim (λ is. inr is) (λ other. inl (omega arith)) (cases_eq q a))
    lt

none_before : (p q : ℕ) → q < skip p 0 → (q ≡ p → ⊥) → ⊥
none_before p q lt ne = at_place 0 p (λ t. q < cond t (0 + 1) 0 → ⊥) (λ e l. ne (omega arith)) (λ _ l. omega arith) lt

looks_ok : (b : ℕ → ℕ) (s : State) (x : Scan) → ((q : ℕ) → (place_at s q).phase ≡ Open → (place_at s q).found ≤ b q) → IsScan b (place_at s) x →
    x.failed ≡ false → IsScan b (place_at s) (looked s x)
looks_ok b s x ok i unfailed = record {
  opened = i.opened;
  passed = λ pass q lt other op.
      ⊎_elim (λ l. i.passed unfailed q l other op)
      (λ e. ⊎_elim
      (λ shut. absurd (true≢false (sym (ap is_open (subst (λ (k : ℕ). (place_at s k).phase ≡ Open) e op)) ∙ not-true _ shut)))
      (λ same. let eq : (place_at s x.cursor).found ≡ (place_at s x.holder).found = eqb-true (place_at s x.cursor).found (place_at s x.holder).found same in
      subst (λ (k : ℕ). k ≤ b q) (ap (λ (k : ℕ). (place_at s k).found) e ∙ eq) (ok q op))
      (or_cases (not (is_open (place_at s x.cursor).phase)) ((place_at s x.cursor).found == (place_at s x.holder).found) (not-false _ pass)))
      (below_skip x.holder x.cursor q lt other);
}

look_ok : (b : ℕ → ℕ) (s : State) (o : Option Scan) (n p : ℕ) → ((q : ℕ) → (place_at s q).phase ≡ Open → (place_at s q).found ≤ b q) →
    ScanOk b (place_at s) o → looks n p o ≡ true → ScanOk b (place_at s) (scan_looked s o)
look_ok b s None n p ok i can = tt
look_ok b s (Some x) n p ok i can = looks_ok b s x ok i (not-true _ (and_parts _ _ (and_parts (x.holder == p && not x.failed) (ltb x.cursor n) can).0).1)

advance_ok : (b : ℕ → ℕ) (at : ℕ → Place) (o : Option Scan) → ScanOk b at o → ScanOk b at (scan_advanced o)
advance_ok b at None i = tt
advance_ok b at (Some x) i = record { opened = i.opened; passed = i.passed }

scan_step : (size : Size) (h : List Step) (step : Step) → Good size h → possible (state size h) step ≡ true →
    ScanOk (λ q. since size q (step ∷ h)) (λ q. effect (state size h) step q (place_at (state size h) q)) (state size (step ∷ h)).scan
scan_step size h (Register p) g can =
    let s = state size h in let b : ℕ → ℕ = λ q. since size q h in
    scan_other_ok b b (place_at s) s.scan p registered g.scanned
    (λ x _. not_holder b (place_at s) p is_free (and_parts _ _ can).1 refl x) (λ x i o. cc) (λ q _. refl)
scan_step size h (Read p) g can =
    let s = state size h in let b : ℕ → ℕ = λ q. since size q h in
    scan_other_ok b b (place_at s) s.scan p (reading s.count) g.scanned
    (λ x _. not_holder b (place_at s) p is_closed can refl x) (λ x i o. cc) (λ q _. refl)
scan_step size h (Publish p) g can =
    let s = state size h in let b : ℕ → ℕ = λ q. since size q h in let c = count_at size h in
    scan_other_ok b (λ q. cond (eqb p q) c (b q)) (place_at s) s.scan p published_fields g.scanned
    (λ x _. not_holder b (place_at s) p is_reading can refl x)
    (λ x i o. at_place p p (λ t. (place_at s x.holder).found ≤ cond t c (b p))
    (λ _. let ok : ((place_at s x.holder).found ≤ b x.holder) × (b x.holder ≤ c) × (c ≤ b x.holder + 1) =
    subst (λ (ph : Phase). PhaseOk c (b x.holder) (last_read size x.holder h) ph (place_at s x.holder).found) i.opened (g.places x.holder) in omega arith)
    (λ ne. absurd (ne refl)))
    (λ q ne. at_place p q (λ t. cond t c (b q) ≡ b q) (λ e. absurd (ne e)) (λ _. refl))
scan_step size h (Retire p i) g can =
    let s = state size h in let b : ℕ → ℕ = λ q. since size q h in
    scan_kept b (place_at s) (λ q. effect s (Retire p i) q (place_at s q)) s.scan g.scanned
    (λ q o. at_place p q (λ t. ((cond t (retiring i (place_at s q)) (place_at s q)).phase ≡ Open) ×
    ((cond t (retiring i (place_at s q)) (place_at s q)).found ≡ (place_at s q).found)) (λ _. (o, refl)) (λ _. (o, refl)))
    (λ q. at_place p q (λ t. (cond t (retiring i (place_at s q)) (place_at s q)).phase ≡ Open → (place_at s q).phase ≡ Open) (λ _ o. o) (λ _ o. o))
scan_step size h (Lock p) g can =
    let s = state size h in
    record {
      opened = open_is _ (and_parts _ _ can).0;
      passed = λ _ q lt ne _. absurd (none_before p q lt ne);
    }
scan_step size h (Adopt p) g can =
    let s = state size h in let b : ℕ → ℕ = λ q. since size q h in let l = left s.places in
    scan_kept b (place_at s) (λ q. effect s (Adopt p) q (place_at s q)) s.scan g.scanned
    (λ q o. let x = place_at s q in
    at_place p q (λ t. ((cond t (taking l (freed_fields x)) (freed_fields x)).phase ≡ Open) ×
    ((cond t (taking l (freed_fields x)) (freed_fields x)).found ≡ x.found)) (λ _. (open_freed _ o, refl)) (λ _. (open_freed _ o, refl)))
    (λ q. let x = place_at s q in at_place p q (λ t. (cond t (taking l (freed_fields x)) (freed_fields x)).phase ≡ Open → x.phase ≡ Open)
    (λ _ o. freed_open _ o) (λ _ o. freed_open _ o))
scan_step size h (Look p) g can =
    let s = state size h in let b : ℕ → ℕ = λ q. since size q h in
    look_ok b s s.scan (length s.places) p
    (λ q o. let ok : ((place_at s q).found ≤ b q) × (b q ≤ s.count) × (s.count ≤ b q + 1) =
    subst (λ (ph : Phase). PhaseOk s.count (b q) (last_read size q h) ph (place_at s q).found) o (g.places q) in ok.0)
    g.scanned can
scan_step size h (Advance p) g can = advance_ok (λ q. since size q h) (place_at (state size h)) (state size h).scan g.scanned
scan_step size h (Unlock p) g can = tt
scan_step size h (Close p) g can =
    let s = state size h in let b : ℕ → ℕ = λ q. since size q h in
    scan_other_ok b b (place_at s) s.scan p closed g.scanned
    (λ x e i. not_holds_of s.scan p (and_parts _ _ can).1 x e) (λ x i o. cc) (λ q _. refl)
scan_step size h (End p) g can =
    let s = state size h in let b : ℕ → ℕ = λ q. since size q h in
    scan_other_ok b b (place_at s) s.scan p ended g.scanned
    (λ x _. not_holder b (place_at s) p is_closed can refl x) (λ x i o. cc) (λ q _. refl)

adopt_in_range : (size : Size) (h : List Step) (step : Step) → Good size h → possible (state size h) step ≡ true → (p : ℕ) → step ≡ Adopt p →
    p < length (state size h).places
adopt_in_range size h step g can p is =
    let s = state size h in
    let may : possible s (Adopt p) ≡ true = subst (λ (x : Step). possible s x ≡ true) is can in
    in_range s.places p (ap is_free (holder_open (λ q. since size q h) (place_at s) s.scan p g.scanned (adopts_holds s.scan p may)))

pub place_step : (size : Size) (h : List Step) (step : Step) → Good size h → possible (state size h) step ≡ true → (q : ℕ) →
    place_at (state size (step ∷ h)) q ≡ effect (state size h) step q (place_at (state size h) q)
place_step size h step g can q = place_after (state size h) step q can (adopt_in_range size h step g can)

good_step : (size : Size) (h : List Step) (step : Step) → Good size h → possible (state size h) step ≡ true → Good size (step ∷ h)
good_step size h step g can =
    let at : ℕ → Place = λ q. effect (state size h) step q (place_at (state size h) q) in
    let same : at ≡ (λ q. place_at (state size (step ∷ h)) q) = λ i q. sym (place_step size h step g can q) i in
    subst (λ (f : ℕ → Place). GoodOf (count_at size (step ∷ h)) (λ q. since size q (step ∷ h))
    (λ q. last_read size q (step ∷ h)) (λ q. last_published size q (step ∷ h)) f (state size (step ∷ h)).scan) same
    (record { places = places_step size h step g can; found = found_step size h step g can; scanned = scan_step size h step g can })

pub get_or-free : (k q : ℕ) → get_or (replicate k free_place) q free_place ≡ free_place
get_or-free zero q = refl
get_or-free (suc k) zero = refl
get_or-free (suc k) (suc q) = get_or-free k q

pub good : (size : Size) (h : List Step) → IsHistory size h → Good size h
good size [] i = record {
  places = λ q. subst (λ (x : Place). PhaseOk 0 0 0 x.phase x.found) (sym (get_or-free size.places q)) tt;
  found = λ q. ap (λ (x : Place). x.found) (get_or-free size.places q);
  scanned = tt;
}
good size (step ∷ h) i = good_step size h step (good size h i.1) i.0
