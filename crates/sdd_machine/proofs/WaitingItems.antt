-- Items: who waits with whom, and in which bag.
use Rattle.std.proofs.Common.{◌≡◌, ℕ, ◌+◌, ◌<◌, ◌≤◌, Bool, true, false, cond, eqb, not, ◌&&◌, ◌||◌, List, [], ◌∷◌, get_or, refl, sym, ap, subst, ◌∙◌, ⊎_elim, arith}
use Rattle.std.proofs.lemmas.Bool.{true≢false, false≢true, eqb-true, eqb-false, cases_eq, and_parts, or_cases, not-true, not-false}
use Rattle.std.specs.Prelude.{◌==◌}
use Rattle.sdd_machine.specs.declared.machine.steps.Step.{Step}
use Rattle.sdd_machine.specs.declared.machine.steps.Step.TheVariants.{Register, Read, Publish, Retire, Lock, Adopt, Look, Advance, Unlock, Close, End}
use Rattle.sdd_machine.specs.declared.machine.places.Phase.{Phase}
use Rattle.sdd_machine.specs.declared.machine.places.Phase.TheVariants.{Free, Closed, Reading, Open, Ended}
use Rattle.sdd_machine.specs.Table.{Size, Place, Items, place_at, is_closed, is_reading, is_open, is_ended, read_of, possible, registered, reading, closed, ended, retiring, left, taking}
use Rattle.sdd_machine.specs.History.{state, count_at, last_read, last_published}
use Rattle.sdd_machine.proofs.Places.{at_place, free_is, closed_is, reading_is, open_is, effect, freed_fields, published_fields}
use Rattle.std.specs.Cmp.{nat_cmp_total, unsigned_tied}
use Rattle.std.specs.FinSet as set
use Rattle.sdd_machine.specs.Table.{finds_another}
use Rattle.sdd_machine.specs.History.{is_change, fate, changed, taken_over, Fate, Kept, Waits, Left, Gone}
use Rattle.sdd_machine.specs.History as history
use Rattle.sdd_machine.proofs.Guards.{count_step}
use Rattle.sdd_machine.proofs.Counts.{since, PhaseOk, Good, holder_open, adopts_holds}

-- the count at i's last retirement
abbrev pub retired_at : Size → ℕ → List Step → ℕ
retired_at size i [] = 0
retired_at size i (Retire p j ∷ h) = cond (eqb j i) (count_at size h) (retired_at size i h)
retired_at size i (_ ∷ h) = retired_at size i h

abbrev pub live : Phase → Bool
live Free = false
live Closed = true
live (Reading c) = true
live Open = true
live Ended = false

-- what was retired at count r was not read before
abbrev pub ReadOk : ℕ → Phase → Type 0
ReadOk r (Reading c) = r ≤ c
ReadOk r _ = Unit {0}

-- x holds an item that was retired at count r, and has changed k times since its start
pub record WaitOk (c r : ℕ) (k : ℕ) (ph : Phase) (f : ℕ) : Type 0 where
  pub young : k < 3
  pub before : r ≤ c
  pub alive : live ph ≡ true
  pub aged : 0 < k → r + k ≤ f + 1
  pub unread : ReadOk r ph

abbrev pub FateOk : ℕ → ℕ → (ℕ → Place) → Fate → Type 0
FateOk c r at Kept = Unit {0}
FateOk c r at (Waits p k) = WaitOk c r k (at p).phase (at p).found
FateOk c r at (Left p k) = (k < 3) × (r ≤ c) × ((at p).phase ≡ Ended)
FateOk c r at Gone = Unit {0}

-- whether an item with this fate is in bag k of q
abbrev pub is_with : Fate → ℕ → ℕ → Bool
is_with Kept q k = false
is_with (Waits p j) q k = eqb q p && eqb j k
is_with (Left p j) q k = eqb q p && eqb j k
is_with Gone q k = false

abbrev pub In : ℕ → Bool → Bool → Bool → Items → Items → Items → Type 0
In i w₀ w₁ w₂ a b c = (set.contains a i ≡ w₀) × (set.contains b i ≡ w₁) × (set.contains c i ≡ w₂)

abbrev pub BagsOk : Fate → ℕ → ℕ → Place → Type 0
BagsOk f q i x = In i (is_with f q 0) (is_with f q 1) (is_with f q 2) x.current x.prev x.next

abbrev pub was_retired : Fate → Bool
was_retired Kept = false
was_retired (Waits p k) = true
was_retired (Left p k) = true
was_retired Gone = true

pub record ItemOf (c r : ℕ) (at : ℕ → Place) (retired : List Bool) (f : Fate) (i : ℕ) : Type 0 where
  pub fated : FateOk c r at f
  pub bags : (q : ℕ) → BagsOk f q i (at q)
  pub flag : get_or retired i false ≡ was_retired f

abbrev pub Item : Size → List Step → ℕ → Type 0
Item size h i = ItemOf (count_at size h) (retired_at size i h) (λ q. place_at (state size h) q) (state size h).retired (fate size i h) i

pub contains-put : (s : Items) (j i : ℕ) → set.contains (set.insert s j) i ≡ (eqb i j || set.contains s i)
contains-put s j i = set.contains-insert nat_cmp_total s j i ∙ ap (λ (b : Bool). b || set.contains s i) (unsigned_tied i j)

left_with : (at : ℕ → Place) (p : ℕ) (g : Place → Place) (q : ℕ) → is_ended (at p).phase ≡ false → (at q).phase ≡ Ended →
    (cond (eqb p q) (g (at q)) (at q)).phase ≡ Ended
left_with at p g q e is =
    at_place p q (λ t. (cond t (g (at q)) (at q)).phase ≡ Ended)
    (λ same. absurd (true≢false (sym (ap is_ended is) ∙ (sym (ap (λ (j : ℕ). is_ended (at j).phase) same) ∙ e))))
    (λ _. is)

-- one place changed, and no fate
fate_with : (c r : ℕ) (at : ℕ → Place) (p : ℕ) (g : Place → Place) (f : Fate) → FateOk c r at f → is_ended (at p).phase ≡ false →
    ((k : ℕ) → WaitOk c r k (at p).phase (at p).found → WaitOk c r k (g (at p)).phase (g (at p)).found) →
    FateOk c r (λ q. cond (eqb p q) (g (at q)) (at q)) f
fate_with c r at p g Kept ok e w = tt
fate_with c r at p g (Waits q k) ok e w =
    at_place p q (λ t. WaitOk c r k (cond t (g (at q)) (at q)).phase (cond t (g (at q)) (at q)).found)
    (λ is. subst (λ (j : ℕ). WaitOk c r k (at j).phase (at j).found → WaitOk c r k (g (at j)).phase (g (at j)).found) is (w k) ok)
    (λ _. ok)
fate_with c r at p g (Left q k) ok e w = (ok.0, ok.1, left_with at p g q e ok.2)
fate_with c r at p g Gone ok e w = tt

-- the same fate under another count
fate_later : (c d r : ℕ) (at : ℕ → Place) (f : Fate) → c ≤ d → FateOk c r at f → FateOk d r at f
fate_later c d r at Kept le ok = tt
fate_later c d r at (Waits q k) le ok =
    record { young = ok.young; before = (let b : r ≤ c = ok.before in omega arith); alive = ok.alive; aged = ok.aged; unread = ok.unread }
fate_later c d r at (Left q k) le ok = (ok.0, (let b : r ≤ c = ok.1 in omega arith), ok.2)
fate_later c d r at Gone le ok = tt

pub cond_same : {A : Type 0} (p q : ℕ) (x y : A) → p ≡ q → cond (eqb p q) x y ≡ x
cond_same {A} p q x y e = at_place p q (λ t. cond t x y ≡ x) (λ _. refl) (λ ne. absurd (ne e))

pub cond_other : {A : Type 0} (p q : ℕ) (x y : A) → (p ≡ q → ⊥) → cond (eqb p q) x y ≡ y
cond_other {A} p q x y ne = at_place p q (λ t. cond t x y ≡ y) (λ e. absurd (ne e)) (λ _. refl)

-- p publishes d
publish_fate : (c r : ℕ) (at : ℕ → Place) (p d : ℕ) (f : Fate) → (at p).phase ≡ Reading d → (at p).found ≤ d → FateOk c r at f →
    FateOk c r (λ q. cond (eqb p q) (published_fields (at q)) (at q)) (cond (finds_another (at p)) (changed p f) f)
publish_fate c r at p d f is le ok =
    let at' : ℕ → Place = λ q. cond (eqb p q) (published_fields (at q)) (at q) in
    let read : read_of (at p).phase ≡ d = ap read_of is in
    let stays : (at p).found ≡ d → (k : ℕ) → WaitOk c r k (at p).phase (at p).found → WaitOk c r k Open (read_of (at p).phase) =
    λ same k w. record {
      young = w.young;
      before = w.before;
      alive = refl;
      aged =
          (λ more. let a : r + k ≤ (at p).found + 1 = w.aged more in omega arith);
      unread = tt;
    } in
    let goes : ((at p).found ≡ d → ⊥) → (k : ℕ) → (k ≡ 2 → ⊥) → WaitOk c r k (at p).phase (at p).found → WaitOk c r (k + 1) Open (read_of (at p).phase) =
    λ other k few w.
    let young : k < 3 = w.young in
    let unread : ReadOk r (Reading d) = subst (λ (ph : Phase). ReadOk r ph) is w.unread in
    let aged : r + (k + 1) ≤ read_of (at p).phase + 1 =
    ⊎_elim (λ none. omega arith) (λ some. let more : 0 < k = omega arith in let a : r + k ≤ (at p).found + 1 = w.aged more in omega arith) (cases_eq k 0) in
    record { young = omega arith; before = w.before; alive = refl; aged = (λ _. aged); unread = tt } in
    elim (finds_another (at p)) as (λ t. finds_another (at p) ≡ t → FateOk c r at' (cond t (changed p f) f)) [
      | true ↦ λ e.
          let other : (at p).found ≡ d → ⊥ = λ s. eqb-false (read_of (at p).phase) (at p).found (not-true _ e) (read ∙ sym s) in
          changes c r at p (goes other) f (ap is_ended is) ok
      | false ↦ λ e.
          let same : (at p).found ≡ d = sym (eqb-true (read_of (at p).phase) (at p).found (not-false _ e)) ∙ read in
          fate_with c r at p published_fields f ok (ap is_ended is) (stays same)
    ] refl
  where
    changes : (c r : ℕ) (at : ℕ → Place) (p : ℕ) →
        ((k : ℕ) → (k ≡ 2 → ⊥) → WaitOk c r k (at p).phase (at p).found → WaitOk c r (k + 1) Open (read_of (at p).phase)) →
        (f : Fate) → is_ended (at p).phase ≡ false → FateOk c r at f → FateOk c r (λ q. cond (eqb p q) (published_fields (at q)) (at q)) (changed p f)
    changes c r at p goes Kept e ok = tt
    changes c r at p goes (Waits q k) e ok =
        let at' : ℕ → Place = λ j. cond (eqb p j) (published_fields (at j)) (at j) in
        at_place p q (λ t. FateOk c r at' (cond t (cond (eqb k 2) Gone (Waits q (k + 1))) (Waits q k)))
        (λ is. at_place k 2 (λ t. FateOk c r at' (cond t Gone (Waits q (k + 1)))) (λ _. tt)
        (λ few. subst (λ (x : Place). WaitOk c r (k + 1) x.phase x.found) (sym (cond_same p q (published_fields (at q)) (at q) is))
        (subst (λ (j : ℕ). WaitOk c r k (at j).phase (at j).found → WaitOk c r (k + 1) Open (read_of (at j).phase)) is (goes k few) ok)))
        (λ ne. subst (λ (x : Place). WaitOk c r k x.phase x.found) (sym (cond_other p q (published_fields (at q)) (at q) ne)) ok)
    changes c r at p goes (Left q k) e ok = (ok.0, ok.1, left_with at p published_fields q e ok.2)
    changes c r at p goes Gone e ok = tt

-- p ends
end_fate : (c r : ℕ) (at : ℕ → Place) (p : ℕ) (f : Fate) → is_ended (at p).phase ≡ false → FateOk c r at f →
    FateOk c r (λ q. cond (eqb p q) (ended (at q)) (at q)) (history.ended p f)
end_fate c r at p Kept e ok = tt
end_fate c r at p (Waits q k) e ok =
    let at' : ℕ → Place = λ j. cond (eqb p j) (ended (at j)) (at j) in
    at_place p q (λ t. FateOk c r at' (cond t (Left q k) (Waits q k)))
    (λ is. (ok.young, ok.before, ap (λ (x : Place). x.phase) (cond_same p q (ended (at q)) (at q) is)))
    (λ ne. subst (λ (x : Place). WaitOk c r k x.phase x.found) (sym (cond_other p q (ended (at q)) (at q) ne)) ok)
end_fate c r at p (Left q k) e ok =
    (ok.0, ok.1, at_place p q (λ t. (cond t (ended (at q)) (at q)).phase ≡ Ended) (λ _. refl) (λ _. ok.2))
end_fate c r at p Gone e ok = tt

freed_live : (c r k : ℕ) (ph : Phase) (f : ℕ) → WaitOk c r k ph f → WaitOk c r k (cond (is_ended ph) Free ph) f
freed_live c r k Free f ok = ok
freed_live c r k Closed f ok = ok
freed_live c r k (Reading d) f ok = ok
freed_live c r k Open f ok = ok
freed_live c r k Ended f ok = let no_more : false ≡ true = ok.alive in absurd (false≢true no_more)

-- p, which is open, adopts
adopt_fate : (c r : ℕ) (at : ℕ → Place) (p : ℕ) (l : Items) (f : Fate) → (at p).phase ≡ Open → FateOk c r at f →
    FateOk c r (λ q. cond (eqb p q) (taking l (freed_fields (at q))) (freed_fields (at q))) (taken_over p f)
adopt_fate c r at p l Kept op ok = tt
adopt_fate c r at p l (Waits q k) op ok =
    at_place p q (λ t. WaitOk c r k (cond t (taking l (freed_fields (at q))) (freed_fields (at q))).phase
    (cond t (taking l (freed_fields (at q))) (freed_fields (at q))).found)
    (λ _. freed_live c r k _ _ ok) (λ _. freed_live c r k _ _ ok)
adopt_fate c r at p l (Left q k) op ok =
    let is : (cond (eqb p p) (taking l (freed_fields (at p))) (freed_fields (at p))).phase ≡ Open =
    ap (λ (x : Place). x.phase) (cond_same p p (taking l (freed_fields (at p))) (freed_fields (at p)) refl)
    ∙ subst (λ (ph : Phase). cond (is_ended ph) Free ph ≡ Open) (sym op) refl in
    record {
      young = omega arith;
      before = ok.1;
      alive = ap live is;
      aged =
          (λ n. absurd (omega arith));
      unread = subst (λ (ph : Phase). ReadOk r ph) (sym is) tt;
    }
adopt_fate c r at p l Gone op ok = tt

-- what a place has read is what it read last
pub read_is : (size : Size) (h : List Step) (p : ℕ) → Good size h → is_reading (place_at (state size h) p).phase ≡ true →
    read_of (place_at (state size h) p).phase ≡ last_read size p h
read_is size h p g can =
    let x = place_at (state size h) p in
    let c = count_at size h in
    let last = last_read size p h in
    let r = reading_is _ can in
    let ok : (r.0 ≡ last) × (x.found ≤ r.0) × (r.0 ≤ c) = subst (λ (ph : Phase). PhaseOk c (since size p h) last ph x.found) r.1 (g.places p) in
    ap read_of r.1 ∙ ok.0

pub change_is : (size : Size) (h : List Step) (p : ℕ) → Good size h → is_reading (place_at (state size h) p).phase ≡ true →
    is_change size p h ≡ finds_another (place_at (state size h) p)
change_is size h p g can =
    let x = place_at (state size h) p in
    ap (λ (k : ℕ). not (k == last_published size p h)) (sym (read_is size h p g can))
    ∙ ap (λ (k : ℕ). not (read_of x.phase == k)) (sym (g.found p))

pub fate_step : (size : Size) (h : List Step) (step : Step) (i : ℕ) → Good size h → possible (state size h) step ≡ true → Item size h i →
    FateOk (count_at size (step ∷ h)) (retired_at size i (step ∷ h)) (λ q. effect (state size h) step q (place_at (state size h) q)) (fate size i (step ∷ h))
fate_step size h (Register p) i g can o =
    let s = state size h in let c = count_at size h in let r = retired_at size i h in
    let is : (place_at s p).phase ≡ Free = free_is _ (and_parts _ _ can).1 in
    fate_with c r (place_at s) p registered (fate size i h) o.fated (ap is_ended is)
    (λ k w. absurd (false≢true (sym (ap live is) ∙ w.alive)))
fate_step size h (Read p) i g can o =
    let s = state size h in let c = count_at size h in let r = retired_at size i h in
    fate_with c r (place_at s) p (reading c) (fate size i h) o.fated (ap is_ended (closed_is _ can))
    (λ k w. record { young = w.young; before = w.before; alive = refl; aged = w.aged; unread = w.before })
fate_step size h (Publish p) i g can o =
    let s = state size h in let c = count_at size h in let r = retired_at size i h in let f = fate size i h in
    let x = place_at s p in
    let d = reading_is _ can in
    let ok : (d.0 ≡ last_read size p h) × (x.found ≤ d.0) × (d.0 ≤ c) =
    subst (λ (ph : Phase). PhaseOk c (since size p h) (last_read size p h) ph x.found) d.1 (g.places p) in
    subst (λ (b : Bool). FateOk c r (λ q. cond (eqb p q) (published_fields (place_at s q)) (place_at s q)) (cond b (changed p f) f))
    (sym (change_is size h p g can))
    (publish_fate c r (place_at s) p d.0 f d.1 ok.1 o.fated)
fate_step size h (Retire p j) i g can o =
    let s = state size h in let c = count_at size h in let r = retired_at size i h in let f = fate size i h in
    let at' : ℕ → Place = λ q. cond (eqb p q) (retiring j (place_at s q)) (place_at s q) in
    let may = or_cases (is_closed (place_at s p).phase) (is_open (place_at s p).phase) (and_parts _ _ (and_parts _ _ can).0).0 in
    let fresh : (ph : Phase) → (place_at s p).phase ≡ ph → live ph ≡ true → ReadOk c ph → FateOk c c at' (Waits p 0) =
    λ ph is alive unread. subst (λ (x : Place). WaitOk c c 0 x.phase x.found) (sym (cond_same p p (retiring j (place_at s p)) (place_at s p) refl))
    (record {
      young = omega arith;
      before = omega arith;
      alive = ap live is ∙ alive;
      aged =
          (λ n. absurd (omega arith));
      unread = subst (λ (k : Phase). ReadOk c k) (sym is) unread;
    }) in
    at_place j i (λ t. FateOk c (cond t c r) at' (cond t (Waits p 0) f))
    (λ _. ⊎_elim (λ e. fresh Closed (closed_is _ e) refl tt) (λ e. fresh Open (open_is _ e) refl tt) may)
    (λ _. fate_with c r (place_at s) p (retiring j) f o.fated (⊎_elim (λ e. ap is_ended (closed_is _ e)) (λ e. ap is_ended (open_is _ e)) may) (λ k w. w))
fate_step size h (Lock p) i g can o = o.fated
fate_step size h (Adopt p) i g can o =
    let s = state size h in
    adopt_fate (count_at size h) (retired_at size i h) (place_at s) p (left s.places) (fate size i h)
    (holder_open (λ q. since size q h) (place_at s) s.scan p g.scanned (adopts_holds s.scan p can)) o.fated
fate_step size h (Look p) i g can o = o.fated
fate_step size h (Advance p) i g can o =
    let s = state size h in
    fate_later (count_at size h) (count_at size (Advance p ∷ h)) (retired_at size i h) (place_at s) (fate size i h) (count_step size h (Advance p)) o.fated
fate_step size h (Unlock p) i g can o = o.fated
fate_step size h (Close p) i g can o =
    let s = state size h in let c = count_at size h in let r = retired_at size i h in
    fate_with c r (place_at s) p closed (fate size i h) o.fated (ap is_ended (open_is _ (and_parts _ _ can).0))
    (λ k w. record { young = w.young; before = w.before; alive = refl; aged = w.aged; unread = tt })
fate_step size h (End p) i g can o =
    let s = state size h in
    end_fate (count_at size h) (retired_at size i h) (place_at s) p (fate size i h) (ap is_ended (closed_is _ can)) o.fated
