use Rattle.std.proofs.Common.{◌≡◌, ◌≢◌, ℕ, ◌+◌, ◌<◌, ◌≤◌, Bool, true, false, cond, eqb, ◌&&◌, ◌||◌, List, [], ◌∷◌, ◌++◌, length, get_or, zero, suc, refl, sym, ap, subst, ◌∙◌, ⊎_elim, inl, inr, ◌⊎◌, arith}
use Rattle.std.proofs.lemmas.Bool.{true≢false, false≢true, eqb-true, eqb-false, cases_eq, and_parts, or_cases, not-true}
use Rattle.std.specs.Prelude.{◌==◌}
use Rattle.sdd_machine.specs.declared.machine.steps.Step.{Step}
use Rattle.sdd_machine.specs.declared.machine.steps.Step.TheVariants.{Register, Read, Publish, Retire, Lock, Adopt, Look, Advance, Unlock, Close, End}
use Rattle.sdd_machine.specs.declared.machine.places.Phase.{Phase}
use Rattle.sdd_machine.specs.Table.{Size, State, Place, Items, place_at, is_ended, read_of, possible, after}
use Rattle.sdd_machine.proofs.Histories.{IsHistory}
use Rattle.sdd_machine.specs.History.{state, count_at, last_read, last_published}
use Rattle.sdd_machine.proofs.Places.{at_place, reading_is}
use Rattle.std.proofs.lemmas.Bool.{or_left, or_right, eq-eqb}
use Rattle.std.specs.Ordering.{nat_cmp}
use Rattle.std.specs.FinSet as set
use Rattle.sdd_machine.specs.Table.{finds_another}
use Rattle.sdd_machine.specs.History.{is_change, fate, changed, taken_over, Fate, Kept, Waits, Left, Gone}
use Rattle.sdd_machine.specs.History as history
use Rattle.sdd_machine.proofs.Guards.{count_step}
use Rattle.sdd_machine.proofs.Counts.{since, PhaseOk, good}
use Rattle.sdd_machine.proofs.WaitingItems.{WaitOk, FateOk, In, is_with, BagsOk, was_retired, retired_at, read_is, change_is}
use Rattle.std.specs.Prelude.{◌↔◌}
use Rattle.sdd_machine.specs.Table.{taken_out, did_possible}
use Rattle.sdd_machine.specs.declared.machine.steps.Did.TheVariants.{NotPossible, Opened}
use Rattle.sdd_machine.specs.History.{Reclaims, IsDue, WasDue, Safe, Tells, Exact, IsWith, IsReclaimed, IsHolder, IsOpenGuard, NoGuardLasts}
use Rattle.std.proofs.Common.{◌%◌, take}
use Rattle.std.proofs.lemmas.List.{take_more}
use Rattle.sdd_machine.specs.Table.{happens}
use Rattle.sdd_machine.specs.History.{goes_on, history as history_of}
use Rattle.sdd_core.specs.Epoch.{epoch_after, same_generation}
use Rattle.sdd_machine.specs.Laws.{WaitsWithOneHolder, IsRaisedAtMostOnce, KeepsGenerations, AtEachMoment}
use Rattle.sdd_machine.proofs.Guards.{count_grows, earlier, raised_once}
use Rattle.sdd_machine.proofs.InBags.{item}

nothing : (i : ℕ) → set.contains (set.empty {R = nat_cmp}) i ≡ true → ⊥
nothing i e = false≢true (sym (set.contains-empty nat_cmp i) ∙ e)

-- an item in bag 2 of a place that isn't ended waits there
in_next : (c r : ℕ) (at : ℕ → Place) (p : ℕ) (f : Fate) → FateOk c r at f → is_ended (at p).phase ≡ false → is_with f p 2 ≡ true → f ≡ Waits p 2
in_next c r at p Kept ok e w = absurd (false≢true w)
in_next c r at p (Waits q k) ok e w =
    let parts = and_parts (eqb p q) (eqb k 2) w in
    let a : p ≡ q = eqb-true p q parts.0 in let b : k ≡ 2 = eqb-true k 2 parts.1 in
    ap (λ (j : ℕ). Waits j k) (sym a) ∙ ap (λ (j : ℕ). Waits p j) b
in_next c r at p (Left q k) ok e w =
    let parts = and_parts (eqb p q) (eqb k 2) w in
    let a : p ≡ q = eqb-true p q parts.0 in
    absurd (true≢false (sym (ap is_ended ok.2) ∙ (sym (ap (λ (j : ℕ). is_ended (at j).phase) a) ∙ e)))
in_next c r at p Gone ok e w = absurd (false≢true w)

due_of_taken : (b : Bool) (i : ℕ) (xs : Items) → set.contains (cond b xs set.empty) i ≡ true → (b ≡ true) × (set.contains xs i ≡ true)
due_of_taken true i xs e = (refl, e)
due_of_taken false i xs e = absurd (nothing i e)

taken_exactly : (size : Size) (i p : ℕ) (h : List Step) → IsHistory size (Publish p ∷ h) →
    (set.contains (taken_out (place_at (state size h) p)) i ≡ true) ↔ IsDue size i (Publish p ∷ h)
taken_exactly size i p h is =
    let s = state size h in let x = place_at s p in
    let g = good size h is.1 in let o = item size h is.1 i in
    let same = change_is size h p g is.0 in (
      λ e. let parts = due_of_taken (finds_another x) i x.next e in (
        same ∙ parts.0,
        in_next (count_at size h) (retired_at size i h) (place_at s) p
            (fate size i h) o.fated (ap is_ended (reading_is _ is.0).1) (sym (o.bags p).2 ∙ parts.1),
      ),
      λ d. let f : fate size i h ≡ Waits p 2 = d.1 in
          ap (λ (b : Bool). set.contains (cond b x.next set.empty) i) (sym same ∙ d.0)
          ∙ ((o.bags p).2 ∙ (ap (λ (k : Fate). is_with k p 2) f ∙ (ap (λ (t : Bool). t && true) (eq-eqb p p refl)))),
    )

tells : (size : Size) (p : ℕ) (h : List Step) → IsHistory size (Publish p ∷ h) → Tells size p h
tells size p h is =
    let s = state size h in
    let x = place_at s p in
    let g = good size h is.1 in
    let number = set.len (taken_out x) in
    record {
      due = taken_out x;
      each = λ i. taken_exactly size i p h is;
      answer = ap (λ (b : Bool). cond b (did_possible s (Publish p)) NotPossible) is.0
          ∙ (ap (λ (k : ℕ). Opened k (finds_another x) number) (read_is size h p g is.0)
          ∙ ap (λ (b : Bool). Opened (last_read size p h) b number) (sym (change_is size h p g is.0)));
    }

-- after its due publish an item is gone
gone_when_due : (size : Size) (i : ℕ) (h : List Step) → IsDue size i h → fate size i h ≡ Gone
gone_when_due size i [] d = absurd d
gone_when_due size i (Publish p ∷ h) d =
    ap (λ (b : Bool). cond b (changed p (fate size i h)) (fate size i h)) d.0
    ∙ (ap (λ (f : Fate). changed p f) d.1 ∙ ap (λ (t : Bool). cond t Gone (Waits p 2)) (eq-eqb p p refl))
gone_when_due size i (Register p ∷ h) d = absurd d
gone_when_due size i (Read p ∷ h) d = absurd d
gone_when_due size i (Retire p j ∷ h) d = absurd d
gone_when_due size i (Lock p ∷ h) d = absurd d
gone_when_due size i (Adopt p ∷ h) d = absurd d
gone_when_due size i (Look p ∷ h) d = absurd d
gone_when_due size i (Advance p ∷ h) d = absurd d
gone_when_due size i (Unlock p ∷ h) d = absurd d
gone_when_due size i (Close p ∷ h) d = absurd d
gone_when_due size i (End p ∷ h) d = absurd d

gone_step : (size : Size) (i : ℕ) (h : List Step) (step : Step) → IsHistory size (step ∷ h) → fate size i h ≡ Gone → fate size i (step ∷ h) ≡ Gone
gone_step size i h (Register p) is e = e
gone_step size i h (Read p) is e = e
gone_step size i h (Publish p) is e =
    ap (λ (f : Fate). cond (is_change size p h) (changed p f) f) e ∙ elim (is_change size p h) as (λ t. cond t Gone Gone ≡ Gone) [ true ↦ refl | false ↦ refl ]
gone_step size i h (Retire p j) is e =
    let s = state size h in let o = item size h is.1 i in
    at_place j i (λ t. cond t (Waits p 0) (fate size i h) ≡ Gone)
    (λ same. absurd (true≢false (sym (o.flag ∙ ap was_retired e)
    ∙ subst (λ (k : ℕ). get_or s.retired k false ≡ false) same (not-true _ (and_parts _ _ is.0).1))))
    (λ _. e)
gone_step size i h (Lock p) is e = e
gone_step size i h (Adopt p) is e = ap (taken_over p) e
gone_step size i h (Look p) is e = e
gone_step size i h (Advance p) is e = e
gone_step size i h (Unlock p) is e = e
gone_step size i h (Close p) is e = e
gone_step size i h (End p) is e = ap (history.ended p) e

gone_stays : (size : Size) (i : ℕ) (recent h : List Step) → IsHistory size (recent ++ h) → fate size i h ≡ Gone → fate size i (recent ++ h) ≡ Gone
gone_stays size i [] h is e = e
gone_stays size i (step ∷ recent) h is e = gone_step size i (recent ++ h) step is (gone_stays size i recent h is.1 e)

due_waits : (size : Size) (i : ℕ) (step : Step) (h : List Step) → IsDue size i (step ∷ h) → fate size i h ≡ Gone → ⊥
due_waits size i (Publish p) h d e = let a : fate size i h ≡ Waits p 2 = d.1 in cc
due_waits size i (Register p) h d e = d
due_waits size i (Read p) h d e = d
due_waits size i (Retire p j) h d e = d
due_waits size i (Lock p) h d e = d
due_waits size i (Adopt p) h d e = d
due_waits size i (Look p) h d e = d
due_waits size i (Advance p) h d e = d
due_waits size i (Unlock p) h d e = d
due_waits size i (Close p) h d e = d
due_waits size i (End p) h d e = d

-- what waits with x is retired long enough before a publish that takes it
late : (size : Size) (i : ℕ) (step : Step) (h : List Step) → IsHistory size (step ∷ h) → IsDue size i (step ∷ h) → retired_at size i h + 2 ≤ count_at size h
late size i (Publish p) h is d =
    let s = state size h in let x = place_at s p in let c = count_at size h in let r = retired_at size i h in
    let g = good size h is.1 in let o = item size h is.1 i in
    let w : WaitOk c r 2 x.phase x.found = subst (λ (f : Fate). FateOk c r (place_at s) f) d.1 o.fated in
    let k = reading_is _ is.0 in
    let ok : (k.0 ≡ last_read size p h) × (x.found ≤ k.0) × (k.0 ≤ c) =
    subst (λ (ph : Phase). PhaseOk c (since size p h) (last_read size p h) ph x.found) k.1 (g.places p) in
    let other : read_of x.phase ≡ x.found → ⊥ = eqb-false (read_of x.phase) x.found (not-true _ (sym (change_is size h p g is.0) ∙ d.0)) in
    let ne : k.0 ≢ x.found = λ e. other (ap read_of k.1 ∙ e) in
    let old : r + 2 ≤ x.found + 1 = w.aged (omega arith) in
    omega (arith, ok.1, ok.2)
late size i (Register p) h is d = absurd d
late size i (Read p) h is d = absurd d
late size i (Retire p j) h is d = absurd d
late size i (Lock p) h is d = absurd d
late size i (Adopt p) h is d = absurd d
late size i (Look p) h is d = absurd d
late size i (Advance p) h is d = absurd d
late size i (Unlock p) h is d = absurd d
late size i (Close p) h is d = absurd d
late size i (End p) h is d = absurd d

retired_after : (size : Size) (i p : ℕ) (recent h : List Step) → count_at size h ≤ retired_at size i (recent ++ Retire p i ∷ h)
retired_after size i p [] h = at_place i i (λ t. count_at size h ≤ cond t (count_at size h) (retired_at size i h)) (λ _. omega arith) (λ ne. absurd (ne refl))
retired_after size i p (Retire q j ∷ recent) h =
    let all = recent ++ Retire p i ∷ h in
    let a = count_grows size recent (Retire p i ∷ h) in
    let b = retired_after size i p recent h in
    at_place j i (λ t. count_at size h ≤ cond t (count_at size all) (retired_at size i all)) (λ _. a) (λ _. b)
retired_after size i p (Register q ∷ recent) h = retired_after size i p recent h
retired_after size i p (Read q ∷ recent) h = retired_after size i p recent h
retired_after size i p (Publish q ∷ recent) h = retired_after size i p recent h
retired_after size i p (Lock q ∷ recent) h = retired_after size i p recent h
retired_after size i p (Adopt q ∷ recent) h = retired_after size i p recent h
retired_after size i p (Look q ∷ recent) h = retired_after size i p recent h
retired_after size i p (Advance q ∷ recent) h = retired_after size i p recent h
retired_after size i p (Unlock q ∷ recent) h = retired_after size i p recent h
retired_after size i p (Close q ∷ recent) h = retired_after size i p recent h
retired_after size i p (End q ∷ recent) h = retired_after size i p recent h

in_bag : (f : Fate) (p i : ℕ) (x : Place) → BagsOk f p i x → (set.contains x.current i || set.contains x.prev i || set.contains x.next i) ≡ true →
    (k : ℕ) × (is_with f p k ≡ true)
in_bag f p i x ok e =
    ⊎_elim (λ first. ⊎_elim (λ a. (0, sym ok.0 ∙ a)) (λ b. (1, sym ok.1 ∙ b)) (or_cases (set.contains x.current i) (set.contains x.prev i) first))
    (λ c. (2, sym ok.2 ∙ c)) (or_cases (set.contains x.current i || set.contains x.prev i) (set.contains x.next i) e)

is_in_bag : (k i : ℕ) (a b c : Items) → k < 3 → In i (eqb k 0) (eqb k 1) (eqb k 2) a b c → (set.contains a i || set.contains b i || set.contains c i) ≡ true
is_in_bag zero i a b c l ok = or_left _ _ (or_left _ _ ok.0)
is_in_bag (suc zero) i a b c l ok = or_left _ _ (or_right _ _ ok.1)
is_in_bag (suc (suc zero)) i a b c l ok = or_right _ _ ok.2
is_in_bag (suc (suc (suc k))) i a b c l ok = absurd (omega arith)

-- an item that nobody has, and was retired, is gone
gone_from_nowhere : (c r : ℕ) (s : State) (f : Fate) (i : ℕ) → FateOk c r (place_at s) f → ((q : ℕ) → BagsOk f q i (place_at s q)) →
    was_retired f ≡ true → ((p : ℕ) → IsWith s p i → ⊥) → f ≡ Gone
gone_from_nowhere c r s Kept i ok bags e none = absurd (false≢true e)
gone_from_nowhere c r s (Waits h k) i ok bags e none =
    let b = bags h in let y : (w : Bool) → (eqb h h && w) ≡ w = λ w. ap (λ (t : Bool). t && w) (eq-eqb h h refl) in
    absurd (none h (is_in_bag k i (place_at s h).current (place_at s h).prev
    (place_at s h).next ok.young (b.0 ∙ y (eqb k 0), b.1 ∙ y (eqb k 1), b.2 ∙ y (eqb k 2))))
gone_from_nowhere c r s (Left h k) i ok bags e none =
    let b = bags h in let y : (w : Bool) → (eqb h h && w) ≡ w = λ w. ap (λ (t : Bool). t && w) (eq-eqb h h refl) in
    absurd (none h (is_in_bag k i (place_at s h).current (place_at s h).prev
    (place_at s h).next ok.0 (b.0 ∙ y (eqb k 0), b.1 ∙ y (eqb k 1), b.2 ∙ y (eqb k 2))))
gone_from_nowhere c r s Gone i ok bags e none = refl

was_due_later : (size : Size) (i : ℕ) (step : Step) (h : List Step) → WasDue size i h → WasDue size i (step ∷ h)
was_due_later size i step h (before, (later, eq), d) = (before, (step ∷ later, ap (λ (k : List Step). step ∷ k) eq), d)

from_taken : (p : ℕ) (f : Fate) → taken_over p f ≡ Gone → f ≡ Gone
from_taken p Kept e = e
from_taken p (Waits q k) e = e
from_taken p (Left q k) e = cc
from_taken p Gone e = e

from_ended : (p : ℕ) (f : Fate) → history.ended p f ≡ Gone → f ≡ Gone
from_ended p Kept e = e
from_ended p (Waits q k) e = elim (eqb p q) as (λ t. cond t (Left q k) (Waits q k) ≡ Gone → Waits q k ≡ Gone) [ true ↦ λ x. cc | false ↦ λ x. x ] e
from_ended p (Left q k) e = e
from_ended p Gone e = e

from_changed : (p : ℕ) (f : Fate) → changed p f ≡ Gone → (f ≡ Gone) ⊎ (f ≡ Waits p 2)
from_changed p Kept e = inl e
from_changed p (Waits q k) e =
    at_place p q (λ t. cond t (cond (eqb k 2) Gone (Waits q (k + 1))) (Waits q k) ≡ Gone → (Waits q k ≡ Gone) ⊎ (Waits q k ≡ Waits p 2))
    (λ is. at_place k 2 (λ t. cond t Gone (Waits q (k + 1)) ≡ Gone → (Waits q k ≡ Gone) ⊎ (Waits q k ≡ Waits p 2))
    (λ two _. inr (ap (λ (j : ℕ). Waits j k) (sym is) ∙ ap (λ (j : ℕ). Waits p j) two)) (λ _ x. absurd (cc)))
    (λ _ x. inl x) e
from_changed p (Left q k) e = inl e
from_changed p Gone e = inl e

-- an item is gone by a step exactly if it was due there
became_gone : (size : Size) (i : ℕ) (step : Step) (h : List Step) → fate size i (step ∷ h) ≡ Gone → (fate size i h ≡ Gone) ⊎ IsDue size i (step ∷ h)
became_gone size i (Register p) h e = inl e
became_gone size i (Read p) h e = inl e
became_gone size i (Publish p) h e =
    elim (is_change size p h) as (λ t. is_change size p h ≡ t →
    cond t (changed p (fate size i h)) (fate size i h) ≡ Gone → (fate size i h ≡ Gone) ⊎ IsDue size i (Publish p ∷ h)) [
      | true ↦ λ b x. ⊎_elim (λ g. inl g) (λ w. inr (b, w)) (from_changed p (fate size i h) x)
      | false ↦ λ b x. inl x
    ] refl e
became_gone size i (Retire p j) h e =
    inl (elim (eqb j i) as (λ t. cond t (Waits p 0) (fate size i h) ≡ Gone → fate size i h ≡ Gone) [ true ↦ λ x. absurd (cc) | false ↦ λ x. x ] e)
became_gone size i (Lock p) h e = inl e
became_gone size i (Adopt p) h e = inl (from_taken p (fate size i h) e)
became_gone size i (Look p) h e = inl e
became_gone size i (Advance p) h e = inl e
became_gone size i (Unlock p) h e = inl e
became_gone size i (Close p) h e = inl e
became_gone size i (End p) h e = inl (from_ended p (fate size i h) e)

was_due : (size : Size) (i : ℕ) (h : List Step) → fate size i h ≡ Gone → WasDue size i h
was_due size i [] e = absurd (cc)
was_due size i (step ∷ h) e = ⊎_elim (λ g. was_due_later size i step h (was_due size i h g)) (λ d. (step ∷ h, ([], refl), d)) (became_gone size i step h e)

reclaimed_is : (size : Size) (i : ℕ) (h : List Step) → IsHistory size h → IsReclaimed (state size h) i ↔ (fate size i h ≡ Gone)
reclaimed_is size i h is =
    let s = state size h in let o = item size h is i in (
      λ r. gone_from_nowhere (count_at size h) (retired_at size i h) s (fate size i h) i o.fated o.bags (sym o.flag ∙ r.retired) r.nowhere,
      λ gone. record {
        retired = o.flag ∙ ap was_retired gone;
        nowhere = λ p w. let some = in_bag (fate size i h) p i (place_at s p) (o.bags p) w in
            false≢true (sym (ap (λ (f : Fate). is_with f p some.0) gone) ∙ some.1);
      },
    )

pub reclaimed_then : (size : Size) (i : ℕ) (h : List Step) → IsHistory size h → IsReclaimed (state size h) i ↔ WasDue size i h
reclaimed_then size i h is = (
  λ r. was_due size i h ((reclaimed_is size i h is).0 r),
  λ (before, (later, eq), d). (reclaimed_is size i h is).1
      (ap (λ (k : List Step). fate size i k) eq
      ∙ gone_stays size i later before (subst (λ (k : List Step). IsHistory size k) eq is) (gone_when_due size i before d)),
)

exactly : (size : Size) (i : ℕ) (h : List Step) → IsHistory size h → Reclaims size i h ↔ IsDue size i h
exactly size i [] is = (λ e. e, λ d. d)
exactly size i (step ∷ h) is = (
  λ r. ⊎_elim (λ g. absurd (r.1 ((reclaimed_is size i h is.1).1 g))) (λ d. d) (became_gone size i step h ((reclaimed_is size i (step ∷ h) is).0 r.0)),
  λ d. ((reclaimed_is size i (step ∷ h) is).1 (gone_when_due size i (step ∷ h) d), λ r. due_waits size i step h d ((reclaimed_is size i h is.1).0 r)),
)

pub exact : (size : Size) (h : List Step) → IsHistory size h → Exact size h
exact size h is = record {
  due = λ i. exactly size i h is;
  told = λ p before eq. tells size p before (subst (λ (k : List Step). IsHistory size k) eq is);
  once = λ i newest recent before eq first second.
      let all : IsHistory size (newest ∷ (recent ++ before)) = subst (λ (k : List Step). IsHistory size k) eq is in
      let d : IsDue size i before = (exactly size i before (earlier size recent before all.1)).0 first in
      let again : IsDue size i (newest ∷ (recent ++ before)) = subst (λ (k : List Step). IsDue size i k) eq ((exactly size i h is).0 second) in
      due_waits size i newest (recent ++ before) again (gone_stays size i recent before all.1 (gone_when_due size i before d));
}

-- while a guard is open the count is raised at most once
at_most_next : (size : Size) (h : List Step) → IsHistory size h → (guard : ℕ) (published : List Step) → IsOpenGuard guard published h →
    count_at size h ≤ count_at size published + 1
at_most_next size h is guard published o =
    let whole : h ≡ o.inside ++ Publish guard ∷ o.before = o.follows ∙ ap (λ (k : List Step). o.inside ++ k) o.publish in
    let once : count_at size (o.inside ++ Publish guard ∷ o.before) ≤ count_at size o.before + 1 =
    raised_once size guard o.inside o.before (subst (λ (k : List Step). IsHistory size k) whole is) o.unclosed in
    let now : count_at size h ≤ count_at size o.before + 1 = subst (λ (k : List Step). count_at size k ≤ count_at size o.before + 1) (sym whole) once in
    subst (λ (k : List Step). count_at size h ≤ count_at size k + 1) (sym o.publish) now

-- and it is no less than at the publish
under : (size : Size) (h : List Step) (guard : ℕ) (published : List Step) → IsOpenGuard guard published h → count_at size published ≤ count_at size h
under size h guard published o = subst (λ (k : List Step). count_at size published ≤ count_at size k) (sym o.follows) (count_grows size o.inside published)

between : (a b : ℕ) → a ≤ b → b ≤ a + 1 → (b ≡ a) ⊎ (b ≡ a + 1)
between a b low high = ⊎_elim (λ e. inl e) (λ ne. inr (omega arith)) (cases_eq b a)

pub raised_at_most_once : (size : Size) (h : List Step) → IsHistory size h → IsRaisedAtMostOnce size h
raised_at_most_once size h is guard published o =
    between (count_at size published) (count_at size h) (under size h guard published o) (at_most_next size h is guard published o)

safe_by : (size : Size) (h : List Step) → IsHistory size h → (i p : ℕ) (later retirement : List Step) → h ≡ later ++ Retire p i ∷ retirement →
    Reclaims size i h → NoGuardLasts retirement h
safe_by size h is i p [] retirement eq taken guard published then_open now_open =
    subst (λ (k : List Step). IsDue size i k) eq ((exactly size i h is).0 taken)
safe_by size h is i p (newest ∷ recent) retirement eq taken guard published then_open now_open =
    let h₀ = recent ++ Retire p i ∷ retirement in
    let all : IsHistory size (newest ∷ h₀) = subst (λ (k : List Step). IsHistory size k) eq is in
    let d : IsDue size i (newest ∷ h₀) = subst (λ (k : List Step). IsDue size i k) eq ((exactly size i h is).0 taken) in
    let high : count_at size h ≤ count_at size published + 1 = at_most_next size h is guard published now_open in
    let last : count_at size h₀ ≤ count_at size h = subst (λ (k : List Step). count_at size h₀ ≤ count_at size k) (sym eq) (count_step size h₀ newest) in
    let low : count_at size published ≤ count_at size retirement = under size retirement guard published then_open in
    let start : count_at size retirement ≤ retired_at size i h₀ = retired_after size i p recent retirement in
    let end : retired_at size i h₀ + 2 ≤ count_at size h₀ = late size i newest h₀ all d in
    absurd (omega arith)

pub safe : (size : Size) (h : List Step) → IsHistory size h → Safe size h
safe size h is i retirement r taken guard published then_open now_open =
    safe_by size h is i r.place r.later retirement r.follows taken guard published then_open now_open

held : (f : Fate) (p k : ℕ) → is_with f p k ≡ true → IsHolder p f
held Kept p k e = absurd (false≢true e)
held (Waits q j) p k e = eqb-true p q (and_parts (eqb p q) (eqb j k) e).0
held (Left q j) p k e = eqb-true p q (and_parts (eqb p q) (eqb j k) e).0
held Gone p k e = absurd (false≢true e)

with_holder : (c r : ℕ) (s : State) (f : Fate) (i p : ℕ) → FateOk c r (place_at s) f → ((q : ℕ) → BagsOk f q i (place_at s q)) → IsHolder p f → IsWith s p i
with_holder c r s Kept i p ok bags h = absurd h
with_holder c r s (Waits q k) i p ok bags h =
    let b = bags p in let y : (w : Bool) → (eqb p q && w) ≡ w = λ w. ap (λ (t : Bool). t && w) (eq-eqb p q h) in
    is_in_bag k i (place_at s p).current (place_at s p).prev (place_at s p).next ok.young (b.0 ∙ y (eqb k 0), b.1 ∙ y (eqb k 1), b.2 ∙ y (eqb k 2))
with_holder c r s (Left q k) i p ok bags h =
    let b = bags p in let y : (w : Bool) → (eqb p q && w) ≡ w = λ w. ap (λ (t : Bool). t && w) (eq-eqb p q h) in
    is_in_bag k i (place_at s p).current (place_at s p).prev (place_at s p).next ok.0 (b.0 ∙ y (eqb k 0), b.1 ∙ y (eqb k 1), b.2 ∙ y (eqb k 2))
with_holder c r s Gone i p ok bags h = absurd h

-- what was retired and is not gone has a holder
has_holder : (f : Fate) → was_retired f ≡ true → (f ≡ Gone → ⊥) → (p : ℕ) × IsHolder p f
has_holder Kept e kept = absurd (false≢true e)
has_holder (Waits q k) e kept = (q, refl)
has_holder (Left q k) e kept = (q, refl)
has_holder Gone e kept = absurd (kept refl)

-- and one at most
one_holder : (f : Fate) (p q : ℕ) → IsHolder p f → IsHolder q f → p ≡ q
one_holder Kept p q a b = absurd a
one_holder (Waits h k) p q a b = a ∙ sym b
one_holder (Left h k) p q a b = a ∙ sym b
one_holder Gone p q a b = absurd a

pub waits_with_one : (size : Size) (h : List Step) → IsHistory size h → WaitsWithOneHolder size h
waits_with_one size h is = record {
  bags = λ i p.
      let s = state size h in let o = item size h is i in (
        λ w. let x = in_bag (fate size i h) p i (place_at s p) (o.bags p) w in held (fate size i h) p x.0 x.1,
        with_holder (count_at size h) (retired_at size i h) s (fate size i h) i p o.fated o.bags,
      );
  some = λ i retired not_reclaimed.
      has_holder (fate size i h) (sym (item size h is i).flag ∙ retired) (λ gone. not_reclaimed ((reclaimed_is size i h is).1 gone));
  one = λ i p q a b.
      let s = state size h in
      let f = fate size i h in
      let o = item size h is i in
      let holds : (r : ℕ) → IsWith s r i → IsHolder r f = λ r w. let bag = in_bag f r i (place_at s r) (o.bags r) w in held f r bag.0 bag.1 in
      one_holder f p q (holds p a) (holds q b);
}

one_later : (a : ℕ) → (a + 1) % 64 ≡ epoch_after (a % 64)
one_later a = omega arith

two_later : (a : ℕ) → (a + 2) % 64 ≡ epoch_after (epoch_after (a % 64))
two_later a = omega arith

-- counts at most two apart show epochs of one generation
near : (a b : ℕ) → a ≤ b → b ≤ a + 2 → same_generation (a % 64) (b % 64) ≡ true
near a b low high =
    let x = a % 64 in let y = b % 64 in
    ⊎_elim (λ e. or_left (y == x || y == epoch_after x) (y == epoch_after (epoch_after x))
    (or_left (y == x) (y == epoch_after x) (eq-eqb y x (ap (λ (k : ℕ). k % 64) e))))
    (λ d. ⊎_elim (λ e. or_left (y == x || y == epoch_after x) (y == epoch_after (epoch_after x))
    (or_right (y == x) (y == epoch_after x) (eq-eqb y (epoch_after x) (ap (λ (k : ℕ). k % 64) e ∙ one_later a))))
    (λ f. or_right (y == x || y == epoch_after x) (y == epoch_after (epoch_after x))
    (eq-eqb y (epoch_after (epoch_after x)) (ap (λ (k : ℕ). k % 64) (let e : b ≡ a + 2 = omega arith in e) ∙ two_later a)))
    (cases_eq b (a + 1)))
    (cases_eq b a)

pub generations : (size : Size) (h : List Step) → IsHistory size h → KeepsGenerations size h
generations size h is i seen retirement own is_seen at_r other guard begun guard_then guard_now =
    let from_retirement = Retire at_r.place i ∷ retirement in
    let all : IsHistory size (at_r.later ++ from_retirement) = subst (λ (k : List Step). IsHistory size k) at_r.follows is in
    let is_r : IsHistory size retirement = (earlier size at_r.later from_retirement all).1 in
    let high : count_at size h ≤ count_at size begun + 1 = at_most_next size h is guard begun guard_now in
    let from : count_at size begun ≤ count_at size retirement = under size retirement guard begun guard_then in
    let r : count_at size retirement ≤ count_at size own.published + 1 = at_most_next size retirement is_r own.guard own.published own.open_at_other in
    let low : count_at size own.published ≤ count_at size seen = under size seen own.guard own.published own.open_at_one in
    let on : count_at size seen ≤ count_at size h =
    subst (λ (k : List Step). count_at size seen ≤ count_at size k) (sym is_seen.1) (count_grows size is_seen.0 seen) in
    true≢false (sym (near (count_at size seen) (count_at size h) on (omega arith)) ∙ other)

-- the history of a list is one
pub goes_on_is : (size : Size) (h : List Step) (steps : List Step) → IsHistory size h → IsHistory size (goes_on size h steps)
goes_on_is size h [] is = is
goes_on_is size h (step ∷ steps) is =
    elim (possible (state size h) step) as (λ t. possible (state size h) step ≡ t → IsHistory size (goes_on size (cond t (step ∷ h) h) steps)) [
      | true ↦ λ e. goes_on_is size (step ∷ h) steps (e, is)
      | false ↦ λ e. goes_on_is size h steps is
    ] refl

pub goes_on-append : (size : Size) (h : List Step) (xs ys : List Step) → goes_on size h (xs ++ ys) ≡ goes_on size (goes_on size h xs) ys
goes_on-append size h [] ys = refl
goes_on-append size h (x ∷ xs) ys = goes_on-append size (cond (possible (state size h) x) (x ∷ h) h) xs ys

pub happens-state : (size : Size) (h : List Step) (x : Step) → happens (state size h) x ≡ state size (cond (possible (state size h) x) (x ∷ h) h)
happens-state size h x =
    elim (possible (state size h) x) as (λ t. cond t (after (state size h) x) (state size h) ≡ state size (cond t (x ∷ h) h)) [ true ↦ refl | false ↦ refl ]

-- the loop's step
pub taken_more : (size : Size) (steps : List Step) (i : ℕ) (d x : Step) (s : State) → i < length steps →
    s ≡ state size (history_of size (take i steps)) → x ≡ get_or steps i d →
    happens s x ≡ state size (history_of size (take (i + 1) steps))
taken_more size steps i d x s l e is =
    let h = history_of size (take i steps) in
    ap (λ (v : State). happens v x) e ∙ (happens-state size h x
    ∙ ap (state size) (ap (λ (y : Step). goes_on size h (y ∷ [])) is
    ∙ (sym (goes_on-append size [] (take i steps) (get_or steps i d ∷ [])) ∙ ap (λ (k : List Step). goes_on size [] k) (sym (take_more steps i d l)))))

-- what every history keeps holds after each beginning of a list
pub at_each : (Fact : Size → List Step → Type 0) → ((size : Size) (h : List Step) → IsHistory size h → Fact size h) → (steps : List Step) →
    AtEachMoment steps Fact
at_each Fact all steps size front rest e = all size (history_of size front) (goes_on_is size [] front tt)
