use Rattle.std.proofs.Common.{◌≡◌, ℕ, ◌+◌, ◌<◌, Bool, true, false, cond, eqb, not, ◌&&◌, ◌||◌, List, [], ◌∷◌, length, replicate, get_or-set_same, get_or-set_other, get_or, set, zero, suc, refl, sym, ap, subst, ◌∙◌, arith}
use Rattle.std.proofs.lemmas.Bool.{ltb-true, true≢false, false≢true, and_parts, not-true}
use Rattle.std.specs.Prelude.{◌==◌, if◌then◌else◌}
use Rattle.sdd_machine.specs.declared.machine.steps.Step.{Step}
use Rattle.sdd_machine.specs.declared.machine.steps.Step.TheVariants.{Register, Read, Publish, Retire, Lock, Adopt, Look, Advance, Unlock, Close, End}
use Rattle.sdd_machine.specs.declared.machine.places.Phase.{Phase}
use Rattle.sdd_machine.specs.declared.machine.places.Phase.TheVariants.{Free, Closed, Reading, Open, Ended}
use Rattle.sdd_machine.specs.Table.{Size, Place, Items, place_at, free_place, is_ended, possible, registered, reading, closed, ended, retiring, left, taking}
use Rattle.sdd_machine.proofs.Histories.{IsHistory}
use Rattle.sdd_machine.specs.History.{state, count_at, last_read, last_published}
use Rattle.sdd_machine.proofs.Places.{at_place, free_is, reading_is, effect, freed_fields, published_fields}
use Rattle.std.proofs.lemmas.Bool.{or_from, or_left, or_right, eq-eqb, ne_eqb}
use Rattle.std.specs.Ordering.{nat_cmp}
use Rattle.std.specs.Cmp.{nat_cmp_total}
use Rattle.std.specs.FinSet as set
use Rattle.sdd_machine.specs.Table.{finds_another}
use Rattle.sdd_machine.specs.History.{is_change, fate, changed, taken_over, Fate, Kept, Waits, Left, Gone}
use Rattle.sdd_machine.specs.History as history
use Rattle.sdd_machine.proofs.Counts.{since, Good, good, place_step, holder_open, adopts_holds, get_or-free}
use Rattle.sdd_machine.proofs.WaitingItems.{FateOk, ItemOf, Item, In, is_with, BagsOk, was_retired, live, retired_at, contains-put, change_is, fate_step}

-- one place changed, and no bag
bags_with : (p q i : ℕ) (f : Fate) (x y : Place) → BagsOk f q i x → BagsOk f q i y → BagsOk f q i (cond (eqb p q) y x)
bags_with p q i f x y old new = at_place p q (λ t. BagsOk f q i (cond t y x)) (λ _. new) (λ _. old)

yes : (p q : ℕ) (b : Bool) → p ≡ q → (eqb p q && b) ≡ b
yes p q b e = ap (λ (t : Bool). t && b) (eq-eqb p q e)

not_so : (p q : ℕ) (b : Bool) → (p ≡ q → ⊥) → (eqb p q && b) ≡ false
not_so p q b ne = ap (λ (t : Bool). t && b) (ne_eqb p q ne)

-- a retirement of j
retire_bags : (p q i j : ℕ) (f : Fate) (x : Place) → (j ≡ i → f ≡ Kept) → BagsOk f q i x →
    BagsOk (cond (eqb j i) (Waits p 0) f) q i (cond (eqb p q) (retiring j x) x)
retire_bags p q i j f x new ok =
    at_place j i (λ t. BagsOk (cond t (Waits p 0) f) q i (cond (eqb p q) (retiring j x) x))
    (λ e. let was : BagsOk Kept q i x = subst (λ (g : Fate). BagsOk g q i x) (new e) ok in
    at_place p q (λ t. In i (eqb q p && true) (eqb q p && false) (eqb q p && false)
    (cond t (retiring j x) x).current (cond t (retiring j x) x).prev (cond t (retiring j x) x).next)
    (λ is. (
      contains-put x.current j i ∙ ap (λ (b : Bool). b || set.contains x.current i) (eq-eqb i j (sym e))
          ∙ sym (yes q p true (sym is)),
      was.1 ∙ sym (yes q p false (sym is)),
      was.2 ∙ sym (yes q p false (sym is)),
    ))
    (λ ne. let far : q ≡ p → ⊥ = λ b. ne (sym b) in
    (was.0 ∙ sym (not_so q p true far), was.1 ∙ sym (not_so q p false far), was.2 ∙ sym (not_so q p false far))))
    (λ ne. at_place p q (λ t. BagsOk f q i (cond t (retiring j x) x))
    (λ _. (contains-put x.current j i ∙ ap (λ (b : Bool). b || set.contains x.current i) (ne_eqb i j (λ e. ne (sym e))) ∙ ok.0, ok.1, ok.2))
    (λ _. ok))

-- the bags of p move on
abbrev Shifted : ℕ → Fate → Fate → Type 0
Shifted p f g = (is_with g p 0 ≡ false) × (is_with g p 1 ≡ is_with f p 0) × (is_with g p 2 ≡ is_with f p 1)

moved : (p q k : ℕ) → k < 3 → p ≡ q → Shifted p (Waits q k) (if k == 2 then Gone else Waits q (k + 1))
moved p q zero l e = (yes p q false e, yes p q true e ∙ sym (yes p q true e), yes p q false e ∙ sym (yes p q false e))
moved p q (suc zero) l e = (yes p q false e, yes p q false e ∙ sym (yes p q false e), yes p q true e ∙ sym (yes p q true e))
moved p q (suc (suc zero)) l e = (refl, sym (yes p q false e), sym (yes p q false e))
moved p q (suc (suc (suc k))) l e = absurd (omega arith)

shift : (c r : ℕ) (at : ℕ → Place) (p : ℕ) (f : Fate) → FateOk c r at f → is_ended (at p).phase ≡ false → Shifted p f (changed p f)
shift c r at p Kept ok e = (refl, refl, refl)
shift c r at p (Waits q k) ok e =
    at_place p q (λ t. Shifted p (Waits q k) (cond t (if k == 2 then Gone else Waits q (k + 1)) (Waits q k)))
    (λ is. moved p q k ok.young is)
    (λ ne. (not_so p q (eqb k 0) ne, not_so p q (eqb k 1) ne ∙ sym (not_so p q (eqb k 0) ne), not_so p q (eqb k 2) ne ∙ sym (not_so p q (eqb k 1) ne)))
shift c r at p (Left q k) ok e =
    let ne : p ≡ q → ⊥ = λ is. true≢false (sym (ap is_ended ok.2) ∙ (sym (ap (λ (j : ℕ). is_ended (at j).phase) is) ∙ e)) in
    (not_so p q (eqb k 0) ne, not_so p q (eqb k 1) ne ∙ sym (not_so p q (eqb k 0) ne), not_so p q (eqb k 2) ne ∙ sym (not_so p q (eqb k 1) ne))
shift c r at p Gone ok e = (refl, refl, refl)

-- those of another place stay
unmoved : (p q : ℕ) (f : Fate) → (p ≡ q → ⊥) → (k : ℕ) → is_with (changed p f) q k ≡ is_with f q k
unmoved p q Kept ne k = refl
unmoved p q (Waits h j) ne k =
    at_place p h (λ t. is_with (cond t (if j == 2 then Gone else Waits h (j + 1)) (Waits h j)) q k ≡ (eqb q h && eqb j k))
    (λ e. let far : q ≡ h → ⊥ = λ is. ne (e ∙ sym is) in
    at_place j 2 (λ t. is_with (cond t Gone (Waits h (j + 1))) q k ≡ (eqb q h && eqb j k))
    (λ _. sym (not_so q h (eqb j k) far)) (λ _. not_so q h (eqb (j + 1) k) far ∙ sym (not_so q h (eqb j k) far)))
    (λ _. refl)
unmoved p q (Left h j) ne k = refl
unmoved p q Gone ne k = refl

publish_bags : (c r : ℕ) (at : ℕ → Place) (p q i : ℕ) (f : Fate) → FateOk c r at f → is_ended (at p).phase ≡ false → BagsOk f q i (at q) →
    BagsOk (cond (finds_another (at p)) (changed p f) f) q i (cond (eqb p q) (published_fields (at q)) (at q))
publish_bags c r at p q i f fated e ok =
    let b = finds_another (at p) in
    at_place p q (λ t. BagsOk (cond b (changed p f) f) q i (cond t (published_fields (at q)) (at q)))
    (λ is.
    let s = shift c r at p f fated e in
    let here : (j : ℕ) → BagsOk f j i (at j) → p ≡ j → BagsOk (cond b (changed p f) f) j i (published_fields (at j)) =
    λ j o same. subst (λ (k : ℕ). BagsOk f k i (at k) → BagsOk (cond b (changed p f) f) k i (published_fields (at k))) same
    (λ old. elim (finds_another (at p)) as (λ t. In i (is_with (cond t (changed p f) f) p 0) (is_with (cond t (changed p f) f) p 1)
    (is_with (cond t (changed p f) f) p 2) (cond t set.empty (at p).current) (cond t (at p).current (at p).prev) (cond t (at p).prev (at p).next)) [
      | true ↦ (set.contains-empty nat_cmp i ∙ sym s.0, old.0 ∙ sym s.1, old.1 ∙ sym s.2)
      | false ↦ old
    ]) o in
    here q ok is)
    (λ ne. elim b as (λ t. BagsOk (cond t (changed p f) f) q i (at q)) [
      | true ↦ (ok.0 ∙ sym (unmoved p q f ne 0), ok.1 ∙ sym (unmoved p q f ne 1), ok.2 ∙ sym (unmoved p q f ne 2))
      | false ↦ ok
    ])

end_bags : (p q i : ℕ) (f : Fate) (x : Place) → BagsOk f q i x → BagsOk (history.ended p f) q i x
end_bags p q i Kept x ok = ok
end_bags p q i (Waits h k) x ok = elim (eqb p h) as (λ t. BagsOk (cond t (Left h k) (Waits h k)) q i x) [ true ↦ ok | false ↦ ok ]
end_bags p q i (Left h k) x ok = ok
end_bags p q i Gone x ok = ok

-- the union of what is left
pub contains-both : (a b : Items) (i : ℕ) → set.contains (set.union a b) i ≡ (set.contains a i || set.contains b i)
contains-both a b i = set.contains-union nat_cmp_total a b i

abbrev InNone : ℕ → Place → Type 0
InNone i x = In i false false false x.current x.prev x.next

left_none : (xs : List Place) (i : ℕ) → ((q : ℕ) → is_ended (get_or xs q free_place).phase ≡ true → InNone i (get_or xs q free_place)) →
    set.contains (left xs) i ≡ false
left_none [] i h = set.contains-empty nat_cmp i
left_none (x ∷ xs) i h =
    let rest = left_none xs i (λ q. h (suc q)) in
    elim (is_ended x.phase) as (λ t. is_ended x.phase ≡ t →
    set.contains (cond t (set.union (set.union x.current (set.union x.prev x.next)) (left xs)) (left xs)) i ≡ false) [
      | true ↦ λ e. let here = h zero e in
          contains-both _ (left xs) i ∙ or_from _ _
          (contains-both x.current _ i ∙ or_from _ _ here.0 (contains-both x.prev x.next i ∙ or_from _ _ here.1 here.2)) rest
      | false ↦ λ e. rest
    ] refl

left_some : (xs : List Place) (i q : ℕ) → is_ended (get_or xs q free_place).phase ≡ true →
    (set.contains (get_or xs q free_place).current i || (set.contains (get_or xs q free_place).prev i || set.contains (get_or xs q free_place).next i))
    ≡ true → set.contains (left xs) i ≡ true
left_some [] i q e h = absurd (false≢true e)
left_some (x ∷ xs) i zero e h =
    ap (λ (t : Bool). set.contains (cond t (set.union (set.union x.current (set.union x.prev x.next)) (left xs)) (left xs)) i) e
    ∙ contains-both _ (left xs) i ∙ or_left _ _
    (contains-both x.current _ i ∙ ap (λ (t : Bool). set.contains x.current i || t) (contains-both x.prev x.next i) ∙ h)
left_some (x ∷ xs) i (suc q) e h =
    let rest = left_some xs i q e h in
    elim (is_ended x.phase) as (λ t. set.contains (cond t (set.union (set.union x.current (set.union x.prev x.next)) (left xs)) (left xs)) i ≡ true) [
      | true ↦ contains-both _ (left xs) i ∙ or_right _ _ rest
      | false ↦ rest
    ]

pub or_nothing : (a b : Bool) → b ≡ false → (a || b) ≡ a
or_nothing true b e = refl
or_nothing false b e = e

freed_none : (i : ℕ) (x : Place) → (is_ended x.phase ≡ false → InNone i x) → InNone i (freed_fields x)
freed_none i x none =
    elim (is_ended x.phase) as (λ t. is_ended x.phase ≡ t →
    In i false false false (cond t set.empty x.current) (cond t set.empty x.prev) (cond t set.empty x.next)) [
      | true ↦ λ _. (set.contains-empty nat_cmp i, set.contains-empty nat_cmp i, set.contains-empty nat_cmp i)
      | false ↦ none
    ] refl

taking_none : (i p q : ℕ) (l : Items) (x : Place) → set.contains l i ≡ false → InNone i x → InNone i (cond (eqb p q) (taking l x) x)
taking_none i p q l x none ok =
    at_place p q (λ t. InNone i (cond t (taking l x) x)) (λ _. (contains-both x.current l i ∙ or_from _ _ ok.0 none, ok.1, ok.2)) (λ _. ok)

in_some : (i k : ℕ) (a b c : Items) → k < 3 → In i (eqb k 0) (eqb k 1) (eqb k 2) a b c → (set.contains a i || (set.contains b i || set.contains c i)) ≡ true
in_some i zero a b c l ok = or_left _ _ ok.0
in_some i (suc zero) a b c l ok = or_right _ _ (or_left _ _ ok.1)
in_some i (suc (suc zero)) a b c l ok = or_right _ _ (or_right _ _ ok.2)
in_some i (suc (suc (suc k))) a b c l ok = absurd (omega arith)

ended_apart : (xs : List Place) (h j : ℕ) (w : Bool) → is_ended (get_or xs h free_place).phase ≡ w → is_ended (get_or xs j free_place).phase ≡ not w → j ≡ h → ⊥
ended_apart xs h j true e f is = true≢false (sym e ∙ (sym (ap (λ (k : ℕ). is_ended (get_or xs k free_place).phase) is) ∙ f))
ended_apart xs h j false e f is = false≢true (sym e ∙ (sym (ap (λ (k : ℕ). is_ended (get_or xs k free_place).phase) is) ∙ f))

live_not_ended : (ph : Phase) → live ph ≡ true → is_ended ph ≡ false
live_not_ended Free e = refl
live_not_ended Closed e = refl
live_not_ended (Reading c) e = refl
live_not_ended Open e = refl
live_not_ended Ended e = sym e

adopt_bags : (c r : ℕ) (xs : List Place) (p q i : ℕ) (f : Fate) → (get_or xs p free_place).phase ≡ Open → FateOk c r (λ j. get_or xs j free_place) f →
    ((j : ℕ) → BagsOk f j i (get_or xs j free_place)) →
    BagsOk (taken_over p f) q i (cond (eqb p q) (taking (left xs) (freed_fields (get_or xs q free_place))) (freed_fields (get_or xs q free_place)))
adopt_bags c r xs p q i Kept op fated ok =
    taking_none i p q (left xs) (freed_fields (get_or xs q free_place)) (left_none xs i (λ j _. ok j)) (freed_none i (get_or xs q free_place) (λ _. ok q))
adopt_bags c r xs p q i (Waits h k) op fated ok =
    let x = get_or xs q free_place in
    let not_ended : is_ended (get_or xs h free_place).phase ≡ false = live_not_ended _ fated.alive in
    let others : (j : ℕ) → is_ended (get_or xs j free_place).phase ≡ true → j ≡ h → ⊥ = λ j e. ended_apart xs h j false not_ended e in
    let none : set.contains (left xs) i ≡ false =
    left_none xs i (λ j e. let o = ok j in let ne = others j e in
    (o.0 ∙ not_so j h (eqb k 0) ne, o.1 ∙ not_so j h (eqb k 1) ne, o.2 ∙ not_so j h (eqb k 2) ne)) in
    let here : BagsOk (Waits h k) q i (freed_fields x) =
    elim (is_ended x.phase) as (λ t. is_ended x.phase ≡ t → In i (is_with (Waits h k) q 0) (is_with (Waits h k) q 1)
    (is_with (Waits h k) q 2) (cond t set.empty x.current) (cond t set.empty x.prev) (cond t set.empty x.next)) [
      | true ↦ λ e. let ne = others q e in (
        set.contains-empty nat_cmp i ∙ sym (not_so q h (eqb k 0) ne),
        set.contains-empty nat_cmp i
            ∙ sym (not_so q h (eqb k 1) ne),
        set.contains-empty nat_cmp i ∙ sym (not_so q h (eqb k 2) ne),
      )
      | false ↦ λ _. ok q
    ] refl in
    at_place p q (λ t. BagsOk (Waits h k) q i (cond t (taking (left xs) (freed_fields x)) (freed_fields x)))
    (λ _. (contains-both _ (left xs) i ∙ or_nothing _ _ none ∙ here.0, here.1, here.2)) (λ _. here)
adopt_bags c r xs p q i (Left h k) op fated ok =
    let x = get_or xs q free_place in
    let is_over : is_ended (get_or xs h free_place).phase ≡ true = ap is_ended fated.2 in
    let self = ok h in
    let some : set.contains (left xs) i ≡ true =
    left_some xs i h is_over (in_some i k (get_or xs h free_place).current (get_or xs h free_place).prev (get_or xs h free_place).next fated.0
    (self.0 ∙ yes h h (eqb k 0) refl, self.1 ∙ yes h h (eqb k 1) refl, self.2 ∙ yes h h (eqb k 2) refl)) in
    let here : InNone i (freed_fields x) =
    freed_none i x (λ e. let o = ok q in let ne = ended_apart xs h q true is_over e in
    (o.0 ∙ not_so q h (eqb k 0) ne, o.1 ∙ not_so q h (eqb k 1) ne, o.2 ∙ not_so q h (eqb k 2) ne)) in
    at_place p q (λ t. BagsOk (Waits p 0) q i (cond t (taking (left xs) (freed_fields x)) (freed_fields x)))
    (λ is. (
      contains-both _ (left xs) i ∙ or_right _ _ some ∙ sym (yes q p true (sym is)),
      here.1 ∙ sym (yes q p false (sym is)),
      here.2 ∙ sym (yes q p false (sym is)),
    ))
    (λ ne. let far : q ≡ p → ⊥ = λ e. ne (sym e) in
    (here.0 ∙ sym (not_so q p true far), here.1 ∙ sym (not_so q p false far), here.2 ∙ sym (not_so q p false far)))
adopt_bags c r xs p q i Gone op fated ok =
    taking_none i p q (left xs) (freed_fields (get_or xs q free_place)) (left_none xs i (λ j _. ok j)) (freed_none i (get_or xs q free_place) (λ _. ok q))

kept_from_flag : (f : Fate) → was_retired f ≡ false → f ≡ Kept
kept_from_flag Kept e = refl
kept_from_flag (Waits p k) e = absurd (true≢false e)
kept_from_flag (Left p k) e = absurd (true≢false e)
kept_from_flag Gone e = absurd (true≢false e)

-- a free place holds nothing
free_none : (c r : ℕ) (at : ℕ → Place) (f : Fate) (q : ℕ) → FateOk c r at f → (at q).phase ≡ Free → (k : ℕ) → is_with f q k ≡ false
free_none c r at Kept q ok free k = refl
free_none c r at (Waits h j) q ok free k = not_so q h (eqb j k) (λ e. true≢false (sym ok.alive ∙ (ap live (subst (λ (m : ℕ). (at m).phase ≡ Free) e free))))
free_none c r at (Left h j) q ok free k =
    not_so q h (eqb j k) (λ e. true≢false (sym (ap is_ended ok.2) ∙ ap is_ended (subst (λ (m : ℕ). (at m).phase ≡ Free) e free)))
free_none c r at Gone q ok free k = refl

bags_step : (size : Size) (h : List Step) (step : Step) (i : ℕ) → Good size h → possible (state size h) step ≡ true → Item size h i →
    (q : ℕ) → BagsOk (fate size i (step ∷ h)) q i (effect (state size h) step q (place_at (state size h) q))
bags_step size h (Register p) i g can o q =
    let s = state size h in let x = place_at s q in let f = fate size i h in
    at_place p q (λ t. BagsOk f q i (cond t (registered x) x))
    (λ e.
    let none = free_none (count_at size h) (retired_at size i h) (place_at s) f q o.fated
    (subst (λ (j : ℕ). (place_at s j).phase ≡ Free) e (free_is _ (and_parts _ _ can).1)) in
    let nothing = set.contains-empty nat_cmp i in
    (nothing ∙ sym (none 0), nothing ∙ sym (none 1), nothing ∙ sym (none 2)))
    (λ _. o.bags q)
bags_step size h (Read p) i g can o q =
    let x = place_at (state size h) q in bags_with p q i (fate size i h) x (reading (count_at size h) x) (o.bags q) (o.bags q)
bags_step size h (Publish p) i g can o q =
    let s = state size h in let f = fate size i h in
    subst (λ (b : Bool). BagsOk (cond b (changed p f) f) q i (cond (eqb p q) (published_fields (place_at s q)) (place_at s q))) (sym (change_is size h p g can))
    (publish_bags (count_at size h) (retired_at size i h) (place_at s) p q i f o.fated (ap is_ended (reading_is _ can).1) (o.bags q))
bags_step size h (Retire p j) i g can o q =
    let s = state size h in
    retire_bags p q i j (fate size i h) (place_at s q)
    (λ e. kept_from_flag _ (sym o.flag ∙ subst (λ (k : ℕ). get_or s.retired k false ≡ false) e (not-true _ (and_parts _ _ can).1)))
    (o.bags q)
bags_step size h (Lock p) i g can o q = o.bags q
bags_step size h (Adopt p) i g can o q =
    let s = state size h in
    adopt_bags (count_at size h) (retired_at size i h) s.places p q i (fate size i h)
    (holder_open (λ j. since size j h) (place_at s) s.scan p g.scanned (adopts_holds s.scan p can)) o.fated o.bags
bags_step size h (Look p) i g can o q = o.bags q
bags_step size h (Advance p) i g can o q = o.bags q
bags_step size h (Unlock p) i g can o q = o.bags q
bags_step size h (Close p) i g can o q = let x = place_at (state size h) q in bags_with p q i (fate size i h) x (closed x) (o.bags q) (o.bags q)
bags_step size h (End p) i g can o q =
    let x = place_at (state size h) q in let f = fate size i h in
    bags_with p q i (history.ended p f) x (ended x) (end_bags p q i f x (o.bags q)) (end_bags p q i f x (o.bags q))

changed_flag : (p : ℕ) (f : Fate) → was_retired (changed p f) ≡ was_retired f
changed_flag p Kept = refl
changed_flag p (Waits q k) =
    elim (eqb p q) as (λ t. was_retired (cond t (if k == 2 then Gone else Waits q (k + 1)) (Waits q k)) ≡ true) [
      | true ↦ elim (eqb k 2) as (λ t. was_retired (cond t Gone (Waits q (k + 1))) ≡ true) [ true ↦ refl | false ↦ refl ]
      | false ↦ refl
    ]
changed_flag p (Left q k) = refl
changed_flag p Gone = refl

ended_flag : (p : ℕ) (f : Fate) → was_retired (history.ended p f) ≡ was_retired f
ended_flag p Kept = refl
ended_flag p (Waits q k) = elim (eqb p q) as (λ t. was_retired (cond t (Left q k) (Waits q k)) ≡ true) [ true ↦ refl | false ↦ refl ]
ended_flag p (Left q k) = refl
ended_flag p Gone = refl

taken_flag : (p : ℕ) (f : Fate) → was_retired (taken_over p f) ≡ was_retired f
taken_flag p Kept = refl
taken_flag p (Waits q k) = refl
taken_flag p (Left q k) = refl
taken_flag p Gone = refl

flag_step : (size : Size) (h : List Step) (step : Step) (i : ℕ) → possible (state size h) step ≡ true → Item size h i →
    get_or (state size (step ∷ h)).retired i false ≡ was_retired (fate size i (step ∷ h))
flag_step size h (Register p) i can o = o.flag
flag_step size h (Read p) i can o = o.flag
flag_step size h (Publish p) i can o =
    let f = fate size i h in
    o.flag ∙ elim (is_change size p h) as (λ t. was_retired f ≡ was_retired (cond t (changed p f) f)) [ true ↦ sym (changed_flag p f) | false ↦ refl ]
flag_step size h (Retire p j) i can o =
    let s = state size h in
    let lt : j < length s.retired = ltb-true j (length s.retired) (and_parts _ _ (and_parts _ _ can).0).1 in
    at_place j i (λ t. get_or (set s.retired j true) i false ≡ was_retired (cond t (Waits p 0) (fate size i h)))
    (λ e. subst (λ (k : ℕ). get_or (set s.retired j true) k false ≡ true) e (get_or-set_same s.retired j true false lt))
    (λ ne. get_or-set_other s.retired j i true false (λ e. ne (sym e)) ∙ o.flag)
flag_step size h (Lock p) i can o = o.flag
flag_step size h (Adopt p) i can o = o.flag ∙ sym (taken_flag p (fate size i h))
flag_step size h (Look p) i can o = o.flag
flag_step size h (Advance p) i can o = o.flag
flag_step size h (Unlock p) i can o = o.flag
flag_step size h (Close p) i can o = o.flag
flag_step size h (End p) i can o = o.flag ∙ sym (ended_flag p (fate size i h))

item_step : (size : Size) (h : List Step) (step : Step) (i : ℕ) → Good size h → possible (state size h) step ≡ true → Item size h i → Item size (step ∷ h) i
item_step size h step i g can o =
    let at : ℕ → Place = λ q. effect (state size h) step q (place_at (state size h) q) in
    let same : at ≡ (λ q. place_at (state size (step ∷ h)) q) = λ j q. sym (place_step size h step g can q) j in
    subst (λ (f : ℕ → Place). ItemOf (count_at size (step ∷ h)) (retired_at size i (step ∷ h)) f
    (state size (step ∷ h)).retired (fate size i (step ∷ h)) i) same
    (record { fated = fate_step size h step i g can o; bags = bags_step size h step i g can o; flag = flag_step size h step i can o })

get_or-unretired : (k i : ℕ) → get_or (replicate k false) i false ≡ false
get_or-unretired zero i = refl
get_or-unretired (suc k) zero = refl
get_or-unretired (suc k) (suc i) = get_or-unretired k i

pub item : (size : Size) (h : List Step) → IsHistory size h → (i : ℕ) → Item size h i
item size [] is i =
    let none = set.contains-empty nat_cmp i in
    record {
      fated = tt;
      bags = λ q. subst (λ (x : Place). InNone i x) (sym (get_or-free size.places q)) (none, none, none);
      flag = get_or-unretired size.items i;
    }
item size (step ∷ h) is i = item_step size h step i (good size h is.1) is.0 (item size h is.1 i)
