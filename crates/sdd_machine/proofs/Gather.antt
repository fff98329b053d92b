-- The loop that gathers what is left.
use Rattle.std.proofs.Common.{◌≡◌, ℕ, ◌+◌, ◌<◌, ◌≤◌, Bool, true, false, cond, ltb, ◌&&◌, ◌||◌, List, [], ◌∷◌, length, get_or, set, take, zero, suc, refl, sym, ap, subst, ◌∙◌, ⊎_elim, arith, get_or-set_same, get_or-set_other}
use Rattle.std.specs.Ordering.{nat_cmp}
use Rattle.std.specs.FinSet as set
use Rattle.sdd_machine.specs.declared.machine.places.PlacePhase.{PlacePhase}
use Rattle.sdd_machine.specs.Bags.{ThreeBags, BagsOfPlaces, no_items, all_of, joined}
use Rattle.std.proofs.Common.{None, replicate, add-one, map}
use Rattle.std.specs.Cmp.{nat_cmp_total}
use Rattle.std.proofs.lemmas.Bool.{true≢false, le-ltb, lt-ltb, false≢true, cases_eq, cases_lt, and_right, or_cases, or_left, or_right}
use Rattle.std.proofs.lemmas.List.{ext_get_or, length-set, length-map, take_all}
use Rattle.sdd_machine.specs.Bags.{has}
use Rattle.sdd_machine.proofs.Places.{at_place, open_is}
use Rattle.sdd_machine.proofs.InBags.{contains-both, or_nothing}
use Rattle.sdd_machine.specs.Views.{IsMachineState, freed_post}
use Rattle.sdd_machine.specs.Table.{is_free, is_open, is_ended, Place, free_place, new_state}
use Rattle.sdd_machine.specs.Views.{places_of}
use Rattle.sdd_machine.specs.declared.machine.places.Scan.{Scan}
use Rattle.std.proofs.Common.{Option}
use Rattle.sdd_machine.proofs.Views.{seen, held_freed, post_freed}
use Rattle.sdd_machine.specs.declared.machine.places.Phase.{Phase}
use Rattle.sdd_machine.specs.declared.machine.places.Phase.TheVariants.{Free}
use Rattle.std.proofs.lemmas.List.{length-replicate}
use Rattle.sdd_machine.specs.Views.{free_post, left_in, emptied, gathered}

-- after the places below q, from b to c
pub record Gathers (p : ℕ) (xs : List PlacePhase) (b c : BagsOfPlaces) (q : ℕ) : Type 0 where
  pub items : c.items ≡ b.items
  pub size : length c.trios ≡ length b.trios
  pub others : (j : ℕ) → (j ≡ p → ⊥) → get_or c.trios j no_items ≡ cond (ltb j q && is_ended (get_or xs j free_post).phase) no_items (get_or b.trios j no_items)
  pub prev : (get_or c.trios p no_items).prev ≡ (get_or b.trios p no_items).prev
  pub next : (get_or c.trios p no_items).next ≡ (get_or b.trios p no_items).next
  pub current : (i : ℕ) →
      set.contains (get_or c.trios p no_items).current i ≡ (set.contains (get_or b.trios p no_items).current i || set.contains (left_in (take q xs) b.trios) i)

or_assoc : (x y z : Bool) → (x || (y || z)) ≡ ((x || y) || z)
or_assoc true y z = refl
or_assoc false y z = refl

left_in-suc : (xs : List PlacePhase) (ts : List ThreeBags) (q i : ℕ) → q < length xs → length ts ≡ length xs →
    set.contains (left_in (take (suc q) xs) ts) i ≡
    (set.contains (left_in (take q xs) ts) i || (is_ended (get_or xs q free_post).phase && set.contains (all_of (get_or ts q no_items)) i))
left_in-suc [] ts q i l e = absurd (omega arith)
left_in-suc (x ∷ xs) [] q i l e = absurd (omega arith)
left_in-suc (x ∷ xs) (t ∷ ts) zero i l e =
    let none = set.contains-empty nat_cmp i in
    elim (is_ended x.phase) as (λ b. set.contains (cond b (set.union (all_of t) set.empty) set.empty) i ≡
    (set.contains (set.empty {R = nat_cmp}) i || (b && set.contains (all_of t) i))) [
      | true ↦ contains-both (all_of t) set.empty i ∙ (or_nothing _ _ none ∙ ap (λ (b : Bool). b || set.contains (all_of t) i) (sym none))
      | false ↦ none ∙ ap (λ (b : Bool). b || false) (sym none)
    ]
left_in-suc (x ∷ xs) (t ∷ ts) (suc q) i l e =
    let rest = left_in-suc xs ts q i (omega arith) (omega arith) in
    let w = is_ended (get_or xs q free_post).phase && set.contains (all_of (get_or ts q no_items)) i in
    elim (is_ended x.phase) as (λ b. set.contains (cond b (set.union (all_of t) (left_in (take (suc q) xs) ts)) (left_in (take (suc q) xs) ts)) i
    ≡ (set.contains (cond b (set.union (all_of t) (left_in (take q xs) ts)) (left_in (take q xs) ts)) i || w)) [
      | true ↦ contains-both (all_of t) (left_in (take (suc q) xs) ts) i ∙ (ap (λ (b : Bool). set.contains (all_of t) i || b) rest
          ∙ (or_assoc _ _ w ∙ ap (λ (b : Bool). b || w) (sym (contains-both (all_of t) (left_in (take q xs) ts) i))))
      | false ↦ rest
    ]

left_in-more : (xs : List PlacePhase) (ts : List ThreeBags) (q i : ℕ) → q < length xs → length ts ≡ length xs →
    set.contains (left_in (take (q + 1) xs) ts) i ≡
    (set.contains (left_in (take q xs) ts) i || (is_ended (get_or xs q free_post).phase && set.contains (all_of (get_or ts q no_items)) i))
left_in-more xs ts q i l e = ap (λ (k : ℕ). set.contains (left_in (take k xs) ts) i) (add-one q) ∙ left_in-suc xs ts q i l e

pub gathers_none : (p : ℕ) (xs : List PlacePhase) (b : BagsOfPlaces) → Gathers p xs b b 0
gathers_none p xs b = record {
  items = refl;
  size = refl;
  prev = refl;
  next = refl;
  others = λ j ne. sym (ap (λ (t : Bool). cond (t && is_ended (get_or xs j free_post).phase) no_items (get_or b.trios j no_items)) (le-ltb j 0 (omega arith)));
  current = λ i. sym (or_nothing (set.contains (get_or b.trios p no_items).current i) _ (set.contains-empty nat_cmp i));
}

-- whether j is below q + 1 and ended, where q is not ended
below_more_no : (xs : List PlacePhase) (j q : ℕ) → is_ended (get_or xs q free_post).phase ≡ false →
    (ltb j (q + 1) && is_ended (get_or xs j free_post).phase) ≡ (ltb j q && is_ended (get_or xs j free_post).phase)
below_more_no xs j q e =
    ⊎_elim
    (λ same. let k : is_ended (get_or xs j free_post).phase ≡ false =
    subst (λ (r : ℕ). is_ended (get_or xs r free_post).phase ≡ false) (sym same) e in and_right _ _ k ∙ sym (and_right _ _ k))
    (λ ne. ap (λ (t : Bool). t && is_ended (get_or xs j free_post).phase)
    (⊎_elim (λ l. lt-ltb j (q + 1) (omega arith) ∙ sym (lt-ltb j q l)) (λ g. le-ltb j (q + 1) (omega arith) ∙ sym (le-ltb j q g)) (cases_lt j q)))
    (cases_eq j q)

pub gathers_skip : (p : ℕ) (xs : List PlacePhase) (b c : BagsOfPlaces) (q : ℕ) → Gathers p xs b c q → q < length xs → length b.trios ≡ length xs →
    is_ended (get_or xs q free_post).phase ≡ false → Gathers p xs b c (q + 1)
gathers_skip p xs b c q g l same e = record {
  items = g.items;
  size = g.size;
  prev = g.prev;
  next = g.next;
  others = λ j ne. g.others j ne ∙ ap (λ (t : Bool). cond t no_items (get_or b.trios j no_items)) (sym (below_more_no xs j q e));
  current = λ i. g.current i ∙ ap (λ (t : Bool). set.contains (get_or b.trios p no_items).current i || t)
      (sym (left_in-more xs b.trios q i l same
      ∙ (ap (λ (t : Bool). set.contains (left_in (take q xs) b.trios) i || (t && set.contains (all_of (get_or b.trios q no_items)) i)) e
      ∙ or_nothing _ _ refl)));
}

pub gathers_join : (p : ℕ) (xs : List PlacePhase) (b c : BagsOfPlaces) (q : ℕ) → Gathers p xs b c q → q < length xs → p < length xs →
    length b.trios ≡ length xs → is_ended (get_or xs q free_post).phase ≡ true → (p ≡ q → ⊥) →
    Gathers p xs b (record c { trios = joined p q c.trios }) (q + 1)
gathers_join p xs b c q g l lp same e ne =
    let t = get_or c.trios p no_items in
    let u = get_or c.trios q no_items in
    let v : ThreeBags = record { current = set.union t.current (all_of u); prev = t.prev; next = t.next } in
    let inside : p < length (set c.trios q no_items) = (let a = length-set c.trios q no_items in let d = g.size in omega arith) in
    let within : q < length c.trios = (let d = g.size in omega arith) in
    let own : get_or (joined p q c.trios) p no_items ≡ v = get_or-set_same (set c.trios q no_items) p v no_items inside in
    let was : u ≡ get_or b.trios q no_items =
    g.others q (λ s. ne (sym s)) ∙ ap (λ (k : Bool). cond (k && is_ended (get_or xs q free_post).phase) no_items (get_or b.trios q no_items))
    (le-ltb q q (omega arith)) in
    record {
      items = g.items;
      size = length-set (set c.trios q no_items) p v ∙ (length-set c.trios q no_items ∙ g.size);
      prev = ap (λ (k : ThreeBags). k.prev) own ∙ g.prev;
      next = ap (λ (k : ThreeBags). k.next) own ∙ g.next;
      others = λ j other.
          get_or-set_other (set c.trios q no_items) p j v no_items other
          ∙ ⊎_elim
          (λ is. subst (λ (k : ℕ). get_or (set c.trios q no_items) k no_items ≡ no_items) (sym is) (get_or-set_same c.trios q no_items no_items within)
          ∙ sym (ap (λ (k : Bool). cond (k && is_ended (get_or xs j free_post).phase) no_items (get_or b.trios j no_items)) (lt-ltb j (q + 1) (omega arith))
          ∙ ap (λ (k : ℕ). cond (is_ended (get_or xs k free_post).phase) no_items (get_or b.trios j no_items)) is
          ∙ ap (λ (k : Bool). cond k no_items (get_or b.trios j no_items)) e))
          (λ far. get_or-set_other c.trios q j no_items no_items far ∙ (g.others j other
          ∙ ap (λ (k : Bool). cond (k && is_ended (get_or xs j free_post).phase) no_items (get_or b.trios j no_items))
          (⊎_elim (λ a. lt-ltb j q a ∙ sym (lt-ltb j (q + 1) (omega arith))) (λ a. le-ltb j q a ∙ sym (le-ltb j (q + 1) (omega arith))) (cases_lt j q))))
          (cases_eq j q);
      current = λ i.
          ap (λ (k : ThreeBags). set.contains k.current i) own
          ∙ (contains-both t.current (all_of u) i
          ∙ (ap (λ (k : Bool). k || set.contains (all_of u) i) (g.current i)
          ∙ (sym (or_assoc (set.contains (get_or b.trios p no_items).current i) (set.contains (left_in (take q xs) b.trios) i) (set.contains (all_of u) i))
          ∙ ap (λ (k : Bool). set.contains (get_or b.trios p no_items).current i || k)
          (ap (λ (k : ThreeBags). set.contains (left_in (take q xs) b.trios) i || set.contains (all_of k) i) was
          ∙ sym (left_in-more xs b.trios q i l same
          ∙ ap (λ (k : Bool). set.contains (left_in (take q xs) b.trios) i || (k && set.contains (all_of (get_or b.trios q no_items)) i)) e)))));
    }

length-emptied : (xs : List PlacePhase) (ts : List ThreeBags) → length ts ≡ length xs → length (emptied xs ts) ≡ length ts
length-emptied [] [] e = refl
length-emptied [] (t ∷ ts) e = absurd (omega arith)
length-emptied (x ∷ xs) [] e = refl
length-emptied (x ∷ xs) (t ∷ ts) e = ap suc (length-emptied xs ts (omega arith))

at-emptied : (xs : List PlacePhase) (ts : List ThreeBags) (j : ℕ) → length ts ≡ length xs →
    get_or (emptied xs ts) j no_items ≡ cond (is_ended (get_or xs j free_post).phase) no_items (get_or ts j no_items)
at-emptied [] [] j e = refl
at-emptied [] (t ∷ ts) j e = absurd (omega arith)
at-emptied (x ∷ xs) [] j e = absurd (omega arith)
at-emptied (x ∷ xs) (t ∷ ts) zero e = refl
at-emptied (x ∷ xs) (t ∷ ts) (suc j) e = at-emptied xs ts j (omega arith)

pub gathers_all : (p : ℕ) (xs : List PlacePhase) (b c : BagsOfPlaces) (q : ℕ) → Gathers p xs b c q → q ≡ length xs → p < length xs →
    length b.trios ≡ length xs → c ≡ record b { trios = gathered p xs b.trios }
gathers_all p xs b c q g is l same =
    let t = get_or b.trios p no_items in
    let v : ThreeBags = record { current = set.union t.current (left_in xs b.trios); prev = t.prev; next = t.next } in
    let size : length (emptied xs b.trios) ≡ length b.trios = length-emptied xs b.trios same in
    let whole : take q xs ≡ xs = take_all q xs (omega arith) in
    let own : get_or c.trios p no_items ≡ v =
    (let a : (get_or c.trios p no_items).current ≡ v.current =
    set.same_set nat_cmp_total set.nat_cmp-IsAntisymmetric _ _
    (λ i. g.current i ∙ (ap (λ (ys : List PlacePhase). set.contains t.current i || set.contains (left_in ys b.trios) i) whole
    ∙ sym (contains-both t.current (left_in xs b.trios) i))) in
    let d = g.prev in let e = g.next in
    λ k. record { current = a k; prev = d k; next = e k }) in
    let trios : c.trios ≡ gathered p xs b.trios =
    ext_get_or no_items c.trios (gathered p xs b.trios) (g.size ∙ (sym size ∙ sym (length-set (emptied xs b.trios) p v)))
    (λ j lj. at_place p j (λ _. get_or c.trios j no_items ≡ get_or (gathered p xs b.trios) j no_items)
    (λ s. subst (λ (k : ℕ). get_or c.trios k no_items ≡ get_or (gathered p xs b.trios) k no_items) s
    (own ∙ sym (get_or-set_same (emptied xs b.trios) p v no_items (omega arith))))
    (λ ne. let lt : j < q = (let z = g.size in omega arith) in
    g.others j (λ s. ne (sym s)) ∙ (ap (λ (k : Bool). cond (k && is_ended (get_or xs j free_post).phase) no_items (get_or b.trios j no_items)) (lt-ltb j q lt)
    ∙ (sym (at-emptied xs b.trios j same) ∙ sym (get_or-set_other (emptied xs b.trios) p j v no_items (λ s. ne (sym s))))))) in
    λ k. record { items = g.items k; trios = trios k }

left_has : (xs : List PlacePhase) (ts : List ThreeBags) (i : ℕ) → set.contains (left_in xs ts) i ≡ true → (q : ℕ) × (has (get_or ts q no_items) i ≡ true)
left_has [] ts i e = absurd (false≢true (sym (set.contains-empty nat_cmp i) ∙ e))
left_has (x ∷ xs) [] i e = absurd (false≢true (sym (set.contains-empty nat_cmp i) ∙ e))
left_has (x ∷ xs) (t ∷ ts) i e =
    let rest : set.contains (left_in xs ts) i ≡ true → (q : ℕ) × (has (get_or (t ∷ ts) q no_items) i ≡ true) =
    λ a. let r = left_has xs ts i a in (suc r.0, r.1) in
    elim (is_ended x.phase) as (λ b. set.contains (cond b (set.union (all_of t) (left_in xs ts)) (left_in xs ts)) i ≡ true →
    (q : ℕ) × (has (get_or (t ∷ ts) q no_items) i ≡ true)) [
      | true ↦ λ a. ⊎_elim
          (λ own. (
            0,
            ⊎_elim
                (λ c. or_left (set.contains t.current i || set.contains t.prev i) _ (or_left (set.contains t.current i) (set.contains t.prev i) c))
                (λ d. ⊎_elim (λ f. or_left (set.contains t.current i || set.contains t.prev i) _
                (or_right (set.contains t.current i) (set.contains t.prev i) f)) (λ g. or_right (set.contains t.current i || set.contains t.prev i) _ g)
                (or_cases (set.contains t.prev i) (set.contains t.next i) (sym (contains-both t.prev t.next i) ∙ d)))
                (or_cases (set.contains t.current i) (set.contains (set.union t.prev t.next) i)
                (sym (contains-both t.current (set.union t.prev t.next) i) ∙ own)),
          ))
          rest (or_cases (set.contains (all_of t) i) (set.contains (left_in xs ts) i) (sym (contains-both (all_of t) (left_in xs ts) i) ∙ a))
      | false ↦ rest
    ] e

none_has : (i : ℕ) → has no_items i ≡ true → ⊥
none_has i e =
    let n = set.contains-empty nat_cmp i in
    ⊎_elim (λ a. ⊎_elim (λ b. false≢true (sym n ∙ b)) (λ b. false≢true (sym n ∙ b))
    (or_cases (set.contains (set.empty {R = nat_cmp}) i) (set.contains (set.empty {R = nat_cmp}) i) a)) (λ b. false≢true (sym n ∙ b))
    (or_cases (set.contains (set.empty {R = nat_cmp}) i || set.contains (set.empty {R = nat_cmp}) i) (set.contains (set.empty {R = nat_cmp}) i) e)

-- what is in a bag after an adopt was in one before
gathered_has : (p : ℕ) (xs : List PlacePhase) (ts : List ThreeBags) (q i : ℕ) → length ts ≡ length xs → p < length xs →
    has (get_or (gathered p xs ts) q no_items) i ≡ true → (j : ℕ) × (has (get_or ts j no_items) i ≡ true)
gathered_has p xs ts q i same l e =
    let t = get_or ts p no_items in
    let v : ThreeBags = record { current = set.union t.current (left_in xs ts); prev = t.prev; next = t.next } in
    let size : length (emptied xs ts) ≡ length ts = length-emptied xs ts same in
    at_place p q (λ _. has (get_or (gathered p xs ts) q no_items) i ≡ true → (j : ℕ) × (has (get_or ts j no_items) i ≡ true))
    (λ s h.
    let k : has v i ≡ true =
    subst (λ (r : ThreeBags). has r i ≡ true)
    (subst (λ (r : ℕ). get_or (gathered p xs ts) r no_items ≡ v) s (get_or-set_same (emptied xs ts) p v no_items (omega arith))) h in
    ⊎_elim
    (λ a. ⊎_elim
    (λ b. ⊎_elim (λ c. (p, or_left (set.contains t.current i || set.contains t.prev i) _ (or_left (set.contains t.current i) (set.contains t.prev i) c)))
    (λ c. left_has xs ts i c) (or_cases (set.contains t.current i) (set.contains (left_in xs ts) i) (sym (contains-both t.current (left_in xs ts) i) ∙ b)))
    (λ b. (p, or_left (set.contains t.current i || set.contains t.prev i) _ (or_right (set.contains t.current i) (set.contains t.prev i) b)))
    (or_cases (set.contains v.current i) (set.contains t.prev i) a))
    (λ b. (p, or_right (set.contains t.current i || set.contains t.prev i) _ b))
    (or_cases (set.contains v.current i || set.contains t.prev i) (set.contains t.next i) k))
    (λ ne h.
    let k : has (cond (is_ended (get_or xs q free_post).phase) no_items (get_or ts q no_items)) i ≡ true =
    subst (λ (r : ThreeBags). has r i ≡ true) (get_or-set_other (emptied xs ts) p q v no_items (λ s. ne (sym s)) ∙ at-emptied xs ts q same) h in
    elim (is_ended (get_or xs q free_post).phase) as (λ b. has (cond b no_items (get_or ts q no_items)) i ≡ true →
    (j : ℕ) × (has (get_or ts j no_items) i ≡ true)) [
      | true ↦ λ a. absurd (none_has i a)
      | false ↦ λ a. (q, a)
    ] k)
    e

-- after an adopt a free place has empty bags
gathered_free : (p : ℕ) (xs : List PlacePhase) (b : BagsOfPlaces) (rs : List Bool) (o : Option Scan) → IsMachineState xs b rs o → p < length xs →
    is_open (get_or xs p free_post).phase ≡ true →
    (q : ℕ) → is_free (get_or (map freed_post xs) q free_post).phase ≡ true → get_or (gathered p xs b.trios) q no_items ≡ no_items
gathered_free p xs b rs o f l opened q is =
    let t = get_or b.trios p no_items in
    let v : ThreeBags = record { current = set.union t.current (left_in xs b.trios); prev = t.prev; next = t.next } in
    let free : is_free (cond (is_ended (get_or xs q free_post).phase) Free (get_or xs q free_post).phase) ≡ true =
    sym (ap (λ (y : PlacePhase). is_free y.phase) (post_freed xs q)) ∙ is in
    let other : q ≡ p → ⊥ = λ e.
    true≢false (sym (subst (λ (j : ℕ). is_free (cond (is_ended (get_or xs j free_post).phase) Free (get_or xs j free_post).phase) ≡ true) e free)
    ∙ ap (λ (k : Phase). is_free (cond (is_ended k) Free k)) (open_is _ opened)) in
    get_or-set_other (emptied xs b.trios) p q v no_items other
    ∙ (at-emptied xs b.trios q f.same
    ∙ elim (is_ended (get_or xs q free_post).phase) as (λ w. is_free (cond w Free (get_or xs q free_post).phase) ≡ true →
    cond w no_items (get_or b.trios q no_items) ≡ no_items) [
      | true ↦ λ _. refl
      | false ↦ λ k. f.free q k
    ] free)

pub fits_gathered : (p : ℕ) (xs : List PlacePhase) (b : BagsOfPlaces) (rs : List Bool) (o : Option Scan) → IsMachineState xs b rs o → p < length xs →
    is_open (get_or xs p free_post).phase ≡ true → IsMachineState (map freed_post xs) (record b { trios = gathered p xs b.trios }) rs o
fits_gathered p xs b rs o f l opened =
    let t = get_or b.trios p no_items in
    record {
      held = held_freed xs o f.held;
      free = gathered_free p xs b rs o f l opened;
      few = (let a = length-map xs freed_post in let c = f.few in omega arith);
      same = length-set (emptied xs b.trios) p (record t { current = set.union t.current (left_in xs b.trios) })
          ∙ (length-emptied xs b.trios f.same ∙ (f.same ∙ sym (length-map xs freed_post)));
      room = f.room;
      waits = λ q i h. let r = gathered_has p xs b.trios q i f.same l h in f.waits r.0 i r.1;
    }

new_places : (n : ℕ) → places_of (replicate n free_post) (replicate n no_items) ≡ replicate n free_place
new_places zero = refl
new_places (suc n) = ap (λ (ps : List Place). free_place ∷ ps) (new_places n)

get_or-no_items : (n q : ℕ) → get_or (replicate n no_items) q no_items ≡ no_items
get_or-no_items zero q = refl
get_or-no_items (suc n) zero = refl
get_or-no_items (suc n) (suc q) = get_or-no_items n q

pub new_seen : (n m : ℕ) (xs : List PlacePhase) (rs : List Bool) (b : BagsOfPlaces) → xs ≡ replicate n free_post → rs ≡ replicate m false →
    b ≡ record { items = m; trios = replicate n no_items } → seen 0 xs b.trios rs None ≡ new_state (record { places = n; items = m })
new_seen n m xs rs b e f g =
    ap (λ (ys : List PlacePhase). seen 0 ys b.trios rs None) e ∙ (ap (λ (c : BagsOfPlaces). seen 0 (replicate n free_post) c.trios rs None) g
    ∙ (ap (λ (ps : List Place). record { count = 0; places = ps; retired = rs; scan = None }) (new_places n)
    ∙ ap (λ (ss : List Bool). record (new_state (record { places = n; items = m })) { retired = ss }) f))

pub fits_new : (n m : ℕ) (xs : List PlacePhase) (rs : List Bool) (b : BagsOfPlaces) → xs ≡ replicate n free_post → rs ≡ replicate m false →
    b ≡ record { items = m; trios = replicate n no_items } → n ≤ 1024 → IsMachineState xs b rs None
fits_new n m xs rs b e f g few =
    let size : length xs ≡ n = ap (λ (ys : List PlacePhase). length ys) e ∙ length-replicate n free_post in
    record {
      held = tt;
      free = λ q _. ap (λ (c : BagsOfPlaces). get_or c.trios q no_items) g ∙ get_or-no_items n q;
      few = omega arith;
      same = ap (λ (c : BagsOfPlaces). length c.trios) g ∙ (length-replicate n no_items ∙ sym size);
      room = ap (λ (c : BagsOfPlaces). c.items) g ∙ sym (ap (λ (ss : List Bool). length ss) f ∙ length-replicate m false);
      waits = λ q i h. absurd (none_has i
          (sym (ap (λ (c : BagsOfPlaces). has (get_or c.trios q no_items) i) g ∙ ap (λ (t : ThreeBags). has t i) (get_or-no_items n q)) ∙ h));
    }
