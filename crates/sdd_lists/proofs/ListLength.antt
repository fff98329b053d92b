-- A list is no longer than there are slots
use Rattle.std.proofs.Common.{◌≡◌, ◌≢◌, ℕ, ◌<◌, ◌≤◌, List, [], ◌∷◌, length, Option, Some, None, refl, sym, ap, ◌∙◌, arith, slice_index_or, slice_set, sum_by}
use Rattle.std.proofs.lemmas.List.{get_or-set_other}
use Rattle.std.proofs.lemmas.List.Sums.{sum_by-set, sum_by-cons}
use Rattle.sdd_world_model.specs.World.{World}
use Rattle.sdd_lists.specs.Lists.{Entry, first_slot, AreLinked}
use Rattle.sdd_lists.proofs.Lists.{as-long, inside}

abbrev one : {X : Type 0} → Option X → ℕ
one None = 0
one (Some x) = 1

one-most : {X : Type 0} (o : Option X) → one o ≤ 1
one-most None = omega arith
one-most (Some x) = omega arith

few : {X : Type 0} (xs : List (Option X)) → sum_by one xs ≤ length xs
few [] = omega arith
few (x ∷ xs) = omega (arith, sum_by-cons one x xs, one-most x, few xs)

module _ {T : Type 0} (link : T → ℕ) where
  abbrev NoneIn : ℕ → List (Entry T) → Type 0
  NoneIn k [] = Unit {0}
  NoneIn k (e ∷ es) = (e.slot ≢ k) × NoneIn k es

  none-in : (w : World T) (k : ℕ) (full es : List (Entry T)) → first_slot full ≡ Some k → AreLinked link w full → AreLinked link w es →
      length es < length full → NoneIn k es
  none-in w k full [] first whole part fewer = tt
  none-in w k full (e ∷ es) first whole part fewer = (
    (λ same.
        let firsts : first_slot full ≡ Some e.slot = first ∙ ap (λ (j : ℕ). Some j) (sym same) in
        absurd (omega (arith, as-long link w full (e ∷ es) whole part firsts, fewer))),
    none-in w k full es first whole part.1 (omega (arith, fewer)),
  )

  emptied : (w : World T) (k : ℕ) (es : List (Entry T)) → NoneIn k es → AreLinked link w es →
      AreLinked link (record w { values = slice_set w.values k None }) es
  emptied w k [] none a = tt
  emptied w k (e ∷ es) none a = (
    record {
      there = get_or-set_other w.values k e.slot None None none.0 ∙ a.0.there;
      linked = a.0.linked;
      plain = a.0.plain;
    },
    emptied w k es none.1 a.1,
  )

  counted : (w : World T) (es : List (Entry T)) → AreLinked link w es → length es ≤ sum_by one w.values
  counted w [] a = omega arith
  counted w (e ∷ es) a =
      let u : World T = record w { values = slice_set w.values e.slot None } in
      let apart = none-in w e.slot (e ∷ es) es refl a a.1 (omega arith) in
      let rest = counted u es (emptied w e.slot es apart a.1) in
      let fewer = sum_by-set one w.values e.slot None None (inside w.values e.slot e.value a.0.there) in
      let was : one (slice_index_or w.values e.slot None) ≡ 1 = ap one a.0.there in
      omega (arith, rest, fewer, was)

  pub no-longer : (w : World T) (es : List (Entry T)) → AreLinked link w es → length es ≤ length w.values
  no-longer w es a = omega (arith, counted w es a, few w.values)
