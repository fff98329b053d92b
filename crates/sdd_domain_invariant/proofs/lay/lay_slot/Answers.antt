use Rattle.std.proofs.Common.{◌≡◌, ℕ, ◌+◌, ◌-◌, refl, ap, ◌∙◌, arith}
use Rattle.sdd_shared_values.specs.ValueFractions.{FractionContent}
use Rattle.sdd_shared_values.specs.SharedValues.{most, IsNoValueCode}
use Rattle.sdd_domain_invariant.specs.Fractions.FractionsAtHome.{none_away, all_vacant}
use Rattle.sdd_domain_invariant.proofs.Fractions.FractionNumbers.{next_fraction, next_slot, pushed, rest_less, unit_has, rest_has}
use Rattle.sdd_domain_invariant.proofs.lay.lay_slot.Goals as goal

pub loop-place-preserved : goal.loop-place-preserved
loop-place-preserved c = let n : ℕ = c.args.participants in let i : ℕ = c.args.slot in let p : ℕ = c.loop-place._place in
    let γ : ℕ = c.args.whole.content.gamma in
    let inv = c.loop-place.invariant in let l : FractionContent = c.loop-place.rest.content in let m : FractionContent = c.split.new.self.content in record {
      laid = pushed γ n none_away all_vacant i p _ c.loop-place.laid.items c.push_reserved.new.self.items c.split.result c.push_reserved.ensures.items
          (omega arith)
          (next_fraction n i p (p + 1) refl) inv.laid
          (unit_has γ i n 0 IsNoValueCode p (most - p) l c.split.result c.loop-place-test.true inv.rest c.split.ensures.part inv.vacant);
      rest = rest_less γ i n l m (most - p) (most - (p + 1)) (omega arith) inv.rest c.split.ensures.rest;
      vacant = ap (λ (h : FractionContent). h.shown) c.split.ensures.rest ∙ inv.vacant;
      room = (let a = c.push_reserved.ensures.len in let b = inv.room in omega arith);
      capacity = c.push_reserved.ensures.capacity ∙ inv.capacity;
    }

pub returns-clause-laid : goal.returns-clause-laid
returns-clause-laid c = let n : ℕ = c.args.participants in let i : ℕ = c.args.slot in let p : ℕ = c.loop-place._place in
    let γ : ℕ = c.args.whole.content.gamma in
    let inv = c.loop-place.invariant in let e : p ≡ n = omega arith in
    pushed γ n none_away all_vacant i p _ c.loop-place.laid.items c.push_reserved-2.new.self.items c.loop-place.rest c.push_reserved-2.ensures.items
    (omega arith)
    (next_slot n i (i + 1) p refl e) inv.laid (rest_has γ i n 0 IsNoValueCode p (most - p) c.loop-place.rest e (omega arith) inv.rest inv.vacant)
