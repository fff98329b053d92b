use Rattle.std.proofs.Common.{◌≡◌, ℕ, ◌+◌, ◌-◌, length, refl, sym, ap, ◌∙◌, vec_len, arith}
use Rattle.sdd_shared_values.specs.ValueFractions.{FractionContent}
use Rattle.sdd_shared_values.specs.SharedValues.{most, IsNoValueCode}
use Rattle.sdd_domain_invariant.specs.Fractions.FractionsAtHome.{none_away, all_vacant}
use Rattle.sdd_domain_invariant.proofs.Fractions.FractionNumbers.{next_fraction, next_slot, popped, one_joined, unit_of, rest_of}
use Rattle.sdd_domain_invariant.proofs.gather.gather_slot.Goals as goal

pub take_last-whole-requires : goal.take_last-whole-requires
take_last-whole-requires c = let long = c.requires.laid.long in let d : vec_len c.args.laid.now ≡ length c.args.laid.now.items = c.args.laid.now.ok.0 in
    let e = next_slot c.args.participants c.args.slot (c.args.slot + 1) c.args.participants refl refl in omega arith

pub loop-place-init : goal.loop-place-init
loop-place-init c = let γ : ℕ = c.args.values_name.now.gamma in let n : ℕ = c.args.participants in let i : ℕ = c.args.slot in let t = c.take_last-whole in
    let pop = popped γ n none_away all_vacant i (n - 0) _ c.args.laid.now.items t.new.self.items t.result t.ensures.items (omega arith)
    (next_slot n i (i + 1) (n - 0) refl (omega arith)) c.requires.laid in record {
      laid = pop.0;
      whole = rest_of γ i n 0 IsNoValueCode (n - 0) (most - n + 0) t.result (omega arith) (omega arith) pop.1;
      vacant = pop.1.1;
    }

pub take_last-requires : goal.take_last-requires
take_last-requires c = let n : ℕ = c.args.participants in let p : ℕ = c.loop-place._place in let long = c.loop-place.invariant.laid.long in
    let d : vec_len c.loop-place.laid ≡ length c.loop-place.laid.items = c.loop-place.laid.ok.0 in
    let e = next_fraction n c.args.slot (n - (p + 1)) (n - p) (omega arith) in omega arith

pub join-requires-clause-gamma : goal.join-requires-clause-gamma
join-requires-clause-gamma c = let n : ℕ = c.args.participants in let p : ℕ = c.loop-place._place in let inv = c.loop-place.invariant in let t = c.take_last in
    let pop = popped c.args.values_name.now.gamma n none_away all_vacant c.args.slot (n -
    (p + 1)) _ c.loop-place.laid.items t.new.self.items t.result t.ensures.items
    (omega arith)
    (next_fraction n c.args.slot (n - (p + 1)) (n - p) (omega arith)) inv.laid in
    ap (λ (h : FractionContent). h.gamma) pop.1.0 ∙ sym (ap (λ (h : FractionContent). h.gamma) inv.whole)

pub join-requires-clause-number : goal.join-requires-clause-number
join-requires-clause-number c = let n : ℕ = c.args.participants in let p : ℕ = c.loop-place._place in let inv = c.loop-place.invariant in
    let t = c.take_last in
    let pop = popped c.args.values_name.now.gamma n none_away all_vacant c.args.slot (n -
    (p + 1)) _ c.loop-place.laid.items t.new.self.items t.result t.ensures.items
    (omega arith)
    (next_fraction n c.args.slot (n - (p + 1)) (n - p) (omega arith)) inv.laid in
    ap (λ (h : FractionContent). h.number) pop.1.0 ∙ sym (ap (λ (h : FractionContent). h.number) inv.whole)

pub join-requires-clause-free : goal.join-requires-clause-free
join-requires-clause-free c = let n : ℕ = c.args.participants in let p : ℕ = c.loop-place._place in let inv = c.loop-place.invariant in let t = c.take_last in
    let pop = popped c.args.values_name.now.gamma n none_away all_vacant c.args.slot (n -
    (p + 1)) _ c.loop-place.laid.items t.new.self.items t.result t.ensures.items
    (omega arith)
    (next_fraction n c.args.slot (n - (p + 1)) (n - p) (omega arith)) inv.laid in
    (ap (λ (h : FractionContent). h.lent) inv.whole, ap (λ (h : FractionContent). h.lent) pop.1.0)

pub loop-place-preserved : goal.loop-place-preserved
loop-place-preserved c = let γ : ℕ = c.args.values_name.now.gamma in let n : ℕ = c.args.participants in let i : ℕ = c.args.slot in
    let p : ℕ = c.loop-place._place in
    let inv = c.loop-place.invariant in let t = c.take_last in
    let pop = popped γ n none_away all_vacant i (n - (p + 1)) _ c.loop-place.laid.items t.new.self.items t.result t.ensures.items (omega arith)
    (next_fraction n i (n - (p + 1)) (n - p) (omega arith)) inv.laid in record {
      laid = pop.0;
      whole = one_joined γ i n c.loop-place.whole.content t.result.content c.join.new.self.content (most - n + p) (most - n + (p + 1)) (omega arith) inv.whole
          (unit_of γ i n 0 IsNoValueCode (n - (p + 1)) t.result (omega arith) pop.1) c.join.ensures.joined;
      vacant = ap (λ (h : FractionContent). h.shown) c.join.ensures.joined ∙ inv.vacant;
    }
