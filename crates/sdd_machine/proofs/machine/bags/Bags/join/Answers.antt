use Rattle.std.proofs.Common.{◌≡◌, ◌+◌, ◌*◌, ◌<◌, List, length, refl, sym, ap, subst, ◌∙◌, arith}
use Rattle.sdd_machine.specs.Bags.{ThreeBags, BagsOfPlaces, joined, trios_of, AreTrios}
use Rattle.sdd_machine.specs.Chains.{ChainedBags}
use Rattle.sdd_machine.proofs.ThreeBags.{moved, taken_in, taken_trios_in, trios_moved}
use Rattle.sdd_machine.proofs.machine.bags.Bags.join.Goals as goal

pub invariant_of-self : goal.invariant_of-self
invariant_of-self c =
    let b = c.self.inside.chains in let v = c.self.view_is in
    let p = c.args.to in let r = c.args.from in let k = 3 * p + 0 in
    let x = c.join.new.self in let y = c.join-2.new.self in let z = c.join-3.new.self in
    let first : x ≡ record { items = b.items; bags = moved k (3 * r + 0) b.bags } = c.join.ensures in
    let second : y ≡ record { items = x.items; bags = moved k (3 * r + 1) x.bags } = c.join-2.ensures in
    let third : z ≡ record { items = y.items; bags = moved k (3 * r + 2) y.bags } = c.join-3.ensures in
    let all : z ≡ record { items = b.items; bags = taken_in k (3 * r + 0) (3 * r + 1) (3 * r + 2) b.bags } =
    third ∙ (ap (λ (s : ChainedBags). record { items = s.items; bags = moved k (3 * r + 2) s.bags }) second
    ∙ ap (λ (s : ChainedBags). record { items = s.items; bags = moved k (3 * r + 2) (moved k (3 * r + 1) s.bags) }) first) in
    subst AreTrios (sym (ap (λ (s : ChainedBags). s.bags) all))
    (trios_moved k (3 * r + 2) _ (trios_moved k (3 * r + 1) _ (trios_moved k (3 * r + 0) b.bags c.self.invariant)))

pub returns : goal.returns
returns c =
    let b = c.self.inside.chains in let v = c.self.view_is in
    let lp : c.args.to < length (trios_of b.bags) = subst (λ (s : BagsOfPlaces). c.args.to < length s.trios) (sym v) c.requires.to in
    let lr : c.args.from < length (trios_of b.bags) = subst (λ (s : BagsOfPlaces). c.args.from < length s.trios) (sym v) c.requires.from in
    let p = c.args.to in let r = c.args.from in let k = 3 * p + 0 in
    let x = c.join.new.self in let y = c.join-2.new.self in let z = c.join-3.new.self in
    let first : x ≡ record { items = b.items; bags = moved k (3 * r + 0) b.bags } = c.join.ensures in
    let second : y ≡ record { items = x.items; bags = moved k (3 * r + 1) x.bags } = c.join-2.ensures in
    let third : z ≡ record { items = y.items; bags = moved k (3 * r + 2) y.bags } = c.join-3.ensures in
    let all : z ≡ record { items = b.items; bags = taken_in k (3 * r + 0) (3 * r + 1) (3 * r + 2) b.bags } =
    third ∙ (ap (λ (s : ChainedBags). record { items = s.items; bags = moved k (3 * r + 2) s.bags }) second
    ∙ ap (λ (s : ChainedBags). record { items = s.items; bags = moved k (3 * r + 2) (moved k (3 * r + 1) s.bags) }) first) in
    ap (λ (s : ChainedBags). record { items = s.items; trios = trios_of s.bags }) all
    ∙ (ap (λ (ts : List ThreeBags). record { items = b.items; trios = ts })
    (taken_trios_in b.bags p r k (3 * r + 0) (3 * r + 1) (3 * r + 2) (omega arith) (omega arith) refl refl lp lr c.requires.other)
    ∙ ap (λ (s : BagsOfPlaces). record { items = s.items; trios = joined p r s.trios }) v)
