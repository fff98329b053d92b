use Rattle.std.proofs.Common.{◌≡◌, ◌+◌, ◌*◌, ◌<◌, List, length, refl, sym, ap, subst, ◌∙◌, arith, slice_set}
use Rattle.std.specs.FinSet as set
use Rattle.sdd_machine.specs.Bags.{ThreeBags, BagsOfPlaces, trio_at, rotated, trios_of, AreTrios}
use Rattle.sdd_machine.specs.Chains.{ChainedBags}
use Rattle.sdd_machine.proofs.ThreeBags.{moved, turned, turned_trios, taken_trios, trios_set, trios_moved}
use Rattle.sdd_machine.proofs.machine.bags.Bags.rotate.Goals as goal

pub invariant_of-self : goal.invariant_of-self
invariant_of-self c =
    let b = c.self.inside.chains in let v = c.self.view_is in
    let p = c.args.place in
    let x = c.clear-taken.new.self in let y = c.join.new.self in let z = c.join-2.new.self in
    let cleared : x ≡ record { items = b.items; bags = slice_set b.bags (3 * p + 2) set.empty } = c.clear-taken.ensures.cleared in
    let first : y ≡ record { items = x.items; bags = moved (3 * p + 2) (3 * p + 1) x.bags } = c.join.ensures in
    let second : z ≡ record { items = y.items; bags = moved (3 * p + 1) (3 * p + 0) y.bags } = c.join-2.ensures in
    let all : z ≡ record { items = b.items; bags = turned (3 * p + 0) (3 * p + 1) (3 * p + 2) b.bags } =
    second ∙ (ap (λ (s : ChainedBags). record { items = s.items; bags = moved (3 * p + 1) (3 * p + 0) s.bags }) first
    ∙ ap (λ (s : ChainedBags). record { items = s.items; bags = moved (3 * p + 1) (3 * p + 0) (moved (3 * p + 2) (3 * p + 1) s.bags) }) cleared) in
    subst AreTrios (sym (ap (λ (s : ChainedBags). s.bags) all))
    (trios_moved (3 * p + 1) (3 * p + 0) _ (trios_moved (3 * p + 2) (3 * p + 1) _ (trios_set b.bags (3 * p + 2) set.empty c.self.invariant)))

pub returns-clause-taken : goal.returns-clause-taken
returns-clause-taken c =
    let b = c.self.inside.chains in let v = c.self.view_is in
    let l : c.args.place < length (trios_of b.bags) = subst (λ (s : BagsOfPlaces). c.args.place < length s.trios) (sym v) c.requires in
    c.clear-taken.ensures.taken ∙ (taken_trios b.bags c.args.place (3 * c.args.place + 2) refl l
    ∙ ap (λ (s : BagsOfPlaces). set.len (trio_at s.trios c.args.place).next) v)

pub returns-clause-moved : goal.returns-clause-moved
returns-clause-moved c =
    let b = c.self.inside.chains in let v = c.self.view_is in
    let l : c.args.place < length (trios_of b.bags) = subst (λ (s : BagsOfPlaces). c.args.place < length s.trios) (sym v) c.requires in
    let p = c.args.place in
    let x = c.clear-taken.new.self in let y = c.join.new.self in let z = c.join-2.new.self in
    let cleared : x ≡ record { items = b.items; bags = slice_set b.bags (3 * p + 2) set.empty } = c.clear-taken.ensures.cleared in
    let first : y ≡ record { items = x.items; bags = moved (3 * p + 2) (3 * p + 1) x.bags } = c.join.ensures in
    let second : z ≡ record { items = y.items; bags = moved (3 * p + 1) (3 * p + 0) y.bags } = c.join-2.ensures in
    let all : z ≡ record { items = b.items; bags = turned (3 * p + 0) (3 * p + 1) (3 * p + 2) b.bags } =
    second ∙ (ap (λ (s : ChainedBags). record { items = s.items; bags = moved (3 * p + 1) (3 * p + 0) s.bags }) first
    ∙ ap (λ (s : ChainedBags). record { items = s.items; bags = moved (3 * p + 1) (3 * p + 0) (moved (3 * p + 2) (3 * p + 1) s.bags) }) cleared) in
    ap (λ (s : ChainedBags). record { items = s.items; trios = trios_of s.bags }) all
    ∙ (ap (λ (ts : List ThreeBags). record { items = b.items; trios = ts })
    (turned_trios b.bags p (3 * p + 0) (3 * p + 1) (3 * p + 2) (omega arith) refl refl l)
    ∙ ap (λ (s : BagsOfPlaces). record { items = s.items; trios = slice_set s.trios p (rotated (trio_at s.trios p)) }) v)
