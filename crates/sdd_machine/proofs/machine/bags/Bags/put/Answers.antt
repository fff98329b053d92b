use Rattle.std.proofs.Common.{◌+◌, ◌*◌, ◌<◌, List, length, sym, ap, subst, ◌∙◌, arith, slice_set}
use Rattle.std.specs.FinSet as set
use Rattle.sdd_machine.specs.Bags.{ThreeBags, BagsOfPlaces, trio_at, has, put, trios_of, AreTrios}
use Rattle.sdd_machine.specs.Chains.{ChainedBags, bag_at}
use Rattle.sdd_machine.proofs.ThreeBags.{put_trios, trios_set, in_no_bag}
use Rattle.sdd_machine.proofs.machine.bags.Bags.put.Goals as goal

pub put-requires-clause-nowhere : goal.put-requires-clause-nowhere
put-requires-clause-nowhere c =
    let b = c.self.inside.chains in let v = c.self.view_is in
    in_no_bag b.bags c.args.item c.self.invariant (λ q. ap (λ (s : BagsOfPlaces). has (trio_at s.trios q) c.args.item) v ∙ c.requires.nowhere q)

pub invariant_of-self : goal.invariant_of-self
invariant_of-self c =
    let b = c.self.inside.chains in let v = c.self.view_is in
    let k = 3 * c.args.place + 0 in
    subst AreTrios (sym (ap (λ (s : ChainedBags). s.bags) c.put.ensures)) (trios_set b.bags k (set.insert (bag_at b.bags k) c.args.item) c.self.invariant)

pub returns : goal.returns
returns c =
    let b = c.self.inside.chains in let v = c.self.view_is in
    let l : c.args.place < length (trios_of b.bags) = subst (λ (s : BagsOfPlaces). c.args.place < length s.trios) (sym v) c.requires.place in
    ap (λ (s : ChainedBags). record { items = s.items; trios = trios_of s.bags }) c.put.ensures
    ∙ (ap (λ (ts : List ThreeBags). record { items = b.items; trios = ts }) (put_trios b.bags c.args.place (3 * c.args.place + 0) c.args.item (omega arith) l)
    ∙ ap (λ (s : BagsOfPlaces). record { items = s.items; trios = slice_set s.trios c.args.place (put c.args.item (trio_at s.trios c.args.place)) }) v)
