use Rattle.std.proofs.Common.{◌<◌, length, refl, sym, ap, subst, ◌∙◌, get_or, arith}
use Rattle.sdd_machine.specs.Table.{Place, rotated}
use Rattle.sdd_machine.specs.Bags.{ThreeBags, BagsOfPlaces, no_items}
use Rattle.sdd_machine.proofs.Views.{at_seen, within_seen, with_trio}
use Rattle.std.specs.FinSet as set
use Rattle.std.proofs.Common.{List}
use Rattle.sdd_machine.specs.Views.{IsMachineState}
use Rattle.sdd_machine.proofs.Views.{fits_rotated, within_bags}
use Rattle.sdd_machine.proofs.Views.{seen}
use Rattle.sdd_machine.specs.Bags as bags
use Rattle.sdd_machine.proofs.machine.Machine.rotate.Goals as goal

pub rotate-requires : goal.rotate-requires
rotate-requires c =
    let count = c.self.inside.count in let all_posts = c.self.inside.posts.items in let all_bags = c.self.inside.bags.trios in
    let all_retired = c.self.inside.retired.items in let scan = c.self.inside.scan in let same_length = c.self.invariant.same in
    let place = c.args.place in
    let h : place < length all_posts =
    within_seen c.args.self.now count all_posts all_bags all_retired scan c.self.view_is same_length place c.requires in
    omega (arith, same_length)

pub returns-clause-taken : goal.returns-clause-taken
returns-clause-taken c =
    let count = c.self.inside.count in let all_posts = c.self.inside.posts.items in let all_bags = c.self.inside.bags.trios in
    let all_retired = c.self.inside.retired.items in let scan = c.self.inside.scan in
    c.rotate.ensures.taken ∙ ap (λ (x : Place). set.len x.next)
    (sym (at_seen c.args.self.now count all_posts all_bags all_retired scan c.self.view_is c.self.invariant.same c.args.place))

pub returns-clause-moved : goal.returns-clause-moved
returns-clause-moved c =
    let count = c.self.inside.count in let all_posts = c.self.inside.posts.items in let all_bags = c.self.inside.bags.trios in
    let all_retired = c.self.inside.retired.items in let scan = c.self.inside.scan in let place = c.args.place in
    let t = get_or all_bags place no_items in
    ap (λ (ts : List ThreeBags). seen count all_posts ts all_retired scan) (ap (λ (b : BagsOfPlaces). b.trios) c.rotate.ensures.moved)
    ∙ with_trio c.args.self.now count all_posts all_bags all_retired scan place (bags.rotated t) rotated c.self.view_is c.self.invariant.same refl

pub invariant_of-self : goal.invariant_of-self
invariant_of-self c =
    let count = c.self.inside.count in let all_posts = c.self.inside.posts.items in let all_bags = c.self.inside.bags.trios in
    let all_retired = c.self.inside.retired.items in let scan = c.self.inside.scan in let place = c.args.place in
    let l : place < length all_bags =
    within_bags c.args.self.now count all_posts all_bags all_retired scan c.self.view_is c.self.invariant.same place c.requires in
    subst (λ (b : BagsOfPlaces). IsMachineState all_posts b all_retired scan) (sym c.rotate.ensures.moved)
    (fits_rotated all_posts c.self.inside.bags all_retired scan place c.self.invariant l)
