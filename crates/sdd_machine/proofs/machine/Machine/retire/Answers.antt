use Rattle.std.proofs.Common.{◌≡◌, ◌<◌, List, true, false, length, sym, ap, subst, ◌∙◌, get_or, set, arith}
use Rattle.std.proofs.lemmas.Bool.{true≢false, false_from_ne_true}
use Rattle.sdd_machine.specs.Table.{State, Place, is_free}
use Rattle.sdd_machine.specs.Bags.{ThreeBags, BagsOfPlaces, trio_at, has}
use Rattle.sdd_machine.specs.Views.{IsMachineState, free_post}
use Rattle.sdd_machine.proofs.Views.{seen, at_seen, within_bags, with_put, fits_put}
use Rattle.sdd_machine.proofs.machine.Machine.retire.Goals as goal

pub put-requires-clause-place : goal.put-requires-clause-place
put-requires-clause-place c =
    let count = c.self.inside.count in let all_posts = c.self.inside.posts.items in let all_bags = c.self.inside.bags.trios in
    let all_retired = c.self.inside.retired.items in let scan = c.self.inside.scan in
    within_bags c.args.self.now count all_posts all_bags all_retired scan c.self.view_is c.self.invariant.same c.args.place c.requires.place

pub put-requires-clause-item : goal.put-requires-clause-item
put-requires-clause-item c =
    let m : c.args.item < length c.self.inside.retired.items = subst (λ (s : State). c.args.item < length s.retired) (sym c.self.view_is) c.requires.item in
    omega (arith, c.self.invariant.room)

pub put-requires-clause-nowhere : goal.put-requires-clause-nowhere
put-requires-clause-nowhere c =
    let fresh : get_or c.self.inside.retired.items c.args.item false ≡ false =
    ap (λ (s : State). get_or s.retired c.args.item false) c.self.view_is ∙ c.requires.fresh in
    λ q. false_from_ne_true (has (trio_at c.self.inside.bags.trios q) c.args.item) (λ h. true≢false (sym (c.self.invariant.waits q c.args.item h) ∙ fresh))

pub invariant_of-self : goal.invariant_of-self
invariant_of-self c =
    let count = c.self.inside.count in let all_posts = c.self.inside.posts.items in let all_bags = c.self.inside.bags.trios in
    let all_retired = c.self.inside.retired.items in let scan = c.self.inside.scan in let view = c.self.view_is in
    let same_length = c.self.invariant.same in let now = c.args.self.now in let place = c.args.place in
    let l = within_bags now count all_posts all_bags all_retired scan view same_length place c.requires.place in
    let m : c.args.item < length all_retired = subst (λ (s : State). c.args.item < length s.retired) (sym view) c.requires.item in
    let busy : is_free (get_or all_posts place free_post).phase ≡ false =
    sym (ap (λ (x : Place). is_free x.phase) (at_seen now count all_posts all_bags all_retired scan view same_length place)) ∙ c.requires.busy in
    subst (λ (b : BagsOfPlaces). IsMachineState all_posts b (set all_retired c.args.item true) scan) (sym c.put.ensures)
    (fits_put all_posts c.self.inside.bags all_retired scan place c.args.item c.self.invariant l busy m)

pub returns : goal.returns
returns c =
    let count = c.self.inside.count in let all_posts = c.self.inside.posts.items in let all_bags = c.self.inside.bags.trios in
    let all_retired = c.self.inside.retired.items in let scan = c.self.inside.scan in
    ap (λ (ts : List ThreeBags). seen count all_posts ts (set all_retired c.args.item true) scan) (ap (λ (b : BagsOfPlaces). b.trios) c.put.ensures)
    ∙ with_put c.args.self.now count all_posts all_bags all_retired scan c.args.place c.args.item c.self.view_is c.self.invariant.same
