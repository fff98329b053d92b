use Rattle.std.proofs.Common.{sym, ap, ◌∙◌}
use Rattle.sdd_machine.specs.declared.machine.places.PlacePhase.{PlacePhase}
use Rattle.sdd_machine.specs.Table.{Place}
use Rattle.sdd_machine.proofs.Views.{at_seen, read_post, no_post}
use Rattle.sdd_machine.proofs.machine.Machine.found.Goals as goal

pub returns-in-Some : goal.returns-in-Some
returns-in-Some c =
    let count = c.self.inside.count in let all_posts = c.self.inside.posts.items in let all_bags = c.self.inside.bags.trios in
    let all_retired = c.self.inside.retired.items in let scan = c.self.inside.scan in let place = c.args.place in
    let at = at_seen c.args.self.now count all_posts all_bags all_retired scan c.self.view_is c.self.invariant.same place in
    let is = read_post all_posts c.deref.result.now place c.in-Some.post.now c.deref.ensures.value c.in-Some.ensures.lookup.0 c.in-Some.ensures.lookup.1 in
    ap (λ (x : PlacePhase). x.found) is ∙ sym (ap (λ (x : Place). x.found) at)

pub returns-in-None : goal.returns-in-None
returns-in-None c =
    let count = c.self.inside.count in let all_posts = c.self.inside.posts.items in let all_bags = c.self.inside.bags.trios in
    let all_retired = c.self.inside.retired.items in let scan = c.self.inside.scan in let place = c.args.place in
    let at = at_seen c.args.self.now count all_posts all_bags all_retired scan c.self.view_is c.self.invariant.same place in
    let is = no_post all_posts c.deref.result.now place c.deref.ensures.value c.in-None.ensures.lookup.0 in
    ap (λ (x : PlacePhase). x.found) is ∙ sym (ap (λ (x : Place). x.found) at)
