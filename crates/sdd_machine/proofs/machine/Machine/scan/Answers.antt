use Rattle.sdd_machine.proofs.Views.{held_seen}
use Rattle.sdd_machine.proofs.machine.Machine.scan.Goals as goal

pub returns-clause-held : goal.returns-clause-held
returns-clause-held c =
    let count = c.self.inside.count in let all_posts = c.self.inside.posts.items in let all_bags = c.self.inside.bags.trios in
    let all_retired = c.self.inside.retired.items in let scan = c.self.inside.scan in
    held_seen c.args.self.now count all_posts all_bags all_retired scan scan c.self.view_is c.self.invariant.same c.self.invariant.held
