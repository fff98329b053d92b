use Rattle.sdd_machine.proofs.Views.{fits_scanned}
use Rattle.sdd_machine.proofs.machine.Machine.set_scan.Goals as goal

pub invariant_of-self : goal.invariant_of-self
invariant_of-self c =
    let count = c.self.inside.count in let all_posts = c.self.inside.posts.items in let all_retired = c.self.inside.retired.items in
    let scan = c.self.inside.scan in
    fits_scanned c.args.self.now count all_posts c.self.inside.bags all_retired scan c.args.scan c.self.view_is c.self.invariant c.requires
