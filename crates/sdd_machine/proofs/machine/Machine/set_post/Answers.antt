use Rattle.std.proofs.Common.{◌<◌, length, refl, rules}
use Rattle.sdd_machine.specs.Table.{posted}
use Rattle.sdd_machine.proofs.Views.{within_seen, with_post, fits_written}
use Rattle.sdd_machine.proofs.machine.Machine.set_post.Goals as goal

pub index_mut-requires : goal.index_mut-requires
index_mut-requires c =
    let count = c.self.inside.count in let all_posts = c.self.inside.posts.items in let all_bags = c.self.inside.bags.trios in
    let all_retired = c.self.inside.retired.items in let scan = c.self.inside.scan in let place = c.args.place in
    let h : place < length all_posts =
    within_seen c.args.self.now count all_posts all_bags all_retired scan c.self.view_is c.self.invariant.same place c.requires.place in
    search (rules, h)

pub returns : goal.returns
returns c =
    let count = c.self.inside.count in let all_posts = c.self.inside.posts.items in let all_bags = c.self.inside.bags.trios in
    let all_retired = c.self.inside.retired.items in let scan = c.self.inside.scan in
    with_post c.args.self.now count all_posts all_bags all_retired scan c.args.place
    (record { phase = c.args.phase; found = c.args.found }) (posted c.args.phase c.args.found) c.self.view_is c.self.invariant.same refl

pub invariant_of-self : goal.invariant_of-self
invariant_of-self c =
    let count = c.self.inside.count in let all_posts = c.self.inside.posts.items in let all_bags = c.self.inside.bags.trios in
    let all_retired = c.self.inside.retired.items in let scan = c.self.inside.scan in let view = c.self.view_is in let now = c.args.self.now in
    let place = c.args.place in
    let h : place < length all_posts =
    within_seen now count all_posts all_bags all_retired scan view c.self.invariant.same place c.requires.place in
    fits_written now count all_posts c.self.inside.bags all_retired scan place
    (record { phase = c.args.phase; found = c.args.found }) view c.self.invariant c.requires.other h c.requires.busy
