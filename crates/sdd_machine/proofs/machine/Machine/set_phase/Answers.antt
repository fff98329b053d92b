use Rattle.std.proofs.Common.{◌≡◌, ◌<◌, length, sym, ap, get_or, rules}
use Rattle.std.proofs.lemmas.List.{get_or_read}
use Rattle.sdd_machine.specs.declared.machine.places.PlacePhase.{PlacePhase}
use Rattle.sdd_machine.specs.Table.{phased}
use Rattle.sdd_machine.specs.Bags.{no_items}
use Rattle.sdd_machine.specs.Views.{place_of, free_post}
use Rattle.sdd_machine.proofs.Views.{within_seen, with_post, fits_written}
use Rattle.sdd_machine.proofs.machine.Machine.set_phase.Goals as goal

pub index_mut-requires : goal.index_mut-requires
index_mut-requires c =
    let count = c.self.inside.count in let all_posts = c.self.inside.posts.items in let all_bags = c.self.inside.bags.trios in
    let all_retired = c.self.inside.retired.items in let scan = c.self.inside.scan in let place = c.args.place in
    let h : place < length all_posts =
    within_seen c.args.self.now count all_posts all_bags all_retired scan c.self.view_is c.self.invariant.same place c.requires.place in
    search (rules, h)

pub returns : goal.returns
returns c =
    let count = c.self.inside.count in let all_posts = c.self.inside.posts.items in let all_bags = c.self.inside.bags.trios in
    let all_retired = c.self.inside.retired.items in let scan = c.self.inside.scan in let view = c.self.view_is in
    let same_length = c.self.invariant.same in let now = c.args.self.now in let place = c.args.place in
    let h : place < length all_posts =
    within_seen now count all_posts all_bags all_retired scan view same_length place c.requires.place in
    let is : c.index_mut.result.now ≡ get_or all_posts place free_post =
    get_or_read all_posts place c.index_mut.result.now h c.index_mut.ensures.value free_post in
    with_post now count all_posts all_bags all_retired scan place
    (record { phase = c.args.phase; found = c.index_mut.result.now.found }) (phased c.args.phase) view same_length
    (ap (λ (x : PlacePhase). place_of (record { phase = c.args.phase; found = x.found }) (get_or all_bags place no_items)) (sym is))

pub invariant_of-self : goal.invariant_of-self
invariant_of-self c =
    let count = c.self.inside.count in let all_posts = c.self.inside.posts.items in let all_bags = c.self.inside.bags.trios in
    let all_retired = c.self.inside.retired.items in let scan = c.self.inside.scan in let view = c.self.view_is in let now = c.args.self.now in
    let place = c.args.place in
    let h : place < length all_posts =
    within_seen now count all_posts all_bags all_retired scan view c.self.invariant.same place c.requires.place in
    fits_written now count all_posts c.self.inside.bags all_retired scan place
    (record { phase = c.args.phase; found = c.index_mut.result.now.found }) view c.self.invariant c.requires.other h c.requires.busy
