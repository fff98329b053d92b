use Rattle.std.proofs.Common.{◌≡◌, ◌<◌, true, length, refl, sym, ap, ◌∙◌, get_or, rules}
use Rattle.sdd_machine.specs.declared.machine.places.Phase.TheVariants.{Closed}
use Rattle.sdd_machine.specs.Bags.{ThreeBags, no_items}
use Rattle.sdd_machine.specs.Table.{Place, is_free, is_open, registered}
use Rattle.sdd_machine.specs.Views.{free_post, place_of}
use Rattle.sdd_machine.proofs.Places.{free_is}
use Rattle.sdd_machine.proofs.Views.{at_seen, within_seen, with_post, fits_written}
use Rattle.sdd_machine.proofs.machine.Machine.register.Goals as goal

pub index_mut-requires : goal.index_mut-requires
index_mut-requires c =
    let count = c.self.inside.count in let all_posts = c.self.inside.posts.items in let all_bags = c.self.inside.bags.trios in
    let all_retired = c.self.inside.retired.items in let scan = c.self.inside.scan in let place = c.args.place in
    let h : place < length all_posts =
    within_seen c.args.self.now count all_posts all_bags all_retired scan c.self.view_is c.self.invariant.same place c.requires.place in
    search (rules, h)

pub invariant_of-self : goal.invariant_of-self
invariant_of-self c =
    let count = c.self.inside.count in let all_posts = c.self.inside.posts.items in let all_bags = c.self.inside.bags.trios in
    let all_retired = c.self.inside.retired.items in let scan = c.self.inside.scan in let view = c.self.view_is in let now = c.args.self.now in
    let place = c.args.place in
    let h : place < length all_posts =
    within_seen now count all_posts all_bags all_retired scan view c.self.invariant.same place c.requires.place in
    fits_written now count all_posts c.self.inside.bags all_retired scan place (record { phase = Closed; found = 0 }) view c.self.invariant
    (λ _. ap is_open (free_is _ c.requires.free)) h refl

pub returns : goal.returns
returns c =
    let count = c.self.inside.count in let all_posts = c.self.inside.posts.items in let all_bags = c.self.inside.bags.trios in
    let all_retired = c.self.inside.retired.items in let scan = c.self.inside.scan in let view = c.self.view_is in
    let same_length = c.self.invariant.same in let now = c.args.self.now in let place = c.args.place in
    let t = get_or all_bags place no_items in
    let free : is_free (get_or all_posts place free_post).phase ≡ true =
    sym (ap (λ (x : Place). is_free x.phase) (at_seen now count all_posts all_bags all_retired scan view same_length place)) ∙ c.requires.free in
    let empty : t ≡ no_items = c.self.invariant.free place free in
    with_post now count all_posts all_bags all_retired scan place (record { phase = Closed; found = 0 }) registered view same_length
    (ap (λ (u : ThreeBags). place_of (record { phase = Closed; found = 0 }) u) (sym empty))
