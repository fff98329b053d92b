use Rattle.std.proofs.Common.{◌≡◌, true, ◌<◌, List, length, sym, ap, subst, ◌∙◌, get_or, map}
use Rattle.std.proofs.lemmas.List.{with_items_is, length-map}
use Rattle.sdd_machine.specs.declared.machine.places.PlacePhase.{PlacePhase}
use Rattle.sdd_machine.specs.Table.{Place}
use Rattle.sdd_machine.specs.Bags.{ThreeBags, BagsOfPlaces}
use Rattle.sdd_machine.specs.Views.{free_post, IsMachineState, freed_post, gathered}
use Rattle.sdd_machine.proofs.Views.{seen, at_seen, with_adopted, adopter_open, open_in_range}
use Rattle.sdd_machine.specs.Table.{State, adopts, is_open}
use Rattle.sdd_machine.proofs.Gather.{fits_gathered}
use Rattle.sdd_machine.proofs.machine.Machine.adopt.Goals as goal

pub returns : goal.returns
returns c =
    let count = c.self.inside.count in let xs = c.self.inside.posts.items in let all_bags = c.self.inside.bags.trios in
    let all_retired = c.self.inside.retired.items in let scan = c.self.inside.scan in let view = c.self.view_is in
    let same_length = c.self.invariant.same in let now = c.args.self.now in let place = c.args.place in
    let opened : is_open (get_or xs place free_post).phase ≡ true =
    adopter_open xs scan place c.self.invariant.held (ap (λ (s : State). adopts place s.scan) view ∙ c.requires) in
    let freed_all : c.free_ended.new.posts ≡ map freed_post xs =
    c.free_ended.ensures ∙ ap (λ (ys : List PlacePhase). map freed_post ys) c.as_mut_slice.ensures.value in
    let size : length c.free_ended.new.posts ≡ c.self.inside.posts.len =
    ap (λ (ys : List PlacePhase). length ys) freed_all ∙ (length-map xs freed_post ∙ sym c.self.inside.posts.ok.0) in
    let posts = with_items_is c.self.inside.posts c.free_ended.new.posts size ∙ freed_all in
    let moved : c.gather.new.bags.trios ≡ gathered place xs all_bags =
    ap (λ (b : BagsOfPlaces). b.trios) c.gather.ensures ∙ ap (λ (ys : List PlacePhase). gathered place ys all_bags) c.as_slice.ensures.value in
    let at_place = ap (λ (x : Place). is_open x.phase) (at_seen now count xs all_bags all_retired scan view same_length place) in
    ap (λ (ys : List PlacePhase). seen count ys c.gather.new.bags.trios all_retired scan) posts
    ∙ (ap (λ (ts : List ThreeBags). seen count (map freed_post xs) ts all_retired scan) moved
    ∙ with_adopted now count xs all_bags all_retired scan place view same_length (at_place ∙ opened))

pub gather-requires-clause-place : goal.gather-requires-clause-place
gather-requires-clause-place c =
    let xs = c.self.inside.posts.items in
    let opened : is_open (get_or xs c.args.place free_post).phase ≡ true =
    adopter_open xs c.self.inside.scan c.args.place c.self.invariant.held (ap (λ (s : State). adopts c.args.place s.scan) c.self.view_is ∙ c.requires) in
    subst (λ (ys : List PlacePhase). c.args.place < length ys) (sym c.as_slice.ensures.value) (open_in_range xs c.args.place opened)

pub gather-requires-clause-open : goal.gather-requires-clause-open
gather-requires-clause-open c =
    let xs = c.self.inside.posts.items in
    let opened : is_open (get_or xs c.args.place free_post).phase ≡ true =
    adopter_open xs c.self.inside.scan c.args.place c.self.invariant.held (ap (λ (s : State). adopts c.args.place s.scan) c.self.view_is ∙ c.requires) in
    ap (λ (ys : List PlacePhase). is_open (get_or ys c.args.place free_post).phase) c.as_slice.ensures.value ∙ opened

pub invariant_of-self : goal.invariant_of-self
invariant_of-self c =
    let xs = c.self.inside.posts.items in let all_bags = c.self.inside.bags.trios in let all_retired = c.self.inside.retired.items in
    let scan = c.self.inside.scan in let place = c.args.place in
    let opened : is_open (get_or xs place free_post).phase ≡ true =
    adopter_open xs scan place c.self.invariant.held (ap (λ (s : State). adopts place s.scan) c.self.view_is ∙ c.requires) in
    let freed_all : c.free_ended.new.posts ≡ map freed_post xs =
    c.free_ended.ensures ∙ ap (λ (ys : List PlacePhase). map freed_post ys) c.as_mut_slice.ensures.value in
    let size : length c.free_ended.new.posts ≡ c.self.inside.posts.len =
    ap (λ (ys : List PlacePhase). length ys) freed_all ∙ (length-map xs freed_post ∙ sym c.self.inside.posts.ok.0) in
    let posts = with_items_is c.self.inside.posts c.free_ended.new.posts size ∙ freed_all in
    let moved : c.gather.new.bags ≡ record c.self.inside.bags { trios = gathered place xs all_bags } =
    c.gather.ensures ∙ ap (λ (ys : List PlacePhase). record c.self.inside.bags { trios = gathered place ys all_bags }) c.as_slice.ensures.value in
    let h : place < length xs = open_in_range xs place opened in
    let whole = fits_gathered place xs c.self.inside.bags all_retired scan c.self.invariant h opened in
    let e : IsMachineState (map freed_post xs) c.gather.new.bags all_retired scan =
    subst (λ (b : BagsOfPlaces). IsMachineState (map freed_post xs) b all_retired scan) (sym moved) whole in
    subst (λ (ys : List PlacePhase). IsMachineState ys c.gather.new.bags all_retired scan) (sym posts) e
