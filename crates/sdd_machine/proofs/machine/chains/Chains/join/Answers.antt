use Rattle.std.proofs.Common.{◌≡◌, ℕ, ◌≤◌, ◌++◌, List, length, map, sym, ap, subst, ◌∙◌, get_or, arith, slice_set}
use Rattle.std.proofs.lemmas.List.{get_or_read, with_items_is}
use Rattle.sdd_machine.specs.declared.machine.chains.Chain.{Chain}
use Rattle.sdd_machine.specs.Table.{Items}
use Rattle.sdd_machine.specs.Chains.{ChainedBags, items_of, occ, no_chain, bag_of, moved_into, AreChains}
use Rattle.sdd_machine.proofs.SharedLinks.{within_chains, both_once, joins_of, join_chains, join_bags}
use Rattle.sdd_machine.proofs.machine.chains.Chains.join.Goals as goal

pub joined-requires-clause-once : goal.joined-requires-clause-once
joined-requires-clause-once c =
    let ls = c.self.inside.links.items in let cs = c.self.inside.chains.items in let v = c.self.view_is in
    let from = c.args.from in let to = c.args.to in
    let lt = within_chains ls cs c.args.self.now to v c.requires.to in
    let lf = within_chains ls cs c.args.self.now from v c.requires.from in
    let first = get_or_read cs to c.index-first.result.now lt c.index-first.ensures no_chain in
    let second = get_or_read cs from c.index-second.result.now lf c.index-second.ensures no_chain in
    let first_chain = c.index-first.result.now in let second_chain = c.index-second.result.now in
    λ i. subst (λ (ks : List ℕ). occ i (items_of ks first_chain ++ items_of ks second_chain) ≤ 1) (sym c.as_mut_slice.ensures.value)
    (subst (λ (x : Chain). occ i (items_of ls x ++ items_of ls second_chain) ≤ 1) (sym first)
    (subst (λ (y : Chain). occ i (items_of ls (get_or cs to no_chain) ++ items_of ls y) ≤ 1) (sym second)
    (both_once ls cs to from i c.self.invariant lt lf c.requires.other)))

pub invariant_of-self : goal.invariant_of-self
invariant_of-self c =
    let ls = c.self.inside.links.items in let cs = c.self.inside.chains.items in let v = c.self.view_is in
    let new_links = c.joined.new.links in let chain = c.joined.result in let same = c.as_mut_slice.ensures.value in
    let first_chain = c.index-first.result.now in let second_chain = c.index-second.result.now in let from = c.args.from in
    let to = c.args.to in
    let lt = within_chains ls cs c.args.self.now to v c.requires.to in
    let lf = within_chains ls cs c.args.self.now from v c.requires.from in
    let first = get_or_read cs to first_chain lt c.index-first.ensures no_chain in
    let second = get_or_read cs from second_chain lf c.index-second.ensures no_chain in
    let size : length new_links ≡ length ls = (let a = c.joined.auto.links in let b = ap length same in omega (arith, a, b)) in
    let fits : length new_links ≡ c.self.inside.links.len = size ∙ sym c.self.inside.links.ok.0 in
    let j = joins_of ls new_links c.as_mut_slice.result.now cs to from first_chain second_chain chain c.self.invariant lt lf c.requires.other
    same first second size c.joined.ensures.items c.joined.ensures.chain c.joined.ensures.others in
    subst (λ (ks : List ℕ). AreChains ks (slice_set (slice_set cs from no_chain) to chain)) (sym (with_items_is c.self.inside.links new_links fits))
    (join_chains ls new_links cs to from chain j)

pub returns : goal.returns
returns c =
    let ls = c.self.inside.links.items in let cs = c.self.inside.chains.items in let v = c.self.view_is in
    let new_links = c.joined.new.links in let chain = c.joined.result in let same = c.as_mut_slice.ensures.value in
    let first_chain = c.index-first.result.now in let second_chain = c.index-second.result.now in let from = c.args.from in
    let to = c.args.to in
    let lt = within_chains ls cs c.args.self.now to v c.requires.to in
    let lf = within_chains ls cs c.args.self.now from v c.requires.from in
    let first = get_or_read cs to first_chain lt c.index-first.ensures no_chain in
    let second = get_or_read cs from second_chain lf c.index-second.ensures no_chain in
    let size : length new_links ≡ length ls = (let a = c.joined.auto.links in let b = ap length same in omega (arith, a, b)) in
    let fits : length new_links ≡ c.self.inside.links.len = size ∙ sym c.self.inside.links.ok.0 in
    let j = joins_of ls new_links c.as_mut_slice.result.now cs to from first_chain second_chain chain c.self.invariant lt lf c.requires.other
    same first second size c.joined.ensures.items c.joined.ensures.chain c.joined.ensures.others in
    let ds = slice_set (slice_set cs from no_chain) to chain in
    ap (λ (ks : List ℕ). record { items = length ks; bags = map (bag_of ks) ds }) (with_items_is c.self.inside.links new_links fits)
    ∙ (ap (λ (n : ℕ). record { items = n; bags = map (bag_of new_links) ds }) size
    ∙ (ap (λ (bs : List Items). record { items = length ls; bags = bs }) (join_bags ls new_links cs to from chain j)
    ∙ ap (λ (b : ChainedBags). record { items = b.items; bags = moved_into to from b.bags }) v))
