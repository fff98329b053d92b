use Rattle.std.proofs.Common.{◌≡◌, ℕ, ◌++◌, ◌∷◌, List, length, map, sym, ap, subst, ◌∙◌, get_or, arith, slice_set}
use Rattle.std.proofs.lemmas.List.{get_or_read, with_items_is}
use Rattle.std.specs.FinSet as set
use Rattle.sdd_machine.specs.declared.machine.chains.Chain.{Chain}
use Rattle.sdd_machine.specs.Table.{Items}
use Rattle.sdd_machine.specs.Chains.{ChainedBags, items_of, occ, no_chain, all_items, bag_of, bag_at, AreChains}
use Rattle.sdd_machine.proofs.SharedLinks.{within_chains, nowhere, put_once, put_chains, put_bags}
use Rattle.sdd_machine.proofs.machine.chains.Chains.put.Goals as goal

pub joined-requires-clause-once : goal.joined-requires-clause-once
joined-requires-clause-once c =
    let ls = c.self.inside.links.items in let cs = c.self.inside.chains.items in let v = c.self.view_is in
    let old_chain = c.index-chain.result.now in
    let l = within_chains ls cs c.args.self.now c.args.bag v c.requires.bag in
    let k = c.args.bag in let item = c.args.item in
    let second = get_or_read cs k old_chain l c.index-chain.ensures no_chain in
    let none : occ item (all_items ls cs) ≡ 0 = nowhere ls cs item
    (λ j. ap (λ (b : ChainedBags). set.contains (bag_at b.bags j) item) v ∙ c.requires.nowhere j) in
    λ i. put_once ls c.as_mut_slice.result.now cs k item i c.of.result old_chain c.self.invariant none c.as_mut_slice.ensures.value c.of.ensures second

pub invariant_of-self : goal.invariant_of-self
invariant_of-self c =
    let ls = c.self.inside.links.items in let cs = c.self.inside.chains.items in let v = c.self.view_is in
    let new_links = c.joined.new.links in let chain = c.joined.result in let lent = c.as_mut_slice.result.now in
    let same = c.as_mut_slice.ensures.value in let old_chain = c.index-chain.result.now in
    let l = within_chains ls cs c.args.self.now c.args.bag v c.requires.bag in
    let k = c.args.bag in let item = c.args.item in
    let second = get_or_read cs k old_chain l c.index-chain.ensures no_chain in
    let none : occ item (all_items ls cs) ≡ 0 = nowhere ls cs item
    (λ j. ap (λ (b : ChainedBags). set.contains (bag_at b.bags j) item) v ∙ c.requires.nowhere j) in
    let size : length new_links ≡ length ls = (let a = c.joined.auto.links in let b = ap length same in omega (arith, a, b)) in
    let fits : length new_links ≡ c.self.inside.links.len = size ∙ sym c.self.inside.links.ok.0 in
    let items : items_of new_links chain ≡ item ∷ items_of ls (get_or cs k no_chain) =
    c.joined.ensures.items ∙ (ap (λ (a : Chain). items_of lent a ++ items_of lent old_chain) c.of.ensures
    ∙ (ap (λ (ks : List ℕ). item ∷ items_of ks old_chain) same ∙ ap (λ (b : Chain). item ∷ items_of ls b) second)) in
    let others : (i : ℕ) → (i ≡ item → ⊥) → get_or new_links i 0 ≡ get_or ls i 0 =
    λ i ne. c.joined.ensures.others i (λ _ e. ne (e ∙ ap (λ (a : Chain). a.last) c.of.ensures)) ∙ ap (λ (ks : List ℕ). get_or ks i 0) same in
    subst (λ (ks : List ℕ). AreChains ks (slice_set cs k chain)) (sym (with_items_is c.self.inside.links new_links fits))
    (put_chains ls new_links cs k item chain c.self.invariant l size none items c.joined.ensures.chain others)

pub returns : goal.returns
returns c =
    let ls = c.self.inside.links.items in let cs = c.self.inside.chains.items in let v = c.self.view_is in
    let new_links = c.joined.new.links in let chain = c.joined.result in let lent = c.as_mut_slice.result.now in
    let same = c.as_mut_slice.ensures.value in let old_chain = c.index-chain.result.now in
    let l = within_chains ls cs c.args.self.now c.args.bag v c.requires.bag in
    let k = c.args.bag in let item = c.args.item in
    let second = get_or_read cs k old_chain l c.index-chain.ensures no_chain in
    let none : occ item (all_items ls cs) ≡ 0 = nowhere ls cs item
    (λ j. ap (λ (b : ChainedBags). set.contains (bag_at b.bags j) item) v ∙ c.requires.nowhere j) in
    let size : length new_links ≡ length ls = (let a = c.joined.auto.links in let b = ap length same in omega (arith, a, b)) in
    let fits : length new_links ≡ c.self.inside.links.len = size ∙ sym c.self.inside.links.ok.0 in
    let items : items_of new_links chain ≡ item ∷ items_of ls (get_or cs k no_chain) =
    c.joined.ensures.items ∙ (ap (λ (a : Chain). items_of lent a ++ items_of lent old_chain) c.of.ensures
    ∙ (ap (λ (ks : List ℕ). item ∷ items_of ks old_chain) same ∙ ap (λ (b : Chain). item ∷ items_of ls b) second)) in
    let others : (i : ℕ) → (i ≡ item → ⊥) → get_or new_links i 0 ≡ get_or ls i 0 =
    λ i ne. c.joined.ensures.others i (λ _ e. ne (e ∙ ap (λ (a : Chain). a.last) c.of.ensures)) ∙ ap (λ (ks : List ℕ). get_or ks i 0) same in
    let ds = slice_set cs k chain in
    ap (λ (ks : List ℕ). record { items = length ks; bags = map (bag_of ks) ds }) (with_items_is c.self.inside.links new_links fits)
    ∙ (ap (λ (n : ℕ). record { items = n; bags = map (bag_of new_links) ds }) size
    ∙ (ap (λ (bs : List Items). record { items = length ls; bags = bs }) (put_bags ls new_links cs k item chain l none items others)
    ∙ ap (λ (b : ChainedBags). record { items = b.items; bags = slice_set b.bags k (set.insert (bag_at b.bags k) item) }) v))
