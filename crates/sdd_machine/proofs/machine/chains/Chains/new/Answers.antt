use Rattle.std.proofs.Common.{ℕ, ◌<◌, ◌^◌, List, length, map, replicate, sym, ap, subst, ◌∙◌, arith}
use Rattle.std.proofs.lemmas.List.{length-replicate}
use Rattle.std.specs.FinSet as set
use Rattle.sdd_machine.specs.declared.machine.chains.Chain.{Chain}
use Rattle.sdd_machine.specs.Table.{Items}
use Rattle.sdd_machine.specs.Chains.{bag_of, AreChains}
use Rattle.sdd_machine.proofs.SharedLinks.{new_chains, new_bags}
use Rattle.sdd_machine.proofs.machine.chains.Chains.new.Goals as goal

pub invariant_of-result : goal.invariant_of-result
invariant_of-result c =
    let links = c.in_ok-vec.ensures.items_if_clones_equal (λ y e. e) in
    let chains = c.in_ok-vec-2.ensures.items_if_clones_equal (λ y e. e) in
    let small : length c.in_ok-vec.field-0.items < 2 ^ 32 =
    (let a = ap length links in let b = length-replicate {A = ℕ} c.args.items 0 in omega (arith, a, b)) in
    subst (λ (cs : List Chain). AreChains c.in_ok-vec.field-0.items cs) (sym chains) (new_chains c.args.bags c.in_ok-vec.field-0.items small)

pub returns : goal.returns
returns c =
    let links = c.in_ok-vec.ensures.items_if_clones_equal (λ y e. e) in
    let chains = c.in_ok-vec-2.ensures.items_if_clones_equal (λ y e. e) in
    let ls = c.in_ok-vec.field-0.items in
    ap (λ (cs : List Chain). record { items = length ls; bags = map (bag_of ls) cs }) chains
    ∙ (ap (λ (bs : List Items). record { items = length ls; bags = bs }) (new_bags c.args.bags ls)
    ∙ ap (λ (n : ℕ). record { items = n; bags = replicate c.args.bags set.empty }) (ap length links ∙ length-replicate {A = ℕ} c.args.items 0))
