use Rattle.std.proofs.Common.{List, length, ap, ◌∙◌, slice_set}
use Rattle.std.proofs.lemmas.List.{get_or_read}
use Rattle.std.specs.FinSet as set
use Rattle.sdd_machine.specs.declared.machine.chains.Chain.{Chain}
use Rattle.sdd_machine.specs.Table.{Items}
use Rattle.sdd_machine.specs.Chains.{ChainedBags, no_chain, bag_at}
use Rattle.sdd_machine.proofs.SharedLinks.{within_chains, emptied, bags-set, len-bag}
use Rattle.sdd_machine.proofs.machine.chains.Chains.clear.Goals as goal

pub invariant_of-self : goal.invariant_of-self
invariant_of-self c =
    let ls = c.self.inside.links.items in let cs = c.self.inside.chains.items in let v = c.self.view_is in
    let l = within_chains ls cs c.args.self.now c.args.bag v c.requires in
    emptied ls cs c.args.bag c.self.invariant l

pub returns-clause-taken : goal.returns-clause-taken
returns-clause-taken c =
    let ls = c.self.inside.links.items in let cs = c.self.inside.chains.items in let v = c.self.view_is in
    let l = within_chains ls cs c.args.self.now c.args.bag v c.requires in
    ap (λ (a : Chain). a.len) (get_or_read cs c.args.bag c.index.result.now l c.index.ensures no_chain)
    ∙ (len-bag ls cs c.args.bag c.self.invariant ∙ ap (λ (b : ChainedBags). set.len (bag_at b.bags c.args.bag)) v)

pub returns-clause-cleared : goal.returns-clause-cleared
returns-clause-cleared c =
    let ls = c.self.inside.links.items in let cs = c.self.inside.chains.items in let v = c.self.view_is in
    ap (λ (bs : List Items). record { items = length ls; bags = bs }) (bags-set ls cs c.args.bag no_chain)
    ∙ ap (λ (b : ChainedBags). record { items = b.items; bags = slice_set b.bags c.args.bag set.empty }) v
