use Rattle.std.proofs.Common.{ap, ◌∙◌, sym, subst}
use Rattle.sdd_space.specs.CallerId.{CallerId}
use Rattle.sdd_bag.specs.There.{MayCall}
use Rattle.sdd_bench.proofs.bags.fill.Goals as goal

pub push_into-requires-clause-may : goal.push_into-requires-clause-may
push_into-requires-clause-may g c = subst (λ (s : CallerId). MayCall s) (sym c.loop-number.invariant.caller) c.requires.may

pub push_into-requires-clause-reader : goal.push_into-requires-clause-reader
push_into-requires-clause-reader g c = c.requires.reader ∙ ap (λ (s : CallerId). s.reader) (sym c.loop-number.invariant.caller)
