use Rattle.std.proofs.Common.{ap, ◌∙◌, sym, subst}
use Rattle.sdd_space.specs.CallerId.{CallerId}
use Rattle.sdd_bag.specs.There.{MayCall}
use Rattle.sdd_bench.proofs.bags.bag_turns.Goals as goal

pub through_bag-requires-clause-may : goal.through_bag-requires-clause-may
through_bag-requires-clause-may g c = subst (λ (s : CallerId). MayCall s) (sym c.loop-turn.invariant.caller) c.requires.may

pub through_bag-requires-clause-reader : goal.through_bag-requires-clause-reader
through_bag-requires-clause-reader g c = c.requires.reader ∙ ap (λ (s : CallerId). s.reader) (sym c.loop-turn.invariant.caller)
