use Rattle.std.proofs.Common.{rules, ap, ◌∙◌, sym, subst}
use Rattle.sdd_space.specs.CallerId.{CallerId}
use Rattle.sdd_bag.specs.There.{MayCall}
use Rattle.sdd_world_tests.proofs.bags.counted.Factory.fill.Goals as goal

pub pushed-requires : goal.pushed-requires
pushed-requires g c =
    let inv = c.loop.invariant in (
      search rules,
      (
        subst (λ (s : CallerId). MayCall s) (sym inv.caller) c.requires.may,
        (inv.there, c.requires.reader ∙ ap (λ (s : CallerId). s.reader) (sym inv.caller)),
      ),
    )
