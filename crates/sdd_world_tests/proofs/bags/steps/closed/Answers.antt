use Rattle.std.proofs.Common.{rules}
use Rattle.sdd_lists.specs.Stack.{cell_in}
use Rattle.sdd_bag.specs.Bag.{overflow_of, values_of}
use Rattle.sdd_bag.proofs.EmptyHoldings.{nothing-beside, nothing-of}
use Rattle.sdd_world_tests.proofs.bags.steps.closed.Goals as goal

pub close-requires : goal.close-requires
close-requires g c =
    let holds = g.T.Item.holds in let bag = c.args.bag in let w = g.S.Caller.world c.args.s.now in (
      search rules,
      (
        c.requires.may.seated,
        (
          c.requires.there.home,
          (
            c.requires.reader,
            (
              c.requires.may.exact,
              (
                c.requires.there.lies,
                (
                  nothing-of holds c.requires.nothing (g.S.Caller.caller c.args.s.now).home (values_of bag),
                  λ es lies. nothing-beside holds c.requires.nothing w (cell_in bag.overflow.stack) es (overflow_of bag),
                ),
              ),
            ),
          ),
        ),
      ),
    )
