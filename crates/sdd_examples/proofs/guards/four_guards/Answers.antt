use Rattle.sdd_world.specs.Place.{index_of}
use Rattle.sdd_examples.proofs.guards.four_guards.Goals as goal

pub accelerated_guard-requires-4-clause-quiet : goal.accelerated_guard-requires-4-clause-quiet
accelerated_guard-requires-4-clause-quiet g c = rw c.accelerated_guard-3.ensures.passed c.accelerated_guard-3.ensures.passes.quiet

pub returns-clause-quiet : goal.returns-clause-quiet
returns-clause-quiet g c = rw c.accelerated_guard-4.ensures.passed c.accelerated_guard-4.ensures.passes.quiet

pub returns-clause-passed : goal.returns-clause-passed
returns-clause-passed g c =
    rw (c.accelerated_guard-4.ensures.passed, c.accelerated_guard-3.ensures.passed, c.accelerated_guard-2.ensures.passed, c.accelerated_guard.ensures.passed)

pub returns-clause-reclaimed : goal.returns-clause-reclaimed
returns-clause-reclaimed g c =
    rw (c.accelerated_guard-4.ensures.passed, c.accelerated_guard-3.ensures.passed, c.accelerated_guard-2.ensures.passed, c.accelerated_guard.ensures.passed)
    (λ what seen h. c.four_guards_reclaim.ensures (index_of c.args.place.now) what seen c.requires.place c.requires.quiet c.requires.early h)
