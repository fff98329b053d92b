use Rattle.std.proofs.Common.{◌∙◌, ap}
use Rattle.sdd_participants.specs.Tally.{one_more}
use Rattle.sdd_participants.proofs.CountedTally.{counted}
use Rattle.sdd_participants.proofs.counter.Counter.count.Goals as goal

-- src/counter.rt:39:5
pub returns-else-self-eq0 : goal.returns-else-self-eq0
returns-else-self-eq0 c =
    let n = c.self.inside in counted n.low n.high c.self.invariant.0 c.self.invariant.1 c.if-self-eq0.false ∙ ap one_more c.self.view_is
