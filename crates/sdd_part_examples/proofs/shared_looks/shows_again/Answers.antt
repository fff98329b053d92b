use Rattle.sdd_part_examples.proofs.shared_looks.shows_again.Goals as goal
use Rattle.sdd_shared_values.proofs.CarriedChanges.{shows-again, same-look}

-- src/example.rt:33:5
pub look-second-requires-clause-fraction : goal.look-second-requires-clause-fraction
look-second-requires-clause-fraction g c = shows-again c.args.values.now.gamma c.args.at c.args.section.now.lifetime c.args.seat.now.me.1 c.look-first.new.seat.me.1
    c.requires.fraction c.requires.free c.look-first.ensures.lent

-- src/example.rt:34:5
pub returns-clause-same : goal.returns-clause-same
returns-clause-same g c = same-look g.row.T c.args.values.now.gamma c.args.at c.args.section.now.lifetime c.look-first.result.now c.look-second.result.now
    c.args.seat.now.me.1 c.look-first.new.seat.me.1 c.requires.single c.look-first.ensures.lent c.look-first.ensures.value c.look-second.ensures.value
