use Rattle.sdd_script.proofs.Words.{arith}
use Rattle.sdd_script.proofs.ScheduleLines.{too_great}
use Rattle.sdd_script.proofs.schedules.line.below.Goals as goal

pub returns-else-number-from : goal.returns-else-number-from
returns-else-number-from c =
    too_great c.args.limit c.in_ok-number.number c.args.word.now (omega arith) c.in_ok-number.ensures (omega (arith, c.from.ensures))
