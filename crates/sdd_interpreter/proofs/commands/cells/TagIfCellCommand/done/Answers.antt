use Rattle.sdd_space.specs.RawPtr as raw
use Rattle.sdd_interpreter.proofs.commands.cells.TagIfCellCommand.done.Goals as goal

pub returns-in-Ok-clause-done : goal.returns-in-Ok-clause-done
returns-in-Ok-clause-done g c =
    let exact = c.in-Ok.ensures.exact c.requires.exact in
    rw c.in-Sole.is (raw.cell_seen exact.1.0, exact.1.1, exact.1.2.1.1.0, exact.1.3)

pub returns-in-Ok-update_tag_if-clause-done : goal.returns-in-Ok-update_tag_if-clause-done
returns-in-Ok-update_tag_if-clause-done g c =
    let exact = c.in-Ok-update_tag_if.ensures.exact c.requires.exact in
    rw c.in-Share.is (raw.cell_seen exact.1.0, exact.1.1, exact.1.2.1.1.0, exact.1.3)
