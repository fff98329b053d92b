use Rattle.sdd_interpreter.proofs.Words.{refl}
use Rattle.sdd_space.specs.Owned as owned
use Rattle.sdd_space.specs.Shared as shared
use Rattle.sdd_interpreter.proofs.CellOwners.{sole-out, sole-slot, share-out, share-slot}
use Rattle.sdd_interpreter.proofs.commands.exchanges.SwapInCellCommand.done.Goals as goal

pub returns-in-Sole-Sole-clause-done : goal.returns-in-Sole-Sole-clause-done
returns-in-Sole-Sole-clause-done g c =
    let old = c.swap-old in
    let exact = old.ensures.exact c.requires.exact in
    rw (c.in-Sole-Sole.is-0, c.in-Sole-Sole.is-1, ← sole-slot c.in-Sole-Sole.next)
    (owned.cell_with old.result.0 old.result.1, exact.0, refl, sole-out _ old.result.0 old.ensures.owner, exact.1)

pub returns-in-Share-Share-clause-done : goal.returns-in-Share-Share-clause-done
returns-in-Share-Share-clause-done g c =
    let old = c.swap-old-in-Share-Share in
    let exact = old.ensures.exact c.requires.exact in
    rw (c.in-Share-Share.is-0, c.in-Share-Share.is-1, ← share-slot c.in-Share-Share.next)
    (shared.cell_with old.result.0 old.result.1, exact.0, refl, share-out _ old.result.0 old.ensures.owner, exact.1)
