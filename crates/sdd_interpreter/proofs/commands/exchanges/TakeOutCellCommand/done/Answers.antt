use Rattle.sdd_space.specs.Owned as owned
use Rattle.sdd_space.specs.Shared as shared
use Rattle.sdd_interpreter.proofs.CellOwners.{sole-out, share-out}
use Rattle.sdd_interpreter.proofs.commands.exchanges.TakeOutCellCommand.done.Goals as goal

pub returns-in-Sole-clause-done : goal.returns-in-Sole-clause-done
returns-in-Sole-clause-done g c =
    let out = c.into_owned.ensures.exact c.requires.exact in
    rw c.in-Sole.is (owned.cell_with c.into_owned.result out.0.0, out.0.1, sole-out _ c.into_owned.result c.into_owned.ensures.owner, out.1)

pub returns-in-Share-clause-done : goal.returns-in-Share-clause-done
returns-in-Share-clause-done g c =
    let out = c.into_shared.ensures.exact c.requires.exact in
    rw c.in-Share.is (shared.cell_with c.into_shared.result out.0.0, out.0.1, share-out _ c.into_shared.result c.into_shared.ensures.owner, out.1)
