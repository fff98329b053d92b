use Rattle.sdd_interpreter.proofs.Words.{rules, ◌≡◌, held_in, entry_at, cell_number}
use Rattle.sdd_interpreter.proofs.CellLooks.{as-before}
use Rattle.sdd_interpreter.proofs.commands.cells.PeekCellCellCommand.done.Goals as goal

pub returns-in-None-clause-done : goal.returns-in-None-clause-done
returns-in-None-clause-done g c =
    let first = c.swap-owner.ensures.exact c.requires.exact in
    let second = c.swap-rest.ensures.exact (rw c.swap-owner.ensures.undisturbed.caller c.requires.exact) in
    let slot : c.map-slot.result ≡ held_in (entry_at (g.S.Caller.world c.args.s.now).cells (cell_number c.args.self.cell.now)) = search rules in
    (slot, as-before _ _ _ _ first.0 first.1 _ second.1)

pub returns-in-None-rest-clause-done : goal.returns-in-None-rest-clause-done
returns-in-None-rest-clause-done g c =
    let first = c.swap-owner-in-Share.ensures.exact c.requires.exact in
    let second = c.swap-rest-in-Share.ensures.exact (rw c.swap-owner-in-Share.ensures.undisturbed.caller c.requires.exact) in
    let slot : c.map-slot-in-Share.result ≡ held_in (entry_at (g.S.Caller.world c.args.s.now).cells (cell_number c.args.self.cell.now)) = search rules in
    (slot, as-before _ _ _ _ first.0 first.1 _ second.1)
