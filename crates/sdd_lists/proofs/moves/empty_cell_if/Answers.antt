use Rattle.std.proofs.Common.{◌≡◌, sym, Bool, subst}
use Rattle.std.specs.Prelude.{if◌then◌else◌}
use Rattle.sdd_space.specs.Shared.{cell_of}
use Rattle.sdd_lists.specs.Queue.{cell_emptied}
use Rattle.sdd_lists.proofs.moves.empty_cell_if.Goals as goal

pub returns-then-is_due-clause-exact : goal.returns-then-is_due-clause-exact
returns-then-is_due-clause-exact g c = λ e held t there.
    let w = g.S.Caller.world c.args.s.now in
    let place = (g.S.Caller.caller c.args.s.now).place in
    subst (λ (b : Bool). g.S.Caller.world c.empty_cell.new.s ≡ (if b then cell_emptied w place (cell_of c.args.cell.now) held else w))
    (sym c.if-is_due.true) (c.empty_cell.ensures.exact e held t there)
