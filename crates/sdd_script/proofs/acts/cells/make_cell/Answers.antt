use Rattle.sdd_script.proofs.Words.{At, cell_holding, state_of, Does, here, next, making_cell, rules}
use Rattle.sdd_script_text.specs.declared.answer.Reply.TheVariants as reply
use Rattle.sdd_script.proofs.CellActs.{acts-celled, named-home}
use Rattle.sdd_script.proofs.acts.cells.make_cell.Goals as goal

pub at-cell-requires-clause-asked : goal.at-cell-requires-clause-asked
at-cell-requires-clause-asked c =
    (search rules, rw c.take_filling-filling.ensures.filled.holding (named-home c.interpreter.inside.environment c.interpreter.invariant c.args.owner))

made : (c : goal.After-give-name) → Does (state_of c.interpreter.inside.environment) (At c.args.name (making_cell c.args.ownership c.args.owner))
    (reply.Cell (record { 0 = c.give-name.result }))
    (record c.interpreter.inside.environment { world = c.at-cell.new.world; owners = c.take_filling-filling.new.owners; cells = c.give-name.new.self })
made c =
    let made = c.at-cell.ensures.done in
    acts-celled c.args.name (here c.args.name.0 c.interpreter.invariant c.is_whole.ensures c.in-Some.ensures) c.args.ownership c.args.owner made.0 _
    c.take_filling-filling.new.owners.entries c.give-name.new.self.entries _ _ _ (c.fits.ensures.0 c.if-not-fits.false) c.take_filling-filling.ensures.filled
    made.2 made.3 made.1 (rw c.make_room.ensures.kept at c.give-name.ensures.given) (next cell_holding c.give-name.ensures.name c.make_room.ensures.kept)

pub invariant_of-interpreter-2 : goal.invariant_of-interpreter-2
invariant_of-interpreter-2 c = (made c).0

pub returns : goal.returns
returns c = record { acts = rw (← c.interpreter.view_is) (made c).1 }
