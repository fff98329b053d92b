use Rattle.sdd_script.proofs.Words.{sym, At, state_of, Does, here, nobody, with_dates}
use Rattle.sdd_script_text.specs.Actions as call
use Rattle.sdd_script_text.specs.declared.answer.Reply.TheVariants as reply
use Rattle.sdd_script.proofs.CellActs.{acts-cell_closed, held-within}
use Rattle.sdd_script.proofs.acts.cells.close_cell.Goals as goal

pub returns-in_default : goal.returns-in_default
returns-in_default c = record {
  acts = rw (← c.interpreter.view_is) (nobody c.interpreter.inside.environment c.args.name _ c.in_default.ensures
      (λ valid. valid.0));
}

pub date_if_waiting-requires : goal.date_if_waiting-requires
date_if_waiting-requires c =
    rw c.at-held.ensures.done.0
    (held-within c.args.name (here c.args.name.0 c.interpreter.invariant c.is_whole.ensures c.in-Some.ensures) c.args.cell _ (sym c.in-Some-take.ensures.taken))

closed : (c : goal.After-date_if_waiting) → Does (state_of c.interpreter.inside.environment) (At c.args.name (call.CloseCell c.args.cell)) reply.Done
    (record (with_dates c.interpreter.inside.environment c.date_if_waiting.new.dates) { world = c.at.new.world; cells = c.take.new.self })
closed c =
    acts-cell_closed c.args.name (here c.args.name.0 c.interpreter.invariant c.is_whole.ensures c.in-Some.ensures) c.args.cell _
    (sym c.in-Some-take.ensures.taken) _
    c.take.new.self.entries c.date_if_waiting.new.dates c.in-Some-take.ensures.spent (rw c.at-held.ensures.done.1 at c.at.ensures.done)
    (rw c.at-held.ensures.done.0 at c.date_if_waiting.ensures)

pub invariant_of-interpreter-2 : goal.invariant_of-interpreter-2
invariant_of-interpreter-2 c = (closed c).0

pub returns : goal.returns
returns c = record { acts = rw (← c.interpreter.view_is) (closed c).1 }
