use Rattle.sdd_script.proofs.Words.{sym, At, state_of, Does, here, nobody}
use Rattle.sdd_script_text.specs.Actions as call
use Rattle.sdd_script_text.specs.declared.answer.Reply.TheVariants as reply
use Rattle.sdd_script.proofs.CellActs.{acts-tagged}
use Rattle.sdd_script.proofs.acts.cells.set_tag_if.Goals as goal

pub returns-in_default : goal.returns-in_default
returns-in_default c = record {
  acts = rw (← c.interpreter.view_is) (nobody c.interpreter.inside.environment c.args.name _ c.in_default.ensures
      (λ valid. valid.0));
}

tagged : (c : goal.After-at) → Does (state_of c.interpreter.inside.environment) (At c.args.name (call.TagIf c.args.cell c.args.tag c.args.was))
    (reply.Truth c.at.result) (record c.interpreter.inside.environment { world = c.at.new.world })
tagged c =
    let told = c.at.ensures.done in
    acts-tagged c.args.name (here c.args.name.0 c.interpreter.invariant c.is_whole.ensures c.in-Some.ensures) c.args.cell _
    (sym c.in-Some-get.ensures) c.args.tag c.args.was _ _ _ told.1 told.2 told.3

pub invariant_of-interpreter : goal.invariant_of-interpreter
invariant_of-interpreter c = (tagged c).0

pub returns : goal.returns
returns c = record { acts = rw (← c.interpreter.view_is) (tagged c).1 }
