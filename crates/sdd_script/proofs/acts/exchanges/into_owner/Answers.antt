use Rattle.sdd_script.proofs.Words.{sym, At, state_of, given_back, Does, here, nobody}
use Rattle.sdd_script_text.specs.Actions as call
use Rattle.sdd_script.proofs.ExchangeActs.{acts-taken}
use Rattle.sdd_script.proofs.acts.exchanges.into_owner.Goals as goal

pub returns-in_default : goal.returns-in_default
returns-in_default c = record {
  acts = rw (← c.interpreter.view_is) (nobody c.interpreter.inside.environment c.args.name _ c.in_default.ensures
      (λ valid. valid.0));
}

spent : (c : goal.After-told_back) → Does (state_of c.interpreter.inside.environment) (At c.args.name (call.Into c.args.cell))
    (given_back c.give_filling-name.result)
    (record c.interpreter.inside.environment { world = c.at-held.new.world; owners = c.give_filling-name.new.owners; cells = c.take.new.self })
spent c =
    let out = c.at-held.ensures.done in
    acts-taken c.args.name (here c.args.name.0 c.interpreter.invariant c.is_whole.ensures c.in-Some.ensures) c.args.cell c.in-Some-take.holder out.0
    (sym c.in-Some-take.ensures.taken) out.1 _ c.give_filling-name.new.owners.entries c.take.new.self.entries _ c.give_filling-name.result
    c.in-Some-take.ensures.spent out.2 (rw c.make_room.ensures.kept at c.give_filling-name.ensures) out.3

pub invariant_of-interpreter-2 : goal.invariant_of-interpreter-2
invariant_of-interpreter-2 c = (spent c).0

pub returns : goal.returns
returns c = record { acts = rw (← c.interpreter.view_is, c.told_back.ensures) (spent c).1 }
