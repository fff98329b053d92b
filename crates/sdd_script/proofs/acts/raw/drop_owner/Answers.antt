use Rattle.sdd_script.proofs.Words.{◌≡◌, sym, At, owner_holding, state_of, Does, goes, here, restored, still-as, nobody, with_dates}
use Rattle.sdd_script_text.specs.Actions as call
use Rattle.sdd_script.proofs.RawActs.{acts-dropped, drop-refused}
use Rattle.sdd_script.proofs.acts.raw.drop_owner.Goals as goal

pub returns-in_default : goal.returns-in_default
returns-in_default c = record {
  acts = rw (← c.interpreter.view_is) (nobody c.interpreter.inside.environment c.args.name _ c.in_default.ensures
      (λ valid. valid.0));
}

went : (c : goal.After-drop-waited-2) → Does (state_of c.interpreter.inside.environment) (At c.args.name (call.Drop c.args.owner)) c.in-Ok.reply
    (record (with_dates c.interpreter.inside.environment c.date_new.new.dates) { world = c.at.new.world; owners = c.take.new.self })
went c =
    let took = c.in-Some-take.ensures in
    acts-dropped c.args.name (here c.args.name.0 c.interpreter.invariant c.is_whole.ensures c.in-Some.ensures) c.args.owner _
    (sym took.taken) _ c.in_ok-waited.waited.items c.at.new.world c.take.new.self.entries c.date_new.new.dates
    c.in_ok-waited.ensures.each
    c.in-Ok.ensures.done took.spent (rw c.as_slice.ensures.value at c.date_new.ensures.dated, c.date_new.ensures.long)

pub invariant_of-interpreter-2 : goal.invariant_of-interpreter-2
invariant_of-interpreter-2 c = (went c).0

pub returns : goal.returns
returns c = record { acts = rw (← c.interpreter.view_is) (went c).1 }

-- where it is refused, the state is as it was
back : (c : goal.After-drop-waited-in-Err) → state_of (record c.interpreter.inside.environment { world = c.at.new.world; owners = c.put_back.new.self })
    ≡ state_of c.interpreter.inside.environment
back c =
    let took = c.in-Some-take.ensures in
    simp (
      c.in-Err.ensures.done.3,
      restored owner_holding c.interpreter.inside.environment.owners.entries.items c.args.owner.0 (sym took.taken) took.spent
          c.put_back.ensures.back c.in-Err.ensures.done.0,
    )

pub invariant_of-interpreter-in-Err : goal.invariant_of-interpreter-in-Err
invariant_of-interpreter-in-Err c = (goes (back c) c.interpreter.invariant.sound c.interpreter.invariant.guards).tied

pub returns-in-Err : goal.returns-in-Err
returns-in-Err c =
    let h = c.interpreter.inside.environment in
    record {
      acts = rw (← c.interpreter.view_is, c.in-Err.ensures.done.1) (still-as h (record h { world = c.at.new.world; owners = c.put_back.new.self })
          _ _ (back c) (drop-refused c.args.name (here c.args.name.0 c.interpreter.invariant c.is_whole.ensures c.in-Some.ensures) c.args.owner _
          (sym c.in-Some-take.ensures.taken) c.in-Err.ensures.done.2));
    }
