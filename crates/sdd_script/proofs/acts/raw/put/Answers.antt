use Rattle.sdd_script.proofs.Words.{◌≡◌, None, refl, sym, false≢true, length-set, At, at-default, inside, invalid, owner_holding, state_of, Does, goes, here, restored, still-as, nobody}
use Rattle.sdd_script_text.specs.Actions as call
use Rattle.sdd_script_text.specs.declared.answer.Reply.TheVariants as reply
use Rattle.sdd_script_model.proofs.Entry.{is-there}
use Rattle.sdd_script.proofs.RawActs.{acts-put, one-held, owns-none, put-refused, same-value}
use Rattle.sdd_script.proofs.acts.raw.put.Goals as goal

pub returns-in_default : goal.returns-in_default
returns-in_default c = record {
  acts = rw (← c.interpreter.view_is) (nobody c.interpreter.inside.environment c.args.name _ c.in_default.ensures
      (λ valid. valid.0));
}

pub returns-then-not-is_number : goal.returns-then-not-is_number
returns-then-not-is_number c =
    let at = here c.args.name.0 c.interpreter.invariant c.is_whole.ensures c.in-Some.ensures in
    record {
      acts = rw (← c.interpreter.view_is) (invalid (state_of c.interpreter.inside.environment) _ _ (λ valid. owns-none c.args.name at c.args.owner _
          (sym c.in-Some-get.ensures) _ _ c.value_of.ensures.1 c.value_of.ensures.2 (λ m is. false≢true (c.if-not-is_number.ensures.1 (m, is))) valid.1));
    }

pub put_back-requires : goal.put_back-requires
put_back-requires c =
    let xs = c.interpreter.inside.environment.owners.entries.items in
    let o = c.args.owner.0 in
    record {
      spent = rw (c.in-Some-take.ensures.spent, length-set xs o None)
          (inside xs o (is-there xs o _ (sym c.in-Some-take.ensures.taken)), at-default xs o None);
    }

back : (c : goal.In-Err) → state_of (record c.interpreter.inside.environment { world = c.at-held.new.world; owners = c.put_back.new.self })
    ≡ state_of c.interpreter.inside.environment
back c =
    let out = rw c.in-Err.is at c.at-held.ensures.done.1 in
    let took = c.in-Some-take.ensures in
    simp (
      out.2.1,
      restored owner_holding c.interpreter.inside.environment.owners.entries.items c.args.owner.0 (sym took.taken) took.spent c.put_back.ensures.back
          c.at-held.ensures.done.0,
    )

pub invariant_of-interpreter : goal.invariant_of-interpreter
invariant_of-interpreter c = (goes (back c) c.interpreter.invariant.sound c.interpreter.invariant.guards).tied

pub returns-in-Err : goal.returns-in-Err
returns-in-Err c =
    let h = c.interpreter.inside.environment in
    let out = rw c.in-Err.is at c.at-held.ensures.done.1 in
    let x = c.in-Some-take.held in
    let slot = rw (← one-held _ _ _ c.in-Some-take.ensures.taken c.in-Some-get.ensures) at c.value_of.ensures.1 in
    let number = c.if-not-is_number.ensures.0 refl in
    record {
      acts = rw (← c.interpreter.view_is) (still-as h (record h { world = c.at-held.new.world; owners = c.put_back.new.self }) _ _ (back c)
          (put-refused c.args.name (here c.args.name.0 c.interpreter.invariant c.is_whole.ensures c.in-Some.ensures) c.args.owner x
          (sym c.in-Some-take.ensures.taken) c.args.number out.0 number.0 _ _ out.1
          (same-value h x _ _ _ slot out.1 c.value_of.ensures.2) number.1 out.2.0));
    }

put : (c : goal.In_default-put) → Does (state_of c.interpreter.inside.environment) (At c.args.name (call.Put c.args.owner c.args.number)) reply.Done
    (record c.interpreter.inside.environment { world = c.at-held.new.world; owners = c.put_back.new.self })
put c =
    let h = c.interpreter.inside.environment in
    let out = rw c.in_default-put.is at c.at-held.ensures.done.1 in
    let x = c.in-Some-take.held in
    let took = c.in-Some-take.ensures in
    let slot = rw (← one-held _ _ _ took.taken c.in-Some-get.ensures) at c.value_of.ensures.1 in
    let number = c.if-not-is_number.ensures.0 refl in
    acts-put c.args.name (here c.args.name.0 c.interpreter.invariant c.is_whole.ensures c.in-Some.ensures) c.args.owner x (sym took.taken) c.args.number
    out.0 number.0 _ _ c.put_back.new.self.entries out.1 (same-value h x _ _ _ slot out.1 c.value_of.ensures.2) number.1 out.2.0 out.2.1
    (restored owner_holding h.owners.entries.items c.args.owner.0 (sym took.taken) took.spent c.put_back.ensures.back c.at-held.ensures.done.0)

pub invariant_of-interpreter-2 : goal.invariant_of-interpreter-2
invariant_of-interpreter-2 c = (put c).0

pub returns : goal.returns
returns c = record { acts = rw (← c.interpreter.view_is) (put c).1 }
