use Rattle.sdd_script.proofs.Words.{rules, At, state_of, Does, invalid}
use Rattle.sdd_script_text.specs.Actions as call
use Rattle.sdd_script_text.specs.declared.answer.Reply.TheVariants as reply
use Rattle.sdd_script.proofs.BagActs.{acts-added, acts-given_back, no-bag, put-so}
use Rattle.sdd_script.proofs.CopyActs.{AreFreeSo}
use Rattle.sdd_script.proofs.ContainerActs.{reader-is}
use Rattle.sdd_script.proofs.acts.bags.add.Goals as goal

pub returns-in_default : goal.returns-in_default
returns-in_default c = record {
  acts = rw (← c.interpreter.view_is) (invalid _ _ _ (λ valid. c.in_default.ensures.valid valid.0));
}

pub returns-in_default-get : goal.returns-in_default-get
returns-in_default-get c = record {
  acts = rw (← c.interpreter.view_is) (invalid _ _ _ (λ valid. no-bag c.interpreter.inside.environment c.args.bag.0 c.in_default-get.ensures valid.1));
}

pub at-taken-requires-clause-asked : goal.at-taken-requires-clause-asked
at-taken-requires-clause-asked c = (
  search rules,
  reader-is c.interpreter.inside.environment c.interpreter.invariant c.args.guard.0 _ _ c.in-Some.ensures.found.1
      c.in-Some.ensures.found.2,
  search rules,
)

added : (c : goal.After-drop-free) → Does (state_of c.interpreter.inside.environment) (At c.args.name
    (call.Add c.args.bag c.args.number c.args.guard)) reply.Done
    (record c.interpreter.inside.environment {
      world = c.at-taken.new.world;
      lists = record c.interpreter.inside.environment.lists { bags = c.put_back.new.self };
      log = record c.interpreter.inside.environment.log { names = c.forget_new.new.names };
    })
added c =
    let h = c.interpreter.inside.environment in let bag = c.at-taken.result.0 in
    let line = rw (← c.interpreter.view_is) at c.requires.line in
    let did = rw c.in-Ok.is at c.at-taken.ensures.done.1 in
    let put = put-so h.lists.bags.entries.items c.take.new.self.entries.items c.put_back.new.self.entries.items c.args.bag.0 bag c.in-Some-take.ensures.spent
    c.put_back.ensures.back in
    let free_so : AreFreeSo c.interpreter.inside.environment c.in_ok-free.free.items = c.in_ok-free.ensures.each in
    acts-added h c.interpreter.invariant c.is_whole.ensures c.args.name _ c.in-Some.ensures.found.0 c.args.bag _ c.in-Some-take.ensures.taken bag did.0
    c.put_back.new.self.entries put c.at-taken.new.world c.at-taken.ensures.done.0 c.args.guard c.in-Some.ensures.valid line c.args.number
    did
    c.in_ok-free.free.items free_so c.forget_new.new.names (rw c.as_slice.ensures.value at c.forget_new.ensures.names, c.forget_new.ensures.long)

pub invariant_of-interpreter : goal.invariant_of-interpreter
invariant_of-interpreter c = (added c).0

pub returns-in-Ok : goal.returns-in-Ok
returns-in-Ok c = record { acts = rw (← c.interpreter.view_is) (added c).1 }

pub invariant_of-interpreter-in-Err : goal.invariant_of-interpreter-in-Err
invariant_of-interpreter-in-Err c =
    let h = c.interpreter.inside.environment in
    let put = put-so h.lists.bags.entries.items c.take.new.self.entries.items c.put_back.new.self.entries.items c.args.bag.0 c.at-taken.result.0
    c.in-Some-take.ensures.spent c.put_back.ensures.back in
    (acts-given_back h c.interpreter.invariant c.is_whole.ensures c.args.name _ c.in-Some.ensures.found.0 c.args.bag _ c.in-Some-take.ensures.taken
    c.at-taken.result.0 c.at-taken.new.world c.put_back.new.self.entries put c.args.guard c.in-Some.ensures.valid c.args.number
    c.in-Err.refused
    (rw c.in-Err.is at c.at-taken.ensures.done.1)).0

pub returns : goal.returns
returns c =
    let h = c.interpreter.inside.environment in
    let put = put-so h.lists.bags.entries.items c.take.new.self.entries.items c.put_back.new.self.entries.items c.args.bag.0 c.at-taken.result.0
    c.in-Some-take.ensures.spent c.put_back.ensures.back in
    record {
      acts = rw (← c.interpreter.view_is) (acts-given_back h c.interpreter.invariant c.is_whole.ensures c.args.name _ c.in-Some.ensures.found.0 c.args.bag _
          c.in-Some-take.ensures.taken c.at-taken.result.0 c.at-taken.new.world c.put_back.new.self.entries put c.args.guard
          c.in-Some.ensures.valid c.args.number c.in-Err.refused (rw c.in-Err.is at c.at-taken.ensures.done.1)).1;
    }
