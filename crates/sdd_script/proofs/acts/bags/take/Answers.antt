use Rattle.sdd_script.proofs.Words.{Some, slice_set, ap, ◌∙◌, rules, At, NumberBag, state_of, Does, invalid, with_dates}
use Rattle.sdd_script_text.specs.Actions as call
use Rattle.sdd_script_text.specs.declared.answer.Reply.TheVariants as reply
use Rattle.sdd_script.proofs.BagActs.{acts-dated-as-before, acts-empty, acts-took, no-bag, put-so}
use Rattle.sdd_script.proofs.StackActs.{AreTold}
use Rattle.sdd_script.proofs.ContainerActs.{reader-is}
use Rattle.sdd_script.proofs.acts.bags.take.Goals as goal

pub returns-in_default : goal.returns-in_default
returns-in_default c = record {
  acts = rw (← c.interpreter.view_is) (invalid _ _ _ (λ valid. c.in_default.ensures.valid valid.0));
}

pub returns-in_default-get : goal.returns-in_default-get
returns-in_default-get c = record {
  acts = rw (← c.interpreter.view_is) (invalid _ _ _ (λ valid. no-bag c.interpreter.inside.environment c.args.bag.0 c.in_default-get.ensures valid.1));
}

pub at-taken-requires-clause-asked : goal.at-taken-requires-clause-asked
at-taken-requires-clause-asked c = (
  search rules,
  reader-is c.interpreter.inside.environment c.interpreter.invariant c.args.guard.0 _ _ c.in-Some.ensures.found.1
      c.in-Some.ensures.found.2,
  search rules,
)

took : (c : goal.After-drop-waited) → Does (state_of c.interpreter.inside.environment) (At c.args.name (call.Take c.args.bag c.args.guard))
    (reply.Value c.in-Some-number.number)
    (record (with_dates c.interpreter.inside.environment c.date_new.new.dates)
    { world = c.at-taken.new.world; lists = record c.interpreter.inside.environment.lists { bags = c.put_back.new.self } })
took c =
    let h = c.interpreter.inside.environment in let bag = c.at-taken.result.0 in
    let did = rw c.in-Some-number.is at c.at-taken.ensures.done.1 in
    let put = put-so h.lists.bags.entries.items c.take.new.self.entries.items c.put_back.new.self.entries.items c.args.bag.0 bag c.in-Some-take.ensures.spent
    c.put_back.ensures.back in
    let told_so : AreTold c.interpreter.inside.environment c.in_ok-waited.waited.items = c.in_ok-waited.ensures.each in
    acts-took h c.interpreter.invariant c.is_whole.ensures c.args.name _ c.in-Some.ensures.found.0 c.args.bag _ c.in-Some-take.ensures.taken bag did.0
    c.put_back.new.self.entries put c.at-taken.new.world c.at-taken.ensures.done.0 c.args.guard c.in-Some.ensures.valid
    c.in_ok-waited.waited.items
    told_so c.date_new.new.dates (rw c.as_slice.ensures.value at c.date_new.ensures.dated, c.date_new.ensures.long) c.in-Some-number.number did

pub invariant_of-interpreter : goal.invariant_of-interpreter
invariant_of-interpreter c = (took c).0

pub returns-in-Some-number : goal.returns-in-Some-number
returns-in-Some-number c = record { acts = rw (← c.interpreter.view_is) (took c).1 }

nothing : (c : goal.After-drop-waited-2) → Does (state_of c.interpreter.inside.environment) (At c.args.name (call.Take c.args.bag c.args.guard)) reply.Nothing
    (record (with_dates c.interpreter.inside.environment c.date_new.new.dates)
    { world = c.at-taken.new.world; lists = record c.interpreter.inside.environment.lists { bags = c.put_back.new.self } })
nothing c =
    let h = c.interpreter.inside.environment in
    let none = rw c.in-None.is at c.at-taken.ensures.done.1 in
    let put = put-so h.lists.bags.entries.items c.take.new.self.entries.items c.put_back.new.self.entries.items c.args.bag.0 c.at-taken.result.0
    c.in-Some-take.ensures.spent c.put_back.ensures.back in
    let same = put ∙ ap (λ (x : NumberBag). slice_set h.lists.bags.entries.items c.args.bag.0 (Some x)) none.1 in
    let told_so : AreTold c.interpreter.inside.environment c.in_ok-waited.waited.items = c.in_ok-waited.ensures.each in
    acts-dated-as-before h c.interpreter.invariant c.is_whole.ensures c.args.name _ c.in-Some.ensures.found.0 c.args.bag _ c.in-Some-take.ensures.taken
    c.in_ok-waited.waited.items told_so c.at-taken.new.world c.put_back.new.self.entries c.date_new.new.dates none.2 same
    (rw c.as_slice.ensures.value at c.date_new.ensures.dated, c.date_new.ensures.long) (At c.args.name (call.Take c.args.bag c.args.guard)) reply.Nothing
    (acts-empty h c.interpreter.invariant c.is_whole.ensures c.args.name _ c.in-Some.ensures.found.0 c.args.bag _ c.in-Some-take.ensures.taken c.args.guard
    c.in-Some.ensures.valid none.0)

pub invariant_of-interpreter-2 : goal.invariant_of-interpreter-2
invariant_of-interpreter-2 c = (nothing c).0

pub returns : goal.returns
returns c = record { acts = rw (← c.interpreter.view_is) (nothing c).1 }
