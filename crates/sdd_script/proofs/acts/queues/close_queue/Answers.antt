use Rattle.sdd_script.proofs.Words.{sym, ◌∙◌, At, state_of, Does, invalid, no-queue, queue-home, with_dates}
use Rattle.sdd_script_text.specs.Actions as call
use Rattle.sdd_script_text.specs.declared.answer.Reply.TheVariants as reply
use Rattle.sdd_script.proofs.QueueActs.{acts-queue_closed}
use Rattle.sdd_script.proofs.StackActs.{AreTold}
use Rattle.sdd_script.proofs.ContainerActs.{reader-is}
use Rattle.sdd_script.proofs.acts.queues.close_queue.Goals as goal

pub returns-in_default : goal.returns-in_default
returns-in_default c = record {
  acts = rw (← c.interpreter.view_is) (invalid _ _ _ (λ valid. c.in_default.ensures valid.0.0 valid.0.1));
}

pub returns-in_default-get : goal.returns-in_default-get
returns-in_default-get c = record {
  acts = rw (← c.interpreter.view_is) (invalid _ _ _ (λ valid. no-queue c.interpreter.inside.environment c.args.queue.0 c.in_default-get.ensures valid.1));
}

pub unreachable-requires : goal.unreachable-requires
unreachable-requires c = absurd (let never = c.in_default-take.ensures.taken ∙ sym c.in-Some-get.ensures in cc)

pub at-requires-clause-asked : goal.at-requires-clause-asked
at-requires-clause-asked c = (
  queue-home c.interpreter.inside.environment c.args.queue.0 _ c.in-Some-take.ensures.taken c.interpreter.invariant,
  reader-is c.interpreter.inside.environment c.interpreter.invariant c.in-Some.ensures.2.0 _ _ c.in-Some.ensures.2.1 c.in-Some.ensures.1,
)

closed : (c : goal.After-drop-waited) → Does (state_of c.interpreter.inside.environment) (At c.args.name (call.CloseQueue c.args.queue)) reply.Done
    (record (with_dates c.interpreter.inside.environment c.date_new.new.dates)
    { world = c.at.new.world; lists = record c.interpreter.inside.environment.lists { queues = c.take.new.self } })
closed c =
    let h = c.interpreter.inside.environment in
    let found = c.in-Some.ensures in
    let told_so : AreTold c.interpreter.inside.environment c.in_ok-waited.waited.items = c.in_ok-waited.ensures.each in
    acts-queue_closed h c.interpreter.invariant c.is_whole.ensures c.args.name _ found.0 c.args.queue _ c.in-Some-take.ensures.taken
    c.in_ok-waited.waited.items told_so c.at.new.world c.take.new.self.entries c.date_new.new.dates (found.2.0, found.2.2)
    c.at.ensures.done c.in-Some-take.ensures.spent (rw c.as_slice.ensures.value at c.date_new.ensures.dated, c.date_new.ensures.long)

pub invariant_of-interpreter : goal.invariant_of-interpreter
invariant_of-interpreter c = (closed c).0

pub returns : goal.returns
returns c = record { acts = rw (← c.interpreter.view_is) (closed c).1 }
