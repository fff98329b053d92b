use Rattle.sdd_script.proofs.Words.{At, state_of, Does, invalid, under, with_dates}
use Rattle.sdd_script_text.specs.Actions as call
use Rattle.sdd_script.proofs.CollectorActs.{acts-collected, no-collector, owner-dated}
use Rattle.sdd_script.proofs.acts.collectors.collect.Goals as goal

pub returns-in_default : goal.returns-in_default
returns-in_default c = record { acts = rw (← c.interpreter.view_is) (invalid _ _ _ (λ valid. c.in_default.ensures.valid valid.0)) }

pub returns-in_default-get : goal.returns-in_default-get
returns-in_default-get c = record {
  acts = rw (← c.interpreter.view_is) (invalid (state_of c.interpreter.inside.environment) _ _
      (λ valid. no-collector c.interpreter.inside.environment c.args.collector.0 c.in_default-get.ensures valid.2));
}

pub date_if_waiting-requires : goal.date_if_waiting-requires
date_if_waiting-requires c =
    owner-dated c.interpreter.inside.environment c.interpreter.invariant c.is_whole.ensures c.args.owner.0 _ _ c.in-Some-take.ensures.taken c.slot-slot.ensures

collected : (c : goal.After-date_if_waiting) → Does (state_of c.interpreter.inside.environment)
    (At c.args.name (call.Collect c.args.owner c.args.guard c.args.collector)) c.at-reply.result
    (record (with_dates c.interpreter.inside.environment c.date_if_waiting.new.dates) { world = c.at-reply.new.world; owners = c.take.new.self })
collected c =
    acts-collected c.args.name (under c.args.name.0 c.interpreter.invariant c.is_whole.ensures c.in-Some.ensures.found.0) c.args.owner c.args.guard c.args.collector
    _ _ _ _ c.at-reply.new.world c.take.new.self.entries c.date_if_waiting.new.dates c.in-Some.ensures.valid
    c.in-Some-take.ensures.taken c.in-Some-get.ensures c.slot-slot.ensures c.at-reply.ensures.done c.in-Some-take.ensures.spent
    c.date_if_waiting.ensures

pub invariant_of-interpreter-2 : goal.invariant_of-interpreter-2
invariant_of-interpreter-2 c = (collected c).0

pub returns : goal.returns
returns c = record { acts = rw (← c.interpreter.view_is) (collected c).1 }
