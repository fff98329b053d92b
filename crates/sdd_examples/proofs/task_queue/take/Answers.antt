use Rattle.std.proofs.Common.{Some, ◌∙◌, ap, sym, subst}
use Rattle.std.specs.Prelude.{drop}
use Rattle.sdd_space.specs.CallerId.{CallerId, IsExact}
use Rattle.sdd_space.specs.Shared.{slot_of}
use Rattle.sdd_world_model.specs.World.{World}
use Rattle.sdd_lists.specs.Entries.{value_of}
use Rattle.sdd_lists.specs.Values.{QueueHas}
use Rattle.sdd_examples.proofs.task_queue.take.Goals as goal

pub returns-in-Ok-Some-clause-tasks : goal.returns-in-Ok-Some-clause-tasks
returns-in-Ok-Some-clause-tasks g c = λ e tasks has.
    let slot = slot_of c.in-Ok-Some.owner in
    let at1 = c.in-Ok-Some.ensures.unmoved.caller in
    let at2 = c.get_guarded_ref.ensures.undisturbed.caller ∙ at1 in
    let popped = rw c.in-Ok-Some.field-0-is at (c.in-Ok-Some.ensures.values e tasks has) in
    let entry = popped.1.0 in
    let seen = c.get_guarded_ref.ensures.undisturbed.shown slot entry popped.1.1 in
    let value = g.met.S.LookThrough.one_value c.get_guarded_ref.new.s slot c.get_guarded_ref.result.now entry c.get_guarded_ref.ensures.shown seen in
    let same = c.get_guarded_ref.ensures.exact (subst (λ (s : CallerId). IsExact s) (sym at1) e) in
    let gone = (c.release.ensures.released (subst (λ (s : CallerId). IsExact s) (sym at2) e)).world in (
      ap (λ (v : _). Some v) (c.as_ref-task.ensures ∙ ap value_of value) ∙ sym popped.1.2,
      subst (λ (y : World _). QueueHas y c.args.queue.now (drop 1 tasks)) (sym gone)
          (c.releases_keep_values.ensures.queue _ _ slot c.args.queue.now (drop 1 tasks)
          (subst (λ (y : World _). QueueHas y c.args.queue.now (drop 1 tasks)) (sym same) popped.0)),
    )

pub returns-in-Ok-None-clause-tasks : goal.returns-in-Ok-None-clause-tasks
returns-in-Ok-None-clause-tasks g c = λ e tasks has.
    let popped = rw c.in-Ok-None.field-0-is at (c.in-Ok-None.ensures.values e tasks has) in (sym popped.1, popped.0)

pub returns-in-Err-clause-tasks : goal.returns-in-Err-clause-tasks
returns-in-Err-clause-tasks g c = λ e tasks has. let crowded = (c.in-Err.ensures.list e has.0 has.1 has.2).3 in (crowded.same, crowded.why)
