use Rattle.std.proofs.Common.{[], ◌∷◌, ◌++◌, sym, subst}
use Rattle.sdd_space.specs.CallerId.{CallerId, IsExact}
use Rattle.sdd_space.specs.Shared.{slot_of}
use Rattle.sdd_world_model.specs.World.{World}
use Rattle.sdd_lists.specs.Values.{QueueHas}
use Rattle.sdd_examples.proofs.task_queue.put.Goals as goal

pub returns-in-Ok-clause-tasks : goal.returns-in-Ok-clause-tasks
returns-in-Ok-clause-tasks g c = λ e tasks has.
    let now = tasks ++ c.args.task ∷ [] in
    let gone = (c.release.ensures.released (subst (λ (s : CallerId). IsExact s) (sym c.in-Ok.ensures.unmoved.caller) e)).world in
    subst (λ (y : World _). QueueHas y c.args.queue.now now) (sym gone)
    (c.releases_keep_values.ensures.queue _ _ (slot_of c.in-Ok.owner) c.args.queue.now now (c.in-Ok.ensures.values e tasks has))
