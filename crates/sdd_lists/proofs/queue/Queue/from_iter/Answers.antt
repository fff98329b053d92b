use Rattle.std.proofs.Common.{[], None, sym, subst}
use Rattle.sdd_space.specs.CallerId.{CallerId, IsExact}
use Rattle.sdd_world_model.specs.World.{World}
use Rattle.sdd_lists.specs.QueueFilling.{FillsQueue}
use Rattle.sdd_lists.specs.Queue.{cells_in}
use Rattle.sdd_lists.proofs.queue.Queue.from_iter.Goals as goal

pub returns-in-Ok-add_all-clause-list : goal.returns-in-Ok-add_all-clause-list
returns-in-Ok-add_all-clause-list g c = λ e.
    let new = g.S.Caller.world c.add_all.new.s in
    let cell = cells_in c.in-Ok.queue in
    let at = c.in-Ok.ensures.unmoved.caller in
    let made = c.in-Ok.ensures.world e in
    let all = c.in-Ok-add_all.ensures.list (subst (λ (s : CallerId). IsExact s) (sym at) e) [] None (c.in-Ok.ensures.list e) in
    record {
      oldest = made.0;
      newest = made.1;
      two = made.2;
      given = all.0;
      gives = all.4;
      entries = all.1;
      held = all.2;
      fills =
          subst (λ (y : World _). FillsQueue (g.S.Caller.caller c.args.s.now).place cell y [] None all.0 new all.1 all.2) made.3
          (subst (λ (s : CallerId). FillsQueue s.place cell (g.S.Caller.world c.new.new.s) [] None all.0 new all.1 all.2) at all.3);
    }

pub returns-in-Err-add_all-clause-list : goal.returns-in-Err-add_all-clause-list
returns-in-Err-add_all-clause-list g c = λ e.
    let new = g.S.Caller.world c.add_all.new.s in
    let cell = cells_in c.in-Ok.queue in
    let at = c.in-Ok.ensures.unmoved.caller in
    let made = c.in-Ok.ensures.world e in
    let all = c.in-Err-add_all.ensures.list (subst (λ (s : CallerId). IsExact s) (sym at) e) [] None (c.in-Ok.ensures.list e) in (
      record {
        oldest = made.0;
        newest = made.1;
        two = made.2;
        given = all.0;
        gives = all.4.0;
        entries = all.1;
        held = all.2;
        fills =
            subst (λ (y : World _). FillsQueue (g.S.Caller.caller c.args.s.now).place cell y [] None all.0 new all.1 all.2) made.3
            (subst (λ (s : CallerId). FillsQueue s.place cell (g.S.Caller.world c.new.new.s) [] None all.0 new all.1 all.2) at all.3);
      },
      all.4.1,
    )
