use Rattle.std.proofs.Common.{◌≡◌, ◌++◌, [], ◌∙◌, List, None, ap, sym, subst}
use Rattle.sdd_space.specs.CallerId.{CallerId, IsExact}
use Rattle.sdd_world_model.specs.World.{World}
use Rattle.sdd_world_model.specs.WorldChanges.{nulled}
use Rattle.sdd_lists.specs.Cloning.{IsQueueBeside}
use Rattle.sdd_lists.specs.Entries.{link_of}
use Rattle.sdd_lists.specs.Lists.{left}
use Rattle.sdd_lists.specs.Queue.{IsQueue, cells_in}
use Rattle.sdd_lists.specs.QueueFilling.{FillsQueue}
use Rattle.sdd_lists.proofs.Cloning.{beside-left, copied-beside}
use Rattle.sdd_lists.proofs.WalkPositions.{shown-left}
use Rattle.sdd_lists.proofs.queue.Queue.clone.Goals as goal

pub returns-in-Ok-add_clones-clause-list : goal.returns-in-Ok-add_clones-clause-list
returns-in-Ok-add_clones-clause-list g c = λ e es second queue.
    let w = g.S.Caller.world c.args.s.now in
    let u = g.S.Caller.world c.walk-walk.new.s in
    let new = g.S.Caller.world c.add_clones.new.s in
    let place = (g.S.Caller.caller c.args.s.now).place in
    let from = cells_in c.args.self.now in
    let q = cells_in c.in-Ok.copy in
    let at1 = c.in-Ok.ensures.unmoved.caller in
    let at2 = c.walk-walk.ensures.undisturbed.caller ∙ at1 in
    let ex1 = subst (λ (s : CallerId). IsExact s) (sym at1) e in
    let ex2 = subst (λ (s : CallerId). IsExact s) (sym at2) e in
    let made = c.in-Ok.ensures.world e in
    let same : u ≡ g.S.Caller.world c.new.new.s = c.walk-walk.ensures.world ex1 in
    let with_copy : u ≡ nulled (nulled w q.oldest) q.newest = same ∙ made.3 in
    let source = copied-beside w q made.0 made.1 made.2 from es second queue in
    let here = subst (λ (y : World _). IsQueue link_of y from es second) (sym made.3) source.queue in
    let all = c.in-Ok-add_clones.ensures.list ex2 [] None (subst (λ (y : World _). IsQueue link_of y q [] None) (sym same) (c.in-Ok.ensures.list e))
    from (left es) es second (c.walk-walk.ensures.entries ex1 es second here) (beside-left q [] es source.links)
    (subst (λ (y : World _). IsQueueBeside y from es second q []) (sym with_copy) source) in
    record {
      oldest = made.0;
      newest = made.1;
      two = made.2;
      first = all.0;
      parts = sym (shown-left es) ∙ all.5 ∙ ap (λ (ys : List _). all.0 ++ ys) all.9;
      clones = all.2;
      are = all.6;
      entries = all.3;
      held = all.4;
      fills =
          subst (λ (y : World _). FillsQueue place q y [] None all.2 new all.3 all.4) with_copy
          (subst (λ (s : CallerId). FillsQueue s.place q u [] None all.2 new all.3 all.4) at2 all.7);
      kept = all.8;
    }

pub returns-in-Err-add_clones-clause-list : goal.returns-in-Err-add_clones-clause-list
returns-in-Err-add_clones-clause-list g c = λ e es second queue.
    let w = g.S.Caller.world c.args.s.now in
    let u = g.S.Caller.world c.walk-walk.new.s in
    let new = g.S.Caller.world c.add_clones.new.s in
    let place = (g.S.Caller.caller c.args.s.now).place in
    let from = cells_in c.args.self.now in
    let q = cells_in c.in-Ok.copy in
    let at1 = c.in-Ok.ensures.unmoved.caller in
    let at2 = c.walk-walk.ensures.undisturbed.caller ∙ at1 in
    let ex1 = subst (λ (s : CallerId). IsExact s) (sym at1) e in
    let ex2 = subst (λ (s : CallerId). IsExact s) (sym at2) e in
    let made = c.in-Ok.ensures.world e in
    let same : u ≡ g.S.Caller.world c.new.new.s = c.walk-walk.ensures.world ex1 in
    let with_copy : u ≡ nulled (nulled w q.oldest) q.newest = same ∙ made.3 in
    let source = copied-beside w q made.0 made.1 made.2 from es second queue in
    let here = subst (λ (y : World _). IsQueue link_of y from es second) (sym made.3) source.queue in
    let all = c.in-Err-add_clones.ensures.list ex2 [] None (subst (λ (y : World _). IsQueue link_of y q [] None) (sym same) (c.in-Ok.ensures.list e))
    from (left es) es second (c.walk-walk.ensures.entries ex1 es second here) (beside-left q [] es source.links)
    (subst (λ (y : World _). IsQueueBeside y from es second q []) (sym with_copy) source) in
    let why = all.9 in (
      why.0,
      why.1,
      why.2,
      record {
        oldest = made.0;
        newest = made.1;
        two = made.2;
        first = all.0;
        parts = sym (shown-left es) ∙ all.5 ∙ ap (λ (ys : List _). all.0 ++ ys) why.3;
        clones = all.2;
        are = all.6;
        entries = all.3;
        held = all.4;
        fills =
            subst (λ (y : World _). FillsQueue place q y [] None all.2 new all.3 all.4) with_copy
            (subst (λ (s : CallerId). FillsQueue s.place q u [] None all.2 new all.3 all.4) at2 all.7);
        kept = all.8;
      },
      why.4,
    )
