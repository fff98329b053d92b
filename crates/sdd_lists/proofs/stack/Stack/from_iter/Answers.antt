use Rattle.std.proofs.Common.{[], sym, subst}
use Rattle.sdd_space.specs.CallerId.{CallerId, IsExact}
use Rattle.sdd_world_model.specs.World.{World}
use Rattle.sdd_lists.specs.Filling.{FillsStack}
use Rattle.sdd_lists.specs.Stack.{cell_in}
use Rattle.sdd_lists.proofs.stack.Stack.from_iter.Goals as goal

pub returns-in-Ok-add_all-clause-list : goal.returns-in-Ok-add_all-clause-list
returns-in-Ok-add_all-clause-list g c = λ e.
    let new = g.S.Caller.world c.add_all.new.s in
    let cell = cell_in c.in-Ok.stack in
    let at = c.in-Ok.ensures.undisturbed.caller in
    let made = c.in-Ok.ensures.world e in
    let all = c.in-Ok-add_all.ensures.list (subst (λ (s : CallerId). IsExact s) (sym at) e) [] (c.in-Ok.ensures.list e) in
    record {
      free = made.0;
      given = all.0;
      gives = all.3;
      entries = all.1;
      fills =
          subst (λ (y : World _). FillsStack (g.S.Caller.caller c.args.s.now).place cell y [] all.0 new all.1) made.1
          (subst (λ (s : CallerId). FillsStack s.place cell (g.S.Caller.world c.new.new.s) [] all.0 new all.1) at all.2);
    }

pub returns-in-Err-add_all-clause-list : goal.returns-in-Err-add_all-clause-list
returns-in-Err-add_all-clause-list g c = λ e.
    let new = g.S.Caller.world c.add_all.new.s in
    let cell = cell_in c.in-Ok.stack in
    let at = c.in-Ok.ensures.undisturbed.caller in
    let made = c.in-Ok.ensures.world e in
    let all = c.in-Err-add_all.ensures.list (subst (λ (s : CallerId). IsExact s) (sym at) e) [] (c.in-Ok.ensures.list e) in (
      record {
        free = made.0;
        given = all.0;
        gives = all.3.0;
        entries = all.1;
        fills =
            subst (λ (y : World _). FillsStack (g.S.Caller.caller c.args.s.now).place cell y [] all.0 new all.1) made.1
            (subst (λ (s : CallerId). FillsStack s.place cell (g.S.Caller.world c.new.new.s) [] all.0 new all.1) at all.2);
      },
      all.3.1,
    )
