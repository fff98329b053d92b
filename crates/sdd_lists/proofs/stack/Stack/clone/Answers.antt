use Rattle.std.proofs.Common.{◌≡◌, ◌++◌, [], ◌∙◌, List, ap, sym, subst}
use Rattle.sdd_space.specs.CallerId.{CallerId, IsExact}
use Rattle.sdd_world_model.specs.World.{World}
use Rattle.sdd_world_model.specs.WorldChanges.{nulled}
use Rattle.sdd_lists.specs.Lists.{left}
use Rattle.sdd_lists.specs.Stack.{IsStack, cell_in}
use Rattle.sdd_lists.specs.StackCloning.{ExtendsStack, IsStackBeside, both}
use Rattle.sdd_lists.proofs.Cloning.{beside-left}
use Rattle.sdd_lists.proofs.StackCloning.{stack-beside}
use Rattle.sdd_lists.proofs.WalkPositions.{shown-left}
use Rattle.sdd_lists.proofs.stack.Stack.clone.Goals as goal

pub returns-in-Ok-append_clones-clause-list : goal.returns-in-Ok-append_clones-clause-list
returns-in-Ok-append_clones-clause-list g c = λ e es list.
    let w = g.S.Caller.world c.args.s.now in
    let u = g.S.Caller.world c.walk-walk.new.s in
    let new = g.S.Caller.world c.append_clones.new.s in
    let place = (g.S.Caller.caller c.args.s.now).place in
    let from = cell_in c.args.self.now in
    let cell = cell_in c.in-Ok.copy in
    let at1 = c.in-Ok.ensures.undisturbed.caller in
    let at2 = c.walk-walk.ensures.undisturbed.caller ∙ at1 in
    let ex1 = subst (λ (s : CallerId). IsExact s) (sym at1) e in
    let ex2 = subst (λ (s : CallerId). IsExact s) (sym at2) e in
    let made = c.in-Ok.ensures.world e in
    let same : u ≡ g.S.Caller.world c.new.new.s = c.walk-walk.ensures.world ex1 in
    let with_copy : u ≡ nulled w cell = same ∙ made.1 in
    let source = stack-beside w cell made.0 from es list in
    let here = subst (λ (y : World _). IsStack y from es) (sym made.1) source.list in
    let all = c.in-Ok-append_clones.ensures.list ex2 (subst (λ (y : World _). IsStack y cell []) (sym same) (c.in-Ok.ensures.list e))
    from (left es) es (c.walk-walk.ensures.entries ex1 es here) (beside-left (both cell) [] es source.links)
    (subst (λ (y : World _). IsStackBeside y from es cell []) (sym with_copy) source) in
    record {
      free = made.0;
      first = all.0;
      parts = sym (shown-left es) ∙ all.4 ∙ ap (λ (ys : List _). all.0 ++ ys) all.8;
      clones = all.2;
      are = all.5;
      entries = all.3;
      fills =
          subst (λ (y : World _). ExtendsStack place cell y [] all.2 new all.3) with_copy
          (subst (λ (s : CallerId). ExtendsStack s.place cell u [] all.2 new all.3) at2 all.6);
      kept = all.7;
    }

pub returns-in-Err-append_clones-clause-list : goal.returns-in-Err-append_clones-clause-list
returns-in-Err-append_clones-clause-list g c = λ e es list.
    let w = g.S.Caller.world c.args.s.now in
    let u = g.S.Caller.world c.walk-walk.new.s in
    let new = g.S.Caller.world c.append_clones.new.s in
    let place = (g.S.Caller.caller c.args.s.now).place in
    let from = cell_in c.args.self.now in
    let cell = cell_in c.in-Ok.copy in
    let at1 = c.in-Ok.ensures.undisturbed.caller in
    let at2 = c.walk-walk.ensures.undisturbed.caller ∙ at1 in
    let ex1 = subst (λ (s : CallerId). IsExact s) (sym at1) e in
    let ex2 = subst (λ (s : CallerId). IsExact s) (sym at2) e in
    let made = c.in-Ok.ensures.world e in
    let same : u ≡ g.S.Caller.world c.new.new.s = c.walk-walk.ensures.world ex1 in
    let with_copy : u ≡ nulled w cell = same ∙ made.1 in
    let source = stack-beside w cell made.0 from es list in
    let here = subst (λ (y : World _). IsStack y from es) (sym made.1) source.list in
    let all = c.in-Err-append_clones.ensures.list ex2 (subst (λ (y : World _). IsStack y cell []) (sym same) (c.in-Ok.ensures.list e))
    from (left es) es (c.walk-walk.ensures.entries ex1 es here) (beside-left (both cell) [] es source.links)
    (subst (λ (y : World _). IsStackBeside y from es cell []) (sym with_copy) source) in
    let why = all.8 in (
      why.0,
      why.1,
      why.2,
      record {
        free = made.0;
        first = all.0;
        parts = sym (shown-left es) ∙ all.4 ∙ ap (λ (ys : List _). all.0 ++ ys) why.3;
        clones = all.2;
        are = all.5;
        entries = all.3;
        fills =
            subst (λ (y : World _). ExtendsStack place cell y [] all.2 new all.3) with_copy
            (subst (λ (s : CallerId). ExtendsStack s.place cell u [] all.2 new all.3) at2 all.6);
        kept = all.7;
      },
      why.4,
    )
