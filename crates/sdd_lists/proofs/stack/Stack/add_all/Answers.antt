use Rattle.std.proofs.Common.{◌≡◌, ◌⊎◌, ◌∷◌, ◌++◌, Some, [], ◌∙◌, ap, refl, sym, subst, rules}
use Rattle.sdd_core.specs.declared.refused.Refused.TheVariants.{NoCell, NoSlot}
use Rattle.sdd_space.specs.CallerId.{CallerId, IsExact, IsSeated}
use Rattle.sdd_world_model.specs.OwnerOrCell.{AreOf}
use Rattle.sdd_space.specs.Refusals.{IsRefusedBy}
use Rattle.sdd_world_model.specs.World.{World}
use Rattle.sdd_lists.specs.Filling.{AddsOnto, FillsStack, RefusesPush}
use Rattle.sdd_lists.specs.Stack.{cell_in}
use Rattle.sdd_lists.proofs.Filling.{none-added, one-added, yields-more}
use Rattle.sdd_lists.proofs.MoreWaiting.{knows-on, knows-same}
use Rattle.sdd_lists.proofs.stack.Stack.add_all.Goals as goal

pub loop-value-init : goal.loop-value-init
loop-value-init g c = record {
  caller = refl;
  own = λ start grown. grown;
  known = knows-same (g.S.Caller.known c.args.s.now);
  keeps = λ k v was. was;
  list = λ e es list.
      ([], es, refl, none-added (g.S.Caller.caller c.args.s.now).place (cell_in c.args.self.now) (g.S.Caller.world c.args.s.now) es list);
}

pub add-requires : goal.add-requires
add-requires g c = record {
  seated = subst (λ (s : CallerId). IsSeated s) (sym c.loop-value.invariant.caller) c.requires.seated;
  home = c.requires.home ∙ ap (λ (s : CallerId). s.home.cells) (sym c.loop-value.invariant.caller);
  value = subst (λ (s : CallerId). AreOf s.home (g.T.Item.holds c.in-Some.value)) (sym c.loop-value.invariant.caller)
      (c.requires.values c.loop-value.items c.next.new.self c.in-Some.value c.in-Some.ensures.steps);
  reader = c.requires.reader ∙ ap (λ (s : CallerId). s.reader) (sym c.loop-value.invariant.caller);
}

pub loop-value-preserved : goal.loop-value-preserved
loop-value-preserved g c = record {
  caller = c.add.ensures.unmoved.caller ∙ c.loop-value.invariant.caller;
  own = λ start grown. c.add.ensures.own start (c.loop-value.invariant.own start grown);
  known = knows-on c.loop-value.invariant.known c.add.ensures.unmoved.known;
  keeps = λ k v was. c.add.ensures.unmoved.shown k v (c.loop-value.invariant.keeps k v was);
  list = λ e es list.
      let w = g.S.Caller.world c.args.s.now in
      let v = g.S.Caller.world c.loop-value.s in
      let new = g.S.Caller.world c.add.new.s in
      let place = (g.S.Caller.caller c.args.s.now).place in
      let cell = cell_in c.args.self.now in
      let x = c.in-Some.value in
      let inv = c.loop-value.invariant.list e es list in
      let at = c.loop-value.invariant.caller in
      let more = c.in-Ok.ensures.list (subst (λ (s : CallerId). IsExact s) (sym at) e) inv.1 inv.3.list in
      let adds = subst (λ (s : CallerId). AddsOnto v s.place cell inv.1 x new more.0) at more.1 in (
        inv.0 ++ x ∷ [],
        more.0,
        yields-more g.I.Iterator.next_gives c.args.items.now inv.0 c.loop-value.items c.next.new.self x inv.2 c.in-Some.ensures.steps,
        one-added place cell w v new es inv.1 more.0 inv.0 x inv.3 adds,
      );
}

pub returns-in-Err : goal.returns-in-Err
returns-in-Err g c = record {
  unmoved = record {
    caller = c.add.ensures.unmoved.caller ∙ c.loop-value.invariant.caller;
    known = knows-on c.loop-value.invariant.known c.add.ensures.unmoved.known;
    shown = λ k v was. c.add.ensures.unmoved.shown k v (c.loop-value.invariant.keeps k v was);
  };
  own = λ start grown. c.add.ensures.own start (c.loop-value.invariant.own start grown);
  back = subst (λ (s : CallerId). (c.in-Err.back.1 ≡ NoSlot) ⊎ IsRefusedBy s NoCell c.in-Err.back.1) c.loop-value.invariant.caller c.in-Err.ensures.back.1;
  list = λ e es list.
      let w = g.S.Caller.world c.args.s.now in
      let place = (g.S.Caller.caller c.args.s.now).place in
      let inv = c.loop-value.invariant.list e es list in
      let why = c.in-Err.ensures.refused (subst (λ (s : CallerId). IsExact s) (sym c.loop-value.invariant.caller) e) in (
        inv.0,
        inv.1,
        subst (λ (y : World _). FillsStack place (cell_in c.args.self.now) w es inv.0 y inv.1) (sym why.0) inv.3,
        (
          (
            c.loop-value.items,
            inv.2,
            subst (λ (x : _). g.I.Iterator.next_gives c.loop-value.items (Some x) c.next.new.self) (sym c.in-Err.ensures.back.0) c.in-Some.ensures.steps,
          ),
          subst (λ (y : World _). RefusesPush y c.in-Err.back.1) (sym why.0) why.1,
        ),
      );
}

pub returns : goal.returns
returns g c = record {
  unmoved = record {
    caller = c.loop-value.invariant.caller;
    known = c.loop-value.invariant.known;
    shown = c.loop-value.invariant.keeps;
  };
  own = c.loop-value.invariant.own;
  back = search rules;
  list = λ e es list. let inv = c.loop-value.invariant.list e es list in (inv.0, inv.1, inv.3, (c.loop-value.items, inv.2, c.in_default.ensures.steps));
}
