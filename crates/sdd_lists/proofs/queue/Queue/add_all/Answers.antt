use Rattle.std.proofs.Common.{◌∷◌, ◌++◌, Some, [], ◌∙◌, ap, refl, sym, subst}
use Rattle.sdd_space.specs.CallerId.{CallerId, IsExact, IsSeated}
use Rattle.sdd_world_model.specs.OwnerOrCell.{AreOf}
use Rattle.sdd_world_model.specs.World.{World}
use Rattle.sdd_lists.specs.Filling.{RefusesPush}
use Rattle.sdd_lists.specs.QueueFilling.{AddsBehind, FillsQueue}
use Rattle.sdd_lists.specs.Queue.{AreOfCells, cells_in}
use Rattle.sdd_lists.proofs.Filling.{yields-more}
use Rattle.sdd_lists.proofs.QueueFilling.{none-behind, one-behind}
use Rattle.sdd_lists.proofs.MoreWaiting.{knows-on, knows-same}
use Rattle.sdd_lists.proofs.queue.Queue.add_all.Goals as goal

pub loop-value-init : goal.loop-value-init
loop-value-init g c = record {
  caller = refl;
  own = λ start grown. grown;
  known = knows-same (g.S.Caller.known c.args.s.now);
  keeps = λ k v was. was;
  list = λ e es second queue.
      let place = (g.S.Caller.caller c.args.s.now).place in
      ([], es, second, refl, none-behind place (cells_in c.args.self.now) (g.S.Caller.world c.args.s.now) es second queue);
}

pub add-requires : goal.add-requires
add-requires g c = record {
  seated = subst (λ (s : CallerId). IsSeated s) (sym c.loop-value.invariant.caller) c.requires.seated;
  home = subst (λ (s : CallerId). AreOfCells s.home.cells c.args.self.now) (sym c.loop-value.invariant.caller) c.requires.home;
  value = subst (λ (s : CallerId). AreOf s.home (g.T.Item.holds c.in-Some.value)) (sym c.loop-value.invariant.caller)
      (c.requires.values c.loop-value.items c.next.new.self c.in-Some.value c.in-Some.ensures.steps);
  reader = c.requires.reader ∙ ap (λ (s : CallerId). s.reader) (sym c.loop-value.invariant.caller);
}

pub loop-value-preserved : goal.loop-value-preserved
loop-value-preserved g c = record {
  caller = c.add.ensures.unmoved.caller ∙ c.loop-value.invariant.caller;
  own = λ start grown. c.add.ensures.own start (c.loop-value.invariant.own start grown);
  known = knows-on c.loop-value.invariant.known c.add.ensures.unmoved.known;
  keeps = λ k v was. c.add.ensures.unmoved.shown k v (c.loop-value.invariant.keeps k v was);
  list = λ e es second queue.
      let w = g.S.Caller.world c.args.s.now in
      let v = g.S.Caller.world c.loop-value.s in
      let new = g.S.Caller.world c.add.new.s in
      let place = (g.S.Caller.caller c.args.s.now).place in
      let cell = cells_in c.args.self.now in
      let x = c.in-Some.value in
      let inv = c.loop-value.invariant.list e es second queue in
      let at = c.loop-value.invariant.caller in
      let more = c.in-Ok.ensures.list (subst (λ (s : CallerId). IsExact s) (sym at) e) inv.1 inv.2 inv.4.queue in
      let adds = subst (λ (s : CallerId). AddsBehind v s.place cell inv.1 inv.2 x new more.0 more.1) at more.2 in (
        inv.0 ++ x ∷ [],
        more.0,
        more.1,
        yields-more g.I.Iterator.next_gives c.args.items.now inv.0 c.loop-value.items c.next.new.self x inv.3 c.in-Some.ensures.steps,
        one-behind place cell w v new es inv.1 more.0 second inv.2 more.1 inv.0 x inv.4 adds,
      );
}

pub returns-in-Err-clause-unmoved : goal.returns-in-Err-clause-unmoved
returns-in-Err-clause-unmoved g c = record {
  caller = c.add.ensures.unmoved.caller ∙ c.loop-value.invariant.caller;
  known = knows-on c.loop-value.invariant.known c.add.ensures.unmoved.known;
  shown = λ k v was. c.add.ensures.unmoved.shown k v (c.loop-value.invariant.keeps k v was);
}

pub returns-in-Err-clause-own : goal.returns-in-Err-clause-own
returns-in-Err-clause-own g c = λ start grown. c.add.ensures.own start (c.loop-value.invariant.own start grown)

pub returns-in-Err-clause-list : goal.returns-in-Err-clause-list
returns-in-Err-clause-list g c = λ e es second queue.
    let w = g.S.Caller.world c.args.s.now in
    let place = (g.S.Caller.caller c.args.s.now).place in
    let inv = c.loop-value.invariant.list e es second queue in
    let why = c.in-Err.ensures.refused (subst (λ (s : CallerId). IsExact s) (sym c.loop-value.invariant.caller) e) inv.1 inv.2 inv.4.queue in (
      inv.0,
      inv.1,
      inv.2,
      subst (λ (y : World _). FillsQueue place (cells_in c.args.self.now) w es second inv.0 y inv.1 inv.2) (sym why.0) inv.4,
      (
        (
          c.loop-value.items,
          inv.3,
          subst (λ (x : _). g.I.Iterator.next_gives c.loop-value.items (Some x) c.next.new.self) (sym c.in-Err.ensures.back.0) c.in-Some.ensures.steps,
        ),
        subst (λ (y : World _). RefusesPush y c.in-Err.back.1) (sym why.0) why.1,
      ),
    )

pub returns-clause-unmoved : goal.returns-clause-unmoved
returns-clause-unmoved g c = record {
  caller = c.loop-value.invariant.caller;
  known = c.loop-value.invariant.known;
  shown = c.loop-value.invariant.keeps;
}

pub returns-clause-own : goal.returns-clause-own
returns-clause-own g c = c.loop-value.invariant.own

pub returns-clause-list : goal.returns-clause-list
returns-clause-list g c = λ e es second queue.
    let inv = c.loop-value.invariant.list e es second queue in (inv.0, inv.1, inv.2, inv.4, (c.loop-value.items, inv.3, c.in_default.ensures.steps))
