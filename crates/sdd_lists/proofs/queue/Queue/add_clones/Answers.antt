use Rattle.std.proofs.Common.{◌≡◌, ◌++◌, ◌∷◌, [], ◌∙◌, List, append_assoc, ap, refl, sym, subst}
use Rattle.std.specs.Prelude.{drop}
use Rattle.std.proofs.lemmas.List.Elements.{AllZip-push}
use Rattle.sdd_space.specs.CallerId.{CallerId, IsExact}
use Rattle.sdd_world_model.specs.World.{World}
use Rattle.sdd_lists.specs.Cloning.{IsQueueBeside, RefusesClone}
use Rattle.sdd_lists.specs.Entries.{link_of}
use Rattle.sdd_lists.specs.Lists.{Entry, left}
use Rattle.sdd_lists.specs.Queue.{IsQueue, cells_in}
use Rattle.sdd_lists.specs.QueueFilling.{AddsBehind, FillsQueue}
use Rattle.sdd_lists.specs.Walk.{IsWalkOf, shown_of}
use Rattle.sdd_lists.proofs.Cloning.{beside-behind, queue-still, stands-still}
use Rattle.sdd_lists.proofs.MoreWaiting.{grows-not, knows-on, knows-same}
use Rattle.sdd_lists.proofs.QueueFilling.{none-behind, one-behind}
use Rattle.sdd_lists.proofs.WalkPositions.{shown-step}
use Rattle.sdd_lists.proofs.queue.Queue.add_clones.Goals as goal

pub loop-value-init : goal.loop-value-init
loop-value-init g c = record {
  caller = refl;
  own = λ start grown. grown;
  known = knows-same (g.S.Caller.known c.args.s.now);
  keeps = λ k v was. was;
  walk = c.requires.walk;
  list = λ e es second queue from now fs held stood beside source.
      let place = (g.S.Caller.caller c.args.s.now).place in
      let none = none-behind place (cells_in c.args.self.now) (g.S.Caller.world c.args.s.now) es second queue in
      (now, [], [], es, second, stood, beside, refl, tt, none, source);
}

pub loop-value-preserved : goal.loop-value-preserved
loop-value-preserved g c = record {
  caller = c.add_clone.ensures.unmoved.caller ∙ c.in-Some.ensures.undisturbed.caller ∙ c.loop-value.invariant.caller;
  own = λ start grown.
      c.add_clone.ensures.own start
      (grows-not (g.S.Caller.own c.loop-value.s) _ c.in-Some.ensures.undisturbed.own start (c.loop-value.invariant.own start grown));
  known = knows-on (knows-on c.loop-value.invariant.known c.in-Some.ensures.undisturbed.known) c.add_clone.ensures.unmoved.known;
  keeps = λ k v was. c.add_clone.ensures.unmoved.shown k v (c.in-Some.ensures.undisturbed.shown k v (c.loop-value.invariant.keeps k v was));
  walk = subst (λ (s : CallerId). IsWalkOf s.home.cells c.next.new.self) c.loop-value.invariant.caller c.in-Some.ensures.home;
  list = λ e es second queue from now fs held stood beside source.
      let w = g.S.Caller.world c.args.s.now in
      let v = g.S.Caller.world c.loop-value.s in
      let u = g.S.Caller.world c.next.new.s in
      let new = g.S.Caller.world c.add_clone.new.s in
      let place = (g.S.Caller.caller c.args.s.now).place in
      let q = cells_in c.args.self.now in
      let x = c.in-Some.value.now in
      let got = c.loop-value.invariant.list e es second queue from now fs held stood beside source in
      let rest : List (Entry _) = got.0 in
      let at0 = c.loop-value.invariant.caller in
      let at1 = c.in-Some.ensures.undisturbed.caller ∙ at0 in
      let ex0 = subst (λ (s : CallerId). IsExact s) (sym at0) e in
      let ex1 = subst (λ (s : CallerId). IsExact s) (sym at1) e in
      let same : u ≡ v = c.in-Some.ensures.world ex0 in
      let next = c.in-Some.ensures.entries ex0 rest got.5 in
      let more = c.in-Ok.ensures.list ex1 got.3 got.4 (subst (λ (y : World _). IsQueue link_of y q got.3 got.4) (sym same) got.9.queue) in
      let adds = subst (λ (s : CallerId). AddsBehind u s.place q got.3 got.4 more.0 new more.2 more.3) at1 more.4 in
      let unused = c.values_fit_slots.ensures.bare ex1 in
      let stands = stands-still u new place q got.3 more.2 got.4 more.3 more.0 adds unused c.next.new.self (left (drop 1 rest)) next.1
      (beside-behind q got.3 rest got.6) in
      let filled = subst (λ (y : World _). FillsQueue place q w es second got.2 y got.3 got.4) (sym same) got.9 in (
        left (drop 1 rest),
        got.1 ++ x ∷ [],
        got.2 ++ more.0 ∷ [],
        more.2,
        more.3,
        stands.0,
        stands.1,
        got.7 ∙ ap (λ (ys : List _). got.1 ++ ys) (shown-step v c.loop-value.walk rest x got.5 next.0)
            ∙ sym (append_assoc got.1 (x ∷ []) (shown_of (left (drop 1 rest)))),
        AllZip-push g.T.CloneValue.is_clone got.1 got.2 x more.0 got.8 more.1,
        one-behind place q w u new es got.3 more.2 second got.4 more.3 got.2 more.0 filled adds,
        queue-still u new place q got.3 more.2 got.4 more.3 more.0 adds unused from fs held
            (subst (λ (y : World _). IsQueueBeside y from fs held q got.3) (sym same) got.10),
      );
}

pub returns-in-Err-clause-list : goal.returns-in-Err-clause-list
returns-in-Err-clause-list g c = λ e es second queue from now fs held stood beside source.
    let w = g.S.Caller.world c.args.s.now in
    let v = g.S.Caller.world c.loop-value.s in
    let u = g.S.Caller.world c.next.new.s in
    let place = (g.S.Caller.caller c.args.s.now).place in
    let q = cells_in c.args.self.now in
    let x = c.in-Some.value.now in
    let got = c.loop-value.invariant.list e es second queue from now fs held stood beside source in
    let rest : List (Entry _) = got.0 in
    let at0 = c.loop-value.invariant.caller in
    let ex0 = subst (λ (s : CallerId). IsExact s) (sym at0) e in
    let ex1 = subst (λ (s : CallerId). IsExact s) (sym (c.in-Some.ensures.undisturbed.caller ∙ at0)) e in
    let same : u ≡ v = c.in-Some.ensures.world ex0 in
    let next = c.in-Some.ensures.entries ex0 rest got.5 in
    let why = c.in-Err.ensures.refused ex1 got.3 got.4 (subst (λ (y : World _). IsQueue link_of y q got.3 got.4) (sym same) got.9.queue) in
    let back = sym (why.0 ∙ same) in (
      got.1,
      shown_of rest,
      got.2,
      got.3,
      got.4,
      got.7,
      got.8,
      subst (λ (y : World _). FillsQueue place q w es second got.2 y got.3 got.4) back got.9,
      subst (λ (y : World _). IsQueue link_of y from fs held) back got.10.queue,
      (
        why.1,
        x,
        shown_of (left (drop 1 rest)),
        shown-step v c.loop-value.walk rest x got.5 next.0,
        subst (λ (y : World _). RefusesClone g.T.CloneValue.is_clone g.T.CloneValue.is_infallible y x c.in-Err.back.1) (sym why.0) why.2,
      ),
    )

pub returns-clause-own : goal.returns-clause-own
returns-clause-own g c = λ start grown.
    grows-not (g.S.Caller.own c.loop-value.s) _ c.in_default.ensures.undisturbed.own start (c.loop-value.invariant.own start grown)
