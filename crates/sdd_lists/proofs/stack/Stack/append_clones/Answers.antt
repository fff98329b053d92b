use Rattle.std.proofs.Common.{◌≡◌, ◌++◌, ◌∷◌, [], ◌∙◌, List, append_assoc, ap, refl, sym, subst}
use Rattle.std.specs.Prelude.{drop}
use Rattle.std.proofs.lemmas.List.Elements.{AllZip-push}
use Rattle.sdd_space.specs.CallerId.{CallerId, IsExact}
use Rattle.sdd_world_model.specs.World.{World}
use Rattle.sdd_lists.specs.Cloning.{RefusesClone}
use Rattle.sdd_lists.specs.Lists.{Entry, left}
use Rattle.sdd_lists.specs.Stack.{IsStack, cell_in}
use Rattle.sdd_lists.specs.StackCloning.{AppendsTo, ExtendsStack, IsStackBeside, both}
use Rattle.sdd_lists.specs.Walk.{IsWalkOf, shown_of}
use Rattle.sdd_lists.proofs.Cloning.{beside-behind}
use Rattle.sdd_lists.proofs.MoreWaiting.{grows-not, knows-on, knows-same}
use Rattle.sdd_lists.proofs.StackCloning.{none-appended, one-appended, stack-still, walk-still}
use Rattle.sdd_lists.proofs.WalkPositions.{shown-step}
use Rattle.sdd_lists.proofs.stack.Stack.append_clones.Goals as goal

pub loop-value-init : goal.loop-value-init
loop-value-init g c = record {
  caller = refl;
  own = λ start grown. grown;
  known = knows-same (g.S.Caller.known c.args.s.now);
  keeps = λ k v was. was;
  walk = c.requires.walk;
  front = tt;
  list = λ e list from now fs stood beside source.
      let place = (g.S.Caller.caller c.args.s.now).place in
      let none = none-appended place (cell_in c.args.self.now) (g.S.Caller.world c.args.s.now) [] list in
      (now, [], [], [], stood, beside, refl, tt, none, source, refl);
}

pub loop-value-preserved : goal.loop-value-preserved
loop-value-preserved g c = record {
  caller = c.append_clone.ensures.unmoved.caller ∙ c.in-Some.ensures.undisturbed.caller ∙ c.loop-value.invariant.caller;
  own = λ start grown.
      c.append_clone.ensures.own start
      (grows-not (g.S.Caller.own c.loop-value.s) _ c.in-Some.ensures.undisturbed.own start (c.loop-value.invariant.own start grown));
  known = knows-on (knows-on c.loop-value.invariant.known c.in-Some.ensures.undisturbed.known) c.append_clone.ensures.unmoved.known;
  keeps = λ k v was. c.append_clone.ensures.unmoved.shown k v (c.in-Some.ensures.undisturbed.shown k v (c.loop-value.invariant.keeps k v was));
  walk = subst (λ (s : CallerId). IsWalkOf s.home.cells c.next.new.self) c.loop-value.invariant.caller c.in-Some.ensures.home;
  front = c.in-Ok.ensures.front ∙ ap (λ (s : CallerId). s.home.cells) (c.in-Some.ensures.undisturbed.caller ∙ c.loop-value.invariant.caller);
  list = λ e list from now fs stood beside source.
      let w = g.S.Caller.world c.args.s.now in
      let v = g.S.Caller.world c.loop-value.s in
      let u = g.S.Caller.world c.next.new.s in
      let new = g.S.Caller.world c.append_clone.new.s in
      let place = (g.S.Caller.caller c.args.s.now).place in
      let cell = cell_in c.args.self.now in
      let x = c.in-Some.value.now in
      let got = c.loop-value.invariant.list e list from now fs stood beside source in
      let rest : List (Entry _) = got.0 in
      let at0 = c.loop-value.invariant.caller in
      let at1 = c.in-Some.ensures.undisturbed.caller ∙ at0 in
      let ex0 = subst (λ (s : CallerId). IsExact s) (sym at0) e in
      let ex1 = subst (λ (s : CallerId). IsExact s) (sym at1) e in
      let same : u ≡ v = c.in-Some.ensures.world ex0 in
      let next = c.in-Some.ensures.entries ex0 rest got.4 in
      let more = c.in-Ok.ensures.list ex1 got.3 (subst (λ (y : World _). IsStack y cell got.3) (sym same) got.8.list) got.10 in
      let adds = subst (λ (s : CallerId). AppendsTo u s.place cell got.3 more.0 new more.2) at1 more.3 in
      let unused = c.values_fit_slots.ensures.bare ex1 in
      let stands = walk-still u new place cell got.3 more.2 more.0 adds unused c.next.new.self (left (drop 1 rest)) next.1
      (beside-behind (both cell) got.3 rest got.5) in
      let filled = subst (λ (y : World _). ExtendsStack place cell w [] got.2 y got.3) (sym same) got.8 in (
        left (drop 1 rest),
        got.1 ++ x ∷ [],
        got.2 ++ more.0 ∷ [],
        more.2,
        stands.0,
        stands.1,
        got.6 ∙ ap (λ (ys : List _). got.1 ++ ys) (shown-step v c.loop-value.walk rest x got.4 next.0)
            ∙ sym (append_assoc got.1 (x ∷ []) (shown_of (left (drop 1 rest)))),
        AllZip-push g.T.CloneValue.is_clone got.1 got.2 x more.0 got.7 more.1,
        one-appended place cell w u new [] got.3 more.2 got.2 more.0 filled adds unused,
        stack-still u new place cell got.3 more.2 more.0 adds unused from fs
            (subst (λ (y : World _). IsStackBeside y from fs cell got.3) (sym same) got.9),
        more.4,
      );
}

pub returns-in-Err-clause-list : goal.returns-in-Err-clause-list
returns-in-Err-clause-list g c = λ e list from now fs stood beside source.
    let w = g.S.Caller.world c.args.s.now in
    let v = g.S.Caller.world c.loop-value.s in
    let u = g.S.Caller.world c.next.new.s in
    let place = (g.S.Caller.caller c.args.s.now).place in
    let cell = cell_in c.args.self.now in
    let x = c.in-Some.value.now in
    let got = c.loop-value.invariant.list e list from now fs stood beside source in
    let rest : List (Entry _) = got.0 in
    let at0 = c.loop-value.invariant.caller in
    let ex0 = subst (λ (s : CallerId). IsExact s) (sym at0) e in
    let ex1 = subst (λ (s : CallerId). IsExact s) (sym (c.in-Some.ensures.undisturbed.caller ∙ at0)) e in
    let same : u ≡ v = c.in-Some.ensures.world ex0 in
    let next = c.in-Some.ensures.entries ex0 rest got.4 in
    let why = c.in-Err.ensures.refused ex1 in
    let back = sym (why.0 ∙ same) in (
      got.1,
      shown_of rest,
      got.2,
      got.3,
      got.6,
      got.7,
      subst (λ (y : World _). ExtendsStack place cell w [] got.2 y got.3) back got.8,
      subst (λ (y : World _). IsStack y from fs) back got.9.list,
      (
        why.1,
        x,
        shown_of (left (drop 1 rest)),
        shown-step v c.loop-value.walk rest x got.4 next.0,
        subst (λ (y : World _). RefusesClone g.T.CloneValue.is_clone g.T.CloneValue.is_infallible y x c.in-Err.back.1) (sym why.0) why.2,
      ),
    )

pub returns-clause-own : goal.returns-clause-own
returns-clause-own g c = λ start grown.
    grows-not (g.S.Caller.own c.loop-value.s) _ c.in_default.ensures.undisturbed.own start (c.loop-value.invariant.own start grown)
