use Rattle.std.proofs.Common.{◌≡◌, ℕ, List, [], ◌∷◌, length, ◌∙◌, ap, sym, refl, subst, arith}
use Rattle.sdd_world_model.specs.World.{World}
use Rattle.sdd_space.specs.CallerId.{CallerId, IsExact}
use Rattle.sdd_space.specs.Shared.{cell_of}
use Rattle.sdd_participants.specs.Slab.{entry_at}
use Rattle.sdd_participants.specs.declared.standing.CellContents.{CellContents}
use Rattle.sdd_lists.specs.Lists.{Entry, first_slot, let_go_first, IsList, emptied}
use Rattle.sdd_lists.proofs.MoreWaiting.{grows-not, knows-on, knows-same}
use Rattle.sdd_lists.proofs.FirstEntries.{none-of}
use Rattle.sdd_lists.proofs.Lists.{behind}
use Rattle.sdd_lists.proofs.PoppedLists.{apart-first}
use Rattle.sdd_lists.proofs.moves.let_go_of_all.Goals as goal

pub loop-step-init : goal.loop-step-init
loop-step-init g c = record {
  caller = refl;
  own = λ start grown. grown;
  known = knows-same (g.S.Caller.known c.args.s.now);
  keeps = λ k v was. was;
  list = λ e t es list. (es, list, refl, omega (arith, c.reach-most.ensures e es list.linked));
}

pub loop-step-preserved : goal.loop-step-preserved
loop-step-preserved g c = record {
  caller = c.let_go_of_first.ensures.unmoved.caller ∙ c.in-Some.ensures.undisturbed.caller ∙ c.loop-step.invariant.caller;
  own = λ start grown.
      c.let_go_of_first.ensures.own start
      (grows-not (g.S.Caller.own c.loop-step.s) _ c.in-Some.ensures.undisturbed.own start (c.loop-step.invariant.own start grown));
  known = knows-on (knows-on c.loop-step.invariant.known c.in-Some.ensures.undisturbed.known) c.let_go_of_first.ensures.unmoved.known;
  keeps = λ k v was. c.let_go_of_first.ensures.unmoved.shown k v (c.in-Some.ensures.undisturbed.shown k v (c.loop-step.invariant.keeps k v was));
  list = λ e t es list.
      let link = g.T.LinkedList.link in
      let place = (g.S.Caller.caller c.args.s.now).place in
      let cell : ℕ = cell_of c.args.cell.now in
      let w = g.S.Caller.world c.loop-step.s in
      let inv = c.loop-step.invariant.list e t es list in
      let at0 = c.loop-step.invariant.caller in
      let at1 = c.in-Some.ensures.undisturbed.caller ∙ at0 in
      let ex0 = subst (λ (s : CallerId). IsExact s) (sym at0) e in
      let same = c.in-Some.ensures.world ex0 in
      let held : CellContents = record { held = first_slot inv.0; tag = t } in
      let found = c.in-Some.ensures.exact ex0 inv.0 inv.1.linked held inv.1.begins refl in
      let x : Entry _ = found.0 in
      let rest : List (Entry _) = found.1 in
      let here : IsList link w cell t (x ∷ rest) = subst (λ (xs : List (Entry _)). IsList link w cell t xs) found.2 inv.1 in
      let cell_is : cell_of c.in-Some.front.link.now ≡ link x.value = c.in-Some.ensures.link ∙ ap link found.4 in
      let gone = c.let_go_of_first.ensures.exact (subst (λ (s : CallerId). IsExact s) (sym at1) e) x.slot t x.tag (first_slot rest)
      (ap (λ (y : World _). entry_at y.cells cell) same ∙ here.begins)
      (ap (λ (y : World _). entry_at y.cells (cell_of c.in-Some.front.link.now)) same ∙ ap (λ (k : ℕ). entry_at w.cells k) cell_is ∙ here.linked.0.linked)
      (λ meet. apart-first link w place cell t x rest here (meet ∙ cell_is)) in
      let made : g.S.Caller.world c.let_go_of_first.new.s ≡ let_go_first w place cell t x.slot (link x.value) (first_slot rest) =
      gone ∙ ap (λ (y : World _). let_go_first y (g.S.Caller.caller c.first_in.new.s).place cell t x.slot (cell_of c.in-Some.front.link.now)
      (first_slot rest)) same
      ∙ ap (λ (s : CallerId). let_go_first w s.place cell t x.slot (cell_of c.in-Some.front.link.now) (first_slot rest)) at1
      ∙ ap (λ (k : ℕ). let_go_first w place cell t x.slot k (first_slot rest)) cell_is in
      let long = ap length found.2 in (
        rest,
        subst (λ (y : World _). IsList link y cell t rest) (sym made) (behind link w place cell t x rest here),
        ap (λ (y : World _). emptied link y place cell t rest) made ∙ ap (λ (xs : List (Entry _)). emptied link w place cell t xs) (sym found.2) ∙ inv.2,
        omega (arith, long, inv.3),
      );
}

pub returns-in_default-clause-own : goal.returns-in_default-clause-own
returns-in_default-clause-own g c = λ start grown.
    grows-not (g.S.Caller.own c.loop-step.s) _ c.in_default.ensures.undisturbed.own start (c.loop-step.invariant.own start grown)

pub returns-in_default-clause-exact : goal.returns-in_default-clause-exact
returns-in_default-clause-exact g c = λ e t es list.
    let link = g.T.LinkedList.link in
    let place = (g.S.Caller.caller c.args.s.now).place in
    let cell : ℕ = cell_of c.args.cell.now in
    let w = g.S.Caller.world c.loop-step.s in
    let inv = c.loop-step.invariant.list e t es list in
    let ex0 = subst (λ (s : CallerId). IsExact s) (sym c.loop-step.invariant.caller) e in
    let same = c.in_default.ensures.world ex0 in
    let held : CellContents = record { held = first_slot inv.0; tag = t } in
    let none = c.in_default.ensures.exact ex0 inv.0 inv.1.linked held inv.1.begins refl in (
      subst (λ (y : World _). IsList link y cell t []) (sym same) (subst (λ (xs : List (Entry _)). IsList link w cell t xs) none inv.1),
      same ∙ ap (λ (xs : List (Entry _)). emptied link w place cell t xs) (sym none) ∙ inv.2,
    )

pub returns-clause-exact : goal.returns-clause-exact
returns-clause-exact g c = λ e t es list.
    let link = g.T.LinkedList.link in
    let place = (g.S.Caller.caller c.args.s.now).place in
    let cell : ℕ = cell_of c.args.cell.now in
    let w = g.S.Caller.world c.loop-step.s in
    let inv = c.loop-step.invariant.list e t es list in
    let none = none-of inv.0 (omega (arith, inv.3)) in (
      subst (λ (xs : List (Entry _)). IsList link w cell t xs) none inv.1,
      ap (λ (xs : List (Entry _)). emptied link w place cell t xs) (sym none) ∙ inv.2,
    )
