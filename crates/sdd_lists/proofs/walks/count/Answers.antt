use Rattle.std.proofs.Common.{◌≡◌, ℕ, ◌∙◌, ap, sym, refl, List, length, Some, subst, arith}
use Rattle.sdd_world_model.specs.World.{World}
use Rattle.sdd_space.specs.CallerId.{IsExact, CallerId}
use Rattle.sdd_space.specs.Shared.{cell_of}
use Rattle.sdd_core.specs.declared.tag.Tag.{Tag}
use Rattle.sdd_participants.specs.Slab.{entry_at}
use Rattle.sdd_participants.specs.declared.standing.CellContents.{CellContents}
use Rattle.sdd_lists.specs.Lists.{AreLinked, Entry, content, first_slot, is_deleted, is_deleting}
use Rattle.sdd_lists.proofs.FirstEntries.{counted, one_for, tag_in}
use Rattle.sdd_lists.proofs.MoreWaiting.{knows-on}
use Rattle.sdd_lists.proofs.walks.count.Goals as goal

pub loop-step-init : goal.loop-step-init
loop-step-init g c = record {
  caller = c.in-Some.ensures.undisturbed.caller;
  own = c.in-Some.ensures.undisturbed.own;
  known = c.in-Some.ensures.undisturbed.known;
  keeps = c.in-Some.ensures.undisturbed.shown;
  world = c.in-Some.ensures.world;
  home = c.in-Some.ensures.home;
  link = c.in-Some.ensures.link;
  few = omega arith;
  found = λ e t es list.
      let w = g.S.Caller.world c.args.s.now in
      let held : CellContents = record { held = first_slot es; tag = t } in
      let f = c.in-Some.ensures.exact e es list.linked held list.begins refl in
      let long = ap length f.2 in
      let same = ap (λ (xs : List (Entry _)). length (content xs)) f.2 in (
        f.0,
        f.1,
        subst (λ (xs : List (Entry _)). AreLinked g.T.LinkedList.link w xs) f.2 list.linked,
        omega (arith, same),
        f.4,
        omega (arith, long, c.reach-most.ensures e es list.linked),
      );
}

pub returns-in_default-clause-exact : goal.returns-in_default-clause-exact
returns-in_default-clause-exact g c = λ e t es list.
    let held : CellContents = record { held = first_slot es; tag = t } in
    let none = c.in_default.ensures.exact e es list.linked held list.begins refl in
    sym (ap (λ (xs : List (Entry _)). length (content xs)) none)

pub returns-clause-exact : goal.returns-clause-exact
returns-clause-exact g c = λ e t es list.
    let f = c.loop-step.invariant.found e t es list in
    absurd (omega (arith, f.5))

pub loop-step-preserved : goal.loop-step-preserved
loop-step-preserved g c = record {
  caller = c.in-Some-first_in.ensures.undisturbed.caller ∙ c.one_if_kept-count.ensures.undisturbed.caller ∙ c.loop-step.invariant.caller;
  own = c.in-Some-first_in.ensures.undisturbed.own ∙ c.one_if_kept-count.ensures.undisturbed.own ∙ c.loop-step.invariant.own;
  known = knows-on (knows-on c.loop-step.invariant.known c.one_if_kept-count.ensures.undisturbed.known) c.in-Some-first_in.ensures.undisturbed.known;
  keeps = λ k v was. c.in-Some-first_in.ensures.undisturbed.shown k v (c.one_if_kept-count.ensures.undisturbed.shown k v (c.loop-step.invariant.keeps k v was));
  world = λ e.
      let at_loop = c.loop-step.invariant.caller in
      c.in-Some-first_in.ensures.world (subst (λ (s : CallerId). IsExact s) (sym (c.one_if_kept-count.ensures.undisturbed.caller ∙ at_loop)) e)
      ∙ (c.one_if_kept-count.ensures.exact (subst (λ (s : CallerId). IsExact s) (sym at_loop) e)).0 ∙ c.loop-step.invariant.world e;
  home = c.in-Some-first_in.ensures.home ∙ ap (λ (s : CallerId). s.home.cells) (c.one_if_kept-count.ensures.undisturbed.caller ∙ c.loop-step.invariant.caller);
  link = c.in-Some-first_in.ensures.link;
  few = omega (arith, c.loop-step.invariant.few, c.one_if_kept-count.ensures.most);
  found = λ e t es list.
      let link = g.T.LinkedList.link in
      let w = g.S.Caller.world c.args.s.now in
      let inv = c.loop-step.invariant.found e t es list in
      let at_loop = c.loop-step.invariant.caller in
      let seen = c.one_if_kept-count.ensures.exact (subst (λ (s : CallerId). IsExact s) (sym at_loop) e) in
      let same : g.S.Caller.world c.one_if_kept-count.new.s ≡ w = seen.0 ∙ c.loop-step.invariant.world e in
      let cell_is : cell_of c.loop-step.at.link.now ≡ link inv.0.value = c.loop-step.invariant.link ∙ ap link inv.4 in
      let here : entry_at w.cells (cell_of c.loop-step.at.link.now) ≡ Some (record { held = first_slot inv.1; tag = inv.0.tag }) =
      ap (λ (k : ℕ). entry_at w.cells k) cell_is ∙ inv.2.0.linked in
      let tags : seen.1.0.tag ≡ inv.0.tag =
      ap tag_in (sym seen.1.1 ∙ ap (λ (x : World _). entry_at x.cells (cell_of c.loop-step.at.link.now)) (c.loop-step.invariant.world e) ∙ here) in
      let one : c.one_if_kept-count.result ≡ one_for (is_deleted inv.0) = seen.1.2 ∙ ap (λ (x : Tag). one_for (is_deleting x)) tags in
      let sum = counted inv.0 inv.1 in
      let behind : CellContents = record { held = first_slot inv.1; tag = inv.0.tag } in
      let at_one : IsExact (g.S.Caller.caller c.one_if_kept-count.new.s) = subst (λ (s : CallerId). IsExact s)
      (sym (c.one_if_kept-count.ensures.undisturbed.caller ∙ at_loop)) e in
      let linked_now = subst (λ (x : World _). AreLinked link x inv.1) (sym same) inv.2.1 in
      let there_now : entry_at (g.S.Caller.world c.one_if_kept-count.new.s).cells (cell_of c.loop-step.at.link.now) ≡ Some behind =
      ap (λ (x : World _). entry_at x.cells (cell_of c.loop-step.at.link.now)) same ∙ here in
      let f = c.in-Some-first_in.ensures.exact at_one inv.1 linked_now behind there_now refl in
      let long = ap length f.2 in
      let rest_same = ap (λ (xs : List (Entry _)). length (content xs)) f.2 in (
        f.0,
        f.1,
        subst (λ (xs : List (Entry _)). AreLinked link w xs) f.2 inv.2.1,
        omega (arith, one, sum, rest_same, inv.3),
        f.4,
        omega (arith, long, inv.5),
      );
}

pub returns-in_default-first_in-clause-exact : goal.returns-in_default-first_in-clause-exact
returns-in_default-first_in-clause-exact g c = λ e t es list.
    let link = g.T.LinkedList.link in
    let w = g.S.Caller.world c.args.s.now in
    let inv = c.loop-step.invariant.found e t es list in
    let at_loop = c.loop-step.invariant.caller in
    let seen = c.one_if_kept-count.ensures.exact (subst (λ (s : CallerId). IsExact s) (sym at_loop) e) in
    let same : g.S.Caller.world c.one_if_kept-count.new.s ≡ w = seen.0 ∙ c.loop-step.invariant.world e in
    let cell_is : cell_of c.loop-step.at.link.now ≡ link inv.0.value = c.loop-step.invariant.link ∙ ap link inv.4 in
    let here : entry_at w.cells (cell_of c.loop-step.at.link.now) ≡ Some (record { held = first_slot inv.1; tag = inv.0.tag }) =
    ap (λ (k : ℕ). entry_at w.cells k) cell_is ∙ inv.2.0.linked in
    let tags : seen.1.0.tag ≡ inv.0.tag =
    ap tag_in (sym seen.1.1 ∙ ap (λ (x : World _). entry_at x.cells (cell_of c.loop-step.at.link.now)) (c.loop-step.invariant.world e) ∙ here) in
    let one : c.one_if_kept-count.result ≡ one_for (is_deleted inv.0) = seen.1.2 ∙ ap (λ (x : Tag). one_for (is_deleting x)) tags in
    let sum = counted inv.0 inv.1 in
    let behind : CellContents = record { held = first_slot inv.1; tag = inv.0.tag } in
    let at_one : IsExact (g.S.Caller.caller c.one_if_kept-count.new.s) = subst (λ (s : CallerId). IsExact s)
    (sym (c.one_if_kept-count.ensures.undisturbed.caller ∙ at_loop)) e in
    let linked_now = subst (λ (x : World _). AreLinked link x inv.1) (sym same) inv.2.1 in
    let there_now : entry_at (g.S.Caller.world c.one_if_kept-count.new.s).cells (cell_of c.loop-step.at.link.now) ≡ Some behind =
    ap (λ (x : World _). entry_at x.cells (cell_of c.loop-step.at.link.now)) same ∙ here in
    let none = c.in_default-first_in.ensures.exact at_one inv.1 linked_now behind there_now refl in
    let rest_none = ap (λ (xs : List (Entry _)). length (content xs)) none in
    omega (arith, one, sum, rest_none, inv.3)
