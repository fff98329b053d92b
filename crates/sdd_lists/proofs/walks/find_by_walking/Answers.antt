use Rattle.std.proofs.Common.{◌≡◌, ℕ, ◌∙◌, ap, sym, refl, List, length, Some, subst, arith}
use Rattle.sdd_world_model.specs.World.{World, standing_at}
use Rattle.sdd_space.specs.CallerId.{IsExact, CallerId}
use Rattle.sdd_participants.specs.declared.standing.CellContents.{CellContents}
use Rattle.sdd_world_model.specs.Slots.{IsSharedBy}
use Rattle.sdd_space.specs.Shared.{cell_of}
use Rattle.sdd_participants.specs.Slab.{entry_at}
use Rattle.sdd_core.specs.declared.tag.Tag.{Tag}
use Rattle.sdd_core.specs.declared.tag.Tag.TheVariants.{Second}
use Rattle.sdd_lists.specs.Lists.{AreLinked, Entry, first_slot, left}
use Rattle.sdd_lists.proofs.MoreWaiting.{knows-on}
use Rattle.sdd_lists.proofs.FirstEntries.{left-gone, left-stays}
use Rattle.sdd_lists.proofs.walks.find_by_walking.Goals as goal

pub loop-step-init : goal.loop-step-init
loop-step-init g c = record {
  caller = c.in-Some.ensures.undisturbed.caller;
  own = c.in-Some.ensures.undisturbed.own;
  known = c.in-Some.ensures.undisturbed.known;
  link = c.in-Some.ensures.link;
  shown = c.in-Some.ensures.shown;
  value = c.in-Some.ensures.value;
  keeps = c.in-Some.ensures.undisturbed.shown;
  world = c.in-Some.ensures.world;
  home = c.in-Some.ensures.home;
  found = λ e es linked held there first.
      let w = g.S.Caller.world c.args.s.now in
      let f = c.in-Some.ensures.exact e es linked held there first in
      let long = ap length f.2 in (
        f.0,
        f.1,
        subst (λ (xs : List (Entry _)). AreLinked g.T.LinkedList.link w xs) f.2 linked,
        ap left (sym f.2),
        f.3,
        f.4,
        f.5,
        omega (arith, long, c.reach-most.ensures e es linked),
      );
}

pub returns-clause-exact : goal.returns-clause-exact
returns-clause-exact g c = λ e es linked held there first.
    let f = c.loop-step.invariant.found e es linked held there first in
    absurd (omega (arith, f.7))

pub loop-step-preserved : goal.loop-step-preserved
loop-step-preserved g c = record {
  caller = c.in-Some-first_in.ensures.undisturbed.caller ∙ c.tag.ensures.undisturbed.caller ∙ c.loop-step.invariant.caller;
  own = c.in-Some-first_in.ensures.undisturbed.own ∙ c.tag.ensures.undisturbed.own ∙ c.loop-step.invariant.own;
  known = knows-on (knows-on c.loop-step.invariant.known c.tag.ensures.undisturbed.known) c.in-Some-first_in.ensures.undisturbed.known;
  link = c.in-Some-first_in.ensures.link;
  shown = c.in-Some-first_in.ensures.shown;
  value = c.in-Some-first_in.ensures.value;
  keeps = λ k v was. c.in-Some-first_in.ensures.undisturbed.shown k v (c.tag.ensures.undisturbed.shown k v (c.loop-step.invariant.keeps k v was));
  world = λ e.
      let at_loop = c.loop-step.invariant.caller in
      c.in-Some-first_in.ensures.world (subst (λ (s : CallerId). IsExact s) (sym (c.tag.ensures.undisturbed.caller ∙ at_loop)) e)
      ∙ (c.tag.ensures.exact (subst (λ (s : CallerId). IsExact s) (sym at_loop) e)).0 ∙ c.loop-step.invariant.world e;
  home = c.in-Some-first_in.ensures.home ∙ ap (λ (s : CallerId). s.home.cells) (c.tag.ensures.undisturbed.caller ∙ c.loop-step.invariant.caller);
  found = λ e es linked held there first.
      let link = g.T.LinkedList.link in
      let w = g.S.Caller.world c.args.s.now in
      let inv = c.loop-step.invariant.found e es linked held there first in
      let at_loop = c.loop-step.invariant.caller in
      let cell_is : cell_of c.loop-step.at.link.now ≡ link inv.0.value = c.loop-step.invariant.link ∙ ap link inv.5 in
      let tagged = c.tag.ensures.exact (subst (λ (s : CallerId). IsExact s) (sym at_loop) e) in
      let same : g.S.Caller.world c.tag.new.s ≡ w = tagged.0 ∙ c.loop-step.invariant.world e in
      let here : entry_at w.cells (link inv.0.value) ≡ Some (record { held = tagged.1.0.held; tag = c.tag.result }) =
      ap (λ (x : ℕ). entry_at w.cells x) (sym cell_is)
      ∙ ap (λ (x : World _). entry_at x.cells (cell_of c.loop-step.at.link.now)) (sym (c.loop-step.invariant.world e)) ∙ tagged.1.1
      ∙ ap (λ (x : Tag). Some (record { held = tagged.1.0.held; tag = x })) (sym tagged.1.2) in
      let deleted : entry_at w.cells (link inv.0.value) ≡ Some (record { held = tagged.1.0.held; tag = Second }) =
      here ∙ ap (λ (x : Tag). Some (record { held = tagged.1.0.held; tag = x })) c.in-Second.is in
      let lefts = left-gone link w inv.0 inv.1 tagged.1.0.held inv.2 deleted in
      let behind : CellContents = record { held = first_slot inv.1; tag = inv.0.tag } in
      let at_tag : IsExact (g.S.Caller.caller c.tag.new.s) = subst (λ (s : CallerId). IsExact s) (sym (c.tag.ensures.undisturbed.caller ∙ at_loop)) e in
      let linked_now = subst (λ (x : World _). AreLinked link x inv.1) (sym same) inv.2.1 in
      let there_now : entry_at (g.S.Caller.world c.tag.new.s).cells (cell_of c.loop-step.at.link.now) ≡ Some behind =
      ap (λ (x : World _). entry_at x.cells (cell_of c.loop-step.at.link.now)) same ∙ ap (λ (x : ℕ). entry_at w.cells x) cell_is ∙ inv.2.0.linked in
      let f = c.in-Some-first_in.ensures.exact at_tag inv.1 linked_now behind there_now refl in
      let long = ap length f.2 in (
        f.0,
        f.1,
        subst (λ (xs : List (Entry _)). AreLinked link w xs) f.2 inv.2.1,
        ap left (sym f.2) ∙ sym lefts ∙ inv.3,
        f.3,
        f.4,
        subst (λ (x : World _). (n : ℕ) × IsSharedBy n (standing_at x f.0.slot)) same f.5,
        omega (arith, long, inv.7),
      );
}

pub returns-in_default-first_in-clause-exact : goal.returns-in_default-first_in-clause-exact
returns-in_default-first_in-clause-exact g c = λ e es linked held there first.
    let link = g.T.LinkedList.link in
    let w = g.S.Caller.world c.args.s.now in
    let inv = c.loop-step.invariant.found e es linked held there first in
    let at_loop = c.loop-step.invariant.caller in
    let cell_is : cell_of c.loop-step.at.link.now ≡ link inv.0.value = c.loop-step.invariant.link ∙ ap link inv.5 in
    let tagged = c.tag.ensures.exact (subst (λ (s : CallerId). IsExact s) (sym at_loop) e) in
    let same : g.S.Caller.world c.tag.new.s ≡ w = tagged.0 ∙ c.loop-step.invariant.world e in
    let here : entry_at w.cells (link inv.0.value) ≡ Some (record { held = tagged.1.0.held; tag = c.tag.result }) =
    ap (λ (x : ℕ). entry_at w.cells x) (sym cell_is)
    ∙ ap (λ (x : World _). entry_at x.cells (cell_of c.loop-step.at.link.now)) (sym (c.loop-step.invariant.world e)) ∙ tagged.1.1
    ∙ ap (λ (x : Tag). Some (record { held = tagged.1.0.held; tag = x })) (sym tagged.1.2) in
    let deleted : entry_at w.cells (link inv.0.value) ≡ Some (record { held = tagged.1.0.held; tag = Second }) =
    here ∙ ap (λ (x : Tag). Some (record { held = tagged.1.0.held; tag = x })) c.in-Second.is in
    let lefts = left-gone link w inv.0 inv.1 tagged.1.0.held inv.2 deleted in
    let behind : CellContents = record { held = first_slot inv.1; tag = inv.0.tag } in
    let at_tag : IsExact (g.S.Caller.caller c.tag.new.s) = subst (λ (s : CallerId). IsExact s) (sym (c.tag.ensures.undisturbed.caller ∙ at_loop)) e in
    let linked_now = subst (λ (x : World _). AreLinked link x inv.1) (sym same) inv.2.1 in
    let there_now : entry_at (g.S.Caller.world c.tag.new.s).cells (cell_of c.loop-step.at.link.now) ≡ Some behind =
    ap (λ (x : World _). entry_at x.cells (cell_of c.loop-step.at.link.now)) same ∙ ap (λ (x : ℕ). entry_at w.cells x) cell_is ∙ inv.2.0.linked in
    let none = c.in_default-first_in.ensures.exact at_tag inv.1 linked_now behind there_now refl in
    sym inv.3 ∙ lefts ∙ ap left none

pub returns-in_default-tag-clause-exact : goal.returns-in_default-tag-clause-exact
returns-in_default-tag-clause-exact g c = λ e es linked held there first.
    let link = g.T.LinkedList.link in
    let w = g.S.Caller.world c.args.s.now in
    let inv = c.loop-step.invariant.found e es linked held there first in
    let at_loop = c.loop-step.invariant.caller in
    let cell_is : cell_of c.loop-step.at.link.now ≡ link inv.0.value = c.loop-step.invariant.link ∙ ap link inv.5 in
    let tagged = c.tag.ensures.exact (subst (λ (s : CallerId). IsExact s) (sym at_loop) e) in
    let here : entry_at w.cells (link inv.0.value) ≡ Some (record { held = tagged.1.0.held; tag = c.tag.result }) =
    ap (λ (x : ℕ). entry_at w.cells x) (sym cell_is)
    ∙ ap (λ (x : World _). entry_at x.cells (cell_of c.loop-step.at.link.now)) (sym (c.loop-step.invariant.world e)) ∙ tagged.1.1
    ∙ ap (λ (x : Tag). Some (record { held = tagged.1.0.held; tag = x })) (sym tagged.1.2) in
    let lefts = left-stays link w inv.0 inv.1 tagged.1.0.held c.tag.result inv.2 here c.in_default-tag.not-Second in
    (inv.0, inv.1, sym inv.3 ∙ lefts, inv.4, inv.5, inv.6)
