use Rattle.std.proofs.Common.{◌≡◌, ℕ, ◌∙◌, ap, sym, refl, Some, subst, arith}
use Rattle.sdd_world_model.specs.World.{World}
use Rattle.sdd_space.specs.CallerId.{IsExact, CallerId}
use Rattle.sdd_space.specs.Shared.{cell_of}
use Rattle.sdd_participants.specs.Slab.{entry_at}
use Rattle.sdd_participants.specs.declared.standing.CellContents.{CellContents}
use Rattle.sdd_lists.specs.Lists.{AreLinked, first_slot}
use Rattle.sdd_lists.proofs.Ends.{ends-behind, left-ends, linked-ends, shorter, shorter-left, spent-of}
use Rattle.sdd_lists.proofs.MoreWaiting.{knows-on, knows-same}
use Rattle.sdd_lists.proofs.PoppedLists.{stays-of}
use Rattle.sdd_lists.proofs.walks.last_from.Goals as goal

pub loop-step-init : goal.loop-step-init
loop-step-init g c = record {
  caller = refl;
  own = refl;
  known = knows-same (g.S.Caller.known c.args.s.now);
  keeps = λ k v was. was;
  world = λ e. refl;
  home = c.requires.home;
  link = c.requires.link;
  shown = c.requires.shown;
  value = c.requires.value;
  found = λ e es linked x rest ends stays first. (x, rest, ends, stays, first, omega (arith, shorter es x rest ends, c.reach-most.ensures e es linked));
}

pub loop-step-preserved : goal.loop-step-preserved
loop-step-preserved g c =
    let same_caller = c.in-Ok-Some.ensures.undisturbed.caller in record {
      caller = same_caller ∙ c.loop-step.invariant.caller;
      own = c.in-Ok-Some.ensures.undisturbed.own ∙ c.loop-step.invariant.own;
      known = knows-on c.loop-step.invariant.known c.in-Ok-Some.ensures.undisturbed.known;
      keeps = λ k v was. c.in-Ok-Some.ensures.undisturbed.shown k v (c.loop-step.invariant.keeps k v was);
      world = λ e. c.in-Ok-Some.ensures.world (subst (λ (s : CallerId). IsExact s) (sym c.loop-step.invariant.caller) e) ∙ c.loop-step.invariant.world e;
      home = rw c.in-Ok-Some.field-0-is at c.in-Ok-Some.ensures.home ∙ ap (λ (s : CallerId). s.home.cells) c.loop-step.invariant.caller;
      link = rw c.in-Ok-Some.field-0-is at c.in-Ok-Some.ensures.link;
      shown = rw c.in-Ok-Some.field-0-is at c.in-Ok-Some.ensures.shown;
      value = rw c.in-Ok-Some.field-0-is at c.in-Ok-Some.ensures.value;
      found = λ e es linked x rest ends stays first.
          let link = g.T.LinkedList.link in
          let w = g.S.Caller.world c.args.s.now in
          let inv = c.loop-step.invariant.found e es linked x rest ends stays first in
          let ex = subst (λ (s : CallerId). IsExact s) (sym c.loop-step.invariant.caller) e in
          let same = c.loop-step.invariant.world e in
          let here = linked-ends link w es inv.0 inv.1 inv.2 linked in
          let cell_is : cell_of c.loop-step.at.link.now ≡ link inv.0.value = c.loop-step.invariant.link ∙ ap link inv.4 in
          let held : CellContents = record { held = first_slot inv.1; tag = inv.0.tag } in
          let there : entry_at (g.S.Caller.world c.loop-step.s).cells (cell_of c.loop-step.at.link.now) ≡ Some held =
          ap (λ (y : World _). entry_at y.cells (cell_of c.loop-step.at.link.now)) same ∙ ap (λ (k : ℕ). entry_at w.cells k) cell_is ∙ here.0.linked in
          let behind = subst (λ (y : World _). AreLinked link y inv.1) (sym same) here.1 in
          let found = rw c.in-Ok-Some.field-0-is at (c.in-Ok-Some.ensures.exact ex inv.1 behind held there refl) in (
            found.0,
            found.1,
            ends-behind es inv.0 inv.1 found.0 found.1 inv.2 (left-ends inv.1 found.0 found.1 found.2),
            stays-of inv.1 found.0 found.1 found.2,
            found.4,
            omega (arith, shorter-left inv.1 found.0 found.1 found.2, inv.5),
          );
    }

pub returns-in-Ok-None-clause-exact : goal.returns-in-Ok-None-clause-exact
returns-in-Ok-None-clause-exact g c = λ e es linked x rest ends stays first.
    let link = g.T.LinkedList.link in
    let w = g.S.Caller.world c.args.s.now in
    let inv = c.loop-step.invariant.found e es linked x rest ends stays first in
    let ex = subst (λ (s : CallerId). IsExact s) (sym c.loop-step.invariant.caller) e in
    let same = c.loop-step.invariant.world e in
    let here = linked-ends link w es inv.0 inv.1 inv.2 linked in
    let cell_is : cell_of c.loop-step.at.link.now ≡ link inv.0.value = c.loop-step.invariant.link ∙ ap link inv.4 in
    let held : CellContents = record { held = first_slot inv.1; tag = inv.0.tag } in
    let there : entry_at (g.S.Caller.world c.loop-step.s).cells (cell_of c.loop-step.at.link.now) ≡ Some held =
    ap (λ (y : World _). entry_at y.cells (cell_of c.loop-step.at.link.now)) same ∙ ap (λ (k : ℕ). entry_at w.cells k) cell_is ∙ here.0.linked in
    let behind = subst (λ (y : World _). AreLinked link y inv.1) (sym same) here.1 in
    let none = rw c.in-Ok-None.field-0-is at (c.in-Ok-None.ensures.exact ex inv.1 behind held there refl) in
    (inv.0, inv.1, record { ends = inv.2; stays = inv.3; spent = spent-of inv.1 none }, inv.4)

pub returns-in-Err-clause-exact : goal.returns-in-Err-clause-exact
returns-in-Err-clause-exact g c = λ e es linked x rest ends stays first.
    let link = g.T.LinkedList.link in
    let w = g.S.Caller.world c.args.s.now in
    let inv = c.loop-step.invariant.found e es linked x rest ends stays first in
    let ex = subst (λ (s : CallerId). IsExact s) (sym c.loop-step.invariant.caller) e in
    let same = c.loop-step.invariant.world e in
    let here = linked-ends link w es inv.0 inv.1 inv.2 linked in
    let cell_is : cell_of c.loop-step.at.link.now ≡ link inv.0.value = c.loop-step.invariant.link ∙ ap link inv.4 in
    let held : CellContents = record { held = first_slot inv.1; tag = inv.0.tag } in
    let there : entry_at (g.S.Caller.world c.loop-step.s).cells (cell_of c.loop-step.at.link.now) ≡ Some held =
    ap (λ (y : World _). entry_at y.cells (cell_of c.loop-step.at.link.now)) same ∙ ap (λ (k : ℕ). entry_at w.cells k) cell_is ∙ here.0.linked in
    let behind = subst (λ (y : World _). AreLinked link y inv.1) (sym same) here.1 in
    absurd (c.in-Err.ensures.exact ex inv.1 behind held there refl)

pub returns-clause-exact : goal.returns-clause-exact
returns-clause-exact g c = λ e es linked x rest ends stays first.
    let inv = c.loop-step.invariant.found e es linked x rest ends stays first in
    absurd (omega (arith, inv.5))
