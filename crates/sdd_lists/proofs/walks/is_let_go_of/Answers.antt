use Rattle.std.proofs.Common.{◌≡◌, ℕ, ◌∙◌, ap, sym, refl, List, length, Some, true, false, subst, arith}
use Rattle.sdd_world_model.specs.World.{World}
use Rattle.sdd_space.specs.CallerId.{IsExact, CallerId}
use Rattle.sdd_space.specs.Shared.{cell_of}
use Rattle.sdd_participants.specs.Slab.{entry_at}
use Rattle.sdd_participants.specs.declared.standing.CellContents.{CellContents}
use Rattle.sdd_lists.specs.Lists.{AreLinked, Entry, first_slot, is_deleted, is_deleting}
use Rattle.sdd_lists.specs.Queue.{lets_go_of}
use Rattle.sdd_lists.proofs.FirstEntries.{tag_in, undeleting}
use Rattle.sdd_lists.proofs.MoreWaiting.{knows-on}
use Rattle.sdd_lists.proofs.QueuePops.{goes-here, goes-on, goes-not}
use Rattle.sdd_lists.proofs.walks.is_let_go_of.Goals as goal

pub returns-in_default-clause-exact : goal.returns-in_default-clause-exact
returns-in_default-clause-exact g c = λ e t es list.
    let held : CellContents = record { held = first_slot es; tag = t } in
    let none = c.in_default.ensures.exact e es list.linked held list.begins refl in
    sym (ap (lets_go_of c.args.watched) none)

pub loop-step-init : goal.loop-step-init
loop-step-init g c = record {
  caller = c.in-Some.ensures.undisturbed.caller;
  own = c.in-Some.ensures.undisturbed.own;
  known = c.in-Some.ensures.undisturbed.known;
  keeps = c.in-Some.ensures.undisturbed.shown;
  world = c.in-Some.ensures.world;
  home = c.in-Some.ensures.home;
  link = c.in-Some.ensures.link;
  found = λ e t es list.
      let w = g.S.Caller.world c.args.s.now in
      let held : CellContents = record { held = first_slot es; tag = t } in
      let f = c.in-Some.ensures.exact e es list.linked held list.begins refl in
      let long = ap length f.2 in (
        f.0,
        f.1,
        subst (λ (xs : List (Entry _)). AreLinked g.T.LinkedList.link w xs) f.2 list.linked,
        sym (ap (lets_go_of c.args.watched) f.2),
        f.3,
        f.4,
        omega (arith, long, c.reach-most.ensures e es list.linked),
      );
}

pub returns-clause-exact : goal.returns-clause-exact
returns-clause-exact g c = λ e t es list.
    let f = c.loop-step.invariant.found e t es list in
    absurd (omega (arith, f.6))

pub returns-then-is_named-clause-exact : goal.returns-then-is_named-clause-exact
returns-then-is_named-clause-exact g c = λ e t es list.
    let inv = c.loop-step.invariant.found e t es list in
    sym (goes-here c.args.watched inv.0 inv.1 (sym (c.is_named.ensures inv.0 inv.4) ∙ c.if-is_named.true)) ∙ inv.3

pub returns-in_default-tag-clause-exact : goal.returns-in_default-tag-clause-exact
returns-in_default-tag-clause-exact g c = λ e t es list.
    let link = g.T.LinkedList.link in
    let w = g.S.Caller.world c.args.s.now in
    let inv = c.loop-step.invariant.found e t es list in
    let at_loop = c.loop-step.invariant.caller in
    let cell_is : cell_of c.loop-step.seen.link.now ≡ link inv.0.value = c.loop-step.invariant.link ∙ ap link inv.5 in
    let tagged = c.tag.ensures.exact (subst (λ (s : CallerId). IsExact s) (sym at_loop) e) in
    let tags : inv.0.tag ≡ c.tag.result =
    ap tag_in (sym inv.2.0.linked ∙ ap (λ (k : ℕ). entry_at w.cells k) (sym cell_is)
    ∙ ap (λ (x : World _). entry_at x.cells (cell_of c.loop-step.seen.link.now)) (sym (c.loop-step.invariant.world e)) ∙ tagged.1.1)
    ∙ sym tagged.1.2 in
    let stays : is_deleted inv.0 ≡ false = ap is_deleting tags ∙ undeleting c.tag.result c.in_default-tag.not-Second in
    sym (goes-not c.args.watched inv.0 inv.1 (sym (c.is_named.ensures inv.0 inv.4) ∙ c.if-is_named.false) stays) ∙ inv.3

pub loop-step-preserved : goal.loop-step-preserved
loop-step-preserved g c = record {
  caller = c.in-Some-first_in.ensures.undisturbed.caller ∙ c.tag.ensures.undisturbed.caller ∙ c.loop-step.invariant.caller;
  own = c.in-Some-first_in.ensures.undisturbed.own ∙ c.tag.ensures.undisturbed.own ∙ c.loop-step.invariant.own;
  known = knows-on (knows-on c.loop-step.invariant.known c.tag.ensures.undisturbed.known) c.in-Some-first_in.ensures.undisturbed.known;
  keeps = λ k v was. c.in-Some-first_in.ensures.undisturbed.shown k v (c.tag.ensures.undisturbed.shown k v (c.loop-step.invariant.keeps k v was));
  world = λ e.
      let at_loop = c.loop-step.invariant.caller in
      c.in-Some-first_in.ensures.world (subst (λ (s : CallerId). IsExact s) (sym (c.tag.ensures.undisturbed.caller ∙ at_loop)) e)
      ∙ (c.tag.ensures.exact (subst (λ (s : CallerId). IsExact s) (sym at_loop) e)).0 ∙ c.loop-step.invariant.world e;
  home = c.in-Some-first_in.ensures.home ∙ ap (λ (s : CallerId). s.home.cells) (c.tag.ensures.undisturbed.caller ∙ c.loop-step.invariant.caller);
  link = c.in-Some-first_in.ensures.link;
  found = λ e t es list.
      let link = g.T.LinkedList.link in
      let w = g.S.Caller.world c.args.s.now in
      let inv = c.loop-step.invariant.found e t es list in
      let at_loop = c.loop-step.invariant.caller in
      let cell_is : cell_of c.loop-step.seen.link.now ≡ link inv.0.value = c.loop-step.invariant.link ∙ ap link inv.5 in
      let tagged = c.tag.ensures.exact (subst (λ (s : CallerId). IsExact s) (sym at_loop) e) in
      let same : g.S.Caller.world c.tag.new.s ≡ w = tagged.0 ∙ c.loop-step.invariant.world e in
      let here : entry_at w.cells (cell_of c.loop-step.seen.link.now) ≡ Some (record { held = first_slot inv.1; tag = inv.0.tag }) =
      ap (λ (k : ℕ). entry_at w.cells k) cell_is ∙ inv.2.0.linked in
      let tags : inv.0.tag ≡ c.tag.result =
      ap tag_in (sym here ∙ ap (λ (x : World _). entry_at x.cells (cell_of c.loop-step.seen.link.now)) (sym (c.loop-step.invariant.world e)) ∙ tagged.1.1)
      ∙ sym tagged.1.2 in
      let gone : is_deleted inv.0 ≡ true = ap is_deleting (tags ∙ c.in-Second.is) in
      let on = goes-on c.args.watched inv.0 inv.1 (sym (c.is_named.ensures inv.0 inv.4) ∙ c.if-is_named.false) gone in
      let behind : CellContents = record { held = first_slot inv.1; tag = inv.0.tag } in
      let at_tag : IsExact (g.S.Caller.caller c.tag.new.s) = subst (λ (s : CallerId). IsExact s) (sym (c.tag.ensures.undisturbed.caller ∙ at_loop)) e in
      let linked_now = subst (λ (x : World _). AreLinked link x inv.1) (sym same) inv.2.1 in
      let there_now : entry_at (g.S.Caller.world c.tag.new.s).cells (cell_of c.loop-step.seen.link.now) ≡ Some behind =
      ap (λ (x : World _). entry_at x.cells (cell_of c.loop-step.seen.link.now)) same ∙ here in
      let f = c.in-Some-first_in.ensures.exact at_tag inv.1 linked_now behind there_now refl in
      let long = ap length f.2 in (
        f.0,
        f.1,
        subst (λ (xs : List (Entry _)). AreLinked link w xs) f.2 inv.2.1,
        ap (lets_go_of c.args.watched) (sym f.2) ∙ sym on ∙ inv.3,
        f.3,
        f.4,
        omega (arith, long, inv.6),
      );
}

pub returns-in_default-first_in-clause-exact : goal.returns-in_default-first_in-clause-exact
returns-in_default-first_in-clause-exact g c = λ e t es list.
    let link = g.T.LinkedList.link in
    let w = g.S.Caller.world c.args.s.now in
    let inv = c.loop-step.invariant.found e t es list in
    let at_loop = c.loop-step.invariant.caller in
    let cell_is : cell_of c.loop-step.seen.link.now ≡ link inv.0.value = c.loop-step.invariant.link ∙ ap link inv.5 in
    let tagged = c.tag.ensures.exact (subst (λ (s : CallerId). IsExact s) (sym at_loop) e) in
    let same : g.S.Caller.world c.tag.new.s ≡ w = tagged.0 ∙ c.loop-step.invariant.world e in
    let here : entry_at w.cells (cell_of c.loop-step.seen.link.now) ≡ Some (record { held = first_slot inv.1; tag = inv.0.tag }) =
    ap (λ (k : ℕ). entry_at w.cells k) cell_is ∙ inv.2.0.linked in
    let tags : inv.0.tag ≡ c.tag.result =
    ap tag_in (sym here ∙ ap (λ (x : World _). entry_at x.cells (cell_of c.loop-step.seen.link.now)) (sym (c.loop-step.invariant.world e)) ∙ tagged.1.1)
    ∙ sym tagged.1.2 in
    let gone : is_deleted inv.0 ≡ true = ap is_deleting (tags ∙ c.in-Second.is) in
    let on = goes-on c.args.watched inv.0 inv.1 (sym (c.is_named.ensures inv.0 inv.4) ∙ c.if-is_named.false) gone in
    let behind : CellContents = record { held = first_slot inv.1; tag = inv.0.tag } in
    let at_tag : IsExact (g.S.Caller.caller c.tag.new.s) = subst (λ (s : CallerId). IsExact s) (sym (c.tag.ensures.undisturbed.caller ∙ at_loop)) e in
    let linked_now = subst (λ (x : World _). AreLinked link x inv.1) (sym same) inv.2.1 in
    let there_now : entry_at (g.S.Caller.world c.tag.new.s).cells (cell_of c.loop-step.seen.link.now) ≡ Some behind =
    ap (λ (x : World _). entry_at x.cells (cell_of c.loop-step.seen.link.now)) same ∙ here in
    let none = c.in_default-first_in.ensures.exact at_tag inv.1 linked_now behind there_now refl in
    sym (ap (lets_go_of c.args.watched) none) ∙ sym on ∙ inv.3
