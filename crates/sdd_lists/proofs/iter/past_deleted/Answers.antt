use Rattle.std.proofs.Common.{◌≡◌, ℕ, ◌∙◌, ap, sym, refl, List, length, subst, arith}
use Rattle.sdd_participants.specs.Slab.{entry_at}
use Rattle.sdd_world_model.specs.WorldChanges.{held_in}
use Rattle.sdd_lists.specs.Lists.{Entry, first_slot, is_deleting, left}
use Rattle.sdd_lists.proofs.FirstEntries.{undeleting}
use Rattle.sdd_lists.proofs.IterPositions.{ahead, link-home, none-ahead, none-left, passed, stays, tag-at}
use Rattle.sdd_lists.proofs.iter.past_deleted.Goals as goal

pub tag_held_in-requires : goal.tag_held_in-requires
tag_held_in-requires g c = record {
  home = c.link_ref-link.ensures.home
      ∙ link-home g.T.Item.holds (g.S.Caller.caller c.args.s.now).home c.value_of.result.now c.value_of.ensures.held;
}

pub right_in-at-requires : goal.right_in-at-requires
right_in-at-requires g c = record {
  home = c.link_ref-link.ensures.home
      ∙ link-home g.T.Item.holds (g.S.Caller.caller c.args.s.now).home c.value_of.result.now c.value_of.ensures.held;
}

pub loop-step-init : goal.loop-step-init
loop-step-init g c = record { home = c.requires; found = λ e es linked holds few. (es, linked, holds, refl, omega (arith, few)) }

pub loop-step-preserved : goal.loop-step-preserved
loop-step-preserved g c = record {
  home = c.right_in-at.ensures.home;
  found = λ e es linked holds few.
      let w = g.S.Caller.world c.args.s.now in
      let inv = c.loop-step.invariant.found e es linked holds few in
      let a = ahead w c.in-Some.owner c.value_of.result.now (c.value_of.ensures.exact e) c.loop-step.at.now c.in-Some.is inv.0 inv.1 inv.2 in
      let tagged = tag-at g.S.Caller.world c.args.s c.args.s refl _ _ c.link_ref-link.ensures.link c.tag_held_in.result (c.tag_held_in.ensures.exact e) in
      let long = ap length a.is in (
        a.rest,
        a.linked,
        c.right_in-at.ensures.exact e ∙ ap (λ (k : ℕ). held_in (entry_at w.cells k)) c.link_ref-link.ensures.link ∙ ap held_in a.cell,
        sym (passed w c.in-Some.owner c.value_of.result.now (c.value_of.ensures.exact e) c.tag_held_in.result tagged inv.0 a
            (ap is_deleting c.in-Second.is)) ∙ inv.3,
        omega (arith, long, inv.4),
      );
}

pub returns-in_default-tag_held_in-clause-exact : goal.returns-in_default-tag_held_in-clause-exact
returns-in_default-tag_held_in-clause-exact g c = λ e es linked holds few.
    let w = g.S.Caller.world c.args.s.now in
    let inv = c.loop-step.invariant.found e es linked holds few in
    let a = ahead w c.in-Some.owner c.value_of.result.now (c.value_of.ensures.exact e) c.loop-step.at.now c.in-Some.is inv.0 inv.1 inv.2 in
    let tagged = tag-at g.S.Caller.world c.args.s c.args.s refl _ _ c.link_ref-link.ensures.link c.tag_held_in.result (c.tag_held_in.ensures.exact e) in
    let still = stays w c.in-Some.owner c.value_of.result.now (c.value_of.ensures.exact e) c.tag_held_in.result tagged inv.0 a
    (undeleting c.tag_held_in.result c.in_default-tag_held_in.not-Second) in
    inv.2 ∙ ap (λ (xs : List (Entry _)). first_slot xs) (sym still ∙ inv.3)

pub returns-in_default-clause-exact : goal.returns-in_default-clause-exact
returns-in_default-clause-exact g c = λ e es linked holds few.
    let inv = c.loop-step.invariant.found e es linked holds few in
    let empty = none-ahead c.loop-step.at.now c.in_default.is inv.0 inv.2 in
    inv.2 ∙ ap (λ (xs : List (Entry _)). first_slot xs) (empty ∙ sym (ap (λ (xs : List (Entry _)). left xs) empty) ∙ inv.3)

pub returns-clause-exact : goal.returns-clause-exact
returns-clause-exact g c = λ e es linked holds few.
    let inv = c.loop-step.invariant.found e es linked holds few in
    let empty = none-left inv.0 (omega (arith, inv.4)) in
    inv.2 ∙ ap (λ (xs : List (Entry _)). first_slot xs) (empty ∙ sym (ap (λ (xs : List (Entry _)). left xs) empty) ∙ inv.3)
