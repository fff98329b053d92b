use Rattle.std.proofs.Common.{◌≡◌, ◌≢◌, inl, inr, ◌∙◌, ap, sym, subst}
use Rattle.sdd_core.specs.declared.tag.Tag.{Tag}
use Rattle.sdd_core.specs.declared.tag.Tag.TheVariants as tag
use Rattle.sdd_world_model.specs.World.{World}
use Rattle.sdd_space.specs.CallerId.{CallerId, IsExact}
use Rattle.sdd_space.specs.Shared.{cell_of, slot_of}
use Rattle.sdd_lists.specs.Behind.{IsFresh, IsLinkedBehind}
use Rattle.sdd_lists.specs.Lists.{IsList}
use Rattle.sdd_lists.proofs.FirstEntries.{tag_in}
use Rattle.sdd_lists.proofs.behind.link_behind.Goals as goal

pub returns-in-None-clause-list : goal.returns-in-None-clause-list
returns-in-None-clause-list g c = λ e t es v list fresh.
    let link = g.T.LinkedList.link in
    let w = g.S.Caller.world c.args.s.now in
    let cell = cell_of c.args.link.now in
    let slot = slot_of c.args.entry in
    let new = g.S.Caller.world c.put_behind_link.new.s in
    let ex = subst (λ (s : CallerId). IsExact s) (sym c.tag.ensures.undisturbed.caller) e in
    let told = (c.tag.ensures.exact e).1 in
    let tags : t ≡ c.tag.result = ap tag_in (sym list.begins ∙ told.1) ∙ sym told.2 in
    let kept : t ≢ tag.Second = λ same.
    elim c.in-None.is [
      | inl none ↦ absurd (let never : tag.Second ≡ tag.None = sym same ∙ tags ∙ none in cc)
      | inr first ↦ absurd (let never : tag.Second ≡ tag.First = sym same ∙ tags ∙ first in cc)
    ] in
    let put = subst (λ (y : World _). IsList link y cell t es → IsFresh link y slot v cell es → t ≢ tag.Second →
    IsLinkedBehind link y cell c.tag_of_mark.result es slot v new)
    (c.tag.ensures.exact e).0 (c.put_behind_link.ensures.list ex t es v) in
    subst (λ (x : Tag). IsLinkedBehind link w cell x es slot v new) c.tag_of_mark.ensures (put list fresh kept)
