use Rattle.std.proofs.Common.{ap, sym, ◌∙◌, subst}
use Rattle.sdd_core.specs.declared.tag.Tag.{Tag}
use Rattle.sdd_participants.specs.Slab.{entry_at}
use Rattle.sdd_space.specs.CallerId.{IsExact, CallerId}
use Rattle.sdd_world_model.specs.World.{World}
use Rattle.sdd_space.specs.Shared.{cell_of, slot_of}
use Rattle.sdd_lists.specs.Lists.{linked_in}
use Rattle.sdd_lists.proofs.FirstEntries.{tag_in}
use Rattle.sdd_lists.proofs.moves.put_in_front.Goals as goal

pub returns-clause-exact : goal.returns-clause-exact
returns-clause-exact g c = λ e t n holds clear far.
    let w = g.S.Caller.world c.args.s.now in
    let d = cell_of c.args.cell.now in
    let l = cell_of c.args.link.now in
    let k = slot_of c.args.owner in
    let one = c.tag-tag.ensures.exact e in
    let ex = subst (λ (s : CallerId). IsExact s) (sym c.tag-tag.ensures.undisturbed.caller) e in
    let tags = one.1.2 ∙ ap tag_in (sym one.1.1 ∙ holds) in
    c.put_with_tag.ensures.exact ex t n (ap (λ (a : World _). entry_at a.cells d) one.0 ∙ holds) (ap (λ (a : World _). entry_at a.cells l) one.0 ∙ clear) far
    ∙ ap (λ (a : World _). linked_in a d c.tag-tag.result l k n) one.0
    ∙ ap (λ (to : Tag). linked_in w d to l k n) tags
