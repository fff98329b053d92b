use Rattle.std.proofs.Common.{ℕ, ◌∙◌, ap, sym, refl, subst}
use Rattle.sdd_world_model.specs.World.{World}
use Rattle.sdd_space.specs.CallerId.{IsExact, CallerId}
use Rattle.sdd_space.specs.Shared.{cell_of}
use Rattle.sdd_core.specs.declared.tag.Tag.TheVariants.{None as no_tag}
use Rattle.sdd_participants.specs.Slab.{entry_at}
use Rattle.sdd_participants.specs.declared.standing.CellContents.{CellContents}
use Rattle.sdd_lists.specs.Lists.{AreLinked, first_slot}
use Rattle.sdd_lists.proofs.Ends.{left-ends, spent-of}
use Rattle.sdd_lists.proofs.PoppedLists.{stays-of}
use Rattle.sdd_lists.proofs.walks.find_last.Goals as goal

pub returns-in-Ok-clause-exact : goal.returns-in-Ok-clause-exact
returns-in-Ok-clause-exact g c = λ e es second queue.
    let link = g.T.LinkedList.link in
    let second_held : CellContents = record { held = second; tag = no_tag } in
    let at1 = c.in-Some.ensures.undisturbed.caller in
    let kept = c.in-Some.ensures.exact e es queue.list.linked second_held queue.newest queue.among in
    let same = c.in-Some.ensures.world e in
    let linked = subst (λ (y : World _). AreLinked link y es) (sym same) queue.list.linked in
    let ex1 = subst (λ (s : CallerId). IsExact s) (sym at1) e in
    let last = c.in-Ok.ensures.exact ex1 es linked kept.0 kept.1 kept.2 kept.3 kept.5 in
    (last.0, last.1, last.2, last.3, c.in-Ok.ensures.link ∙ ap link last.3)

pub returns-in-Err-clause-exact : goal.returns-in-Err-clause-exact
returns-in-Err-clause-exact g c = λ e es second queue.
    let link = g.T.LinkedList.link in
    let second_held : CellContents = record { held = second; tag = no_tag } in
    let at1 = c.in-Some.ensures.undisturbed.caller in
    let kept = c.in-Some.ensures.exact e es queue.list.linked second_held queue.newest queue.among in
    let same = c.in-Some.ensures.world e in
    let linked = subst (λ (y : World _). AreLinked link y es) (sym same) queue.list.linked in
    let ex1 = subst (λ (s : CallerId). IsExact s) (sym at1) e in
    absurd (c.in-Err.ensures.exact ex1 es linked kept.0 kept.1 kept.2 kept.3 kept.5)

pub returns-in-Ok-last_from-clause-exact : goal.returns-in-Ok-last_from-clause-exact
returns-in-Ok-last_from-clause-exact g c = λ e es second queue.
    let link = g.T.LinkedList.link in
    let oldest : ℕ = cell_of c.args.oldest.now in
    let first_held : CellContents = record { held = first_slot es; tag = no_tag } in
    let at1 = c.kept_in.ensures.undisturbed.caller in
    let same1 = c.kept_in.ensures.world e in
    let ex1 = subst (λ (s : CallerId). IsExact s) (sym at1) e in
    let linked1 = subst (λ (y : World _). AreLinked link y es) (sym same1) queue.list.linked in
    let there1 = ap (λ (y : World _). entry_at y.cells oldest) same1 ∙ queue.list.begins in
    let found = rw c.in-Ok-Some.field-0-is at (c.in-Ok-Some.ensures.exact ex1 es linked1 first_held there1 refl) in
    let at2 = c.in-Ok-Some.ensures.undisturbed.caller ∙ at1 in
    let same2 = c.in-Ok-Some.ensures.world ex1 ∙ same1 in
    let linked2 = subst (λ (y : World _). AreLinked link y es) (sym same2) queue.list.linked in
    let ex2 = subst (λ (s : CallerId). IsExact s) (sym at2) e in
    let ends = left-ends es found.0 found.1 found.2 in
    let stays = stays-of es found.0 found.1 found.2 in
    let last = c.in-Ok-last_from.ensures.exact ex2 es linked2 found.0 found.1 ends stays found.4 in
    (last.0, last.1, last.2, last.3, c.in-Ok-last_from.ensures.link ∙ ap link last.3)

pub returns-in-Err-last_from-clause-exact : goal.returns-in-Err-last_from-clause-exact
returns-in-Err-last_from-clause-exact g c = λ e es second queue.
    let link = g.T.LinkedList.link in
    let oldest : ℕ = cell_of c.args.oldest.now in
    let first_held : CellContents = record { held = first_slot es; tag = no_tag } in
    let at1 = c.kept_in.ensures.undisturbed.caller in
    let same1 = c.kept_in.ensures.world e in
    let ex1 = subst (λ (s : CallerId). IsExact s) (sym at1) e in
    let linked1 = subst (λ (y : World _). AreLinked link y es) (sym same1) queue.list.linked in
    let there1 = ap (λ (y : World _). entry_at y.cells oldest) same1 ∙ queue.list.begins in
    let found = rw c.in-Ok-Some.field-0-is at (c.in-Ok-Some.ensures.exact ex1 es linked1 first_held there1 refl) in
    let at2 = c.in-Ok-Some.ensures.undisturbed.caller ∙ at1 in
    let same2 = c.in-Ok-Some.ensures.world ex1 ∙ same1 in
    let linked2 = subst (λ (y : World _). AreLinked link y es) (sym same2) queue.list.linked in
    let ex2 = subst (λ (s : CallerId). IsExact s) (sym at2) e in
    let ends = left-ends es found.0 found.1 found.2 in
    let stays = stays-of es found.0 found.1 found.2 in
    absurd (c.in-Err-last_from.ensures.exact ex2 es linked2 found.0 found.1 ends stays found.4)

pub returns-in-Ok-None-clause-exact : goal.returns-in-Ok-None-clause-exact
returns-in-Ok-None-clause-exact g c = λ e es second queue.
    let link = g.T.LinkedList.link in
    let oldest : ℕ = cell_of c.args.oldest.now in
    let first_held : CellContents = record { held = first_slot es; tag = no_tag } in
    let at1 = c.kept_in.ensures.undisturbed.caller in
    let same1 = c.kept_in.ensures.world e in
    let ex1 = subst (λ (s : CallerId). IsExact s) (sym at1) e in
    let linked1 = subst (λ (y : World _). AreLinked link y es) (sym same1) queue.list.linked in
    let there1 = ap (λ (y : World _). entry_at y.cells oldest) same1 ∙ queue.list.begins in
    spent-of es (rw c.in-Ok-None.field-0-is at (c.in-Ok-None.ensures.exact ex1 es linked1 first_held there1 refl))
