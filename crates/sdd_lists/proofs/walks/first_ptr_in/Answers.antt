use Rattle.std.proofs.Common.{refl, sym, ap, ◌∙◌}
use Rattle.sdd_participants.specs.declared.standing.CellContents.{CellContents}
use Rattle.sdd_lists.specs.Lists.{first_slot}
use Rattle.sdd_lists.proofs.FirstEntries.{shown-as}
use Rattle.sdd_lists.proofs.walks.first_ptr_in.Goals as goal

pub returns-in-Ok-None-clause-exact : goal.returns-in-Ok-None-clause-exact
returns-in-Ok-None-clause-exact g c = λ e t es list.
    let held : CellContents = record { held = first_slot es; tag = t } in
    let none = rw c.in-Ok-None.field-0-is at (c.in-Ok-None.ensures.exact e es list.linked held list.begins refl) in
    c.null.ensures.null ∙ sym (ap first_slot none)

pub returns-in-Err-clause-exact : goal.returns-in-Err-clause-exact
returns-in-Err-clause-exact g c = λ e t es list.
    let held : CellContents = record { held = first_slot es; tag = t } in
    absurd (c.in-Err.ensures.exact e es list.linked held list.begins refl)

pub returns-clause-exact : goal.returns-clause-exact
returns-clause-exact g c = λ e t es list.
    let held : CellContents = record { held = first_slot es; tag = t } in
    let found = rw c.in-Ok-Some.field-0-is at (c.in-Ok-Some.ensures.exact e es list.linked held list.begins refl) in
    c.without_tag.ensures.slot ∙ found.3 ∙ sym (ap first_slot found.2)

pub returns-clause-shown : goal.returns-clause-shown
returns-clause-shown g c =
    shown-as (g.S.Shows.shows c.find_first.new.s) c.in-Ok-Some.front.ptr c.without_tag.result c.without_tag.ensures.slot c.without_tag.ensures.shown
    (rw c.in-Ok-Some.field-0-is at c.in-Ok-Some.ensures.shown)
