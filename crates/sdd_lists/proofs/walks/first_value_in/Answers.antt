use Rattle.std.proofs.Common.{ap, sym, refl, ◌∙◌, Some}
use Rattle.sdd_participants.specs.declared.standing.CellContents.{CellContents}
use Rattle.sdd_lists.specs.Lists.{first_slot, first_value}
use Rattle.sdd_lists.proofs.walks.first_value_in.Goals as goal

pub returns-in-Ok-Some-clause-exact : goal.returns-in-Ok-Some-clause-exact
returns-in-Ok-Some-clause-exact g c = λ e t es list.
    let held : CellContents = record { held = first_slot es; tag = t } in
    let found = rw c.in-Ok-Some.field-0-is at (c.in-Ok-Some.ensures.exact e es list.linked held list.begins refl) in
    ap (λ (v : _). Some v) found.4 ∙ sym (ap first_value found.2)

pub returns-in-Ok-None-clause-exact : goal.returns-in-Ok-None-clause-exact
returns-in-Ok-None-clause-exact g c = λ e t es list.
    let held : CellContents = record { held = first_slot es; tag = t } in
    let none = rw c.in-Ok-None.field-0-is at (c.in-Ok-None.ensures.exact e es list.linked held list.begins refl) in
    sym (ap first_value none)
