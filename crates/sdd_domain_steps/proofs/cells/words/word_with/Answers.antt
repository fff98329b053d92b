use Rattle.std.proofs.Common.{sym, ap, ◌∙◌}
use Rattle.sdd_domain_steps.specs.CellWords.{listed}
use Rattle.sdd_domain_steps.proofs.CellWords.{slot_held_by, none_held_by, slot_contents, none_contents}
use Rattle.sdd_domain_steps.proofs.cells.words.word_with.Goals as goal

pub returns-in-Some-clause-held : goal.returns-in-Some-clause-held
returns-in-Some-clause-held c =
    slot_held_by c.args.tag c.from-number.result c.from-number.ensures.0 c.in-Some.slot (rw c.in-Some.is at c.requires) ∙ ap listed (sym c.in-Some.is)

pub returns-in-Some-clause-contents : goal.returns-in-Some-clause-contents
returns-in-Some-clause-contents c =
    slot_contents c.args.tag c.from-number.result c.from-number.ensures.0 c.in-Some.slot (rw c.in-Some.is at c.requires)
    ∙ (λ d. record { held = sym c.in-Some.is d; tag = c.args.tag })

pub returns-in-None-clause-held : goal.returns-in-None-clause-held
returns-in-None-clause-held c = none_held_by c.args.tag c.from-number.result c.from-number.ensures.0 ∙ ap listed (sym c.in-None.is)

pub returns-in-None-clause-contents : goal.returns-in-None-clause-contents
returns-in-None-clause-contents c =
    none_contents c.args.tag c.from-number.result c.from-number.ensures.0 ∙ (λ d. record { held = sym c.in-None.is d; tag = c.args.tag })
