use Rattle.sdd_interpreter.proofs.Words.{Some, sym, ap, ◌∙◌, Sole, Share}
use Rattle.sdd_interpreter.proofs.FilledCells.{fills-named}
use Rattle.sdd_interpreter.proofs.owners.take_filling.Goals as goal

pub returns-in-Some-Sole-clause-filled : goal.returns-in-Some-Sole-clause-filled
returns-in-Some-Sole-clause-filled c =
    let there = sym (ap Some c.in-Some-Sole.field-0-is) ∙ sym c.in-Some-Sole.is ∙ c.take.ensures.taken in
    fills-named c.args.owners.now.entries.items _ _ _ _ (Sole c.in-Some-Sole.owner) c.in-Some.is there c.take.ensures.spent c.requires

pub returns-in-Some-Share-clause-filled : goal.returns-in-Some-Share-clause-filled
returns-in-Some-Share-clause-filled c =
    let there = sym (ap Some c.in-Some-Share.field-0-is) ∙ sym c.in-Some-Share.is ∙ c.take.ensures.taken in
    fills-named c.args.owners.now.entries.items _ _ _ _ (Share c.in-Some-Share.owner) c.in-Some.is there c.take.ensures.spent c.requires
