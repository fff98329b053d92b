use Rattle.sdd_interpreter.proofs.Words.{Some, sym, ap, ◌∙◌, Sole, Share}
use Rattle.sdd_interpreter.proofs.owners.body_from.Goals as goal

pub returns-in-Sole-clause-becomes : goal.returns-in-Sole-clause-becomes
returns-in-Sole-clause-becomes c =
    rw c.in-Of.is (Sole c.in-Sole.owner, sym c.in_ok-owner-in-Of.ensures.taken ∙ ap Some c.in-Sole.is, c.of_sole.ensures, c.in_ok-owner-in-Of.ensures.spent)

pub returns-in-Share-clause-becomes : goal.returns-in-Share-clause-becomes
returns-in-Share-clause-becomes c =
    rw c.in-Of.is (
      Share c.in-Share.owner,
      sym c.in_ok-owner-in-Of.ensures.taken ∙ ap Some c.in-Share.is,
      c.of_shared.ensures,
      c.in_ok-owner-in-Of.ensures.spent,
    )
