use Rattle.sdd_script.proofs.Words.{answers-plain, refl, rules, still}
use Rattle.sdd_script_text.specs.declared.call.Call.TheVariants.{Tally}
use Rattle.sdd_script_text.specs.declared.answer.Reply.TheVariants as reply
use Rattle.sdd_script.proofs.line.answer_to.Goals as goal
use Rattle.sdd_script.proofs.line.answer_to.Goals.{in-At-default-Guard, in-At-default-Item+in_ok-reply-in-At-default-Item, in-At-default-Raw+in_ok-reply-in-At-default-Raw, in-At-default-Cell+in_ok-reply-in-At-default-Cell, in-At-default-Held+in_ok-reply-in-At-default-Held, in-At-default-Link+in_ok-reply-in-At-default-Link, in-At-default-Container+in_ok-reply-in-At-default-Container, in-At-default-Entry+in_ok-reply-in-At-default-Entry, in-At-default-Bag+in_ok-reply-in-At-default-Bag, in-At-default-End}

pub returns-in-Tally : goal.returns-in-Tally
returns-in-Tally c =
    let d = c.args.interpreter.now in
    let given = reply.Tally d.world.tally in
    record {
      answers = rw (c.in-Tally.is, c.answer-in-Tally.ensures, c.tally-tally.ensures, c.world.ensures)
          (answers-plain Tally given (still d Tally given (refl, refl)) (λ s none. none) (λ k none. none));
    }

-- an action that names nothing that goes: its group told its reply
pub returns : goal.returns
returns c = record {
  answers = rw (c.answer-2.ensures) (elim c.match-call-2.branch [
    | in-At-default-Guard w ↦ search rules
    | in-At-default-Item+in_ok-reply-in-At-default-Item w ↦ search rules
    | in-At-default-Raw+in_ok-reply-in-At-default-Raw w ↦ search rules
    | in-At-default-Cell+in_ok-reply-in-At-default-Cell w ↦ search rules
    | in-At-default-Held+in_ok-reply-in-At-default-Held w ↦ search rules
    | in-At-default-Link+in_ok-reply-in-At-default-Link w ↦ search rules
    | in-At-default-Container+in_ok-reply-in-At-default-Container w ↦ search rules
    | in-At-default-Entry+in_ok-reply-in-At-default-Entry w ↦ search rules
    | in-At-default-Bag+in_ok-reply-in-At-default-Bag w ↦ search rules
    | in-At-default-End w ↦ search rules
  ]);
}
