use Rattle.sdd_interpreter.proofs.commands.links.is_loose_beside.Goals as goal

pub returns-clause-loose : goal.returns-clause-loose
returns-clause-loose c = ((λ yes. (c.is_loose.ensures.loose.0 yes, c.if-slot-other.false)), (λ both. c.is_loose.ensures.loose.1 both.0))
