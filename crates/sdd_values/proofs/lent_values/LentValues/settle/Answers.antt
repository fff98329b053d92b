use Rattle.sdd_values.proofs.Fractions.{are-settled}
use Rattle.sdd_values.proofs.lent_values.LentValues.settle.Goals as goal

pub invariant_of-self : goal.invariant_of-self
invariant_of-self g c = rw (c.settle.ensures.values, c.settle.ensures.fractions) (are-settled _ _ _ c.self.invariant c.args.reader)
