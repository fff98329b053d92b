use Rattle.sdd_values.proofs.Fractions.{settled-there}
use Rattle.sdd_part_examples.proofs.SmallSpaces.{sound-closed}
use Rattle.sdd_part_examples.proofs.small_space.SmallSpace.close.Goals as goal

pub invariant_of-self : goal.invariant_of-self
invariant_of-self g c = rw (c.settle.ensures) (
    sound-closed c.self.inside.sections c.join.new.self c.end-ended.new.self c.args.reader _ c.end-ended.ensures.kept.0
    c.join.ensures.kept c.end-ended.ensures.kept.1 c.self.inside.places c.self.invariant (rw (← c.self.view_is) at c.requires.inside)
    c.join.ensures.home c.end-ended.ensures.home)

pub returns-clause-home : goal.returns-clause-home
returns-clause-home g c at = rw (c.settle.ensures) (settled-there c.args.reader c.self.inside.places.fractions at)
