use Rattle.sdd_domain_steps.specs.Sightings.{KeepsMarks}
use Rattle.sdd_domain_steps.proofs.epoch.quiet.seem_free.Given as goal

abbrev pub invariant-loop-slot : goal.invariant-loop-slot
invariant-loop-slot l = KeepsMarks l.fn.seen.taken l.seen.taken
