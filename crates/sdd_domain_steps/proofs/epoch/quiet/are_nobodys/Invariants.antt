use Rattle.sdd_domain_steps.specs.Sightings.{KeepsMarks}
use Rattle.sdd_domain_steps.proofs.epoch.quiet.are_nobodys.Given as goal

abbrev pub invariant-loop-place : goal.invariant-loop-place
invariant-loop-place l = KeepsMarks l.fn.seen.taken l.seen.taken
