use Rattle.std.proofs.Common.{ap, ◌∙◌, arith, eqb-true}
use Rattle.sdd_domain_invariant.specs.Codes.{full}
use Rattle.sdd_domain_invariant.proofs.Codes.{free_is}
use Rattle.sdd_domain_steps.proofs.epoch.quiet.is_free.Goals as goal

pub returns : goal.returns
returns c free = ap full (eqb-true c.args.word 0 free) ∙ (free_is 0 (omega arith)).2
