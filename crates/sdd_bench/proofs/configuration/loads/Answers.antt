use Rattle.std.proofs.Common.{◌∙◌}
use Rattle.sdd_bench.proofs.Leaving.{guard-over}
use Rattle.sdd_bench.proofs.configuration.loads.Goals as goal

pub returns : goal.returns
returns c = (
  c.close.ensures.caller ∙ (c.sum_found-sum.ensures.0 ∙ c.in_ok-guard.ensures.caller),
  guard-over _ _ _ _ c.in_ok-guard.ensures.own.1 c.sum_found-sum.ensures.1 c.close.ensures.own,
)
