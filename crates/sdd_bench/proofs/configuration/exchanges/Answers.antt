use Rattle.std.proofs.Common.{◌∙◌}
use Rattle.sdd_bench.proofs.Leaving.{guard-over}
use Rattle.sdd_bench.proofs.configuration.exchanges.Goals as goal

pub returns-in_err-done : goal.returns-in_err-done
returns-in_err-done c = (
  c.close.ensures.caller ∙ (c.exchange-done.ensures.0 ∙ (c.in_ok-guard.ensures.caller ∙ c.loop-turn.invariant.caller)),
  guard-over _ _ _ _ c.in_ok-guard.ensures.own.1 c.exchange-done.ensures.1 c.close.ensures.own ∙ c.loop-turn.invariant.guards,
)

pub loop-turn-preserved : goal.loop-turn-preserved
loop-turn-preserved c = record {
  caller = c.close.ensures.caller ∙ (c.exchange-done.ensures.0 ∙ (c.in_ok-guard.ensures.caller ∙ c.loop-turn.invariant.caller));
  guards = guard-over _ _ _ _ c.in_ok-guard.ensures.own.1 c.exchange-done.ensures.1 c.close.ensures.own ∙ c.loop-turn.invariant.guards;
}
