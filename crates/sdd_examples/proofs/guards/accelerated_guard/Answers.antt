use Rattle.std.proofs.Common.{sym, ap, ◌∙◌}
use Rattle.sdd_world_model.specs.ReclaimBound.{accelerated_guard}
use Rattle.sdd_space.specs.CallerId.{CallerId}
use Rattle.sdd_examples.proofs.guards.accelerated_guard.Goals as goal

pub returns-clause-passed : goal.returns-clause-passed
returns-clause-passed g c =
    let loan = ap (λ (s : CallerId). s.loan) c.accelerated.ensures.caller ∙ c.at.ensures.loan in
    c.world-1.given.1 (sym loan) ∙ c.drop-at.ensures ∙ c.accelerated.ensures.passed
    ∙ (λ d. accelerated_guard g.T.Item.holds (c.at.ensures.world d) (c.at.ensures.place d))
