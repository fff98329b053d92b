use Rattle.std.proofs.Common.{◌∙◌}
use Rattle.sdd_bench.proofs.Waiting.{more-guards}
use Rattle.sdd_bench.proofs.lists.fill.Goals as goal

pub returns-in_err-kept-clause-guards : goal.returns-in_err-kept-clause-guards
returns-in_err-kept-clause-guards g c =
    let own = g.S.Caller.own in
    c.kept.ensures.guards ∙ more-guards (own c.loop-number.space) (own c.push-pushed.new.s) c.push-pushed.ensures.own ∙ c.loop-number.invariant.guards

pub loop-number-preserved : goal.loop-number-preserved
loop-number-preserved g c =
    let own = g.S.Caller.own in
    record {
      caller = c.kept.ensures.caller ∙ c.push-pushed.ensures.unmoved.caller ∙ c.loop-number.invariant.caller;
      guards =
          c.kept.ensures.guards ∙ more-guards (own c.loop-number.space) (own c.push-pushed.new.s) c.push-pushed.ensures.own
          ∙ c.loop-number.invariant.guards;
    }
