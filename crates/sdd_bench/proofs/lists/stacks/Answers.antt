use Rattle.std.proofs.Common.{◌∙◌}
use Rattle.sdd_bench.proofs.Leaving.{as-many}
use Rattle.sdd_bench.proofs.Waiting.{nests-on}
use Rattle.sdd_bench.proofs.lists.stacks.Goals as goal

pub returns-in_err-stack-clause-guards : goal.returns-in_err-stack-clause-guards
returns-in_err-stack-clause-guards g c = as-many c.in_err-stack.ensures.undisturbed.own

pub close_stack-requires-clause-may : goal.close_stack-requires-clause-may
close_stack-requires-clause-may g c =
    let own = g.S.Caller.own in let caller = g.S.Caller.caller in
    nests-on (caller c.args.space.now) (caller c.stack_turns-sum.new.space) (own c.args.space.now) (own c.stack_turns-sum.new.space)
    (c.stack_turns-sum.ensures.caller ∙ c.in_ok-stack.ensures.undisturbed.caller)
    (c.stack_turns-sum.ensures.guards ∙ as-many c.in_ok-stack.ensures.undisturbed.own) c.requires.may

pub returns-clause-guards : goal.returns-clause-guards
returns-clause-guards g c =
    c.close_stack.ensures.guards ∙ c.stack_turns-sum.ensures.guards ∙ as-many c.in_ok-stack.ensures.undisturbed.own
