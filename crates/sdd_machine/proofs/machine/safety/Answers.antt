use Rattle.sdd_machine.specs.Sizes.{size_for}
use Rattle.sdd_machine.specs.History.{Safe, Exact}
use Rattle.sdd_machine.specs.Laws.{ReclaimsWhatWasDue, WaitsWithOneHolder, IsRaisedAtMostOnce, KeepsGenerations}
use Rattle.std.proofs.Common.{refl, ◌∙◌}
use Rattle.sdd_machine.proofs.Laws.{safe, exact, reclaimed_then, waits_with_one, raised_at_most_once, generations, at_each, taken_more}
use Rattle.sdd_machine.proofs.machine.safety.Goals as goal

pub returns-in_err-machine-clause-safe : goal.returns-in_err-machine-clause-safe
returns-in_err-machine-clause-safe c = at_each Safe safe c.args.steps.now

pub returns-in_err-machine-clause-exact : goal.returns-in_err-machine-clause-exact
returns-in_err-machine-clause-exact c = at_each Exact exact c.args.steps.now

pub returns-in_err-machine-clause-reclaimed : goal.returns-in_err-machine-clause-reclaimed
returns-in_err-machine-clause-reclaimed c = at_each ReclaimsWhatWasDue (λ size h is i. reclaimed_then size i h is) c.args.steps.now

pub returns-in_err-machine-clause-one_holder : goal.returns-in_err-machine-clause-one_holder
returns-in_err-machine-clause-one_holder c = at_each WaitsWithOneHolder waits_with_one c.args.steps.now

pub returns-in_err-machine-clause-at_most_once : goal.returns-in_err-machine-clause-at_most_once
returns-in_err-machine-clause-at_most_once c = at_each IsRaisedAtMostOnce raised_at_most_once c.args.steps.now

pub returns-in_err-machine-clause-generations : goal.returns-in_err-machine-clause-generations
returns-in_err-machine-clause-generations c = at_each KeepsGenerations generations c.args.steps.now

pub returns-clause-safe : goal.returns-clause-safe
returns-clause-safe c = at_each Safe safe c.args.steps.now

pub returns-clause-exact : goal.returns-clause-exact
returns-clause-exact c = at_each Exact exact c.args.steps.now

pub returns-clause-reclaimed : goal.returns-clause-reclaimed
returns-clause-reclaimed c = at_each ReclaimsWhatWasDue (λ size h is i. reclaimed_then size i h is) c.args.steps.now

pub returns-clause-one_holder : goal.returns-clause-one_holder
returns-clause-one_holder c = at_each WaitsWithOneHolder waits_with_one c.args.steps.now

pub returns-clause-at_most_once : goal.returns-clause-at_most_once
returns-clause-at_most_once c = at_each IsRaisedAtMostOnce raised_at_most_once c.args.steps.now

pub returns-clause-generations : goal.returns-clause-generations
returns-clause-generations c = at_each KeepsGenerations generations c.args.steps.now

pub loop-step-preserved : goal.loop-step-preserved
loop-step-preserved c =
    c.step.ensures.new ∙ taken_more
    (size_for c.args.steps.now) c.args.steps.now c.loop-step.step-index _ _ c.loop-step.machine c.loop-step-test.true c.loop-step.invariant refl
