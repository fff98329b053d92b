use Rattle.std.proofs.Common.{◌≡◌, take}
use Rattle.sdd_machine.specs.Sizes.{size_for}
use Rattle.sdd_machine.specs.History.{state, history}
use Rattle.sdd_machine.proofs.machine.safety.Given as goal

abbrev pub invariant-loop-step : goal.invariant-loop-step
invariant-loop-step l = let size = size_for l.steps in l.machine ≡ state size (history size (take l.step-index l.steps))
