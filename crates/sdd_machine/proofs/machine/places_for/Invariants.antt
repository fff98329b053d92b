use Rattle.std.proofs.Common.{◌≡◌, map, take}
use Rattle.sdd_machine.specs.Sizes.{greatest, place_named}
use Rattle.sdd_machine.proofs.machine.places_for.Given as goal

abbrev pub invariant-loop-step : goal.invariant-loop-step
invariant-loop-step l = l.greatest ≡ greatest (map place_named (take l.step-index l.steps))
