use Rattle.std.proofs.Common.{◌+◌, ◌≡◌, length, ℕ}
use Rattle.sdd_world_model.specs.AcceleratedGuards.{HavePassed}
use Rattle.sdd_examples.proofs.programs.pass_values.Given as goal

abbrev pub invariant-loop-value : goal.invariant-loop-value
invariant-loop-value g l = (n : ℕ) × (n + length l.values.items ≡ length l.fn.values.items) × HavePassed n l.fn.world l.world

abbrev pub decreases-loop-value : goal.decreases-loop-value
decreases-loop-value g l = length l.values.items
