use Rattle.sdd_world.proofs.FilledSlots.{as-many, bare}
use Rattle.sdd_world.proofs.turn.TurnCaller.values_fit_slots.Goals as goal

pub returns-clause-many : goal.returns-clause-many
returns-clause-many g c = λ _. rw c.world.view_is at (as-many c.world.inside.core.world c.world.invariant.2.filled)

pub returns-clause-bare : goal.returns-clause-bare
returns-clause-bare g c = λ _ k. rw c.world.view_is at (bare c.world.inside.core.world k c.world.invariant.2.filled)
