-- What a guard is used for that stays open
use Rattle.std.specs.Prelude.{ℕ, ◌≡◌}
use Rattle.sdd_core.specs.Epoch.{epoch_of}
use Rattle.sdd_participants.specs.EpochState.{has_garbage}
use Rattle.sdd_world_model.specs.World.{World, place_at}
use Rattle.sdd_world_model.specs.WorldChanges.{accelerated, stirred}
use Rattle.sdd_script_text.specs.declared.answer.Reply.{Reply}
use Rattle.sdd_script_text.specs.declared.answer.Reply.TheVariants as reply
use Rattle.sdd_script_model.specs.Val.{Val}
use Rattle.sdd_interpreter.specs.declared.commands.guards.GuardUse.{GuardUse}
use Rattle.sdd_interpreter.specs.declared.commands.guards.GuardUse.TheVariants as using

-- of the participant's place, and of the world before: what is answered, and the world after
abbrev pub Uses : GuardUse → ℕ → World Val → Reply → World Val → Type 0
Uses using.Epoch p before given after = (given ≡ reply.Epoch (epoch_of before.time.count)) × (after ≡ before)
Uses using.Garbage p before given after = (given ≡ reply.Truth (has_garbage (place_at before p))) × (after ≡ before)
Uses using.Set p before given after = (given ≡ reply.Done) × (after ≡ stirred before p)
Uses using.Accelerate p before given after = (given ≡ reply.Done) × (after ≡ accelerated before p)
