use Rattle.std.proofs.Common.{◌+◌, ◌<◌, ℕ, List, length, arith, sum_by, count_by, None}
use Rattle.std.specs.Prelude.{is_none}
use Rattle.std.proofs.lemmas.List.{length-set}
use Rattle.sdd_participants.proofs.Places.{places-taken}
use Rattle.sdd_participants.specs.Slab.{Entries, without_entry}
use Rattle.sdd_participants.specs.EpochState.{EpochState, waiting_count}
use Rattle.sdd_values.specs.ReadSections.{ReadSections}
use Rattle.sdd_world_model.specs.Slots.{Slots}
use Rattle.sdd_world_model.specs.Cells.{Cells}
use Rattle.sdd_world_model.specs.OwnerOrCell.{OwnerOrCell}
use Rattle.sdd_world_model.specs.World.{is_loose}
use Rattle.sdd_world_model.proofs.WaitingCounts.{one-freed}
use Rattle.sdd_world_core.specs.WorldCore.{IsSound}
use Rattle.sdd_world_core.proofs.DeferredJobs.{taken-as}
use Rattle.sdd_world_core.proofs.world_core.WorldCore.take_job.Goals as goal

-- a place of a job is free, where there was room
sound-ran : {T : Type 0} (holds : T → List OwnerOrCell) (t : EpochState) (s : Slots T) (c : Cells) (jobs : Entries (Unit {0})) (r : ReadSections) (n : ℕ) →
    sum_by waiting_count t.places + count_by is_loose s.standings + count_by is_none jobs < length s.standings + length jobs →
    IsSound holds t s c jobs r → IsSound holds t s c (without_entry jobs n) r
sound-ran holds t s c jobs r n room i =
    let long = length-set jobs n None in
    record {
      counted = omega (arith, room, one-freed jobs n, long);
      reserved = omega (arith, i.reserved, long);
      held = i.held;
      homes = i.homes;
      participants = i.participants;
      sections = i.sections;
      readers = i.readers;
    }

pub invariant_of-self : goal.invariant_of-self
invariant_of-self g c =
    let room = rw (← c.self.view_is) at c.requires.room in
    rw (c.take.ensures.free, places-taken c.self.inside.jobs c.args.number) (sound-ran g.T.Item.holds _ _ _ _ _ _ room c.self.invariant)

pub returns-clause-free : goal.returns-clause-free
returns-clause-free g c =
    rw (c.take.ensures.free, ← c.self.view_is)
    (taken-as (c.self.view_is 0).world (c.self.view_is 0).lending c.self.inside.jobs c.args.number)
