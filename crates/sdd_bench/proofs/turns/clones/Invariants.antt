use Rattle.std.proofs.Common.{◌≡◌, Some}
use Rattle.sdd_participants.specs.declared.standing.Standing.TheVariants.{Shared}
use Rattle.sdd_space.specs.CallerId.{IsExact}
use Rattle.sdd_world_model.specs.World.{standing_at}
use Rattle.sdd_space.specs.Shared.{slot_of}
use Rattle.sdd_bench.specs.Leaves.{Leaves}
use Rattle.sdd_bench.proofs.turns.clones.Given as goal

abbrev pub invariant-loop-turn : goal.invariant-loop-turn
invariant-loop-turn g l =
    let caller = g.S.Caller.caller in let own = g.S.Caller.own in let world = g.S.Caller.world in
    record {
      leaves : Leaves (caller l.fn.space) (own l.fn.space) (world l.fn.space) (caller l.space) (own l.space) (world l.space);
      alone : IsExact (caller l.fn.space) → standing_at (world l.space) (slot_of l.fn.owner) ≡ Some (Shared 1);
    }
