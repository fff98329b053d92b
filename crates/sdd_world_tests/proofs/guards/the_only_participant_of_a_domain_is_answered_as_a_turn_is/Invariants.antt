use Rattle.sdd_space.specs.CallerId.{IsSeated}
use Rattle.sdd_world_model.specs.World.{IsPlaceOf}
use Rattle.sdd_world.specs.Place.{index_of}
use Rattle.sdd_domain.specs.Space.{caller_of}
use Rattle.sdd_world_tests.proofs.guards.the_only_participant_of_a_domain_is_answered_as_a_turn_is.Given as goal

abbrev pub invariant-loop-call : goal.invariant-loop-call
invariant-loop-call g l = record {
  place : IsPlaceOf l.world (index_of l.place);
  seated : IsSeated (caller_of l.local);
}
