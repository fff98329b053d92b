use Rattle.std.proofs.Common.{◌≡◌, []}
use Rattle.sdd_world_model.specs.KnownEpochs.{KnowsOn}
use Rattle.sdd_world_model.specs.ParticipantChanges.{KeepsMoreWaiting}
use Rattle.sdd_domain_core.specs.Collectors.{IsClosing}
use Rattle.sdd_domain_steps.specs.LocalState.{IsLone}
use Rattle.sdd_domain_core.specs.Reclaiming.{rest_of}
use Rattle.sdd_domain_core.specs.Space.{known_of}
use Rattle.sdd_domain_core.proofs.reclaiming.LocalGiver.empty_others.Given as goal

abbrev pub invariant-loop-slot : goal.invariant-loop-slot
invariant-loop-slot g l = record {
  closing : IsClosing l.fn.collector l.self.member;
  own : KeepsMoreWaiting l.fn.self.member.own l.self.member.own;
  known : KnowsOn (known_of l.fn.self) (known_of l.self);
  rest : rest_of l.self ≡ rest_of l.fn.self;
  due : l.self.member.due ≡ [];
  jobs : l.self.member.jobs ≡ l.fn.self.member.jobs;
  alone : IsLone l.fn.self.member → l.self ≡ l.fn.self;
}
