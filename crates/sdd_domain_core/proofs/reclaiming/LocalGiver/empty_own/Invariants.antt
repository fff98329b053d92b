use Rattle.std.proofs.Common.{◌≡◌, length}
use Rattle.sdd_world_model.specs.KnownEpochs.{KnowsOn}
use Rattle.sdd_world_model.specs.ParticipantChanges.{KeepsMoreWaiting}
use Rattle.sdd_world_model.specs.WorldChanges.{all_reclaimed}
use Rattle.sdd_domain_core.specs.Collectors.{AllWaitFor, IsClosing}
use Rattle.sdd_domain_steps.specs.Local.{world_of}
use Rattle.sdd_domain_steps.specs.LocalState.{IsLone}
use Rattle.sdd_domain_core.specs.Reclaiming.{rest_of}
use Rattle.sdd_domain_core.specs.Space.{known_of}
use Rattle.sdd_domain_core.proofs.reclaiming.LocalGiver.empty_own.Given as goal

-- to reclaim what is left is to reclaim all
abbrev pub invariant-loop-what : goal.invariant-loop-what
invariant-loop-what g l = record {
  taken : AllWaitFor l.self.member l.fn.collector l.self.member.due;
  closing : IsClosing l.fn.collector l.self.member;
  own : KeepsMoreWaiting l.fn.self.member.own l.self.member.own;
  known : KnowsOn (known_of l.fn.self) (known_of l.self);
  rest : rest_of l.self ≡ rest_of l.fn.self;
  jobs : l.self.member.jobs ≡ l.fn.self.member.jobs;
  exact : IsLone l.fn.self.member → all_reclaimed g.T.Item.holds (world_of l.self) l.self.member.place l.self.member.due
      ≡ all_reclaimed g.T.Item.holds (world_of l.fn.self) l.fn.self.member.place l.fn.self.member.due;
}

abbrev pub decreases-loop-what : goal.decreases-loop-what
decreases-loop-what g l = length l.self.member.due
