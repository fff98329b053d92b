use Rattle.std.proofs.Common.{◌≡◌, [], length}
use Rattle.sdd_world_model.specs.KnownEpochs.{KnowsOn}
use Rattle.sdd_world_model.specs.ParticipantChanges.{KeepsMoreWaiting}
use Rattle.sdd_world_model.specs.WorldChanges.{all_reclaimed}
use Rattle.sdd_participants.specs.Jobs.{jobs_without_all}
use Rattle.sdd_domain_steps.specs.Local.{world_of}
use Rattle.sdd_domain_steps.specs.LocalState.{IsLone}
use Rattle.sdd_domain_core.specs.Reclaiming.{rest_of}
use Rattle.sdd_domain_core.specs.Space.{known_of}
use Rattle.sdd_domain_steps.specs.WaitingItems.{items_in}
use Rattle.sdd_domain_core.proofs.CountedGone.{CountsSome}
use Rattle.sdd_domain_core.proofs.reclaiming.LocalGiver.reclaim_due.Given as goal

-- to reclaim what is left is to reclaim all
abbrev pub invariant-loop-what : goal.invariant-loop-what
invariant-loop-what g l = record {
  own : KeepsMoreWaiting l.fn.self.member.own l.self.member.own;
  none : l.fn.self.member.due ≡ [] → (l.self.member.own ≡ l.fn.self.member.own) × (l.self.member.due ≡ []);
  known : KnowsOn (known_of l.fn.self) (known_of l.self);
  rest : rest_of l.self ≡ rest_of l.fn.self;
  counted : CountsSome (items_in l.fn.self.member.due) (items_in l.self.member.due) l.fn.self.member l.self.member;
  jobs : jobs_without_all l.self.member.jobs l.self.member.due ≡ jobs_without_all l.fn.self.member.jobs l.fn.self.member.due;
  exact : IsLone l.fn.self.member → all_reclaimed g.T.Item.holds (world_of l.self) l.self.member.place l.self.member.due
      ≡ all_reclaimed g.T.Item.holds (world_of l.fn.self) l.fn.self.member.place l.fn.self.member.due;
}

abbrev pub decreases-loop-what : goal.decreases-loop-what
decreases-loop-what g l = length l.self.member.due
