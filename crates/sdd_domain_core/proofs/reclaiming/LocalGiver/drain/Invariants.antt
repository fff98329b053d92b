use Rattle.std.proofs.Common.{◌≡◌, ◌≢◌, ◌⊎◌, ◌+◌, ◌-◌, ◌^◌, ◌<◌, ◌≤◌, [], None}
use Rattle.sdd_domain_steps.specs.LocalState.{HasOpenGuard, IsLone}
use Rattle.sdd_domain_steps.specs.Receipt.{with_reclaimed}
use Rattle.sdd_domain_core.specs.Space.{slots_home}
use Rattle.sdd_domain_core.proofs.reclaiming.LocalGiver.drain.Given as goal

abbrev pub invariant-loop-turn : goal.invariant-loop-turn
invariant-loop-turn g l = record {
  shut : ¬ (HasOpenGuard l.self.member);
  settled : l.self.member.due ≡ [];
  closes : l.self.member.slots.closes ≡ None;
  home : slots_home l.self ≡ slots_home l.fn.self;
  few : l.left ≤ l.fn.left;
  reclaimed : l.self.member.tally ≡ with_reclaimed (l.fn.left - l.left) l.fn.self.member.tally;
  limits : l.self.member.limits ≡ l.fn.self.member.limits;
  risen : IsLone l.fn.self.member → (2 ^ 64 ≤ l.self.member.known + 1) ⊎ (l.self.member.known ≡ l.fn.self.member.known + l.turn);
  found : IsLone l.fn.self.member → 0 < l.turn → (2 ^ 64 ≤ l.self.member.known + 1) ⊎ (l.self.member.own.found ≢ l.self.member.known);
}
