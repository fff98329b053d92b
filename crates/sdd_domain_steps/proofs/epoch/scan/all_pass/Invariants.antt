use Rattle.std.proofs.Common.{◌≡◌}
use Rattle.sdd_domain_invariant.specs.Epoch.EpochSteps.{IsNext}
use Rattle.sdd_atomics.specs.DomainSeat.{epoch, IsSameBut}
use Rattle.sdd_domain_steps.specs.Scan.{looked_to}
use Rattle.sdd_domain_steps.proofs.epoch.scan.all_pass.Given as goal

abbrev pub invariant-loop-other : goal.invariant-loop-other
invariant-loop-other l = record {
  same : IsSameBut l.fn.seat l.seat;
  looked : epoch l.seat ≡ looked_to (epoch l.fn.seat) (epoch l.seat).looked;
  next : IsNext (epoch l.seat) l.other;
}
