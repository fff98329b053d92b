use Rattle.std.proofs.Common.{◌<◌}
use Rattle.sdd_domain_steps.specs.Cells.{SeesMore}
use Rattle.sdd_domain_steps.specs.LocalState.{IsLone}
use Rattle.sdd_domain_core.proofs.local_core.LocalCore.copy_held.Given as goal

-- a lone participant needs the first try alone
abbrev pub invariant-loop-attempt : goal.invariant-loop-attempt
invariant-loop-attempt g l = record {
  sees : SeesMore l.fn.self l.self;
  others : 0 < l._attempt → ¬ (IsLone l.fn.self);
}
