use Rattle.std.proofs.Common.{◌≡◌, ◌<◌, Some}
use Rattle.std.specs.List.{FoldsTo}
use Rattle.sdd_domain_steps.specs.LocalState.{IsLone}
use Rattle.sdd_domain_core.proofs.local_core.LocalCore.fetch_update_raw.Given as goal

-- a lone participant needs the first try alone
abbrev pub invariant-loop-attempt : goal.invariant-loop-attempt
invariant-loop-attempt g l = record {
  same : l.self ≡ l.fn.self;
  callable : goal.F-IsAlwaysCallable g l.f;
  first : l._attempt ≡ 0 → l.f ≡ l.fn.f;
  went_on : (asked : _) × FoldsTo (λ p x q. (r : _) × goal.F-step g p x (Some r) q) l.fn.f asked l.f;
  others : 0 < l._attempt → ¬ (IsLone l.fn.self);
}
