use Rattle.std.proofs.Common.{◌≡◌, ◌<◌, true}
use Rattle.std.specs.List.{FoldsTo}
use Rattle.sdd_domain_steps.specs.LocalState.{IsLone}
use Rattle.sdd_domain_core.proofs.local_core.LocalCore.update_raw_tag_if.Given as goal

-- a lone participant needs the first try alone
abbrev pub invariant-loop-attempt : goal.invariant-loop-attempt
invariant-loop-attempt g l = record {
  same : l.self ≡ l.fn.self;
  callable : goal.F-IsAlwaysCallable g l.condition;
  first : l._attempt ≡ 0 → l.condition ≡ l.fn.condition;
  went_on : (asked : _) × FoldsTo (λ p x q. goal.F-step g p x true q) l.fn.condition asked l.condition;
  others : 0 < l._attempt → ¬ (IsLone l.fn.self);
}
