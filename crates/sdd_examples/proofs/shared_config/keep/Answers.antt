use Rattle.std.proofs.Common.{Option, Some, None}
use Rattle.std.specs.Prelude.{Result, Ok, Err, IfOk, IfSome}
use Rattle.sdd_core.specs.declared.refused.Refused.{Refused}
use Rattle.sdd_space.specs.Shared.{right_of}
use Rattle.sdd_examples.proofs.shared_config.keep.Goals as goal

-- what is so of what was kept, if anything was
carried : {K : Type 0} (P Q : K → Type 0) → ((k : K) → P k → Q k) → (r : Result (Option K) Refused) → IfOk r (λ o. IfSome o P) → IfOk r (λ o. IfSome o Q)
carried P Q goes (Ok (Some k)) p = goes k p
carried P Q goes (Ok None) p = tt
carried P Q goes (Err e) p = tt

pub returns-clause-owned : goal.returns-clause-owned
returns-clause-owned g c =
    carried (λ k. g.S.Shows.owns_value c.keep_under-kept.new.s (right_of k.1) k.0) _ (λ k owns. c.close.ensures.owned (right_of k.1) k.0 owns)
    c.keep_under-kept.result c.keep_under-kept.ensures.owned
