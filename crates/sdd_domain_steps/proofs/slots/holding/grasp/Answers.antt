use Rattle.std.proofs.Common.{arith}
use Rattle.sdd_domain_invariant.proofs.Codes.{counted_is, shared}
use Rattle.sdd_domain_steps.proofs.slots.holding.grasp.Goals as goal

pub returns-else-word : goal.returns-else-word
returns-else-word c = let tried = c.try_hold-word.ensures in let t = tried.3 in let word = c.try_hold-word.result in
    let several = t.0 in let left = t.1 in let so_many = (shared word (counted_is word several)).0 in let miss = c.if-word.false in (
      (tried.0, tried.1, tried.2, t.3 miss),
      record { several = c.if-not-shared.false; counted = several; more = omega arith; knew = t.4 },
    )
