use Rattle.std.proofs.Common.{true≢false}
use Rattle.sdd_domain_steps.proofs.MovedValues.{gains}
use Rattle.sdd_domain_steps.proofs.search.Search.slot.Goals as goal

pub returns-then-claim-eq-FREE-clause-tried : goal.returns-then-claim-eq-FREE-clause-tried
returns-then-claim-eq-FREE-clause-tried c = (
  (λ _. gains c.args.word c.args.slot c.args.seat.now c.look.new.seat c.claim.new.seat c.look.result c.claim.result c.look.ensures c.claim.ensures
      c.if-claim-eq-FREE.true
      c.requires.inside),
  (λ e. absurd (true≢false e)),
)
