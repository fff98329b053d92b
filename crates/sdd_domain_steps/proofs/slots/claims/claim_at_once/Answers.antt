use Rattle.sdd_domain_steps.proofs.MovedValues.{tried_at_once}
use Rattle.sdd_domain_steps.proofs.slots.claims.claim_at_once.Goals as goal

pub returns : goal.returns
returns c =
    tried_at_once c.args.word c.args.slot c.args.seat.now c.claim.new.seat c.claim.result c.claim.ensures
    c.requires.inside
