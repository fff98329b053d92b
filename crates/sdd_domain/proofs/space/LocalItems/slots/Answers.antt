use Rattle.std.proofs.Common.{◌≡◌, rules, sym, ◌∙◌}
use Rattle.sdd_domain_steps.specs.Local.{standing_in}
use Rattle.sdd_domain_core.proofs.Listings.{listing_long}
use Rattle.sdd_domain.proofs.space.LocalItems.slots.Goals as goal

pub returns-clause-exact : goal.returns-clause-exact
returns-clause-exact g c = λ _.
    let same : c.domain.result.now.limits.slots ≡ c.args.self.now.member.limits.slots = search rules in
    same ∙ sym (listing_long c.args.self.now.member.limits.slots (standing_in c.args.self.now))
