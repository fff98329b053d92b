use Rattle.std.proofs.Common.{◌∙◌}
use Rattle.sdd_domain_steps.specs.Local.{LocalModel}
use Rattle.sdd_domain.proofs.Givers.{same_giver}
use Rattle.sdd_domain_core.proofs.OwnerLooks.{has_shown}
use Rattle.sdd_domain.proofs.space.LocalItems.owned_is_shown.Goals as goal

pub returns-clause-shown : goal.returns-clause-shown
returns-clause-shown g c = let v : LocalModel _ _ = (c.self-inside.view_is 0).giver in let inner = same_giver c.self-inside.view_is in
    has_shown g.row.T v c.args.right.now c.self-inside.invariant c.codes.ensures c.recall_owner.ensures.recalled
    g.T.Item.holds c.args.self.now (inner ∙ c.self.view_is)
