use Rattle.std.proofs.Common.{sym, ◌∙◌, subst}
use Rattle.sdd_shared_values.specs.SharedValues.{showing}
use Rattle.sdd_domain_steps.specs.Local.{LocalModel}
use Rattle.sdd_domain_core.specs.Sound.{IsSound}
use Rattle.sdd_domain.proofs.Givers.{same_giver}
use Rattle.sdd_domain.proofs.JobAnswers.{answered_tied, answered_sound, answered_keeps, answered_knows, answered_caller, answered_exact}
use Rattle.sdd_domain.proofs.space.LocalDeferrals.defer_execute.Goals as goal

pub invariant_of-self-inside : goal.invariant_of-self-inside
invariant_of-self-inside g c = let v : LocalModel g.row.T.Denot g.row.J.Denot = (c.self-inside.view_is 0).giver in
    answered_tied v c.defer_execute.new.self c.self-inside.invariant c.args.job c.defer_execute.result c.defer_execute.ensures

pub invariant_of-self : goal.invariant_of-self
invariant_of-self g c = let v : LocalModel _ _ = (c.self-inside.view_is 0).giver in let inner = same_giver c.self-inside.view_is in
    answered_sound v c.defer_execute.new.self c.self-inside.invariant c.args.job g.T.Item.holds c.defer_execute.result c.defer_execute.ensures
    (subst (IsSound g.T.Item.holds) (sym inner) c.self.invariant)

pub returns-clause-unmoved : goal.returns-clause-unmoved
returns-clause-unmoved g c = let v : LocalModel _ _ = (c.self-inside.view_is 0).giver in let inner = same_giver c.self-inside.view_is in
    let is = inner ∙ c.self.view_is in record {
      caller = answered_caller v c.defer_execute.new.self c.self-inside.invariant c.args.job c.defer_execute.result c.args.self.now is c.defer_execute.ensures;
      known = answered_knows v c.defer_execute.new.self c.self-inside.invariant c.args.job c.defer_execute.result c.args.self.now is c.defer_execute.ensures;
      shown = answered_keeps v c.defer_execute.new.self c.self-inside.invariant c.args.job (showing g.row.T) g.T.Item.holds c.defer_execute.result
          c.args.self.now is c.defer_execute.ensures;
    }

pub returns-clause-exact : goal.returns-clause-exact
returns-clause-exact g c = λ exact. let v : LocalModel _ _ = (c.self-inside.view_is 0).giver in let inner = same_giver c.self-inside.view_is in
    answered_exact v c.defer_execute.new.self c.self-inside.invariant c.args.job c.defer_execute.result c.args.self.now (inner ∙ c.self.view_is)
    c.defer_execute.ensures exact
