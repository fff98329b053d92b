use Rattle.std.proofs.Common.{sym, ◌∙◌, subst}
use Rattle.sdd_shared_values.specs.SharedValues.{showing}
use Rattle.sdd_rights.specs.Right.{number_of}
use Rattle.sdd_domain_steps.specs.Local.{LocalModel}
use Rattle.sdd_domain_core.specs.Sound.{IsSound}
use Rattle.sdd_domain.proofs.Givers.{same_giver}
use Rattle.sdd_domain.proofs.AddedOwner.{answered_exact, answered_sound, answered_tied, answered_undisturbed}
use Rattle.sdd_domain.proofs.space.LocalSharedOwners.clone_owner.Goals as goal

pub invariant_of-self-inside : goal.invariant_of-self-inside
invariant_of-self-inside g c = let v : LocalModel _ _ = (c.self-inside.view_is 0).giver in let inner = same_giver c.self-inside.view_is in
    let e = c.clone_owner.ensures in answered_tied v c.clone_owner.new.self (number_of c.args.right.now) c.self-inside.invariant e.recalled
    c.args.right.now c.clone_owner.result e.came

pub invariant_of-self : goal.invariant_of-self
invariant_of-self g c = let v : LocalModel _ _ = (c.self-inside.view_is 0).giver in let inner = same_giver c.self-inside.view_is in
    let e = c.clone_owner.ensures in answered_sound v c.clone_owner.new.self (number_of c.args.right.now) c.self-inside.invariant e.recalled
    c.args.right.now g.T.Item.holds c.clone_owner.result e.came (subst (IsSound g.T.Item.holds) (sym inner) c.self.invariant)

pub returns-clause-undisturbed : goal.returns-clause-undisturbed
returns-clause-undisturbed g c = let v : LocalModel _ _ = (c.self-inside.view_is 0).giver in let inner = same_giver c.self-inside.view_is in
    let e = c.clone_owner.ensures in answered_undisturbed v c.clone_owner.new.self (number_of c.args.right.now) c.self-inside.invariant e.recalled
    c.args.right.now c.args.self.now (inner ∙ c.self.view_is) (showing g.row.T) g.T.Item.holds c.clone_owner.result e.came

pub returns-clause-exact : goal.returns-clause-exact
returns-clause-exact g c = let v : LocalModel _ _ = (c.self-inside.view_is 0).giver in let inner = same_giver c.self-inside.view_is in
    let e = c.clone_owner.ensures in answered_exact v c.clone_owner.new.self (number_of c.args.right.now) c.self-inside.invariant e.recalled
    c.args.right.now c.args.self.now (inner ∙ c.self.view_is) c.clone_owner.result e.came
