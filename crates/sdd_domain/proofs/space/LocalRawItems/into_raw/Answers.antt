use Rattle.std.proofs.Common.{sym, ◌∙◌, subst, rules}
use Rattle.sdd_shared_values.specs.SharedValues.{showing}
use Rattle.sdd_rights.specs.Right.{number_of}
use Rattle.sdd_domain_steps.specs.Local.{LocalModel}
use Rattle.sdd_domain_core.specs.Sound.{IsSound}
use Rattle.sdd_domain.proofs.Givers.{same_giver}
use Rattle.sdd_domain.proofs.RawWorld.{puts_tied, puts_sound, puts_stood, puts_world, puts_undisturbed}
use Rattle.sdd_domain.proofs.space.LocalRawItems.into_raw.Goals as goal

pub invariant_of-self : goal.invariant_of-self
invariant_of-self g c = let v : LocalModel _ _ = (c.self-inside.view_is 0).giver in let inner = same_giver c.self-inside.view_is in
    let e = c.into_raw.ensures in puts_sound v c.into_raw.new.self (number_of c.args.right) e.out c.self-inside.invariant e.recalled g.T.Item.holds
    (subst (IsSound g.T.Item.holds) (sym inner) c.self.invariant)

pub invariant_of-self-inside : goal.invariant_of-self-inside
invariant_of-self-inside g c = let v : LocalModel g.row.T.Denot g.row.J.Denot = (c.self-inside.view_is 0).giver in
    let e = c.into_raw.ensures in puts_tied v c.into_raw.new.self (number_of c.args.right) e.out c.self-inside.invariant e.recalled

pub returns : goal.returns
returns g c =
    let v : LocalModel _ _ = (c.self-inside.view_is 0).giver in let inner = same_giver c.self-inside.view_is in let e = c.into_raw.ensures in
    record {
      undisturbed = puts_undisturbed v c.into_raw.new.self (number_of c.args.right) e.out c.self-inside.invariant e.recalled c.args.self.now
          (inner ∙ c.self.view_is) (showing g.row.T) g.T.Item.holds;
      slot = search rules;
      owned = puts_stood v c.into_raw.new.self (number_of c.args.right) e.out c.self-inside.invariant e.recalled c.args.self.now (inner ∙ c.self.view_is);
      exact = puts_world v c.into_raw.new.self (number_of c.args.right) e.out c.self-inside.invariant e.recalled c.args.self.now (inner ∙ c.self.view_is);
    }
