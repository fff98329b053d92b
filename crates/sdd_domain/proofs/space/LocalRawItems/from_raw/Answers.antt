use Rattle.std.proofs.Common.{sym, ◌∙◌, subst}
use Rattle.sdd_shared_values.specs.SharedValues.{showing}
use Rattle.sdd_domain_steps.specs.Local.{LocalModel}
use Rattle.sdd_domain_core.specs.Sound.{IsSound}
use Rattle.sdd_domain.proofs.Givers.{same_giver}
use Rattle.sdd_domain.proofs.RawWorld.{takes_tied, takes_sound, takes_exact, takes_undisturbed}
use Rattle.sdd_domain.proofs.space.LocalRawItems.from_raw.Goals as goal

pub invariant_of-self : goal.invariant_of-self
invariant_of-self g c = let v : LocalModel _ _ = (c.self-inside.view_is 0).giver in let inner = same_giver c.self-inside.view_is in
    takes_sound v c.from_raw.new.self c.number.result c.self-inside.invariant g.T.Item.holds (subst (IsSound g.T.Item.holds) (sym inner) c.self.invariant)
    c.from_raw.result c.from_raw.ensures

pub invariant_of-self-inside : goal.invariant_of-self-inside
invariant_of-self-inside g c = let v : LocalModel g.row.T.Denot g.row.J.Denot = (c.self-inside.view_is 0).giver in
    takes_tied v c.from_raw.new.self c.number.result c.self-inside.invariant c.from_raw.result c.from_raw.ensures

pub returns-clause-exact : goal.returns-clause-exact
returns-clause-exact g c = let v : LocalModel _ _ = (c.self-inside.view_is 0).giver in let inner = same_giver c.self-inside.view_is in
    rw (← c.number.ensures) (takes_exact v c.from_raw.new.self c.number.result c.self-inside.invariant c.args.self.now (inner ∙ c.self.view_is)
    c.from_raw.result c.from_raw.ensures)

pub returns-clause-undisturbed : goal.returns-clause-undisturbed
returns-clause-undisturbed g c = let v : LocalModel _ _ = (c.self-inside.view_is 0).giver in let inner = same_giver c.self-inside.view_is in
    takes_undisturbed v c.from_raw.new.self c.number.result c.self-inside.invariant c.args.self.now (inner ∙ c.self.view_is) (showing g.row.T) g.T.Item.holds
    c.from_raw.result c.from_raw.ensures
