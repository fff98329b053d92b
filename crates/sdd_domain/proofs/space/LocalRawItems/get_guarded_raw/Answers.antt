use Rattle.std.proofs.Common.{sym, ◌∙◌, subst}
use Rattle.sdd_domain_steps.specs.Local.{LocalModel}
use Rattle.sdd_domain_core.specs.Sound.{IsSound}
use Rattle.sdd_domain.proofs.Givers.{same_giver}
use Rattle.sdd_domain.proofs.RawWorld.{looks_sound, looks_shown, looks_exact, looks_undisturbed}
use Rattle.sdd_domain.proofs.space.LocalRawItems.get_guarded_raw.Goals as goal

pub invariant_of-self : goal.invariant_of-self
invariant_of-self g c = let v : LocalModel _ _ = (c.self-inside.view_is 0).giver in let inner = same_giver c.self-inside.view_is in
    looks_sound g.row.T g.T.Item.holds v c.get_guarded_raw.new.self c.number.result c.self-inside.invariant c.codes.ensures
    (subst (IsSound g.T.Item.holds) (sym inner) c.self.invariant) c.get_guarded_raw.result c.get_guarded_raw.ensures

pub returns-clause-shown : goal.returns-clause-shown
returns-clause-shown g c = let v : LocalModel g.row.T.Denot g.row.J.Denot = (c.self-inside.view_is 0).giver in
    rw (← c.number.ensures) (looks_shown g.row.T g.T.Item.holds v c.get_guarded_raw.new.self c.number.result c.self-inside.invariant c.codes.ensures
    c.get_guarded_raw.result
    c.get_guarded_raw.ensures)

pub returns-clause-exact : goal.returns-clause-exact
returns-clause-exact g c = let v : LocalModel _ _ = (c.self-inside.view_is 0).giver in let inner = same_giver c.self-inside.view_is in
    rw (← c.number.ensures) (looks_exact g.row.T g.T.Item.holds v c.get_guarded_raw.new.self c.number.result c.self-inside.invariant c.codes.ensures
    c.args.self.now
    (inner ∙ c.self.view_is) c.get_guarded_raw.result c.get_guarded_raw.ensures)

pub returns-clause-undisturbed : goal.returns-clause-undisturbed
returns-clause-undisturbed g c = let v : LocalModel _ _ = (c.self-inside.view_is 0).giver in let inner = same_giver c.self-inside.view_is in
    looks_undisturbed g.row.T g.T.Item.holds v c.get_guarded_raw.new.self c.number.result c.self-inside.invariant c.codes.ensures c.args.self.now
    (inner ∙ c.self.view_is) c.get_guarded_raw.result c.get_guarded_raw.ensures
