use Rattle.std.proofs.Common.{sym, ap, ◌∙◌, subst, IsTrue}
use Rattle.sdd_shared_values.specs.SharedValues.{showing}
use Rattle.sdd_world_model.specs.OwnerOrCell.{AreOf}
use Rattle.sdd_domain_steps.specs.Local.{LocalModel}
use Rattle.sdd_domain_core.specs.Sound.{IsSound}
use Rattle.sdd_domain_core.specs.Space.{is_lone}
use Rattle.sdd_domain_steps.specs.SpaceIds.{home_in}
use Rattle.sdd_domain.proofs.CellMade.{answered_exact, answered_shown, answered_step}
use Rattle.sdd_domain.proofs.Steps.{step_leaves}
use Rattle.sdd_domain.proofs.space.cells.LocalCells.new_in_cell.Goals as goal

pub invariant_of-self : goal.invariant_of-self
invariant_of-self g c = let v : LocalModel g.row.T.Denot g.row.J.Denot = c.self-2.view_is 0 in let did = c.new_in_cell in
    let at = subst (λ (z : LocalModel g.row.T.Denot g.row.J.Denot). AreOf (home_in z.member) (g.T.Item.holds c.args.value))
    (sym (c.self-2.view_is ∙ c.self.view_is)) c.requires.home in
    (answered_step g.row.T g.T.Item.holds v did.new.self did.new.ghost_values.entries c.args.kind c.args.value did.result did.ensures.made at).tied
    c.self-2.invariant

pub invariant_of-self-2 : goal.invariant_of-self-2
invariant_of-self-2 g c = let v : LocalModel g.row.T.Denot g.row.J.Denot = c.self-2.view_is 0 in let did = c.new_in_cell in
    let at = subst (λ (z : LocalModel g.row.T.Denot g.row.J.Denot). AreOf (home_in z.member) (g.T.Item.holds c.args.value))
    (sym (c.self-2.view_is ∙ c.self.view_is)) c.requires.home in
    (answered_step g.row.T g.T.Item.holds v did.new.self did.new.ghost_values.entries c.args.kind c.args.value did.result did.ensures.made at).sound
    c.self-2.invariant (subst (IsSound g.T.Item.holds) (sym c.self-2.view_is) c.self.invariant)

pub returns-clause-undisturbed : goal.returns-clause-undisturbed
returns-clause-undisturbed g c = let v : LocalModel g.row.T.Denot g.row.J.Denot = c.self-2.view_is 0 in let did = c.new_in_cell in
    let at = subst (λ (z : LocalModel g.row.T.Denot g.row.J.Denot). AreOf (home_in z.member) (g.T.Item.holds c.args.value))
    (sym (c.self-2.view_is ∙ c.self.view_is)) c.requires.home in
    step_leaves (showing g.row.T) g.T.Item.holds v (record { member = did.new.self; entries = did.new.ghost_values.entries }) c.args.self.now
    (c.self-2.view_is ∙ c.self.view_is)
    (answered_step g.row.T g.T.Item.holds v did.new.self did.new.ghost_values.entries c.args.kind c.args.value did.result did.ensures.made at) c.self-2.invariant

pub returns-clause-shown : goal.returns-clause-shown
returns-clause-shown g c = λ exact. let v : LocalModel g.row.T.Denot g.row.J.Denot = c.self-2.view_is 0 in let did = c.new_in_cell in
    let alone : IsTrue (is_lone did.new.self)
    = subst (λ (b : _). IsTrue b) (sym (ap (λ s. s.exact) (returns-clause-undisturbed g c).caller)) exact in
    answered_shown g.row.T g.T.Item.holds v did.new.self did.new.ghost_values.entries c.args.kind c.args.value c.self-2.invariant c.args.self.now
    (c.self-2.view_is ∙ c.self.view_is) exact did.result did.ensures.made alone

pub returns-clause-exact : goal.returns-clause-exact
returns-clause-exact g c = λ exact. let v : LocalModel g.row.T.Denot g.row.J.Denot = c.self-2.view_is 0 in let did = c.new_in_cell in
    answered_exact g.row.T g.T.Item.holds v did.new.self did.new.ghost_values.entries c.args.kind c.args.value
    c.self-2.invariant c.args.self.now (c.self-2.view_is ∙ c.self.view_is) exact did.result did.ensures.made did.ensures.back
