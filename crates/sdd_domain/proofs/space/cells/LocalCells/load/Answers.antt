use Rattle.std.proofs.Common.{sym, ap, ◌∙◌, subst}
use Rattle.sdd_shared_values.specs.SharedValues.{showing}
use Rattle.sdd_rights.specs.Right.{number_of, kind_of}
use Rattle.sdd_space.specs.Ptr.{cell_seen}
use Rattle.sdd_domain_steps.specs.Local.{LocalModel, world_of}
use Rattle.sdd_domain_core.specs.Sound.{IsSound}
use Rattle.sdd_domain.proofs.Givers.{same_giver}
use Rattle.sdd_domain.proofs.Pointers.{finds_exact, finds_owned, through_shown, through_step, through_world}
use Rattle.sdd_domain.proofs.Steps.{step_leaves}
use Rattle.sdd_domain.proofs.space.cells.LocalCells.load.Goals as goal

pub invariant_of-self : goal.invariant_of-self
invariant_of-self g c = let v : LocalModel _ _ = (c.self-inside.view_is 0).giver in let inner = same_giver c.self-inside.view_is in
    let did = c.load_pointer in
    (through_step g.row.T g.T.Item.holds v did.new.self did.result did.ensures.seen).sound c.self-inside.invariant
    (subst (IsSound g.T.Item.holds) (sym inner) c.self.invariant)

pub returns-clause-undisturbed : goal.returns-clause-undisturbed
returns-clause-undisturbed g c = let v : LocalModel _ _ = (c.self-inside.view_is 0).giver in let inner = same_giver c.self-inside.view_is in
    let did = c.load_pointer in
    step_leaves (showing g.row.T) g.T.Item.holds v (record { member = did.new.self; entries = v.entries }) c.args.self.now (inner ∙ c.self.view_is)
    (through_step g.row.T g.T.Item.holds v did.new.self did.result did.ensures.seen) c.self-inside.invariant

pub returns-clause-shown : goal.returns-clause-shown
returns-clause-shown g c = let v : LocalModel g.row.T.Denot g.row.J.Denot = (c.self-inside.view_is 0).giver in let did = c.load_pointer in
    through_shown g.row.T g.T.Item.holds v did.new.self c.self-inside.invariant c.codes.ensures did.result did.ensures.seen

pub returns-clause-owned : goal.returns-clause-owned
returns-clause-owned g c = λ exact. let v : LocalModel _ _ = (c.self-inside.view_is 0).giver in let inner = same_giver c.self-inside.view_is in
    let did = c.load_pointer in let found = did.ensures.found in
    finds_owned v (number_of c.args.cell.now) found.0 found.1 c.self-inside.invariant c.args.self.now (inner ∙ c.self.view_is) exact
    (kind_of c.args.cell.now) did.result did.ensures.owned

pub returns-clause-exact : goal.returns-clause-exact
returns-clause-exact g c = λ exact. let v : LocalModel _ _ = (c.self-inside.view_is 0).giver in let inner = same_giver c.self-inside.view_is in
    let did = c.load_pointer in let found = did.ensures.found in (
      finds_exact v (number_of c.args.cell.now) found.0 found.1 c.self-inside.invariant c.args.self.now (inner ∙ c.self.view_is) exact
          (cell_seen did.result) found.2,
      through_world g.row.T g.T.Item.holds v did.new.self did.result did.ensures.seen ∙ ap world_of (inner ∙ c.self.view_is),
    )
