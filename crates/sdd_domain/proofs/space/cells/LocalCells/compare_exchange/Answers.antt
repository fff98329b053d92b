use Rattle.std.proofs.Common.{ℕ, sym, ◌∙◌, subst}
use Rattle.sdd_shared_values.specs.SharedValues.{showing}
use Rattle.sdd_rights.specs.Right.{number_of}
use Rattle.sdd_world_model.specs.Cells.{cell_with}
use Rattle.sdd_domain_steps.specs.Local.{LocalModel}
use Rattle.sdd_domain_core.specs.Sound.{IsSound}
use Rattle.sdd_domain.proofs.Givers.{same_giver}
use Rattle.sdd_domain.proofs.CellExchanged.{exchanged_exact, exchanged_shown, exchanged_step, refused_exact, refused_shown, refused_step}
use Rattle.sdd_domain.proofs.Steps.{step_leaves}
use Rattle.sdd_domain.proofs.space.cells.LocalCells.compare_exchange.Goals as goal

pub invariant_of-self-inside : goal.invariant_of-self-inside
invariant_of-self-inside g c = let v : LocalModel _ _ = (c.self-inside.view_is 0).giver in let inner = same_giver c.self-inside.view_is in
    let now = c.point_to-now in let cell : ℕ = number_of c.args.cell.now in let x = c.in-Ok.ensures.exchanged.2 in
    (exchanged_step g.row.T g.T.Item.holds v now.new.self now.result now.ensures.seen cell x.0 x.1 c.exchange.new.self x.5).tied c.self-inside.invariant

pub invariant_of-self : goal.invariant_of-self
invariant_of-self g c = let v : LocalModel _ _ = (c.self-inside.view_is 0).giver in let inner = same_giver c.self-inside.view_is in
    let now = c.point_to-now in let cell : ℕ = number_of c.args.cell.now in let x = c.in-Ok.ensures.exchanged.2 in
    (exchanged_step g.row.T g.T.Item.holds v now.new.self now.result now.ensures.seen cell x.0 x.1 c.exchange.new.self x.5).sound
    c.self-inside.invariant (subst (IsSound g.T.Item.holds) (sym inner) c.self.invariant)

pub invariant_of-self-inside-in-Err : goal.invariant_of-self-inside-in-Err
invariant_of-self-inside-in-Err g c = let v : LocalModel _ _ = (c.self-inside.view_is 0).giver in let inner = same_giver c.self-inside.view_is in
    let now = c.point_to-now in let cell : ℕ = number_of c.args.cell.now in let x = c.in-Err.ensures.exchanged in let did = c.load_pointer in
    (refused_step g.row.T g.T.Item.holds v now.new.self now.result now.ensures.seen cell
    c.exchange.new.self x.0 did.new.self did.result did.ensures.seen).tied c.self-inside.invariant

pub invariant_of-self-in-Err : goal.invariant_of-self-in-Err
invariant_of-self-in-Err g c = let v : LocalModel _ _ = (c.self-inside.view_is 0).giver in let inner = same_giver c.self-inside.view_is in
    let now = c.point_to-now in let cell : ℕ = number_of c.args.cell.now in let x = c.in-Err.ensures.exchanged in let did = c.load_pointer in
    (refused_step g.row.T g.T.Item.holds v now.new.self now.result now.ensures.seen cell
    c.exchange.new.self x.0 did.new.self did.result did.ensures.seen).sound
    c.self-inside.invariant (subst (IsSound g.T.Item.holds) (sym inner) c.self.invariant)

pub returns-in-Ok-clause-undisturbed : goal.returns-in-Ok-clause-undisturbed
returns-in-Ok-clause-undisturbed g c = let v : LocalModel _ _ = (c.self-inside.view_is 0).giver in let inner = same_giver c.self-inside.view_is in
    let now = c.point_to-now in let cell : ℕ = number_of c.args.cell.now in let x = c.in-Ok.ensures.exchanged.2 in
    step_leaves (showing g.row.T) g.T.Item.holds v
    (record { member = c.exchange.new.self; entries = v.entries }) c.args.self.now (inner ∙ c.self.view_is)
    (exchanged_step g.row.T g.T.Item.holds v now.new.self now.result now.ensures.seen cell x.0 x.1 c.exchange.new.self x.5) c.self-inside.invariant

pub returns-in-Ok-clause-shown : goal.returns-in-Ok-clause-shown
returns-in-Ok-clause-shown g c = let v : LocalModel g.row.T.Denot g.row.J.Denot = (c.self-inside.view_is 0).giver in
    let now = c.point_to-now in let cell : ℕ = number_of c.args.cell.now in let x = c.in-Ok.ensures.exchanged.2 in
    exchanged_shown g.row.T g.T.Item.holds v now.new.self now.result now.ensures.seen cell x.0 x.1 c.exchange.new.self x.5
    c.self-inside.invariant c.codes.ensures

pub returns-in-Ok-clause-exact : goal.returns-in-Ok-clause-exact
returns-in-Ok-clause-exact g c = λ exact. let v : LocalModel _ _ = (c.self-inside.view_is 0).giver in let inner = same_giver c.self-inside.view_is in
    let now = c.point_to-now in let cell : ℕ = number_of c.args.cell.now in let x = c.in-Ok.ensures.exchanged.2 in
    exchanged_exact g.row.T g.T.Item.holds v now.new.self now.result now.ensures.seen cell x.0 x.1 c.exchange.new.self x.5
    c.self-inside.invariant c.args.self.now (inner ∙ c.self.view_is) exact c.args.current (cell_with c.args.new c.args.tag) x.2 x.3 x.4

pub returns-in-Err-clause-undisturbed : goal.returns-in-Err-clause-undisturbed
returns-in-Err-clause-undisturbed g c = let v : LocalModel _ _ = (c.self-inside.view_is 0).giver in let inner = same_giver c.self-inside.view_is in
    let now = c.point_to-now in let cell : ℕ = number_of c.args.cell.now in let x = c.in-Err.ensures.exchanged in let did = c.load_pointer in
    step_leaves (showing g.row.T) g.T.Item.holds v
    (record { member = did.new.self; entries = v.entries }) c.args.self.now (inner ∙ c.self.view_is)
    (refused_step g.row.T g.T.Item.holds v now.new.self now.result now.ensures.seen cell
    c.exchange.new.self x.0 did.new.self did.result did.ensures.seen) c.self-inside.invariant

pub returns-in-Err-clause-shown : goal.returns-in-Err-clause-shown
returns-in-Err-clause-shown g c = let v : LocalModel g.row.T.Denot g.row.J.Denot = (c.self-inside.view_is 0).giver in
    let now = c.point_to-now in let cell : ℕ = number_of c.args.cell.now in let x = c.in-Err.ensures.exchanged in let did = c.load_pointer in
    refused_shown g.row.T g.T.Item.holds v now.new.self now.result now.ensures.seen cell
    c.exchange.new.self x.0 did.new.self did.result did.ensures.seen
    c.self-inside.invariant c.codes.ensures

pub returns-in-Err-clause-exact : goal.returns-in-Err-clause-exact
returns-in-Err-clause-exact g c = λ exact. let v : LocalModel _ _ = (c.self-inside.view_is 0).giver in let inner = same_giver c.self-inside.view_is in
    let now = c.point_to-now in let cell : ℕ = number_of c.args.cell.now in let x = c.in-Err.ensures.exchanged in let did = c.load_pointer in
    let found = did.ensures.found in
    refused_exact g.row.T g.T.Item.holds v now.new.self now.result now.ensures.seen cell
    c.exchange.new.self x.0 did.new.self did.result did.ensures.seen c.self-inside.invariant
    c.args.self.now (inner ∙ c.self.view_is) exact found.0 found.1 found.2 c.args.current x.1
