use Rattle.std.proofs.Common.{◌≡◌, ℕ, sym, refl, ◌∙◌, subst}
use Rattle.std.specs.Prelude.{IfSome, IsSome, Option}
use Rattle.sdd_participants.specs.declared.standing.CellContents.{CellContents}
use Rattle.sdd_rights.specs.Right.{number_of}
use Rattle.sdd_world_model.specs.Cells.{slot_held}
use Rattle.sdd_shared_values.specs.SharedValues.{showing}
use Rattle.sdd_domain_invariant.specs.Codes.{held_slots}
use Rattle.sdd_domain_steps.specs.Local.{LocalModel, contents_of}
use Rattle.sdd_domain_core.specs.Sound.{IsSound}
use Rattle.sdd_domain.proofs.Givers.{same_giver}
use Rattle.sdd_domain_core.proofs.CellWorld.{freed_exact, full_exact, sound_written, written_undisturbed}
use Rattle.sdd_domain.proofs.Steps.{lone_begun}
use Rattle.sdd_domain_steps.proofs.HeldOwners.{listed_first}
use Rattle.sdd_domain.proofs.space.cells.LocalCells.into_contents.Goals as goal

pub invariant_of-self : goal.invariant_of-self
invariant_of-self g c = let v : LocalModel _ _ = (c.self-inside.view_is 0).giver in let inner = same_giver c.self-inside.view_is in
    sound_written v (number_of c.args.cell) c.into_contents.result.1 0 c.into_contents.new.self c.into_contents.ensures.freed.writes g.T.Item.holds
    (subst (IsSound g.T.Item.holds) (sym inner) c.self.invariant)

pub returns-clause-undisturbed : goal.returns-clause-undisturbed
returns-clause-undisturbed g c = let v : LocalModel _ _ = (c.self-inside.view_is 0).giver in let inner = same_giver c.self-inside.view_is in
    written_undisturbed v (number_of c.args.cell) c.into_contents.result.1 0 c.into_contents.new.self c.into_contents.ensures.freed.writes c.args.self.now
    (inner ∙ c.self.view_is) (showing g.row.T) g.T.Item.holds

pub returns-clause-exact : goal.returns-clause-exact
returns-clause-exact g c = λ exact. let v : LocalModel _ _ = (c.self-inside.view_is 0).giver in let inner = same_giver c.self-inside.view_is in
    let lone = lone_begun v c.args.self.now (inner ∙ c.self.view_is) exact in
    let found : ℕ = c.into_contents.result.1 in let cell : ℕ = number_of c.args.cell in let is = c.into_contents.ensures.freed in
    let there = full_exact v cell found 0 c.into_contents.new.self is.writes c.self-inside.invariant c.args.self.now (inner ∙ c.self.view_is) exact
    (contents_of found) (is.full lone) refl in
    let held : (contents_of found).held ≡ slot_held c.into_contents.result.0
    = listed_first (slot_held c.into_contents.result.0) (held_slots found) c.into_contents.ensures.slots in (
      subst (λ (o : Option CellContents). IfSome o (λ old. old.held ≡ slot_held c.into_contents.result.0)) (sym there) held,
      subst (λ (o : Option CellContents). IsSome o) (sym there) refl,
      freed_exact v cell found c.into_contents.new.self is c.self-inside.invariant c.args.self.now (inner ∙ c.self.view_is) exact,
    )
