use Rattle.std.proofs.Common.{◌≡◌, ℕ, Option, ap, sym, ◌∙◌}
use Rattle.std.specs.Prelude.{unwrap_or}
use Rattle.sdd_rights.specs.Right.{number_of}
use Rattle.sdd_participants.specs.declared.standing.CellContents.{CellContents}
use Rattle.sdd_world_model.specs.Cells.{cell_with, slot_held}
use Rattle.sdd_world_model.specs.WorldChanges.{with_cell}
use Rattle.sdd_world_core.proofs.CellCopies.{copied}
use Rattle.sdd_world_core.proofs.world_core.WorldCore.clone_cell.Goals as goal

pub returns-clause-copied : goal.returns-clause-copied
returns-clause-copied g c =
    let owner = c.in_ok-owner.owner in
    let was = c.in_ok-owner.ensures.held in
    let old : CellContents = was.0 in
    let m = c.owner_held.new.self in
    let k : ℕ = number_of c.fill_cell.result in
    let tag : old.tag ≡ c.cell-tag.result.tag = ap (λ (o : Option CellContents). (unwrap_or o old).tag) (sym was.1 ∙ c.cell-tag.ensures) in
    let same : cell_with owner c.cell-tag.result.tag ≡ old = λ i. record { held = (sym was.2.0) i; tag = (sym tag) i } in (
      old,
      was.1,
      copied c.args.self.now m c.fill_cell.new.self k old
          (c.fill_cell.ensures.made ∙ ap (λ (x : CellContents). record m { world = with_cell m.world k x }) same)
          c.fill_cell.ensures.empty (slot_held owner) was.2.0 c.in_ok-owner.ensures.upgraded,
    )
