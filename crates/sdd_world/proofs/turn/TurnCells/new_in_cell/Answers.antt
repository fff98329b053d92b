use Rattle.std.proofs.Common.{subst, ◌<◌, ℕ, Bool, List, length, ap, sym, ◌∙◌, arith, Some, None}
use Rattle.std.specs.Prelude.{is_some}
use Rattle.std.proofs.lemmas.List.{get_or-set_same, length-map}
use Rattle.std.proofs.lemmas.Bool.{false≢true}
use Rattle.sdd_participants.specs.Slab.{IsFull}
use Rattle.sdd_rights.specs.Right.{number_of}
use Rattle.sdd_world.proofs.turn.TurnCells.new_in_cell.Goals as goal

-- what is made takes no cell
pub fill_cell-requires-clause-room : goal.fill_cell-requires-clause-room
fill_cell-requires-clause-room g c full =
    let cells = ap (λ s. s.world.cells) c.fill-right.ensures.made in
    false≢true (sym c.if-has_no_cell.false ∙ c.has_no_cell.ensures.1 (subst IsFull cells full))

pub returns-clause-shown : goal.returns-clause-shown
returns-clause-shown g c = λ _.
    let slot : ℕ = number_of c.fill-right.result in
    let w = c.world.inside.core.world in
    let filled = c.fill-right.ensures in
    let celled = c.fill_cell.ensures in
    let long = sym (length-map w.values is_some) ∙ ap (λ (bs : List Bool). length bs) c.world.invariant.2.filled ∙ length-map w.standings is_some in
    let inside : slot < length w.values = omega (arith, long, filled.empty.0) in (
      slot,
      rw (celled.made, filled.made) (get_or-set_same w.values slot (Some c.args.value) None inside),
      rw celled.made (get_or-set_same _ _ _ None celled.empty.0),
    )
