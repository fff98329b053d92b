use Rattle.std.proofs.Common.{sym, ◌∙◌, None}
use Rattle.std.proofs.Math.ListN.{replicate}
use Rattle.std.proofs.lemmas.List.{length-replicate}
use Rattle.sdd_world_model.specs.Cells.{null_pointer}
use Rattle.sdd_rights.specs.Right.{badge_home}
use Rattle.sdd_world_slots.proofs.CellsKept.{all-cells-free}
use Rattle.sdd_world_slots.proofs.Contents.{contents-none}
use Rattle.sdd_world_slots.proofs.cells.WorldCells.new.Goals as goal

pub invariant_of-result : goal.invariant_of-result
invariant_of-result c =
    rw (c.in_ok-rights.ensures.kept, c.in_ok-tags.ensures, c.in_ok-held.ensures.held, c.in_ok-held.ensures.pointers)
    rw (contents-none c.args.size (replicate c.args.size None)) (
      all-cells-free c.in_ok-rights.rights.home (badge_home c.args.slots) c.args.size c.in_ok-rights.ensures.size,
      length-replicate c.args.size null_pointer ∙ sym c.in_ok-rights.ensures.size,
    )

pub returns-clause-cells : goal.returns-clause-cells
returns-clause-cells c = rw (c.in_ok-tags.ensures) (contents-none c.args.size _)
