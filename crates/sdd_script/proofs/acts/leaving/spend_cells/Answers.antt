use Rattle.sdd_script.proofs.Words.{refl}
use Rattle.sdd_script.proofs.ScriptEnd.{cell-home, ends-cell, goes-same, goes-start, goes-then, live-in, spends-next, spends-none, still-spent}
use Rattle.sdd_script.proofs.acts.leaving.spend_cells.Goals as goal

pub loop-cell-init : goal.loop-cell-init
loop-cell-init c = spends-none (goes-start _ _ c.requires) refl

pub at-requires-clause-place : goal.at-requires-clause-place
at-requires-clause-place c = live-in c.loop-cell.environment _ c.loop-cell.invariant.goes.ending

pub at-requires-clause-asked : goal.at-requires-clause-asked
at-requires-clause-asked c = cell-home c.loop-cell.environment _ c.loop-cell.invariant.goes.ending c.loop-cell.cell _ c.in-Some.ensures.taken

pub loop-cell-preserved-in_default : goal.loop-cell-preserved-in_default
loop-cell-preserved-in_default c =
    let now = c.in_default.ensures in
    spends-next (λ u v. refl) c.loop-cell.invariant (record c.loop-cell.environment { cells = c.take.new.self })
    (goes-then c.loop-cell.invariant.goes (goes-same _ _ c.loop-cell.invariant.goes.ending _ (rw (still-spent _ _ _ now.spent now.taken) refl))) now.spent refl

pub loop-cell-preserved : goal.loop-cell-preserved
loop-cell-preserved c =
    let now = c.in-Some.ensures in
    let gone = ends-cell c.loop-cell.environment _ c.loop-cell.invariant.goes.ending c.is_whole.ensures _ _ _ now.taken _ now.spent c.at.ensures.done in
    spends-next (λ u v. refl) c.loop-cell.invariant _ (goes-then c.loop-cell.invariant.goes gone) now.spent refl
