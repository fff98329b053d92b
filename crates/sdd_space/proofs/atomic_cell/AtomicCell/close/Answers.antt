use Rattle.sdd_world_model.proofs.ContentsGivenUp.{spills-if}
use Rattle.sdd_space.proofs.atomic_cell.AtomicCell.close.Goals as goal

pub returns-in-Some-clause-own : goal.returns-in-Some-clause-own
returns-in-Some-clause-own g c = spills-if c.release.result _ _ _ (rw (c.into_contents.ensures.undisturbed.own) at c.release.ensures.own)
