use Rattle.sdd_space.proofs.atomic_cell.AtomicCell.update_tag_if.Goals as goal

pub returns-clause-exact : goal.returns-clause-exact
returns-clause-exact g c = λ is_exact. rw (c.right.ensures.right) at (c.update_tag_if.ensures.exact is_exact)
