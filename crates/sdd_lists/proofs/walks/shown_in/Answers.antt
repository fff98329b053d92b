use Rattle.sdd_lists.proofs.walks.shown_in.Goals as goal

pub returns-in-Err-clause-exact : goal.returns-in-Err-clause-exact
returns-in-Err-clause-exact g c = λ e t es list. absurd (c.in-Err.ensures.exact e t es list)
