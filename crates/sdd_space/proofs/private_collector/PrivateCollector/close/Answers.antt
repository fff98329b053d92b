use Rattle.sdd_space.proofs.private_collector.PrivateCollector.close.Goals as goal

pub returns-in-Ok-clause-exact : goal.returns-in-Ok-clause-exact
returns-in-Ok-clause-exact g c = λ exact. rw c.into_right.ensures at (c.in-Ok.ensures.exact exact)
