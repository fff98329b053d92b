use Rattle.sdd_space.proofs.CellOwners.{shares}
use Rattle.sdd_space.proofs.atomic_shared.AtomicCell+SharedOwnership+T.get_shared.Goals as goal

pub returns-in-Ok-clause-exact : goal.returns-in-Ok-clause-exact
returns-in-Ok-clause-exact g c = λ is_exact.
    let did = c.in-Ok.ensures.exact is_exact in (
      did.0,
      rw (← c.right.ensures.right) did.1,
      shares _ _ c.of_held.result c.in-Ok.held did.0.held c.of_held.ensures did.2.0 did.2.1,
    )

pub returns-in-Err-clause-exact : goal.returns-in-Err-clause-exact
returns-in-Err-clause-exact g c = λ is_exact.
    let did = c.in-Err.ensures.exact is_exact in (did.0, rw (← c.right.ensures.right) did.1, did.2)
