use Rattle.std.proofs.lemmas.Result.{err_from_is_err_and}
use Rattle.sdd_script.proofs.acts.copies.copy_of.Goals as goal

pub returns-in_err-copy-in-Queue-clause-copied : goal.returns-in_err-copy-in-Queue-clause-copied
returns-in_err-copy-in-Queue-clause-copied c =
    let p = err_from_is_err_and c.from_residual.result c.from_residual.ensures.1 in
    rw (c.in-Queue.is, p.1, p.2) c.in_err-copy-in-Queue.ensures.done.1

pub returns-in_err-copy-in-Stack-clause-copied : goal.returns-in_err-copy-in-Stack-clause-copied
returns-in_err-copy-in-Stack-clause-copied c =
    let p = err_from_is_err_and c.from_residual-in_err-copy-in-Stack.result c.from_residual-in_err-copy-in-Stack.ensures.1 in
    rw (c.in-Stack.is, p.1, p.2) (λ es second has. c.in_err-copy-in-Stack.ensures.done.1 es has)
