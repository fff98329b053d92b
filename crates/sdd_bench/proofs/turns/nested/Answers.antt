use Rattle.sdd_bench.proofs.Leaving.{under-guard}
use Rattle.sdd_bench.proofs.turns.nested.Goals as goal

pub returns : goal.returns
returns g c =
    let opening = c.in_ok-outer.ensures in let closing = c.close.ensures in
    under-guard _ _ _ _ _ _ _ _ _ _ _ _ opening.caller opening.own.1 (λ exact. (opening.exact exact).1)
    c.plain-done.ensures closing.caller closing.own closing.exact
