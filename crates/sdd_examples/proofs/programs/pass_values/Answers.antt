use Rattle.std.proofs.Common.{◌+◌, [], ◌∷◌, ap, arith, length, length-append}
use Rattle.sdd_examples.proofs.programs.pass_values.Goals as goal

pub loop-value-preserved : goal.loop-value-preserved
loop-value-preserved g c =
    let was = c.loop-value.invariant in
    let one_less = length-append c.pop.new.self.items (c.in-Some.value ∷ []) in
    let passed = c.items_pass.ensures.more _ _ _ was.0 1 was.2 c.pass_a_value.ensures in
    (was.0 + 1, omega (arith, was.1, ap (λ xs. length xs) c.in-Some.ensures.items, one_less), passed)
