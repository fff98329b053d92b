use Rattle.std.proofs.Common.{◌≡◌, length, arith}
use Rattle.core.specs.Mem.Slots.{slots_items}
use Rattle.sdd_values.proofs.Fractions.{all-none}
use Rattle.sdd_values.proofs.lent_values.empty.Goals as goal

pub returns-clause-items : goal.returns-clause-items
returns-clause-items g c =
    let inv = c.loop-at.invariant in let len = inv.len in let counts = c.loop-at.row.ok.0 in let asked = c.requires in
    let long : length (slots_items c.loop-at.row) ≡ c.args.size = omega (arith, len, counts, asked) in
    all-none _ c.args.size long (λ k d near. inv.none k d (omega (arith, near, c.loop-at-test.false)))
