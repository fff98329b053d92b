use Rattle.std.proofs.Common.{arith, ap, sym, ◌∙◌, ◌++◌, ◌∷◌, []}
use Rattle.sdd_participants.proofs.NewSlab.{one_more}
use Rattle.sdd_participants.proofs.slab.numbers_below.Goals as goal

pub loop-number-preserved : goal.loop-number-preserved
loop-number-preserved c = let i = c.loop-number.invariant in let e = c.push_reserved.ensures in (
  e.items ∙ ap (λ l. l ++ c.loop-number.number ∷ []) i.0 ∙ sym (one_more c.loop-number.number),
  omega (arith, i.1, e.len),
  omega (arith, i.2, e.capacity),
)
