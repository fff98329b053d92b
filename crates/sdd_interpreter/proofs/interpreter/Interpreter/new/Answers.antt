use Rattle.sdd_interpreter.proofs.Words.{arith, refl}
use Rattle.sdd_interpreter.proofs.Acts.{tied-start}
use Rattle.sdd_interpreter.proofs.interpreter.Interpreter.new.Goals as goal

pub invariant_of-result : goal.invariant_of-result
invariant_of-result c =
    tied-start _ c.args.limits c.in_ok-world.ensures.new refl c.new-2.ensures c.new-3.ensures c.new-4.ensures c.new-5.ensures c.new-6.ensures
    c.new-7.ensures c.new-8.ensures c.new-9.ensures c.new-10.ensures.items (omega (arith, c.in_ok-names.ensures.len))
    (c.in_ok-dates.ensures.items_if_clones_equal (λ x e. e)) refl (c.in_ok-deferred.ensures.items_if_clones_equal (λ x e. e))
    (c.in_ok-job_dates.ensures.items_if_clones_equal (λ x e. e))
    (c.are_in_range.ensures.0 c.if-not-are_in_range.false)
