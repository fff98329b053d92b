use Rattle.std.proofs.Common.{ℕ, map, take, max, refl, ap, ◌∙◌}
use Rattle.sdd_machine.specs.Sizes.{greatest, place_named}
use Rattle.sdd_machine.proofs.Greatest.{greatest-more}
use Rattle.sdd_machine.proofs.machine.places_for.Goals as goal

pub loop-step-preserved : goal.loop-step-preserved
loop-step-preserved c =
    let steps = c.args.steps.now in let i = c.loop-step.step-index in
    c.max-greatest.ensures ∙ (ap (λ (k : ℕ). max c.place.result k) c.loop-step.invariant
    ∙ (ap (λ (k : ℕ). max k (greatest (map place_named (take i steps)))) c.place.ensures ∙ greatest-more place_named steps i _ _ c.loop-step-test.true refl))
