use Rattle.std.proofs.Common.{ap, sym, ◌∙◌, arith, Option, sum_by}
use Rattle.std.specs.Prelude.{is_some}
use Rattle.sdd_participants.specs.Slab.{Entries, entry_at}
use Rattle.sdd_participants.specs.declared.standing.Standing.{Standing}
use Rattle.sdd_world_model.specs.Slots.{is_waiting}
use Rattle.sdd_world_model.specs.WorldInvariant.{times_with, jobs_with, once_if}
use Rattle.sdd_world_model.proofs.OwnerCounts.{blank-at}
use Rattle.std.proofs.lemmas.Grind.{common_steps}
use Rattle.sdd_world_model.proofs.PlacesMatchStates.{housed-none}
use Rattle.sdd_world.proofs.world.World.starting_at.Goals as goal

pub invariant_of-result : goal.invariant_of-result
invariant_of-result g c =
    let new = c.in_ok-core.ensures.blank in
    let time = new.time ∙ c.in_ok-time.ensures in (
      c.in_ok-spare.ensures.items,
      grind (arith, common_steps),
      record {
        filled = grind (arith, common_steps);
        once = λ k.
            let idle = ap (λ t. sum_by (times_with k) t.places) time in
            let free = ap (λ (ss : Entries Standing). entry_at ss k) new.standings ∙ blank-at _ k in
            idle ∙ sym (ap (λ (s : Option Standing). once_if (is_waiting s)) free);
        jobs_once = λ j.
            let idle = ap (λ t. sum_by (jobs_with j) t.places) time in
            let free = ap (λ (js : Entries (Unit {0})). entry_at js j) new.jobs ∙ blank-at _ j in
            idle ∙ sym (ap (λ (x : Option (Unit {0})). once_if (is_some x)) free);
        abreast = grind (arith, common_steps);
        housed = housed-none c.in_ok-core.core.world.time (ap (λ t. t.places) time) (ap (λ t. t.phases) time);
        counted = grind (arith, common_steps);
      },
      c.in_ok-core.ensures.lent,
    )
