use Rattle.std.proofs.Common.{◌≡◌, ap, refl, sym, ◌∙◌, arith, sum_by, length, None}
use Rattle.std.proofs.lemmas.List.{length-replicate}
use Rattle.std.proofs.lemmas.Grind.{common_steps}
use Rattle.std.proofs.lemmas.List.Sums.{count_by-le-length}
use Rattle.std.specs.Prelude.{is_none}
use Rattle.sdd_participants.specs.EpochState.{waiting_count}
use Rattle.sdd_participants.specs.Jobs.{places_of}
use Rattle.sdd_participants.proofs.Places.{places-length, places-none}
use Rattle.sdd_world_model.specs.World.{is_loose}
use Rattle.sdd_world_model.proofs.OwnerCounts.{blank-at}
use Rattle.sdd_world_core.proofs.Lending.{lent-blank}
use Rattle.sdd_world_core.proofs.world_core.WorldCore.new.Goals as goal

pub invariant_of-result : goal.invariant_of-result
invariant_of-result g c =
    let none : sum_by waiting_count c.args.time.places ≡ 0 = ap (λ ps. sum_by waiting_count ps) c.requires.idle in
    record {
      counted = omega (arith, none, count_by-le-length is_loose c.in-Ok.slots.standings, count_by-le-length is_none (places_of c.in_ok-jobs.jobs));
      reserved = omega (
        arith,
        c.requires.room,
        ap length c.in-Ok.ensures.standings ∙ length-replicate c.args.slots None,
        places-length c.in_ok-jobs.jobs ∙ ap length c.in_ok-jobs.ensures ∙ length-replicate c.args.jobs None,
      );
      held = grind (arith, common_steps);
      homes = λ k. rw (c.in-Ok.ensures.values, blank-at c.args.slots k) tt;
      participants = grind (arith, common_steps);
      sections = grind (arith, common_steps);
      readers = grind (arith, common_steps);
    }

pub returns-in-Ok-clause-lent : goal.returns-in-Ok-clause-lent
returns-in-Ok-clause-lent g c =
    lent-blank _ _ c.args.slots c.args.participants c.requires.idle c.requires.nesting c.in-Ok.ensures.fractions c.in_ok-sections.ensures.size
    (c.in_ok-sections.ensures.count ∙ sym c.in_ok-sections.ensures.size) c.in_ok-sections.ensures.closed

pub returns-in-Ok-clause-blank : goal.returns-in-Ok-clause-blank
returns-in-Ok-clause-blank g c = record {
  time = refl;
  standings = c.in-Ok.ensures.standings;
  values = c.in-Ok.ensures.values;
  cells = c.in-Ok.ensures.cells;
  pointers = c.in-Ok.ensures.pointers;
  jobs = ap places_of c.in_ok-jobs.ensures ∙ places-none _ c.args.jobs;
  tally = c.new-in-Ok.ensures;
}
