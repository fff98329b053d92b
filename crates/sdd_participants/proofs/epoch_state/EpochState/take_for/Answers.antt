use Rattle.std.proofs.Common.{◌<◌, ◌≤◌, ◌++◌, ap, ap₂, arith, length, sym, ◌∙◌}
use Rattle.std.proofs.lemmas.List.{take_all}
use Rattle.std.specs.Prelude.{sum_by}
use Rattle.sdd_participants.specs.EpochState.{EpochState, waiting_count}
use Rattle.sdd_participants.specs.declared.participant.Participant.{Participant}
use Rattle.sdd_participants.specs.Collecting.{is_kept_for, chosen_of, chosen_among}
use Rattle.sdd_participants.proofs.Collecting.{among-more, among-or-left, place-below, room-below, taken-all, taken-next}
use Rattle.sdd_participants.proofs.epoch_state.EpochState.take_for.Goals as goal

pub take_from-requires-clause-room : goal.take_from-requires-clause-room
take_from-requires-clause-room g c =
    let chosen = is_kept_for c.args.collector (g.S.StandingLookup.standings c.args.standings.now) in
    let t = c.args.self.now in
    let i = c.loop-place.place in
    let inside : i < length t.places = omega (arith, c.loop-place.invariant.end, c.loop-place-test.true) in
    let same = ap waiting_count (place-below chosen t c.loop-place.self i c.loop-place.invariant.left inside) in
    omega (arith, same, ap length c.loop-place.invariant.taken, room-below chosen t.places i inside, c.requires.reserved, c.loop-place.invariant.reserved)

pub loop-place-preserved : goal.loop-place-preserved
loop-place-preserved g c =
    let chosen = is_kept_for c.args.collector (g.S.StandingLookup.standings c.args.standings.now) in
    let t = c.args.self.now in
    let u = c.loop-place.self in
    let i = c.loop-place.place in
    let inside : i < length t.places = omega (arith, c.loop-place.invariant.end, c.loop-place-test.true) in
    record {
      left = c.take_from.ensures.left ∙ taken-next chosen t u i c.loop-place.invariant.left inside;
      taken = c.take_from.ensures.taken
          ∙ ap₂ (λ ws (x : Participant). ws ++ chosen_of chosen x.bags.waiting) c.loop-place.invariant.taken
          (place-below chosen t u i c.loop-place.invariant.left inside)
          ∙ sym (among-more chosen t.places i inside);
      reserved = c.take_from.ensures.reserved ∙ c.loop-place.invariant.reserved;
      end = c.loop-place.invariant.end;
    }

pub returns-clause-count : goal.returns-clause-count
returns-clause-count g c =
    let chosen = is_kept_for c.args.collector (g.S.StandingLookup.standings c.args.standings.now) in
    let t = c.args.self.now in
    let i = c.loop-place.place in
    let all : length t.places ≤ i = omega (arith, c.loop-place.invariant.end, c.loop-place-test.false) in
    let left = ap (λ (u : EpochState). sum_by waiting_count u.places) (c.loop-place.invariant.left ∙ taken-all chosen t i all) in
    let taken = ap length (c.loop-place.invariant.taken ∙ ap (chosen_among chosen) (take_all i t.places all)) in
    omega (arith, left, taken, among-or-left chosen t.places)
