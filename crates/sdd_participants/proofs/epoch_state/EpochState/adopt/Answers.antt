use Rattle.std.proofs.Common.{◌≡◌, ◌+◌, ◌<◌, ◌≤◌, ap, arith, length, subst, sym, true, false, ◌∙◌}
use Rattle.sdd_participants.specs.PlaceStates.{is_ended}
use Rattle.sdd_participants.specs.EpochState.{EpochState, adopted_below, phase_at}
use Rattle.sdd_participants.proofs.Adoptions.{Adopts, adopted-next, adopts-below, live-after, live-apart, two-waiting, waiting-total}
use Rattle.sdd_participants.proofs.epoch_state.EpochState.adopt.Goals as goal
use Rattle.sdd_participants.proofs.epoch_state.EpochState.adopt.Goals.{then-is_ended, else-is_ended}

pub adopt_from-requires : goal.adopt_from-requires
adopt_from-requires c =
    let t = c.args.self.now in
    let u = c.loop-from.self in
    let from = c.loop-from.from in
    let inside : from < length t.places = omega (arith, c.loop-from.invariant.end, c.loop-from-test.true) in
    let a = c.loop-from.invariant.adopts in
    let live = live-after c.requires.live a in
    let over : is_ended (phase_at u from) ≡ true = sym c.is_ended.ensures ∙ c.if-is_ended.true in
    let apart = live-apart u c.args.place from live over in
    let there : from < length u.places = omega (arith, inside, a.places) in
    let both = two-waiting u c.args.place from apart live.0 there in
    let room = ap (λ (v : EpochState). v.room) a.only in
    record { places = (live.0, there, apart); ended = over; room = omega (arith, both, room, a.totals _ waiting-total, c.requires.room) }

pub loop-from-preserved : goal.loop-from-preserved
loop-from-preserved c =
    let t = c.args.self.now in
    let u = c.loop-from.self in
    let p = c.args.place in
    let from = c.loop-from.from in
    let step = adopted-next t u p from c.loop-from.invariant.so_far in
    let inside : from + 1 ≤ length t.places = omega (arith, c.loop-from.invariant.end, c.loop-from-test.true) in
    let next : c.if-is_ended.self ≡ adopted_below t p (from + 1) = elim c.if-is_ended.branch [
      | then-is_ended w ↦ w.self-is ∙ w.adopt_from.ensures ∙ step true (sym c.is_ended.ensures ∙ w.if-is_ended.true)
      | else-is_ended w ↦ w.self-is ∙ step false (sym c.is_ended.ensures ∙ w.if-is_ended.false)
    ] in
    record {
      so_far = next;
      adopts = subst (λ (v : EpochState). Adopts p t v) (sym next) (adopts-below t p (from + 1) c.requires.live inside);
      end = c.loop-from.invariant.end;
    }
