use Rattle.sdd_atomics.specs.SeatAtTable.{facts_at}
use Rattle.std.proofs.Common.{◌≡◌, ◌≢◌, ℕ, true, false, List, sym, ap, ◌∙◌, subst, inl, inr, ⊎_elim}
use Rattle.sdd_participants.specs.declared.participant.Participant.{Participant}
use Rattle.sdd_participants.specs.EpochState.{nested, settled, rotated}
use Rattle.sdd_participants.specs.Waiting.{Waiting, aged, left}
use Rattle.sdd_domain_steps.specs.BetweenCalls.{IsBetweenCalls}
use Rattle.sdd_domain_steps.proofs.Arrivals.{stayed, moved, due_stayed, due_moved, arrived_same, arrived_moved, between_calls_settled}
use Rattle.sdd_domain_steps.proofs.Reclaims.{either_way}
use Rattle.sdd_domain_steps.proofs.epoch.changes.arrive.Goals as goal

pub returns-clause-between_calls : goal.returns-clause-between_calls
returns-clause-between_calls c = let own : Participant = c.args.own.now in let count : ℕ = c.read-count.result in
    let IsBetween = λ (o : Participant). IsBetweenCalls (facts_at c.args.seat.now) c.args.place (nested o) c.publish-2.new.seat in
    let between_calls : IsBetween (rotated count own) =
    (arrived_moved (facts_at c.args.seat.now) c.args.place own count c.args.seat.now c.read-count.new.seat c.write.new.seat
    c.publish-2.new.seat c.requires.between_calls c.read-count.ensures (λ e. c.if-count-own.false (sym e)) c.write.ensures c.publish-2.ensures
    c.requires.closed).0 in
    ⊎_elim (λ (t : c.change.result ≡ true). subst IsBetween (sym (c.change.ensures.own t)) between_calls)
    (λ (f : c.change.result ≡ false). let idle = c.change.ensures.idle f in
    subst IsBetween (sym idle.1) (between_calls_settled (facts_at c.args.seat.now) c.args.place (nested (rotated count own)) c.publish-2.new.seat
    (ap (λ (ws : List Waiting). left (aged ws)) idle.0) between_calls))
    (either_way c.change.result)

pub returns-clause-arrived : goal.returns-clause-arrived
returns-clause-arrived c = let own : Participant = c.args.own.now in let count : ℕ = c.read-count.result in
    let apart : own.found ≢ count = λ e. c.if-count-own.false (sym e) in (
      count,
      (arrived_moved (facts_at c.args.seat.now) c.args.place own count c.args.seat.now c.read-count.new.seat c.write.new.seat
          c.publish-2.new.seat c.requires.between_calls c.read-count.ensures apart c.write.ensures c.publish-2.ensures
          c.requires.closed).1,
      record {
        change = λ t. (apart, c.change.ensures.own t ∙ sym (moved count own apart));
        over = λ f. let idle = c.change.ensures.idle f in inr (apart, idle.0, idle.1 ∙ ap settled (sym (moved count own apart)));
      },
      c.change.ensures.due ∙ sym (due_moved count own apart),
    )

pub returns-then-count-own-clause-between_calls : goal.returns-then-count-own-clause-between_calls
returns-then-count-own-clause-between_calls c =
    (arrived_same (facts_at c.args.seat.now) c.args.place c.args.own.now c.read-count.result c.args.seat.now c.read-count.new.seat c.publish.new.seat
    c.requires.between_calls c.requires.closed c.read-count.ensures (sym c.if-count-own.true) c.publish.ensures).0

pub returns-then-count-own-clause-arrived : goal.returns-then-count-own-clause-arrived
returns-then-count-own-clause-arrived c = let own : Participant = c.args.own.now in let count : ℕ = c.read-count.result in
    let same : own.found ≡ count = sym c.if-count-own.true in (
      count,
      (arrived_same (facts_at c.args.seat.now) c.args.place own count c.args.seat.now c.read-count.new.seat c.publish.new.seat
          c.requires.between_calls c.requires.closed c.read-count.ensures same c.publish.ensures).1,
      record { change = λ t. absurd (let no : false ≡ true = t in cc); over = λ _. inl (same, sym (stayed count own same)) },
      c.requires.none ∙ sym (due_stayed count own same),
    )
