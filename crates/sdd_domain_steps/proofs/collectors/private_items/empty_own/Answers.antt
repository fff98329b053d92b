use Rattle.sdd_rights.specs.declared.views.View.{View}
use Rattle.sdd_domain_invariant.specs.Fractions.FractionSteps.{CarriesAll}
use Rattle.sdd_atomics.specs.SeatAtTable.{facts_at}
use Rattle.std.proofs.Common.{◌∙◌, subst, sym, ap}
use Rattle.sdd_shared_values.specs.SharedValues.{showing, IsNoValueCode}
use Rattle.sdd_domain_steps.proofs.PrivateItems.{own_missed, own_emptied, lost, lets_go}
use Rattle.sdd_domain_steps.proofs.collectors.private_items.empty_own.Goals as goal

pub let_go-requires-clause-lost : goal.let_go-requires-clause-lost
let_go-requires-clause-lost g c = let r = c.requires in let s = c.args.seat.now in let t = c.claim_own_private-found.new.seat in
    let found = c.claim_own_private-found.result in
    lost c.args.collector c.args.slot found s t
    (own_missed c.args.collector c.args.slot found c.private_word.result s t c.private_word.ensures c.if-found-private_word.true
    c.claim_own_private-found.ensures) r.idle.0 r.waits

pub returns-then-found-private_word-clause-emptied : goal.returns-then-found-private_word-clause-emptied
returns-then-found-private_word-clause-emptied g c = let r = c.requires in let s = c.args.seat.now in let t = c.claim_own_private-found.new.seat in
    let found = c.claim_own_private-found.result in
    lets_go c.args.collector c.args.slot found s t
    (own_missed c.args.collector c.args.slot found c.private_word.result s t c.private_word.ensures c.if-found-private_word.true
    c.claim_own_private-found.ensures) c.let_go.new.seat r.idle.0 c.let_go.ensures.gone

pub returns-clause-emptied : goal.returns-clause-emptied
returns-clause-emptied g c = let r = c.requires in let s = c.args.seat.now in let t = c.claim_own_private-found.new.seat in
    let claim = c.claim_own_private-found.ensures in let take = c.take_claimed-value.ensures in
    let claimed = claim.2.0.0 (c.if-found-private_word.false ∙ c.private_word.ensures) in
    own_emptied (facts_at t) c.args.slot s t c.take_claimed-value.new.seat (
      sym (ap (λ (v : View). v.sizes) claimed),
      sym (ap (λ (v : View). v.fractions.gamma) claimed),
    ) r.ready.rests r.idle.1 claimed claim.2.1 take.home take.view take.row claim.0 claim.1
    (showing g.row.T c.take_claimed-value.result) c.give_own_back.new.seat take.lone c.give_own_back.ensures

pub give_own_back-requires-clause-row : goal.give_own_back-requires-clause-row
give_own_back-requires-clause-row g c = let t = c.claim_own_private-found.new.seat in let take = c.take_claimed-value in (
  t.me.1,
  subst (λ (v : View). CarriesAll v.fractions.gamma c.args.slot v.sizes.participants 0 IsNoValueCode t.me.1 take.new.seat.me.1) (sym take.ensures.view)
      take.ensures.row,
)
