use Rattle.sdd_domain_steps.proofs.PrivateItems.{reclaim_missed, lost, lets_go}
use Rattle.sdd_domain_steps.proofs.collectors.private_items.claim_back.Goals as goal

pub let_go-requires-clause-lost : goal.let_go-requires-clause-lost
let_go-requires-clause-lost c = let r = c.requires in let s = c.args.seat.now in let t = c.reclaim_private-found.new.seat in
    let found = c.reclaim_private-found.result in
    lost c.args.collector c.args.slot found s t
    (reclaim_missed c.args.collector c.args.slot found c.private_word.result s t c.private_word.ensures c.if-found-private_word.false
    c.reclaim_private-found.ensures) r.found r.waits

pub returns-clause-claimed : goal.returns-clause-claimed
returns-clause-claimed c = let r = c.requires in let s = c.args.seat.now in let t = c.reclaim_private-found.new.seat in
    let found = c.reclaim_private-found.result in
    lets_go c.args.collector c.args.slot found s t
    (reclaim_missed c.args.collector c.args.slot found c.private_word.result s t c.private_word.ensures c.if-found-private_word.false
    c.reclaim_private-found.ensures) c.let_go.new.seat r.found c.let_go.ensures.gone
