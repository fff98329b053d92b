use Rattle.std.proofs.Common.{ℕ, ◌∙◌, ap, sym, subst}
use Rattle.sdd_lists.specs.Behind.{Reaches}
use Rattle.sdd_lists.specs.Lists.{IsList}
use Rattle.sdd_lists.proofs.Ends.{list-ends}
use Rattle.sdd_lists.proofs.LinkedEntries.{reached-around, reached-queue}
use Rattle.sdd_lists.proofs.linked_list.LinkedList.next_shared.Goals as goal

pub returns-clause-list : goal.returns-clause-list
returns-clause-list g c = λ e t es list.
    let link = g.Self.LinkedList.link in
    let w = g.S.Caller.world c.args.s.now in
    subst (λ (k : ℕ). IsList link w k t es → Reaches link w (g.S.Caller.caller c.args.s.now).place k t es c.next_in.result (g.S.Caller.world c.next_in.new.s))
    c.link_ref.ensures.link (c.next_in.ensures.exact e t es) list

pub returns-clause-around : goal.returns-clause-around
returns-clause-around g c = λ e cell t es list x rest at is.
    let link = g.Self.LinkedList.link in
    let w = g.S.Caller.world c.args.s.now in
    let new = g.S.Caller.world c.next_in.new.s in
    let place = (g.S.Caller.caller c.args.s.now).place in
    let inner = list-ends link w es x rest at list.linked in
    let reached = subst (λ (k : ℕ). IsList link w k x.tag rest → Reaches link w place k x.tag rest c.next_in.result new)
    (c.link_ref.ensures.link ∙ ap link (sym is)) (c.next_in.ensures.exact e x.tag rest) inner in
    reached-around link w new place x rest c.next_in.result reached cell t es list at

pub returns-clause-queue : goal.returns-clause-queue
returns-clause-queue g c = λ e q es second queue x rest at is.
    let link = g.Self.LinkedList.link in
    let w = g.S.Caller.world c.args.s.now in
    let new = g.S.Caller.world c.next_in.new.s in
    let place = (g.S.Caller.caller c.args.s.now).place in
    let inner = list-ends link w es x rest at queue.list.linked in
    let reached = subst (λ (k : ℕ). IsList link w k x.tag rest → Reaches link w place k x.tag rest c.next_in.result new)
    (c.link_ref.ensures.link ∙ ap link (sym is)) (c.next_in.ensures.exact e x.tag rest) inner in
    reached-queue link w new place x rest c.next_in.result reached q es second queue at
