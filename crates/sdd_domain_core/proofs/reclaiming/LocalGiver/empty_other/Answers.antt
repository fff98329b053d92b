use Rattle.std.proofs.Common.{sym, ap, ◌∙◌, subst, arith}
use Rattle.sdd_domain_core.specs.Collectors.{IsClosing}
use Rattle.sdd_domain_steps.specs.Local.{LocalModel}
use Rattle.sdd_domain_steps.specs.LocalState.{LocalState, IsLone}
use Rattle.sdd_domain_core.proofs.CollectorItems.{empties_none, goes_on_closing, more_guards}
use Rattle.sdd_domain_core.proofs.reclaiming.LocalGiver.empty_other.Goals as goal

-- a lone participant finds none
pub invariant_of-self : goal.invariant_of-self
invariant_of-self g c one = let v : LocalModel g.row.T.Denot g.row.J.Denot = c.self.view_is 0 in let did = c.in-Some.ensures.emptied in
    let lone : IsLone v.member = sym (ap (λ (y : LocalState _). y.limits.participants) did.member) ∙ one in
    absurd (empties_none v c.args.collector c.args.slot did (c.self.invariant lone) c.stands.ensures.collectors
    (c.stands.ensures.none c.args.collector (ap (λ (z : LocalModel g.row.T.Denot g.row.J.Denot). z.member.slots.closes) c.self.view_is
    ∙ c.requires.closing.closes)
    (ap (λ (z : LocalModel g.row.T.Denot g.row.J.Denot). z.member.due) c.self.view_is ∙ c.requires.settled) c.args.slot)
    (let r = c.ranges.collector.fits in omega arith) lone)

pub returns-in-Some-clause-closing : goal.returns-in-Some-clause-closing
returns-in-Some-clause-closing g c = let v : LocalModel g.row.T.Denot g.row.J.Denot = c.self.view_is 0 in let did = c.in-Some.ensures.emptied in
    let kept = c.give_up.ensures.kept in let m : LocalState _ = c.empty_slot.new.self in
    goes_on_closing v.member c.args.collector
    (subst (λ (z : LocalModel g.row.T.Denot g.row.J.Denot). IsClosing c.args.collector z.member) (sym c.self.view_is) c.requires.closing)
    c.give_up.new.giver.member
    (ap (λ (z : LocalModel g.row.T.Denot g.row.J.Denot). z.member.slots.closes) kept ∙ ap (λ (y : LocalState _). y.slots.closes) did.member)
    (ap (λ (z : LocalModel g.row.T.Denot g.row.J.Denot). z.member.slots.looked) kept ∙ ap (λ (y : LocalState _). y.slots.looked) did.member)
    (ap (λ (z : LocalModel g.row.T.Denot g.row.J.Denot). z.member.limits) kept ∙ ap (λ (y : LocalState _). y.limits) did.member)
    (more_guards m.own c.give_up.new.giver.member.own c.give_up.ensures.own ∙ ap (λ (y : LocalState _). y.own.guards) did.member)
