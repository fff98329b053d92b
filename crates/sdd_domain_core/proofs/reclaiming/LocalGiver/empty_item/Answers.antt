use Rattle.std.proofs.Common.{◌≡◌, sym, refl, ap, ◌∙◌, subst}
use Rattle.sdd_participants.specs.declared.waiting.LimboEntry.TheVariants.{Item}
use Rattle.sdd_world_model.specs.WorldChanges.{given_all, reclaimed}
use Rattle.sdd_domain_core.specs.Collectors.{AllWaitFor, IsClosing}
use Rattle.sdd_domain_steps.specs.Local.{LocalModel, world_of}
use Rattle.sdd_domain_steps.specs.LocalState.{LocalState, IsLone}
use Rattle.sdd_domain_core.proofs.CollectorItems.{kept_first, rest_waits, goes_on_closing, more_guards}
use Rattle.sdd_domain_core.proofs.ReclaimedItems.{loses_none, tied_then, reclaims_one}
use Rattle.sdd_domain_core.proofs.Sound.{lone_true}
use Rattle.sdd_domain_core.proofs.reclaiming.LocalGiver.empty_item.Goals as goal

pub empty_first-requires-clause-kept : goal.empty_first-requires-clause-kept
empty_first-requires-clause-kept g c = let v : LocalModel g.row.T.Denot g.row.J.Denot = c.self.view_is 0 in let first = c.requires.first in
    kept_first v.member c.args.collector c.args.slot first.0
    (ap (λ (z : LocalModel g.row.T.Denot g.row.J.Denot). z.member.due) c.self.view_is ∙ first.1)
    (subst (λ (z : LocalModel g.row.T.Denot g.row.J.Denot). AllWaitFor z.member c.args.collector z.member.due) (sym c.self.view_is) c.requires.taken)

pub invariant_of-self : goal.invariant_of-self
invariant_of-self g c one = let v : LocalModel g.row.T.Denot g.row.J.Denot = c.self.view_is 0 in let did = c.in-Some.ensures.gone in
    let lone : IsLone v.member = sym (ap (λ (y : LocalState _). y.limits.participants) did.member) ∙ one in
    tied_then g.row.T v (c.self.invariant lone) c.codes.ensures c.args.slot c.in-Some.value c.empty_first.new.self did lone

pub returns-in-Some-clause-taken : goal.returns-in-Some-clause-taken
returns-in-Some-clause-taken g c = let v : LocalModel g.row.T.Denot g.row.J.Denot = c.self.view_is 0 in let did = c.in-Some.ensures.gone in
    let kept = c.give_up.ensures.kept in let m : LocalState _ = c.empty_first.new.self in
    rest_waits v.member c.args.collector c.args.slot m.due did.first
    (subst (λ (z : LocalModel g.row.T.Denot g.row.J.Denot). AllWaitFor z.member c.args.collector z.member.due) (sym c.self.view_is) c.requires.taken)
    (c.stands.ensures.once c.args.slot m.due did.first)
    c.give_up.new.giver.member
    (ap (λ (z : LocalModel g.row.T.Denot g.row.J.Denot). z.member.collectors) kept ∙ ap (λ (y : LocalState _). y.collectors) did.member)
    (ap (λ (z : LocalModel g.row.T.Denot g.row.J.Denot). z.member.due) kept)

pub returns-in-Some-clause-closing : goal.returns-in-Some-clause-closing
returns-in-Some-clause-closing g c = let v : LocalModel g.row.T.Denot g.row.J.Denot = c.self.view_is 0 in let did = c.in-Some.ensures.gone in
    let kept = c.give_up.ensures.kept in let m : LocalState _ = c.empty_first.new.self in
    goes_on_closing v.member c.args.collector
    (subst (λ (z : LocalModel g.row.T.Denot g.row.J.Denot). IsClosing c.args.collector z.member) (sym c.self.view_is) c.requires.closing)
    c.give_up.new.giver.member
    (ap (λ (z : LocalModel g.row.T.Denot g.row.J.Denot). z.member.slots.closes) kept ∙ ap (λ (y : LocalState _). y.slots.closes) did.member)
    (ap (λ (z : LocalModel g.row.T.Denot g.row.J.Denot). z.member.slots.looked) kept ∙ ap (λ (y : LocalState _). y.slots.looked) did.member)
    (ap (λ (z : LocalModel g.row.T.Denot g.row.J.Denot). z.member.limits) kept ∙ ap (λ (y : LocalState _). y.limits) did.member)
    (more_guards m.own c.give_up.new.giver.member.own c.give_up.ensures.own ∙ ap (λ (y : LocalState _). y.own.guards) did.member)

pub returns-in-Some-clause-exact : goal.returns-in-Some-clause-exact
returns-in-Some-clause-exact g c = λ is_lone. let holds = g.T.Item.holds in let v : LocalModel g.row.T.Denot g.row.J.Denot = c.self.view_is 0 in
    let m : LocalState _ = c.empty_first.new.self in let did = c.in-Some.ensures.gone in
    let here : IsLone v.member = ap (λ (z : LocalModel g.row.T.Denot g.row.J.Denot). z.member.limits.participants) c.self.view_is ∙ is_lone in
    let there : IsLone m = ap (λ (y : LocalState _). y.limits.participants) did.member ∙ here in
    let p : LocalModel g.row.T.Denot g.row.J.Denot = record { member = m; entries = v.entries } in
    let place : m.place ≡ v.member.place = ap (λ (y : LocalState _). y.place) did.member in
    c.give_up.ensures.exact (lone_true m there)
    ∙ ((λ d. given_all (world_of p) (place d) (holds c.in-Some.value))
    ∙ (sym (reclaims_one g.row.T v (c.self.invariant here) c.codes.ensures c.args.slot c.in-Some.value m did here holds)
    ∙ ap (λ (z : LocalModel g.row.T.Denot g.row.J.Denot). reclaimed holds (world_of z) z.member.place (Item c.args.slot)) c.self.view_is))

-- a close of another came first: never where the participant is lone
pub invariant_of-self-in_default : goal.invariant_of-self-in_default
invariant_of-self-in_default g c one = let v : LocalModel g.row.T.Denot g.row.J.Denot = c.self.view_is 0 in let did = c.in_default.ensures.gone in
    let lone : IsLone v.member = sym (ap (λ (y : LocalState _). y.limits.participants) did.member) ∙ one in
    absurd (loses_none v (c.self.invariant lone) c.args.slot c.empty_first.new.self did c.stands.ensures.collectors lone)

pub returns-in_default-clause-taken : goal.returns-in_default-clause-taken
returns-in_default-clause-taken g c = let v : LocalModel g.row.T.Denot g.row.J.Denot = c.self.view_is 0 in let did = c.in_default.ensures.gone in
    let m : LocalState _ = c.empty_first.new.self in
    rest_waits v.member c.args.collector c.args.slot m.due did.first
    (subst (λ (z : LocalModel g.row.T.Denot g.row.J.Denot). AllWaitFor z.member c.args.collector z.member.due) (sym c.self.view_is) c.requires.taken)
    (c.stands.ensures.once c.args.slot m.due did.first)
    m (ap (λ (y : LocalState _). y.collectors) did.member) refl

pub returns-in_default-clause-exact : goal.returns-in_default-clause-exact
returns-in_default-clause-exact g c = λ is_lone. let v : LocalModel g.row.T.Denot g.row.J.Denot = c.self.view_is 0 in let did = c.in_default.ensures.gone in
    let lone : IsLone v.member = ap (λ (z : LocalModel g.row.T.Denot g.row.J.Denot). z.member.limits.participants) c.self.view_is ∙ is_lone in
    absurd (loses_none v (c.self.invariant lone) c.args.slot c.empty_first.new.self did c.stands.ensures.collectors lone)
