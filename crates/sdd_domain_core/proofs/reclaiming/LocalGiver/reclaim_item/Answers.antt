use Rattle.std.proofs.Common.{◌≡◌, [], sym, refl, ap, ◌∙◌, ⊎_elim, arith}
use Rattle.sdd_participants.specs.declared.waiting.LimboEntry.TheVariants.{Item}
use Rattle.sdd_world_model.specs.WorldChanges.{given_all, reclaimed}
use Rattle.sdd_domain_invariant.specs.Collectors.{private_in}
use Rattle.sdd_domain_invariant.specs.Collectors.CollectorWordSteps.{without_private}
use Rattle.sdd_domain_invariant.specs.Sums.{total}
use Rattle.sdd_domain_steps.specs.Receipt.{with_reclaimed}
use Rattle.sdd_domain_steps.specs.Local.{LocalModel, world_of}
use Rattle.sdd_domain_steps.specs.LocalState.{LocalState, IsLone}
use Rattle.sdd_domain_core.proofs.ReclaimedItems.{loses_none, tied_then, reclaims_one}
use Rattle.sdd_domain_steps.proofs.PrivateTables.{told_in}
use Rattle.sdd_domain_core.proofs.Sound.{lone_true}
use Rattle.sdd_domain_core.proofs.reclaiming.LocalGiver.reclaim_item.Goals as goal

pub invariant_of-self : goal.invariant_of-self
invariant_of-self g c one = let v : LocalModel g.row.T.Denot g.row.J.Denot = c.self.view_is 0 in let did = c.in-Some.ensures.gone in
    let lone : IsLone v.member = sym (ap (λ (y : LocalState _). y.limits.participants) did.member) ∙ one in
    tied_then g.row.T v (c.self.invariant lone) c.codes.ensures c.args.slot c.in-Some.value c.reclaim.new.self did lone

pub returns-in-Some-clause-exact : goal.returns-in-Some-clause-exact
returns-in-Some-clause-exact g c = λ is_lone. let holds = g.T.Item.holds in let v : LocalModel g.row.T.Denot g.row.J.Denot = c.self.view_is 0 in
    let m : LocalState _ = c.reclaim.new.self in let did = c.in-Some.ensures.gone in
    let here : IsLone v.member = ap (λ (z : LocalModel g.row.T.Denot g.row.J.Denot). z.member.limits.participants) c.self.view_is ∙ is_lone in
    let there : IsLone m = ap (λ (y : LocalState _). y.limits.participants) did.member ∙ here in
    let p : LocalModel g.row.T.Denot g.row.J.Denot = record { member = m; entries = v.entries } in
    let place : m.place ≡ v.member.place = ap (λ (y : LocalState _). y.place) did.member in
    c.give_up.ensures.exact (lone_true m there)
    ∙ ((λ d. given_all (world_of p) (place d) (holds c.in-Some.value))
    ∙ (sym (reclaims_one g.row.T v (c.self.invariant here) c.codes.ensures c.args.slot c.in-Some.value m did here holds)
    ∙ ap (λ (z : LocalModel g.row.T.Denot g.row.J.Denot). reclaimed holds (world_of z) z.member.place (Item c.args.slot)) c.self.view_is))

pub returns-in-Some-clause-counted : goal.returns-in-Some-clause-counted
returns-in-Some-clause-counted g c = let v : LocalModel g.row.T.Denot g.row.J.Denot = c.self.view_is 0 in let did = c.in-Some.ensures.gone in
    let kept = c.give_up.ensures.kept in record {
      gone = 1;
      few = omega arith;
      tally = ap (λ (z : LocalModel g.row.T.Denot g.row.J.Denot). z.member.tally) kept ∙ (ap (λ (y : LocalState _). y.tally) did.member
          ∙ ap (λ (z : LocalModel g.row.T.Denot g.row.J.Denot). with_reclaimed 1 z.member.tally) c.self.view_is);
      all = λ _. refl;
      privates = λ none. ap (λ (z : LocalModel g.row.T.Denot g.row.J.Denot). z.member.slots.privates) kept
          ∙ (ap (λ (y : LocalState _). y.slots.privates) did.member
          ∙ ap (without_private c.args.slot) (ap (λ (z : LocalModel g.row.T.Denot g.row.J.Denot). z.member.slots.privates) c.self.view_is ∙ none));
    }

-- a close of another came first: never where the participant is lone
pub invariant_of-self-in_default : goal.invariant_of-self-in_default
invariant_of-self-in_default g c one = let v : LocalModel g.row.T.Denot g.row.J.Denot = c.self.view_is 0 in let did = c.in_default.ensures.gone in
    let lone : IsLone v.member = sym (ap (λ (y : LocalState _). y.limits.participants) did.member) ∙ one in
    absurd (loses_none v (c.self.invariant lone) c.args.slot c.reclaim.new.self did c.stands.ensures.collectors lone)

pub returns-in_default-clause-exact : goal.returns-in_default-clause-exact
returns-in_default-clause-exact g c = λ is_lone. let v : LocalModel g.row.T.Denot g.row.J.Denot = c.self.view_is 0 in let did = c.in_default.ensures.gone in
    let lone : IsLone v.member = ap (λ (z : LocalModel g.row.T.Denot g.row.J.Denot). z.member.limits.participants) c.self.view_is ∙ is_lone in
    absurd (loses_none v (c.self.invariant lone) c.args.slot c.reclaim.new.self did c.stands.ensures.collectors lone)

pub returns-in_default-clause-counted : goal.returns-in_default-clause-counted
returns-in_default-clause-counted g c = let v : LocalModel g.row.T.Denot g.row.J.Denot = c.self.view_is 0 in let did = c.in_default.ensures.gone in
    let told = c.stands.ensures.collectors in let m : LocalState _ = v.member in record {
      gone = 0;
      few = omega arith;
      tally = ap (λ (y : LocalState _). y.tally) did.member ∙ ap (λ (z : LocalModel g.row.T.Denot g.row.J.Denot). z.member.tally) c.self.view_is;
      all = ⊎_elim (λ (is_lone : IsLone c.args.self.now.member). let lone : IsLone m
          = ap (λ (z : LocalModel g.row.T.Denot g.row.J.Denot). z.member.limits.participants) c.self.view_is ∙ is_lone in
          absurd (loses_none v (c.self.invariant lone) c.args.slot c.reclaim.new.self did told lone))
          (λ (none : c.args.self.now.member.slots.privates ≡ []). let some = told_in m.limits.slots m.collectors m.slots.privates told c.args.slot did.collector
          did.kept in let e = ap (total (private_in c.args.slot))
          (ap (λ (z : LocalModel g.row.T.Denot g.row.J.Denot). z.member.slots.privates) c.self.view_is ∙ none) in absurd (omega arith));
      privates = λ none. ap (λ (y : LocalState _). y.slots.privates) did.member
          ∙ ap (without_private c.args.slot) (ap (λ (z : LocalModel g.row.T.Denot g.row.J.Denot). z.member.slots.privates) c.self.view_is ∙ none);
    }
