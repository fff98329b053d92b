use Rattle.std.proofs.Common.{rules, ◌≡◌, sym, ap, ◌∙◌, subst}
use Rattle.sdd_shared_values.specs.SharedValues.{showing}
use Rattle.sdd_domain_steps.specs.SpaceIds.{home_in}
use Rattle.sdd_domain_steps.specs.LocalState.{LocalState, IsLone}
use Rattle.sdd_domain_steps.specs.Local.{LocalModel, world_of}
use Rattle.sdd_domain_core.specs.Sound.{IsSound}
use Rattle.sdd_domain.proofs.Givers.{same_giver}
use Rattle.sdd_domain_core.proofs.GuardCalls.{lone_is}
use Rattle.sdd_domain_core.proofs.ShownKept.{keeps_own}
use Rattle.sdd_domain_core.proofs.Sound.{sound_step}
use Rattle.sdd_domain.proofs.space.LocalGuards.count.Goals as goal

pub invariant_of-self : goal.invariant_of-self
invariant_of-self g c = let v : LocalModel _ _ = (c.self-inside.view_is 0).giver in let inner = same_giver c.self-inside.view_is in
    let told = c.count.ensures in
    sound_step g.T.Item.holds v c.count.new.self (subst (IsSound g.T.Item.holds) (sym inner) c.self.invariant) (λ w _. w) (λ w _ _ whole. whole)
    (ap (λ (m : LocalState _). m.due) told.member) (ap (λ (m : LocalState _). m.slots.closes) told.member) (ap home_in told.member)
    (λ one. ap (λ (m : LocalState _). world_of (record v { member = m })) (told.member ∙ (λ d. record v.member { known = told.lone one d })))

pub returns-clause-undisturbed : goal.returns-clause-undisturbed
returns-clause-undisturbed g c = let v : LocalModel _ _ = (c.self-inside.view_is 0).giver in let inner = same_giver c.self-inside.view_is in
    record {
      caller = search rules;
      own = search rules;
      known = search rules;
      shown = keeps_own (showing g.row.T) g.T.Item.holds v c.args.self.now (inner ∙ c.self.view_is)
          c.count.new.self v.member.own c.count.result v.member.since c.count.ensures.member;
    }

pub returns-clause-exact : goal.returns-clause-exact
returns-clause-exact g c = λ exact. let v : LocalModel _ _ = (c.self-inside.view_is 0).giver in let inner = same_giver c.self-inside.view_is in
    let same : v ≡ c.args.self.now = inner ∙ c.self.view_is in let told = c.count.ensures in
    let one : IsLone v.member = subst (λ (q : LocalModel g.row.T.Denot g.row.J.Denot). IsLone q.member) (sym same) (lone_is c.args.self.now.member exact) in (
      told.lone one ∙ ap (λ (q : LocalModel g.row.T.Denot g.row.J.Denot). q.member.known) same,
      ap (λ (m : LocalState _). world_of (record v { member = m })) (told.member ∙ (λ d. record v.member { known = told.lone one d })) ∙ ap world_of same,
    )
