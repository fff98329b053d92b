use Rattle.std.proofs.Common.{◌≡◌, sym, ap, ◌∙◌, subst}
use Rattle.sdd_shared_values.specs.SharedValues.{showing}
use Rattle.sdd_world_model.specs.WorldChanges.{closed}
use Rattle.sdd_world_model.proofs.PlacesMatchStates.{Whole-closed}
use Rattle.sdd_domain_steps.specs.SpaceIds.{home_in}
use Rattle.sdd_domain_steps.specs.LocalState.{LocalState, IsLone}
use Rattle.sdd_domain_steps.specs.Local.{LocalModel, world_of}
use Rattle.sdd_domain_core.specs.ScanAtClose.{TellsScan}
use Rattle.sdd_domain_core.specs.Sound.{IsSound}
use Rattle.sdd_domain.proofs.Givers.{same_giver}
use Rattle.sdd_domain.proofs.ClosedWorld.{closes_on, world_closed}
use Rattle.sdd_domain_core.proofs.GuardCalls.{lone_is, keeps_closed, still_guarded}
use Rattle.sdd_domain_core.proofs.Sound.{sound_step}
use Rattle.sdd_domain.proofs.space.LocalGuards.close_guard.Goals as goal

pub invariant_of-self : goal.invariant_of-self
invariant_of-self g c = let v : LocalModel _ _ = (c.self-inside.view_is 0).giver in let inner = same_giver c.self-inside.view_is in
    let m : LocalState _ = c.close_guard-told.new.self in let did = c.close_guard-told.ensures.closed in
    sound_step g.T.Item.holds v m (subst (IsSound g.T.Item.holds) (sym inner) c.self.invariant) closed Whole-closed
    (ap (λ (y : LocalState _). y.due) did.member) (closes_on v.member m did) (ap home_in did.member)
    (λ one. world_closed v m (c.self-inside.invariant one) one did)

pub returns-clause-exact : goal.returns-clause-exact
returns-clause-exact g c = λ exact. let v : LocalModel _ _ = (c.self-inside.view_is 0).giver in let inner = same_giver c.self-inside.view_is in
    let same : v ≡ c.args.self.now = inner ∙ c.self.view_is in
    let one : IsLone v.member = subst (λ (q : LocalModel g.row.T.Denot g.row.J.Denot). IsLone q.member) (sym same) (lone_is c.args.self.now.member exact) in
    world_closed v c.close_guard-told.new.self (c.self-inside.invariant one) one c.close_guard-told.ensures.closed
    ∙ ap (λ (q : LocalModel g.row.T.Denot g.row.J.Denot). closed (world_of q) q.member.place) same

pub returns-clause-keeps : goal.returns-clause-keeps
returns-clause-keeps g c = λ opens. let v : LocalModel _ _ = (c.self-inside.view_is 0).giver in let inner = same_giver c.self-inside.view_is in
    let e = c.close_guard-told.ensures.closed in let more = still_guarded v.member c.close_guard-told.new.self e opens in
    keeps_closed v c.close_guard-told.new.self (showing g.row.T) g.T.Item.holds c.args.self.now (inner ∙ c.self.view_is) _ _ e.member
    (e.seen more).0 (e.seen more).1

pub returns-clause-says : goal.returns-clause-says
returns-clause-says g c = let v : LocalModel _ _ = (c.self-inside.view_is 0).giver in let inner = same_giver c.self-inside.view_is in
    let told = c.close_guard-told.result in (
      told,
      subst (λ (q : LocalModel g.row.T.Denot g.row.J.Denot). TellsScan told q.member c.close_guard-told.new.self) (inner ∙ c.self.view_is)
          c.close_guard-told.ensures.told,
    )
