use Rattle.std.proofs.Common.{rules, sym, refl, ap, ◌∙◌, subst}
use Rattle.sdd_shared_values.specs.SharedValues.{showing}
use Rattle.sdd_participants.specs.EpochState as time
use Rattle.sdd_world_model.specs.WorldChanges.{accelerated}
use Rattle.sdd_world_model.proofs.PlacesMatchStates.{Whole-accelerated}
use Rattle.sdd_domain_steps.specs.SpaceIds.{home_in}
use Rattle.sdd_domain_steps.specs.LocalState.{LocalState}
use Rattle.sdd_domain_steps.specs.Local.{LocalModel, world_of}
use Rattle.sdd_domain_core.specs.Sound.{IsSound}
use Rattle.sdd_domain.proofs.Givers.{same_giver}
use Rattle.sdd_domain_core.proofs.LoneCalls.{steps_alone}
use Rattle.sdd_domain_core.proofs.ShownKept.{keeps_own}
use Rattle.sdd_domain_core.proofs.Sound.{sound_step}
use Rattle.sdd_domain.proofs.space.LocalGuards.accelerate.Goals as goal

pub invariant_of-self : goal.invariant_of-self
invariant_of-self g c = let v : LocalModel _ _ = (c.self-inside.view_is 0).giver in let inner = same_giver c.self-inside.view_is in
    let did = c.accelerate.ensures in
    sound_step g.T.Item.holds v c.accelerate.new.self (subst (IsSound g.T.Item.holds) (sym inner) c.self.invariant) accelerated Whole-accelerated
    (ap (λ (m : LocalState _). m.due) did) (ap (λ (m : LocalState _). m.slots.closes) did) (ap home_in did)
    (λ one. let first = (c.self-inside.invariant one).place in ap (λ (m : LocalState _). world_of (record v { member = m })) did
    ∙ steps_alone accelerated v (record v { member = record v.member { own = time.accelerated v.member.own } }) first first refl)

pub returns-clause-unmoved : goal.returns-clause-unmoved
returns-clause-unmoved g c = let v : LocalModel _ _ = (c.self-inside.view_is 0).giver in let inner = same_giver c.self-inside.view_is in
    record {
      caller = search rules;
      known = search rules;
      shown = keeps_own (showing g.row.T) g.T.Item.holds v c.args.self.now (inner ∙ c.self.view_is)
          c.accelerate.new.self (time.accelerated v.member.own) v.member.known v.member.since c.accelerate.ensures;
    }
