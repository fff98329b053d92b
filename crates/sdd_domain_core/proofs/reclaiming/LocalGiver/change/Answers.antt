use Rattle.std.proofs.Common.{ℕ, refl, ap, ◌∙◌}
use Rattle.sdd_participants.specs.EpochState.{settled}
use Rattle.sdd_world_model.specs.WorldChanges as steps
use Rattle.sdd_world_model.specs.WorldChanges.{all_reclaimed}
use Rattle.sdd_world_model.specs.World.{World}
use Rattle.sdd_domain_steps.specs.Local.{LocalModel, world_of}
use Rattle.sdd_domain_steps.specs.LocalState.{LocalState, IsLone}
use Rattle.sdd_domain_core.specs.Reclaiming.{rest_of}
use Rattle.sdd_domain_steps.specs.WaitingItems.{items_in}
use Rattle.sdd_domain_core.proofs.CountedGone.{counts_after}
use Rattle.sdd_domain_core.proofs.LoneCalls.{steps_alone}
use Rattle.sdd_domain_core.proofs.MoreWaiting.{given_of}
use Rattle.sdd_domain_core.proofs.reclaiming.LocalGiver.change.Goals as goal

pub returns-clause-own : goal.returns-clause-own
returns-clause-own g c = let p : LocalModel g.row.T.Denot g.row.J.Denot = c.args.self.now in let e = c.reclaim_due.ensures in
    let given = given_of p.member.due p.member.own c.reclaim_due.new.self.member.own e.own e.none in (
      given.0,
      ap (λ (m : LocalState _). m.own) c.settle.ensures ∙ (ap (λ (z : LocalModel g.row.T.Denot g.row.J.Denot). settled z.member.own) c.self.view_is
          ∙ ap settled given.1),
      given.2,
    )

pub returns-clause-exact : goal.returns-clause-exact
returns-clause-exact g c = λ lone. let v : LocalModel g.row.T.Denot g.row.J.Denot = c.self.view_is 0 in let e = c.reclaim_due.ensures in
    let rest = ap rest_of c.self.view_is ∙ e.rest in
    let here : IsLone v.member = ap (λ (z : LocalModel g.row.T.Denot g.row.J.Denot). z.member.limits.participants) rest ∙ lone in
    let place = ap (λ (z : LocalModel g.row.T.Denot g.row.J.Denot). z.member.place) rest in
    let first = (c.self.invariant here).place in
    ap (λ (m : LocalState _). world_of (record { member = m; entries = v.entries })) c.settle.ensures
    ∙ (steps_alone (λ (w : World g.row.T.Denot) (k : ℕ). steps.settled w k) v (record v { member = record v.member { own = settled v.member.own } }) first
    first refl
    ∙ (λ d. steps.settled ((ap world_of c.self.view_is ∙ e.exact lone) d) (place d)))

pub returns-clause-counted : goal.returns-clause-counted
returns-clause-counted g c = let m : LocalState _ = c.settle.new.self in let v : LocalModel g.row.T.Denot g.row.J.Denot = c.self.view_is 0 in
    let mid : LocalModel g.row.T.Denot g.row.J.Denot = c.reclaim_due.new.self in
    counts_after (items_in c.args.self.now.member.due) c.args.self.now.member mid.member m c.reclaim_due.ensures.counted
    (ap (λ (y : LocalState _). y.tally) c.settle.ensures ∙ ap (λ (z : LocalModel g.row.T.Denot g.row.J.Denot). z.member.tally) c.self.view_is)
    (ap (λ (y : LocalState _). y.slots.privates) c.settle.ensures
    ∙ ap (λ (z : LocalModel g.row.T.Denot g.row.J.Denot). z.member.slots.privates) c.self.view_is)
