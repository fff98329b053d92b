use Rattle.std.proofs.Common.{sym, ap, ◌∙◌}
use Rattle.sdd_world_model.specs.WorldChanges.{ran}
use Rattle.sdd_domain_steps.specs.Local.{LocalModel, world_of}
use Rattle.sdd_domain_steps.specs.LocalState.{LocalState, IsLone}
use Rattle.sdd_domain_core.proofs.JobsTied.{tied_taken, world_taken}
use Rattle.sdd_domain_core.proofs.reclaiming.LocalGiver.run_job.Goals as goal

pub invariant_of-self : goal.invariant_of-self
invariant_of-self g c one = let v : LocalModel g.row.T.Denot g.row.J.Denot = c.self.view_is 0 in let did = c.take_job.ensures.2 in
    let lone : IsLone v.member = sym (ap (λ (y : LocalState _). y.limits.participants) did.member) ∙ one in
    tied_taken v (c.self.invariant lone) c.args.place c.take_job.ensures.0 c.take_job.new.self did

pub returns-clause-exact : goal.returns-clause-exact
returns-clause-exact g c = λ is_lone. let v : LocalModel g.row.T.Denot g.row.J.Denot = c.self.view_is 0 in let did = c.take_job.ensures.2 in
    let lone : IsLone v.member = ap (λ (z : LocalModel g.row.T.Denot g.row.J.Denot). z.member.limits.participants) c.self.view_is ∙ is_lone in
    world_taken v (c.self.invariant lone) c.args.place c.take_job.ensures.0 c.take_job.new.self did
    ∙ ap (λ (z : LocalModel g.row.T.Denot g.row.J.Denot). ran (world_of z) c.args.place) c.self.view_is
