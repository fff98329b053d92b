use Rattle.std.proofs.Common.{ap, ◌∙◌, subst}
use Rattle.sdd_rights.specs.declared.right.Right.{Right}
use Rattle.sdd_rights.specs.Right.{number_of}
use Rattle.sdd_world_model.specs.ParticipantChanges.{KeepsMoreWaiting}
use Rattle.sdd_world_model.specs.WorldChanges.{owner_given}
use Rattle.sdd_world_model.specs.World.{standing_at}
use Rattle.sdd_domain_steps.specs.Local.{LocalModel, world_of}
use Rattle.sdd_domain_core.proofs.OwnerLooks.{release_tied, release_world, grows_when}
use Rattle.sdd_domain_core.proofs.reclaiming.LocalGiverGiver.shared.Goals as goal

pub invariant_of-self : goal.invariant_of-self
invariant_of-self g c = release_tied (c.self.view_is 0) c.release.new.self c.right_of_owner.result c.self.invariant c.release.ensures.recalled c.release.result
    c.release.ensures.went

pub returns-clause-own : goal.returns-clause-own
returns-clause-own g c = subst (λ (p : LocalModel g.row.T.Denot g.row.J.Denot). KeepsMoreWaiting p.member.own c.release.new.self.own) c.self.view_is
    (grows_when (c.self.view_is 0) c.release.new.self c.right_of_owner.result c.self.invariant c.release.ensures.recalled
    c.release.result c.release.ensures.went)

pub returns-clause-exact : goal.returns-clause-exact
returns-clause-exact g c = λ exact. let p : LocalModel g.row.T.Denot g.row.J.Denot = c.args.self.now in
    release_world (c.self.view_is 0) c.release.new.self c.right_of_owner.result c.self.invariant c.release.ensures.recalled
    c.release.result c.release.ensures.went p c.self.view_is exact
    ∙ ap (λ (x : Right). owner_given (world_of p) p.member.place (number_of x) (standing_at (world_of p) (number_of x))) c.right_of_owner.ensures.right
