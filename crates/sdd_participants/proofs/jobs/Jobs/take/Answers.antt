use Rattle.std.proofs.Common.{IsSome, None, refl}
use Rattle.sdd_participants.specs.Slab.{entry_at}
use Rattle.sdd_participants.proofs.JobsAtPlaces.{beside-set, some-beside}
use Rattle.sdd_participants.proofs.jobs.Jobs.take.Goals as goal

pub release-requires : goal.release-requires
release-requires g c =
    let taken : IsSome (entry_at c.self.inside.jobs.items c.args.place) = rw c.self.view_is (c.is_taken.ensures.0 c.if-not-is_taken.false) in
    some-beside c.self.inside.numbers c.self.inside.jobs.items c.args.place c.self.invariant taken

pub invariant_of-self : goal.invariant_of-self
invariant_of-self g c = rw (c.release.ensures, c.take-job.ensures.after) (beside-set _ _ c.args.place None None refl c.self.invariant)
