use Rattle.std.proofs.Common.{Some, refl, sym, ◌∙◌}
use Rattle.sdd_participants.proofs.JobsAtPlaces.{beside-set, full-by, nothing-found}
use Rattle.sdd_participants.proofs.jobs.Jobs.put.Goals as goal

pub returns-in_default : goal.returns-in_default
returns-in_default g c = let full = rw c.in_default.is at c.claim.ensures.claimed in record {
  put = (
    rw (← c.self.view_is) (full-by c.self.inside.jobs.items c.self.inside.numbers c.self.invariant.filled full.0),
    refl,
    c.self.view_is,
  );
}

pub unreachable-requires : goal.unreachable-requires
unreachable-requires g c =
    nothing-found c.self.inside.numbers c.self.inside.jobs.items c.in-Ok.place c.index_mut.result.now c.in-Some.field-0 c.self.invariant
    c.in-Ok.ensures.claimed.0.0 c.in-Ok.ensures.claimed.0.1 c.index_mut.ensures.value (sym c.replace.ensures.value ∙ c.in-Some.is)

pub invariant_of-self-2 : goal.invariant_of-self-2
invariant_of-self-2 g c = rw (c.in-Ok.ensures.claimed.1, c.replace.ensures.after)
    (beside-set _ _ c.in-Ok.place (Some tt) (Some c.args.job) refl c.self.invariant)
