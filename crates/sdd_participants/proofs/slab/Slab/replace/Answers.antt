use Rattle.std.proofs.Common.{IsSome, arith}
use Rattle.sdd_participants.specs.Slab.{but_empty, entry_at}
use Rattle.sdd_participants.proofs.EmptyPlaces.{listed-replaced, unlisted}
use Rattle.sdd_participants.proofs.ShownEntries.{but-inside, but-set}
use Rattle.sdd_participants.proofs.slab.Slab.replace.Goals as goal

pub index_mut-requires : goal.index_mut-requires
index_mut-requires g c =
    let some : IsSome (entry_at (but_empty c.self.inside.entries.items c.self.inside.empty.items) c.args.place) = rw c.self.view_is c.requires in
    omega (arith, but-inside _ _ c.args.place some)

pub invariant_of-self : goal.invariant_of-self
invariant_of-self g c =
    let some : IsSome (entry_at (but_empty c.self.inside.entries.items c.self.inside.empty.items) c.args.place) = rw c.self.view_is c.requires in
    rw (but-set _ _ c.args.place c.args.entry (λ i. unlisted _ _ _ _ i c.self.invariant some)) (listed-replaced _ _ _ _ _ c.self.invariant some)

pub returns : goal.returns
returns g c =
    let some : IsSome (entry_at (but_empty c.self.inside.entries.items c.self.inside.empty.items) c.args.place) = rw c.self.view_is c.requires in
    rw (← c.self.view_is) (but-set _ _ c.args.place c.args.entry (λ i. unlisted _ _ _ _ i c.self.invariant some))
