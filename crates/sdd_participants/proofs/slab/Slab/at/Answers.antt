use Rattle.std.proofs.Common.{IsSome, arith}
use Rattle.sdd_participants.specs.Slab.{but_empty, entry_at}
use Rattle.sdd_participants.proofs.ShownEntries.{but-at, but-inside}
use Rattle.sdd_participants.proofs.slab.Slab.at.Goals as goal

pub index-requires : goal.index-requires
index-requires g c =
    let some : IsSome (entry_at (but_empty c.self.inside.entries.items c.self.inside.empty.items) c.args.place) = rw c.self.view_is c.requires in
    omega (arith, but-inside _ _ c.args.place some)

pub returns : goal.returns
returns g c =
    let some : IsSome (entry_at (but_empty c.self.inside.entries.items c.self.inside.empty.items) c.args.place) = rw c.self.view_is c.requires in
    rw (← c.self.view_is) (but-at _ _ c.args.place c.index.result.now some c.index.ensures)
