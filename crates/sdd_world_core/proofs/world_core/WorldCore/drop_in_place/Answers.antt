use Rattle.std.proofs.Common.{ℕ}
use Rattle.sdd_rights.specs.Right.{number_of}
use Rattle.sdd_world_core.proofs.NoGuards.{home-quiet}
use Rattle.sdd_world_core.proofs.InPlace.{drop-lent, drop-sizes, drop-whole}
use Rattle.sdd_world_core.proofs.world_core.WorldCore.drop_in_place.Goals as goal

pub take-value-requires-clause-home : goal.take-value-requires-clause-home
take-value-requires-clause-home g c =
    let may = rw (← c.self.view_is) at c.requires.may in
    home-quiet _ _ (rw (← c.self.view_is) at c.requires.lent) may.quiet (number_of c.args.right)

pub returns-clause-sizes : goal.returns-clause-sizes
returns-clause-sizes g c =
    let slot : ℕ = number_of c.args.right in
    let may = rw (← c.self.view_is) at c.requires.may in
    let there = rw (← c.self.view_is) at c.requires.place in
    rw (← c.self.view_is, c.give_up.ensures, c.take-value.ensures.taken, c.count_in_place.ensures)
    (drop-sizes g.T.Item.holds _ c.args.place slot c.take-value.result c.take-value.ensures.value there may)

pub returns-clause-whole : goal.returns-clause-whole
returns-clause-whole g c =
    let slot : ℕ = number_of c.args.right in
    let may = rw (← c.self.view_is) at c.requires.may in
    let there = rw (← c.self.view_is) at c.requires.place in
    rw (← c.self.view_is, c.give_up.ensures, c.take-value.ensures.taken, c.count_in_place.ensures)
    (drop-whole g.T.Item.holds _ c.args.place slot c.take-value.result c.take-value.ensures.value there may)

pub returns-clause-lent : goal.returns-clause-lent
returns-clause-lent g c =
    let slot : ℕ = number_of c.args.right in
    let may = rw (← c.self.view_is) at c.requires.may in
    let there = rw (← c.self.view_is) at c.requires.place in
    let lent = rw (← c.self.view_is) at c.requires.lent in
    rw (c.give_up.ensures, c.take-value.ensures.taken, c.count_in_place.ensures)
    (drop-lent g.T.Item.holds _ c.args.place slot c.take-value.result c.take-value.ensures.value there may _ lent)
