use Rattle.sdd_world_tests.proofs.lists.clients.at_work.Goals as goal

pub returns-clause-quiet : goal.returns-clause-quiet
returns-clause-quiet g c =
    let none = (rw c.expect-world.ensures at c.new.ensures.spent).0 in
    rw c.empty_cell-cell.ensures.same (c.joined-reader.ensures.quiet (c.joined-place.ensures.quiet none))
