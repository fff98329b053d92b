use Rattle.sdd_world_tests.proofs.cells.value.ValueItem.give_up.Goals as goal

-- one after another, each owner and cell lets what waits grow
pub returns-in-Each-clause-own : goal.returns-in-Each-clause-own
returns-in-Each-clause-own g c = λ start grown.
    let owners = c.shared-in-Each.ensures.own start (c.owned-in-Each.ensures.own start grown) in
    c.atomic_raw.ensures.own start (c.atomic_shared.ensures.own start (c.atomic_owned.ensures.own start owners))
