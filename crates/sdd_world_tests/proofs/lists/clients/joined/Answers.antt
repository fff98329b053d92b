use Rattle.sdd_world.specs.Place.{index_of}
use Rattle.sdd_world_tests.proofs.Registered.{leaves-time}
use Rattle.sdd_world_tests.proofs.lists.clients.joined.Goals as goal

pub returns-clause-same : goal.returns-clause-same
returns-clause-same g c =
    let told = rw c.expect.ensures at c.register.ensures.registered in rw told.1 (leaves-time _ (index_of c.expect.result))
