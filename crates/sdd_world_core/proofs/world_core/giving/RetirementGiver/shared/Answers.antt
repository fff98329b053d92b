use Rattle.std.proofs.Common.{ℕ, refl}
use Rattle.sdd_space.specs.Shared.{slot_of}
use Rattle.sdd_world_model.proofs.ParticipantChanges.{gives-grows, Gives-owner_given}
use Rattle.sdd_world_core.proofs.world_core.giving.RetirementGiver.shared.Goals as goal

pub returns-clause-own : goal.returns-clause-own
returns-clause-own g c =
    let w = c.args.self.now.core.now.world in
    let p : ℕ = c.args.self.now.place in
    let slot : ℕ = slot_of c.args.owner in
    rw (c.release.ensures.released.world, c.right_of_owner.ensures.right) (gives-grows c.requires.seated.0 (Gives-owner_given w p slot _ refl))
