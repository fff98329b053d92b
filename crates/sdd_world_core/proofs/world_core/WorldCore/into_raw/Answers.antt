use Rattle.std.proofs.Common.{ℕ, ap, refl}
use Rattle.sdd_rights.specs.Right.{number_of}
use Rattle.sdd_participants.specs.declared.standing.Standing.TheVariants.{Raw}
use Rattle.sdd_world_model.specs.Out.{is_out}
use Rattle.sdd_world_model.specs.WorldStep.WorldStep.{puts_out_raw}
use Rattle.sdd_world_model.proofs.PlacesMatchStates.{Whole-restands}
use Rattle.sdd_world_core.proofs.Lending.{lent-call, readers-as}
use Rattle.sdd_world_core.proofs.world_core.WorldCore.into_raw.Goals as goal

pub returns-clause-whole : goal.returns-clause-whole
returns-clause-whole g c =
    let slot : ℕ = number_of c.args.right in
    rw (← c.self.view_is, c.into_raw.ensures.raw) (λ i. Whole-restands _ slot Raw (ap is_out c.into_raw.ensures.owned) refl i)

pub returns-clause-lent : goal.returns-clause-lent
returns-clause-lent g c =
    let slot : ℕ = number_of c.args.right in
    rw (← c.self.view_is, c.into_raw.ensures.raw)
    (λ i l. lent-call g.T.Item.holds _ _ _ (puts_out_raw _ slot c.into_raw.ensures.owned) i (λ h. readers-as _ _ refl refl h) (λ q. refl) l)
