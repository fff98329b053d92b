use Rattle.sdd_domain_core.proofs.AtTable.{fits_from}
use Rattle.std.proofs.Common.{refl, subst}
use Rattle.sdd_atomics.specs.TableFacts.{facts_of}
use Rattle.sdd_world_model.specs.OwnerOrCell.{AreOf}
use Rattle.sdd_domain_steps.specs.LocalState.{LocalState}
use Rattle.sdd_domain_steps.specs.SpaceIds.{home_in}
use Rattle.sdd_domain_steps.proofs.SameHome.{on_table, from_table}
use Rattle.sdd_domain_core.proofs.local_core.LocalCore.empty_slot.Goals as goal

pub returns-clause-home : goal.returns-clause-home
returns-clause-home g c = let l = c.self.inside in let b = (facts_of l.domain.now.table) in let inv = c.self.invariant in let value = c.in_ok-value.value in
    subst (λ (m : LocalState _). AreOf (home_in m) (g.T.Item.holds value)) c.self.view_is
    (from_table b (c.self.view_is 0) (on_table l.domain.now.limits b l.seat.table_id inv.0.home l.domain.now.limited.1 (c.self.view_is 0) refl refl refl)
    (g.T.Item.holds value) (fits_from inv.0 (g.T.Item.holds value) c.in_ok-value.ensures.fits))
