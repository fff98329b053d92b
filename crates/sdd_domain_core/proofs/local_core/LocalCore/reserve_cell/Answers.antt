use Rattle.std.proofs.Common.{rules, refl, sym, ap, ◌∙◌, subst}
use Rattle.sdd_core.specs.declared.refused.Refused.{Refused}
use Rattle.sdd_rights.specs.declared.views.View.{View}
use Rattle.sdd_rights.specs.declared.views.Sizes.{Sizes}
use Rattle.sdd_domain_steps.specs.LocalState.{LocalState}
use Rattle.sdd_domain_steps.specs.Cells.{ClaimsNone}
use Rattle.sdd_domain_steps.proofs.HeldOwners.{none_claimed}
use Rattle.sdd_domain_core.proofs.local_core.LocalCore.reserve_cell.Goals as goal

pub returns-in-Err-clause-reserved : goal.returns-in-Err-clause-reserved
returns-in-Err-clause-reserved g c = let l = c.self.inside in let v : View = l.seat.me.0 in let m : LocalState g.row.J.Denot = c.self.view_is 0 in
    let all = c.self.invariant.0.all ∙ ap (λ (z : Sizes). z.participants) l.domain.now.limited.1 in (
      search rules,
      subst (λ (z : Refused × LocalState g.row.J.Denot). ClaimsNone z.0 z.1) (λ d. (sym c.without_sightings.ensures d, c.self.view_is d))
          (none_claimed g.row.J.Denot m v l.domain.now.limits.cells c.in-Err.missed.0 c.in-Err.ensures.reserved.1 all refl refl),
    )
