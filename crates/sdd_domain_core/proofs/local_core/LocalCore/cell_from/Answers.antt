use Rattle.sdd_domain_core.proofs.AtTable.{loose_from}
use Rattle.std.proofs.Common.{rules, Bool, refl, sym, ap, ◌∙◌, subst}
use Rattle.sdd_atomics.specs.TableFacts.{facts_of}
use Rattle.sdd_core.specs.declared.refused.Refused.{Refused}
use Rattle.sdd_rights.specs.declared.views.View.{View}
use Rattle.sdd_rights.specs.declared.views.Sizes.{Sizes}
use Rattle.sdd_domain_steps.specs.LocalState.{LocalState}
use Rattle.sdd_domain_steps.specs.Cells.{AreLoose, ClaimsNone}
use Rattle.sdd_domain_steps.proofs.HeldOwners.{none_claimed, same_bound}
use Rattle.sdd_domain_core.proofs.local_core.LocalCore.cell_from.Goals as goal

pub returns-in-Err-clause-back : goal.returns-in-Err-clause-back
returns-in-Err-clause-back g c = let new = c.loosen-new in let b = (facts_of c.self.inside.domain.now.table) in
    let shared : Bool = c.is_one_of_several-shared.result in
    let tells = c.in-Err.ensures.claimed in
    same_bound b c.args.kind shared c.args.held c.bind.result new.result c.in-Err.back new.ensures.bound c.bind.ensures
    (subst (λ (s : Bool). AreLoose b s new.result) (sym c.is_one_of_several-shared.ensures) new.ensures.loose)
    (loose_from c.self.invariant.0 shared c.in-Err.back tells.3) tells.2 tells.4

pub returns-in-Err-clause-claimed : goal.returns-in-Err-clause-claimed
returns-in-Err-clause-claimed g c = let l = c.self.inside in let v : View = l.seat.me.0 in let m : LocalState g.row.J.Denot = c.self.view_is 0 in
    let all = c.self.invariant.0.all ∙ ap (λ (z : Sizes). z.participants) l.domain.now.limited.1 in (
      search rules,
      subst (λ (z : Refused × LocalState g.row.J.Denot). ClaimsNone z.0 z.1) (λ d. (sym c.without_sightings.ensures d, c.self.view_is d))
          (none_claimed g.row.J.Denot m v l.domain.now.limits.cells c.in-Err.missed.0 c.in-Err.ensures.claimed.1 all refl refl),
    )
