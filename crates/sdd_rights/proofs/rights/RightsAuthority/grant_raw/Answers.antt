use Rattle.std.proofs.Common.{◌≡◌, ◌<◌, length, arith, ap, sym, ◌∙◌, ℕ, ◌-◌}
use Rattle.sdd_rights.specs.StandingKind.{right_units}
use Rattle.sdd_rights.specs.declared.right.StandingKind.TheVariants.{Raw}
use Rattle.sdd_rights.specs.RightsAuthority.{Kept, RightsAuthority, kept_at}
use Rattle.sdd_rights.proofs.KeptFractions.{kept-changed}
use Rattle.sdd_rights.proofs.rights.RightsAuthority.grant_raw.Goals as goal

pub returns-clause-kept : goal.returns-clause-kept
returns-clause-kept c =
    let size = c.self.invariant.size in
    let sizes : c.self.inside.keys.home.size ≡ c.args.self.now.home.size = (λ i. (c.self.view_is i).home.size) in
    let inside : c.args.number < length c.self.inside.fractions.items = omega (arith, size, sizes, c.requires.inside) in
    rw (← c.self.view_is) (kept-changed _ _ _ _ _ inside c.index_mut-kept.ensures.value (λ e. rw (c.split-fraction.ensures.rest, c.set.ensures, c.units.ensures)
    (ap (λ (n : ℕ). record { kind = Raw; units = n - right_units Raw }) (sym (ap (λ (x : Kept). x.units) e) ∙
    ap (λ (r : RightsAuthority). (kept_at r c.args.number).units) c.self.view_is ∙ c.requires.whole))))
