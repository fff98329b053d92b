use Rattle.std.proofs.Common.{◌≡◌, ◌<◌, [], length, arith, refl, ap, ◌∙◌}
use Rattle.sdd_rights.specs.RightModel.{RawRightModel}
use Rattle.sdd_rights.proofs.Homes.{fraction-in-gamma, blank-in-gamma}
use Rattle.sdd_rights.proofs.KeptFractions.{kept-changed}
use Rattle.sdd_rights.proofs.rights.RightsAuthority.redeem_raw.Goals as goal

pub returns-clause-kept : goal.returns-clause-kept
returns-clause-kept c =
    let size = c.self.invariant.size in
    let sizes : c.self.inside.keys.home.size ≡ c.args.self.now.home.size = (λ i. (c.self.view_is i).home.size) in
    let right = c.right.inside in
    let tables : c.args.self.now.home.tables ≡ [] = rw (← c.self.view_is) c.self.invariant.tables in
    let home-is = ap (λ (r : RawRightModel). r.home) c.right.view_is ∙ c.requires in
    let gamma : right.fraction.home ≡ c.args.self.now.home =
    fraction-in-gamma right.witness.views right.witness.table_id _ _ right.fraction.home c.args.self.now.home home-is tables in
    let home : right.fraction.home.size ≡ c.args.self.now.home.size = (λ i. (gamma i).size) in
    let blank : right.witness.views ≡ [] =
    blank-in-gamma right.witness.views right.witness.table_id _ _ right.fraction.home c.args.self.now.home home-is tables in
    let inside : right.number < length c.self.inside.fractions.items = omega (arith, size, sizes, right.inside, home) in
    rw (← c.self.view_is) (kept-changed _ _ _ _ _ inside c.index_mut-kept.ensures.value (λ e.
    rw (c.join.ensures.joined) rw (c.apart.ensures.kept.0, c.apart.ensures.kept.1, e, right.due blank, right.kind) refl))
