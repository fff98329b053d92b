use Rattle.std.proofs.Common.{◌≡◌, ◌<◌, [], length, arith, refl, ap, ◌∙◌}
use Rattle.sdd_rights.specs.RightModel.{RightModel}
use Rattle.sdd_rights.proofs.Homes.{fraction-in-gamma, blank-in-gamma}
use Rattle.sdd_rights.proofs.KeptFractions.{kept-changed}
use Rattle.sdd_rights.proofs.rights.RightsAuthority.redeem.Goals as goal

pub returns-clause-kept : goal.returns-clause-kept
returns-clause-kept c =
    let size = c.self.invariant.size in
    let sizes : c.self.inside.keys.home.size ≡ c.args.self.now.home.size = (λ i. (c.self.view_is i).home.size) in
    let right = c.right.inside in
    let tables : c.args.self.now.home.tables ≡ [] = rw (← c.self.view_is) c.self.invariant.tables in
    let home-is = ap (λ (r : RightModel). r.home) c.right.view_is ∙ c.requires in
    let kind-is : right.fraction.kind ≡ c.args.right.kind = ap (λ (r : RightModel). r.kind) c.right.view_is in
    let gamma : right.fraction.home ≡ c.args.self.now.home =
    fraction-in-gamma right.witness.views right.witness.table_id right.read_fraction.gamma _ right.fraction.home c.args.self.now.home home-is tables in
    let home : right.fraction.home.size ≡ c.args.self.now.home.size = (λ i. (gamma i).size) in
    let blank : right.witness.views ≡ [] =
    blank-in-gamma right.witness.views right.witness.table_id right.read_fraction.gamma _ right.fraction.home c.args.self.now.home home-is tables in
    let inside : c.number-number.result < length c.self.inside.fractions.items = omega (arith, size, sizes, c.number-number.ensures, right.inside, home) in
    rw (← c.self.view_is) (kept-changed _ _ _ _ _ inside c.index_mut-kept.ensures.value (λ e.
    rw (c.join.ensures.joined) rw (c.apart.ensures.kept.0, c.apart.ensures.kept.1, e, right.due blank, ← kind-is) refl))
