use Rattle.std.proofs.Common.{◌≡◌, ◌<◌, length, arith, refl}
use Rattle.sdd_rights.proofs.KeptFractions.{kept-changed}
use Rattle.sdd_rights.proofs.rights.RightsAuthority.grant_several.Goals as goal

pub returns-clause-kept : goal.returns-clause-kept
returns-clause-kept c =
    let size = c.self.invariant.size in
    let sizes : c.self.inside.keys.home.size ≡ c.args.self.now.home.size = (λ i. (c.self.view_is i).home.size) in
    let inside : c.args.number < length c.self.inside.fractions.items = omega (arith, size, sizes, c.requires.inside) in
    rw (← c.self.view_is) (kept-changed _ _ _ _ _ inside c.index_mut.ensures.value (λ e. rw (c.split-fraction.ensures.rest) rw e refl))
