use Rattle.std.proofs.Common.{None, refl, arith}
use Rattle.std.proofs.lemmas.List.{get_or-set_same, set-set}
use Rattle.sdd_rights.specs.RightsAuthority.{whole}
use Rattle.sdd_rights.specs.declared.right.StandingKind.TheVariants.{Free}
use Rattle.sdd_world_slots.proofs.CellsKept.{whole-again, units-fit}
use Rattle.sdd_world_slots.proofs.Contents.{contents-set, granted-there, match-set, near-right, owner-not-free}
use Rattle.sdd_world_slots.proofs.cells.WorldCells.close.Goals as goal

pub set-requires-clause-whole : goal.set-requires-clause-whole
set-requires-clause-whole c =
    rw (c.redeem-cell.ensures.kept)
    rw (get_or-set_same c.self.inside.rights.kept c.redeem-cell.result _ (whole Free)
    (omega (arith, c.self.invariant.0.kept_rowed, c.redeem-cell.ensures.inside)))
    (whole-again c.redeem-cell.result _ c.self.invariant.0 c.redeem-cell.ensures.kind c.redeem-cell.ensures.owner (units-fit _))

pub release-requires : goal.release-requires
release-requires c =
    let i = c.self.inside in
    (granted-there i.tags i.held.items c.self.invariant.0 c.redeem-cell.result _ c.redeem-cell.ensures.kind (owner-not-free _ c.redeem-cell.ensures.owner)).0

pub invariant_of-self : goal.invariant_of-self
invariant_of-self c =
    let i = c.self.inside in
    let cell = c.redeem-cell.result in
    rw (
      c.set.ensures.home,
      c.set.ensures.kept,
      c.redeem-cell.ensures.home,
      c.redeem-cell.ensures.kept,
      c.release.ensures,
      c.take.ensures.after,
      set-set i.rights.kept cell _ _,
    ) (match-set i.tags i.held.items c.self.invariant.0 cell (whole Free) None None c.redeem-cell.ensures.inside (refl, refl), c.self.invariant.1)

pub returns-clause-closed : goal.returns-clause-closed
returns-clause-closed c =
    let i = c.self.inside in
    let cell = c.redeem-cell.result in
    let near = near-right i.tags i.held.items c.self.invariant.0 cell c.redeem-cell.ensures.inside in
    rw (← c.self.view_is, c.set.ensures.home, c.redeem-cell.ensures.home, c.release.ensures, c.take.ensures.after, ← c.redeem-cell.ensures.number)
    rw (contents-set i.tags i.held.items cell None None near) refl
