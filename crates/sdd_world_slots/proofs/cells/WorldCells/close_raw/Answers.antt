use Rattle.std.proofs.Common.{None, refl, subst, arith}
use Rattle.std.proofs.lemmas.List.{get_or-set_same, set-set}
use Rattle.sdd_rights.specs.RightsAuthority.{whole}
use Rattle.sdd_rights.specs.Right.{badge_home}
use Rattle.sdd_rights.specs.declared.right.StandingKind.{StandingKind}
use Rattle.sdd_rights.specs.declared.right.StandingKind.TheVariants.{Free}
use Rattle.sdd_world_model.specs.Cells.{MayHold, right_at}
use Rattle.sdd_world_slots.proofs.CellsKept.{raw-whole-again}
use Rattle.sdd_world_slots.proofs.Contents.{contents-retag, granted-there, match-retag, near-right, none-raw}
use Rattle.sdd_world_slots.proofs.cells.WorldCells.close_raw.Goals as goal

pub set-requires-clause-whole : goal.set-requires-clause-whole
set-requires-clause-whole c =
    let cell = c.redeem_raw-number.result in
    rw (c.redeem_raw-number.ensures.kept)
    rw (get_or-set_same c.self.inside.rights.kept cell _ (whole Free) (omega (arith, c.self.invariant.0.kept_rowed, c.redeem_raw-number.ensures.inside)))
    (raw-whole-again cell c.self.invariant.0 c.redeem_raw-number.ensures.kind)

pub release-requires : goal.release-requires
release-requires c =
    let i = c.self.inside in
    (granted-there i.tags i.held.items c.self.invariant.0 c.redeem_raw-number.result _ c.redeem_raw-number.ensures.kind (λ e. absurd (cc))).0

pub invariant_of-self : goal.invariant_of-self
invariant_of-self c =
    let i = c.self.inside in
    let cell = c.redeem_raw-number.result in
    let a = c.self.invariant.0 in
    let there = granted-there i.tags i.held.items a cell _ c.redeem_raw-number.ensures.kind (λ e. absurd (cc)) in
    let none = none-raw _ _ (subst (λ (k : StandingKind). MayHold (badge_home i.slots) k
    (right_at i.held.items cell)) c.redeem_raw-number.ensures.kind there.2) in
    rw (
      c.set.ensures.home,
      c.set.ensures.kept,
      c.redeem_raw-number.ensures.home,
      c.redeem_raw-number.ensures.kept,
      c.release.ensures,
      set-set i.rights.kept cell _ _,
    ) (match-retag i.tags i.held.items a cell (whole Free) None c.redeem_raw-number.ensures.inside (refl, none), c.self.invariant.1)

pub returns-clause-closed : goal.returns-clause-closed
returns-clause-closed c =
    let i = c.self.inside in
    let cell = c.redeem_raw-number.result in
    let near = near-right i.tags i.held.items c.self.invariant.0 cell c.redeem_raw-number.ensures.inside in
    rw (← c.self.view_is, c.set.ensures.home, c.redeem_raw-number.ensures.home, c.release.ensures, ← c.redeem_raw-number.ensures.number)
    rw (contents-retag i.tags i.held.items cell None near) refl
