use Rattle.std.proofs.Common.{ℕ, Some, refl, sym, subst}
use Rattle.sdd_rights.specs.Right.{badge_home, number_of}
use Rattle.sdd_rights.specs.declared.right.StandingKind.{StandingKind}
use Rattle.sdd_world_model.specs.Cells.{MayHold}
use Rattle.sdd_world_slots.proofs.Contents.{contents-set, granted-there, match-both, near-right, owner-not-free}
use Rattle.sdd_world_slots.proofs.cells.WorldCells.swap.Goals as goal

pub replace-requires : goal.replace-requires
replace-requires c =
    let i = c.self.inside in
    rw (c.number-cell.ensures)
    (granted-there i.tags i.held.items c.self.invariant.0 _ _ c.agrees.ensures.kind (owner-not-free _ c.agrees.ensures.owner)).0

pub invariant_of-self : goal.invariant_of-self
invariant_of-self c =
    let i = c.self.inside in
    let cell : ℕ = number_of c.args.right.now in
    let a = c.self.invariant.0 in
    let there = granted-there i.tags i.held.items a cell _ c.agrees.ensures.kind (owner-not-free _ c.agrees.ensures.owner) in
    let may = subst (λ (k : StandingKind). MayHold (badge_home i.slots) k c.args.new) (sym c.agrees.ensures.kind) (rw (← c.self.view_is) at c.requires.owner) in
    rw (c.replace.ensures, c.replace-2.ensures.after, c.number-cell.ensures)
    (match-both i.tags i.held.items a cell (Some c.args.tag) c.args.new c.agrees.ensures.inside (there.1, refl, may), c.self.invariant.1)

pub returns-clause-swapped : goal.returns-clause-swapped
returns-clause-swapped c =
    let i = c.self.inside in
    let cell : ℕ = number_of c.args.right.now in
    let near = near-right i.tags i.held.items c.self.invariant.0 cell c.agrees.ensures.inside in
    rw (← c.self.view_is, c.replace.ensures, c.replace-2.ensures.after, c.number-cell.ensures)
    rw (contents-set i.tags i.held.items cell (Some c.args.tag) c.args.new near) refl
