use Rattle.std.proofs.Common.{ℕ, Some, refl}
use Rattle.sdd_rights.specs.Right.{number_of}
use Rattle.sdd_participants.specs.Slab.{entry_at}
use Rattle.sdd_world_slots.specs.Contents.{contents_of}
use Rattle.sdd_world_slots.proofs.CellsKept.{held-there}
use Rattle.sdd_world_slots.proofs.Contents.{contents-retag, granted-there, if-some, match-tag, near-right, owner-not-free}
use Rattle.sdd_world_slots.proofs.cells.WorldCells.set_tag.Goals as goal

pub replace-requires : goal.replace-requires
replace-requires c =
    let i = c.self.inside in
    rw (c.number.ensures)
    (granted-there i.tags i.held.items c.self.invariant.0 _ _ c.agrees.ensures.kind (owner-not-free _ c.agrees.ensures.owner)).0

pub invariant_of-self : goal.invariant_of-self
invariant_of-self c =
    let i = c.self.inside in
    let cell : ℕ = number_of c.args.right.now in
    let a = c.self.invariant.0 in
    let there = granted-there i.tags i.held.items a cell _ c.agrees.ensures.kind (owner-not-free _ c.agrees.ensures.owner) in
    rw (c.replace.ensures, c.number.ensures)
    (match-tag i.tags i.held.items a cell (Some c.args.tag) c.agrees.ensures.inside (there.1, refl, there.2), c.self.invariant.1)

pub returns-clause-tagged : goal.returns-clause-tagged
returns-clause-tagged c =
    let i = c.self.inside in
    let cell : ℕ = number_of c.args.right.now in
    let a = c.self.invariant.0 in
    let near = near-right i.tags i.held.items a cell c.agrees.ensures.inside in
    rw (← c.self.view_is, c.replace.ensures, c.number.ensures)
    rw (contents-retag i.tags i.held.items cell (Some c.args.tag) near)
    (if-some _ _ (entry_at (contents_of i.tags i.held.items) cell) (λ x same. rw same refl)
    (held-there cell _ a c.agrees.ensures.kind c.agrees.ensures.owner).1)
