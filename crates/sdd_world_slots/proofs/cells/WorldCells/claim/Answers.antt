use Rattle.std.proofs.Common.{◌≡◌, None, Some, ap, refl, sym, ◌∙◌, arith}
use Rattle.std.proofs.lemmas.List.{get_or_read}
use Rattle.sdd_rights.specs.RightsAuthority.{Kept, granted}
use Rattle.sdd_world_model.specs.Cells.{right_at}
use Rattle.sdd_world_slots.proofs.Contents.{contents-set, empty-tag, free-there, full-to, match-set, near-right}
use Rattle.sdd_world_slots.proofs.cells.WorldCells.claim.Goals as goal

pub returns-in_default-clause-full : goal.returns-in_default-clause-full
returns-in_default-clause-full c = let i = c.self.inside in rw (← c.self.view_is) (full-to i.tags i.held.items c.in_default.ensures.claimed.0)

pub index_mut-requires : goal.index_mut-requires
index_mut-requires c =
    let i = c.self.inside in
    let a = c.self.invariant.0 in
    let near = near-right i.tags i.held.items a c.in-Ok.cell (free-there i.tags i.held.items a c.in-Ok.cell c.in-Ok.ensures.claimed.0).0 in
    omega (arith, near)

pub grant-requires-clause-inside : goal.grant-requires-clause-inside
grant-requires-clause-inside c =
    let i = c.self.inside in
    (free-there i.tags i.held.items c.self.invariant.0 c.in-Ok.cell c.in-Ok.ensures.claimed.0).0

pub grant-requires-clause-whole : goal.grant-requires-clause-whole
grant-requires-clause-whole c =
    let i = c.self.inside in
    ap (λ (x : Kept). x.units) (free-there i.tags i.held.items c.self.invariant.0 c.in-Ok.cell c.in-Ok.ensures.claimed.0).1

-- a free cell keeps no right
pub unreachable-requires : goal.unreachable-requires
unreachable-requires c =
    let i = c.self.inside in
    let a = c.self.invariant.0 in
    let cell = c.in-Ok.cell in
    let free = free-there i.tags i.held.items a cell c.in-Ok.ensures.claimed.0 in
    let near = near-right i.tags i.held.items a cell free.0 in
    let read : c.index_mut.result.now ≡ right_at i.held.items cell = get_or_read i.held.items cell c.index_mut.result.now near c.index_mut.ensures.value None in
    let never = sym c.in-Some.is ∙ c.replace.ensures.value ∙ read ∙ free.2 in absurd (cc)

pub invariant_of-self-in-None : goal.invariant_of-self-in-None
invariant_of-self-in-None c =
    let i = c.self.inside in
    let a = c.self.invariant.0 in
    let cell = c.in-Ok.cell in
    rw (c.grant.ensures.home, c.grant.ensures.kept, c.in-Ok.ensures.claimed.1, c.replace.ensures.after) (
      match-set i.tags i.held.items a cell (granted c.args.kind) (Some c.args.tag) c.args.held
          (free-there i.tags i.held.items a cell c.in-Ok.ensures.claimed.0).0 (refl, refl, rw (← c.self.view_is) at c.requires.owner),
      c.self.invariant.1,
    )

pub returns-clause-free : goal.returns-clause-free
returns-clause-free c =
    let i = c.self.inside in rw (← c.self.view_is, c.grant.ensures.right_number) (empty-tag i.tags i.held.items c.in-Ok.cell c.in-Ok.ensures.claimed.0)

pub returns-clause-claimed : goal.returns-clause-claimed
returns-clause-claimed c =
    let i = c.self.inside in
    let a = c.self.invariant.0 in
    let cell = c.in-Ok.cell in
    let near = near-right i.tags i.held.items a cell (free-there i.tags i.held.items a cell c.in-Ok.ensures.claimed.0).0 in
    rw (← c.self.view_is, c.grant.ensures.home, c.in-Ok.ensures.claimed.1, c.replace.ensures.after, c.grant.ensures.right_number)
    rw (contents-set i.tags i.held.items cell (Some c.args.tag) c.args.held near) refl
