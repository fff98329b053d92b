use Rattle.std.proofs.Common.{Some, ap, refl, ◌∙◌, arith}
use Rattle.std.proofs.lemmas.List.{length-set}
use Rattle.sdd_core.specs.declared.tag.Tag.TheVariants.{None as no_tag}
use Rattle.sdd_rights.specs.RightsAuthority.{Kept, granted}
use Rattle.sdd_rights.specs.declared.right.StandingKind.TheVariants.{Raw}
use Rattle.sdd_world_slots.proofs.Contents.{contents-retag, empty-tag, free-there, full-to, match-retag, near-right}
use Rattle.sdd_world_slots.proofs.cells.WorldCells.claim_raw.Goals as goal

pub returns-in_default-clause-full : goal.returns-in_default-clause-full
returns-in_default-clause-full c = let i = c.self.inside in rw (← c.self.view_is) (full-to i.tags i.held.items c.in_default.ensures.claimed.0)

pub index_mut-requires : goal.index_mut-requires
index_mut-requires c =
    let i = c.self.inside in
    let near = (free-there i.tags i.held.items c.self.invariant.0 c.in-Ok.cell c.in-Ok.ensures.claimed.0).0 in
    let e = c.self.invariant.1 in omega (arith, near, e)

pub grant_raw-requires-clause-inside : goal.grant_raw-requires-clause-inside
grant_raw-requires-clause-inside c =
    let i = c.self.inside in
    (free-there i.tags i.held.items c.self.invariant.0 c.in-Ok.cell c.in-Ok.ensures.claimed.0).0

pub grant_raw-requires-clause-whole : goal.grant_raw-requires-clause-whole
grant_raw-requires-clause-whole c =
    let i = c.self.inside in
    ap (λ (x : Kept). x.units) (free-there i.tags i.held.items c.self.invariant.0 c.in-Ok.cell c.in-Ok.ensures.claimed.0).1

pub invariant_of-self-2 : goal.invariant_of-self-2
invariant_of-self-2 c =
    let i = c.self.inside in
    let a = c.self.invariant.0 in
    let cell = c.in-Ok.cell in
    let free = free-there i.tags i.held.items a cell c.in-Ok.ensures.claimed.0 in
    rw (c.grant_raw.ensures.home, c.grant_raw.ensures.kept, c.in-Ok.ensures.claimed.1) (
      match-retag i.tags i.held.items a cell (granted Raw) (Some no_tag) free.0 (refl, refl, rw (free.2) tt),
      length-set i.pointers.items cell c.args.pointer ∙ c.self.invariant.1,
    )

pub returns-clause-free : goal.returns-clause-free
returns-clause-free c =
    let i = c.self.inside in rw (← c.self.view_is, c.grant_raw.ensures.right_number) (empty-tag i.tags i.held.items c.in-Ok.cell c.in-Ok.ensures.claimed.0)

pub returns-clause-claimed : goal.returns-clause-claimed
returns-clause-claimed c =
    let i = c.self.inside in
    let a = c.self.invariant.0 in
    let cell = c.in-Ok.cell in
    let free = free-there i.tags i.held.items a cell c.in-Ok.ensures.claimed.0 in
    let near = near-right i.tags i.held.items a cell free.0 in
    rw (← c.self.view_is, c.grant_raw.ensures.home, c.in-Ok.ensures.claimed.1, c.grant_raw.ensures.right_number)
    rw (contents-retag i.tags i.held.items cell (Some no_tag) near) rw (free.2) refl
