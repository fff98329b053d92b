use Rattle.std.proofs.Common.{refl, sym, subst}
use Rattle.sdd_world_model.specs.World.{World}
use Rattle.sdd_participants.specs.declared.standing.CellContents.{CellContents}
use Rattle.sdd_lists.specs.Entries.{link_of}
use Rattle.sdd_lists.specs.Lists.{first_slot, left}
use Rattle.sdd_lists.specs.Walk.{StandsBefore}
use Rattle.sdd_lists.specs.declared.walk.Walk.{Walk}
use Rattle.sdd_lists.proofs.WalkPositions.{linked-left, stands}
use Rattle.sdd_lists.proofs.walk.walk_in.Goals as goal

pub returns-clause-exact : goal.returns-clause-exact
returns-clause-exact g c = λ e t es list.
    let w = g.S.Caller.world c.args.s.now in
    let held : CellContents = record { held = first_slot es; tag = t } in
    let walk : Walk _ = record { next = c.front_in-next.result; most = c.reach-most.result } in
    let found = c.front_in-next.ensures.exact e es list.linked held list.begins refl in
    subst (λ (y : World _). StandsBefore y walk (left es)) (sym (c.front_in-next.ensures.world e))
    (stands w walk es list.linked found c.front_in-next.ensures.link (c.reach-most.ensures e (left es) (linked-left link_of w es list.linked)))
