use Rattle.std.proofs.Common.{refl, sym, ap, ◌∙◌, subst, [], Bool, Some, of_calls, ℕ}
use Rattle.sdd_rights.specs.Right.{number_of}
use Rattle.sdd_world_model.specs.WorldChanges.{with_cell}
use Rattle.sdd_participants.specs.declared.standing.CellContents.{CellContents}
use Rattle.sdd_world_core.specs.WorldCore.{WorldCore}
use Rattle.sdd_world.proofs.turn.TurnCells.update_tag_if.Goals as goal

pub returns-then-not-condition-clause-exact : goal.returns-then-not-condition-clause-exact
returns-then-not-condition-clause-exact g c = λ _.
    let met : g.F.FnMut.post c.args.condition (c.raw_ptr_to.result, tt) c.condition.result = search of_calls in (
      refl,
      (
        c.raw_ptr_to.result,
        rw (← c.world.view_is) (c.cell.ensures ∙ ap Some (sym c.raw_ptr_to.ensures)),
        subst (λ (b : Bool). g.F.FnMut.post c.args.condition (c.raw_ptr_to.result, tt) b) c.if-not-condition.true met,
        refl,
      ),
    )

pub returns-clause-exact : goal.returns-clause-exact
returns-clause-exact g c = λ _.
    let n : ℕ = number_of c.args.cell.now in
    let w = c.world.inside.core.world in
    let met : g.F.FnMut.post c.args.condition (c.raw_ptr_to.result, tt) c.condition.result = search of_calls in
    let tagged = rw (c.cell.ensures) at c.set_tag.ensures.tagged in (
      refl,
      (
        c.raw_ptr_to.result,
        rw (← c.world.view_is) (c.cell.ensures ∙ ap Some (sym c.raw_ptr_to.ensures)),
        subst (λ (b : Bool). g.F.FnMut.post c.args.condition (c.raw_ptr_to.result, tt) b) c.if-not-condition.false met,
        rw (← c.world.view_is)
            (ap (λ (x : WorldCore _ _). x.world) tagged ∙ ap (λ (x : CellContents). with_cell w n (record x { tag = c.args.tag })) (sym c.raw_ptr_to.ensures)),
      ),
    )

pub returns-then-not-condition-clause-asked : goal.returns-then-not-condition-clause-asked
returns-then-not-condition-clause-asked g c =
    let met : g.F.FnMut.post c.args.condition (c.raw_ptr_to.result, tt) c.condition.result = search of_calls in (
      c.raw_ptr_to.result,
      (
        [],
        c.args.condition,
        refl,
        subst (λ (b : Bool). g.F.FnMut.post c.args.condition (c.raw_ptr_to.result, tt) b) c.if-not-condition.true met,
      ),
    )

pub returns-clause-asked : goal.returns-clause-asked
returns-clause-asked g c =
    let met : g.F.FnMut.post c.args.condition (c.raw_ptr_to.result, tt) c.condition.result = search of_calls in (
      c.raw_ptr_to.result,
      (
        [],
        c.args.condition,
        refl,
        subst (λ (b : Bool). g.F.FnMut.post c.args.condition (c.raw_ptr_to.result, tt) b) c.if-not-condition.false met,
      ),
    )
