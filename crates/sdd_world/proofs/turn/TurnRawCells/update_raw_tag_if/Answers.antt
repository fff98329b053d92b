use Rattle.std.proofs.Common.{◌≡◌, refl, sym, ap, ◌∙◌, subst, [], Bool, Some, of_calls, ℕ}
use Rattle.sdd_rights.specs.Right.{raw_number_of}
use Rattle.sdd_participants.specs.declared.standing.RawCellContents.{RawCellContents}
use Rattle.sdd_space.specs.RawPtr.{pointer_of}
use Rattle.sdd_world_model.specs.WorldChanges.{with_pointer}
use Rattle.sdd_world_core.specs.WorldCore.{WorldCore}
use Rattle.sdd_world.proofs.turn.TurnRawCells.update_raw_tag_if.Goals as goal

pub returns-then-not-condition-clause-exact : goal.returns-then-not-condition-clause-exact
returns-then-not-condition-clause-exact g c = λ _.
    let met : g.F.FnMut.post c.args.condition (c.raw_ptr_of-ptr.result, tt) c.condition.result = search of_calls in (
      refl,
      (
        c.raw_ptr_of-ptr.result,
        rw (← c.world.view_is) (c.pointer.ensures ∙ ap Some (sym c.raw_ptr_of-ptr.ensures)),
        subst (λ (b : Bool). g.F.FnMut.post c.args.condition (c.raw_ptr_of-ptr.result, tt) b) c.if-not-condition.true met,
        refl,
      ),
    )

pub returns-clause-exact : goal.returns-clause-exact
returns-clause-exact g c = λ _.
    let n : ℕ = raw_number_of c.args.cell.now in
    let w = c.world.inside.core.world in
    let ptr = c.raw_ptr_of-ptr.result in
    let met : g.F.FnMut.post c.args.condition (ptr, tt) c.condition.result = search of_calls in
    let tagged : pointer_of c.with_tag.result ≡ record (pointer_of ptr) { tag = c.args.tag } =
    λ i. record { named = c.with_tag.ensures.slot i; tag = c.with_tag.ensures.tag i } in (
      refl,
      (
        ptr,
        rw (← c.world.view_is) (c.pointer.ensures ∙ ap Some (sym c.raw_ptr_of-ptr.ensures)),
        subst (λ (b : Bool). g.F.FnMut.post c.args.condition (ptr, tt) b) c.if-not-condition.false met,
        rw (← c.world.view_is)
            (ap (λ (x : WorldCore _ _). x.world) c.point.ensures.pointed
            ∙ ap (λ (p : RawCellContents). with_pointer w n p) (c.pointer_of_raw.ensures ∙ tagged)),
      ),
    )

pub returns-then-not-condition-clause-asked : goal.returns-then-not-condition-clause-asked
returns-then-not-condition-clause-asked g c =
    let ptr = c.raw_ptr_of-ptr.result in
    let met : g.F.FnMut.post c.args.condition (ptr, tt) c.condition.result = search of_calls in
    (ptr, ([], c.args.condition, refl, subst (λ (b : Bool). g.F.FnMut.post c.args.condition (ptr, tt) b) c.if-not-condition.true met))

pub returns-clause-asked : goal.returns-clause-asked
returns-clause-asked g c =
    let ptr = c.raw_ptr_of-ptr.result in
    let met : g.F.FnMut.post c.args.condition (ptr, tt) c.condition.result = search of_calls in
    (ptr, ([], c.args.condition, refl, subst (λ (b : Bool). g.F.FnMut.post c.args.condition (ptr, tt) b) c.if-not-condition.false met))
