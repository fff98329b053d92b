use Rattle.std.proofs.Common.{refl, sym, ap, ◌∙◌, subst, [], Option, Some, of_calls, ℕ}
use Rattle.sdd_rights.specs.Right.{raw_number_of}
use Rattle.sdd_participants.specs.declared.standing.RawCellContents.{RawCellContents}
use Rattle.sdd_space.specs.declared.raw_ptr.RawPtr.{RawPtr}
use Rattle.sdd_world_model.specs.WorldChanges.{with_pointer}
use Rattle.sdd_world_core.specs.WorldCore.{WorldCore}
use Rattle.sdd_world.proofs.turn.TurnRawCells.fetch_update_raw.Goals as goal

pub returns-clause-exact : goal.returns-clause-exact
returns-clause-exact g c = λ _.
    let n : ℕ = raw_number_of c.args.cell.now in
    let w = c.world.inside.core.world in
    let was = c.raw_ptr_of-was.result in
    let met : g.F.FnMut.post c.args.f (was, tt) c.f.result = search of_calls in (
      refl,
      (
        c.in-Some.next,
        rw (← c.world.view_is) (c.pointer.ensures ∙ ap Some (sym c.raw_ptr_of-was.ensures)),
        subst (λ (o : Option (RawPtr _)). g.F.FnMut.post c.args.f (was, tt) o) c.in-Some.is met,
        rw (← c.world.view_is)
            (ap (λ (x : WorldCore _ _). x.world) c.point.ensures.pointed ∙ ap (λ (p : RawCellContents). with_pointer w n p) c.pointer_of_raw.ensures),
      ),
    )

pub returns-clause-asked : goal.returns-clause-asked
returns-clause-asked g c =
    let was = c.raw_ptr_of-was.result in
    let met : g.F.FnMut.post c.args.f (was, tt) c.f.result = search of_calls in
    (c.in-Some.next, ([], c.args.f, refl, subst (λ (o : Option (RawPtr _)). g.F.FnMut.post c.args.f (was, tt) o) c.in-Some.is met))
