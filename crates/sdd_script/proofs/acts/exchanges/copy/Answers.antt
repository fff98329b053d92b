use Rattle.sdd_script.proofs.Words.{inl, inr, refl, ap, is_some, map_push, cell_of, shared_cell, IsCell, At, cell_holding, state_of, Does, invalid, leaves, next, sits, still, under, copied-leaves, named as named-as}
use Rattle.sdd_script_text.specs.Actions as call
use Rattle.sdd_script_text.specs.declared.answer.Reply.TheVariants as reply
use Rattle.sdd_script.proofs.ExchangeActs.{copied-may, none-found, not-shared, share-full}
use Rattle.sdd_script.proofs.acts.exchanges.copy.Goals as goal

pub returns-then-is_none : goal.returns-then-is_none
returns-then-is_none c = record {
  acts = rw (← c.interpreter.view_is) (invalid (state_of c.interpreter.inside.environment) _ _
      (λ valid. not-shared c.interpreter.inside.environment c.args.cell.0
      (none-found _ c.shared_cell_of.result c.if-is_none.ensures c.shared_cell_of.ensures) valid.1));
}

pub returns-in-Err : goal.returns-in-Err
returns-in-Err c =
    let d = state_of c.interpreter.inside.environment in
    let kept = c.make_room.ensures.kept in
    let out = c.in-Err.ensures.done.1 in
    let mine = named-as cell_holding c.interpreter.inside.environment.cells.entries.items c.args.cell.0 (rw kept at c.in-Some-shared_cell_of.ensures) in
    let is : IsCell d c.args.cell.0 _ out.0 = record { named = ap cell_of mine; holds = out.1 } in
    let named = ap (λ s. is_some (shared_cell s)) mine in
    record {
      acts = rw (← c.interpreter.view_is, kept, out.2.0) (elim out.2.1 [
        | inl full ↦ rw full.1 (still d _ _ ((c.in-Some.ensures.valid, named), (full.0, refl)))
        | inr many ↦ rw many.1 (still d _ _ (
          (c.in-Some.ensures.valid, named),
          (many.0, (_, out.0, is, share-full c.interpreter.inside.environment.world out.0.held many.2 many.3), refl),
        ))
      ]);
    }

copied : (c : goal.After-give-name) → Does (state_of c.interpreter.inside.environment) (At c.args.name (call.Copy c.args.cell c.args.guard))
    (reply.Cell (record { 0 = c.give-name.result })) (record c.interpreter.inside.environment { world = c.at.new.world; cells = c.give-name.new.self })
copied c =
    let d = state_of c.interpreter.inside.environment in
    let at = under c.args.name.0 c.interpreter.invariant c.is_whole.ensures c.in-Some.ensures.found.0 in
    let kept = c.make_room.ensures.kept in
    let out = c.in-Ok.ensures.done.1 in
    let may = copied-may _ _ _ out.0 out.0.held out.2.1 in
    let mine = named-as cell_holding c.interpreter.inside.environment.cells.entries.items c.args.cell.0 (rw kept at c.in-Some-shared_cell_of.ensures) in
    let is : IsCell d c.args.cell.0 _ out.0 = record { named = ap cell_of mine; holds = out.1 } in
    leaves at refl (simp (may.2, c.give-name.ensures.given, kept, map_push, c.in-Ok.ensures.done.0))
    (copied-leaves d at.tied.sound at.whole _ c.args.cell.0 _ out.0 (sits at) is _ may.0 out.2.0 may.1) (
      (c.in-Some.ensures.valid, ap (λ s. is_some (shared_cell s)) mine),
      (next cell_holding c.give-name.ensures.name kept, (_, out.0, is, (may.0, _, may.1, out.2.0, refl))),
    )

pub invariant_of-interpreter-in-Ok : goal.invariant_of-interpreter-in-Ok
invariant_of-interpreter-in-Ok c = (copied c).0

pub returns-in-Ok : goal.returns-in-Ok
returns-in-Ok c = record { acts = rw (← c.interpreter.view_is) (copied c).1 }
