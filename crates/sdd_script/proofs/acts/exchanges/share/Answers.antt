use Rattle.sdd_script.proofs.Words.{refl, sym, ap, is_some, map_push, cell_of, shared_cell, IsCell, At, cell_holding, owner_holding, state_of, Does, invalid, leaves, next, sits, still, under, held-apart, named as named-as, shared-leaves}
use Rattle.sdd_script_text.specs.Actions as call
use Rattle.sdd_script_text.specs.declared.answer.Reply.TheVariants as reply
use Rattle.sdd_script.proofs.ExchangeActs.{crowded, not-shared}
use Rattle.sdd_script.proofs.acts.exchanges.share.Goals as goal

pub returns-in_default-shared_cell_of : goal.returns-in_default-shared_cell_of
returns-in_default-shared_cell_of c = record {
  acts = rw (← c.interpreter.view_is) (invalid (state_of c.interpreter.inside.environment) _ _
      (λ valid. not-shared c.interpreter.inside.environment c.args.cell.0 c.in_default-shared_cell_of.ensures valid.1));
}

pub returns-in-Err : goal.returns-in-Err
returns-in-Err c =
    let d = state_of c.interpreter.inside.environment in
    let out = c.in-Err.ensures.done.1 in
    let mine = named-as cell_holding c.interpreter.inside.environment.cells.entries.items c.args.cell.0 c.in-Some-shared_cell_of.ensures in
    let is : IsCell d c.args.cell.0 _ out.0 = record { named = ap cell_of mine; holds = out.1 } in
    let full = crowded c.interpreter.inside.environment.world out.0.held out.2.2 out.2.1 in
    record {
      acts = rw (← c.interpreter.view_is, c.make_room.ensures.kept, out.2.3, out.2.0) (still d _ _
          ((c.in-Some.ensures.valid, ap (λ s. is_some (shared_cell s)) mine), (_, full.0, out.0, is, full.1, (full.2, refl))));
    }

more : (c : goal.After-give-name) → Does (state_of c.interpreter.inside.environment) (At c.args.name (call.Share c.args.cell c.args.guard))
    (reply.Owner (record { 0 = c.give-name.result })) (record c.interpreter.inside.environment { world = c.at.new.world; owners = c.give-name.new.self })
more c =
    let d = state_of c.interpreter.inside.environment in
    let at = under c.args.name.0 c.interpreter.invariant c.is_whole.ensures c.in-Some.ensures.found.0 in
    let out = rw c.in-Ok-Some.field-0-is at c.in-Ok-Some.ensures.done.1 in
    let home = rw c.in-Ok-Some.field-0-is at c.in-Ok-Some.ensures.done.0 in
    let mine = named-as cell_holding c.interpreter.inside.environment.cells.entries.items c.args.cell.0 c.in-Some-shared_cell_of.ensures in
    let is : IsCell d c.args.cell.0 _ out.0 = record { named = ap cell_of mine; holds = out.1 } in
    leaves at refl (simp (out.2.1.3, c.give-name.ensures.given, c.make_room.ensures.kept, map_push, home))
    (shared-leaves d at.tied.sound at.whole _ _ out.2.1.0 (sits at) out.2.1.1
    (held-apart d at.tied.sound c.args.cell.0 _ _ out.0 is (sym out.2.0))) (
      (c.in-Some.ensures.valid, ap (λ s. is_some (shared_cell s)) mine),
      (
        _,
        _,
        out.0,
        is,
        sym out.2.0,
        (out.2.1.0, out.2.1.1, out.2.1.2, (next owner_holding c.give-name.ensures.name c.make_room.ensures.kept, refl)),
      ),
    )

pub invariant_of-interpreter-in-Ok-Some : goal.invariant_of-interpreter-in-Ok-Some
invariant_of-interpreter-in-Ok-Some c = (more c).0

pub returns-in-Ok-Some : goal.returns-in-Ok-Some
returns-in-Ok-Some c = record { acts = rw (← c.interpreter.view_is) (more c).1 }
