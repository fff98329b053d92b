use Rattle.sdd_script.proofs.Words.{refl, sym, ap, is_some, state_of, attends, here, still, nobody}
use Rattle.sdd_script.proofs.CellActs.{is-cell}
use Rattle.sdd_script.proofs.acts.cells.tag.Goals as goal

pub returns-in_default : goal.returns-in_default
returns-in_default c = record {
  acts = rw (← c.interpreter.view_is) (nobody c.interpreter.inside.environment c.args.name _ c.in_default.ensures
      (λ valid. valid.0));
}

pub returns : goal.returns
returns c =
    let h = c.interpreter.inside.environment in
    let told = c.at.ensures.done in
    let own = is-cell h c.args.cell.0 _ (sym c.in-Some-get.ensures) told.1 in
    let at = here c.args.name.0 c.interpreter.invariant c.is_whole.ensures c.in-Some.ensures in
    record {
      acts = rw (← c.interpreter.view_is, told.3) (still (state_of h) _ _ ((attends at, ap is_some own.named), ((_, told.0, own, told.2), refl)));
    }
