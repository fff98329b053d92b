use Rattle.sdd_script.proofs.Words.{refl, sym, ap, is_some, state_of, still, under}
use Rattle.sdd_script.proofs.CellActs.{is-cell}
use Rattle.sdd_script.proofs.ExchangeActs.{seen-named}
use Rattle.sdd_script.proofs.acts.cells.load.Goals as goal

pub item_seen-item-requires : goal.item_seen-item-requires
item_seen-item-requires c = record {
  named = seen-named c.args.name (under c.args.name.0 c.interpreter.invariant c.is_whole.ensures c.in-Some.ensures.found.0) c.args.cell _
      c.at-loaded.result (sym c.in-Some-get.ensures) c.at-loaded.ensures.done.0 _ refl;
}

pub returns : goal.returns
returns c =
    let h = c.interpreter.inside.environment in
    let own = is-cell h c.args.cell.0 _ (sym c.in-Some-get.ensures) c.at-loaded.ensures.done.0 in
    record {
      acts = rw (← c.interpreter.view_is, c.at-loaded.ensures.done.1)
          (still (state_of h) _ _ ((c.in-Some.ensures.valid, ap is_some own.named), ((_, _, own, c.item_seen-item.ensures, refl), refl)));
    }
