use Rattle.std.proofs.Common.{rules, ◌∙◌, refl, sym, ap, subst}
use Rattle.sdd_examples.proofs.CountedOwners.{cell-still, finds}
use Rattle.sdd_space.specs.CallerId.{CallerId}
use Rattle.sdd_world_model.specs.Ledger.{right_to, IsStill}
use Rattle.sdd_space.specs.Shared.{cell_of}
use Rattle.sdd_world_model.specs.World.{World}
use Rattle.sdd_examples.proofs.counts.finds_it_again.Goals as goal

pub returns : goal.returns
returns g c = record {
  still = λ others a.
      let cell = cell_of c.args.cell.now in
      let still = cell-still g.T.Item.holds c.keeps_its_ledger.ensures c.args.world.now _ _ cell others c.is_whole.ensures a
      (c.comes_by.ensures.beside (right_to cell) others) (search rules) in (
        subst (λ (z : World g.row.T.Denot). IsStill c.args.world.now z (right_to cell))
            (sym (c.world-2-1.given.1 (sym (ap (λ (s : CallerId). s.loan) c.load-second.ensures.undisturbed.caller ∙ c.at-2.ensures.loan)) ∙ c.drop-at-2.ensures
            ∙ (c.load-second.ensures.exact refl).1 ∙ c.at-2.ensures.world))
            still,
        c.as_ref-after.ensures.shown
            ∙ finds g.T.Item.holds c.keeps_its_ledger.ensures c.args.world.now _ _ _ _ _ cell _ _ still c.at.ensures.world
            ((c.load-first.ensures.exact refl).1 ∙ c.at.ensures.world) c.at-2.ensures.world ((c.load-second.ensures.exact refl).1 ∙ c.at-2.ensures.world)
            (c.load-first.ensures.exact refl).0 c.load-first.ensures.shown (c.load-second.ensures.exact refl).0 c.load-second.ensures.shown
            ∙ sym c.as_ref-before.ensures.shown,
      );
}
