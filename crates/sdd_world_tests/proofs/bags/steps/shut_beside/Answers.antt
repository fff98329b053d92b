use Rattle.std.proofs.Common.{sym, subst}
use Rattle.sdd_space.specs.CallerId.{CallerId}
use Rattle.sdd_world_model.specs.World.{World}
use Rattle.sdd_lists.specs.declared.linked_entry.LinkedEntry.{LinkedEntry}
use Rattle.sdd_bag.specs.Bag.{IsBag, IsOfCells}
use Rattle.sdd_world_tests.proofs.bags.steps.shut_beside.Goals as goal

pub returns-clause-there : goal.returns-clause-there
returns-clause-there g c =
    let shown = g.B.Shelf.shown in let len = g.row.LEN in let bag = c.args.bag.now in let there = c.requires.there in
    let caller = g.S.Caller.caller c.args.s.now in let world = g.S.Caller.world c.args.s.now in
    record {
      home = subst (λ (id : CallerId). IsOfCells id.home.cells bag) (sym c.close.ensures.caller) there.home;
      lies = subst (λ (w : World (LinkedEntry g.row.B.Denot)). IsBag shown len w bag) (sym (c.close.ensures.exact c.requires.may.exact))
          (c.stays_at_close.ensures.bag world caller.place there.lies);
    }
