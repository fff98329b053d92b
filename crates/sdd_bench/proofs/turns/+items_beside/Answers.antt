use Rattle.sdd_space.specs.Owned.{slot_of}
use Rattle.sdd_bench.proofs.Leaving.{as-many, as-much, item-around}
use Rattle.sdd_bench.proofs.turns.+items_beside.Goals as goal

pub returns-in-Ok : goal.returns-in-Ok
returns-in-Ok g n c =
    let making = c.in-Ok.ensures in let retiring = c.retire.ensures in
    let world = g.S.Caller.world in
    item-around _ _ _ _ _ _ _ _ (world c.args.space.now) (world c.new.new.s) (world c.items_beside-done.new.space) (world c.retire.new.s)
    (slot_of c.in-Ok.owner) c.args.others
    making.undisturbed.caller making.undisturbed.own making.exact c.items_beside-done.ensures retiring.unmoved.caller retiring.own retiring.owned retiring.exact

pub returns-in-Err : goal.returns-in-Err
returns-in-Err g n c =
    let none = c.in-Err.ensures in
    record {
      caller = none.undisturbed.caller;
      guards = as-many none.undisturbed.own;
      kept = λ exact. as-much ((none.exact exact).2);
    }
