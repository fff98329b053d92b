use Rattle.sdd_space.specs.Owned.{slot_of}
use Rattle.sdd_bench.proofs.Leaving.{as-many, as-much, in-turn, under-guard, item-leaves}
use Rattle.sdd_bench.proofs.turns.items.Goals as goal

pub returns-in-Err : goal.returns-in-Err
returns-in-Err g c =
    let opening = c.in_ok-guard.ensures in let none = c.in-Err.ensures in let closing = c.close.ensures in
    let own = g.S.Caller.own in let world = g.S.Caller.world in
    in-turn _ _ _ _ _ _ _ _ _ c.loop-turn.invariant
    (under-guard _ _ _ _ _ (own c.new.new.s) (own c.new-in-loop-turn.new.s) _ _ (world c.new.new.s) (world c.new-in-loop-turn.new.s) _
    opening.caller opening.own.1 (λ exact. (opening.exact exact).1)
    (record {
      caller = none.undisturbed.caller;
      guards = as-many none.undisturbed.own;
      kept = λ exact. as-much ((none.exact exact).2);
    })
    closing.caller closing.own closing.exact)

pub loop-turn-preserved : goal.loop-turn-preserved
loop-turn-preserved g c =
    let opening = c.in_ok-guard.ensures in let making = c.in-Ok.ensures in
    let retiring = c.retire.ensures in let closing = c.close-in-loop-turn.ensures in
    let own = g.S.Caller.own in let world = g.S.Caller.world in
    in-turn _ _ _ _ _ _ _ _ _ c.loop-turn.invariant
    (under-guard _ _ _ _ _ (own c.new.new.s) (own c.retire.new.s) _ _ (world c.new.new.s) (world c.retire.new.s) _
    opening.caller opening.own.1 (λ exact. (opening.exact exact).1)
    (item-leaves _ _ _ _ _ _ (world c.new.new.s) (world c.new-in-loop-turn.new.s) (world c.retire.new.s) (slot_of c.in-Ok.owner) c.loop-turn.turn
    making.undisturbed.caller making.undisturbed.own making.exact retiring.unmoved.caller retiring.own retiring.exact)
    closing.caller closing.own closing.exact)
