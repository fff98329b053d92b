use Rattle.std.proofs.Common.{◌∙◌}
use Rattle.sdd_space.specs.CallerId.{IsExact}
use Rattle.sdd_world_model.specs.WorldChanges.{opened}
use Rattle.sdd_examples.proofs.work_under_guards.looked_at.Goals as goal

pub returns-in_default-clause-works : goal.returns-in_default-clause-works
returns-in_default-clause-works g c = rw (c.in_default.ensures.exact c.requires.exact).2 (c.calls_are_work.ensures.nothing _)

pub returns-clause-works : goal.returns-clause-works
returns-clause-works g c =
    let caller = g.S.Caller.caller in let law = c.calls_are_work.ensures in
    let start = g.S.Caller.world c.args.s.now in
    let opens = (c.in-Ok.ensures.exact c.requires.exact).1 in
    let first : IsExact (caller c.new.new.s) = rw c.in-Ok.ensures.caller c.requires.exact in
    let same = c.load-seen.ensures.undisturbed.caller ∙ c.in-Ok.ensures.caller in
    let second : IsExact (caller c.load-seen.new.s) = rw same c.requires.exact in
    let inside = opened g.T.Item.holds start (caller c.args.s.now).place in
    rw (c.close.ensures.exact second, (c.load-seen.ensures.exact first).1, opens, same)
    (law.guarding start inside (caller c.args.s.now).place c.requires.place (law.nothing inside))
