use Rattle.std.proofs.Common.{ℕ, ◌+◌, get_or, arith, sym, ◌∙◌, length-drop}
use Rattle.sdd_participants.specs.declared.waiting.LimboEntry.{LimboEntry}
use Rattle.sdd_participants.proofs.Places.{without-drop}
use Rattle.sdd_world_model.proofs.WaitingCounts.{FreesOne-reclaimed, FreesOne-sizes, KeepsSizes-trans, all_reclaimed-drop}
use Rattle.sdd_world_core.proofs.world_core.WorldCore.reclaim_all.Goals as goal

pub loop-what-preserved : goal.loop-what-preserved
loop-what-preserved g c =
    let i : ℕ = c.loop-what.what-index in
    let what : LimboEntry = get_or c.args.due.now i c.what-item.result in
    let step = FreesOne-reclaimed g.T.Item.holds c.loop-what.self.world c.args.place what c.loop-what.invariant.place in
    let here = length-drop i c.args.due.now in
    let after = length-drop (i + 1) c.args.due.now in
    rw (c.reclaim.ensures, c.what-item.is) (record {
      rest = sym (all_reclaimed-drop g.T.Item.holds c.loop-what.self.world c.args.place c.args.due.now i _ c.loop-what-test.true) ∙ c.loop-what.invariant.rest;
      room = omega (arith, step.weight_grows, step.slots_same, step.jobs_same, here, after, c.loop-what.invariant.room, c.loop-what-test.true);
      place = omega (arith, step.places_same, c.loop-what.invariant.place);
      sizes = KeepsSizes-trans c.loop-what.invariant.sizes (FreesOne-sizes step);
      lending = c.loop-what.invariant.lending;
      jobs = sym (without-drop c.loop-what.self.deferred c.args.due.now i _ c.loop-what-test.true) ∙ c.loop-what.invariant.jobs;
    })
