use Rattle.std.proofs.Common.{ap, arith, length, length-append, length-take, take}
use Rattle.std.specs.Prelude.{filter}
use Rattle.sdd_participants.specs.Collecting.{is_kept_for}
use Rattle.sdd_participants.proofs.Collecting.{filter-within}
use Rattle.sdd_participants.proofs.bags.copy_kept.Goals as goal

pub push_reserved-requires : goal.push_reserved-requires
push_reserved-requires g c =
    let chosen = is_kept_for c.args.collector (g.S.StandingLookup.standings c.args.standings.now) in
    let so_far = take c.loop-what.what-index c.args.from.now in
    let copied = ap length c.loop-what.invariant.0 in
    let both = length-append c.args.to.now.items (filter chosen so_far) in
    let few = filter-within chosen so_far in
    let long = length-take c.loop-what.what-index c.args.from.now in
    omega (arith, copied, both, few, long, c.loop-what-test.true, c.requires, c.loop-what.invariant.1, c.loop-what.auto.what-index-end)
