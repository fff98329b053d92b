use Rattle.std.proofs.Common.{◌≡◌, ◌++◌, take, vec_capacity}
use Rattle.std.specs.Prelude.{filter}
use Rattle.sdd_participants.specs.Collecting.{is_kept_for}
use Rattle.sdd_participants.proofs.bags.copy_kept.Given as goal

abbrev pub invariant-loop-what : goal.invariant-loop-what
invariant-loop-what g l =
    (l.to.items ≡ l.fn.to.items ++ filter (is_kept_for l.collector (g.S.StandingLookup.standings l.standings)) (take l.what-index l.from))
    × (vec_capacity l.to ≡ vec_capacity l.fn.to)
