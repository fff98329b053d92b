use Rattle.std.proofs.Common.{◌≡◌, ◌++◌, take, vec_capacity}
use Rattle.sdd_participants.proofs.bags.pour.Given as goal

abbrev pub invariant-loop-what : goal.invariant-loop-what
invariant-loop-what l = (l.to.items ≡ l.fn.to.items ++ take l.what-index l.what-items) × (vec_capacity l.to ≡ vec_capacity l.fn.to)
