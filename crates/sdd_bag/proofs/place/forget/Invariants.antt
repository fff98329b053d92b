use Rattle.std.proofs.Common.{◌≡◌, drop}
use Rattle.sdd_bag.proofs.place.forget.Given as goal

abbrev pub invariant-loop-done : goal.invariant-loop-done
invariant-loop-done g l = l.keys.kept ≡ drop l.done l.initial.keys.kept
