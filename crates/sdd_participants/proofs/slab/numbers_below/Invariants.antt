use Rattle.std.proofs.Common.{◌≡◌, ◌≤◌, vec_len, vec_capacity}
use Rattle.std.specs.List.{range_with_len}
use Rattle.sdd_participants.proofs.slab.numbers_below.Given as goal

abbrev pub invariant-loop-number : goal.invariant-loop-number
invariant-loop-number l = (l.numbers.items ≡ range_with_len 0 l.number) × (vec_len l.numbers ≡ l.number) × (l.size ≤ vec_capacity l.numbers)
