use Rattle.std.proofs.Common.{◌≡◌, ◌≤◌, replicate, vec_len, vec_capacity}
use Rattle.sdd_participants.proofs.slab.copies.Given as goal

abbrev pub invariant-loop-place : goal.invariant-loop-place
invariant-loop-place g l = (l.entries.items ≡ replicate l._place l.entry) × (vec_len l.entries ≡ l._place) × (l.size ≤ vec_capacity l.entries)
