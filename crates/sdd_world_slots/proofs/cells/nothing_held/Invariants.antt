use Rattle.std.proofs.Common.{◌≡◌, ◌≤◌, vec_len, vec_capacity, replicate, None}
use Rattle.sdd_world_model.specs.Cells.{null_pointer}
use Rattle.sdd_world_slots.proofs.cells.nothing_held.Given as goal

abbrev pub invariant-loop-cell : goal.invariant-loop-cell
invariant-loop-cell l = record {
  held_len : vec_len l.held ≡ l._cell;
  held_room : l.size ≤ vec_capacity l.held;
  none : l.held.items ≡ replicate l._cell None;
  pointers_len : vec_len l.pointers ≡ l._cell;
  pointers_room : l.size ≤ vec_capacity l.pointers;
  null : l.pointers.items ≡ replicate l._cell null_pointer;
}
