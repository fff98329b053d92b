use Rattle.std.proofs.Common.{◌≡◌, ◌<◌, ℕ, Option, None, slice_index_or}
use Rattle.core.specs.Mem.Slots.{slots_items, slots_filled, slots_ptr, slots_len}
use Rattle.core.specs.Mem.Slots.Ownership.{Filled}
use Rattle.sdd_values.proofs.lent_values.empty.Given as goal

abbrev pub invariant-loop-at : goal.invariant-loop-at
invariant-loop-at g l = record {
  none : (k : ℕ) (d : Option g.row.T.Denot) → k < l.at → slice_index_or (slots_items l.row) k d ≡ None;
  filled : Filled (slots_filled l.row) 0 l.at;
  ptr : slots_ptr l.row ≡ slots_ptr l.fn.row;
  len : slots_len l.row ≡ slots_len l.fn.row;
}
