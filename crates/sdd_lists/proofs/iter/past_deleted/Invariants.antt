use Rattle.std.proofs.Common.{◌≡◌, ◌+◌, ◌≤◌, List, length}
use Rattle.std.specs.Prelude.{IfSome}
use Rattle.sdd_rights.specs.Right.{home_of}
use Rattle.sdd_space.specs.CallerId.{IsExact}
use Rattle.sdd_world_model.specs.Cells.{slot_held}
use Rattle.sdd_lists.specs.Entries.{link_of}
use Rattle.sdd_lists.specs.Lists.{AreLinked, Entry, first_slot, left}
use Rattle.sdd_lists.proofs.iter.past_deleted.Given as goal

-- what comes from here on is behind deleted entries alone
abbrev pub invariant-loop-step : goal.invariant-loop-step
invariant-loop-step g l = record {
  home : IfSome l.at (λ owner. home_of owner ≡ (g.S.Caller.caller l.s).home.slots);
  found : IsExact (g.S.Caller.caller l.s) → (es : List (Entry _)) → AreLinked link_of (g.S.Caller.world l.s) es → slot_held l.fn.held ≡ first_slot es →
      length es ≤ l.reach → (fs : List (Entry _)) × AreLinked link_of (g.S.Caller.world l.s) fs × (slot_held l.at ≡ first_slot fs) × (left fs ≡ left es) ×
      (length fs + l._step ≤ l.reach);
}
