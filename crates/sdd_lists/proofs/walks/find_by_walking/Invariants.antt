use Rattle.std.proofs.Common.{◌≡◌, ◌+◌, ◌≤◌, ℕ, List, ◌∷◌, Some, length}
use Rattle.sdd_participants.specs.declared.standing.CellContents.{CellContents}
use Rattle.sdd_space.specs.CallerId.{IsExact}
use Rattle.sdd_world_model.specs.Slots.{IsSharedBy}
use Rattle.sdd_world_model.specs.KnownEpochs.{KnowsOn}
use Rattle.sdd_space.specs.Ptr.{PtrIsShown, shown_by, KeepsShown, slot_named}
use Rattle.sdd_space.specs.Shared.{cell_of, cells_home}
use Rattle.sdd_participants.specs.Slab.{entry_at}
use Rattle.sdd_world_model.specs.World.{standing_at}
use Rattle.sdd_lists.specs.Lists.{AreLinked, Entry, first_slot, left}
use Rattle.sdd_lists.proofs.walks.find_by_walking.Given as goal

-- the entry that is looked at comes behind deleted ones alone
abbrev pub invariant-loop-step : goal.invariant-loop-step
invariant-loop-step g l = record {
  caller : g.S.Caller.caller l.s ≡ g.S.Caller.caller l.fn.s;
  own : g.S.Caller.own l.s ≡ g.S.Caller.own l.fn.s;
  known : KnowsOn (g.S.Caller.known l.fn.s) (g.S.Caller.known l.s);
  link : cell_of l.at.link.now ≡ g.T.LinkedList.link l.at.entry.now;
  shown : PtrIsShown (g.S.Shows.shows l.s) l.at.ptr;
  value : shown_by l.at.ptr ≡ Some l.at.entry.now;
  keeps : KeepsShown (g.S.Shows.shows l.fn.s) (g.S.Shows.shows l.s);
  world : IsExact (g.S.Caller.caller l.fn.s) → g.S.Caller.world l.s ≡ g.S.Caller.world l.fn.s;
  home : cells_home l.at.link.now ≡ (g.S.Caller.caller l.fn.s).home.cells;
  found : IsExact (g.S.Caller.caller l.fn.s) → (es : List (Entry _)) → AreLinked g.T.LinkedList.link (g.S.Caller.world l.fn.s) es → (held : CellContents) →
      entry_at (g.S.Caller.world l.fn.s).cells (cell_of l.cell) ≡ Some held → held.held ≡ first_slot es →
      (e : Entry _) × (rest : List (Entry _)) × AreLinked g.T.LinkedList.link (g.S.Caller.world l.fn.s) (e ∷ rest) × (left (e ∷ rest) ≡ left es) ×
      (slot_named l.at.ptr ≡ Some e.slot) × (l.at.entry.now ≡ e.value) ×
      ((n : ℕ) × IsSharedBy n (standing_at (g.S.Caller.world l.fn.s) e.slot)) × (length (e ∷ rest) + l._step ≤ l.most);
}
