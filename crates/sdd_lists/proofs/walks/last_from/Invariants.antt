use Rattle.std.proofs.Common.{◌≡◌, ◌+◌, ◌≤◌, List, ◌∷◌, Some, length, false}
use Rattle.sdd_space.specs.CallerId.{IsExact}
use Rattle.sdd_world_model.specs.KnownEpochs.{KnowsOn}
use Rattle.sdd_space.specs.Ptr.{PtrIsShown, shown_by, KeepsShown}
use Rattle.sdd_space.specs.Shared.{cell_of, cells_home}
use Rattle.sdd_lists.specs.Ends.{EndsWith}
use Rattle.sdd_lists.specs.Lists.{AreLinked, Entry, is_deleted}
use Rattle.sdd_lists.proofs.walks.last_from.Given as goal

-- the entry that is looked at isn't deleted, and fewer follow than are still to be looked at
abbrev pub invariant-loop-step : goal.invariant-loop-step
invariant-loop-step g l = record {
  caller : g.S.Caller.caller l.s ≡ g.S.Caller.caller l.fn.s;
  own : g.S.Caller.own l.s ≡ g.S.Caller.own l.fn.s;
  known : KnowsOn (g.S.Caller.known l.fn.s) (g.S.Caller.known l.s);
  keeps : KeepsShown (g.S.Shows.shows l.fn.s) (g.S.Shows.shows l.s);
  world : IsExact (g.S.Caller.caller l.fn.s) → g.S.Caller.world l.s ≡ g.S.Caller.world l.fn.s;
  home : cells_home l.at.link.now ≡ (g.S.Caller.caller l.fn.s).home.cells;
  link : cell_of l.at.link.now ≡ g.T.LinkedList.link l.at.entry.now;
  shown : PtrIsShown (g.S.Shows.shows l.s) l.at.ptr;
  value : shown_by l.at.ptr ≡ Some l.at.entry.now;
  found : IsExact (g.S.Caller.caller l.fn.s) → (es : List (Entry _)) → AreLinked g.T.LinkedList.link (g.S.Caller.world l.fn.s) es →
      (e : Entry _) (rest : List (Entry _)) → EndsWith es e rest → is_deleted e ≡ false → l.fn.front.entry.now ≡ e.value →
      (x : Entry _) × (xs : List (Entry _)) × EndsWith es x xs × (is_deleted x ≡ false) × (l.at.entry.now ≡ x.value) ×
      (length (x ∷ xs) + l._step ≤ l.most);
}
