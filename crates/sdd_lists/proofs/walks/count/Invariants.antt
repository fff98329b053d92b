use Rattle.std.proofs.Common.{◌≡◌, ◌+◌, ◌≤◌, List, ◌∷◌, length}
use Rattle.sdd_space.specs.CallerId.{IsExact}
use Rattle.sdd_world_model.specs.KnownEpochs.{KnowsOn}
use Rattle.sdd_space.specs.Ptr.{KeepsShown}
use Rattle.sdd_space.specs.Shared.{cell_of, cells_home}
use Rattle.sdd_core.specs.declared.tag.Tag.{Tag}
use Rattle.sdd_lists.specs.Lists.{AreLinked, Entry, IsList, content}
use Rattle.sdd_lists.proofs.walks.count.Given as goal

-- what was counted, and what there is from the entry that is looked at on, are all
abbrev pub invariant-loop-step : goal.invariant-loop-step
invariant-loop-step g l = record {
  caller : g.S.Caller.caller l.s ≡ g.S.Caller.caller l.fn.s;
  own : g.S.Caller.own l.s ≡ g.S.Caller.own l.fn.s;
  known : KnowsOn (g.S.Caller.known l.fn.s) (g.S.Caller.known l.s);
  keeps : KeepsShown (g.S.Shows.shows l.fn.s) (g.S.Shows.shows l.s);
  world : IsExact (g.S.Caller.caller l.fn.s) → g.S.Caller.world l.s ≡ g.S.Caller.world l.fn.s;
  home : cells_home l.at.link.now ≡ (g.S.Caller.caller l.fn.s).home.cells;
  link : cell_of l.at.link.now ≡ g.T.LinkedList.link l.at.entry.now;
  few : l.count ≤ l._step;
  found : IsExact (g.S.Caller.caller l.fn.s) → (t : Tag) (es : List (Entry _)) →
      IsList g.T.LinkedList.link (g.S.Caller.world l.fn.s) (cell_of l.cell) t es →
      (e : Entry _) × (rest : List (Entry _)) × AreLinked g.T.LinkedList.link (g.S.Caller.world l.fn.s) (e ∷ rest) ×
      (l.count + length (content (e ∷ rest)) ≡ length (content es)) × (l.at.entry.now ≡ e.value) × (length (e ∷ rest) + l._step ≤ l.most);
}
