use Rattle.std.proofs.Common.{◌≡◌, ◌+◌, ◌≤◌, List, length}
use Rattle.sdd_space.specs.CallerId.{IsExact}
use Rattle.sdd_world_model.specs.KnownEpochs.{KnowsOn}
use Rattle.sdd_world_model.specs.ParticipantChanges.{KeepsMoreWaiting}
use Rattle.sdd_space.specs.Ptr.{KeepsShown}
use Rattle.sdd_space.specs.Shared.{cell_of}
use Rattle.sdd_core.specs.declared.tag.Tag.{Tag}
use Rattle.sdd_lists.specs.Lists.{Entry, IsList, emptied}
use Rattle.sdd_lists.proofs.moves.let_go_of_all.Given as goal

-- what is left of a list is a list, and letting go of it comes to the same
abbrev pub invariant-loop-step : goal.invariant-loop-step
invariant-loop-step g l = record {
  caller : g.S.Caller.caller l.s ≡ g.S.Caller.caller l.initial.s;
  own : KeepsMoreWaiting (g.S.Caller.own l.initial.s) (g.S.Caller.own l.s);
  known : KnowsOn (g.S.Caller.known l.initial.s) (g.S.Caller.known l.s);
  keeps : KeepsShown (g.S.Shows.shows l.initial.s) (g.S.Shows.shows l.s);
  list : IsExact (g.S.Caller.caller l.initial.s) → (t : Tag) (es : List (Entry _)) →
      IsList g.T.LinkedList.link (g.S.Caller.world l.initial.s) (cell_of l.cell) t es →
      (now : List (Entry _)) × IsList g.T.LinkedList.link (g.S.Caller.world l.s) (cell_of l.cell) t now ×
      (emptied g.T.LinkedList.link (g.S.Caller.world l.s) (g.S.Caller.caller l.initial.s).place (cell_of l.cell) t now ≡
      emptied g.T.LinkedList.link (g.S.Caller.world l.initial.s) (g.S.Caller.caller l.initial.s).place (cell_of l.cell) t es) ×
      (length now + l._step ≤ l.most);
}
