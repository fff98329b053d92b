use Rattle.std.proofs.Common.{◌≡◌, List}
use Rattle.std.specs.Iterator.{Yields}
use Rattle.sdd_space.specs.CallerId.{IsExact}
use Rattle.sdd_world_model.specs.KnownEpochs.{KnowsOn}
use Rattle.sdd_world_model.specs.ParticipantChanges.{KeepsMoreWaiting}
use Rattle.sdd_space.specs.Ptr.{KeepsShown}
use Rattle.sdd_lists.specs.Filling.{FillsStack}
use Rattle.sdd_lists.specs.Lists.{Entry}
use Rattle.sdd_lists.specs.Stack.{IsStack, cell_in}
use Rattle.sdd_lists.proofs.stack.Stack.add_all.Given as goal

-- what the iterator gave fills the stack
abbrev pub invariant-loop-value : goal.invariant-loop-value
invariant-loop-value g l = record {
  caller : g.S.Caller.caller l.s ≡ g.S.Caller.caller l.initial.s;
  own : KeepsMoreWaiting (g.S.Caller.own l.initial.s) (g.S.Caller.own l.s);
  known : KnowsOn (g.S.Caller.known l.initial.s) (g.S.Caller.known l.s);
  keeps : KeepsShown (g.S.Shows.shows l.initial.s) (g.S.Shows.shows l.s);
  list : IsExact (g.S.Caller.caller l.initial.s) → (es : List (Entry _)) → IsStack (g.S.Caller.world l.initial.s) (cell_in l.self) es →
      (xs : List _) × (fs : List (Entry _)) × Yields g.I.Iterator.next_gives l.initial.items xs l.items ×
      FillsStack (g.S.Caller.caller l.initial.s).place (cell_in l.self) (g.S.Caller.world l.initial.s) es xs (g.S.Caller.world l.s) fs;
}
