use Rattle.std.proofs.Common.{◌≡◌, ◌++◌, ℕ, List, Option}
use Rattle.std.specs.List.{AllZip}
use Rattle.sdd_space.specs.CallerId.{IsExact}
use Rattle.sdd_world_model.specs.KnownEpochs.{KnowsOn}
use Rattle.sdd_world_model.specs.ParticipantChanges.{KeepsMoreWaiting}
use Rattle.sdd_space.specs.Ptr.{KeepsShown}
use Rattle.sdd_lists.specs.Cloning.{AreBeside, IsQueueBeside}
use Rattle.sdd_lists.specs.Entries.{link_of}
use Rattle.sdd_lists.specs.Lists.{Entry}
use Rattle.sdd_lists.specs.Queue.{IsQueue, QueueCells, cells_in}
use Rattle.sdd_lists.specs.QueueFilling.{FillsQueue}
use Rattle.sdd_lists.specs.Walk.{IsWalkOf, StandsBefore, shown_of, steps_left}
use Rattle.sdd_lists.proofs.queue.Queue.add_clones.Given as goal

-- clones of what was shown fill the queue, and the walk stands before the rest
abbrev pub invariant-loop-value : goal.invariant-loop-value
invariant-loop-value g l = record {
  caller : g.S.Caller.caller l.s ≡ g.S.Caller.caller l.initial.s;
  own : KeepsMoreWaiting (g.S.Caller.own l.initial.s) (g.S.Caller.own l.s);
  known : KnowsOn (g.S.Caller.known l.initial.s) (g.S.Caller.known l.s);
  keeps : KeepsShown (g.S.Shows.shows l.initial.s) (g.S.Shows.shows l.s);
  walk : IsWalkOf (g.S.Caller.caller l.initial.s).home.cells l.walk;
  list : IsExact (g.S.Caller.caller l.initial.s) → (es : List (Entry _)) (second : Option ℕ) →
      IsQueue link_of (g.S.Caller.world l.initial.s) (cells_in l.self) es second → (from : QueueCells) (now fs : List (Entry _)) (held : Option ℕ) →
      StandsBefore (g.S.Caller.world l.initial.s) l.initial.walk now → AreBeside now (cells_in l.self) es →
      IsQueueBeside (g.S.Caller.world l.initial.s) from fs held (cells_in l.self) es →
      (rest : List (Entry _)) × (first xs : List _) × (gs : List (Entry _)) × (holds : Option ℕ) × StandsBefore (g.S.Caller.world l.s) l.walk rest ×
      AreBeside rest (cells_in l.self) gs × (shown_of now ≡ first ++ shown_of rest) ×
      AllZip g.T.CloneValue.is_clone first xs ×
      FillsQueue (g.S.Caller.caller l.initial.s).place (cells_in l.self) (g.S.Caller.world l.initial.s) es second xs (g.S.Caller.world l.s) gs holds ×
      IsQueueBeside (g.S.Caller.world l.s) from fs held (cells_in l.self) gs;
}

abbrev pub decreases-loop-value : goal.decreases-loop-value
decreases-loop-value g l = steps_left l.walk
