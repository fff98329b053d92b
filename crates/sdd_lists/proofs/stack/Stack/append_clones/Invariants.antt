use Rattle.std.proofs.Common.{◌≡◌, ◌++◌, ℕ, List, []}
use Rattle.std.specs.Prelude.{IfSome}
use Rattle.std.specs.List.{AllZip}
use Rattle.sdd_space.specs.CallerId.{IsExact}
use Rattle.sdd_world_model.specs.KnownEpochs.{KnowsOn}
use Rattle.sdd_world_model.specs.ParticipantChanges.{KeepsMoreWaiting}
use Rattle.sdd_space.specs.Ptr.{KeepsShown}
use Rattle.sdd_space.specs.Shared.{cells_home}
use Rattle.sdd_lists.specs.Cloning.{AreBeside}
use Rattle.sdd_lists.specs.Entries.{link_of}
use Rattle.sdd_lists.specs.Lists.{Entry}
use Rattle.sdd_lists.specs.Stack.{IsStack, cell_in}
use Rattle.sdd_lists.specs.StackCloning.{ExtendsStack, IsStackBeside, LastIs, both}
use Rattle.sdd_lists.specs.Walk.{IsWalkOf, StandsBefore, shown_of, steps_left}
use Rattle.sdd_lists.proofs.stack.Stack.append_clones.Given as goal

-- clones of what was shown are in the stack, and the walk stands before the rest
abbrev pub invariant-loop-value : goal.invariant-loop-value
invariant-loop-value g l = record {
  caller : g.S.Caller.caller l.s ≡ g.S.Caller.caller l.initial.s;
  own : KeepsMoreWaiting (g.S.Caller.own l.initial.s) (g.S.Caller.own l.s);
  known : KnowsOn (g.S.Caller.known l.initial.s) (g.S.Caller.known l.s);
  keeps : KeepsShown (g.S.Shows.shows l.initial.s) (g.S.Shows.shows l.s);
  walk : IsWalkOf (g.S.Caller.caller l.initial.s).home.cells l.walk;
  front : IfSome l.last (λ f. cells_home f.link.now ≡ (g.S.Caller.caller l.initial.s).home.cells);
  list : IsExact (g.S.Caller.caller l.initial.s) → IsStack (g.S.Caller.world l.initial.s) (cell_in l.self) [] → (from : ℕ) (now fs : List (Entry _)) →
      StandsBefore (g.S.Caller.world l.initial.s) l.initial.walk now → AreBeside now (both (cell_in l.self)) [] →
      IsStackBeside (g.S.Caller.world l.initial.s) from fs (cell_in l.self) [] →
      (rest : List (Entry _)) × (first xs : List _) × (gs : List (Entry _)) × StandsBefore (g.S.Caller.world l.s) l.walk rest ×
      AreBeside rest (both (cell_in l.self)) gs × (shown_of now ≡ first ++ shown_of rest) ×
      AllZip g.T.CloneValue.is_clone first xs ×
      ExtendsStack (g.S.Caller.caller l.initial.s).place (cell_in l.self) (g.S.Caller.world l.initial.s) [] xs (g.S.Caller.world l.s) gs ×
      IsStackBeside (g.S.Caller.world l.s) from fs (cell_in l.self) gs × LastIs link_of l.last gs;
}

abbrev pub decreases-loop-value : goal.decreases-loop-value
decreases-loop-value g l = steps_left l.walk
