use Rattle.sdd_interpreter.proofs.Words.{◌≡◌, ◌++◌, ℕ, List, Option, Entry, IsWalkOf, shown_of, Val, Body, Number, HasEntries, ShowsInOrder, map, steps_left}
use Rattle.sdd_interpreter.proofs.commands.containers.ListNumbersListCommand.done.Given as goal

-- the numbers so far are those that were shown, and the walk shows the others
abbrev pub invariant-loop-body : goal.invariant-loop-body
invariant-loop-body g l = record {
  caller : g.S.Caller.caller l.s ≡ g.S.Caller.caller l.fn.s;
  world : g.S.Caller.world l.s ≡ g.S.Caller.world l.fn.s;
  walk : IsWalkOf (g.S.Caller.caller l.fn.s).home.cells l.walk;
  shown : (es : List (Entry Val)) (second : Option ℕ) → HasEntries (g.S.Caller.world l.fn.s) l.fn.self.list es second →
      (vs : List Body) × ShowsInOrder (g.S.Caller.world l.s) l.walk vs × (shown_of es ≡ map Number l.numbers ++ vs);
}

abbrev pub decreases-loop-body : goal.decreases-loop-body
decreases-loop-body g l = steps_left l.walk
