use Rattle.std.proofs.Common.{ap, ℕ, Option, Some, None}
use Rattle.std.specs.Prelude.{MatchOption}
use Rattle.std.proofs.lemmas.Result.{MatchResult-weaker}
use Rattle.sdd_world_core.specs.WorldCore.{WorldCore}
use Rattle.sdd_world.proofs.turn.TurnCells.clone_cell.Goals as goal

held-on : {P Q : Type 0} {R S : ℕ → Type 0} (held : Option ℕ) → MatchOption held P R → (P → Q) → ((k : ℕ) → R k → S k) → MatchOption held Q S
held-on None h empty full = empty h
held-on (Some k) h empty full = full k h

-- what the world's core did is what its cells show
pub returns-clause-exact : goal.returns-clause-exact
returns-clause-exact g c = λ _.
    let copied = c.clone_cell.ensures.copied in
    rw (← c.world.view_is) (
      copied.0,
      copied.1,
      MatchResult-weaker c.clone_cell.result copied.2
          (λ other h. (h.0, held-on copied.0.held h.1 (ap (λ (x : WorldCore _ _). x.world)) (λ k s. (s.0, s.1, s.2, ap (λ (x : WorldCore _ _). x.world) s.3))))
          (λ e h. (ap (λ (x : WorldCore _ _). x.world) h.0, h.1)),
    )
