use Rattle.std.proofs.Common.{◌-◌, ℕ, List, sym, ap, arith}
use Rattle.std.specs.Prelude.{slice_get}
use Rattle.sdd_domain_invariant.specs.Codes.{named}
use Rattle.sdd_domain_invariant.proofs.Codes.{holds_none, holds_one}
use Rattle.sdd_domain_steps.proofs.cells.words.value_held.Goals as goal

pub returns-then-named-eq0-clause-held : goal.returns-then-named-eq0-clause-held
returns-then-named-eq0-clause-held c = let t = c.if-named-eq0.true in
    sym (ap (λ (ys : List ℕ). slice_get ys 0) (holds_none c.args.word (omega arith)))

pub returns-else-named-eq0-clause-held : goal.returns-else-named-eq0-clause-held
returns-else-named-eq0-clause-held c = let word : ℕ = c.args.word in let f = c.if-named-eq0.false in
    sym (ap (λ (ys : List ℕ). slice_get ys 0) (holds_one word (named word - 1) (omega arith)))
