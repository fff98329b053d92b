use Rattle.std.proofs.Common.{◌≡◌, ◌+◌, ◌-◌, ◌%◌, ℕ, List, Some, sym, ap, ◌∙◌, arith}
use Rattle.std.specs.Prelude.{slice_get}
use Rattle.sdd_domain_invariant.specs.Codes.{named}
use Rattle.sdd_domain_invariant.proofs.Codes.{holds_none, holds_one}
use Rattle.sdd_domain_steps.proofs.cells.words.held_slot.Goals as goal

pub returns-then-slot-lt-UNNAMED-clause-held : goal.returns-then-slot-lt-UNNAMED-clause-held
returns-then-slot-lt-UNNAMED-clause-held c = let word : ℕ = c.args.word in let t = c.if-slot-lt-UNNAMED.true in
    let less : (named word + 4294967295) % 4294967296 ≡ named word - 1 = omega arith in
    ap (λ (slot : ℕ). Some slot) less ∙ sym (ap (λ (ys : List ℕ). slice_get ys 0) (holds_one word (named word - 1) (omega arith)))

pub returns-else-slot-lt-UNNAMED-clause-held : goal.returns-else-slot-lt-UNNAMED-clause-held
returns-else-slot-lt-UNNAMED-clause-held c = let f = c.if-slot-lt-UNNAMED.false in
    sym (ap (λ (ys : List ℕ). slice_get ys 0) (holds_none c.args.word (omega arith)))
