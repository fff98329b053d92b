use Rattle.std.proofs.Common.{◌≡◌, ℕ, List, None, get_or, set, sym, ap, ◌∙◌, subst}
use Rattle.std.specs.Prelude.{Option}
use lib.Seq.{set-get_or}
use Rattle.sdd_domain_steps.specs.PrivateTable.{PrivateEntries}
use Rattle.sdd_domain_steps.proofs.collectors.private_table.PrivateTable.take.Goals as goal

-- nothing was put in yet, and nothing is taken
pub returns-then-self-clause-taken : goal.returns-then-self-clause-taken
returns-then-self-clause-taken c = let table : List (Option ℕ) = c.args.self.now.entries in let slot : ℕ = c.args.slot in
    let none : get_or table slot None ≡ None
    = subst (λ (t : List (Option ℕ)). get_or t slot None ≡ None) (ap (λ (m : PrivateEntries). m.entries) c.self.view_is)
    (c.self.invariant c.if-self.true slot) in
    sym (ap (set table slot) (sym none) ∙ set-get_or table slot None)
