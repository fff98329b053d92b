use Rattle.std.proofs.Common.{◌≡◌, ℕ, suc, ◌+◌, ◌*◌, ◌∙◌, arith}
use Rattle.sdd_domain_invariant.specs.Fractions.FractionsAtHome.{fraction_at}
use Rattle.sdd_atomics.specs.DomainTable.{places_of}
use Rattle.sdd_atomics.proofs.domain_table.DomainTable.last_home.Goals as goal

pub returns : goal.returns
unfolding fraction_at
returns c = let n : ℕ = places_of c.args.self.now in let e : n + 1 ≡ suc n = omega arith in
    (λ d. c.args.slot * (c.places.ensures d + 1) + c.places-2.ensures d) ∙ (λ d. c.args.slot * e d + n)
