-- A table in which nothing is taken isn't full
use Rattle.std.proofs.Common.{◌≡◌, ℕ, zero, suc, ◌<◌, List, None, length, replicate, slice_index_or, ap, subst, arith}
use Rattle.std.specs.Prelude.{Option, All, IsSome}

pub full_is_not_blank : (A : Type 0) (n : ℕ) (ss : List (Option A)) → ss ≡ replicate n None → 0 < n → All (λ (s : Option A). IsSome s) ss → ⊥
full_is_not_blank A zero ss blank some_there full = absurd (omega arith)
full_is_not_blank A (suc n) ss blank some_there full = let long = ap length blank in
    let none : IsSome {T = A} None = subst (λ (l : List (Option A)). IsSome (slice_index_or l 0 None)) blank (full 0 None (omega arith)) in absurd cc
