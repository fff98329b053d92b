-- A slot shows one value
use Rattle.std.specs.Prelude.{ℕ, ◌≡◌, Option, Some}
use Rattle.std.proofs.Common.{ap, sym, ◌∙◌, unwrap_or}
use Rattle.sdd_world_model.specs.World.{World, value_at}

pub one_value : {T : Type 0} (w : World T) (k : ℕ) (u v : T) → value_at w k ≡ Some u → value_at w k ≡ Some v → u ≡ v
one_value {T} w k u v a b = ap (λ (o : Option T). unwrap_or o u) (sym a ∙ b)
