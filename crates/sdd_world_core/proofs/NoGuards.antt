-- Where no guard is open, nothing is lent
use Rattle.std.proofs.Common.{◌≡◌, ℕ, sym, ap, ◌∙◌, true, false, nat_lt, IsTrue}
use Rattle.sdd_participants.specs.EpochState.{is_open}
use Rattle.sdd_values.specs.Block.{IsUnlent}
use Rattle.sdd_world_model.specs.Loans.{Loans}
use Rattle.sdd_world_model.specs.World.{World, AnyGuardOpen, place_at}
use Rattle.sdd_world_model.proofs.AcceleratedReclaim.{all-closed, not-guarded}
use Rattle.sdd_world_core.specs.Lending.{HasReaders, AreLentOf}
use Rattle.sdd_world_core.proofs.Lending.{SameGuards, lent-keeps, all-home-quiet}

module _ {T : Type 0} where
  shut : (w : World T) → (AnyGuardOpen w → ⊥) → (p : ℕ) → IsTrue (is_open (place_at w p)) → ⊥
  shut w quiet p o = let never : false ≡ true = sym (all-closed w quiet p) ∙ o in absurd (cc)

  -- none is, while as many are at each place
  pub quiet-same : (u v : World T) → SameGuards u v → (AnyGuardOpen u → ⊥) → AnyGuardOpen v → ⊥
  quiet-same u v same quiet = not-guarded v (λ q. ap (λ (n : ℕ). nat_lt 0 n) (same q) ∙ all-closed u quiet q)

  -- nothing is lent
  pub home-quiet : (w : World T) (l : Loans) → AreLentOf w l → (AnyGuardOpen w → ⊥) → (k : ℕ) → IsUnlent l.fractions k
  home-quiet w l i quiet = all-home-quiet w l i (shut w quiet)

  -- and so it stays, whatever becomes of the items
  pub lent-quiet : (u v : World T) (l : Loans) → HasReaders v → SameGuards u v → (AnyGuardOpen u → ⊥) → AreLentOf u l → AreLentOf v l
  lent-quiet u v l readers same quiet i = lent-keeps u v l readers same (λ p k safe o. absurd (shut u quiet p safe.guarded)) i
