-- Shared values may cross threads where each of them may.
use Rattle.std.proofs.Common.{ℕ, zero, suc, ◌+◌, [], ◌∷◌}
use Rattle.std.specs.Prelude.{Option, None, Some}
use base.Shift.{Keyless}
use denote.RattleType.{RattleType}
use denote.Memory.{mem}
use denote.RawPtr.{Ptr, block_ptr, null_ptr, block_of, count_of}
use denote.Param.Send.{IsSend, IsSync}
use Rattle.std_alloc.proofs.SendSync.{lies, seen}
use Rattle.sdd_shared_values.specs.SharedValues.{vacancy, state, rule, rules, values_owns}
use base.Stored.{Gv}
use types.Keyed.{entry_keyless}
use Rattle.atomic_table.specs.Seated.{halved}
use Rattle.sdd_shared_values.specs.ValueFractions.{part}

part_Keyless : (γ i a : ℕ) (g : Gv) (n : ℕ) → Keyless (part γ i a g n)
part_Keyless γ i a g n = ((λ q c. entry_keyless halved γ i _), (λ q c. tt))

room : (R : RattleType) (p : Ptr) → Keyless (vacancy R p)
room R (block_ptr b o) = tt
room R null_ptr = tt

module _ (R : RattleType) (FitsIn : R.Denot → Type 0) (s : IsSend R) (y : IsSync R) (p : Ptr) (γ i : ℕ) where
  state_Keyless : (v : Option (Option (ℕ × R.Denot))) → Keyless (state R p γ i FitsIn v)
  state_Keyless None = λ a. part_Keyless γ i a _ 1
  state_Keyless (Some None) = λ a. (part_Keyless γ i a _ 1, room R p)
  state_Keyless (Some (Some v)) = ((λ _. tt), (part_Keyless γ i v.0 _ 1, (seen R y p v.1 (v.0 ∷ []), lies R s p v.1)))

  rule_Keyless : Keyless (rule R p γ i FitsIn)
  rule_Keyless = state_Keyless

module _ (R : RattleType) (FitsIn : R.Denot → Type 0) (s : IsSend R) (y : IsSync R) where
  rules_Keyless : (b γ n i o : ℕ) → Keyless (rules R b γ FitsIn n i o)
  rules_Keyless b γ zero i o = tt
  rules_Keyless b γ (suc n) i o = (rule_Keyless R FitsIn s y (block_ptr b o) γ i, rules_Keyless b γ n (suc i) (o + (mem R).size))

  pub values_Keyless : (p : Ptr) (γ n : ℕ) → Keyless (values_owns R FitsIn p γ n)
  values_Keyless p γ n = ((λ _. tt), rules_Keyless (block_of p) γ n 0 (count_of p))
