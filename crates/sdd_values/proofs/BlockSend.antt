-- A block may cross threads where its values may.
use Rattle.std.proofs.Common.{ℕ, ◌+◌, List, [], ◌∷◌}
use Rattle.std.specs.Prelude.{Option, None, Some}
use base.Fml.{Lft}
use base.Shift.{Keyless}
use denote.RattleType.{RattleType}
use denote.Memory.{mem}
use denote.RawPtr.{Ptr, block_ptr, block_of, count_of}
use denote.Param.Send.{IsSend, IsSync}
use Rattle.std_alloc.proofs.SendSync.{lies, seen}
use Rattle.sdd_values.specs.Block.{fraction, fractions_of, held, held_shares, spots, spots_shares, block_owns, block_shares}

fraction_Keyless : (a : ℕ) (s : Option ℕ) → Keyless (fraction a s)
fraction_Keyless a None = λ q c. tt
fraction_Keyless a (Some t) = ((λ q. tt), (λ q c. tt))

fractions_Keyless : (a : ℕ) (fractions : List (Option ℕ)) → Keyless (fractions_of a fractions)
fractions_Keyless a [] = tt
fractions_Keyless a (s ∷ fractions) = (fraction_Keyless a s, fractions_Keyless a fractions)

module _ (R : RattleType) (s : IsSend R) (y : IsSync R) where
  held_Keyless : (p : Ptr) (x : R.Denot) (fractions : List (Option ℕ)) (h : Option ℕ) → Keyless (held R p x fractions h)
  held_Keyless p x fractions None = (lies R s p x, (λ _. tt))
  held_Keyless p x fractions (Some a) = ((seen R y p x (a ∷ []), lies R s p x), ((λ q c. tt), fractions_Keyless a fractions))

  spots_Keyless : (b o : ℕ) (xs : List R.Denot) (ss : List (List (Option ℕ))) → Keyless (spots R b o xs ss)
  spots_Keyless b o [] ss = tt
  spots_Keyless b o (x ∷ xs) [] = tt
  spots_Keyless b o (x ∷ xs) (fractions ∷ ss) = (((λ h. held_Keyless (block_ptr b o) x fractions h), (λ _. tt)), spots_Keyless b (o + (mem R).size) xs ss)

  pub block_Keyless : (p : Ptr) (xs : List R.Denot) (ss : List (List (Option ℕ))) → Keyless (block_owns R p xs ss)
  block_Keyless p xs ss = ((λ _. tt), spots_Keyless (block_of p) (count_of p) xs ss)

module _ (R : RattleType) (y : IsSync R) (κ : Lft) where
  held_shares_Keyless : (p : Ptr) (x : R.Denot) (h : Option ℕ) → Keyless (held_shares R p x h κ)
  held_shares_Keyless p x None = seen R y p x κ
  held_shares_Keyless p x (Some a) = (seen R y p x (a ∷ []), (λ q. tt))

  spots_shares_Keyless : (b o : ℕ) (xs : List R.Denot) (ss : List (List (Option ℕ))) → Keyless (spots_shares R b o xs ss κ)
  spots_shares_Keyless b o [] ss = tt
  spots_shares_Keyless b o (x ∷ xs) [] = tt
  spots_shares_Keyless b o (x ∷ xs) (fractions ∷ ss) = ((λ h. held_shares_Keyless (block_ptr b o) x h), spots_shares_Keyless b (o + (mem R).size) xs ss)

  pub block_shares_Keyless : (p : Ptr) (xs : List R.Denot) (ss : List (List (Option ℕ))) → Keyless (block_shares R p xs ss κ)
  block_shares_Keyless p xs ss = ((λ _. tt), spots_shares_Keyless (block_of p) (count_of p) xs ss)
