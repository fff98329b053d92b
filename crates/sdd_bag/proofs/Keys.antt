-- A key goes among others, and comes out again. Assumes `Logic`.
use Rattle.std.proofs.Common.{◌≡◌, ℕ, zero, suc, ◌<◌, List, [], ◌∷◌, Some, length, slice_get, refl, arith}
use seplogic.Ra.Ura.{Ura}
use base.Logic.{SProp, ent, sep}
use base.Fml.{Fml}
use base.Shift.{Keyless}
use types.Logic.{Logic, sem}
use types.Kit.{‵, ◌⊛◌, ◌$◌, ◌∵◌, !, qed, move, split, join, use1, use2, fsplit, fjoin, done}
use denote.RattleType.{RattleType}
use Rattle.sdd_bag.specs.KeyedPlaces.{key_owns}
use Rattle.sdd_bag.specs.KeptValues.{KeptValue, keys_own, inserted, without_at}

pub keys_keyless : (R : RattleType) (ks : List (KeptValue R.Denot)) → Keyless (keys_own R ks)
keys_keyless R [] = tt
keys_keyless R (k ∷ ks) = ((tt, (tt, tt)), keys_keyless R ks)

module _ {T : Type 0} where
  pub kept_at : (ks : List (KeptValue T)) (at : ℕ) → at < length ks → KeptValue T
  kept_at [] at inside = absurd (omega (arith, inside))
  kept_at (k ∷ ks) zero inside = k
  kept_at (k ∷ ks) (suc at) inside = kept_at ks at (omega (arith, inside))

  pub kept_is : (ks : List (KeptValue T)) (at : ℕ) (inside : at < length ks) → slice_get ks at ≡ Some (kept_at ks at inside)
  unfolding kept_at
  kept_is [] at inside = absurd (omega (arith, inside))
  kept_is (k ∷ ks) zero inside = refl
  kept_is (k ∷ ks) (suc at) inside = kept_is ks at (omega (arith, inside))

module _ {M : Type 1} {𝓤 : Ura M} (𝓛 : Logic 𝓤) (R : RattleType) where
  abbrev ⟦◌⟧ : Fml → SProp 𝓤
  ⟦ P ⟧ = sem 𝓛 P

  abbrev ◌∗◌ : SProp 𝓤 → SProp 𝓤 → SProp 𝓤
  P ∗ Q = sep 𝓤 P Q

  abbrev ◌⊢◌ : SProp 𝓤 → SProp 𝓤 → Type 1
  P ⊢ Q = ent 𝓤 P Q

  infix 26 ◌⊢◌
  infixr 35 ◌∗◌
  abbrev Keys : List (KeptValue R.Denot) → Fml
  Keys ks = keys_own R ks

  pub goes_in : (ks : List (KeptValue R.Denot)) (at : ℕ) (k : KeptValue R.Denot) → ⟦ Keys ks ⟧ ∗ ⟦ key_owns R k.name k.value ⟧ ⊢ ⟦ Keys (inserted ks at k) ⟧
  goes_in [] at k = qed 𝓛 (‵ (Keys []) ∷ ‵ (key_owns R k.name k.value) ∷ []) ∵ move ! (1 ∷ 0 ∷ []) $ fjoin ! $ done !
  goes_in (x ∷ ks) zero k = qed 𝓛 (‵ (Keys (x ∷ ks)) ∷ ‵ (key_owns R k.name k.value) ∷ []) ∵ move ! (1 ∷ 0 ∷ []) $ fjoin ! $ done !
  goes_in (x ∷ ks) (suc at) k = qed 𝓛 (‵ (Keys (x ∷ ks)) ∷ ‵ (key_owns R k.name k.value) ∷ []) ∵ fsplit ! $ move ! (1 ∷ 2 ∷ []) $
      use2 𝓛 (‵ (Keys (inserted ks at k))) (goes_in ks at k) $ move ! (1 ∷ 0 ∷ []) $ fjoin ! $ done !

  pub comes_out : (ks : List (KeptValue R.Denot)) (at : ℕ) (inside : at < length ks) →
      ⟦ Keys ks ⟧ ⊢ ⟦ Keys (without_at ks at) ⟧ ∗ ⟦ key_owns R (kept_at ks at inside).name (kept_at ks at inside).value ⟧
  unfolding kept_at
  comes_out [] at inside = absurd (omega (arith, inside))
  comes_out (x ∷ ks) zero inside = qed 𝓛 (‵ (Keys (x ∷ ks)) ∷ []) ∵ fsplit ! $ move ! (1 ∷ 0 ∷ []) $ join ! $ done !
  comes_out (x ∷ ks) (suc at) inside =
      let k : KeptValue R.Denot = kept_at ks at (omega (arith, inside)) in
      qed 𝓛 (‵ (Keys (x ∷ ks)) ∷ []) ∵ fsplit ! $ move ! (1 ∷ []) $
      use1 𝓛 (‵ (Keys (without_at ks at)) ⊛ ‵ (key_owns R k.name k.value)) (comes_out ks at (omega (arith, inside))) $ split ! $
      move ! (2 ∷ 0 ∷ []) $ fjoin ! $ join ! $ done !
