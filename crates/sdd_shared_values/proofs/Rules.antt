-- The rules of the places of shared values: each can be had at any time, and all of them twice. Assumes `Logic`.
use Rattle.std.proofs.Common.{◌≡◌, ℕ, zero, suc, ◌+◌, ◌*◌, ◌<◌, [], ◌∷◌, refl, arith}
use seplogic.Ra.Ura.{Ura}
use base.Logic.{SProp, ent, sep}
use base.Fml.{Fml, ftrue, finv}
use types.Logic.{Logic, sem}
use types.Kit.{‵, ◌⊛◌, ◌$◌, ◌∵◌, !, qed, by, move, drop, use1, split, fsplit, fjoin, fpick, fpack, rewrite, done}
use denote.RattleType.{RattleType}
use denote.Memory.{mem}
use denote.Index.{place, place_is}
use denote.RawPtr.{Ptr, block_ptr, block_of, count_of}
use denote.Steps.{nothing}
use Rattle.sdd_shared_values.specs.SharedValues.{rule, rules, Spans, values_owns}

module _ {M : Type 1} {𝓤 : Ura M} (𝓛 : Logic 𝓤) (R : RattleType) (FitsIn : R.Denot → Type 0) where
  abbrev Pr : Type 2
  Pr = SProp 𝓤

  abbrev ⟦◌⟧ : Fml → Pr
  ⟦ P ⟧ = sem 𝓛 P

  abbrev ◌⊢◌ : Pr → Pr → Type 1
  P ⊢ Q = ent 𝓤 P Q

  abbrev ◌∗◌ : Pr → Pr → Pr
  P ∗ Q = sep 𝓤 P Q

  infix 26 ◌⊢◌
  infixr 35 ◌∗◌
  abbrev size : ℕ
  size = (mem R).size

  module _ (b γ : ℕ) where
    abbrev all : ℕ → ℕ → ℕ → Fml
    all n i o = rules R b γ FitsIn n i o

    abbrev one : ℕ → ℕ → Fml
    one i o = finv (rule R (block_ptr b o) γ i FitsIn)

    rules_twice : (n i o : ℕ) → ⟦ all n i o ⟧ ⊢ ⟦ all n i o ⟧ ∗ ⟦ all n i o ⟧
    rules_twice zero i o = qed 𝓛 (‵ ftrue ∷ []) ∵ nothing ! $ done !
    rules_twice (suc n) i o = qed 𝓛 (‵ (one i o) ∷ ‵ (all n (suc i) (o + size)) ∷ []) ∵
        use1 𝓛 (‵ (one i o) ⊛ ‵ (one i o)) (𝓛.invs.inv_dup (rule R (block_ptr b o) γ i FitsIn)) $ split ! $ move ! (2 ∷ []) $
        use1 𝓛 (‵ (all n (suc i) (o + size)) ⊛ ‵ (all n (suc i) (o + size))) (rules_twice n (suc i) (o + size)) $ split ! $
        move ! (2 ∷ 0 ∷ []) $ fjoin ! $ move ! (2 ∷ 1 ∷ []) $ fjoin ! $ move ! (1 ∷ 0 ∷ []) $ done !

    rule_in : (n i o k j : ℕ) → k < n → j ≡ i + k → ⟦ all n i o ⟧ ⊢ ⟦ one j (place size o k) ⟧
    rule_in zero i o k j near is = absurd (omega arith)
    rule_in (suc n) i o zero j near is = qed 𝓛 (‵ (one i o) ∷ ‵ (all n (suc i) (o + size)) ∷ []) ∵ move ! (1 ∷ []) $ drop ! $
        rewrite ! 0 (λ (m : ℕ). ‵ (one m o)) (let e : i ≡ j = omega (arith, is) in e) refl $ done !
    rule_in (suc n) i o (suc k) j near is = qed 𝓛 (‵ (one i o) ∷ ‵ (all n (suc i) (o + size)) ∷ []) ∵ drop ! $
        by ! (rule_in n (suc i) (o + size) k j (omega arith) (omega (arith, is)))

    pub rule_at : (n o k : ℕ) → k < n → ⟦ all n 0 o ⟧ ⊢ ⟦ one k (k * size + o) ⟧
    rule_at n o k near = qed 𝓛 (‵ (all n 0 o) ∷ []) ∵ use1 𝓛 (‵ (one k (place size o k))) (rule_in n 0 o k k near (omega arith)) $
        rewrite ! 0 (λ (m : ℕ). ‵ (one k m)) (place_is size o k) refl $ done !

  pub values_twice : (p : Ptr) (γ n : ℕ) → ⟦ values_owns R FitsIn p γ n ⟧ ⊢ ⟦ values_owns R FitsIn p γ n ⟧ ∗ ⟦ values_owns R FitsIn p γ n ⟧
  values_twice p γ n = let every : Fml = rules R (block_of p) γ FitsIn n 0 (count_of p) in qed 𝓛 (‵ (values_owns R FitsIn p γ n) ∷ []) ∵ fsplit ! $
      fpick ! (λ fit. drop ! $
      use1 𝓛 (‵ every ⊛ ‵ every) (rules_twice (block_of p) γ n 0 (count_of p)) $ split ! $
      nothing ! $ fpack ! (Spans R p n) (λ _. ftrue) fit $ move ! (0 ∷ 1 ∷ []) $ fjoin ! $
      nothing ! $ fpack ! (Spans R p n) (λ _. ftrue) fit $ move ! (0 ∷ 2 ∷ []) $ fjoin ! $ move ! (1 ∷ 0 ∷ []) $ done !)
