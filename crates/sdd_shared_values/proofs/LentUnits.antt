-- Units that are lent to a section, and come back once it has ended. Assumes `Logic`.
use Rattle.std.proofs.Common.{inl, inr, ℕ, List, [], ◌∷◌, refl}
use seplogic.Ra.Ura.{Ura}
use base.FractionLaws.{Counts}
use base.Logic.{SProp, ent, sep}
use base.Fml.{Lft, Share, Fml, ftrue, fex, fdead, flft, flent}
use types.Logic.{Logic, sem}
use types.Kit.{‵, ◌⊛◌, later, ◌$◌, ◌∵◌, !, qed, by, move, keep, drop, use1, use2, split, fsplit, fjoin, fpick, fpack, rewrite, updating, await, now, done}
use types.Tokens.{bor_new, bor_fracture, lent_back}
use contract.BorrowLft.{meet_⊑_left}
use denote.Sharing.{ShrLaws}
use denote.Moves.{moves_from}
use denote.Steps.{nothing}
use Rattle.sdd_rights.specs.Units.{tokens}
use Rattle.std.specs.Prelude.{Option}
use Rattle.sdd_values.specs.Block.{IsFreeFor, lasts_in}
use Rattle.sdd_shared_values.specs.ValueFractions.{FractionContent, settled, AllFreeFor, lent_out, tokens_of, holdings, section_shares}

module _ {M : Type 1} {𝓤 : Ura M} (𝓛 : Logic 𝓤) where
  open 𝓛 use {H, A}

  abbrev Pr : Type 2
  Pr = SProp 𝓤

  abbrev ⟦◌⟧ : Fml → Pr
  ⟦ P ⟧ = sem 𝓛 P

  abbrev ◌⊢◌ : Pr → Pr → Type 1
  P ⊢ Q = ent 𝓤 P Q

  abbrev ◌∗◌ : Pr → Pr → Pr
  P ∗ Q = sep 𝓤 P Q

  infix 26 ◌⊢◌
  infixr 35 ◌∗◌
  pub lends : (t a n : ℕ) → ⟦ tokens a n ⟧ ⊢ H.⇛ ⟦ lent_out t a n ⟧
  lends t a n = qed 𝓛 (‵ (tokens a n) ∷ []) ∵ updating ! $ fpick ! (λ e. fpick ! (λ c. bor_new ! tt (t ∷ []) $ bor_fracture ! tt (λ r. flft (a ∷ []) r) e $
      move ! (1 ∷ []) $ fpack ! (Counts 63 e n) (λ _. flent (t ∷ []) (flft (a ∷ []) e)) c $
      fpack ! Share (λ x. fex (Counts 63 x n) (λ _. flent (t ∷ []) (flft (a ∷ []) x))) e $
      move ! (1 ∷ 0 ∷ []) $ fjoin ! $ now ! $ done !))

  comes_back : (t a n : ℕ) → ⟦ lent_out t a n ⟧ ∗ A.dead (t ∷ []) ⊢ H.⇛ ⟦ tokens a n ⟧
  comes_back t a n = qed 𝓛 (‵ (lent_out t a n) ∷ ‵ (fdead (t ∷ [])) ∷ []) ∵ updating ! $ fsplit ! $ drop ! $ fpick ! (λ e. fpick ! (λ c. move ! (1 ∷ 0 ∷ []) $
      lent_back ! tt $
      fpack ! (Counts 63 e n) (λ _. flft (a ∷ []) e) c $ fpack ! Share (λ x. fex (Counts 63 x n) (λ _. flft (a ∷ []) x)) e $ now ! $ done !))

  one_back : (t : ℕ) (l : Option ℕ) (a n : ℕ) → IsFreeFor t l → ⟦ tokens_of l a n ⟧ ∗ A.dead (t ∷ []) ⊢ H.⇛ ⟦ tokens a n ⟧
  one_back t l a n (inl e) = qed 𝓛 (‵ (tokens_of l a n) ∷ ‵ (fdead (t ∷ [])) ∷ []) ∵ updating ! $ rewrite ! 0 (λ (m : Option ℕ). ‵ (tokens_of m a n)) e refl $
      now ! $ keep ! (0 ∷ []) $ done !
  one_back t l a n (inr e) = qed 𝓛 (‵ (tokens_of l a n) ∷ ‵ (fdead (t ∷ [])) ∷ []) ∵ rewrite ! 0 (λ (m : Option ℕ). ‵ (tokens_of m a n)) e refl $
      by ! (comes_back t a n)

  pub settles : (t : ℕ) (hs : List FractionContent) → AllFreeFor t hs → ⟦ holdings hs ⟧ ∗ A.dead (t ∷ []) ⊢ H.⇛ ⟦ holdings (settled hs) ⟧
  settles t [] ok = qed 𝓛 (‵ ftrue ∷ ‵ (fdead (t ∷ [])) ∷ []) ∵ updating ! $ now ! $ keep ! (0 ∷ []) $ done !
  settles t (h ∷ hs) ok = qed 𝓛 (‵ (holdings (h ∷ hs)) ∷ ‵ (fdead (t ∷ [])) ∷ []) ∵ updating ! $ fsplit ! $ fsplit ! $ move ! (3 ∷ []) $
      use1 𝓛 (‵ (fdead (t ∷ [])) ⊛ ‵ (fdead (t ∷ []))) (𝓛.lfts.dead_dup (t ∷ [])) $ split ! $ move ! (3 ∷ 0 ∷ []) $
      use2 𝓛 (later (‵ (tokens h.lifetime h.units))) (one_back t h.lent h.lifetime h.units ok.0) $ await ! tt $
      move ! (2 ∷ 0 ∷ []) $ fjoin ! $ move ! (2 ∷ 1 ∷ []) $ use2 𝓛 (later (‵ (holdings (settled hs)))) (settles t hs ok.1) $ await ! tt $ move ! (1 ∷ 0 ∷ []) $
      fjoin ! $ now ! $ done !

  pub with_end : (t : ℕ) (hs : List FractionContent) → AllFreeFor t hs → ⟦ holdings hs ⟧ ∗ ⟦ fdead (t ∷ []) ⟧ ⊢ H.⇛ (⟦ holdings (settled hs) ⟧ ∗ ⟦ ftrue ⟧)
  with_end t hs ok = qed 𝓛 (‵ (holdings hs) ∷ ‵ (fdead (t ∷ [])) ∷ []) ∵ updating ! $ use2 𝓛 (later (‵ (holdings (settled hs))))
      (settles t hs ok) $ await ! tt $
      nothing ! $ now ! $ move ! (1 ∷ 0 ∷ []) $ done !

  -- what is shared for a lifetime is, for as long as a section is borrowed to which a token of the lifetime was lent
  pub shows_in : (t : Lft → Fml) (L : ShrLaws t) (τ a : ℕ) (κ : Lft) → ⟦ lasts_in τ a ⟧ ∗ ⟦ t (a ∷ []) ⟧ ∗ ⟦ section_shares τ κ ⟧ ⊢ ⟦ t κ ⟧
  shows_in t L τ a κ = qed 𝓛 (‵ (lasts_in τ a) ∷ ‵ (t (a ∷ [])) ∷ ‵ (section_shares τ κ) ∷ []) ∵
      use2 𝓛 (‵ (t (τ ∷ []))) (moves_from 𝓛 t L (τ ∷ []) (a ∷ []) (a ∷ []) (meet_⊑_left (a ∷ []) (τ ∷ []))) $ move ! (1 ∷ 0 ∷ []) $
      by ! (moves_from 𝓛 t L κ (τ ∷ []) (τ ∷ []) (meet_⊑_left (τ ∷ []) κ))
