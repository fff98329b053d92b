-- The loan of a shared place's value goes to whoever has the key, and comes back. Assumes `Logic`.
use Rattle.std.proofs.Common.{ℕ, [], ◌∷◌}
use mathlib.Core.Bool.{Bool, true, false}
use seplogic.Ra.Ura.{Ura}
use base.Logic.{SProp, ent, sep, upd, upd_i}
use base.Fml.{Fml, fsep, fbor, finv}
use types.Logic.{Logic, sem}
use types.Kit.{‵, ◌$◌, ◌∵◌, !, qed, by, move, keep, frame, assume, suffices, fsplit, fpick, fpack, done}
use types.Na.{out, out_once}
use denote.RattleType.{RattleType}
use Rattle.sdd_bag.specs.KeyedPlaces.{PlaceName, Loan, content, state, rule}

module _ {M : Type 1} {𝓤 : Ura M} (𝓛 : Logic 𝓤) (R : RattleType) (n : PlaceName) (b o : ℕ) (t : Loan) where
  open 𝓛 use {H, A}

  abbrev Pr : Type 2
  Pr = SProp 𝓤

  abbrev ◌⊢◌ : Pr → Pr → Type 1
  P ⊢ Q = ent 𝓤 P Q

  abbrev ◌∗◌ : Pr → Pr → Pr
  P ∗ Q = sep 𝓤 P Q

  abbrev ⟦◌⟧ : Fml → Pr
  ⟦ P ⟧ = sem 𝓛 P

  infix 26 ◌⊢◌
  infixr 35 ◌∗◌
  abbrev I : Fml
  I = rule R n b o t

  abbrev st : Bool → Fml
  st = state R n b o t

  abbrev pub Home : Fml
  Home = fsep (out t.1) (fbor t.0 (content R n b o))

  takes : (here : Bool) → ⟦ st here ⟧ ∗ ⟦ out n.key ⟧ ⊢ upd 𝓤 (⟦ I ⟧ ∗ ⟦ Home ⟧)
  takes true = qed 𝓛 (‵ Home ∷ ‵ (out n.key) ∷ []) ∵ suffices ! _ (upd_i 𝓤 (⟦ I ⟧ ∗ ⟦ Home ⟧)) $ move ! (1 ∷ []) $ fpack ! Bool st false $ done !
  takes false = out_once 𝓛 n.key (⟦ I ⟧ ∗ ⟦ Home ⟧)

  puts : (here : Bool) → ⟦ st here ⟧ ∗ ⟦ Home ⟧ ⊢ upd 𝓤 (⟦ I ⟧ ∗ ⟦ out n.key ⟧)
  puts true = qed 𝓛 (‵ Home ∷ ‵ Home ∷ []) ∵ fsplit ! $ move ! (2 ∷ []) $ fsplit ! $ keep ! (0 ∷ 2 ∷ []) $
      by ! (out_once 𝓛 t.1 (⟦ I ⟧ ∗ ⟦ out n.key ⟧))
  puts false = qed 𝓛 (‵ (out n.key) ∷ ‵ Home ∷ []) ∵ suffices ! _ (upd_i 𝓤 (⟦ I ⟧ ∗ ⟦ out n.key ⟧)) $ move ! (1 ∷ []) $ fpack ! Bool st true $ done !

  pub lends : A.inv I ∗ ⟦ out n.key ⟧ ⊢ H.⇛ ⟦ Home ⟧
  lends = qed 𝓛 (‵ (finv I) ∷ ‵ (out n.key) ∷ []) ∵ suffices ! _ (𝓛.invs.inv_acc I ⟦ Home ⟧) $ frame ! $ assume ! (‵ I) $ fpick ! (λ here. by ! (takes here))

  pub comes_back : A.inv I ∗ ⟦ Home ⟧ ⊢ H.⇛ ⟦ out n.key ⟧
  comes_back = qed 𝓛 (‵ (finv I) ∷ ‵ Home ∷ []) ∵ suffices ! _ (𝓛.invs.inv_acc I ⟦ out n.key ⟧) $ frame ! $ assume ! (‵ I) $
      fpick ! (λ here. by ! (puts here))
