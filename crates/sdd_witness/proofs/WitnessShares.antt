-- A `&` to a witness has a share of its view, and two shares of one view agree. Assumes `Logic`.
use Rattle.std.proofs.Common.{◌≡◌, ℕ, List, [], ◌∷◌, refl, subst}
use mathlib.Mathlib.Data.Part.{◌∈◌, mem_unique, get}
use seplogic.Ra.Ura.{Ura}
use seplogic.Ra.Constructions.Prod
use seplogic.Ra.Instances.Ag
use base.Share.{three_quarters}
use base.Share
use base.Stored.{Gv}
use base.Shift.{Keyless}
use base.SetCodes.{coded, SetCoded-set}
use base.Logic.{SProp, ent, sep, ex, guard, id⊢, via, ex_e, ex_i, guard_e, guard_i}
use base.Fml.{Lft, Share, Fml, fbor, fshr_bor}
use ghost.Rules.{Halves}
use types.Logic.{Logic, sem, lfts}
use types.Keyed.{entry, entry_keyless, entry_cut, entry_glue}
use types.Kit.{‵, raw, ◌$◌, !, qed, updating, now, done}
use types.Tokens.{bor_fracture}
use denote.Sharing.{ShrLaws}
use denote.SharingLaws.{nothing_shr_laws, one_shr_laws}
use denote.Struct.Lending.{Lends, Lends-nothing}
use Rattle.atomic_table.specs.Seated.{TableId, halved, itself}
use Rattle.sdd_witness.specs.Witness.{view_of, witness_owns, witness_shares}

pub shown_laws : (z : TableId) (id : ℕ) (gs : List Gv) → ShrLaws (witness_shares z id gs)
shown_laws z id [] = nothing_shr_laws
shown_laws z id (g ∷ gs) = one_shr_laws (view_of z.views_name id g)

pub owns_keyless : (z : TableId) (id : ℕ) (gs : List Gv) → Keyless (witness_owns z id gs)
owns_keyless z id [] = tt
owns_keyless z id (g ∷ gs) = entry_keyless halved z.views_name id _

pub shares_keyless : (z : TableId) (id : ℕ) (gs : List Gv) (κ : Lft) → Keyless (witness_shares z id gs κ)
shares_keyless z id [] κ = tt
shares_keyless z id (g ∷ gs) κ = λ q. entry_keyless halved z.views_name id _

module _ {M : Type 1} {𝓤 : Ura M} (𝓛 : Logic 𝓤) where
  open 𝓛 use {H, A}

  abbrev Pr : Type 2
  Pr = SProp 𝓤

  abbrev ⟦◌⟧ : Fml → Pr
  ⟦ P ⟧ = sem 𝓛 P

  abbrev ◌⊢◌ : Pr → Pr → Type 1
  P ⊢ Q = ent 𝓤 P Q

  abbrev ◌∗◌ : Pr → Pr → Pr
  P ∗ Q = sep 𝓤 P Q

  infix 26 ◌⊢◌
  infixr 35 ◌∗◌
  pub lends_shown : (z : TableId) (id : ℕ) (gs : List Gv) (l : Lft) → Lends 𝓛 (witness_owns z id gs) (witness_shares z id gs) l
  lends_shown z id [] l = Lends-nothing 𝓛 (witness_owns z id []) l
  lends_shown z id (g ∷ gs) l = λ κ ts inc sp. let Φ : Share → Fml = view_of z.views_name id g in
      qed 𝓛 (‵ (fbor κ (Φ three_quarters)) ∷ raw (lfts 𝓛 ts) ∷ []) {P = H.⇛ (⟦ fshr_bor κ Φ ⟧ ∗ lfts 𝓛 ts)} (
      updating ! $ bor_fracture ! tt Φ three_quarters $ now ! $ done !)

  -- a share at a value is the two parts of the share at that value
  both_in : (q r s : Share) (g : Gv) → s ∈ Share.op q r → ◌∈◌ {α = Share × Gv} (s, g) (halved.op (q, g) (r, g))
  both_in q r s g m = Prod.mk-mem-op Share.op (Ag.op (SetCoded-set (coded itself))) {a = q} {a' = r} {x = s} {b = g} {b' = g} {y = g} m
      (Ag.idem (SetCoded-set (coded itself)) g)

  module _ (γ i : ℕ) where
    abbrev at : Gv → Share → Fml
    at g q = view_of γ i g q

    cut_at : (g : Gv) (q r s : Share) → s ∈ Share.op q r → ⟦ at g s ⟧ ⊢ ⟦ at g q ⟧ ∗ ⟦ at g r ⟧
    cut_at g q r s m = entry_cut halved 𝓛 γ i (q, g) (r, g) (s, g) (both_in q r s g m)

    abbrev Sum : Gv → Share → Share → Share → Pr
    Sum g q r s = guard 𝓤 (s ∈ Share.op q r) ⟦ at g s ⟧

    -- two at two values are at one
    joined : (g h : Gv) (q r : Share) → ⟦ at g q ⟧ ∗ ⟦ at h r ⟧ ⊢ guard 𝓤 (g ≡ h) (ex 𝓤 (Sum g q r))
    joined g h q r = let F : Share × Gv → Pr = λ x. guard 𝓤 (x ∈ halved.op (q, g) (r, h)) ⟦ entry halved γ i x ⟧ in
        let Z : Pr = guard 𝓤 (g ≡ h) (ex 𝓤 (Sum g q r)) in
        via 𝓤 (ex 𝓤 F) (entry_glue halved 𝓛 γ i (q, g) (r, h)) (ex_e 𝓤 F (λ x. guard_e 𝓤 (x ∈ halved.op (q, g) (r, h)) ⟦ entry halved γ i x ⟧ (λ m.
        let s : Share = get (Share.op q r) m.0.0 in let both = guard_i 𝓤 (g ≡ h) (ex 𝓤 (Sum g q r)) m.0.1 in
        let one = via 𝓤 (Sum g q r s) (guard_i 𝓤 (s ∈ Share.op q r) ⟦ at g s ⟧ (m.0.0, refl)) (ex_i 𝓤 (Sum g q r) s) in
        subst (λ (y : Share × Gv). ⟦ entry halved γ i y ⟧ ⊢ Z) m.1 (via 𝓤 (ex 𝓤 (Sum g q r)) one both))))

    -- they agree, and both are kept
    pub agreed : (g h : Gv) (q r : Share) → ⟦ at g q ⟧ ∗ ⟦ at h r ⟧ ⊢ guard 𝓤 (g ≡ h) (⟦ at g q ⟧ ∗ ⟦ at h r ⟧)
    agreed g h q r = let Z : Pr = guard 𝓤 (g ≡ h) (⟦ at g q ⟧ ∗ ⟦ at h r ⟧) in
        via 𝓤 _ (joined g h q r) (guard_e 𝓤 (g ≡ h) (ex 𝓤 (Sum g q r)) (λ e. ex_e 𝓤 (Sum g q r) (λ s. guard_e 𝓤 (s ∈ Share.op q r) ⟦ at g s ⟧ (λ m.
        via 𝓤 (⟦ at g q ⟧ ∗ ⟦ at h r ⟧) (subst (λ (y : Gv). ⟦ at g s ⟧ ⊢ ⟦ at g q ⟧ ∗ ⟦ at y r ⟧) e (cut_at g q r s m))
        (guard_i 𝓤 (g ≡ h) (⟦ at g q ⟧ ∗ ⟦ at h r ⟧) e)))))

    pub halves_at : (g : Gv) → Halves 𝓤 H A (view_of γ i g)
    halves_at g = record {
      cut = λ q. cut_at g (Share.left q) (Share.right q) q (Share.halves q);
      join = λ q. glued (Share.left q) (Share.right q) q (Share.halves q);
    }
      where
        glued : (q r s : Share) → s ∈ Share.op q r → ⟦ at g q ⟧ ∗ ⟦ at g r ⟧ ⊢ ⟦ at g s ⟧
        glued q r s m = via 𝓤 _ (joined g g q r) (guard_e 𝓤 (g ≡ g) (ex 𝓤 (Sum g q r)) (λ e.
            ex_e 𝓤 (Sum g q r) (λ t. guard_e 𝓤 (t ∈ Share.op q r) ⟦ at g t ⟧ (λ n.
            subst (λ (x : Share). ⟦ at g t ⟧ ⊢ ⟦ at g x ⟧) (mem_unique (Share.op q r) n m) (id⊢ 𝓤 ⟦ at g t ⟧)))))
