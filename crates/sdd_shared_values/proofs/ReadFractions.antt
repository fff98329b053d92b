-- A look at a place by units of a holdings, which are lent to a section. Assumes `Logic`.
use Rattle.std.proofs.Common.{◌≡◌, inl, inr, ℕ, zero, suc, List, [], ◌∷◌, set, sym, refl, ap, subst}
use Rattle.std.specs.Prelude.{Option, None, Some}
use mathlib.Core.Option.{some, some-injective, some-ne-none}
use lib.ListN.{get_elem?}
use seplogic.Ra.Ura.{Ura}
use base.Stored.{Gv, gnil, gnum, coded×, coded_ℕ}
use base.Logic.{SProp, ent, sep, wand, ex, all, guard, upd, upd_i, apply∗, all_e}
use base.Fml.{Lft, Share, Fml, ftrue, flft, finv}
use types.Logic.{Logic, sem}
use types.Kit.{‵, raw, ◌⊛◌, some as exists, given, later, ◌$◌, ◌∵◌, !, qed, by, move, keep, drop, frame, each, assume, use1, use2, use3, split, fsplit, fjoin, fpick, fpack, pick, learn, check, show, suffices, rewrite, updating, await, now, done}
use denote.RattleType.{RattleType}
use denote.RawPtr.{Ptr}
use denote.Sharing.{ShrLaws, one}
use denote.SharingLaws.{contraction, one_shr_laws}
use denote.Steps.{nothing}
use denote.Struct.Lending.{lent_at}
use Rattle.atomic_table.specs.Seated.{itself}
use Rattle.sdd_rights.specs.Units.{share_of, units}
use Rattle.sdd_rights.proofs.Steps.{agreed, packs, apart_at, Meets}
use Rattle.sdd_values.specs.Block.{IsFreeFor, lasts_in}
use Rattle.sdd_shared_values.specs.ValueFractions.{FractionContent, unlent, settled, AllFreeFor, agreed_on, part, lent_out, tokens_of, holding, holdings, section_shares}
use Rattle.sdd_shared_values.specs.SharedValues.{full_shown, IsValueCode, state, rule}
use Rattle.sdd_shared_values.proofs.LentUnits.{lends, shows_in}

abbrev pub lent_to : ℕ → FractionContent → FractionContent
lent_to t h = record h { lent = Some t }

pub keeps_settled : (hs : List FractionContent) (n t : ℕ) (h : FractionContent) → get_elem? hs n ≡ some h → settled (set hs n (lent_to t h)) ≡ settled hs
keeps_settled [] n t h at = absurd (some-ne-none h (sym at))
keeps_settled (x ∷ hs) zero t h at = ap (λ (y : FractionContent). unlent y ∷ settled hs) (sym (some-injective x h at))
keeps_settled (x ∷ hs) (suc n) t h at = ap (λ (ys : List FractionContent). unlent x ∷ ys) (keeps_settled hs n t h at)

pub keeps_all_to : (hs : List FractionContent) (n t : ℕ) (h : FractionContent) → AllFreeFor t hs → AllFreeFor t (set hs n (lent_to t h))
keeps_all_to [] n t h ok = tt
keeps_all_to (x ∷ hs) zero t h ok = (inr refl, ok.1)
keeps_all_to (x ∷ hs) (suc n) t h ok = (ok.0, keeps_all_to hs n t h ok.1)

module _ {M : Type 1} {𝓤 : Ura M} (𝓛 : Logic 𝓤) where
  open 𝓛 use {H, A}

  abbrev Pr : Type 2
  Pr = SProp 𝓤

  abbrev ⟦◌⟧ : Fml → Pr
  ⟦ P ⟧ = sem 𝓛 P

  abbrev ◌⊢◌ : Pr → Pr → Type 1
  P ⊢ Q = ent 𝓤 P Q

  abbrev ◌∗◌ : Pr → Pr → Pr
  P ∗ Q = sep 𝓤 P Q

  abbrev ◌-∗◌ : Pr → Pr → Pr
  P -∗ Q = wand 𝓤 P Q

  infix 26 ◌⊢◌
  infixr 35 ◌∗◌
  infixr 30 ◌-∗◌
  abbrev pub Swapped : List FractionContent → ℕ → FractionContent → Pr
  Swapped hs n h = ⟦ holding h ⟧ -∗ ⟦ holdings (set hs n h) ⟧

  pub holdings_at : (hs : List FractionContent) (n : ℕ) (h : FractionContent) → get_elem? hs n ≡ some h → ⟦ holdings hs ⟧ ⊢ ⟦ holding h ⟧ ∗ all 𝓤 (Swapped hs n)
  holdings_at [] n h at = absurd (some-ne-none h (sym at))
  holdings_at (x ∷ hs) zero h at = qed 𝓛 (‵ (holding x) ∷ ‵ (holdings hs) ∷ []) ∵
      rewrite ! 0 (λ (y : FractionContent). ‵ (holding y)) (some-injective x h at) refl $ frame ! $
      each ! (Swapped (x ∷ hs) zero) (λ y. assume ! (‵ (holding y)) $ done !)
  holdings_at (x ∷ hs) (suc n) h at = qed 𝓛 (‵ (holding x) ∷ ‵ (holdings hs) ∷ []) ∵ move ! (1 ∷ []) $
      use1 𝓛 (‵ (holding h) ⊛ raw (all 𝓤 (Swapped hs n))) (holdings_at hs n h at) $ split ! $ frame ! $
      each ! (Swapped (x ∷ hs) (suc n)) (λ y. use1 𝓛 (raw (Swapped hs n y)) (all_e 𝓤 (Swapped hs n) y) $ assume ! (‵ (holding y)) $
      use2 𝓛 (‵ (holdings (set hs n y))) (apply∗ 𝓤 ⟦ holding y ⟧ ⟦ holdings (set hs n y) ⟧) $ move ! (1 ∷ 0 ∷ []) $ done !)

  module _ (R : RattleType) (FitsIn : R.Denot → Type 0) (p : Ptr) (γ i : ℕ) (laws : (x : R.Denot) → ShrLaws (lent_at R p x)) where
    abbrev X : Type 0
    X = R.Denot

    abbrev I : Fml
    I = rule R p γ i FitsIn

    abbrev st : Option (Option (ℕ × X)) → Fml
    st v = state R p γ i FitsIn v

    abbrev U : ℕ → Gv → ℕ → Fml
    U a g n = units γ i (agreed_on a g) n

    inside : (P Q : Pr) → ((v : Option (Option (ℕ × X))) → ⟦ st v ⟧ ∗ P ⊢ upd 𝓤 (⟦ I ⟧ ∗ Q)) → A.inv I ∗ P ⊢ H.⇛ Q
    inside P Q k = qed 𝓛 (‵ (finv I) ∷ raw P ∷ []) ∵ suffices ! _ (𝓛.invs.inv_acc I Q) $ frame ! $ assume ! (‵ I) $ fpick ! (λ v. by ! (k v))

    -- the value is what units show, and fits
    abbrev pub Tells : Gv → X → Type 0
    Tells g x = (g ≡ full_shown (R.coded.code x)) × FitsIn x

    abbrev pub Told : ℕ → Gv → Fml → X → Pr
    Told a g S x = guard 𝓤 (Tells g x) (⟦ lent_at R p x (a ∷ []) ⟧ ∗ ⟦ S ⟧)

    -- what has part in the place's number agrees with the place on what they show, and is kept
    abbrev Agrees : ℕ → Gv → Fml → Type 1
    Agrees a g S = (b : ℕ) (w : Gv) → ⟦ U b w 1 ⟧ ∗ ⟦ S ⟧ ⊢ guard 𝓤 (agreed_on b w ≡ agreed_on a g) (⟦ U b w 1 ⟧ ∗ ⟦ S ⟧)

    units_agree : (a : ℕ) (g : Gv) (n : ℕ) → Agrees a g (U a g n)
    units_agree a g n b w = qed 𝓛 (‵ (U b w 1) ∷ ‵ (U a g n) ∷ []) ∵
        use2 𝓛 (given (Meets (agreed_on b w) (agreed_on a g) 1 n) (‵ (U b w 1) ⊛ ‵ (U a g n))) (apart_at 𝓛 γ i (agreed_on b w) (agreed_on a g) 1 n) $
        learn ! (λ met. check ! met.values $ split ! $ done !)

    share_agrees : (a : ℕ) (g : Gv) (q : Share) → Agrees a g (share_of γ i (agreed_on a g) q)
    share_agrees a g q b w = let s : Gv → Share → Fml = share_of γ i in qed 𝓛 (‵ (U b w 1) ∷ ‵ (s (agreed_on a g) q) ∷ []) ∵ fpick ! (λ r. fpick ! (λ c.
        use2 𝓛 (given (agreed_on b w ≡ agreed_on a g) (‵ (s (agreed_on b w) r) ⊛ ‵ (s (agreed_on a g) q)))
        (agreed 𝓛 γ i (agreed_on b w) (agreed_on a g) r q) $ learn ! (λ same. check ! same $ split ! $
        use1 𝓛 (‵ (U b w 1)) (packs 𝓛 γ i (agreed_on b w) 1 r c) $ done !)))

    module _ (a : ℕ) (g : Gv) (S : Fml) (full : IsValueCode g) (agrees : Agrees a g S) where
      other : (b : ℕ) (w : Gv) → (IsValueCode w → ⊥) → (Z : Pr) → ⟦ part γ i b w 1 ⟧ ∗ ⟦ S ⟧ ⊢ Z
      other b w not_full Z = qed 𝓛 (‵ (part γ i b w 1) ∷ ‵ S ∷ []) ∵ fsplit ! $ move ! (0 ∷ 2 ∷ []) $
          use2 𝓛 (given (agreed_on b w ≡ agreed_on a g) (‵ (U b w 1) ⊛ ‵ S)) (agrees b w) $ learn ! (λ met.
          absurd (not_full (subst IsValueCode (let same = (coded× coded_ℕ itself).inj (b, w) (a, g) met in sym (λ j. (same j).1)) full)))

      looks_in : (v : Option (Option (ℕ × X))) → ⟦ st v ⟧ ∗ ⟦ S ⟧ ⊢ upd 𝓤 (⟦ I ⟧ ∗ ex 𝓤 (Told a g S))
      looks_in None = qed 𝓛 (‵ (st None) ∷ ‵ S ∷ []) ∵ fpick ! (λ b. by ! (other b (gnum 0) (λ z. z) _))
      looks_in (Some None) = qed 𝓛 (‵ (st (Some None)) ∷ ‵ S ∷ []) ∵ fpick ! (λ b. fsplit ! $ keep ! (0 ∷ 2 ∷ []) $ by ! (other b gnil (λ z. z) _))
      looks_in (Some (Some v)) = let b : ℕ = v.0 in let x : X = v.1 in let w : Gv = full_shown (R.coded.code x) in
          let Z : Pr = ⟦ I ⟧ ∗ ex 𝓤 (Told a g S) in
          qed 𝓛 (‵ (st (Some (Some v))) ∷ ‵ S ∷ []) ∵ fsplit ! $ fpick ! (λ fits. drop ! $ fsplit ! $ fsplit ! $ move ! (0 ∷ 3 ∷ []) $
          use2 𝓛 (given (agreed_on b w ≡ agreed_on a g) (‵ (U b w 1) ⊛ ‵ S)) (agrees b w) $ learn ! (λ met.
          let same = (coded× coded_ℕ itself).inj (b, w) (a, g) met in split ! $ move ! (3 ∷ []) $ fsplit ! $
          use1 𝓛 (‵ (lent_at R p x (b ∷ [])) ⊛ ‵ (lent_at R p x (b ∷ []))) (contraction 𝓛 (lent_at R p x) (laws x) (b ∷ [])) $ split ! $
          move ! (1 ∷ 2 ∷ []) $ fjoin ! $
          move ! (2 ∷ 4 ∷ []) $ fjoin ! $ move ! (0 ∷ 1 ∷ []) $ fjoin ! $ nothing ! $ fpack ! (FitsIn x) (λ _. ftrue) fits $ fjoin ! $
          fpack ! (Option (Option (ℕ × X))) st (Some (Some v)) $ suffices ! _ (upd_i 𝓤 Z) $
          frame ! $
          show ! (Told a g S) x $ check ! (sym (λ j. (same j).1), fits) $ rewrite ! 0 (λ (m : ℕ). ‵ (lent_at R p x (m ∷ []))) (λ j. (same j).0) refl $
          done !))

      looks_by : A.inv I ∗ ⟦ S ⟧ ⊢ H.⇛ (ex 𝓤 (Told a g S))
      looks_by = inside ⟦ S ⟧ (ex 𝓤 (Told a g S)) looks_in

    pub looks : (a : ℕ) (g : Gv) (n : ℕ) → IsValueCode g → A.inv I ∗ ⟦ U a g n ⟧ ⊢ H.⇛ (ex 𝓤 (Told a g (U a g n)))
    looks a g n full = looks_by a g (U a g n) full (units_agree a g n)

    pub looks_at_share : (a : ℕ) (g : Gv) (q : Share) → IsValueCode g →
        A.inv I ∗ ⟦ share_of γ i (agreed_on a g) q ⟧ ⊢ H.⇛ (ex 𝓤 (Told a g (share_of γ i (agreed_on a g) q)))
    looks_at_share a g q full = looks_by a g (share_of γ i (agreed_on a g) q) full (share_agrees a g q)

    -- the token of the lifetime is lent now, or was
    lends_on : (τ : ℕ) (l : Option ℕ) (a n : ℕ) → IsFreeFor τ l → ⟦ tokens_of l a n ⟧ ⊢ H.⇛ ⟦ lent_out τ a n ⟧
    lends_on τ l a n (inl e) = qed 𝓛 (‵ (tokens_of l a n) ∷ []) ∵ rewrite ! 0 (λ (m : Option ℕ). ‵ (tokens_of m a n)) e refl $ by ! (lends 𝓛 τ a n)
    lends_on τ l a n (inr e) = qed 𝓛 (‵ (tokens_of l a n) ∷ []) ∵ updating ! $ rewrite ! 0 (λ (m : Option ℕ). ‵ (tokens_of m a n)) e refl $ now ! $ done !

    abbrev pub Seen : List FractionContent → ℕ → ℕ → FractionContent → Lft → X → Pr
    Seen hs n τ h κ x = guard 𝓤 (Tells h.shown x) (⟦ lent_at R p x κ ⟧ ∗ ⟦ holdings (set hs n (lent_to τ h)) ⟧)

    pub shows_now : (hs : List FractionContent) (n τ : ℕ) (h : FractionContent) (κ : Lft) → get_elem? hs n ≡ some h → h.gamma ≡ γ → h.number ≡ i
        → IsValueCode h.shown → IsFreeFor τ h.lent
        → A.inv I ∗ ⟦ holdings hs ⟧ ∗ ⟦ section_shares τ κ ⟧ ⊢ H.⇛ (ex 𝓤 (Seen hs n τ h κ))
    shows_now hs n τ h κ at of is full free = let a : ℕ = h.lifetime in let g : Gv = h.shown in let k : ℕ = h.units in let h' : FractionContent = lent_to τ h in
        qed 𝓛 (‵ (finv I) ∷ ‵ (holdings hs) ∷ ‵ (section_shares τ κ) ∷ []) ∵ updating ! $ move ! (1 ∷ []) $
        use1 𝓛 (‵ (holding h) ⊛ raw (all 𝓤 (Swapped hs n))) (holdings_at hs n h at) $ split ! $ fsplit ! $
        rewrite ! 0 (λ (m : ℕ × ℕ). ‵ (units m.0 m.1 (agreed_on a g) k)) (λ j. (of j, is j)) refl $ move ! (3 ∷ 0 ∷ []) $
        use2 𝓛 (later (exists (λ (x : X). given (Tells g x) (‵ (lent_at R p x (a ∷ [])) ⊛ ‵ (U a g k))))) (looks a g k full) $
        await ! tt $ pick ! (λ x. learn ! (λ so. split ! $ move ! (2 ∷ []) $
        use1 𝓛 (later (‵ (lent_out τ a k))) (lends_on τ h.lent a k free) $ await ! tt $ fsplit ! $
        use1 𝓛 (‵ (lasts_in τ a) ⊛ ‵ (lasts_in τ a)) (contraction 𝓛 (one (λ q. flft (a ∷ []) q)) (one_shr_laws (λ q. flft (a ∷ []) q)) (τ ∷ [])) $ split ! $
        move ! (1 ∷ 2 ∷ []) $ fjoin ! $ move ! (1 ∷ 2 ∷ 5 ∷ []) $ use3 𝓛 (‵ (lent_at R p x κ)) (shows_in 𝓛 (lent_at R p x) (laws x) τ a κ) $
        move ! (2 ∷ []) $ rewrite ! 0 (λ (m : ℕ × ℕ). ‵ (units m.0 m.1 (agreed_on a g) k)) (λ j. (sym of j, sym is j)) refl $ move ! (0 ∷ 2 ∷ []) $ fjoin ! $
        move ! (2 ∷ []) $
        use1 𝓛 (raw (Swapped hs n h')) (all_e 𝓤 (Swapped hs n) h') $ move ! (1 ∷ 0 ∷ []) $
        use2 𝓛 (‵ (holdings (set hs n h'))) (apply∗ 𝓤 ⟦ holding h' ⟧ ⟦ holdings (set hs n h') ⟧) $
        now ! $ show ! (Seen hs n τ h κ) x $ check ! so $ move ! (1 ∷ 0 ∷ []) $ done !))

    abbrev pub Shows : FractionContent → Lft → X → Pr
    Shows h κ x = guard 𝓤 (Tells h.shown x) ⟦ lent_at R p x κ ⟧

    pub shows_beside : (hs : List FractionContent) (n τ : ℕ) (h : FractionContent) (κ : Lft) → get_elem? hs n ≡ some h → h.gamma ≡ γ → h.number ≡ i
        → IsValueCode h.shown → IsFreeFor τ h.lent
        → ⟦ holdings hs ⟧ ∗ (A.inv I ∗ ⟦ section_shares τ κ ⟧) ⊢ H.⇛ (⟦ holdings (set hs n (lent_to τ h)) ⟧ ∗ ex 𝓤 (Shows h κ))
    shows_beside hs n τ h κ at of is full free = qed 𝓛 (‵ (holdings hs) ∷ ‵ (finv I) ∷ ‵ (section_shares τ κ) ∷ []) ∵ updating ! $ move ! (1 ∷ 0 ∷ 2 ∷ []) $
        use3 𝓛 (later (exists (λ (x : X). given (Tells h.shown x) (‵ (lent_at R p x κ) ⊛ ‵ (holdings (set hs n (lent_to τ h)))))))
        (shows_now hs n τ h κ at of is full free) $ await ! tt $ pick ! (λ x. learn ! (λ so. split ! $
        now ! $ move ! (1 ∷ []) $ frame ! $ show ! (Shows h κ) x $ check ! so $ done !))
