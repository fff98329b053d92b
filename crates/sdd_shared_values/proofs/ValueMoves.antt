-- A value leaves its place by all units but the place's own, and comes into it. Assumes `Logic`.
use Rattle.std.proofs.Common.{◌≡◌, ℕ, ◌+◌, ◌^◌, ◌≤◌, [], ◌∷◌, sym, refl, subst, arith}
use Rattle.std.specs.Prelude.{Option, None, Some}
use seplogic.Ra.Ura.{Ura}
use base.Fraction.{full_share}
use base.FractionLaws.{Counts-all}
use base.Stored.{Gv, gnil, gnum, gcons, coded×, coded_ℕ}
use base.Logic.{SProp, ent, sep, ex, guard, upd, upd_i, emp, id⊢}
use contract.BorrowLft.{meet_⊑_left, meet_⊑_right}
use denote.Struct.Lending.{Lends}
use base.Fml.{Incl, Incl-trans, Lft, Share, Fml, ftrue, fsep, flft, flent, finv}
use types.Logic.{Logic, sem}
use types.Kit.{‵, raw, ◌⊛◌, given, later, ◌$◌, ◌∵◌, !, qed, by, move, keep, drop, frame, assume, use1, use2, split, split3, join, fsplit, fjoin, fpick, fpack, learn, check, show, suffices, settle, rewrite, updating, await, now, done}
use types.Tokens.{lft_new, lft_end, lent_back, bor_new}
use denote.RattleType.{RattleType}
use denote.RawPtr.{Ptr, lies_at}
use denote.Steps.{nothing}
use denote.Struct.Lending.{lent_at}
use Rattle.atomic_table.specs.Seated.{itself}
use Rattle.sdd_rights.specs.Units.{units, tokens, share_of}
use Rattle.sdd_rights.proofs.Steps.{apart_at, joins, splits, whole_out, whole_in, resets_now, tokens_in, tokens_cut, tokens_glue, Meets}
use Rattle.sdd_rights.proofs.Units.{counts-whole}
use Rattle.sdd_shared_values.specs.ValueFractions.{agreed_on, part}
use Rattle.sdd_shared_values.specs.SharedValues.{full_shown, IsValueCode, vacancy, state, rule, most}

abbrev IsOut : Gv → Type 0
IsOut gnil = ⊥
IsOut (gnum n) = Unit {0}
IsOut (gcons a b) = ⊥

abbrev IsVacant : Gv → Type 0
IsVacant gnil = Unit {0}
IsVacant (gnum n) = ⊥
IsVacant (gcons a b) = ⊥

module _ {M : Type 1} {𝓤 : Ura M} (𝓛 : Logic 𝓤) where
  open 𝓛 use {H, A}

  abbrev Pr : Type 2
  Pr = SProp 𝓤

  abbrev ⟦◌⟧ : Fml → Pr
  ⟦ P ⟧ = sem 𝓛 P

  abbrev ◌⊢◌ : Pr → Pr → Type 1
  P ⊢ Q = ent 𝓤 P Q

  abbrev ◌∗◌ : Pr → Pr → Pr
  P ∗ Q = sep 𝓤 P Q

  infix 26 ◌⊢◌
  infixr 35 ◌∗◌
  pub tokens_whole : (a : ℕ) → ⟦ tokens a (2 ^ 63) ⟧ ⊢ ⟦ flft (a ∷ []) full_share ⟧
  tokens_whole a = qed 𝓛 (‵ (tokens a (2 ^ 63)) ∷ []) ∵
      fpick ! (λ e. fpick ! (λ c. by ! (subst (λ (x : Share). ⟦ flft (a ∷ []) e ⟧ ⊢ ⟦ flft (a ∷ []) x ⟧) (counts-whole e c) (id⊢ 𝓤 ⟦ flft (a ∷ []) e ⟧))))

  pub lifetime_ends : (a : ℕ) (P : Fml) → ⟦ tokens a (2 ^ 63) ⟧ ∗ ⟦ flent (a ∷ []) P ⟧ ⊢ H.⇛ ⟦ P ⟧
  lifetime_ends a P = qed 𝓛 (‵ (tokens a (2 ^ 63)) ∷ ‵ (flent (a ∷ []) P) ∷ []) ∵ updating ! $ use1 𝓛 (‵ (flft (a ∷ []) full_share)) (tokens_whole a) $
      lft_end ! tt $ lent_back ! tt $ now ! $ done !

  -- a new lifetime: the place's token and the others
  pub lifetime_begins : emp 𝓤 ⊢ H.⇛ (ex 𝓤 (λ (a : ℕ). ⟦ tokens a 1 ⟧ ∗ ⟦ tokens a most ⟧))
  lifetime_begins = qed 𝓛 [] ∵ updating ! $ lft_new ! tt (λ a. use1 𝓛 (‵ (tokens a (2 ^ 63))) (tokens_in 𝓛 a (2 ^ 63) full_share (Counts-all 63)) $
      use1 𝓛 (‵ (tokens a 1) ⊛ ‵ (tokens a most)) (tokens_cut 𝓛 a (2 ^ 63) 1 most (omega arith) (omega arith) (omega arith) (omega arith)) $ now ! $
      show ! (λ (b : ℕ). ⟦ tokens b 1 ⟧ ∗ ⟦ tokens b most ⟧) a $ done !)

  module _ (γ i : ℕ) where
    abbrev U : Gv → ℕ → Fml
    U g k = units γ i g k

    turns : (g h h' : Gv) → ⟦ U g 1 ⟧ ∗ ⟦ U h most ⟧ ⊢ upd 𝓤 (⟦ U h' 1 ⟧ ∗ ⟦ U h' most ⟧)
    turns g h h' = let Z : Pr = ⟦ U h' 1 ⟧ ∗ ⟦ U h' most ⟧ in qed 𝓛 (‵ (U g 1) ∷ ‵ (U h most) ∷ []) ∵
        use2 𝓛 (given (Meets g h 1 most) (‵ (U g (2 ^ 63)))) (joins 𝓛 γ i g h 1 most) $
        learn ! (λ met. use1 𝓛 (‵ (share_of γ i g full_share)) (whole_out 𝓛 γ i g) $
        use1 𝓛 (raw (upd 𝓤 ⟦ share_of γ i h' full_share ⟧)) (resets_now 𝓛 γ i g h') $ settle 𝓛 Z (‵ (share_of γ i h' full_share)) $
        use1 𝓛 (‵ (U h' (2 ^ 63))) (whole_in 𝓛 γ i h') $
        suffices ! _ (upd_i 𝓤 Z) $ use1 𝓛 (given ((2 ^ 63) ≤ 2 ^ 63) (‵ (U h' 1) ⊛ ‵ (U h' most))) (splits 𝓛 γ i h' (2 ^ 63) 1 most (omega arith)
        (omega arith) (omega arith)) $ learn ! (λ fits. done !))

    differ : (a b : ℕ) (g w : Gv) (Is : Gv → Type 0) → Is g → (Is w → ⊥) → (Z : Pr) → ⟦ part γ i b w 1 ⟧ ∗ ⟦ U (agreed_on a g) most ⟧ ⊢ Z
    differ a b g w Is yes_ no_ Z = qed 𝓛 (‵ (part γ i b w 1) ∷ ‵ (U (agreed_on a g) most) ∷ []) ∵ fsplit ! $ move ! (0 ∷ 2 ∷ []) $
        use2 𝓛 (given (Meets (agreed_on b w) (agreed_on a g) 1 most) (‵ (U (agreed_on b w) 1) ⊛ ‵ (U (agreed_on a g) most))) (apart_at 𝓛 γ i (agreed_on b w)
        (agreed_on a g) 1 most) $ learn ! (λ met.
        absurd (no_ (subst Is (let same = (coded× coded_ℕ itself).inj (b, w) (a, g) met.values in sym (λ j. (same j).1)) yes_)))

    module _ (R : RattleType) (FitsIn : R.Denot → Type 0) (p : Ptr) where
      abbrev X : Type 0
      X = R.Denot

      abbrev I : Fml
      I = rule R p γ i FitsIn

      abbrev St : Type 0
      St = Option (Option (ℕ × X))

      abbrev st : St → Fml
      st v = state R p γ i FitsIn v

      inside : (P Q : Pr) → ((v : St) → ⟦ st v ⟧ ∗ P ⊢ upd 𝓤 (⟦ I ⟧ ∗ Q)) → A.inv I ∗ P ⊢ H.⇛ Q
      inside P Q k = qed 𝓛 (‵ (finv I) ∷ raw P ∷ []) ∵ suffices ! _ (𝓛.invs.inv_acc I Q) $ frame ! $ assume ! (‵ I) $ fpick ! (λ v. by ! (k v))

      -- ---- out of a full place
      abbrev pub TakenOut : ℕ → Gv → ℕ → X → Pr
      TakenOut a g b x = guard 𝓤 ((g ≡ full_shown (R.coded.code x)) × FitsIn x) (⟦ U (agreed_on b (gnum 0)) most ⟧ ∗ ⟦ tokens a (2 ^ 63) ⟧ ∗ ⟦ flent (a ∷ [])
          (lies_at R full_share p x) ⟧)

      takes_in : (a : ℕ) (g : Gv) (b : ℕ) → IsValueCode g → (v : St)
          → ⟦ st v ⟧ ∗ (⟦ U (agreed_on a g) most ⟧ ∗ ⟦ tokens a most ⟧ ∗ ⟦ tokens b 1 ⟧) ⊢ upd 𝓤 (⟦ I ⟧ ∗ ex 𝓤 (TakenOut a g b))
      takes_in a g b full None = qed 𝓛 (‵ (st None) ∷ ‵ (U (agreed_on a g) most) ∷ ‵ (tokens a most) ∷ ‵ (tokens b 1) ∷ []) ∵
          fpick ! (λ c. keep ! (0 ∷ 1 ∷ []) $ by ! (differ a c g (gnum 0) IsValueCode full (λ z. z) _))
      takes_in a g b full (Some None) = qed 𝓛 (‵ (st (Some None)) ∷ ‵ (U (agreed_on a g) most) ∷ ‵ (tokens a most) ∷ ‵ (tokens b 1) ∷ []) ∵
          fpick ! (λ c. fsplit ! $ keep ! (0 ∷ 2 ∷ []) $ by ! (differ a c g gnil IsValueCode full (λ z. z) _))
      takes_in a g b full (Some (Some v)) = let c : ℕ = v.0 in let x : X = v.1 in let w : Gv = full_shown (R.coded.code x) in
          let Z : Pr = ⟦ I ⟧ ∗ ex 𝓤 (TakenOut a g b) in let h : Gv = agreed_on b (gnum 0) in
          qed 𝓛 (‵ (st (Some (Some v))) ∷ ‵ (U (agreed_on a g) most) ∷ ‵ (tokens a most) ∷ ‵ (tokens b 1) ∷ []) ∵ fsplit ! $ fpick ! (λ fits. drop ! $
          fsplit ! $ fsplit ! $
          move ! (0 ∷ 3 ∷ []) $
          use2 𝓛 (given (Meets (agreed_on c w) (agreed_on a g) 1 most) (‵ (U (agreed_on c w) 1) ⊛ ‵ (U (agreed_on a g) most))) (apart_at 𝓛 γ i (agreed_on c w)
          (agreed_on a g) 1 most) $ learn ! (λ met.
          let same = (coded× coded_ℕ itself).inj (c, w) (a, g) met.values in split ! $
          use2 𝓛 (raw (upd 𝓤 (⟦ U h 1 ⟧ ∗ ⟦ U h most ⟧))) (turns (agreed_on c w) (agreed_on a g) h) $ settle 𝓛 Z (‵ (U h 1) ⊛ ‵ (U h most)) $ split ! $
          suffices ! _ (upd_i 𝓤 Z) $
          -- [1; most; the place's token; what is lent; the others' tokens; the new token]
          move ! (0 ∷ 5 ∷ []) $ fjoin ! $ fpack ! ℕ (λ m. part γ i m (gnum 0) 1) b $ fpack ! St st None $ frame ! $
          show ! (TakenOut a g b) x $ check ! (sym (λ j. (same j).1), fits) $ frame ! $
          rewrite ! 0 (λ (m : ℕ). ‵ (tokens m 1)) (λ j. (same j).0) refl $ move ! (1 ∷ []) $ fsplit ! $ drop ! $
          rewrite ! 0 (λ (m : ℕ). ‵ (flent (m ∷ []) (lies_at R full_share p x))) (λ j. (same j).0) refl $
          move ! (1 ∷ 2 ∷ []) $ use2 𝓛 (‵ (tokens a (1 + most))) (tokens_glue 𝓛 a 1 most (omega arith) (omega arith)) $
          rewrite ! 0 (λ (m : ℕ). ‵ (tokens a m)) (let e : 1 + most ≡ 2 ^ 63 = omega arith in e) refl $ done !))

      pub takes_out : (a : ℕ) (g : Gv) (b : ℕ) → IsValueCode g
          → A.inv I ∗ (⟦ U (agreed_on a g) most ⟧ ∗ ⟦ tokens a most ⟧ ∗ ⟦ tokens b 1 ⟧) ⊢ H.⇛ (ex 𝓤 (TakenOut a g b))
      takes_out a g b full = inside (⟦ U (agreed_on a g) most ⟧ ∗ ⟦ tokens a most ⟧ ∗ ⟦ tokens b 1 ⟧) (ex 𝓤 (TakenOut a g b)) (takes_in a g b full)

      -- ---- the room comes back
      leaves_in : (b : ℕ) (v : St) → ⟦ st v ⟧ ∗ (⟦ U (agreed_on b (gnum 0)) most ⟧ ∗ ⟦ vacancy R p ⟧) ⊢ upd 𝓤 (⟦ I ⟧ ∗ ⟦ U (agreed_on b gnil) most ⟧)
      leaves_in b None = let Z : Pr = ⟦ I ⟧ ∗ ⟦ U (agreed_on b gnil) most ⟧ in let h : Gv = agreed_on b gnil in
          let h' : Gv = agreed_on b (gnum 0) in qed 𝓛 (‵ (st None) ∷ ‵ (U h' most) ∷ ‵ (vacancy R p) ∷ []) ∵ fpick ! (λ c. fsplit ! $ move ! (0 ∷ 2 ∷ []) $
          use2 𝓛 (given (Meets (agreed_on c (gnum 0)) h' 1 most) (‵ (U (agreed_on c (gnum 0)) 1) ⊛ ‵ (U h' most)))
          (apart_at 𝓛 γ i (agreed_on c (gnum 0)) h' 1 most) $ learn ! (λ met.
          let same = (coded× coded_ℕ itself).inj (c, gnum 0) (b, gnum 0) met.values in split ! $
          use2 𝓛 (raw (upd 𝓤 (⟦ U h 1 ⟧ ∗ ⟦ U h most ⟧))) (turns (agreed_on c (gnum 0)) h' h) $ settle 𝓛 Z (‵ (U h 1) ⊛ ‵ (U h most)) $ split ! $
          suffices ! _ (upd_i 𝓤 Z) $
          move ! (2 ∷ []) $ rewrite ! 0 (λ (m : ℕ). ‵ (tokens m 1)) (λ j. (same j).0) refl $ move ! (1 ∷ 0 ∷ []) $ fjoin ! $ move ! (0 ∷ 2 ∷ []) $ fjoin ! $
          fpack ! ℕ (λ m. fsep (part γ i m gnil 1) (vacancy R p)) b $ fpack ! St st (Some None) $ done !))
      leaves_in b (Some None) = qed 𝓛 (‵ (st (Some None)) ∷ ‵ (U (agreed_on b (gnum 0)) most) ∷ ‵ (vacancy R p) ∷ []) ∵ fpick ! (λ c. fsplit ! $
          keep ! (0 ∷ 2 ∷ []) $ by ! (differ b c (gnum 0) gnil IsOut tt (λ z. z) _))
      leaves_in b (Some (Some v)) = qed 𝓛 (‵ (st (Some (Some v))) ∷ ‵ (U (agreed_on b (gnum 0)) most) ∷ ‵ (vacancy R p) ∷ []) ∵ fsplit ! $
          fpick ! (λ fits. drop ! $ fsplit ! $ keep ! (0 ∷ 2 ∷ []) $ by ! (differ b v.0 (gnum 0) (full_shown (R.coded.code v.1)) IsOut tt (λ z. z) _))

      pub leaves_room : (b : ℕ) → A.inv I ∗ (⟦ U (agreed_on b (gnum 0)) most ⟧ ∗ ⟦ vacancy R p ⟧) ⊢ H.⇛ ⟦ U (agreed_on b gnil) most ⟧
      leaves_room b = inside (⟦ U (agreed_on b (gnum 0)) most ⟧ ∗ ⟦ vacancy R p ⟧) ⟦ U (agreed_on b gnil) most ⟧ (leaves_in b)

      -- ---- into a vacant place
      opens_in : (b : ℕ) (v : St) → ⟦ st v ⟧ ∗ ⟦ U (agreed_on b gnil) most ⟧ ⊢ upd 𝓤 (⟦ I ⟧ ∗ (⟦ U (agreed_on b (gnum 0)) most ⟧ ∗ ⟦ vacancy R p ⟧))
      opens_in b None = qed 𝓛 (‵ (st None) ∷ ‵ (U (agreed_on b gnil) most) ∷ []) ∵ fpick ! (λ c. by ! (differ b c gnil (gnum 0) IsVacant tt (λ z. z) _))
      opens_in b (Some None) = let h : Gv = agreed_on b (gnum 0) in let h' : Gv = agreed_on b gnil in
          let Z : Pr = ⟦ I ⟧ ∗ (⟦ U h most ⟧ ∗ ⟦ vacancy R p ⟧) in qed 𝓛 (‵ (st (Some None)) ∷ ‵ (U h' most) ∷ []) ∵ fpick ! (λ c. fsplit ! $ fsplit ! $
          move ! (0 ∷ 3 ∷ []) $
          use2 𝓛 (given (Meets (agreed_on c gnil) h' 1 most) (‵ (U (agreed_on c gnil) 1) ⊛ ‵ (U h' most))) (apart_at 𝓛 γ i (agreed_on c gnil) h' 1 most) $
          learn ! (λ met.
          let same = (coded× coded_ℕ itself).inj (c, gnil) (b, gnil) met.values in split ! $
          use2 𝓛 (raw (upd 𝓤 (⟦ U h 1 ⟧ ∗ ⟦ U h most ⟧))) (turns (agreed_on c gnil) h' h) $ settle 𝓛 Z (‵ (U h 1) ⊛ ‵ (U h most)) $ split ! $
          suffices ! _ (upd_i 𝓤 Z) $
          move ! (2 ∷ []) $ rewrite ! 0 (λ (m : ℕ). ‵ (tokens m 1)) (λ j. (same j).0) refl $ move ! (1 ∷ 0 ∷ []) $ fjoin ! $
          fpack ! ℕ (λ m. part γ i m (gnum 0) 1) b $ fpack ! St st None $ frame ! $ done !))
      opens_in b (Some (Some v)) = qed 𝓛 (‵ (st (Some (Some v))) ∷ ‵ (U (agreed_on b gnil) most) ∷ []) ∵ fsplit ! $ fpick ! (λ fits. drop ! $ fsplit ! $
          keep ! (0 ∷ 2 ∷ []) $ by ! (differ b v.0 gnil (full_shown (R.coded.code v.1)) IsVacant tt (λ z. z) _))

      pub opens_room : (b : ℕ) → A.inv I ∗ ⟦ U (agreed_on b gnil) most ⟧ ⊢ H.⇛ (⟦ U (agreed_on b (gnum 0)) most ⟧ ∗ ⟦ vacancy R p ⟧)
      opens_room b = inside ⟦ U (agreed_on b gnil) most ⟧ (⟦ U (agreed_on b (gnum 0)) most ⟧ ∗ ⟦ vacancy R p ⟧) (opens_in b)

      abbrev Whole : X → Fml
      Whole x = lies_at R full_share p x

      fills_in : (b : ℕ) (x : X) → FitsIn x → (v : St)
          → ⟦ st v ⟧ ∗ (⟦ U (agreed_on b (gnum 0)) most ⟧ ∗ ⟦ fsep (lent_at R p x (b ∷ [])) (flent (b ∷ []) (Whole x)) ⟧)
          ⊢ upd 𝓤 (⟦ I ⟧ ∗ ⟦ U (agreed_on b (full_shown (R.coded.code x))) most ⟧)
      fills_in b x fits None = let w : Gv = full_shown (R.coded.code x) in let h : Gv = agreed_on b w in let h' : Gv = agreed_on b (gnum 0) in
          let Z : Pr = ⟦ I ⟧ ∗ ⟦ U h most ⟧ in let Lent : Fml = fsep (lent_at R p x (b ∷ [])) (flent (b ∷ []) (Whole x)) in
          qed 𝓛 (‵ (st None) ∷ ‵ (U h' most) ∷ ‵ Lent ∷ []) ∵ fpick ! (λ c. fsplit ! $ move ! (0 ∷ 2 ∷ []) $
          use2 𝓛 (given (Meets (agreed_on c (gnum 0)) h' 1 most) (‵ (U (agreed_on c (gnum 0)) 1) ⊛ ‵ (U h' most)))
          (apart_at 𝓛 γ i (agreed_on c (gnum 0)) h' 1 most) $ learn ! (λ met.
          let same = (coded× coded_ℕ itself).inj (c, gnum 0) (b, gnum 0) met.values in split ! $
          use2 𝓛 (raw (upd 𝓤 (⟦ U h 1 ⟧ ∗ ⟦ U h most ⟧))) (turns (agreed_on c (gnum 0)) h' h) $ settle 𝓛 Z (‵ (U h 1) ⊛ ‵ (U h most)) $ split ! $
          suffices ! _ (upd_i 𝓤 Z) $
          move ! (2 ∷ []) $ rewrite ! 0 (λ (m : ℕ). ‵ (tokens m 1)) (λ j. (same j).0) refl $ move ! (1 ∷ 0 ∷ []) $ fjoin ! $ move ! (0 ∷ 2 ∷ []) $ fjoin ! $
          nothing ! $ fpack ! (FitsIn x) (λ _. ftrue) fits $ fjoin ! $ fpack ! St st (Some (Some (b, x))) $ done !))
      fills_in b x fits (Some None) = qed 𝓛 (‵ (st (Some None)) ∷ ‵ (U (agreed_on b (gnum 0)) most) ∷ ‵ (fsep (lent_at R p x (b ∷ [])) (flent (b ∷ [])
          (Whole x))) ∷ []) ∵ fpick ! (λ c. fsplit ! $ keep ! (0 ∷ 2 ∷ []) $ by ! (differ b c (gnum 0) gnil IsOut tt (λ z. z) _))
      fills_in b x fits (Some (Some v)) = qed 𝓛 (‵ (st (Some (Some v))) ∷ ‵ (U (agreed_on b (gnum 0)) most) ∷ ‵ (fsep (lent_at R p x (b ∷ [])) (flent (b ∷ [])
          (Whole x))) ∷ []) ∵ fsplit ! $ fpick ! (λ _. drop ! $ fsplit ! $ keep ! (0 ∷ 2 ∷ []) $
          by ! (differ b v.0 (gnum 0) (full_shown (R.coded.code v.1)) IsOut tt (λ z. z) _))

      pub fills : (b : ℕ) (x : X) → FitsIn x → A.inv I ∗ (⟦ U (agreed_on b (gnum 0)) most ⟧ ∗ ⟦ fsep (lent_at R p x (b ∷ [])) (flent (b ∷ []) (Whole x)) ⟧)
          ⊢ H.⇛ ⟦ U (agreed_on b (full_shown (R.coded.code x))) most ⟧
      fills b x fits = inside (⟦ U (agreed_on b (gnum 0)) most ⟧ ∗ ⟦ fsep (lent_at R p x (b ∷ [])) (flent (b ∷ [])
          (Whole x)) ⟧) ⟦ U (agreed_on b (full_shown (R.coded.code x))) most ⟧ (fills_in b x fits)

      module _ (x : X) (l μ : Lft) (q : Share) (lends : Lends 𝓛 (Whole x) (lent_at R p x) l) (inc : Incl μ l) where
        -- the value is shared for the lifetime
        pub freezes : (a : ℕ) (e : Share) → ⟦ Whole x ⟧ ∗ ⟦ flft (a ∷ []) e ⟧ ∗ A.lft μ q
            ⊢ H.⇛ (⟦ fsep (lent_at R p x (a ∷ [])) (flent (a ∷ []) (Whole x)) ⟧ ∗ ⟦ flft (a ∷ []) e ⟧ ∗ A.lft μ q)
        freezes a e = qed 𝓛 (‵ (Whole x) ∷ ‵ (flft (a ∷ []) e) ∷ ‵ (flft μ q) ∷ []) ∵ updating ! $ bor_new ! tt (a ∷ []) $ move ! (2 ∷ 3 ∷ []) $ join ! $
            move ! (1 ∷ 0 ∷ []) $
            use2 𝓛 (later (‵ (lent_at R p x (a ∷ [])) ⊛ ‵ (flft (a ∷ []) e) ⊛ ‵ (flft μ q)))
            (lends (a ∷ []) ((a ∷ [], e) ∷ (μ, q) ∷ []) (Incl-trans (meet_⊑_right (a ∷ []) μ) inc) (meet_⊑_left (a ∷ []) μ)) $ await ! tt $ split3 ! $
            move ! (0 ∷ 3 ∷ []) $ fjoin ! $ now ! $ done !
