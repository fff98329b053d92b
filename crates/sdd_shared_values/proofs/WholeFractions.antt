-- The units of a number in several fractions are all its units, and are dealt to the fractions again. Assumes `Logic`.
use Rattle.std.proofs.Common.{◌≡◌, ℕ, zero, suc, ◌+◌, ◌^◌, ◌<◌, ◌≤◌, List, [], ◌∷◌, ◌++◌, take, drop, length, sym, refl, ap, ◌∙◌, subst, arith}
use seplogic.Ra.Ura.{Ura}
use base.Stored.{Gv, coded×, coded_ℕ}
use Rattle.atomic_table.specs.Seated.{itself}
use base.Logic.{SProp, ent, sep, id⊢, guard, guard_i}
use base.Fml.{Fml, ftrue}
use types.Logic.{Logic, sem}
use types.Kit.{‵, ◌⊛◌, given, ◌$◌, ◌∵◌, !, qed, by, move, drop as drops, frame, use1, use2, split, fsplit, fjoin, learn, check, rewrite, done}
use denote.Steps.{nothing}
use Rattle.sdd_rights.specs.Units.{units, tokens}
use Rattle.sdd_rights.proofs.Steps.{splits, joins, apart_at, tokens_cut, tokens_glue, Meets}
use Rattle.sdd_shared_values.specs.ValueFractions.{FractionContent, agreed_on, part, holding, holdings}
use Rattle.sdd_shared_values.specs.SharedValues.{content, most, units_in, AllOf, AreUnlentFractions, AreWhole, turned, top_turned}

pub top_long : (a : ℕ) (g : Gv) (n : ℕ) (ls : List FractionContent) → length (top_turned a g n ls) ≡ length ls
top_long a g zero ls = refl
top_long a g (suc n) [] = refl
top_long a g (suc n) (l ∷ ls) = ap suc (top_long a g n ls)

take_drop : (n : ℕ) (ls : List FractionContent) → take n ls ++ drop n ls ≡ ls
take_drop zero ls = refl
take_drop (suc n) [] = refl
take_drop (suc n) (l ∷ ls) = ap (λ (ms : List FractionContent). l ∷ ms) (take_drop n ls)

module _ {M : Type 1} {𝓤 : Ura M} (𝓛 : Logic 𝓤) where
  abbrev Pr : Type 2
  Pr = SProp 𝓤

  abbrev ⟦◌⟧ : Fml → Pr
  ⟦ P ⟧ = sem 𝓛 P

  abbrev ◌⊢◌ : Pr → Pr → Type 1
  P ⊢ Q = ent 𝓤 P Q

  abbrev ◌∗◌ : Pr → Pr → Pr
  P ∗ Q = sep 𝓤 P Q

  infix 26 ◌⊢◌
  infixr 35 ◌∗◌
  cut_top : (n : ℕ) (ls : List FractionContent) → ⟦ holdings ls ⟧ ⊢ ⟦ holdings (take n ls) ⟧ ∗ ⟦ holdings (drop n ls) ⟧
  cut_top zero ls = qed 𝓛 (‵ (holdings ls) ∷ []) ∵ nothing ! $ done !
  cut_top (suc n) [] = qed 𝓛 (‵ ftrue ∷ []) ∵ nothing ! $ done !
  cut_top (suc n) (l ∷ ls) = qed 𝓛 (‵ (holding l) ∷ ‵ (holdings ls) ∷ []) ∵ move ! (1 ∷ []) $
      use1 𝓛 (‵ (holdings (take n ls)) ⊛ ‵ (holdings (drop n ls))) (cut_top n ls) $ split ! $ move ! (2 ∷ 0 ∷ []) $ fjoin ! $ done !

  glue_top : (fs bs : List FractionContent) → ⟦ holdings fs ⟧ ∗ ⟦ holdings bs ⟧ ⊢ ⟦ holdings (fs ++ bs) ⟧
  glue_top [] bs = qed 𝓛 (‵ ftrue ∷ ‵ (holdings bs) ∷ []) ∵ drops ! $ done !
  glue_top (f ∷ fs) bs = qed 𝓛 (‵ (holdings (f ∷ fs)) ∷ ‵ (holdings bs) ∷ []) ∵ fsplit ! $ frame ! $ by ! (glue_top fs bs)

  module _ (γ i : ℕ) where
    abbrev pile : ℕ → Gv → ℕ → Fml
    pile a g zero = ftrue
    pile a g (suc n) = part γ i a g (suc n)

    cuts : (a : ℕ) (g : Gv) (k m n : ℕ) → 0 < m → 0 < n → m + n ≡ k → ⟦ part γ i a g k ⟧ ⊢ ⟦ part γ i a g m ⟧ ∗ ⟦ part γ i a g n ⟧
    cuts a g k m n pm pn sum = let w : Gv = agreed_on a g in qed 𝓛 (‵ (units γ i w k) ∷ ‵ (tokens a k) ∷ []) ∵
        use1 𝓛 (given (k ≤ 2 ^ 63) (‵ (units γ i w m) ⊛ ‵ (units γ i w n))) (splits 𝓛 γ i w k m n pm pn sum) $ learn ! (λ fits. split ! $ move ! (2 ∷ []) $
        use1 𝓛 (‵ (tokens a m) ⊛ ‵ (tokens a n)) (tokens_cut 𝓛 a k m n pm pn sum fits) $ split ! $ move ! (2 ∷ 0 ∷ []) $ fjoin ! $ move ! (2 ∷ 1 ∷ []) $
        fjoin ! $ move ! (1 ∷ 0 ∷ []) $ done !)

    glues : (a : ℕ) (g : Gv) (m n : ℕ) → ⟦ part γ i a g m ⟧ ∗ ⟦ part γ i a g n ⟧ ⊢ ⟦ part γ i a g (m + n) ⟧
    glues a g m n = let w : Gv = agreed_on a g in qed 𝓛 (‵ (part γ i a g m) ∷ ‵ (part γ i a g n) ∷ []) ∵ fsplit ! $ move ! (2 ∷ []) $ fsplit ! $
        move ! (2 ∷ 0 ∷ []) $
        use2 𝓛 (given (Meets w w m n) (‵ (units γ i w (m + n)))) (joins 𝓛 γ i w w m n) $ learn ! (λ met. let some = met.some in let fits = met.fits in
        move ! (2 ∷ 1 ∷ []) $ use2 𝓛 (‵ (tokens a (m + n))) (tokens_glue 𝓛 a m n (omega arith) fits) $ move ! (1 ∷ 0 ∷ []) $ fjoin ! $ done !)

    to_part : (a : ℕ) (g : Gv) (n : ℕ) → 0 < n → ⟦ pile a g n ⟧ ⊢ ⟦ part γ i a g n ⟧
    to_part a g zero p = absurd (omega arith)
    to_part a g (suc n) p = id⊢ 𝓤 _

    to_pile : (a : ℕ) (g : Gv) (n : ℕ) → ⟦ part γ i a g n ⟧ ⊢ ⟦ pile a g n ⟧
    to_pile a g zero = qed 𝓛 (‵ (part γ i a g zero) ∷ []) ∵ drops ! $ nothing ! $ done !
    to_pile a g (suc n) = id⊢ 𝓤 _

    adds : (a : ℕ) (g : Gv) (n u : ℕ) → ⟦ part γ i a g n ⟧ ∗ ⟦ pile a g u ⟧ ⊢ ⟦ pile a g (n + u) ⟧
    adds a g n zero = qed 𝓛 (‵ (part γ i a g n) ∷ ‵ ftrue ∷ []) ∵ move ! (1 ∷ []) $ drops ! $
        rewrite ! 0 (λ (m : ℕ). ‵ (part γ i a g m)) (let e : n ≡ n + 0 = omega arith in e) refl $ by ! (to_pile a g (n + 0))
    adds a g n (suc u) = qed 𝓛 (‵ (part γ i a g n) ∷ ‵ (part γ i a g (suc u)) ∷ []) ∵ use2 𝓛 (‵ (part γ i a g (n + suc u))) (glues a g n (suc u)) $
        by ! (to_pile a g (n + suc u))

    takes : (a : ℕ) (g : Gv) (n u : ℕ) → 0 < n → ⟦ pile a g (n + u) ⟧ ⊢ ⟦ part γ i a g n ⟧ ∗ ⟦ pile a g u ⟧
    takes a g n zero p = qed 𝓛 (‵ (pile a g (n + 0)) ∷ []) ∵ rewrite ! 0 (λ (m : ℕ). ‵ (pile a g m)) (let e : n + 0 ≡ n = omega arith in e) refl $
        use1 𝓛 (‵ (part γ i a g n)) (to_part a g n p) $ nothing ! $ move ! (1 ∷ 0 ∷ []) $ done !
    takes a g n (suc u) p = qed 𝓛 (‵ (pile a g (n + suc u)) ∷ []) ∵ use1 𝓛 (‵ (part γ i a g (n + suc u))) (to_part a g (n + suc u) (omega arith)) $
        by ! (cuts a g (n + suc u) n (suc u) p (omega arith) refl)

    collect : (a : ℕ) (g : Gv) (fs : List FractionContent) → AllOf γ i a g fs → ⟦ holdings fs ⟧ ⊢ ⟦ pile a g (units_in fs) ⟧
    collect a g [] all = id⊢ 𝓤 _
    collect a g (f ∷ fs) all = qed 𝓛 (‵ (holding f) ∷ ‵ (holdings fs) ∷ []) ∵ rewrite ! 0 (λ (l : FractionContent). ‵ (holding l)) all.0 refl $ move !
        (1 ∷ []) $
        use1 𝓛 (‵ (pile a g (units_in fs))) (collect a g fs all.2) $ move ! (1 ∷ 0 ∷ []) $ by ! (adds a g f.units (units_in fs))

    spread : (a b : ℕ) (g h : Gv) (fs : List FractionContent) → AllOf γ i a g fs → ⟦ pile b h (units_in fs) ⟧ ⊢ ⟦ holdings (turned b h fs) ⟧
    spread a b g h [] all = id⊢ 𝓤 _
    spread a b g h (f ∷ fs) all = qed 𝓛 (‵ (pile b h (f.units + units_in fs)) ∷ []) ∵
        use1 𝓛 (‵ (part γ i b h f.units) ⊛ ‵ (pile b h (units_in fs))) (takes b h f.units (units_in fs) all.1) $ split ! $
        rewrite ! 0 (λ (l : FractionContent). ‵ (holding l)) (ap (λ (l : FractionContent). record l { lifetime = b; shown = h }) (sym all.0)) refl $ frame ! $
        by ! (spread a b g h fs all.2)

    one_agrees : (a : ℕ) (g : Gv) (m : ℕ) (f : FractionContent) → f ≡ content γ i f.lifetime f.shown f.units
        → ⟦ part γ i a g m ⟧ ∗ ⟦ holding f ⟧ ⊢ guard 𝓤 ((a ≡ f.lifetime) × (g ≡ f.shown)) (⟦ part γ i a g m ⟧ ∗ ⟦ holding f ⟧)
    one_agrees a g m f is = let v : Gv = agreed_on a g in let w : Gv = agreed_on f.lifetime f.shown in qed 𝓛 (‵ (part γ i a g m) ∷ ‵ (holding f) ∷ []) ∵
        move ! (1 ∷ []) $ rewrite ! 0 (λ (l : FractionContent). ‵ (holding l)) is refl $ fsplit ! $ move ! (2 ∷ []) $ fsplit ! $ move ! (0 ∷ 2 ∷ []) $
        use2 𝓛 (given (Meets v w m f.units) (‵ (units γ i v m) ⊛ ‵ (units γ i w f.units))) (apart_at 𝓛 γ i v w m f.units) $
        learn ! (λ met. let same = (coded× coded_ℕ itself).inj (a, g) (f.lifetime, f.shown) met.values in split ! $
        check ! ((λ j. (same j).0), (λ j. (same j).1)) $ move ! (0 ∷ 2 ∷ []) $ fjoin ! $ move ! (1 ∷ 2 ∷ []) $ fjoin ! $
        rewrite ! 0 (λ (l : FractionContent). ‵ (holding l)) (sym is) refl $ move ! (1 ∷ 0 ∷ []) $ done !)

    all_agree : (a : ℕ) (g : Gv) (m : ℕ) (fs : List FractionContent) → AreUnlentFractions γ i fs
        → ⟦ part γ i a g m ⟧ ∗ ⟦ holdings fs ⟧ ⊢ guard 𝓤 (AllOf γ i a g fs) (⟦ part γ i a g m ⟧ ∗ ⟦ holdings fs ⟧)
    all_agree a g m [] all = guard_i 𝓤 (Unit {0}) _ tt
    all_agree a g m (f ∷ fs) all = qed 𝓛 (‵ (part γ i a g m) ∷ ‵ (holdings (f ∷ fs)) ∷ []) ∵ move ! (1 ∷ []) $ fsplit ! $ move ! (2 ∷ 0 ∷ []) $
        use2 𝓛 (given ((a ≡ f.lifetime) × (g ≡ f.shown)) (‵ (part γ i a g m) ⊛ ‵ (holding f))) (one_agrees a g m f all.0) $ learn ! (λ e. split ! $
        move ! (0 ∷ 2 ∷ []) $
        use2 𝓛 (given (AllOf γ i a g fs) (‵ (part γ i a g m) ⊛ ‵ (holdings fs))) (all_agree a g m fs all.2) $ learn ! (λ es. split ! $
        check ! (all.0 ∙ (λ j. content γ i (sym e.0 j) (sym e.1 j) f.units), all.1, es) $ move ! (2 ∷ 1 ∷ []) $ fjoin ! $ move ! (1 ∷ 0 ∷ []) $ done !))

    agree_first : (f : FractionContent) (fs : List FractionContent) → AreUnlentFractions γ i (f ∷ fs) → ⟦ holdings (f ∷ fs) ⟧
        ⊢ guard 𝓤 (AllOf γ i f.lifetime f.shown (f ∷ fs)) ⟦ holdings (f ∷ fs) ⟧
    agree_first f fs all = let a : ℕ = f.lifetime in let g : Gv = f.shown in qed 𝓛 (‵ (holdings (f ∷ fs)) ∷ []) ∵ fsplit ! $
        rewrite ! 0 (λ (l : FractionContent). ‵ (holding l)) all.0 refl $
        use2 𝓛 (given (AllOf γ i a g fs) (‵ (part γ i a g f.units) ⊛ ‵ (holdings fs))) (all_agree a g f.units fs all.2) $ learn ! (λ es. split ! $
        check ! (all.0, all.1, es) $
        use1 𝓛 (‵ (holding (content γ i a g f.units))) (id⊢ 𝓤 _) $ rewrite ! 0 (λ (l : FractionContent). ‵ (holding l)) (sym all.0) refl $ fjoin ! $ done !)

    -- the fractions that were taken last agree on what the newest shows
    pub agree_top : (n : ℕ) (ls : List FractionContent) (f : FractionContent) (fs : List FractionContent) → take n ls ≡ f ∷ fs
        → AreUnlentFractions γ i (take n ls) → units_in (take n ls) ≡ most
        → ⟦ holdings ls ⟧ ⊢ guard 𝓤 (AreWhole γ i f.lifetime f.shown n ls) ⟦ holdings ls ⟧
    agree_top n ls f fs e all sum = qed 𝓛 (‵ (holdings ls) ∷ []) ∵ use1 𝓛 (‵ (holdings (take n ls)) ⊛ ‵ (holdings (drop n ls))) (cut_top n ls) $ split ! $
        rewrite ! 0 (λ (l : List FractionContent). ‵ (holdings l)) e refl $
        use1 𝓛 (given (AllOf γ i f.lifetime f.shown (f ∷ fs)) (‵ (holdings (f ∷ fs))))
        (agree_first f fs (subst (λ (l : List FractionContent). AreUnlentFractions γ i l) e all)) $
        learn ! (λ es. check ! (subst (λ (l : List FractionContent). AllOf γ i f.lifetime f.shown l) (sym e) es, sum) $
        rewrite ! 0 (λ (l : List FractionContent). ‵ (holdings l)) (sym e) refl $ use2 𝓛 (‵ (holdings (take n ls ++ drop n ls))) (glue_top (take n ls)
        (drop n ls)) $
        rewrite ! 0 (λ (l : List FractionContent). ‵ (holdings l)) (take_drop n ls) refl $ done !)

    pub whole_out : (a : ℕ) (g : Gv) (n : ℕ) (ls : List FractionContent) → AreWhole γ i a g n ls
        → ⟦ holdings ls ⟧ ⊢ ⟦ part γ i a g most ⟧ ∗ ⟦ holdings (drop n ls) ⟧
    whole_out a g n ls w = qed 𝓛 (‵ (holdings ls) ∷ []) ∵ use1 𝓛 (‵ (holdings (take n ls)) ⊛ ‵ (holdings (drop n ls))) (cut_top n ls) $ split ! $
        use1 𝓛 (‵ (pile a g (units_in (take n ls)))) (collect a g (take n ls) w.0) $ rewrite ! 0 (λ (m : ℕ). ‵ (pile a g m)) w.1 refl $
        use1 𝓛 (‵ (part γ i a g most)) (to_part a g most (omega arith)) $ done !

    pub whole_in : (a : ℕ) (g : Gv) (n : ℕ) (ls : List FractionContent) (b : ℕ) (h : Gv) → AreWhole γ i a g n ls
        → ⟦ part γ i b h most ⟧ ∗ ⟦ holdings (drop n ls) ⟧ ⊢ ⟦ holdings (top_turned b h n ls) ⟧
    whole_in a g n ls b h w = qed 𝓛 (‵ (part γ i b h most) ∷ ‵ (holdings (drop n ls)) ∷ []) ∵ use1 𝓛 (‵ (pile b h most)) (to_pile b h most) $
        rewrite ! 0 (λ (m : ℕ). ‵ (pile b h m)) (sym w.1) refl $
        use1 𝓛 (‵ (holdings (turned b h (take n ls)))) (spread a b g h (take n ls) w.0) $ by ! (glue_top (turned b h (take n ls)) (drop n ls))
