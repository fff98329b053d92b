-- A value's lifetimes: its fractions are lent and come back, its lifetime begins and ends. Assumes `Logic`.
use Rattle.std.proofs.Common.{◌≡◌, ◌⊎◌, inl, inr, ℕ, zero, suc, ◌+◌, ◌-◌, ◌^◌, ◌<◌, ◌≤◌, List, [], ◌∷◌, length, sym, refl, subst, arith}
use Rattle.std.specs.Prelude.{Option, None, Some, slice_index_or, slice_set}
use lib.ListN.{length-set}
use seplogic.Ra.Ura.{Ura}
use base.Fraction.{full_share}
use base.FractionLaws.{Counts, Counts-all}
use base.Logic.{SProp, ent, sep, ex, guard, guard_i, never, never_e, id⊢, via}
use base.Fml.{Incl, Incl-trans, Lft, Share, Fml, ftrue, fex, fdead, flft, flent, fshr_bor}
use types.Logic.{Logic, sem}
use types.Kit.{‵, ◌⊛◌, some as exists, later, ◌$◌, ◌∵◌, !, qed, by, move, keep, drop, use1, use2, use3, split, split3, join, fsplit, fjoin, fpick, fpack, pick, show, frame, rewrite, updating, await, now, done}
use types.Tokens.{bor_new, bor_fracture, lent_back, lft_new, lft_end}
use contract.BorrowLft.{meet_⊑_left, meet_⊑_right}
use denote.RattleType.{RattleType}
use denote.RawPtr.{Ptr, lies_at}
use denote.Sharing.{ShrLaws, one}
use denote.SharingLaws.{contraction, one_shr_laws}
use denote.Struct.Lending.{lent_at, Lends}
use denote.Moves.{moves_from}
use denote.Steps.{nothing}
use Rattle.atomic_table.specs.Seated.{fact}
use Rattle.sdd_rights.specs.Units.{tokens}
use Rattle.sdd_rights.proofs.Steps.{tokens_in, tokens_cut, tokens_glue}
use Rattle.sdd_rights.proofs.Units.{counts-whole}
use Rattle.std.proofs.lemmas.Bool.{cases_eq as same-place}
use Rattle.sdd_values.specs.Block.{AreUnlent, IsFreeFor, lasts_in, fraction, fractions_of, rest, shared, held, spot}

pub home_set : (fractions : List (Option ℕ)) (r : ℕ) → AreUnlent fractions → AreUnlent (slice_set fractions r None)
home_set [] r home = tt
home_set (None ∷ fractions) zero home = home
home_set (None ∷ fractions) (suc r) home = home_set fractions r home
home_set (Some t ∷ fractions) r home = absurd home

pub all_home : (fractions : List (Option ℕ)) → ((r : ℕ) → slice_index_or fractions r None ≡ None) → AreUnlent fractions
all_home [] home = tt
all_home (s ∷ fractions) home = subst (λ (u : Option ℕ). AreUnlent (u ∷ fractions)) (sym (home 0)) (all_home fractions (λ r. home (suc r)))

module _ {M : Type 1} {𝓤 : Ura M} (𝓛 : Logic 𝓤) where
  open 𝓛 use {H, A}

  abbrev Pr : Type 2
  Pr = SProp 𝓤

  abbrev ⟦◌⟧ : Fml → Pr
  ⟦ P ⟧ = sem 𝓛 P

  abbrev ◌⊢◌ : Pr → Pr → Type 1
  P ⊢ Q = ent 𝓤 P Q

  abbrev ◌∗◌ : Pr → Pr → Pr
  P ∗ Q = sep 𝓤 P Q

  infix 26 ◌⊢◌
  infixr 35 ◌∗◌
  -- ---- one fraction
  lends : (a t : ℕ) → ⟦ tokens a 1 ⟧ ⊢ H.⇛ ⟦ fraction a (Some t) ⟧
  lends a t = qed 𝓛 (‵ (tokens a 1) ∷ []) ∵ updating ! $ fpick ! (λ e. fpick ! (λ c. bor_new ! tt (t ∷ []) $ bor_fracture ! tt (λ r. flft (a ∷ []) r) e $
      move ! (1 ∷ []) $ fpack ! (Counts 63 e 1) (λ _. flent (t ∷ []) (flft (a ∷ []) e)) c $
      fpack ! Share (λ x. fex (Counts 63 x 1) (λ _. flent (t ∷ []) (flft (a ∷ []) x))) e $ move ! (1 ∷ 0 ∷ []) $ fjoin ! $ now ! $ done !))

  comes_back : (a t : ℕ) → ⟦ fraction a (Some t) ⟧ ∗ ⟦ fdead (t ∷ []) ⟧ ⊢ H.⇛ ⟦ tokens a 1 ⟧
  comes_back a t = qed 𝓛 (‵ (fraction a (Some t)) ∷ ‵ (fdead (t ∷ [])) ∷ []) ∵ updating ! $ fsplit ! $ drop ! $ fpick ! (λ e. fpick ! (λ c. move !
      (1 ∷ 0 ∷ []) $
      lent_back ! tt $ fpack ! (Counts 63 e 1) (λ _. flft (a ∷ []) e) c $ fpack ! Share (λ x. fex (Counts 63 x 1) (λ _. flft (a ∷ []) x)) e $ now ! $ done !))

  one_back : (a t : ℕ) (s : Option ℕ) → IsFreeFor t s → ⟦ fraction a s ⟧ ∗ ⟦ fdead (t ∷ []) ⟧ ⊢ H.⇛ ⟦ fraction a None ⟧
  one_back a t s (inl e) = qed 𝓛 (‵ (fraction a s) ∷ ‵ (fdead (t ∷ [])) ∷ []) ∵ updating ! $ rewrite ! 0 (λ (u : Option ℕ). ‵ (fraction a u)) e refl $ now ! $
      keep ! (0 ∷ []) $ done !
  one_back a t s (inr e) = qed 𝓛 (‵ (fraction a s) ∷ ‵ (fdead (t ∷ [])) ∷ []) ∵ rewrite ! 0 (λ (u : Option ℕ). ‵ (fraction a u)) e refl $ by ! (comes_back a t)

  lends_on : (a t : ℕ) (s : Option ℕ) → IsFreeFor t s → ⟦ fraction a s ⟧ ⊢ H.⇛ ⟦ fraction a (Some t) ⟧
  lends_on a t s (inl e) = qed 𝓛 (‵ (fraction a s) ∷ []) ∵ rewrite ! 0 (λ (u : Option ℕ). ‵ (fraction a u)) e refl $ by ! (lends a t)
  lends_on a t s (inr e) = qed 𝓛 (‵ (fraction a s) ∷ []) ∵ updating ! $ rewrite ! 0 (λ (u : Option ℕ). ‵ (fraction a u)) e refl $ now ! $ done !

  -- ---- the fractions of a value
  settles : (a t r : ℕ) (fractions : List (Option ℕ)) → IsFreeFor t (slice_index_or fractions r None)
      → ⟦ fractions_of a fractions ⟧ ∗ ⟦ fdead (t ∷ []) ⟧ ⊢ H.⇛ ⟦ fractions_of a (slice_set fractions r None) ⟧
  settles a t r [] free = qed 𝓛 (‵ ftrue ∷ ‵ (fdead (t ∷ [])) ∷ []) ∵ updating ! $ now ! $ keep ! (0 ∷ []) $ done !
  settles a t zero (s ∷ fractions) free = qed 𝓛 (‵ (fractions_of a (s ∷ fractions)) ∷ ‵ (fdead (t ∷ [])) ∷ []) ∵ updating ! $ fsplit ! $ move ! (0 ∷ 2 ∷ []) $
      use2 𝓛 (later (‵ (fraction a None))) (one_back a t s free) $ await ! tt $ fjoin ! $ now ! $ done !
  settles a t (suc r) (s ∷ fractions) free = qed 𝓛 (‵ (fractions_of a (s ∷ fractions)) ∷ ‵ (fdead (t ∷ [])) ∷ []) ∵ updating ! $ fsplit ! $ move !
      (1 ∷ 2 ∷ []) $
      use2 𝓛 (later (‵ (fractions_of a (slice_set fractions r None)))) (settles a t r fractions free) $ await ! tt $ move !
      (1 ∷ 0 ∷ []) $ fjoin ! $ now ! $ done !

  -- the fraction of a reader is lent, and so its section lasts no longer than the lifetime
  lends_one : (a t r : ℕ) (fractions : List (Option ℕ)) → r < length fractions → IsFreeFor t (slice_index_or fractions r None)
      → ⟦ fractions_of a fractions ⟧ ⊢ H.⇛ (⟦ fractions_of a (slice_set fractions r (Some t)) ⟧ ∗ ⟦ lasts_in t a ⟧)
  lends_one a t r [] near free = absurd (omega arith)
  lends_one a t zero (s ∷ fractions) near free = qed 𝓛 (‵ (fractions_of a (s ∷ fractions)) ∷ []) ∵ updating ! $ fsplit ! $
      use1 𝓛 (later (‵ (fraction a (Some t)))) (lends_on a t s free) $ await ! tt $ fsplit ! $
      use1 𝓛 (‵ (lasts_in t a) ⊛ ‵ (lasts_in t a)) (contraction 𝓛 (one (λ q. flft (a ∷ []) q)) (one_shr_laws (λ q. flft (a ∷ []) q)) (t ∷ [])) $ split ! $
      move ! (1 ∷ 2 ∷ []) $ fjoin ! $ move ! (0 ∷ 2 ∷ []) $ fjoin ! $ now ! $ done !
  lends_one a t (suc r) (s ∷ fractions) near free = qed 𝓛 (‵ (fractions_of a (s ∷ fractions)) ∷ []) ∵ updating ! $ fsplit ! $ move ! (1 ∷ []) $
      use1 𝓛 (later (‵ (fractions_of a (slice_set fractions r (Some t))) ⊛ ‵ (lasts_in t a))) (lends_one a t r fractions
      (omega arith) free) $ await ! tt $ split ! $
      move ! (2 ∷ 0 ∷ []) $ fjoin ! $ now ! $ done !

  gathers : (a k : ℕ) (fractions : List (Option ℕ)) → AreUnlent fractions → 0 < k → k + length fractions ≤ 2 ^ 63
      → ⟦ tokens a k ⟧ ∗ ⟦ fractions_of a fractions ⟧ ⊢ ⟦ tokens a (k + length fractions) ⟧
  gathers a k [] home some fits = qed 𝓛 (‵ (tokens a k) ∷ ‵ ftrue ∷ []) ∵ move ! (1 ∷ []) $ drop ! $
      rewrite ! 0 (λ (m : ℕ). ‵ (tokens a m)) (let e : k ≡ k + 0 = omega arith in e) refl $ done !
  gathers a k (None ∷ fractions) home some fits = qed 𝓛 (‵ (tokens a k) ∷ ‵ (fractions_of a (None ∷ fractions)) ∷ []) ∵ move ! (1 ∷ []) $ fsplit ! $
      move ! (2 ∷ 0 ∷ []) $
      use2 𝓛 (‵ (tokens a (k + 1))) (tokens_glue 𝓛 a k 1 (omega arith) (omega arith)) $
      use2 𝓛 (‵ (tokens a (k + 1 + length fractions))) (gathers a (k + 1) fractions home (omega arith) (omega arith)) $
      rewrite ! 0 (λ (m : ℕ). ‵ (tokens a m)) (let e : k + 1 + length fractions ≡ k + suc (length fractions) = omega arith in e) refl $ done !
  gathers a k (Some t ∷ fractions) home some fits = absurd home

  deals : (a k : ℕ) (fractions : List (Option ℕ)) → AreUnlent fractions → 0 < k → k + length fractions ≤ 2 ^ 63
      → ⟦ tokens a (k + length fractions) ⟧ ⊢ ⟦ tokens a k ⟧ ∗ ⟦ fractions_of a fractions ⟧
  deals a k [] home some fits = qed 𝓛 (‵ (tokens a (k + 0)) ∷ []) ∵ rewrite ! 0 (λ (m : ℕ). ‵ (tokens a m)) (let e : k + 0 ≡ k = omega arith in e) refl $
      nothing ! $ move ! (1 ∷ 0 ∷ []) $ done !
  deals a k (None ∷ fractions) home some fits = qed 𝓛 (‵ (tokens a (k + suc (length fractions))) ∷ []) ∵
      rewrite ! 0 (λ (m : ℕ). ‵ (tokens a m)) (let e : k + suc (length fractions) ≡ k + 1 + length fractions = omega arith in e) refl $
      use1 𝓛 (‵ (tokens a (k + 1)) ⊛ ‵ (fractions_of a fractions)) (deals a (k + 1) fractions home (omega arith) (omega arith)) $ split ! $
      use1 𝓛 (‵ (tokens a k) ⊛ ‵ (tokens a 1)) (tokens_cut 𝓛 a (k + 1) k 1 some (omega arith) refl (omega arith)) $ split ! $ frame ! $ fjoin ! $ done !
  deals a k (Some t ∷ fractions) home some fits = absurd home

  -- ---- a lifetime
  pub tokens_whole : (a : ℕ) → ⟦ tokens a (2 ^ 63) ⟧ ⊢ ⟦ flft (a ∷ []) full_share ⟧
  tokens_whole a = qed 𝓛 (‵ (tokens a (2 ^ 63)) ∷ []) ∵ fpick ! (λ e. fpick ! (λ c.
      by ! (subst (λ (x : Share). ⟦ flft (a ∷ []) e ⟧ ⊢ ⟦ flft (a ∷ []) x ⟧) (counts-whole e c) (id⊢ 𝓤 ⟦ flft (a ∷ []) e ⟧))))

  -- a lifetime that lasts is another than one that has ended
  pub other_lifetime : (a n : ℕ) → ⟦ flft (n ∷ []) full_share ⟧ ∗ ⟦ fdead (a ∷ []) ⟧
      ⊢ guard 𝓤 (n ≡ a → ⊥) (⟦ flft (n ∷ []) full_share ⟧ ∗ ⟦ fdead (a ∷ []) ⟧)
  other_lifetime a n = by_name (same-place n a)
    where
      Both : ℕ → Pr
      Both m = ⟦ flft (m ∷ []) full_share ⟧ ∗ ⟦ fdead (a ∷ []) ⟧

      Other : Pr
      Other = guard 𝓤 (n ≡ a → ⊥) (Both n)

      by_name : (n ≡ a) ⊎ (n ≡ a → ⊥) → Both n ⊢ Other
      by_name (inl e) = subst (λ (m : ℕ). Both m ⊢ Other) (sym e) (via 𝓤 (never 𝓤) (𝓛.lfts.lft-dead (a ∷ []) full_share) (never_e 𝓤 Other))
      by_name (inr other) = guard_i 𝓤 (n ≡ a → ⊥) (Both n) other

  pub all_tokens : (a : ℕ) (fractions : List (Option ℕ)) → AreUnlent fractions → length fractions < 2 ^ 63
      → ⟦ tokens a (rest fractions) ⟧ ∗ ⟦ fractions_of a fractions ⟧ ⊢ ⟦ flft (a ∷ []) full_share ⟧
  all_tokens a fractions home fits = qed 𝓛 (‵ (tokens a (rest fractions)) ∷ ‵ (fractions_of a fractions) ∷ []) ∵
      use2 𝓛 (‵ (tokens a (rest fractions + length fractions))) (gathers a (rest fractions) fractions home (omega arith) (omega arith)) $
      rewrite ! 0 (λ (m : ℕ). ‵ (tokens a m)) (let e : rest fractions + length fractions ≡ 2 ^ 63 = omega arith in e) refl $ by ! (tokens_whole a)

  pub new_tokens : (a : ℕ) (fractions : List (Option ℕ)) → AreUnlent fractions → length fractions < 2 ^ 63
      → ⟦ flft (a ∷ []) full_share ⟧ ⊢ ⟦ tokens a (rest fractions) ⟧ ∗ ⟦ fractions_of a fractions ⟧
  new_tokens a fractions home fits = qed 𝓛 (‵ (flft (a ∷ []) full_share) ∷ []) ∵ use1 𝓛 (‵ (tokens a (2 ^ 63)))
      (tokens_in 𝓛 a (2 ^ 63) full_share (Counts-all 63)) $
      rewrite ! 0 (λ (m : ℕ). ‵ (tokens a m)) (let e : 2 ^ 63 ≡ rest fractions + length fractions = omega arith in e) refl $
      by ! (deals a (rest fractions) fractions home (omega arith) (omega arith))

  -- what is shared for a lifetime is, for as long as a section is borrowed to which a token of the lifetime was lent
  pub shows_in : (t : Lft → Fml) (L : ShrLaws t) (τ a : ℕ) (κ : Lft) → ⟦ lasts_in τ a ⟧ ∗ ⟦ t (a ∷ []) ⟧ ∗ ⟦ fshr_bor κ (λ q. flft (τ ∷ []) q) ⟧ ⊢ ⟦ t κ ⟧
  shows_in t L τ a κ = qed 𝓛 (‵ (lasts_in τ a) ∷ ‵ (t (a ∷ [])) ∷ ‵ (fshr_bor κ (λ q. flft (τ ∷ []) q)) ∷ []) ∵
      use2 𝓛 (‵ (t (τ ∷ []))) (moves_from 𝓛 t L (τ ∷ []) (a ∷ []) (a ∷ []) (meet_⊑_left (a ∷ []) (τ ∷ []))) $ move ! (1 ∷ 0 ∷ []) $
      by ! (moves_from 𝓛 t L κ (τ ∷ []) (τ ∷ []) (meet_⊑_left (τ ∷ []) κ))

  module _ (R : RattleType) (p : Ptr) (x : R.Denot) where
    abbrev Whole : Fml
    Whole = lies_at R full_share p x

    abbrev state : List (Option ℕ) → Option ℕ → Fml
    state fractions h = held R p x fractions h

    ends : (fractions : List (Option ℕ)) → AreUnlent fractions → length fractions < 2 ^ 63 → (h : Option ℕ) → ⟦ state fractions h ⟧ ⊢ H.⇛ ⟦ Whole ⟧
    ends fractions home fits None = qed 𝓛 (‵ (state fractions None) ∷ []) ∵ updating ! $ fsplit ! $ now ! $ keep ! (0 ∷ []) $ done !
    ends fractions home fits (Some a) = qed 𝓛 (‵ (state fractions (Some a)) ∷ []) ∵ updating ! $ fsplit ! $ fsplit ! $ drop ! $ move ! (1 ∷ []) $ fsplit ! $
        use2 𝓛 (‵ (flft (a ∷ []) full_share)) (all_tokens a fractions home fits) $ lft_end ! tt $ lent_back ! tt $ now ! $ done !

    pub to_plain : (fractions : List (Option ℕ)) → AreUnlent fractions → ⟦ spot R p x fractions ⟧ ⊢ H.⇛ (⟦ Whole ⟧ ∗ ⟦ fact (length fractions < 2 ^ 63) ⟧)
    to_plain fractions home = qed 𝓛 (‵ (spot R p x fractions) ∷ []) ∵ updating ! $ fsplit ! $ move ! (1 ∷ []) $ fpick ! (λ fits. drop ! $ fpick ! (λ h.
        use1 𝓛 (later (‵ Whole)) (ends fractions home fits h) $ await ! tt $ nothing ! $ fpack ! (length fractions < 2 ^ 63) (λ _. ftrue) fits $
        move ! (1 ∷ 0 ∷ []) $ now ! $ done !))

    pub from_plain : (fractions : List (Option ℕ)) → AreUnlent fractions → ⟦ Whole ⟧ ∗ ⟦ fact (length fractions < 2 ^ 63) ⟧ ⊢ ⟦ spot R p x fractions ⟧
    from_plain fractions home = qed 𝓛 (‵ Whole ∷ ‵ (fact (length fractions < 2 ^ 63)) ∷ []) ∵ nothing ! $ fpack ! (AreUnlent fractions) (λ _. ftrue) home $
        move ! (1 ∷ 0 ∷ []) $ fjoin ! $
        fpack ! (Option ℕ) (state fractions) None $ fjoin ! $ done !

    -- ---- an end of a section
    settles_held : (t r : ℕ) (fractions : List (Option ℕ)) → IsFreeFor t (slice_index_or fractions r None) → (h : Option ℕ)
        → ⟦ state fractions h ⟧ ∗ ⟦ fdead (t ∷ []) ⟧ ⊢ H.⇛ ⟦ state (slice_set fractions r None) h ⟧
    settles_held t r fractions free None = qed 𝓛 (‵ (state fractions None) ∷ ‵ (fdead (t ∷ [])) ∷ []) ∵ updating ! $ fsplit ! $ move ! (1 ∷ []) $
        fpick ! (λ home. drop ! $
        nothing ! $ fpack ! (AreUnlent (slice_set fractions r None)) (λ _. ftrue) (home_set fractions r home) $ move ! (1 ∷ 0 ∷ []) $ fjoin ! $ now ! $
        keep ! (0 ∷ []) $ done !)
    settles_held t r fractions free (Some a) = let after : List (Option ℕ) = slice_set fractions r None in
        qed 𝓛 (‵ (state fractions (Some a)) ∷ ‵ (fdead (t ∷ [])) ∷ []) ∵ updating ! $ fsplit ! $ move ! (1 ∷ []) $ fsplit ! $ move ! (1 ∷ 3 ∷ []) $
        use2 𝓛 (later (‵ (fractions_of a after))) (settles a t r fractions free) $ await ! tt $ move ! (1 ∷ []) $
        rewrite ! 0 (λ (m : ℕ). ‵ (tokens a (2 ^ 63 - m))) (sym (length-set fractions r None)) refl $ move ! (0 ∷ 1 ∷ []) $ fjoin ! $ move ! (1 ∷ 0 ∷ []) $
        fjoin ! $ now ! $ done !

    pub settles_spot : (t r : ℕ) (fractions : List (Option ℕ)) → IsFreeFor t (slice_index_or fractions r None)
        → ⟦ spot R p x fractions ⟧ ∗ ⟦ fdead (t ∷ []) ⟧ ⊢ H.⇛ ⟦ spot R p x (slice_set fractions r None) ⟧
    settles_spot t r fractions free = let after : List (Option ℕ) = slice_set fractions r None in
        qed 𝓛 (‵ (spot R p x fractions) ∷ ‵ (fdead (t ∷ [])) ∷ []) ∵ updating ! $ fsplit ! $ fpick ! (λ h. move ! (0 ∷ 2 ∷ []) $
        use2 𝓛 (later (‵ (state after h))) (settles_held t r fractions free h) $ await ! tt $ fpack ! (Option ℕ) (state after) h $
        move ! (1 ∷ []) $ rewrite ! 0 (λ (m : ℕ). ‵ (fact (m < 2 ^ 63))) (sym (length-set fractions r None)) refl $ move !
        (1 ∷ 0 ∷ []) $ fjoin ! $ now ! $ done !)

    -- ---- a look
    module _ (laws : ShrLaws (lent_at R p x)) (l μ : Lft) (q : Share) (gives : Lends 𝓛 (lies_at R full_share p x) (lent_at R p x) l) (inc : Incl μ l) where
      -- the value is shared for a new lifetime
      freezes : (a : ℕ) → ⟦ Whole ⟧ ∗ ⟦ flft (a ∷ []) full_share ⟧ ∗ ⟦ flft μ q ⟧ ⊢ H.⇛ (⟦ shared R p x a ⟧ ∗ ⟦ flft (a ∷ []) full_share ⟧ ∗ ⟦ flft μ q ⟧)
      freezes a = qed 𝓛 (‵ Whole ∷ ‵ (flft (a ∷ []) full_share) ∷ ‵ (flft μ q) ∷ []) ∵ updating ! $ bor_new ! tt (a ∷ []) $ move ! (2 ∷ 3 ∷ []) $ join ! $
          move ! (1 ∷ 0 ∷ []) $
          use2 𝓛 (later (‵ (lent_at R p x (a ∷ [])) ⊛ ‵ (flft (a ∷ []) full_share) ⊛ ‵ (flft μ q)))
          (gives (a ∷ []) ((a ∷ [], full_share) ∷ (μ, q) ∷ []) (Incl-trans (meet_⊑_right (a ∷ []) μ) inc) (meet_⊑_left (a ∷ []) μ)) $ await ! tt $ split3 ! $
          move ! (0 ∷ 3 ∷ []) $ fjoin ! $ now ! $ done !

      abbrev Lifetime : List (Option ℕ) → ℕ → Pr
      Lifetime fractions a = ⟦ state fractions (Some a) ⟧ ∗ ⟦ flft μ q ⟧

      begins : (fractions : List (Option ℕ)) → length fractions < 2 ^ 63 → (h : Option ℕ) → ⟦ state fractions h ⟧ ∗ ⟦ flft μ q ⟧ ⊢ H.⇛ (ex 𝓤
          (Lifetime fractions))
      begins fractions fits None = qed 𝓛 (‵ (state fractions None) ∷ ‵ (flft μ q) ∷ []) ∵ updating ! $ fsplit ! $ move ! (1 ∷ []) $ fpick ! (λ home. drop ! $
          lft_new ! tt (λ a.
          move ! (1 ∷ 0 ∷ 2 ∷ []) $ use3 𝓛 (later (‵ (shared R p x a) ⊛ ‵ (flft (a ∷ []) full_share) ⊛ ‵ (flft μ q))) (freezes a) $ await ! tt $ split3 ! $
          move ! (1 ∷ []) $
          use1 𝓛 (‵ (tokens a (rest fractions)) ⊛ ‵ (fractions_of a fractions)) (new_tokens a fractions home fits) $ split ! $ fjoin ! $ move !
          (1 ∷ 0 ∷ []) $ fjoin ! $
          now ! $ show ! (Lifetime fractions) a $ done !))
      begins fractions fits (Some a) = qed 𝓛 (‵ (state fractions (Some a)) ∷ ‵ (flft μ q) ∷ []) ∵ updating ! $ now ! $ show ! (Lifetime fractions) a $ done !

      pub looks_at : (τ r : ℕ) (κ : Lft) (fractions : List (Option ℕ)) → r < length fractions → IsFreeFor τ (slice_index_or fractions r None)
          → ⟦ spot R p x fractions ⟧ ∗ ⟦ fshr_bor κ (λ s. flft (τ ∷ []) s) ⟧ ∗ ⟦ flft μ q ⟧
          ⊢ H.⇛ (⟦ spot R p x (slice_set fractions r (Some τ)) ⟧ ∗ ⟦ lent_at R p x κ ⟧ ∗ ⟦ flft μ q ⟧)
      looks_at τ r κ fractions near free = let after : List (Option ℕ) = slice_set fractions r (Some τ) in let t : Lft → Fml = lent_at R p x in
          qed 𝓛 (‵ (spot R p x fractions) ∷ ‵ (fshr_bor κ (λ s. flft (τ ∷ []) s)) ∷ ‵ (flft μ q) ∷ []) ∵ updating ! $ fsplit ! $ move ! (1 ∷ []) $
          fpick ! (λ fits. drop ! $ fpick ! (λ h.
          move ! (0 ∷ 2 ∷ []) $ use2 𝓛 (later (exists (λ (a : ℕ). ‵ (state fractions (Some a)) ⊛ ‵ (flft μ q)))) (begins fractions fits h) $ await ! tt $
          pick ! (λ a. split ! $
          -- [the lifetime; the outer token; the section]
          fsplit ! $ fsplit ! $ use1 𝓛 (‵ (t (a ∷ [])) ⊛ ‵ (t (a ∷ []))) (contraction 𝓛 t laws (a ∷ [])) $ split ! $ move ! (1 ∷ 2 ∷ []) $ fjoin ! $
          move ! (2 ∷ []) $ fsplit ! $ move ! (1 ∷ []) $
          use1 𝓛 (later (‵ (fractions_of a after) ⊛ ‵ (lasts_in τ a))) (lends_one a τ r fractions near free) $ await ! tt $ split ! $ move ! (2 ∷ []) $
          rewrite ! 0 (λ (m : ℕ). ‵ (tokens a (2 ^ 63 - m))) (sym (length-set fractions r (Some τ))) refl $ move ! (0 ∷ 1 ∷ []) $ fjoin ! $ move !
          (2 ∷ 0 ∷ []) $
          fjoin ! $
          fpack ! (Option ℕ) (state after) (Some a) $ nothing ! $ fpack ! (length fractions < 2 ^ 63) (λ _. ftrue) fits $
          rewrite ! 0 (λ (m : ℕ). ‵ (fact (m < 2 ^ 63))) (sym (length-set fractions r (Some τ))) refl $ move ! (1 ∷ 0 ∷ []) $ fjoin ! $
          -- [the value and its fractions; the section lasts; the share; the outer token; the section]
          move ! (1 ∷ 2 ∷ 4 ∷ []) $ use3 𝓛 (‵ (t κ)) (shows_in t laws τ a κ) $ move ! (1 ∷ 0 ∷ 2 ∷ []) $ now ! $ done !)))
