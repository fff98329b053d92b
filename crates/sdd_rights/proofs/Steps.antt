-- The ghost steps of a fraction. Assumes `Logic`.
use Rattle.std.proofs.Common.{◌≡◌, ℕ, suc, ◌+◌, ◌^◌, ◌<◌, ◌≤◌, [], ◌∷◌, arith, refl, sym, subst}
use mathlib.Core.Path.{Path}
use mathlib.Mathlib.Data.Part.{◌∈◌, mem_unique, get}
use seplogic.Ra.Ura.{Ura}
use seplogic.Ra.Constructions.Prod
use seplogic.Ra.Instances.Ag
use base.Fraction.{full_share}
use base.FractionLaws.{Counts, counts_some, Counts-op, Counts-all, not-OpDef-full_share}
use base.Share
use base.Stored.{Gv, gnil}
use base.SetCodes.{coded, SetCoded-set}
use base.Logic.{SProp, ent, sep, wand, ex, guard, upd, upd_i, via, apply∗, ex_e, ex_i, guard_e, guard_i, upd_mono, id⊢, emp}
use base.Fml.{Lft, Share, Fml, ftrue, fsep, fseps, fex, fwand, fupd, fdead, fbor, flft, fshr_bor}
use ghost.Rules.{span, thinned, Halves}
use types.Logic.{Logic, sem, lfts}
use types.Keyed.{entry, entries_new, entries_take, entry_cut, entry_glue, entry_set}
use types.Owned.{basic}
use types.Kit.{‵, raw, ◌⊛◌, some as exists, given, later, ◌$◌, ◌∵◌, !, qed, by, move, keep, drop, use0, use1, use2, split, fsplit3, fjoin, fpick, fpack, pick, learn, check, assume, suffices, await, updating, now, done}
use types.Tokens.{bor_open, obor_alter, bor_fracture, one_token}
use denote.Struct.Lending.{Lends}
use denote.Steps.{nothing}
use Rattle.atomic_table.specs.Seated.{halved, itself}
use Rattle.sdd_rights.specs.Units.{share_of, IsCount, units, keys_own, tokens}
use Rattle.sdd_rights.proofs.Units.{counts-pos, counts-whole, counts-fits}

-- fractions of one number have one value, at least a unit each, and no more than there are
pub record Meets (g h : Gv) (m n : ℕ) : Type 0 where
  pub values : g ≡ h
  pub some : 0 < m
  pub others : 0 < n
  pub fits : m + n ≤ 2 ^ 63

module _ {M : Type 1} {𝓤 : Ura M} (𝓛 : Logic 𝓤) where
  open 𝓛 use {H, A}

  abbrev Pr : Type 2
  Pr = SProp 𝓤

  abbrev ⟦◌⟧ : Fml → Pr
  ⟦ P ⟧ = sem 𝓛 P

  abbrev ◌⊢◌ : Pr → Pr → Type 1
  P ⊢ Q = ent 𝓤 P Q

  abbrev ◌∗◌ : Pr → Pr → Pr
  P ∗ Q = sep 𝓤 P Q

  infix 26 ◌⊢◌
  infixr 35 ◌∗◌
  -- a share at a value is the two fractions of the share at that value
  pub both_in : (q r s : Share) (g : Gv) → s ∈ Share.op q r → ◌∈◌ {α = Share × Gv} (s, g) (halved.op (q, g) (r, g))
  both_in q r s g m = Prod.mk-mem-op Share.op (Ag.op (SetCoded-set (coded itself))) {a = q} {a' = r} {x = s} {b = g} {b' = g} {y = g} m
      (Ag.idem (SetCoded-set (coded itself)) g)

  module _ (γ i : ℕ) where
    abbrev at : Gv → Share → Fml
    at g q = share_of γ i g q

    pub cut_at : (g : Gv) (q r s : Share) → s ∈ Share.op q r → ⟦ at g s ⟧ ⊢ ⟦ at g q ⟧ ∗ ⟦ at g r ⟧
    cut_at g q r s m = entry_cut halved 𝓛 γ i (q, g) (r, g) (s, g) (both_in q r s g m)

    abbrev Sum : Gv → Share → Share → Share → Pr
    Sum g q r s = guard 𝓤 (s ∈ Share.op q r) ⟦ at g s ⟧

    -- two at two values are at one
    pub joined : (g h : Gv) (q r : Share) → ⟦ at g q ⟧ ∗ ⟦ at h r ⟧ ⊢ guard 𝓤 (g ≡ h) (ex 𝓤 (Sum g q r))
    joined g h q r = let F : Share × Gv → Pr = λ x. guard 𝓤 (x ∈ halved.op (q, g) (r, h)) ⟦ entry halved γ i x ⟧ in
        let Z : Pr = guard 𝓤 (g ≡ h) (ex 𝓤 (Sum g q r)) in
        via 𝓤 (ex 𝓤 F) (entry_glue halved 𝓛 γ i (q, g) (r, h)) (ex_e 𝓤 F (λ x. guard_e 𝓤 (x ∈ halved.op (q, g) (r, h)) ⟦ entry halved γ i x ⟧ (λ m.
        let s : Share = get (Share.op q r) m.0.0 in let both = guard_i 𝓤 (g ≡ h) (ex 𝓤 (Sum g q r)) m.0.1 in
        let one = via 𝓤 (Sum g q r s) (guard_i 𝓤 (s ∈ Share.op q r) ⟦ at g s ⟧ (m.0.0, refl)) (ex_i 𝓤 (Sum g q r) s) in
        subst (λ (y : Share × Gv). ⟦ entry halved γ i y ⟧ ⊢ Z) m.1 (via 𝓤 (ex 𝓤 (Sum g q r)) one both))))

    -- they agree, and both are kept
    pub agreed : (g h : Gv) (q r : Share) → ⟦ at g q ⟧ ∗ ⟦ at h r ⟧ ⊢ guard 𝓤 (g ≡ h) (⟦ at g q ⟧ ∗ ⟦ at h r ⟧)
    agreed g h q r = let Z : Pr = guard 𝓤 (g ≡ h) (⟦ at g q ⟧ ∗ ⟦ at h r ⟧) in
        via 𝓤 _ (joined g h q r) (guard_e 𝓤 (g ≡ h) (ex 𝓤 (Sum g q r)) (λ e. ex_e 𝓤 (Sum g q r) (λ s. guard_e 𝓤 (s ∈ Share.op q r) ⟦ at g s ⟧ (λ m.
        via 𝓤 (⟦ at g q ⟧ ∗ ⟦ at h r ⟧) (subst (λ (y : Gv). ⟦ at g s ⟧ ⊢ ⟦ at g q ⟧ ∗ ⟦ at y r ⟧) e (cut_at g q r s m))
        (guard_i 𝓤 (g ≡ h) (⟦ at g q ⟧ ∗ ⟦ at h r ⟧) e)))))

    pub halves_at : (g : Gv) → Halves 𝓤 H A (share_of γ i g)
    halves_at g = record {
      cut = λ q. cut_at g (Share.left q) (Share.right q) q (Share.halves q);
      join = λ q. entry_join g (Share.left q) (Share.right q) q (Share.halves q);
    }
      where
        entry_join : (g : Gv) (q r s : Share) → s ∈ Share.op q r → ⟦ at g q ⟧ ∗ ⟦ at g r ⟧ ⊢ ⟦ at g s ⟧
        entry_join g q r s m = via 𝓤 _ (joined g g q r) (guard_e 𝓤 (g ≡ g) (ex 𝓤 (Sum g q r)) (λ e.
            ex_e 𝓤 (Sum g q r) (λ t. guard_e 𝓤 (t ∈ Share.op q r) ⟦ at g t ⟧ (λ n.
            subst (λ (x : Share). ⟦ at g t ⟧ ⊢ ⟦ at g x ⟧) (mem_unique (Share.op q r) n m) (id⊢ 𝓤 ⟦ at g t ⟧)))))

    -- ---- units
    pub packs : (g : Gv) (k : ℕ) (q : Share) → IsCount q k → ⟦ at g q ⟧ ⊢ ⟦ units γ i g k ⟧
    packs g k q c = qed 𝓛 (‵ (at g q) ∷ []) ∵ fpack ! (IsCount q k) (λ _. at g q) c $ fpack ! Share (λ s. fex (IsCount s k) (λ _. at g s)) q $ done !

    pub splits : (g : Gv) (k m n : ℕ) → 0 < m → 0 < n → m + n ≡ k → ⟦ units γ i g k ⟧ ⊢ guard 𝓤 (k ≤ 2 ^ 63) (⟦ units γ i g m ⟧ ∗ ⟦ units γ i g n ⟧)
    splits g k m n pm pn sum = qed 𝓛 (‵ (units γ i g k) ∷ []) ∵ fpick ! (λ s. fpick ! (λ c. let fits = c.1 in let q = counts_some 63 m pm (omega arith) in
        let r = counts_some 63 n pn (omega arith) in
        use1 𝓛 (‵ (at g q.0) ⊛ ‵ (at g r.0)) (cut_at g q.0 r.0 s (Counts-op 63 q.0 r.0 s m n k q.1 r.1 c.0 sum)) $ check ! fits $ split ! $
        move ! (1 ∷ []) $ use1 𝓛 (‵ (units γ i g n)) (packs g n r.0 (r.1, omega arith)) $ move ! (1 ∷ []) $
        use1 𝓛 (‵ (units γ i g m)) (packs g m q.0 (q.1, omega arith)) $ done !))

    pub joins : (g h : Gv) (m n : ℕ) → ⟦ units γ i g m ⟧ ∗ ⟦ units γ i h n ⟧ ⊢ guard 𝓤 (Meets g h m n) ⟦ units γ i g (m + n) ⟧
    joins g h m n = qed 𝓛 (‵ (units γ i g m) ∷ ‵ (units γ i h n) ∷ []) ∵ fpick ! (λ q. fpick ! (λ c. move ! (1 ∷ []) $
        fpick ! (λ r. fpick ! (λ d. move ! (1 ∷ []) $
        use2 𝓛 (given (g ≡ h) (exists (λ (s : Share). given (s ∈ Share.op q r) (‵ (at g s))))) (joined g h q r) $ learn ! (λ e. pick ! (λ s. learn ! (λ m'.
        let pos = counts-pos q m c.0 in let fits = counts-fits q r s m n c.0 d.0 c.1 d.1 m' in
        let meets : Meets g h m n = record { values = e; some = pos; others = counts-pos r n d.0; fits = fits } in
        let t = counts_some 63 (m + n) (omega arith) fits in let sum = Counts-op 63 q r t.0 m n (m + n) c.0 d.0 t.1 refl in
        let same : t.0 ≡ s = mem_unique (Share.op q r) sum m' in check ! meets $
        by ! (packs g (m + n) s (subst (λ (x : Share). Counts 63 x (m + n)) same t.1, fits)))))))))

    pub whole_out : (g : Gv) → ⟦ units γ i g (2 ^ 63) ⟧ ⊢ ⟦ at g full_share ⟧
    whole_out g = qed 𝓛 (‵ (units γ i g (2 ^ 63)) ∷ []) ∵ fpick ! (λ s.
        fpick ! (λ c. by ! (subst (λ (x : Share). ⟦ at g s ⟧ ⊢ ⟦ at g x ⟧) (counts-whole s c.0) (id⊢ 𝓤 ⟦ at g s ⟧))))

    pub whole_in : (g : Gv) → ⟦ at g full_share ⟧ ⊢ ⟦ units γ i g (2 ^ 63) ⟧
    whole_in g = packs g (2 ^ 63) full_share (Counts-all 63, omega arith)

    -- who has the whole sets it
    pub resets_now : (g h : Gv) → ⟦ at g full_share ⟧ ⊢ upd 𝓤 ⟦ at h full_share ⟧
    resets_now g h = let B : Share × Gv → Type 0 = λ x. Path (Share × Gv) x (full_share, h) in
        let F : Share × Gv → Pr = λ x. guard 𝓤 (B x) ⟦ entry halved γ i x ⟧ in let Z : Pr = ⟦ at h full_share ⟧ in
        via 𝓤 (upd 𝓤 (ex 𝓤 F)) (entry_set halved 𝓛 γ i (full_share, g) B ∣ ((full_share, h), refl) ∣₁ (λ f d. absurd (not-OpDef-full_share f.0 d.0)))
        (upd_mono 𝓤 {P = ex 𝓤 F} {Q = Z} (ex_e 𝓤 F (λ x. guard_e 𝓤 (B x) ⟦ entry halved γ i x ⟧ (λ e.
        subst (λ (y : Share × Gv). ⟦ entry halved γ i y ⟧ ⊢ Z) (sym e) (id⊢ 𝓤 Z)))))

    pub resets : (g h : Gv) → ⟦ at g full_share ⟧ ⊢ H.⇛ ⟦ at h full_share ⟧
    resets g h = via 𝓤 (upd 𝓤 ⟦ at h full_share ⟧) (resets_now g h) (basic 𝓛 ⟦ at h full_share ⟧)

    -- the same, and both are kept
    pub apart_at : (g h : Gv) (m n : ℕ) → ⟦ units γ i g m ⟧ ∗ ⟦ units γ i h n ⟧ ⊢ guard 𝓤 (Meets g h m n) (⟦ units γ i g m ⟧ ∗ ⟦ units γ i h n ⟧)
    apart_at g h m n = qed 𝓛 (‵ (units γ i g m) ∷ ‵ (units γ i h n) ∷ []) ∵ fpick ! (λ q. fpick ! (λ c. move ! (1 ∷ []) $
        fpick ! (λ r. fpick ! (λ d. move ! (1 ∷ []) $
        use2 𝓛 (given (g ≡ h) (exists (λ (s : Share). given (s ∈ Share.op q r) (‵ (at g s))))) (joined g h q r) $ learn ! (λ e. pick ! (λ s. learn ! (λ m'.
        check ! (record { values = e; some = counts-pos q m c.0; others = counts-pos r n d.0; fits = counts-fits q r s m n c.0 d.0 c.1 d.1 m' }) $
        use1 𝓛 (‵ (at g q) ⊛ ‵ (at h r)) (subst (λ (y : Gv). ⟦ at g s ⟧ ⊢ ⟦ at g q ⟧ ∗ ⟦ at y r ⟧) e (cut_at g q r s m')) $ split ! $
        use1 𝓛 (‵ (units γ i g m)) (packs g m q c) $ move ! (1 ∷ []) $ use1 𝓛 (‵ (units γ i h n)) (packs h n r d) $ move ! (1 ∷ 0 ∷ []) $ done !)))))))

    pub sets_all : (g h : Gv) → ⟦ units γ i g (2 ^ 63) ⟧ ⊢ H.⇛ ⟦ units γ i h (2 ^ 63) ⟧
    sets_all g h = qed 𝓛 (‵ (units γ i g (2 ^ 63)) ∷ []) ∵ updating ! $ use1 𝓛 (‵ (at g full_share)) (whole_out g) $
        use1 𝓛 (later (‵ (at h full_share))) (resets g h) $ await ! tt $ use1 𝓛 (‵ (units γ i h (2 ^ 63))) (whole_in h) $ now ! $ done !

    -- ---- a `&`
    again : (g : Gv) (k : ℕ) (κ : Lft) (q : Share) → IsCount q k → emp 𝓤 ⊢ ⟦ fwand (fsep (fdead κ) (fseps (at g q ∷ []))) (fupd (units γ i g k)) ⟧
    unfolding fseps
    again g k κ q c = qed 𝓛 [] ∵ assume ! (‵ (fsep (fdead κ) (fsep (at g q) ftrue))) $ suffices ! ⟦ units γ i g k ⟧ (upd_i 𝓤 ⟦ units γ i g k ⟧) $
        fsplit3 ! $ drop ! $ keep ! (0 ∷ []) $ by ! (packs g k q c)

    by_token : (g : Gv) (k : ℕ) (κ : Lft) (p : Share) → A.bor κ (units γ i g k) ∗ A.lft κ p ⊢ H.⇛ (⟦ fshr_bor κ (share_of γ i g) ⟧ ∗ A.lft κ p)
    unfolding fseps
    by_token g k κ p = qed 𝓛 (‵ (fbor κ (units γ i g k)) ∷ ‵ (flft κ p) ∷ []) ∵ updating ! $ bor_open ! tt $ move ! (1 ∷ []) $ fpick ! (λ q. fpick ! (λ c.
        use0 𝓛 (‵ (fwand (fsep (fdead κ) (fseps (at g q ∷ []))) (fupd (units γ i g k)))) (again g k κ q c) $ nothing ! $ move ! (2 ∷ 0 ∷ []) $ fjoin ! $
        move ! (2 ∷ 0 ∷ 1 ∷ []) $ obor_alter ! tt (at g q ∷ []) $
        use1 𝓛 (‵ (fbor κ (at g q)) ⊛ ‵ ftrue) (id⊢ 𝓤 _) $ split ! $ bor_fracture ! tt (share_of γ i g) q $ now ! $ keep ! (0 ∷ 2 ∷ []) $ done !))

  pub Lends-fraction : (γ i : ℕ) (g : Gv) (k : ℕ) (l : Lft) → Lends 𝓛 (units γ i g k) (λ κ. fshr_bor κ (share_of γ i g)) l
  Lends-fraction γ i g k l κ ts inc sp = let t : Lft → Fml = λ ν. fshr_bor ν (share_of γ i g) in qed 𝓛 (‵ (fbor κ (units γ i g k)) ∷ raw (lfts 𝓛 ts) ∷ []) ∵
      updating ! $ move ! (1 ∷ []) $
      use1 𝓛 (exists (λ (q : Share). ‵ (flft (span ts) q) ⊛ raw (wand 𝓤 (A.lft (span ts) q) (lfts 𝓛 ts)))) (one_token 𝓛 ts) $ pick ! (λ q. split ! $
      use1 𝓛 (‵ (flft κ (thinned κ q)) ⊛ raw (wand 𝓤 (A.lft κ (thinned κ q)) (A.lft (span ts) q))) (𝓛.lfts.lft-incl (span ts) κ q sp) $ split ! $
      move ! (3 ∷ 0 ∷ []) $
      use2 𝓛 (later (‵ (t κ) ⊛ ‵ (flft κ (thinned κ q)))) (by_token γ i g k κ (thinned κ q)) $ await ! tt $ split ! $ move ! (1 ∷ 2 ∷ []) $
      use2 𝓛 (‵ (flft (span ts) q)) (apply∗ 𝓤 (A.lft κ (thinned κ q)) (A.lft (span ts) q)) $ move ! (0 ∷ 2 ∷ []) $
      use2 𝓛 (raw (lfts 𝓛 ts)) (apply∗ 𝓤 (A.lft (span ts) q) (lfts 𝓛 ts)) $ now ! $ move ! (1 ∷ 0 ∷ []) $ done !)

  -- ---- the ghost map
  pub keys_new : emp 𝓤 ⊢ H.⇛ (ex 𝓤 (λ (γ : ℕ). ⟦ keys_own γ 0 ⟧))
  keys_new = via 𝓤 _ (entries_new halved 𝓛 0 (λ _. (full_share, gnil))) (basic 𝓛 (ex 𝓤 (λ (γ : ℕ). ⟦ keys_own γ 0 ⟧)))

  pub issues : (γ n : ℕ) (g : Gv) → ⟦ keys_own γ n ⟧ ⊢ H.⇛ (⟦ keys_own γ (suc n) ⟧ ∗ ⟦ units γ n g (2 ^ 63) ⟧)
  issues γ n g = qed 𝓛 (‵ (keys_own γ n) ∷ []) ∵ updating ! $ use1 𝓛 (‵ (share_of γ n gnil full_share) ⊛ ‵ (keys_own γ (suc n)))
      (entries_take halved 𝓛 γ n (λ _. (full_share, gnil))) $ split ! $ use1 𝓛 (later (‵ (share_of γ n g full_share))) (resets γ n gnil g) $ await ! tt $
      use1 𝓛 (‵ (units γ n g (2 ^ 63))) (whole_in γ n g) $ now ! $ move ! (1 ∷ 0 ∷ []) $ done !

-- ---- the tokens of a lifetime
module _ {M : Type 1} {𝓤 : Ura M} (𝓛 : Logic 𝓤) (a : ℕ) where
  open 𝓛 use {H, A}

  pub tokens_in : (k : ℕ) (e : Share) → Counts 63 e k → ent 𝓤 (A.lft (a ∷ []) e) (sem 𝓛 (tokens a k))
  tokens_in k e c = qed 𝓛 (‵ (flft (a ∷ []) e) ∷ []) ∵ fpack ! (Counts 63 e k) (λ _. flft (a ∷ []) e) c $
      fpack ! Share (λ s. fex (Counts 63 s k) (λ _. flft (a ∷ []) s)) e $ done !

  pub tokens_cut : (k i j : ℕ) → 0 < i → 0 < j → i + j ≡ k → k ≤ 2 ^ 63 → ent 𝓤 (sem 𝓛 (tokens a k)) (sep 𝓤 (sem 𝓛 (tokens a i)) (sem 𝓛 (tokens a j)))
  tokens_cut k i j pi pj sum fits = let e = counts_some 63 i pi (omega arith) in let f = counts_some 63 j pj (omega arith) in
      qed 𝓛 (‵ (tokens a k) ∷ []) ∵ fpick ! (λ r. fpick ! (λ c.
      use1 𝓛 (‵ (flft (a ∷ []) e.0) ⊛ ‵ (flft (a ∷ []) f.0)) (𝓛.lfts.lft_cut (a ∷ []) r e.0 f.0 (Counts-op 63 e.0 f.0 r i j k e.1 f.1 c sum)) $ split ! $
      move ! (1 ∷ []) $ use1 𝓛 (‵ (tokens a j)) (tokens_in j f.0 f.1) $ move ! (1 ∷ []) $ use1 𝓛 (‵ (tokens a i)) (tokens_in i e.0 e.1) $ done !))

  glued : (i j : ℕ) (r : Share) → Counts 63 r (i + j) → ent 𝓤 (sep 𝓤 (sem 𝓛 (tokens a i)) (sem 𝓛 (tokens a j))) (A.lft (a ∷ []) r)
  glued i j r c = qed 𝓛 (‵ (tokens a i) ∷ ‵ (tokens a j) ∷ []) ∵ fpick ! (λ e. fpick ! (λ ce. move ! (1 ∷ []) $ fpick ! (λ f. fpick ! (λ cf. move ! (1 ∷ []) $
      by ! (𝓛.lfts.lft_glue (a ∷ []) r e f (Counts-op 63 e f r i j (i + j) ce cf c refl))))))

  pub tokens_glue : (i j : ℕ) → 0 < i + j → i + j ≤ 2 ^ 63 → ent 𝓤 (sep 𝓤 (sem 𝓛 (tokens a i)) (sem 𝓛 (tokens a j))) (sem 𝓛 (tokens a (i + j)))
  tokens_glue i j some fits = let r = counts_some 63 (i + j) some fits in
      qed 𝓛 (‵ (tokens a i) ∷ ‵ (tokens a j) ∷ []) ∵ use2 𝓛 (‵ (flft (a ∷ []) r.0)) (glued i j r.0 r.1) $ by ! (tokens_in (i + j) r.0 r.1)

  -- ---- a `&`
  module _ (k : ℕ) where
    token_back : (κ : Lft) (q : Share) → Counts 63 q k → ent 𝓤 (emp 𝓤) (sem 𝓛 (fwand (fsep (fdead κ) (fseps (flft (a ∷ []) q ∷ []))) (fupd (tokens a k))))
    unfolding fseps
    token_back κ q c = qed 𝓛 [] ∵ assume ! (‵ (fsep (fdead κ) (fsep (flft (a ∷ []) q) ftrue))) $
        suffices ! (sem 𝓛 (tokens a k)) (upd_i 𝓤 (sem 𝓛 (tokens a k))) $ fsplit3 ! $ drop ! $ keep ! (0 ∷ []) $ by ! (tokens_in k q c)

    lent_token : (κ : Lft) (p : Share) → ent 𝓤 (sep 𝓤 (A.bor κ (tokens a k)) (A.lft κ p)) (H.⇛ (sep 𝓤 (sem 𝓛 (fshr_bor κ (λ r. flft (a ∷ []) r))) (A.lft κ p)))
    unfolding fseps
    lent_token κ p = qed 𝓛 (‵ (fbor κ (tokens a k)) ∷ ‵ (flft κ p) ∷ []) ∵ updating ! $ bor_open ! tt $ move ! (1 ∷ []) $ fpick ! (λ q. fpick ! (λ c.
        use0 𝓛 (‵ (fwand (fsep (fdead κ) (fseps (flft (a ∷ []) q ∷ []))) (fupd (tokens a k)))) (token_back κ q c) $ nothing ! $ move ! (2 ∷ 0 ∷ []) $
        fjoin ! $ move ! (2 ∷ 0 ∷ 1 ∷ []) $ obor_alter ! tt (flft (a ∷ []) q ∷ []) $ use1 𝓛 (‵ (fbor κ (flft (a ∷ []) q)) ⊛ ‵ ftrue) (id⊢ 𝓤 _) $ split ! $
        bor_fracture ! tt (λ r. flft (a ∷ []) r) q $ now ! $ keep ! (0 ∷ 2 ∷ []) $ done !))

  pub Lends-tokens : (k : ℕ) (l : Lft) → Lends 𝓛 (tokens a k) (λ κ. fshr_bor κ (λ r. flft (a ∷ []) r)) l
  Lends-tokens k l κ ts inc sp = let t : Lft → Fml = λ ν. fshr_bor ν (λ r. flft (a ∷ []) r) in qed 𝓛 (‵ (fbor κ (tokens a k)) ∷ raw (lfts 𝓛 ts) ∷ []) ∵
      updating ! $ move ! (1 ∷ []) $
      use1 𝓛 (exists (λ (q : Share). ‵ (flft (span ts) q) ⊛ raw (wand 𝓤 (A.lft (span ts) q) (lfts 𝓛 ts)))) (one_token 𝓛 ts) $ pick ! (λ q. split ! $
      use1 𝓛 (‵ (flft κ (thinned κ q)) ⊛ raw (wand 𝓤 (A.lft κ (thinned κ q)) (A.lft (span ts) q))) (𝓛.lfts.lft-incl (span ts) κ q sp) $ split ! $
      move ! (3 ∷ 0 ∷ []) $
      use2 𝓛 (later (‵ (t κ) ⊛ ‵ (flft κ (thinned κ q)))) (lent_token k κ (thinned κ q)) $ await ! tt $ split ! $ move ! (1 ∷ 2 ∷ []) $
      use2 𝓛 (‵ (flft (span ts) q)) (apply∗ 𝓤 (A.lft κ (thinned κ q)) (A.lft (span ts) q)) $ move ! (0 ∷ 2 ∷ []) $
      use2 𝓛 (raw (lfts 𝓛 ts)) (apply∗ 𝓤 (A.lft (span ts) q) (lfts 𝓛 ts)) $ now ! $ move ! (1 ∷ 0 ∷ []) $ done !)
