-- The table's invariant, opened without an instruction: the words stay, and the rest of the table goes along with what is given. Assumes `Logic`.
use Rattle.std.proofs.Common.{◌≡◌, ℕ, zero, suc, ◌+◌, ◌<◌, List, [], ◌∷◌, ◌++◌, length, set, sym, refl, ap, ◌∙◌, subst, arith, length-set}
use mathlib.Core.List.{not-mem-nil}
use mathlib.Core.Option.{Option}
use mathlib.Core.Option as maybe
use lib.ListN.{get_elem?}
use seplogic.Ra.Pcs.{OpDef, OpDef-comm}
use seplogic.Ra.Ura.{Ura}
use base.Fraction.{full_share}
use base.FractionLaws.{not-OpDef-full_share}
use base.Share.{quarter, three_quarters}
use base.Stored.{Coded}
use base.Algebras.{pcs, shares}
use base.Several.{bodies}
use base.Logic.{SProp, ent, sep, ex, all, guard, upd, all_e, upd_i, guard_i}
use base.Fml.{Lft, Share, Fml, ftrue, fsep, fex, fbor, fnamed, flft}
use types.Logic.{Logic, sem}
use types.Keyed.{entries_beside}
use types.Kit.{‵, raw, ◌⊛◌, some, given, ◌$◌, ◌∵◌, !, qed, by, move, keep, drop, split, join, fsplit, fsplit3, fjoin, fjoin3, fpick, fpack, pick, learn, show, check, frame, assume, suffices, settle, done, use1, use2, rewrite}
use denote.RattleType.{RattleType}
use denote.RawPtr.{Ptr, block_of, count_of}
use denote.Steps.{nothing}
use Rattle.atomic_table.specs.Table.{State, Me, Act, keeps, takes, gives, chain, homes_after, carried_after, Valid, Splits, Joins}
use Rattle.atomic_table.specs.Seated.{fact, row, halved, seen, unused, roster, tracked, shelf, carried, TableId, age, place, names, standing, inner, common, mine}
use Rattle.atomic_table.proofs.Roster.{Moved, moves, Joined, joins, apart, taken, returned}
use Rattle.sdd_witness.specs.Witness.{view_of}
use Rattle.sdd_witness.specs.Steps.{moved, AllowsAlone, AllowsBeside}
use Rattle.sdd_witness.proofs.WitnessShares.{agreed}

-- ---- whoever has any share of a view knows it
module _ {M : Type 1} {𝓤 : Ura M} (𝓛 : Logic 𝓤) {V : Type 0} (cv : Coded V) (γ : ℕ) where
  abbrev Stands : ℕ → List V → ℕ → ℕ → V → Share → SProp 𝓤
  Stands k vs i j v r = guard 𝓤 (get_elem? vs i ≡ maybe.some v) (sep 𝓤 (sem 𝓛 (roster cv.code γ k vs)) (sem 𝓛 (view_of γ j (cv.code v) r)))

  pub stands : (vs : List V) (k i j : ℕ) (v : V) (r : Share) → j ≡ k + i
      → ent 𝓤 (sep 𝓤 (sem 𝓛 (roster cv.code γ k vs)) (sem 𝓛 (view_of γ j (cv.code v) r))) (Stands k vs i j v r)
  stands [] k i j v r e = qed 𝓛 (‵ (roster cv.code γ k []) ∷ ‵ (view_of γ j (cv.code v) r) ∷ []) ∵ fpick ! (λ d. move ! (1 ∷ 0 ∷ []) $
      use2 𝓛 (given (OpDef halved.op (r, cv.code v) (full_share, cv.code d)) (‵ (view_of γ j (cv.code v) r) ⊛ ‵ (unused cv.code γ k d)))
      (entries_beside halved 𝓛 γ k j (λ _. (full_share, cv.code d)) (r, cv.code v) (omega arith)) $
      learn ! (λ x. absurd (not-OpDef-full_share r ((OpDef-comm (pcs shares) {a = r} {b = full_share}).0 x.0))))
  stands (w ∷ ws) k zero j v r e = let is : j ≡ k = omega arith in
      qed 𝓛 ((‵ (seen cv.code γ k quarter w) ⊛ ‵ (roster cv.code γ (suc k) ws)) ∷ ‵ (view_of γ j (cv.code v) r) ∷ []) ∵ split ! $
      rewrite ! 2 (λ (m : ℕ). ‵ (view_of γ m (cv.code v) r)) is refl $ move ! (0 ∷ 2 ∷ []) $
      use2 𝓛 (given (cv.code w ≡ cv.code v) (‵ (seen cv.code γ k quarter w) ⊛ ‵ (view_of γ k (cv.code v) r)))
      (agreed 𝓛 γ k (cv.code w) (cv.code v) quarter r) $ learn ! (λ same. check ! (ap maybe.some (cv.inj w v same)) $ split ! $
      rewrite ! 1 (λ (m : ℕ). ‵ (view_of γ m (cv.code v) r)) (sym is) refl $ move ! (0 ∷ 2 ∷ []) $ join ! $ done !)
  stands (w ∷ ws) k (suc i) j v r e =
      qed 𝓛 ((‵ (seen cv.code γ k quarter w) ⊛ ‵ (roster cv.code γ (suc k) ws)) ∷ ‵ (view_of γ j (cv.code v) r) ∷ []) ∵ split ! $ move ! (1 ∷ 2 ∷ []) $
      use2 𝓛 (given (get_elem? ws i ≡ maybe.some v) (‵ (roster cv.code γ (suc k) ws) ⊛ ‵ (view_of γ j (cv.code v) r)))
      (stands ws (suc k) i j v r (omega arith)) $ learn ! (λ at. check ! at $ split ! $ move ! (2 ∷ 0 ∷ []) $ join ! $ done !)

module _ {M : Type 1} {𝓤 : Ura M} (𝓛 : Logic 𝓤) (R : RattleType) {V : Type 0} (cv : Coded V) (holds : State R.Denot V → Type 0) (w p : Ptr) (z : TableId) where
  open 𝓛 use {H, A}

  abbrev Pr : Type 2
  Pr = SProp 𝓤

  abbrev ◌⊢◌ : Pr → Pr → Type 1
  P ⊢ Q = ent 𝓤 P Q

  abbrev ◌∗◌ : Pr → Pr → Pr
  P ∗ Q = sep 𝓤 P Q

  infix 26 ◌⊢◌
  infixr 35 ◌∗◌
  abbrev ⟦◌⟧ : Fml → Pr
  ⟦ P ⟧ = sem 𝓛 P

  abbrev κ : Lft
  κ = age z

  abbrev γ : ℕ
  γ = z.views_name

  abbrev C : Fml
  C = common R cv.code holds w p z

  abbrev I : Fml
  I = inner R cv.code holds w p z

  abbrev S : Type 0
  S = R.Denot

  abbrev sat : ℕ → Me S V → Fml
  sat = mine R cv.code z

  abbrev half : ℕ → V → Fml
  half id v = seen cv.code γ id three_quarters v

  abbrev homed : List (Option S) → Fml
  homed hs = shelf κ R (place z) (names z) 0 hs

  abbrev out : List (ℕ × S) → Fml
  out cs = carried κ R (place z) (names z) z.slots cs

  abbrev Fits : State S V → Type 0
  Fits s = holds s × (length s.words ≡ z.words) × (length s.homes ≡ z.slots)

  abbrev Rest : State S V → Pr
  Rest s = ⟦ homed s.homes ⟧ ∗ ⟦ roster cv.code γ 0 s.views ⟧

  abbrev Next : Pr → State S V → State S V → Pr
  Next Q s t = guard 𝓤 ((t.words ≡ s.words) × holds t × (length t.homes ≡ z.slots)) (Rest t ∗ Q)

  -- what is given changes together with the table, whose words stay
  opened : (q : Share) (K Q : Pr) → ((s : State S V) → Fits s → Rest s ∗ K ⊢ upd 𝓤 (ex 𝓤 (Next Q s))) → ⟦ C ⟧ ∗ A.lft κ q ∗ K ⊢ H.⇛ (Q ∗ A.lft κ q)
  opened q K Q law = let P : Fml = fbor κ I in let b : ℕ = block_of w in let o : ℕ = count_of w in
      qed 𝓛 (‵ C ∷ ‵ (flft κ q) ∷ raw K ∷ []) ∵ fsplit ! $ drop ! $
      use1 𝓛 (some (λ (j : ℕ). ‵ (fnamed j P))) (𝓛.invs.inv_named P) $ pick ! (λ j. let Z : Pr = ⟦ I ⟧ ∗ ⟦ bodies [] ⟧ ∗ Q in
      suffices ! _ (𝓛.invs.invs_bor_acc j κ q I [] Q ((λ m. not-mem-nil m), tt)) $ nothing ! $ move ! (1 ∷ 0 ∷ []) $ fjoin ! $ frame ! $ frame ! $
      assume ! (‵ I ⊛ ‵ (bodies [])) $ split ! $ fpick ! (λ s. fsplit3 ! $ move ! (2 ∷ []) $ fpick ! (λ so. drop ! $ move ! (1 ∷ 3 ∷ []) $
      let long : length s.words ≡ z.words = so.1 in
      use2 𝓛 (raw (upd 𝓤 (ex 𝓤 (Next Q s)))) (law s so) $
      settle 𝓛 Z (some (λ (t : State S V). given ((t.words ≡ s.words) × holds t × (length t.homes ≡ z.slots))
      (‵ (fsep (homed t.homes) (roster cv.code γ 0 t.views)) ⊛ raw Q))) $ pick ! (λ t. learn ! (λ good. split ! $
      rewrite ! 2 (λ (ms : List ℕ). ‵ (row b o ms)) (sym good.0) refl $ nothing ! $
      fpack ! (Fits t) (λ _. ftrue) (good.1, subst (λ (ms : List ℕ). length ms ≡ z.words) (sym good.0) long, good.2) $
      move ! (3 ∷ 1 ∷ 0 ∷ []) $ fjoin3 ! $ fpack ! (State S V) (standing R cv.code holds w p z) t $ suffices ! _ (upd_i 𝓤 Z) $ move ! (0 ∷ 2 ∷ []) $ done !)))))

  acts : (hs : List (Option S)) (cs : List (ℕ × S)) (a : Act S) → length hs ≡ z.slots → Valid hs cs a
      → ⟦ homed hs ⟧ ∗ ⟦ out cs ⟧ ⊢ guard 𝓤 (length (homes_after hs cs a) ≡ z.slots) (⟦ homed (homes_after hs cs a) ⟧ ∗ ⟦ out (carried_after cs a) ⟧)
  acts hs cs keeps long ok = guard_i 𝓤 (length hs ≡ z.slots) _ long
  acts hs cs (takes k y) long ok = qed 𝓛 (‵ (homed hs) ∷ ‵ (out cs) ∷ []) ∵ check ! (length-set hs k maybe.none ∙ long) $
      use1 𝓛 (given (k < length hs) (‵ (tracked κ R (place z) (names z) k y) ⊛ ‵ (homed (set hs k maybe.none))))
      (taken 𝓛 κ R (place z) (names z) hs 0 k k y (omega arith) ok) $ learn ! (λ near. split ! $ move ! (1 ∷ []) $ frame ! $ nothing ! $
      fpack ! (k < z.slots) (λ _. ftrue) (subst (λ (n : ℕ). k < n) long near) $ done !)
  acts hs [] gives long ok = guard_i 𝓤 (length hs ≡ z.slots) _ long
  acts hs (x ∷ xs) gives long ok = qed 𝓛 (‵ (homed hs) ∷ ‵ (out (x ∷ xs)) ∷ []) ∵ check ! (length-set hs x.0 (maybe.some x.1) ∙ long) $ move ! (1 ∷ []) $
      fsplit3 ! $ drop ! $ move ! (2 ∷ 0 ∷ []) $
      use2 𝓛 (‵ (homed (set hs x.0 (maybe.some x.1)))) (returned 𝓛 κ R (place z) (names z) hs 0 x.0 x.0 x.1 (omega arith)) $ done !
  acts hs cs (chain a a') long ok = let hs' : List (Option S) = homes_after hs cs a in let cs' : List (ℕ × S) = carried_after cs a in
      qed 𝓛 (‵ (homed hs) ∷ ‵ (out cs) ∷ []) ∵
      use2 𝓛 (given (length hs' ≡ z.slots) (‵ (homed hs') ⊛ ‵ (out cs'))) (acts hs cs a long ok.0) $ learn ! (λ long'. split ! $
      by ! (acts hs' cs' a' long' ok.1))

  module _ (q : Share) (id : ℕ) (me : Me S V) (then : Me S V → Type 0) where
    abbrev pub seated : Me S V → Fml
    seated u = fsep (fact (then u)) (sat id u)

    abbrev pub after : Fml
    after = fex (Me S V) seated

    pub alone : AllowsAlone holds z.slots id me then → ⟦ C ⟧ ∗ A.lft κ q ∗ ⟦ sat id me ⟧ ⊢ H.⇛ (⟦ after ⟧ ∗ A.lft κ q)
    alone law = opened q ⟦ sat id me ⟧ ⟦ after ⟧ (λ s so. let Z : Pr = ex 𝓤 (Next ⟦ after ⟧ s) in
        qed 𝓛 ((‵ (homed s.homes) ⊛ ‵ (roster cv.code γ 0 s.views)) ∷ ‵ (half id me.0) ∷ ‵ (out me.1) ∷ []) ∵ split ! $ move ! (1 ∷ 2 ∷ []) $
        use2 𝓛 (given (get_elem? s.views id ≡ maybe.some me.0) (raw (all 𝓤 (Moved 𝓛 cv γ 0 s.views id id))))
        (moves 𝓛 cv γ s.views 0 id id me.0 (omega arith)) $ learn ! (λ at.
        let r = law s so.0 so.2 at in let u : V = r.0 in let a : Act S = r.1 in let t : State S V = moved s id me.1 u a in
        let me' : Me S V = (u, carried_after me.1 a) in
        use1 𝓛 (raw (Moved 𝓛 cv γ 0 s.views id id u)) (all_e 𝓤 (Moved 𝓛 cv γ 0 s.views id id) u) $
        settle 𝓛 Z (‵ (roster cv.code γ 0 t.views) ⊛ ‵ (half id u)) $ split ! $ move ! (2 ∷ 3 ∷ []) $
        use2 𝓛 (given (length t.homes ≡ z.slots) (‵ (homed t.homes) ⊛ ‵ (out me'.1))) (acts s.homes me.1 a so.2 r.2) $ learn ! (λ long. split ! $
        suffices ! _ (upd_i 𝓤 Z) $ show ! (Next ⟦ after ⟧ s) t $ check ! (refl, r.3, long) $ move ! (0 ∷ 2 ∷ []) $ join ! $ frame ! $
        show ! (λ (x : Me S V). ⟦ seated x ⟧) me' $
        nothing ! $ fpack ! (then me') (λ _. ftrue) r.4 $ move ! (0 ∷ 2 ∷ 1 ∷ []) $ done !)))

    module _ (jd : ℕ) (v : V) (r : Share) where
      abbrev Seen : Fml
      Seen = view_of γ jd (cv.code v) r

      pub beside : AllowsBeside holds z.slots id me jd v then
          → ⟦ C ⟧ ∗ A.lft κ q ∗ (⟦ Seen ⟧ ∗ ⟦ sat id me ⟧) ⊢ H.⇛ ((⟦ Seen ⟧ ∗ ⟦ after ⟧) ∗ A.lft κ q)
      beside law = let Q : Pr = ⟦ Seen ⟧ ∗ ⟦ after ⟧ in opened q (⟦ Seen ⟧ ∗ ⟦ sat id me ⟧) Q (λ s so. let Z : Pr = ex 𝓤 (Next Q s) in
          qed 𝓛 ((‵ (homed s.homes) ⊛ ‵ (roster cv.code γ 0 s.views)) ∷ ‵ Seen ∷ ‵ (half id me.0) ∷ ‵ (out me.1) ∷ []) ∵ split ! $ move ! (1 ∷ 2 ∷ []) $
          use2 𝓛 (given (get_elem? s.views jd ≡ maybe.some v) (‵ (roster cv.code γ 0 s.views) ⊛ ‵ Seen))
          (stands 𝓛 cv γ s.views 0 jd jd v r (omega arith)) $ learn ! (λ there. split ! $
          -- [the roster; the witness's share; the homes; the view; what is carried]
          move ! (0 ∷ 3 ∷ []) $
          use2 𝓛 (given (get_elem? s.views id ≡ maybe.some me.0) (raw (all 𝓤 (Moved 𝓛 cv γ 0 s.views id id))))
          (moves 𝓛 cv γ s.views 0 id id me.0 (omega arith)) $ learn ! (λ at.
          let r = law s so.0 so.2 at there in let u : V = r.0 in let a : Act S = r.1 in let t : State S V = moved s id me.1 u a in
          let me' : Me S V = (u, carried_after me.1 a) in
          use1 𝓛 (raw (Moved 𝓛 cv γ 0 s.views id id u)) (all_e 𝓤 (Moved 𝓛 cv γ 0 s.views id id) u) $
          settle 𝓛 Z (‵ (roster cv.code γ 0 t.views) ⊛ ‵ (half id u)) $ split ! $ move ! (3 ∷ 4 ∷ []) $
          use2 𝓛 (given (length t.homes ≡ z.slots) (‵ (homed t.homes) ⊛ ‵ (out me'.1))) (acts s.homes me.1 a so.2 r.2) $ learn ! (λ long. split ! $
          -- [the homes; what is carried; the roster; the view; the witness's share]
          suffices ! _ (upd_i 𝓤 Z) $ show ! (Next Q s) t $ check ! (refl, r.3, long) $ move ! (0 ∷ 2 ∷ []) $ join ! $ frame ! $ move ! (2 ∷ []) $ frame ! $
          show ! (λ (x : Me S V). ⟦ seated x ⟧) me' $
          nothing ! $ fpack ! (then me') (λ _. ftrue) r.4 $ move ! (0 ∷ 2 ∷ 1 ∷ []) $ done !))))

  module _ (q : Share) (id : ℕ) (me : Me S V) (l r : V) where
    abbrev pub two : ℕ → Fml
    two j = fsep (sat id (l, me.1)) (view_of γ j (cv.code r) three_quarters)

    pub parts : Splits holds id me.0 l r → ⟦ C ⟧ ∗ A.lft κ q ∗ ⟦ sat id me ⟧ ⊢ H.⇛ (⟦ fex ℕ two ⟧ ∗ A.lft κ q)
    parts law = opened q ⟦ sat id me ⟧ ⟦ fex ℕ two ⟧ (λ s so. let Z : Pr = ex 𝓤 (Next ⟦ fex ℕ two ⟧ s) in let vs : List V = set s.views id l in
        let t : State S V = record { words = s.words; homes = s.homes; views = vs ++ r ∷ [] } in
        qed 𝓛 ((‵ (homed s.homes) ⊛ ‵ (roster cv.code γ 0 s.views)) ∷ ‵ (half id me.0) ∷ ‵ (out me.1) ∷ []) ∵ split ! $ move ! (1 ∷ 2 ∷ []) $
        use2 𝓛 (given (get_elem? s.views id ≡ maybe.some me.0) (raw (all 𝓤 (Moved 𝓛 cv γ 0 s.views id id))))
        (moves 𝓛 cv γ s.views 0 id id me.0 (omega arith)) $ learn ! (λ at.
        use1 𝓛 (raw (Moved 𝓛 cv γ 0 s.views id id l)) (all_e 𝓤 (Moved 𝓛 cv γ 0 s.views id id) l) $
        settle 𝓛 Z (‵ (roster cv.code γ 0 vs) ⊛ ‵ (half id l)) $ split ! $
        use1 𝓛 (raw (upd 𝓤 (ex 𝓤 (Joined 𝓛 cv γ 0 vs r)))) (joins 𝓛 cv γ vs 0 r) $
        settle 𝓛 Z (some (λ (j : ℕ). ‵ (roster cv.code γ 0 (vs ++ r ∷ [])) ⊛ ‵ (half j r))) $ pick ! (λ j. split ! $
        suffices ! _ (upd_i 𝓤 Z) $ show ! (Next ⟦ fex ℕ two ⟧ s) t $ check ! (refl, law s so.0 at, so.2) $ move ! (3 ∷ 0 ∷ []) $ join ! $ frame ! $
        show ! (λ (x : ℕ). ⟦ two x ⟧) j $ move ! (1 ∷ 2 ∷ []) $ fjoin ! $ frame ! $ done !)))

  module _ (q : Share) (id : ℕ) (me : Me S V) (other : ℕ) (u : V) (both spent : V) where
    pub absorbs : Joins holds id me.0 other u both spent
        → ⟦ C ⟧ ∗ A.lft κ q ∗ (⟦ sat id me ⟧ ∗ ⟦ half other u ⟧) ⊢ H.⇛ (⟦ sat id (both, me.1) ⟧ ∗ A.lft κ q)
    absorbs law = let Q : Pr = ⟦ sat id (both, me.1) ⟧ in opened q (⟦ sat id me ⟧ ∗ ⟦ half other u ⟧) Q (λ s so. let Z : Pr = ex 𝓤 (Next Q s) in
        let vs : List V = set s.views id both in let t : State S V = record { words = s.words; homes = s.homes; views = set vs other spent } in
        qed 𝓛 ((‵ (homed s.homes) ⊛ ‵ (roster cv.code γ 0 s.views)) ∷ (‵ (half id me.0) ⊛ ‵ (out me.1)) ∷ ‵ (half other u) ∷ []) ∵ split ! $ move ! (2 ∷ []) $
        split ! $ move ! (0 ∷ 4 ∷ []) $
        -- [the view; the other's; what is carried; the homes; the roster]
        use2 𝓛 (given (¬ (other ≡ id)) (‵ (half id me.0) ⊛ ‵ (half other u))) (apart 𝓛 cv γ id other me.0 u) $ learn ! (λ two. split ! $ move ! (4 ∷ 0 ∷ []) $
        use2 𝓛 (given (get_elem? s.views id ≡ maybe.some me.0) (raw (all 𝓤 (Moved 𝓛 cv γ 0 s.views id id))))
        (moves 𝓛 cv γ s.views 0 id id me.0 (omega arith)) $ learn ! (λ at.
        use1 𝓛 (raw (Moved 𝓛 cv γ 0 s.views id id both)) (all_e 𝓤 (Moved 𝓛 cv γ 0 s.views id id) both) $
        settle 𝓛 Z (‵ (roster cv.code γ 0 vs) ⊛ ‵ (half id both)) $ split ! $ move ! (0 ∷ 2 ∷ []) $
        use2 𝓛 (given (get_elem? vs other ≡ maybe.some u) (raw (all 𝓤 (Moved 𝓛 cv γ 0 vs other other))))
        (moves 𝓛 cv γ vs 0 other other u (omega arith)) $ learn ! (λ at'.
        use1 𝓛 (raw (Moved 𝓛 cv γ 0 vs other other spent)) (all_e 𝓤 (Moved 𝓛 cv γ 0 vs other other) spent) $
        settle 𝓛 Z (‵ (roster cv.code γ 0 t.views) ⊛ ‵ (half other spent)) $ split ! $
        -- [the roster; what is spent; the view; what is carried; the homes]
        suffices ! _ (upd_i 𝓤 Z) $ show ! (Next Q s) t $ check ! (refl, law s so.0 at two at', so.2) $ move ! (4 ∷ 0 ∷ []) $ join ! $ frame ! $
        keep ! (1 ∷ 2 ∷ []) $ done !))))
