-- A deal with a bank: the table's invariant and the bank's are opened at once, without an instruction. Assumes `Logic`.
use Rattle.std.proofs.Common.{inl, inr, ◌≡◌, ℕ, ◌+◌, ◌-◌, ◌^◌, ◌<◌, ◌≤◌, List, [], ◌∷◌, length, set, sym, refl, ◌∙◌, subst, arith, length-set}
use mathlib.Core.List.{mem-cons, not-mem-nil}
use mathlib.Core.Option.{Option}
use Rattle.std.specs.Prelude.{Option as Opt}
use mathlib.Core.Option as maybe
use lib.ListN.{get_elem?}
use seplogic.Ra.Ura.{Ura}
use base.Share.{three_quarters}
use base.Stored.{Coded, coded×, coded_ℕ}
use base.Several.{Apart, bodies}
use base.Logic.{SProp, ent, sep, ex, all, guard, upd, all_e, upd_i, guard_i}
use base.Fml.{Lft, Share, Fml, ftrue, fsep, fex, fbor, fnamed, flft}
use types.Logic.{Logic, sem}
use types.Kit.{‵, raw, ◌⊛◌, some, given, later, ◌$◌, ◌∵◌, !, qed, by, move, drop, split, join, fsplit, fsplit3, fjoin, fjoin3, fpick, fpack, pick, learn, show, check, frame, assume, suffices, settle, done, use1, use2, rewrite, split3, updating, await, now, use3}
use denote.RattleType.{RattleType}
use denote.RawPtr.{Ptr, block_of, count_of}
use denote.Steps.{nothing}
use Rattle.atomic_table.specs.Table.{State, Me, Act, keeps, takes, gives, chain, homes_after, carried_after, Valid}
use Rattle.atomic_table.specs.Seated.{fact, row, halved, itself, seen, unused, roster, tracked, shelf, carried, TableId, age, place, names, standing, inner, common, mine}
use Rattle.atomic_table.proofs.Roster.{Moved, moves, apart, taken, returned}
use Rattle.sdd_witness.specs.Witness.{view_of}
use Rattle.sdd_witness.proofs.TableInvariant.{stands}
use Rattle.sdd_rights.specs.Units.{units, tokens}
use Rattle.sdd_rights.proofs.Steps.{Meets, splits, joins as adds_up, tokens_cut, tokens_glue}
use Rattle.sdd_rights.specs.ReadFraction.{agreed_on}
use Rattle.sdd_shared_values.specs.ValueFractions.{FractionContent, holding, holdings, tokens_of}
use Rattle.sdd_shared_values.specs.Bank.{IsPart, IsJoined, Leaves, Comes, kept, vault, numbered, bank_owns, dealt, AllowsDeal}
use Rattle.sdd_shared_values.specs.contracts.value_fraction.ValueFraction as fraction
use Rattle.sdd_shared_values.specs.declared.value_fraction.ValueFraction.{ValueFraction}
use denote.Shadow.{makes_shadow}
use denote.Struct.Struct.{Struct}
use denote.Struct.Owning.{shape}
use Rattle.atomic_table.specs.declared.shared.TableRule as rule
use Rattle.sdd_shared_values.specs.declared.bank.Treasury as treasury
use Rattle.sdd_shared_values.specs.contracts.bank.Bank as bank
use Rattle.sdd_shared_values.proofs.Fields.{token_val}

apart_two : (i j : ℕ) (P Q : Fml) → ¬ (i ≡ j) → Apart ((i, P) ∷ (j, Q) ∷ [])
apart_two i j P Q ne = (
  (λ m. mathlib.Core.Logic.Or.elim mathlib.Core.HLevel.⊥_prop ((mem-cons {a = i} {b = j} {l = []}).0 m) ne (λ x. not-mem-nil x)),
  ((λ m. not-mem-nil m), tt),
)

-- ---- contents
module _ {M : Type 1} {𝓤 : Ura M} (𝓛 : Logic 𝓤) where
  abbrev ⟪◌⟫ : Fml → SProp 𝓤
  ⟪ P ⟫ = sem 𝓛 P

  parted : (h l h' : FractionContent) → IsPart h l h' → ent 𝓤 ⟪ holding h ⟫ (sep 𝓤 ⟪ holding h' ⟫ ⟪ holding l ⟫)
  parted h l h' is = let k : ℕ = h.units in let m : ℕ = l.units in let g = agreed_on h.lifetime h.shown in let pos = is.some in let less = is.fewer in
      let rest : FractionContent = record h { units = k - m } in let piece : FractionContent = record h { units = m } in
      qed 𝓛 (‵ (units h.gamma h.number g k) ∷ ‵ (tokens_of h.lent h.lifetime k) ∷ []) ∵
      use1 𝓛 (given (k ≤ 2 ^ 63) (‵ (units h.gamma h.number g (k - m)) ⊛ ‵ (units h.gamma h.number g m)))
      (splits 𝓛 h.gamma h.number g k (k - m) m (omega arith) pos (omega arith)) $ learn ! (λ fits. split ! $ move ! (2 ∷ []) $
      rewrite ! 0 (λ (n : Opt ℕ). ‵ (tokens_of n h.lifetime k)) is.free refl $
      use1 𝓛 (‵ (tokens h.lifetime (k - m)) ⊛ ‵ (tokens h.lifetime m)) (tokens_cut 𝓛 h.lifetime k (k - m) m (omega arith) pos (omega arith) fits) $ split ! $
      rewrite ! 0 (λ (n : Opt ℕ). ‵ (tokens_of n h.lifetime (k - m))) (sym is.free) refl $
      rewrite ! 1 (λ (n : Opt ℕ). ‵ (tokens_of n h.lifetime m)) (sym is.free) refl $
      move ! (2 ∷ 0 ∷ []) $ fjoin ! $ rewrite ! 0 (λ (x : FractionContent). ‵ (holding x)) (sym is.stays) refl $ move ! (2 ∷ 1 ∷ []) $ fjoin ! $
      rewrite ! 0 (λ (x : FractionContent). ‵ (holding x)) (sym is.same) refl $ move ! (1 ∷ 0 ∷ []) $ done !)

  put_in : (h l h' : FractionContent) → IsJoined h l h' → ent 𝓤 (sep 𝓤 ⟪ holding h ⟫ ⟪ holding l ⟫) ⟪ holding h' ⟫
  put_in d e h' is = let k : ℕ = d.units in let j : ℕ = e.units in let g = agreed_on d.lifetime d.shown in let h = agreed_on e.lifetime e.shown in
      qed 𝓛 (‵ (holding d) ∷ ‵ (holding e) ∷ []) ∵ move ! (1 ∷ []) $ rewrite ! 0 (λ (m : ℕ × ℕ). ‵ (fsep (units m.0 m.1 h j) (tokens_of e.lent e.lifetime j)))
      (λ i. (is.gamma i, is.number i)) refl $ fsplit ! $ move ! (2 ∷ []) $ fsplit ! $ move ! (1 ∷ []) $
      rewrite ! 0 (λ (n : Opt ℕ). ‵ (tokens_of n d.lifetime k)) is.free refl $ move ! (3 ∷ []) $
      rewrite ! 0 (λ (n : Opt ℕ). ‵ (tokens_of n e.lifetime j)) is.others refl $ move ! (2 ∷ 3 ∷ []) $
      use2 𝓛 (given (Meets g h k j) (‵ (units d.gamma d.number g (k + j)))) (adds_up 𝓛 d.gamma d.number g h k j) $
      learn ! (λ meets. let some = meets.some in let fits = meets.fits in
      let both = (coded× coded_ℕ itself).inj (d.lifetime, d.shown) (e.lifetime, e.shown) meets.values in
      let lifetimes : e.lifetime ≡ d.lifetime = sym (λ i. (both i).0) in move ! (1 ∷ []) $ rewrite ! 0 (λ (m : ℕ). ‵ (tokens m j)) lifetimes refl $
      move ! (2 ∷ 0 ∷ []) $ use2 𝓛 (‵ (tokens d.lifetime (k + j))) (tokens_glue 𝓛 d.lifetime k j (omega arith) fits) $
      rewrite ! 0 (λ (n : Opt ℕ). ‵ (tokens_of n d.lifetime (k + j))) (sym is.free) refl $ move ! (1 ∷ 0 ∷ []) $ fjoin ! $
      rewrite ! 0 (λ (x : FractionContent). ‵ (holding x)) (sym is.sum) refl $ done !)

  leaves_by : (ls : List FractionContent) (l : FractionContent) (rest : List FractionContent) → Leaves ls l rest
      → ent 𝓤 ⟪ holdings ls ⟫ (sep 𝓤 ⟪ holdings rest ⟫ ⟪ holding l ⟫)
  leaves_by [] l rest it = absurd it
  leaves_by (h ∷ hs) l rest (inl it) = qed 𝓛 (‵ (holding h) ∷ ‵ (holdings hs) ∷ []) ∵ rewrite ! 0 (λ (x : FractionContent). ‵ (holding x)) (sym it.0) refl $
      rewrite ! 1 (λ (x : List FractionContent). ‵ (holdings x)) (sym it.1) refl $ move ! (1 ∷ 0 ∷ []) $ done !
  leaves_by (h ∷ hs) l rest (inr (inl it)) = qed 𝓛 (‵ (holding h) ∷ ‵ (holdings hs) ∷ []) ∵ use1 𝓛 (‵ (holding it.0) ⊛ ‵ (holding l)) (parted h l it.0 it.1) $
      split ! $
      move ! (0 ∷ 2 ∷ []) $ fjoin ! $ rewrite ! 0 (λ (x : List FractionContent). ‵ (holdings x)) (sym it.2) refl $ done !
  leaves_by (h ∷ hs) l rest (inr (inr it)) = qed 𝓛 (‵ (holding h) ∷ ‵ (holdings hs) ∷ []) ∵ move ! (1 ∷ []) $
      use1 𝓛 (‵ (holdings it.0) ⊛ ‵ (holding l)) (leaves_by hs l it.0 it.1) $ split ! $ move ! (2 ∷ 0 ∷ []) $ fjoin ! $
      rewrite ! 0 (λ (x : List FractionContent). ‵ (holdings x)) (sym it.2) refl $ done !

  comes_by : (ls : List FractionContent) (l : FractionContent) (more : List FractionContent) → Comes ls l more
      → ent 𝓤 (sep 𝓤 ⟪ holdings ls ⟫ ⟪ holding l ⟫) ⟪ holdings more ⟫
  comes_by [] l more it = qed 𝓛 (‵ (holdings []) ∷ ‵ (holding l) ∷ []) ∵ move ! (1 ∷ 0 ∷ []) $ fjoin ! $
      rewrite ! 0 (λ (x : List FractionContent). ‵ (holdings x)) (sym it) refl $ done !
  comes_by (h ∷ hs) l more (inl it) = qed 𝓛 (‵ (holdings (h ∷ hs)) ∷ ‵ (holding l) ∷ []) ∵ move ! (1 ∷ 0 ∷ []) $ fjoin ! $
      rewrite ! 0 (λ (x : List FractionContent). ‵ (holdings x)) (sym it) refl $ done !
  comes_by (h ∷ hs) l more (inr (inl it)) = qed 𝓛 (‵ (holdings (h ∷ hs)) ∷ ‵ (holding l) ∷ []) ∵ fsplit ! $ move ! (0 ∷ 2 ∷ []) $
      use2 𝓛 (‵ (holding it.0)) (put_in h l it.0 it.1) $ fjoin ! $ rewrite ! 0 (λ (x : List FractionContent). ‵ (holdings x)) (sym it.2) refl $ done !
  comes_by (h ∷ hs) l more (inr (inr it)) = qed 𝓛 (‵ (holdings (h ∷ hs)) ∷ ‵ (holding l) ∷ []) ∵ fsplit ! $ move ! (1 ∷ 2 ∷ []) $
      use2 𝓛 (‵ (holdings it.0)) (comes_by hs l it.0 it.1) $ move ! (1 ∷ 0 ∷ []) $ fjoin ! $
      rewrite ! 0 (λ (x : List FractionContent). ‵ (holdings x)) (sym it.2) refl $ done !

module _ {M : Type 1} {𝓤 : Ura M} (𝓛 : Logic 𝓤) {V : Type 0} (cv : Coded V) (holds : State ValueFraction V → Type 0) (w p : Ptr) (z : TableId) where
  open 𝓛 use {H, A}

  abbrev R : RattleType
  R = fraction.the_row

  abbrev leaves : (ls : List FractionContent) (l : FractionContent) (rest : List FractionContent) → Leaves ls l rest
      → ent 𝓤 (sem 𝓛 (holdings ls)) (sep 𝓤 (sem 𝓛 (holdings rest)) (sem 𝓛 (holding l)))
  leaves = leaves_by 𝓛

  abbrev comes : (ls : List FractionContent) (l : FractionContent) (more : List FractionContent) → Comes ls l more
      → ent 𝓤 (sep 𝓤 (sem 𝓛 (holdings ls)) (sem 𝓛 (holding l))) (sem 𝓛 (holdings more))
  comes = comes_by 𝓛

  abbrev Pr : Type 2
  Pr = SProp 𝓤

  abbrev ◌⊢◌ : Pr → Pr → Type 1
  P ⊢ Q = ent 𝓤 P Q

  abbrev ◌∗◌ : Pr → Pr → Pr
  P ∗ Q = sep 𝓤 P Q

  infix 26 ◌⊢◌
  infixr 35 ◌∗◌
  abbrev ⟦◌⟧ : Fml → Pr
  ⟦ P ⟧ = sem 𝓛 P

  abbrev κ : Lft
  κ = age z

  abbrev γ : ℕ
  γ = z.views_name

  abbrev C : Fml
  C = common R cv.code holds w p z

  abbrev I : Fml
  I = inner R cv.code holds w p z

  abbrev S : Type 0
  S = R.Denot

  abbrev sat : ℕ → Me S V → Fml
  sat = mine R cv.code z

  abbrev half : ℕ → V → Fml
  half id v = seen cv.code γ id three_quarters v

  abbrev homed : List (Option S) → Fml
  homed hs = shelf κ R (place z) (names z) 0 hs

  abbrev out : List (ℕ × S) → Fml
  out cs = carried κ R (place z) (names z) z.slots cs

  abbrev ValueInvariant : State S V → Type 0
  ValueInvariant s = holds s × (length s.words ≡ z.words) × (length s.homes ≡ z.slots)

  abbrev Rest : State S V → Pr
  Rest s = ⟦ homed s.homes ⟧ ∗ ⟦ roster cv.code γ 0 s.views ⟧

  abbrev Next : Pr → State S V → State S V → Pr
  Next Q s t = guard 𝓤 ((t.words ≡ s.words) × holds t × (length t.homes ≡ z.slots)) (Rest t ∗ Q)

  -- what is given and what the other invariant holds change together with the table, whose words stay
  abbrev NextTo : Pr → Fml → State S V → State S V → Pr
  NextTo Q B s t = guard 𝓤 ((t.words ≡ s.words) × holds t × (length t.homes ≡ z.slots)) (Rest t ∗ ⟦ B ⟧ ∗ Q)

  opened_with : (q : Share) (n j : ℕ) (B : Fml) (K Q : Pr) → ¬ (n ≡ j) → ((s : State S V) → ValueInvariant s → Rest s ∗ ⟦ B ⟧ ∗ K ⊢ upd 𝓤 (ex 𝓤 (NextTo Q B s)))
      → A.named n (fbor κ I) ∗ A.named j B ∗ A.lft κ q ∗ K ⊢ H.⇛ (Q ∗ A.lft κ q)
  opened_with q n j B K Q ne law = let P : Fml = fbor κ I in let b : ℕ = block_of w in let o : ℕ = count_of w in
      let Z : Pr = ⟦ I ⟧ ∗ ⟦ bodies ((j, B) ∷ []) ⟧ ∗ Q in
      qed 𝓛 (‵ (fnamed n P) ∷ ‵ (fnamed j B) ∷ ‵ (flft κ q) ∷ raw K ∷ []) ∵
      suffices ! _ (𝓛.invs.invs_bor_acc n κ q I ((j, B) ∷ []) Q (apart_two n j P B ne)) $ nothing ! $ move ! (1 ∷ 2 ∷ 0 ∷ []) $ fjoin3 ! $ frame ! $ frame ! $
      assume ! (‵ I ⊛ ‵ (bodies ((j, B) ∷ []))) $ split ! $ fpick ! (λ s. fsplit3 ! $ move ! (2 ∷ []) $ fpick ! (λ so. drop ! $
      -- [the words; the rest; the bodies; what is given]
      let long : length s.words ≡ z.words = so.1 in move ! (2 ∷ []) $ fsplit ! $ move ! (3 ∷ 0 ∷ 4 ∷ []) $
      use3 𝓛 (raw (upd 𝓤 (ex 𝓤 (NextTo Q B s)))) (law s so) $
      settle 𝓛 Z (some (λ (t : State S V). given ((t.words ≡ s.words) × holds t × (length t.homes ≡ z.slots))
      (‵ (fsep (homed t.homes) (roster cv.code γ 0 t.views)) ⊛ ‵ B ⊛ raw Q))) $ pick ! (λ t. learn ! (λ good. split3 ! $
      -- [the rest; the bank; what is had; nothing; the words]
      rewrite ! 4 (λ (ms : List ℕ). ‵ (row b o ms)) (sym good.0) refl $ nothing ! $
      fpack ! (ValueInvariant t) (λ _. ftrue) (good.1, subst (λ (ms : List ℕ). length ms ≡ z.words) (sym good.0) long, good.2) $
      move ! (5 ∷ 1 ∷ 0 ∷ []) $ fjoin3 ! $ fpack ! (State S V) (standing R cv.code holds w p z) t $ suffices ! _ (upd_i 𝓤 Z) $
      -- [the table; the bank; what is had; nothing]
      move ! (1 ∷ 3 ∷ []) $ fjoin ! $ move ! (1 ∷ 0 ∷ 2 ∷ []) $ done !))))

  acts : (hs : List (Option S)) (cs : List (ℕ × S)) (a : Act S) → length hs ≡ z.slots → Valid hs cs a
      → ⟦ homed hs ⟧ ∗ ⟦ out cs ⟧ ⊢ guard 𝓤 (length (homes_after hs cs a) ≡ z.slots) (⟦ homed (homes_after hs cs a) ⟧ ∗ ⟦ out (carried_after cs a) ⟧)
  acts hs cs keeps long ok = guard_i 𝓤 (length hs ≡ z.slots) _ long
  acts hs cs (takes k y) long ok = qed 𝓛 (‵ (homed hs) ∷ ‵ (out cs) ∷ []) ∵ check ! (length-set hs k maybe.none ∙ long) $
      use1 𝓛 (given (k < length hs) (‵ (tracked κ R (place z) (names z) k y) ⊛ ‵ (homed (set hs k maybe.none))))
      (taken 𝓛 κ R (place z) (names z) hs 0 k k y (omega arith) ok) $ learn ! (λ near. split ! $ move ! (1 ∷ []) $ frame ! $ nothing ! $
      fpack ! (k < z.slots) (λ _. ftrue) (subst (λ (n : ℕ). k < n) long near) $ done !)
  acts hs [] gives long ok = guard_i 𝓤 (length hs ≡ z.slots) _ long
  acts hs (x ∷ xs) gives long ok = qed 𝓛 (‵ (homed hs) ∷ ‵ (out (x ∷ xs)) ∷ []) ∵ check ! (length-set hs x.0 (maybe.some x.1) ∙ long) $ move ! (1 ∷ []) $
      fsplit3 ! $ drop ! $ move ! (2 ∷ 0 ∷ []) $
      use2 𝓛 (‵ (homed (set hs x.0 (maybe.some x.1)))) (returned 𝓛 κ R (place z) (names z) hs 0 x.0 x.0 x.1 (omega arith)) $ done !
  acts hs cs (chain a a') long ok = let hs' : List (Option S) = homes_after hs cs a in let cs' : List (ℕ × S) = carried_after cs a in
      qed 𝓛 (‵ (homed hs) ∷ ‵ (out cs) ∷ []) ∵
      use2 𝓛 (given (length hs' ≡ z.slots) (‵ (homed hs') ⊛ ‵ (out cs'))) (acts hs cs a long ok.0) $ learn ! (λ long'. split ! $
      by ! (acts hs' cs' a' long' ok.1))

  module _ (q : Share) (id : ℕ) (me : Me S V) (bd : ℕ) (ours : V → Type 0) (banked : V → List FractionContent) (offered : FractionContent → Type 0)
      (then : FractionContent → Me S V → Type 0) where
    abbrev Bank : Fml
    Bank = vault cv.code z bd ours banked

    abbrev pub drawn : FractionContent × Me S V → Fml
    drawn x = fsep (fact (then x.0 x.1)) (fsep (holding x.0) (sat id x.1))

    -- both views are known, and both go
    pub draws : (n j : ℕ) → ¬ (n ≡ j) → AllowsDeal holds Leaves ours banked z.slots id me bd offered then
        → A.named n (fbor κ I) ∗ A.named j Bank ∗ A.lft κ q ∗ ⟦ sat id me ⟧ ⊢ H.⇛ (⟦ fex (FractionContent × Me S V) drawn ⟧ ∗ A.lft κ q)
    draws n j ne law = let Q : Pr = ⟦ fex (FractionContent × Me S V) drawn ⟧ in
        opened_with q n j Bank ⟦ sat id me ⟧ Q ne (λ s so. let Z : Pr = ex 𝓤 (NextTo Q Bank s) in
        qed 𝓛 ((‵ (homed s.homes) ⊛ ‵ (roster cv.code γ 0 s.views)) ∷ ‵ Bank ∷ ‵ (half id me.0) ∷ ‵ (out me.1) ∷ []) ∵ move ! (1 ∷ []) $
        fpick ! (λ b. fsplit3 ! $
        fpick ! (λ mine. drop ! $
        move ! (2 ∷ []) $ split ! $ move ! (2 ∷ 4 ∷ []) $
        -- [the bank's view; the seat's; the homes; the roster; the contents; what is carried]
        use2 𝓛 (given (¬ (id ≡ bd)) (‵ (half bd b) ⊛ ‵ (half id me.0))) (apart 𝓛 cv γ bd id b me.0) $ learn ! (λ two. split ! $ move ! (3 ∷ 0 ∷ []) $
        use2 𝓛 (given (get_elem? s.views bd ≡ maybe.some b) (‵ (roster cv.code γ 0 s.views) ⊛ ‵ (half bd b)))
        (stands 𝓛 cv γ s.views 0 bd bd b three_quarters (omega arith)) $ learn ! (λ there. split ! $ move ! (0 ∷ 2 ∷ []) $
        use2 𝓛 (given (get_elem? s.views id ≡ maybe.some me.0) (raw (all 𝓤 (Moved 𝓛 cv γ 0 s.views id id))))
        (moves 𝓛 cv γ s.views 0 id id me.0 (omega arith)) $ learn ! (λ at.
        let r = law s b so.0 so.2 at there mine two in let u : V = r.view in let b' : V = r.bank in let l : FractionContent = r.content in
        let a : Act S = r.act in
        let vs : List V = set s.views id u in let t : State S V = dealt s id me.1 u bd b' a in let me' : Me S V = (u, carried_after me.1 a) in
        use1 𝓛 (raw (Moved 𝓛 cv γ 0 s.views id id u)) (all_e 𝓤 (Moved 𝓛 cv γ 0 s.views id id) u) $
        settle 𝓛 Z (‵ (roster cv.code γ 0 vs) ⊛ ‵ (half id u)) $ split ! $ move ! (0 ∷ 2 ∷ []) $
        use2 𝓛 (given (get_elem? vs bd ≡ maybe.some b) (raw (all 𝓤 (Moved 𝓛 cv γ 0 vs bd bd))))
        (moves 𝓛 cv γ vs 0 bd bd b (omega arith)) $ learn ! (λ at'.
        use1 𝓛 (raw (Moved 𝓛 cv γ 0 vs bd bd b')) (all_e 𝓤 (Moved 𝓛 cv γ 0 vs bd bd) b') $
        settle 𝓛 Z (‵ (roster cv.code γ 0 t.views) ⊛ ‵ (half bd b')) $ split ! $ move ! (3 ∷ 5 ∷ []) $
        -- [the homes; what is carried; the roster; the bank's view; the seat's; the contents]
        use2 𝓛 (given (length t.homes ≡ z.slots) (‵ (homed t.homes) ⊛ ‵ (out me'.1))) (acts s.homes me.1 a so.2 r.valid) $ learn ! (λ long. split ! $
        move ! (5 ∷ []) $ use1 𝓛 (‵ (holdings (banked b')) ⊛ ‵ (holding l)) (leaves (banked b) l (banked b') r.goes) $ split ! $
        -- [the contents; what goes; the homes; what is carried; the roster; the bank's view; the seat's]
        suffices ! _ (upd_i 𝓤 Z) $ show ! (NextTo Q Bank s) t $ check ! (refl, r.holds, long) $ move ! (2 ∷ 4 ∷ []) $ join ! $ frame ! $
        move ! (3 ∷ 0 ∷ []) $ fjoin ! $ nothing ! $ fpack ! (ours b') (λ _. ftrue) r.ours $
        move ! (0 ∷ 1 ∷ []) $ fjoin ! $ fpack ! V (kept cv.code z bd ours banked) b' $ frame ! $
        show ! (λ (x : FractionContent × Me S V). ⟦ drawn x ⟧) (l, me') $
        nothing ! $ fpack ! (then l me') (λ _. ftrue) r.then $ move ! (0 ∷ 1 ∷ 3 ∷ 2 ∷ []) $ done !))))))))

    abbrev pub brought : Me S V → Fml
    brought u = fsep (fact ((l : FractionContent) × offered l × then l u)) (sat id u)

    pub brings : (n j : ℕ) (given_ : FractionContent) → ((l : FractionContent) → offered l → l ≡ given_) → ¬ (n ≡ j)
        → AllowsDeal holds Comes ours banked z.slots id me bd offered then
        → A.named n (fbor κ I) ∗ A.named j Bank ∗ A.lft κ q ∗ (⟦ holding given_ ⟧ ∗ ⟦ sat id me ⟧) ⊢ H.⇛ (⟦ fex (Me S V) brought ⟧ ∗ A.lft κ q)
    brings n j l₀ one ne law = let Q : Pr = ⟦ fex (Me S V) brought ⟧ in
        opened_with q n j Bank (⟦ holding l₀ ⟧ ∗ ⟦ sat id me ⟧) Q ne (λ s so. let Z : Pr = ex 𝓤 (NextTo Q Bank s) in
        qed 𝓛 ((‵ (homed s.homes) ⊛ ‵ (roster cv.code γ 0 s.views)) ∷ ‵ Bank ∷ ‵ (holding l₀) ∷ ‵ (half id me.0) ∷ ‵ (out me.1) ∷ []) ∵ move ! (1 ∷ []) $
        fpick ! (λ b. fsplit3 ! $ fpick ! (λ mine. drop ! $
        move ! (2 ∷ []) $ split ! $ move ! (2 ∷ 5 ∷ []) $
        -- [the bank's view; the seat's; the homes; the roster; the contents; what comes; what is carried]
        use2 𝓛 (given (¬ (id ≡ bd)) (‵ (half bd b) ⊛ ‵ (half id me.0))) (apart 𝓛 cv γ bd id b me.0) $ learn ! (λ two. split ! $ move ! (3 ∷ 0 ∷ []) $
        use2 𝓛 (given (get_elem? s.views bd ≡ maybe.some b) (‵ (roster cv.code γ 0 s.views) ⊛ ‵ (half bd b)))
        (stands 𝓛 cv γ s.views 0 bd bd b three_quarters (omega arith)) $ learn ! (λ there. split ! $ move ! (0 ∷ 2 ∷ []) $
        use2 𝓛 (given (get_elem? s.views id ≡ maybe.some me.0) (raw (all 𝓤 (Moved 𝓛 cv γ 0 s.views id id))))
        (moves 𝓛 cv γ s.views 0 id id me.0 (omega arith)) $ learn ! (λ at.
        let r = law s b so.0 so.2 at there mine two in let u : V = r.view in let b' : V = r.bank in let l : FractionContent = r.content in
        let a : Act S = r.act in
        let vs : List V = set s.views id u in let t : State S V = dealt s id me.1 u bd b' a in let me' : Me S V = (u, carried_after me.1 a) in
        use1 𝓛 (raw (Moved 𝓛 cv γ 0 s.views id id u)) (all_e 𝓤 (Moved 𝓛 cv γ 0 s.views id id) u) $
        settle 𝓛 Z (‵ (roster cv.code γ 0 vs) ⊛ ‵ (half id u)) $ split ! $ move ! (0 ∷ 2 ∷ []) $
        use2 𝓛 (given (get_elem? vs bd ≡ maybe.some b) (raw (all 𝓤 (Moved 𝓛 cv γ 0 vs bd bd))))
        (moves 𝓛 cv γ vs 0 bd bd b (omega arith)) $ learn ! (λ at'.
        use1 𝓛 (raw (Moved 𝓛 cv γ 0 vs bd bd b')) (all_e 𝓤 (Moved 𝓛 cv γ 0 vs bd bd) b') $
        settle 𝓛 Z (‵ (roster cv.code γ 0 t.views) ⊛ ‵ (half bd b')) $ split ! $ move ! (3 ∷ 6 ∷ []) $
        -- [the homes; what is carried; the roster; the bank's view; the seat's; the contents; what comes]
        use2 𝓛 (given (length t.homes ≡ z.slots) (‵ (homed t.homes) ⊛ ‵ (out me'.1))) (acts s.homes me.1 a so.2 r.valid) $ learn ! (λ long. split ! $
        move ! (5 ∷ 6 ∷ []) $
        use2 𝓛 (‵ (holdings (banked b'))) (comes (banked b) l₀ (banked b')
        (subst (λ (x : FractionContent). Comes (banked b) x (banked b')) (one l r.offered) r.goes)) $
        -- [the contents; the homes; what is carried; the roster; the bank's view; the seat's]
        suffices ! _ (upd_i 𝓤 Z) $ show ! (NextTo Q Bank s) t $ check ! (refl, r.holds, long) $ move ! (1 ∷ 3 ∷ []) $ join ! $ frame ! $
        move ! (2 ∷ 0 ∷ []) $ fjoin ! $ nothing ! $ fpack ! (ours b') (λ _. ftrue) r.ours $
        move ! (0 ∷ 1 ∷ []) $ fjoin ! $ fpack ! V (kept cv.code z bd ours banked) b' $ frame ! $
        show ! (λ (x : Me S V). ⟦ brought x ⟧) me' $
        nothing ! $ fpack ! ((x : FractionContent) × offered x × then x me') (λ _. ftrue) (l, r.offered, r.then) $ move ! (0 ∷ 2 ∷ 1 ∷ []) $ done !))))))))

  module _ (bd : ℕ) (ours : V → Type 0) (banked : V → List FractionContent) where
    pub makes : (v : V) → ours v × (banked v ≡ []) → ⟦ C ⟧ ∗ ⟦ view_of γ bd (cv.code v) three_quarters ⟧ ⊢ H.⇛ ⟦ bank_owns R cv.code holds ours banked z bd ⟧
    unfolding Rattle.atomic_table.specs.Seated.seal
    makes v empty = let P : Fml = fbor κ I in let B : Fml = vault cv.code z bd ours banked in
        qed 𝓛 (‵ C ∷ ‵ (half bd v) ∷ []) ∵ updating ! $ fsplit ! $ drop ! $
        use1 𝓛 (some (λ (n : ℕ). ‵ (fnamed n P))) (𝓛.invs.inv_named P) $ pick ! (λ n. move ! (1 ∷ []) $ nothing ! $
        rewrite ! 0 (λ (ls : List FractionContent). ‵ (holdings ls)) (sym empty.1) refl $ move ! (1 ∷ 0 ∷ []) $ fjoin ! $
        nothing ! $ fpack ! (ours v) (λ _. ftrue) empty.0 $ move ! (0 ∷ 1 ∷ []) $ fjoin ! $ fpack ! V (kept cv.code z bd ours banked) v $
        use1 𝓛 (later (some (λ (j : ℕ). given (n + 1 ≤ j) (‵ (fnamed j B))))) (types.Owned.named_past 𝓛 (n + 1) B) $ await ! tt $ pick ! (λ j. learn ! (λ far.
        nothing ! $ fpack ! (¬ (n ≡ j)) (λ _. ftrue) (λ e. omega arith) $ move ! (0 ∷ 2 ∷ 1 ∷ []) $ fjoin3 ! $
        fpack ! ((Ptr × Ptr) × (ℕ × ℕ)) (numbered R cv.code holds ours banked z bd) ((w, p), (n, j)) $ now ! $ done !)))

module _ {M : Type 1} {𝓤 : Ura M} (𝓛 : Logic 𝓤) (R : RattleType) {V : Type 0} (cv : Coded V) (holds : State R.Denot V → Type 0)
    (ours : V → Type 0) (banked : V → List FractionContent) (z : TableId) (bd : ℕ) where
  pub bank_twice : let P = sem 𝓛 (bank_owns R cv.code holds ours banked z bd) in ent 𝓤 P (sep 𝓤 P P)
  unfolding Rattle.atomic_table.specs.Seated.seal
  bank_twice = let N : (Ptr × Ptr) × (ℕ × ℕ) → Fml = numbered R cv.code holds ours banked z bd in
      qed 𝓛 (‵ (fex ((Ptr × Ptr) × (ℕ × ℕ)) N) ∷ []) ∵ fpick ! (λ x. let T : Fml = fbor (age z) (inner R cv.code holds x.0.0 x.0.1 z) in
      let B : Fml = vault cv.code z bd ours banked in
      fsplit3 ! $ fpick ! (λ ne. drop ! $ use1 𝓛 (‵ (fnamed x.1.0 T) ⊛ ‵ (fnamed x.1.0 T)) (𝓛.invs.named_dup x.1.0 T) $ split ! $ move ! (2 ∷ []) $
      use1 𝓛 (‵ (fnamed x.1.1 B) ⊛ ‵ (fnamed x.1.1 B)) (𝓛.invs.named_dup x.1.1 B) $ split ! $
      nothing ! $ fpack ! (¬ (x.1.0 ≡ x.1.1)) (λ _. ftrue) ne $ move ! (0 ∷ 3 ∷ 1 ∷ []) $ fjoin3 ! $ fpack ! ((Ptr × Ptr) × (ℕ × ℕ)) N x $
      nothing ! $ fpack ! (¬ (x.1.0 ≡ x.1.1)) (λ _. ftrue) ne $ move ! (0 ∷ 3 ∷ 2 ∷ []) $ fjoin3 ! $ fpack ! ((Ptr × Ptr) × (ℕ × ℕ)) N x $
      move ! (1 ∷ 0 ∷ []) $ done !))

module _ (W X Y Z : RattleType) (g : rule.Ghosts Y.Denot ValueFraction W.Denot X.Denot) (gB : treasury.Ghosts Z.Denot W.Denot) where
  abbrev pub BankData : RattleType
  BankData = Struct (shape (bank.the_type W X Y Z g gB))

  pub bank_made : {M : Type 1} {𝓤 : Ura M} (𝓛 : Logic 𝓤) → ent 𝓤 (base.Logic.emp 𝓤) (sem 𝓛 (BankData.own_val (tt, tt) (token_val ∷ [])))
  bank_made 𝓛 = makes_shadow 𝓛 (BankData.own_val (tt, tt) (token_val ∷ [])) (λ vss. (tt, ((λ uss. (tt, tt)), tt))) (
    (mir.Val.vstruct mir.Val.vnil ∷ [], tt),
    (refl, ((tt, (refl, tt)), tt)),
  )
