-- All that a seat carries is opened at once, and closed with other contents. Assumes `Logic`.
use Rattle.std.proofs.Common.{◌≡◌, sym, ◌∙◌, ℕ, zero, suc, ◌+◌, ◌*◌, ◌<◌, List, [], ◌∷◌, length, set, refl, ap, subst, arith}
use seplogic.Ra.Ura.{Ura}
use base.Share
use base.Logic.{SProp, ent, sep, wand, all, all_e, apply∗}
use base.Fraction.{full_share}
use mir.Val.{Val}
use types.SemTy.{Body}
use base.Fml.{Lft, Share, Fml, ftrue, flft, fobor, fobs, fauth}
use types.Logic.{Logic, sem}
use types.Kit.{‵, raw, ◌⊛◌, later, ◌$◌, ◌∵◌, !, qed, by, move, drop, use1, use2, use3, split, split3, join, fsplit, fsplit3, fjoin, fjoin3, updating, await, now, done, frame, each, assume, fpick, fpack}
use denote.RattleType.{RattleType}
use denote.RawPtr.{Ptr, block_of, count_of}
use denote.Memory.{mem, cell_at}
use denote.Steps.{opens, closes, nothing}
use Rattle.sdd_shared_values.proofs.Fields.{Peg}
use Rattle.atomic_table.specs.Seated.{carried}
use mathlib.Core.Option.{some}
use lib.ListN.{get_elem?}
use Rattle.sdd_shared_values.specs.ValueFractions.{FractionContent, holding, holdings, settled, AllFreeFor}
use Rattle.sdd_shared_values.specs.CarriedFractions.{OnlyLends}
use Rattle.sdd_shared_values.proofs.ReadFractions.{lent_to, keeps_settled, keeps_all_to}
use Rattle.sdd_shared_values.specs.CarriedFractions.{contents, with_contents, relotted}
use Rattle.sdd_shared_values.specs.contracts.value_fraction.ValueFraction as fraction
use Rattle.sdd_shared_values.specs.declared.value_fraction.ValueFraction.{ValueFraction}

module _ {M : Type 1} {𝓤 : Ura M} (𝓛 : Logic 𝓤) where
  open 𝓛 use {H, A}

  abbrev Pr : Type 2
  Pr = SProp 𝓤

  abbrev ⟦◌⟧ : Fml → Pr
  ⟦ P ⟧ = sem 𝓛 P

  abbrev ◌⊢◌ : Pr → Pr → Type 1
  P ⊢ Q = ent 𝓤 P Q

  abbrev ◌∗◌ : Pr → Pr → Pr
  P ∗ Q = sep 𝓤 P Q

  abbrev ◌-∗◌ : Pr → Pr → Pr
  P -∗ Q = wand 𝓤 P Q

  infix 26 ◌⊢◌
  infixr 35 ◌∗◌
  infixr 30 ◌-∗◌
  abbrev Sr : RattleType
  Sr = fraction.the_row

  module _ (α : Lft) (p : Ptr) (δ : ℕ → ℕ) (n : ℕ) where
    abbrev out : List (ℕ × ValueFraction) → Fml
    out xs = carried α Sr p δ n xs

    beside : (l l' : FractionContent) (ls ls' : List FractionContent) (K Q : Pr) → (⟦ holdings (l ∷ ls) ⟧ ∗ K ⊢ H.⇛ (⟦ holdings (l' ∷ ls') ⟧ ∗ Q))
        → ⟦ holdings ls ⟧ ∗ (⟦ holding l ⟧ ∗ K) ⊢ H.⇛ (⟦ holdings ls' ⟧ ∗ (⟦ holding l' ⟧ ∗ Q))
    beside l l' ls ls' K Q k = qed 𝓛 (‵ (holdings ls) ∷ ‵ (holding l) ∷ raw K ∷ []) ∵ updating ! $ move ! (1 ∷ 0 ∷ []) $ fjoin ! $
        use2 𝓛 (later (‵ (holdings (l' ∷ ls')) ⊛ raw Q)) k $ await ! tt $ split ! $ fsplit ! $ now ! $ move ! (1 ∷ 0 ∷ 2 ∷ []) $ done !

    pub with_all : (xs : List (ℕ × ValueFraction)) (ls : List FractionContent) (q : Share) (K Q : Pr) → length ls ≡ length xs
        → (⟦ holdings (contents xs) ⟧ ∗ K ⊢ H.⇛ (⟦ holdings ls ⟧ ∗ Q)) → ⟦ out xs ⟧ ∗ (A.lft α q ∗ K) ⊢ H.⇛ (⟦ out (with_contents xs ls) ⟧ ∗ (A.lft α q ∗ Q))
    with_all [] [] q K Q e k = qed 𝓛 (‵ ftrue ∷ ‵ (flft α q) ∷ raw K ∷ []) ∵ updating ! $ move ! (0 ∷ 2 ∷ []) $ use2 𝓛 (later (‵ ftrue ⊛ raw Q)) k $
        await ! tt $ split ! $ now ! $ move ! (0 ∷ 2 ∷ 1 ∷ []) $ done !
    with_all [] (l ∷ ls) q K Q e k = absurd (omega arith)
    with_all (x ∷ xs) [] q K Q e k = absurd (omega arith)
    with_all (x ∷ xs) (l ∷ ls) q K Q e k = let s : ValueFraction = x.1 in let h : FractionContent = s.content in let b : ℕ = block_of p in
        let o : ℕ = x.0 * (mem Sr).size + count_of p in let q₁ : Share = Share.left q in let q₂ : Share = Share.right q in
        qed 𝓛 (‵ (out (x ∷ xs)) ∷ ‵ (flft α q) ∷ raw K ∷ []) ∵ updating ! $ fsplit3 ! $ move ! (1 ∷ []) $ fsplit ! $ move ! (4 ∷ []) $
        use1 𝓛 (‵ (flft α q₁) ⊛ ‵ (flft α q₂)) (𝓛.lfts.lft_split α q) $ split ! $ move ! (2 ∷ 3 ∷ 0 ∷ []) $
        opens ! tt Sr b o (λ vs. move ! (1 ∷ []) $ fsplit ! $ move ! (1 ∷ 9 ∷ []) $ join ! $ move ! (8 ∷ 6 ∷ 0 ∷ []) $
        use3 𝓛 (later (‵ (out (with_contents xs ls)) ⊛ ‵ (flft α q₂) ⊛ (‵ (holding l) ⊛ raw Q))) (with_all xs ls q₂ (⟦ holding h ⟧ ∗ K) (⟦ holding l ⟧ ∗ Q)
        (omega arith) (beside h l (contents xs) ls K Q k)) $ await ! tt $ split3 ! $
        move ! (2 ∷ []) $ split ! $ move ! (4 ∷ 0 ∷ []) $ fjoin ! $ move ! (4 ∷ 0 ∷ 5 ∷ 6 ∷ 7 ∷ []) $ closes ! tt Sr (relotted s l) vs b o $ fjoin ! $
        move ! (1 ∷ 4 ∷ []) $ use2 𝓛 (‵ (flft α q)) (𝓛.lfts.lft_join α q) $ move ! (4 ∷ 1 ∷ 3 ∷ []) $ fjoin3 ! $ now ! $ move ! (0 ∷ 1 ∷ 2 ∷ []) $ done !)

    abbrev pub Long : List (ℕ × ValueFraction) → Type 0
    Long xs = (ls : List FractionContent) × (length ls ≡ length xs)

    abbrev pub Shuts : (xs : List (ℕ × ValueFraction)) → Share → Long xs → Pr
    Shuts xs q l = ⟦ holdings l.0 ⟧ -∗ H.⇛ (⟦ out (with_contents xs l.0) ⟧ ∗ A.lft α q)

    shut_on : (x : ℕ × ValueFraction) (xs : List (ℕ × ValueFraction)) (q : Share) (vs : List Val) (ls : List FractionContent) → length ls ≡ suc (length xs)
        → x.0 < n
        → let s = x.1 in let b = block_of p in let o = x.0 * (mem Sr).size + count_of p in
        ⟦ holdings ls ⟧ ∗ (all 𝓤 (Shuts xs (Share.right q)) ∗ (⟦ Peg.own_val (tt, tt) vs ⟧ ∗ (⟦ cell_at full_share Sr.mir vs b o ⟧ ∗ (A.obor α (Share.left q)
        (Body (mem Sr) b o (δ x.0)) ∗ (A.obs (δ x.0) (Sr.coded.code s) ∗ A.auth (δ x.0) (Sr.coded.code s))))))
        ⊢ H.⇛ (⟦ out (with_contents (x ∷ xs) ls) ⟧ ∗ A.lft α q)
    shut_on x xs q vs [] e near = absurd (omega arith)
    shut_on x xs q vs (l ∷ ls) e near = let s : ValueFraction = x.1 in let b : ℕ = block_of p in let o : ℕ = x.0 * (mem Sr).size + count_of p in
        let q₂ : Share = Share.right q in
        qed 𝓛 (‵ (holdings (l ∷ ls)) ∷ raw (all 𝓤 (Shuts xs q₂)) ∷ ‵ (Peg.own_val (tt, tt) vs) ∷ ‵ (cell_at full_share Sr.mir vs b o) ∷ ‵ (fobor α
        (Share.left q)
        (Body (mem Sr) b o (δ x.0))) ∷ ‵ (fobs (δ x.0) (Sr.coded.code s)) ∷ ‵ (fauth (δ x.0) (Sr.coded.code s)) ∷ []) ∵ updating ! $ fsplit ! $
        move ! (2 ∷ []) $
        use1 𝓛 (raw (Shuts xs q₂ (ls, omega arith))) (all_e 𝓤 (Shuts xs q₂) (ls, omega arith)) $ move ! (2 ∷ 0 ∷ []) $
        use2 𝓛 (later (‵ (out (with_contents xs ls)) ⊛ ‵ (flft α q₂))) (apply∗ 𝓤 ⟦ holdings ls ⟧ (H.⇛ (⟦ out
        (with_contents xs ls) ⟧ ∗ A.lft α q₂))) $ await ! tt $
        split ! $
        -- [what is carried; its token; the content; the field; the cell; the open borrow; the names]
        move ! (3 ∷ 2 ∷ []) $ fjoin ! $ move ! (3 ∷ 0 ∷ 4 ∷ 5 ∷ 6 ∷ []) $ closes ! tt Sr (relotted s l) vs b o $ fjoin ! $
        move ! (1 ∷ 3 ∷ []) $ use2 𝓛 (‵ (flft α q)) (𝓛.lfts.lft_join α q) $ nothing ! $ fpack ! (x.0 < n) (λ _. ftrue) near $ move ! (0 ∷ 2 ∷ 3 ∷ []) $
        fjoin3 ! $ now ! $ done !

    pub opens_all : (xs : List (ℕ × ValueFraction)) (q : Share) → ⟦ out xs ⟧ ∗ A.lft α q ⊢ H.⇛ (⟦ holdings (contents xs) ⟧ ∗ all 𝓤 (Shuts xs q))
    opens_all [] q = qed 𝓛 (‵ ftrue ∷ ‵ (flft α q) ∷ []) ∵ updating ! $ now ! $ frame ! $ each ! (Shuts [] q) (λ l. assume ! (‵ (holdings l.0)) $ updating ! $
        drop ! $ nothing ! $ now ! $ done !)
    opens_all (x ∷ xs) q = let s : ValueFraction = x.1 in let h : FractionContent = s.content in let b : ℕ = block_of p in
        let o : ℕ = x.0 * (mem Sr).size + count_of p in
        let q₁ : Share = Share.left q in let q₂ : Share = Share.right q in
        qed 𝓛 (‵ (out (x ∷ xs)) ∷ ‵ (flft α q) ∷ []) ∵ updating ! $ fsplit3 ! $ fpick ! (λ near. drop ! $ fsplit ! $ move ! (3 ∷ []) $
        use1 𝓛 (‵ (flft α q₁) ⊛ ‵ (flft α q₂)) (𝓛.lfts.lft_split α q) $ split ! $ move ! (2 ∷ 3 ∷ 0 ∷ []) $
        opens ! tt Sr b o (λ vs. move ! (1 ∷ []) $ fsplit ! $ move ! (7 ∷ 6 ∷ []) $
        use2 𝓛 (later (‵ (holdings (contents xs)) ⊛ raw (all 𝓤 (Shuts xs q₂)))) (opens_all xs q₂) $ await ! tt $ split ! $
        -- [the rest; the way back; the field; the content; the cell; the open borrow; the names]
        move ! (3 ∷ 0 ∷ []) $ fjoin ! $ now ! $ frame ! $
        each ! (Shuts (x ∷ xs) q) (λ l. assume ! (‵ (holdings l.0)) $ by ! (shut_on x xs q vs l.0 l.1 near))))

pub contents_long : (xs : List (ℕ × ValueFraction)) → length (contents xs) ≡ length xs
contents_long [] = refl
contents_long (x ∷ xs) = ap suc (contents_long xs)

pub contents_with : (xs : List (ℕ × ValueFraction)) (ls : List FractionContent) → length ls ≡ length xs → contents (with_contents xs ls) ≡ ls
contents_with [] [] e = refl
contents_with [] (l ∷ ls) e = absurd (omega arith)
contents_with (x ∷ xs) [] e = absurd (omega arith)
contents_with (x ∷ xs) (l ∷ ls) e = ap (λ (ms : List FractionContent). l ∷ ms) (contents_with xs ls (omega arith))

pub with_with : (xs : List (ℕ × ValueFraction)) (ls ms : List FractionContent) → length ls ≡ length xs → length ms ≡ length xs
    → with_contents (with_contents xs ls) ms ≡ with_contents xs ms
with_with [] ls ms e f = refl
with_with (x ∷ xs) [] ms e f = absurd (omega arith)
with_with (x ∷ xs) (l ∷ ls) [] e f = absurd (omega arith)
with_with (x ∷ xs) (l ∷ ls) (m ∷ ms) e f = ap (λ (ys : List (ℕ × ValueFraction)). (x.0, relotted x.1 m) ∷ ys) (with_with xs ls ms (omega arith) (omega arith))

pub same_length : (xs : List (ℕ × ValueFraction)) → length (settled (contents xs)) ≡ length xs
same_length [] = refl
same_length (x ∷ xs) = ap suc (same_length xs)

pub set_long : (xs : List (ℕ × ValueFraction)) (n : ℕ) (l : FractionContent) → length (set (contents xs) n l) ≡ length xs
set_long [] n l = refl
set_long (x ∷ xs) zero l = ap suc (contents_long xs)
set_long (x ∷ xs) (suc n) l = ap suc (set_long xs n l)

-- a loan to the section leaves the rest as it was
pub lent_on : (t : ℕ) (xs : List (ℕ × ValueFraction)) (n : ℕ) (h : FractionContent) → get_elem? (contents xs) n ≡ some h
    → OnlyLends t xs (with_contents xs (set (contents xs) n (lent_to t h)))
lent_on t xs n h at = let ls : List FractionContent = contents xs in let ms : List FractionContent = set ls n (lent_to t h) in
    let long = set_long xs n (lent_to t h) in
    let e = contents_with xs ms long in (
      ap (λ (l : List FractionContent). with_contents (with_contents xs ms) (settled l)) e ∙ ap (λ (l : List FractionContent). with_contents
          (with_contents xs ms) l)
          (keeps_settled ls n t h at) ∙ with_with xs ms (settled ls) long (same_length xs),
      λ ok. subst (λ (l : List FractionContent). AllFreeFor t l) (sym e) (keeps_all_to ls n t h ok),
    )
