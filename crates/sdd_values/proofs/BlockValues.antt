-- The values of a block in a row: one is taken out of it and put back, all are laid out, and all come out. Assumes `Logic`.
use Rattle.std.proofs.Common.{◌≡◌, ℕ, zero, suc, ◌+◌, ◌*◌, ◌^◌, ◌<◌, List, [], ◌∷◌, length, map, sym, refl, subst, arith}
use Rattle.std.specs.Prelude.{Option, None, Some, All, replicate, slice_index_or, slice_set}
use lib.ListN.{length-replicate}
use seplogic.Ra.Ura.{Ura}
use base.Fraction.{full_share}
use base.Logic.{SProp, ent, sep, id⊢}
use base.Fml.{Lft, Fml, ftrue, fsep, fdead, flft, fshr_bor}
use types.Logic.{Logic, sem}
use types.SemTy.{cells}
use types.Kit.{‵, ◌⊛◌, later, ◌$◌, ◌∵◌, !, qed, by, move, keep, drop, use1, use2, split, fsplit, fjoin, fpick, fpack, frame, rewrite, updating, await, now, done}
use contract.BorrowLft.{meet_⊑_left}
use denote.RattleType.{RattleType}
use denote.Memory.{mem}
use denote.Index.{place, place_is}
use denote.RawPtr.{Ptr, block_ptr, lies_at}
use denote.Sharing.{ShrLaws}
use denote.Struct.Lending.{lent_at}
use denote.Moves.{moves_from}
use denote.Steps.{nothing}
use Rattle.core.proofs.slice.Lists.{any-default}
use Rattle.atomic_table.specs.Seated.{fact}
use Rattle.sdd_values.specs.Block.{AreUnlent, IsFreeFor, spot, held_shares, spot_shares, spots, spots_shares}
use Rattle.sdd_values.proofs.Lifetimes.{to_plain, from_plain, settles_spot}

pub home_new : (k : ℕ) → AreUnlent (replicate k None)
home_new zero = tt
home_new (suc k) = home_new k

-- what holds of each value's fractions holds of each row of them
pub of_rows : (P : List (Option ℕ) → Type 0) (ss : List (List (Option ℕ))) → ((i : ℕ) → P (slice_index_or ss i [])) → All P ss
of_rows P ss all k d near = subst P (any-default ss k [] d near) (all k)

module _ {M : Type 1} {𝓤 : Ura M} (𝓛 : Logic 𝓤) (R : RattleType) (b : ℕ) where
  open 𝓛 use {H}

  abbrev Pr : Type 2
  Pr = SProp 𝓤

  abbrev ⟦◌⟧ : Fml → Pr
  ⟦ P ⟧ = sem 𝓛 P

  abbrev ◌⊢◌ : Pr → Pr → Type 1
  P ⊢ Q = ent 𝓤 P Q

  abbrev ◌∗◌ : Pr → Pr → Pr
  P ∗ Q = sep 𝓤 P Q

  infix 26 ◌⊢◌
  infixr 35 ◌∗◌
  abbrev Fractions : Type 0
  Fractions = List (Option ℕ)

  abbrev X : Type 0
  X = R.Denot

  abbrev size : ℕ
  size = (mem R).size

  abbrev one_at : ℕ → X → Fractions → Fml
  one_at o x s = spot R (block_ptr b o) x s

  abbrev all_at : ℕ → List X → List Fractions → Fml
  all_at o xs ss = spots R b o xs ss

  -- ---- one of them
  -- the row without its i-th
  abbrev pub besides : ℕ → List X → List Fractions → ℕ → Fml
  besides o [] ss i = ftrue
  besides o (x ∷ xs) [] i = ftrue
  besides o (x ∷ xs) (s ∷ ss) zero = all_at (o + size) xs ss
  besides o (x ∷ xs) (s ∷ ss) (suc i) = fsep (one_at o x s) (besides (o + size) xs ss i)

  takes : (o : ℕ) (xs : List X) (ss : List Fractions) (i : ℕ) (d : X) → i < length xs → i < length ss
      → ⟦ all_at o xs ss ⟧ ⊢ ⟦ one_at (place size o i) (slice_index_or xs i d) (slice_index_or ss i []) ⟧ ∗ ⟦ besides o xs ss i ⟧
  takes o [] ss i d l m = absurd (omega arith)
  takes o (x ∷ xs) [] i d l m = absurd (omega arith)
  takes o (x ∷ xs) (s ∷ ss) zero d l m = id⊢ 𝓤 _
  takes o (x ∷ xs) (s ∷ ss) (suc i) d l m = let x' : X = slice_index_or xs i d in let s' : Fractions = slice_index_or ss i [] in
      qed 𝓛 (‵ (one_at o x s) ∷ ‵ (all_at (o + size) xs ss) ∷ []) ∵ move ! (1 ∷ []) $
      use1 𝓛 (‵ (one_at (place size (o + size) i) x' s') ⊛ ‵ (besides (o + size) xs ss i)) (takes (o + size) xs ss i d (omega arith) (omega arith)) $
      split ! $ frame ! $
      move ! (1 ∷ 0 ∷ []) $ fjoin ! $ done !

  puts : (o : ℕ) (xs : List X) (ss : List Fractions) (i : ℕ) (y : X) (t : Fractions) → i < length xs → i < length ss
      → ⟦ one_at (place size o i) y t ⟧ ∗ ⟦ besides o xs ss i ⟧ ⊢ ⟦ all_at o (slice_set xs i y) (slice_set ss i t) ⟧
  puts o [] ss i y t l m = absurd (omega arith)
  puts o (x ∷ xs) [] i y t l m = absurd (omega arith)
  puts o (x ∷ xs) (s ∷ ss) zero y t l m = id⊢ 𝓤 _
  puts o (x ∷ xs) (s ∷ ss) (suc i) y t l m = qed 𝓛 (‵ (one_at (place size (o + size) i) y t) ∷ ‵ (besides o (x ∷ xs) (s ∷ ss)
      (suc i)) ∷ []) ∵ move ! (1 ∷ []) $ fsplit ! $ move ! (2 ∷ 1 ∷ []) $
      use2 𝓛 (‵ (all_at (o + size) (slice_set xs i y) (slice_set ss i t))) (puts (o + size) xs ss i y t (omega arith) (omega arith)) $ move ! (1 ∷ 0 ∷ []) $
      fjoin ! $ done !

  pub spot_out : (o : ℕ) (xs : List X) (ss : List Fractions) (i : ℕ) (d : X) → i < length xs → i < length ss
      → ⟦ all_at o xs ss ⟧ ⊢ ⟦ one_at (i * size + o) (slice_index_or xs i d) (slice_index_or ss i []) ⟧ ∗ ⟦ besides o xs ss i ⟧
  spot_out o xs ss i d l m = let x : X = slice_index_or xs i d in let s : Fractions = slice_index_or ss i [] in qed 𝓛 (‵ (all_at o xs ss) ∷ []) ∵
      use1 𝓛 (‵ (one_at (place size o i) x s) ⊛ ‵ (besides o xs ss i)) (takes o xs ss i d l m) $ split ! $
      rewrite ! 0 (λ (k : ℕ). ‵ (one_at k x s)) (place_is size o i) refl $ done !

  pub spot_in : (o : ℕ) (xs : List X) (ss : List Fractions) (i : ℕ) (y : X) (t : Fractions) → i < length xs → i < length ss
      → ⟦ one_at (i * size + o) y t ⟧ ∗ ⟦ besides o xs ss i ⟧ ⊢ ⟦ all_at o (slice_set xs i y) (slice_set ss i t) ⟧
  spot_in o xs ss i y t l m = qed 𝓛 (‵ (one_at (i * size + o) y t) ∷ ‵ (besides o xs ss i) ∷ []) ∵
      rewrite ! 0 (λ (k : ℕ). ‵ (one_at k y t)) (sym (place_is size o i)) refl $ by ! (puts o xs ss i y t l m)

  -- ---- all of them
  pub lays_out : (k o : ℕ) (xs : List X) → k < 2 ^ 63 → ⟦ cells (mem R) xs b o ⟧ ⊢ ⟦ all_at o xs (replicate (length xs) (replicate k None)) ⟧
  lays_out k o [] small = id⊢ 𝓤 _
  lays_out k o (x ∷ xs) small = let s : Fractions = replicate k None in let long : length s ≡ k = length-replicate k None in
      qed 𝓛 (‵ (lies_at R full_share (block_ptr b o) x) ∷ ‵ (cells (mem R) xs b (o + size)) ∷ []) ∵ nothing ! $
      fpack ! (length s < 2 ^ 63) (λ _. ftrue) (omega (arith, long)) $ move ! (1 ∷ 0 ∷ []) $
      use2 𝓛 (‵ (one_at o x s)) (from_plain 𝓛 R (block_ptr b o) x s (home_new k)) $ move ! (1 ∷ []) $
      use1 𝓛 (‵ (all_at (o + size) xs (replicate (length xs) s))) (lays_out k (o + size) xs small) $ move ! (1 ∷ 0 ∷ []) $ fjoin ! $ done !

  pub comes_out : (o : ℕ) (xs : List X) (ss : List Fractions) → length ss ≡ length xs → All AreUnlent ss → ⟦ all_at o xs ss ⟧ ⊢ H.⇛ ⟦ cells (mem R) xs b o ⟧
  comes_out o [] ss long home = qed 𝓛 (‵ ftrue ∷ []) ∵ updating ! $ now ! $ done !
  comes_out o (x ∷ xs) [] long home = absurd (omega arith)
  comes_out o (x ∷ xs) (s ∷ ss) long home = qed 𝓛 (‵ (all_at o (x ∷ xs) (s ∷ ss)) ∷ []) ∵ updating ! $ fsplit ! $
      use1 𝓛 (later (‵ (lies_at R full_share (block_ptr b o) x) ⊛ ‵ (fact (length s < 2 ^ 63))))
      (to_plain 𝓛 R (block_ptr b o) x s (home 0 [] (omega arith))) $ await ! tt $ split ! $ move ! (2 ∷ []) $
      use1 𝓛 (later (‵ (cells (mem R) xs b (o + size)))) (comes_out (o + size) xs ss (omega arith) (λ k d near. home (suc k) d (omega arith))) $ await ! tt $
      move ! (1 ∷ 0 ∷ []) $ fjoin ! $ now ! $ keep ! (0 ∷ []) $ done !

  pub settles_all : (t r o : ℕ) (xs : List X) (ss : List Fractions) → All (λ s. IsFreeFor t (slice_index_or s r None)) ss
      → ⟦ all_at o xs ss ⟧ ∗ ⟦ fdead (t ∷ []) ⟧ ⊢ H.⇛ ⟦ all_at o xs (map (λ s. slice_set s r None) ss) ⟧
  settles_all t r o [] ss free = qed 𝓛 (‵ ftrue ∷ ‵ (fdead (t ∷ [])) ∷ []) ∵ updating ! $ now ! $ keep ! (0 ∷ []) $ done !
  settles_all t r o (x ∷ xs) [] free = qed 𝓛 (‵ ftrue ∷ ‵ (fdead (t ∷ [])) ∷ []) ∵ updating ! $ now ! $ keep ! (0 ∷ []) $ done !
  settles_all t r o (x ∷ xs) (s ∷ ss) free = qed 𝓛 (‵ (all_at o (x ∷ xs) (s ∷ ss)) ∷ ‵ (fdead (t ∷ [])) ∷ []) ∵ updating ! $ fsplit ! $ move ! (2 ∷ []) $
      use1 𝓛 (‵ (fdead (t ∷ [])) ⊛ ‵ (fdead (t ∷ []))) (𝓛.lfts.dead_dup (t ∷ [])) $ split ! $ move ! (2 ∷ 0 ∷ []) $
      use2 𝓛 (later (‵ (one_at o x (slice_set s r None)))) (settles_spot 𝓛 R (block_ptr b o) x t r s (free 0 [] (omega arith))) $ await ! tt $
      move ! (2 ∷ 1 ∷ []) $
      use2 𝓛 (later (‵ (all_at (o + size) xs (map (λ s. slice_set s r None) ss)))) (settles_all t r (o + size) xs ss
      (λ k d near. free (suc k) d (omega arith))) $ await ! tt $
      move ! (1 ∷ 0 ∷ []) $ fjoin ! $ now ! $ done !

  -- ---- behind a `&`
  module _ (laws : (p : Ptr) (x : X) → ShrLaws (lent_at R p x)) (κ : Lft) where
    shows_held : (p : Ptr) (x : X) (h : Option ℕ) → ⟦ held_shares R p x h κ ⟧ ⊢ ⟦ lent_at R p x κ ⟧
    shows_held p x None = id⊢ 𝓤 _
    shows_held p x (Some a) = qed 𝓛 (‵ (lent_at R p x (a ∷ [])) ∷ ‵ (fshr_bor κ (λ q. flft (a ∷ []) q)) ∷ []) ∵ move ! (1 ∷ 0 ∷ []) $
        by ! (moves_from 𝓛 (lent_at R p x) (laws p x) κ (a ∷ []) (a ∷ []) (meet_⊑_left (a ∷ []) κ))

    shows_place : (o : ℕ) (xs : List X) (ss : List Fractions) (i : ℕ) (d : X) → i < length xs → i < length ss
        → ⟦ spots_shares R b o xs ss κ ⟧ ⊢ ⟦ lent_at R (block_ptr b (place size o i)) (slice_index_or xs i d) κ ⟧
    shows_place o [] ss i d l m = absurd (omega arith)
    shows_place o (x ∷ xs) [] i d l m = absurd (omega arith)
    shows_place o (x ∷ xs) (s ∷ ss) zero d l m = qed 𝓛 (‵ (spot_shares R (block_ptr b o) x κ) ∷ ‵ (spots_shares R b (o + size) xs ss κ) ∷ []) ∵ move ! (1 ∷
        []) $ drop ! $
        fpick ! (λ h. by ! (shows_held (block_ptr b o) x h))
    shows_place o (x ∷ xs) (s ∷ ss) (suc i) d l m = qed 𝓛 (‵ (spot_shares R (block_ptr b o) x κ) ∷ ‵ (spots_shares R b (o + size) xs ss κ) ∷ []) ∵ drop ! $
        by ! (shows_place (o + size) xs ss i d (omega arith) (omega arith))

    pub shows_at : (o : ℕ) (xs : List X) (ss : List Fractions) (i : ℕ) (d : X) → i < length xs → i < length ss
        → ⟦ spots_shares R b o xs ss κ ⟧ ⊢ ⟦ lent_at R (block_ptr b (i * size + o)) (slice_index_or xs i d) κ ⟧
    shows_at o xs ss i d l m = let x : X = slice_index_or xs i d in qed 𝓛 (‵ (spots_shares R b o xs ss κ) ∷ []) ∵
        use1 𝓛 (‵ (lent_at R (block_ptr b (place size o i)) x κ)) (shows_place o xs ss i d l m) $
        rewrite ! 0 (λ (k : ℕ). ‵ (lent_at R (block_ptr b k) x κ)) (place_is size o i) refl $ done !
