-- What a `&` to a block has, and to what shows an end. Assumes `Logic`.
use Rattle.std.proofs.Common.{ℕ, ◌^◌, ◌<◌, ◌+◌, List, [], ◌∷◌, length}
use Rattle.std.specs.Prelude.{Option, None, Some}
use seplogic.Ra.Ura.{Ura}
use base.Fraction.{full_share}
use base.Logic.{sep, ent, wand, apply∗, snd∗}
use base.Before.{before}
use base.Fml.{Lft, Fml, ftrue, fsep, fex, fbor, flft, flent}
use types.Logic.{Logic, sem, lfts}
use types.Kit.{‵, raw, ◌⊛◌, later, ◌$◌, ◌∵◌, !, qed, move, drop, use1, use2, split, updating, await, now, done}
use denote.RattleType.{RattleType, RowLaws}
use denote.Memory.{mem}
use denote.RawPtr.{Ptr, block_ptr, lies_at}
use denote.Sharing.{ShrLaws, said, one}
use denote.SharingLaws.{nothing_shr_laws, one_shr_laws, beside_shr_laws, some_shr_laws, contraction}
use denote.Shares.{Shares}
use denote.Struct.Lending.{lent_at, lent_at_shr_laws, Lends, Lends-lies, Lends-nothing, Lends-both, Lends-first}
use denote.Model.Laws.{Lends-some}
use Rattle.atomic_table.specs.Seated.{fact}
use Rattle.sdd_witness.proofs.DuplicableShares.{kept_laws, Lends-kept}
use Rattle.sdd_rights.specs.Units.{tokens}
use Rattle.sdd_rights.proofs.Steps.{Lends-tokens}
use Rattle.sdd_values.specs.Block.{AreUnlent, shared, fractions_of, rest, held, spot, held_shares, spot_shares, spots, spots_shares}

-- ---- a value and its fractions
module _ (R : RattleType) (L : RowLaws R) where
  held_laws : (p : Ptr) (x : R.Denot) (h : Option ℕ) → ShrLaws (held_shares R p x h)
  held_laws p x None = lent_at_shr_laws R L p x
  held_laws p x (Some a) = let t : Lft → Fml = lent_at R p x in
      beside_shr_laws (said (t (a ∷ []))) (one (λ q. flft (a ∷ []) q))
      (kept_laws (t (a ∷ [])) (λ M 𝓤 𝓛. contraction 𝓛 t (lent_at_shr_laws R L p x) (a ∷ []))) (one_shr_laws (λ q. flft (a ∷ []) q))

  pub spots_laws : (b o : ℕ) (xs : List R.Denot) (ss : List (List (Option ℕ))) → ShrLaws (spots_shares R b o xs ss)
  spots_laws b o [] ss = nothing_shr_laws
  spots_laws b o (x ∷ xs) [] = nothing_shr_laws
  spots_laws b o (x ∷ xs) (s ∷ ss) = let p : Ptr = block_ptr b o in let n : ℕ = o + (mem R).size in
      beside_shr_laws (spot_shares R p x) (spots_shares R b n xs ss) (some_shr_laws (Option ℕ) (held_shares R p x) (held_laws p x)) (spots_laws b n xs ss)

module _ {M : Type 1} {𝓤 : Ura M} (𝓛 : Logic 𝓤) (R : RattleType) (L : RowLaws R) (l : Lft) (s : Shares 𝓛 R l) where
  Lends-held : (p : Ptr) (x : R.Denot) (fractions : List (Option ℕ)) (h : Option ℕ) → Lends 𝓛 (held R p x fractions h) (held_shares R p x h) l
  Lends-held p x fractions None = Lends-first 𝓛 (lies_at R full_share p x) (fact (AreUnlent fractions)) (lent_at R p x) l (Lends-lies 𝓛 R l p x (s x))
  Lends-held p x fractions (Some a) = let t : Lft → Fml = lent_at R p x in let lives : Lft → Fml = one (λ q. flft (a ∷ []) q) in
      Lends-both 𝓛 (shared R p x a) (fsep (tokens a (rest fractions)) (fractions_of a fractions)) (said (t (a ∷ []))) lives l
      (Lends-first 𝓛 (t (a ∷ [])) (flent (a ∷ []) (lies_at R full_share p x)) (said (t (a ∷ []))) l
      (Lends-kept 𝓛 (t (a ∷ [])) (contraction 𝓛 t (lent_at_shr_laws R L p x) (a ∷ [])) l))
      (Lends-first 𝓛 (tokens a (rest fractions)) (fractions_of a fractions) lives l (Lends-tokens 𝓛 a (rest fractions) l))

  Lends-spot : (p : Ptr) (x : R.Denot) (fractions : List (Option ℕ)) → Lends 𝓛 (spot R p x fractions) (spot_shares R p x) l
  Lends-spot p x fractions = Lends-first 𝓛 (fex (Option ℕ) (held R p x fractions)) (fact (length fractions < 2 ^ 63)) (spot_shares R p x) l
      (Lends-some 𝓛 (Option ℕ) (held R p x fractions) (held_shares R p x) l (Lends-held p x fractions))

  pub Lends-spots : (b o : ℕ) (xs : List R.Denot) (ss : List (List (Option ℕ))) → Lends 𝓛 (spots R b o xs ss) (spots_shares R b o xs ss) l
  Lends-spots b o [] ss = Lends-nothing 𝓛 ftrue l
  Lends-spots b o (x ∷ xs) [] = Lends-nothing 𝓛 ftrue l
  Lends-spots b o (x ∷ xs) (fractions ∷ ss) = let p : Ptr = block_ptr b o in let n : ℕ = o + (mem R).size in
      Lends-both 𝓛 (spot R p x fractions) (spots R b n xs ss) (spot_shares R p x) (spots_shares R b n xs ss) l (Lends-spot p x fractions)
      (Lends-spots b n xs ss)
