-- A `&` to a nullable has what a `&` to the value has, and nobody owns one. Assumes `Logic`.
use mathlib.Core.List.{[], ◌∷◌}
use Rattle.std.specs.Prelude.{Option, None, Some}
use base.Fraction.{full_share}
use base.Logic.{sep, wand, never_e}
use base.Fml.{fbor}
use types.Logic.{sem, lfts}
use types.Kit.{‵, raw, ◌⊛◌, later, ◌$◌, !, qed, keep, move, use1, use2, split, fsplit, fpick, await, updating, now, done}
use denote.RattleType.{RattleType}
use denote.Memory.{part_at, part_of}
use denote.RawPtr.{Ptr, block_ptr, block_of, count_of}
use denote.Param.Laws.{Laws}
use denote.Sharing.{ShrLaws}
use denote.SharingLaws.{nothing_shr_laws}
use Rattle.sdd_values.specs.Nullable.{nullable_shares}
use Rattle.sdd_values.specs.contracts.nullable.Nullable as C
use Rattle.sdd_values.proofs.nullable.Nullable.TheLaw.Statement.{statement}

nullable_laws : (T : RattleType) (L : Laws T) (shown : Option T.Denot) (p : Ptr) → ShrLaws (nullable_shares T shown p)
nullable_laws T L None p = nothing_shr_laws
nullable_laws T L (Some x) p = L.shr_laws x (block_of p) (count_of p)

pub shares : (T : RattleType) (L : Laws T) → statement T L
unfolding part_of
shares T L = record {
  shr_laws = λ d b o. nullable_laws T L d (block_ptr b o);
  shares = λ M 𝓤 𝓛 d κ ts b o inc sp.
      let P = part_at (C.the_written T) full_share d b o in
      let Q = nullable_shares T d (block_ptr b o) κ in
      qed 𝓛 (‵ (fbor κ P) ∷ raw (lfts 𝓛 ts) ∷ []) {P = 𝓛.H.⇛ (sep 𝓤 (sem 𝓛 Q) (lfts 𝓛 ts))} (
      updating ! $ use2 𝓛 (later (‵ P ⊛ raw (wand 𝓤 (sem 𝓛 P) (𝓛.H.⇛ (sep 𝓤 (𝓛.A.bor κ P) (lfts 𝓛 ts)))))) (𝓛.more.bor_acc_by κ ts P sp) $
      await ! tt $ split ! $
      fpick ! (λ vs. fsplit ! $ move ! (1 ∷ []) $
      use1 𝓛 (‵ Q ⊛ raw (lfts 𝓛 ts)) (never_e 𝓤 _) $ split ! $ keep ! (0 ∷ 1 ∷ []) $ now ! $ done !));
}
