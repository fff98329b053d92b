-- A `&` to a block has a `&` to each value. Assumes `Logic`.
use mathlib.Core.List.{[], ◌++◌}
use base.Fml.{Lft, Fml, Incl-trans}
use contract.BorrowLft.{meet_⊑_left}
use denote.RattleType.{RattleType}
use denote.Sharing.{said}
use denote.SharingLaws.{said_shr_laws, beside_shr_laws}
use denote.RawPtr.{block_of, count_of}
use denote.Shares.{Shares-less}
use denote.Param.Laws.{Laws}
use denote.Param.Shared.{copy_shared}
use denote.Struct.Field.{RawPtr-field}
use denote.Struct.Laws.{RawPtr-copy}
use denote.Struct.Lending.{Lends-said, Lends-both, of_Lends}
use Rattle.atomic_table.specs.Seated.{fact}
use Rattle.sdd_values.specs.Block.{IsBlockAt, spots, spots_shares}
use Rattle.sdd_values.specs.contracts.block.Block as C
use Rattle.sdd_values.proofs.block.Block.TheLaw.Statement.{statement}
use Rattle.sdd_values.proofs.BlockShares.{spots_laws, Lends-spots}

pub shares : (T : RattleType) (L : Laws T) → statement T L
shares T L = of_Lends (C.struct T) (C.the_codes T.Denot T.coded) (C.the_heap T) (C.the_lent T)
    (λ d p. let fits : Fml = fact (IsBlockAt T d.ptr d.values d.fractions) in let b = block_of d.ptr in let o = count_of d.ptr in
    beside_shr_laws (said fits) (spots_shares T b o d.values d.fractions) (said_shr_laws fits (λ _. tt)) (spots_laws T L.shr_laws b o d.values d.fractions))
    (copy_shared RawPtr-field RawPtr-copy, tt)
    (λ M 𝓤 𝓛 d p. let fits : Fml = fact (IsBlockAt T d.ptr d.values d.fractions) in let b = block_of d.ptr in let o = count_of d.ptr in
    let l : Lft = (C.the_row T).lives in
    Lends-both 𝓛 fits (spots T b o d.values d.fractions) (said fits) (spots_shares T b o d.values d.fractions) l (Lends-said 𝓛 fits (λ _. tt) l)
    (Lends-spots 𝓛 T L.shr_laws l (Shares-less 𝓛 T T.lives l (Incl-trans (meet_⊑_left (T.lives ++ []) _) (meet_⊑_left T.lives []))
    (L.shares 𝓛)) b o d.values d.fractions))
