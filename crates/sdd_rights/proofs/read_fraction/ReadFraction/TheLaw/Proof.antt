-- A `&` to a read fraction holds a share of its entry. Assumes `Logic`.
use mathlib.Core.List.{[], ◌∷◌}
use denote.Builtin.{u64}
use denote.SharingLaws.{one_shr_laws, beside_shr_laws}
use denote.Sharing.{one}
use base.Fml.{Lft, Fml, flft}
use denote.Param.Shared.{copy_shared}
use denote.Struct.Laws.{field_copy}
use denote.Struct.Lending.{of_Lends, Lends-both}
use Rattle.core.specs.contracts.marker.PhantomData as P
use Rattle.sdd_rights.specs.Units.{share_of, units, tokens}
use Rattle.sdd_rights.specs.ReadFraction.{agreed_on}
use Rattle.sdd_rights.specs.contracts.read_fraction.ReadFraction as C
use Rattle.sdd_rights.proofs.read_fraction.ReadFraction.TheLaw.Statement.{statement}
use Rattle.sdd_rights.proofs.Steps.{Lends-fraction, Lends-tokens}

pub shares : statement
shares = of_Lends C.struct (C.the_codes (P.the_row u64).coded) C.the_heap C.the_lent
    (λ d p. let g = agreed_on d.lifetime d.shown in let s : Lft → Fml = one (share_of d.gamma d.number g) in
    let t : Lft → Fml = one (λ q. flft (d.lifetime ∷ []) q) in beside_shr_laws s t
    (one_shr_laws (share_of d.gamma d.number g)) (one_shr_laws (λ q. flft (d.lifetime ∷ []) q)))
    (copy_shared (P.the_field u64) (field_copy (P.the_type u64) tt), tt)
    (λ M 𝓤 𝓛 d p. let g = agreed_on d.lifetime d.shown in let l = C.the_row.lives in
    Lends-both 𝓛 (units d.gamma d.number g 1) (tokens d.lifetime 1) (one (share_of d.gamma d.number g))
    (one (λ q. flft (d.lifetime ∷ []) q)) l (Lends-fraction 𝓛 d.gamma d.number g 1 l) (Lends-tokens 𝓛 d.lifetime 1 l))
