-- A `&` to a fraction holds a share of its entry. Assumes `Logic`.
use mathlib.Core.List.{[], ◌∷◌}
use denote.RattleType.{RattleType}
use denote.SharingLaws.{one_shr_laws, beside_shr_laws}
use denote.Sharing.{one}
use base.Fml.{Lft, Fml, flft}
use denote.Param.Laws.{Laws}
use denote.Param.Shared.{copy_shared}
use denote.Struct.Laws.{field_copy}
use denote.Struct.Lending.{of_Lends, Lends-both}
use Rattle.core.specs.contracts.marker.PhantomData as P
use Rattle.sdd_rights.specs.Units.{share_of, told, units, tokens}
use Rattle.sdd_rights.specs.contracts.fraction.Fraction as C
use Rattle.sdd_rights.proofs.fraction.Fraction.TheLaw.Statement.{statement}
use Rattle.sdd_rights.proofs.Steps.{Lends-fraction, Lends-tokens}

pub shares : (T : RattleType) (L : Laws T) → statement T L
shares T L = of_Lends (C.struct T) (C.the_codes T.Denot T.coded (P.the_row T).coded) (C.the_heap T) (C.the_lent T)
    (λ d p. let s : Lft → Fml = one (share_of d.home.name d.number (told T.coded d.lifetime d.kind d.shown)) in
    let t : Lft → Fml = one (λ q. flft (d.lifetime ∷ []) q) in beside_shr_laws s t
    (one_shr_laws (share_of d.home.name d.number (told T.coded d.lifetime d.kind d.shown))) (one_shr_laws (λ q. flft (d.lifetime ∷ []) q)))
    (copy_shared (P.the_field T) (field_copy (P.the_type T) tt), tt)
    (λ M 𝓤 𝓛 d p. let g = told T.coded d.lifetime d.kind d.shown in let l = (C.the_row T).lives in
    Lends-both 𝓛 (units d.home.name d.number g d.units) (tokens d.lifetime d.units) (one (share_of d.home.name d.number g))
    (one (λ q. flft (d.lifetime ∷ []) q)) l (Lends-fraction 𝓛 d.home.name d.number g d.units l) (Lends-tokens 𝓛 d.lifetime d.units l))
