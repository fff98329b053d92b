-- A `&` to a ledger knows what the ledger knows. Assumes `Logic`.
use denote.RattleType.{RattleType}
use denote.Param.Laws.{Laws}
use denote.Param.Shared.{copy_shared}
use denote.Struct.Laws.{field_copy}
use denote.Struct.Lending.{of_Lends}
use Rattle.core.specs.contracts.marker.PhantomData as P
use Rattle.atomic_table.specs.Seated.{fact}
use Rattle.sdd_witness.proofs.DuplicableShares.{kept_laws, Lends-kept}
use Rattle.sdd_shared_values.specs.GhostValues.{AreCoded}
use Rattle.sdd_shared_values.specs.contracts.ghost_values.GhostValues as C
use Rattle.sdd_shared_values.proofs.ghost_values.GhostValues.TheLaw.Statement.{statement}
use Rattle.sdd_shared_values.proofs.GhostCodes.{known_twice}

pub shares : (T : RattleType) (L : Laws T) → statement T L
shares T L = of_Lends (C.struct T) (C.the_codes T.Denot T.coded (P.the_row T).coded) (C.the_heap T) (C.the_lent T)
    (λ d p. kept_laws (fact (AreCoded T d.entries)) (λ M 𝓤 𝓛. known_twice 𝓛 (AreCoded T d.entries)))
    (copy_shared (P.the_field T) (field_copy (P.the_type T) tt), tt)
    (λ M 𝓤 𝓛 d p. Lends-kept 𝓛 (fact (AreCoded T d.entries)) (known_twice 𝓛 (AreCoded T d.entries)) (C.the_row T).lives)
