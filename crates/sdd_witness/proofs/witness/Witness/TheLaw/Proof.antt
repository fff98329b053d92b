-- A `&` to a witness has a share of its view. Assumes `Logic`.
use denote.Builtin.{u64}
use denote.Param.Shared.{copy_shared}
use denote.Struct.Laws.{field_copy}
use denote.Struct.Lending.{of_Lends}
use Rattle.core.specs.contracts.marker.PhantomData as P
use Rattle.sdd_witness.specs.contracts.witness.Witness as C
use Rattle.sdd_witness.proofs.witness.Witness.TheLaw.Statement.{statement}
use Rattle.sdd_witness.proofs.WitnessShares.{shown_laws, lends_shown}

pub shares : statement
shares = of_Lends C.struct (C.the_codes (P.the_row u64).coded) C.the_heap C.the_lent
    (λ d p. shown_laws d.table_id d.id d.views)
    (copy_shared (P.the_field u64) (field_copy (P.the_type u64) tt), tt)
    (λ M 𝓤 𝓛 d p. lends_shown 𝓛 d.table_id d.id d.views C.the_row.lives)
