-- A `&` to shared values knows their rules too. Assumes `Logic`.
use denote.RattleType.{RattleType}
use denote.Param.Laws.{Laws}
use denote.Param.Shared.{copy_shared}
use denote.Struct.Field.{RawPtr-field}
use denote.Struct.Laws.{RawPtr-copy, field_copy}
use denote.Struct.Lending.{of_Lends}
use Rattle.core.specs.contracts.marker.PhantomData as P
use Rattle.sdd_witness.proofs.DuplicableShares.{kept_laws, Lends-kept}
use Rattle.sdd_shared_values.specs.declared.shared_values.ValueInvariant.{Ghosts}
use Rattle.sdd_shared_values.specs.SharedValues.{values_owns}
use Rattle.sdd_shared_values.specs.contracts.shared_values.SharedValues as C
use Rattle.sdd_shared_values.proofs.shared_values.SharedValues.TheLaw.Statement.{statement}
use Rattle.sdd_shared_values.proofs.Rules.{values_twice}

pub shares : (T Y : RattleType) (g : Ghosts Y.Denot T.Denot) (L : Laws T) (L' : Laws Y) → statement T Y g L L'
shares T Y g L L' = of_Lends (C.struct T Y g) (C.the_codes T.Denot Y.Denot T.coded Y.coded (P.the_row Y).coded) (C.the_heap T Y g) (C.the_lent T Y g)
    (λ d p. kept_laws (values_owns T (g.fits d.table d.gamma d.size) d.ptr d.gamma d.size)
    (λ M 𝓤 𝓛. values_twice 𝓛 T (g.fits d.table d.gamma d.size) d.ptr d.gamma d.size))
    (copy_shared RawPtr-field RawPtr-copy, (copy_shared (P.the_field Y) (field_copy (P.the_type Y) tt), tt))
    (λ M 𝓤 𝓛 d p. Lends-kept 𝓛 (values_owns T (g.fits d.table d.gamma d.size) d.ptr d.gamma d.size)
    (values_twice 𝓛 T (g.fits d.table d.gamma d.size) d.ptr d.gamma d.size) (C.the_row T Y g).lives)
