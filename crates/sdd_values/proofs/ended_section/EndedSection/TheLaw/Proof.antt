-- A `&` to what shows an end shows it too. Assumes `Logic`.
use mathlib.Core.List.{[], ◌∷◌}
use base.Fml.{fdead}
use denote.Builtin.{u64}
use denote.Param.Shared.{copy_shared}
use denote.Struct.Laws.{field_copy}
use denote.Struct.Lending.{of_Lends}
use Rattle.core.specs.contracts.marker.PhantomData as P
use Rattle.sdd_values.specs.contracts.ended_section.EndedSection as C
use Rattle.sdd_values.proofs.ended_section.EndedSection.TheLaw.Statement.{statement}
use Rattle.sdd_witness.proofs.DuplicableShares.{kept_laws, Lends-kept}

pub shares : statement
shares = of_Lends C.struct (C.the_codes (P.the_row u64).coded) C.the_heap C.the_lent
    (λ d p. kept_laws (fdead (d.name ∷ [])) (λ M 𝓤 𝓛. 𝓛.lfts.dead_dup (d.name ∷ [])))
    (copy_shared (P.the_field u64) (field_copy (P.the_type u64) tt), tt)
    (λ M 𝓤 𝓛 d p. Lends-kept 𝓛 (fdead (d.name ∷ [])) (𝓛.lfts.dead_dup (d.name ∷ [])) C.the_row.lives)
