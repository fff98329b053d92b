-- A `&` to a bank knows its invariants too. Assumes `Logic`.
use Rattle.std.proofs.Common.{[], ◌∷◌}
use denote.Struct.Tuple.{Tuple}
use denote.RattleType.{RattleType}
use denote.Param.Laws.{Laws}
use denote.Param.Shared.{copy_shared}
use denote.Struct.Laws.{field_copy}
use denote.Struct.Lending.{of_Lends}
use Rattle.core.specs.contracts.marker.PhantomData as P
use Rattle.atomic_table.specs.declared.shared.TableRule as rule
use Rattle.sdd_witness.proofs.DuplicableShares.{kept_laws, Lends-kept}
use Rattle.sdd_shared_values.specs.declared.bank.Treasury as treasury
use Rattle.sdd_shared_values.specs.declared.value_fraction.ValueFraction.{ValueFraction}
use Rattle.sdd_shared_values.specs.Bank.{bank_owns}
use Rattle.sdd_shared_values.specs.contracts.value_fraction.ValueFraction.{the_row}
use Rattle.sdd_shared_values.specs.contracts.bank.Bank as C
use Rattle.sdd_shared_values.proofs.bank.Bank.TheLaw.Statement.{statement}
use Rattle.sdd_shared_values.proofs.BankDeals.{bank_twice}

pub shares : (V K Y B : RattleType) (g : rule.Ghosts Y.Denot ValueFraction V.Denot K.Denot) (gB : treasury.Ghosts B.Denot V.Denot) (L : Laws V) (L' : Laws K)
    (M : Laws Y) (M' : Laws B) → statement V K Y B g gB L L' M M'
shares V K Y B g gB L L' M M' = let All = Tuple (Y ∷ V ∷ K ∷ B ∷ []) in
    of_Lends (C.struct V K Y B g gB) (C.the_codes V.Denot K.Denot Y.Denot B.Denot V.coded K.coded Y.coded B.coded (P.the_row All).coded)
    (C.the_heap V K Y B g gB) (C.the_lent V K Y B g gB)
    (λ d p. kept_laws (bank_owns the_row V.coded.code (g.holds d.key) gB.ours gB.banked d.table_id d.id)
    (λ N 𝓤 𝓛. bank_twice 𝓛 the_row V.coded (g.holds d.key) gB.ours gB.banked d.table_id d.id))
    (copy_shared (P.the_field All) (field_copy (P.the_type All) tt), tt)
    (λ N 𝓤 𝓛 d p. Lends-kept 𝓛 (bank_owns the_row V.coded.code (g.holds d.key) gB.ours gB.banked d.table_id d.id)
    (bank_twice 𝓛 the_row V.coded (g.holds d.key) gB.ours gB.banked d.table_id d.id) (C.the_row V K Y B g gB).lives)
