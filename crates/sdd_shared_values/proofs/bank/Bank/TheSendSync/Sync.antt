use denote.RattleType.{RattleType}
use denote.Param.Send.{IsSync, sendable}
use denote.Struct.Struct.{Struct}
use denote.Struct.Owning.{shape}
use Rattle.atomic_table.specs.declared.shared.TableRule as rule
use Rattle.sdd_shared_values.specs.declared.bank.Treasury as treasury
use Rattle.sdd_shared_values.specs.declared.value_fraction.ValueFraction.{ValueFraction}
use Rattle.sdd_shared_values.specs.contracts.bank.Bank.{the_row, the_type}
use Rattle.sdd_shared_values.proofs.BankSend.{bank_keyless}

pub sync : (V K P B : RattleType) (g : rule.Ghosts P.Denot ValueFraction V.Denot K.Denot) (gB : treasury.Ghosts B.Denot V.Denot) → IsSync (the_row V K P B g gB)
sync V K P B g gB = let fields : IsSync (Struct (shape (the_type V K P B g gB))) = search sendable depth 20 in
    record { shared = λ d b o ν. (fields.shared (tt, tt) b o ν, bank_keyless V.coded.code (g.holds d.key) gB.ours gB.banked d.table_id d.id) }
