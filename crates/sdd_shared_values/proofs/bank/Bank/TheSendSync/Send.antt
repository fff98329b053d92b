-- A bank is knowledge of two invariants, and may go to any thread.
use denote.RattleType.{RattleType}
use denote.Param.Send.{IsSend}
use Rattle.atomic_table.specs.declared.shared.TableRule as rule
use Rattle.sdd_shared_values.specs.declared.bank.Treasury as treasury
use Rattle.sdd_shared_values.specs.declared.value_fraction.ValueFraction.{ValueFraction}
use Rattle.sdd_shared_values.specs.contracts.bank.Bank.{the_row}
use Rattle.sdd_shared_values.proofs.BankSend.{bank_keyless}

pub send : (V K P B : RattleType) (g : rule.Ghosts P.Denot ValueFraction V.Denot K.Denot) (gB : treasury.Ghosts B.Denot V.Denot) → IsSend (the_row V K P B g gB)
send V K P B g gB = record {
  owned = λ d vs. ((λ vss. (tt, ((λ uss. (tt, tt)), tt))), bank_keyless V.coded.code (g.holds d.key) gB.ours gB.banked d.table_id d.id);
  leaving = λ k f vs. tt;
}
