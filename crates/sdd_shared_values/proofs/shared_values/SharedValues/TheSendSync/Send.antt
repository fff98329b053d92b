use denote.RattleType.{RattleType}
use denote.Param.Send.{IsSend, IsSync}
use Rattle.sdd_shared_values.specs.declared.shared_values.ValueInvariant.{Ghosts}
use Rattle.sdd_shared_values.specs.contracts.shared_values.SharedValues.{the_row}
use Rattle.sdd_shared_values.proofs.SharedValuesSend.{values_Keyless}

pub send : (T F : RattleType) (g : Ghosts F.Denot T.Denot) → IsSend T → IsSync T → IsSend (the_row T F g)
send T F g s y = record {
  owned = λ d vs. ((λ vss. (tt, (tt, ((λ uss. (tt, tt)), tt)))), values_Keyless T (g.fits d.table d.gamma d.size) s y d.ptr d.gamma d.size);
  leaving = λ k f vs. tt;
}
