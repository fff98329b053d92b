use denote.RattleType.{RattleType}
use denote.Param.Send.{IsSend, IsSync, sendable}
use denote.Struct.Struct.{Struct}
use denote.Struct.Owning.{shape}
use Rattle.sdd_shared_values.specs.declared.shared_values.ValueInvariant.{Ghosts}
use Rattle.sdd_shared_values.specs.contracts.shared_values.SharedValues.{the_row, the_type}
use Rattle.sdd_shared_values.proofs.SharedValuesSend.{values_Keyless}

pub sync : (T F : RattleType) (g : Ghosts F.Denot T.Denot) → IsSend T → IsSync T → IsSync (the_row T F g)
sync T F g s y = let fields : IsSync (Struct (shape (the_type T F g))) = search sendable depth 20 in
    record { shared = λ d b o κ. (fields.shared (d.ptr, (tt, tt)) b o κ, values_Keyless T (g.fits d.table d.gamma d.size) s y d.ptr d.gamma d.size) }
