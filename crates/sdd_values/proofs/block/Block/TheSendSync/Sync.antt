use denote.RattleType.{RattleType}
use denote.Param.Send.{IsSend, IsSync, struct_sync, sendable}
use denote.Builtin.{RawPtr}
use denote.Struct.Owning.{shape, to}
use Rattle.sdd_values.specs.contracts.block.Block.{the_row, the_type}
use Rattle.sdd_values.proofs.BlockSend.{block_shares_Keyless}

pub sync : (T : RattleType) → IsSend T → IsSync T → IsSync (the_row T)
sync T s y = let py : IsSync RawPtr = search sendable in
    record {
      shared = λ d b o κ. (
        (struct_sync (shape (the_type T))
            (py, tt)).shared (to (the_type T) d) b o κ,
        block_shares_Keyless T y κ d.ptr d.values d.fractions,
      );
    }
