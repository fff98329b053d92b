-- A `&` to a nullable may cross threads where a `&` to the value may.
use Rattle.std.specs.Prelude.{Option, None, Some}
use denote.RattleType.{RattleType}
use denote.RawPtr.{Ptr, block_ptr, block_of, count_of}
use denote.Param.Send.{IsSync, Common}
use Rattle.sdd_values.specs.Nullable.{nullable_shares}
use Rattle.sdd_values.specs.contracts.nullable.Nullable.{the_row}

seen : (T : RattleType) → IsSync T → (shown : Option T.Denot) (p : Ptr) → Common (nullable_shares T shown p)
seen T y None p = λ κ. tt
seen T y (Some x) p = y.shared x (block_of p) (count_of p)

pub sync : (T : RattleType) → IsSync T → IsSync (the_row T)
sync T y = record { shared = λ shown b o. seen T y shown (block_ptr b o) }
