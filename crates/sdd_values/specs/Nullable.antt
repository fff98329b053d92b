-- What a reference to a nullable shows.
use Rattle.std.specs.Prelude.{Option, None, Some}
use base.Fml.{Lft, Fml}
use denote.RattleType.{RattleType}
use denote.RawPtr.{Ptr, block_of, count_of}
use denote.Sharing.{nothing}
use denote.Memory.{shared_of}

-- of a value, what a reference to the value has at the same place, for as long; of nothing, nothing
abbrev pub nullable_shares : (R : RattleType) → Option R.Denot → Ptr → Lft → Fml
nullable_shares R None p = nothing
nullable_shares R (Some x) p = shared_of R x (block_of p) (count_of p)
