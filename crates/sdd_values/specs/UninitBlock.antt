-- What room for values side by side owns
use Rattle.std.specs.Prelude.{ℕ}
use base.Fml.{Fml, fsep}
use mir.Syntax.{Ty, ty_array}
use mir.Raw.{raw}
use denote.RattleType.{RattleType}
use denote.Memory.{lone}
use denote.RawPtr.{Ptr, room_for}
use Rattle.core.specs.Mem.Slots.Ownership.{leased}

-- room for n values at p, and the right, t's, to free it
abbrev pub room_owns : (Ty → Ptr → Fml) → RattleType → Ptr → ℕ → Fml
room_owns t R p n = fsep (room_for (raw (ty_array (lone R.mir) n)) p) (leased t R p n)
