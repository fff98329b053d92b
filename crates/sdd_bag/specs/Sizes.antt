-- How large a bag is
use Rattle.std.specs.Prelude.{◌<◌, ◌^◌}
use base.Fml.{Fml, fex, ftrue}
use denote.RattleType.{RattleType}
use denote.Param.{layout}
use prog.Memory.{size}
use Rattle.sdd_bag.specs.contracts.bag.Bag.{the_row}

-- a bag of these types has fewer than 2^63 bytes
abbrev pub IsSmall : RattleType → RattleType → RattleType → Type 0
IsSmall T len B = size (layout (the_row T len B)) < 2 ^ 63

-- that is so, as what somebody has
abbrev pub small : RattleType → RattleType → RattleType → Fml
small T len B = fex (IsSmall T len B) (λ _. ftrue)
