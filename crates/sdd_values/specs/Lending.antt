-- How a value of a block is edited
use Rattle.std.specs.Prelude.{ℕ, slice_set}
use Rattle.std.specs.Borrow.{Lends, MutBor, Fml}
use denote.RattleType.{RattleType}
use Rattle.sdd_values.specs.declared.block.Block.{Block}
use Rattle.sdd_values.specs.contracts.block.Block.{the_row}

-- the block with w for the value at i
abbrev pub with_value : {X : Type 0} → Block X → ℕ → X → Block X
with_value b i w = record b { values = slice_set b.values i w }

-- b ends with the last value behind r at i
abbrev pub LendsValue : (R : RattleType) → MutBor (Block R.Denot) → ℕ → MutBor R.Denot → Fml
LendsValue R b i r = Lends (the_row R) R b r (with_value b.now i)
