-- What is left in a bag whose values are taken out one after another
use Rattle.std.specs.Prelude.{ℕ}
use Rattle.sdd_space.specs.Guard.{ReaderId, reader_of}
use Rattle.sdd_bag.specs.declared.into_iter.IntoIter.{IntoIter}
use Rattle.sdd_bag.specs.Bag.{BagParts}

module _ {T B : Type 0} {len : ℕ} where
  abbrev pub bag_left : IntoIter T len B → BagParts T B
  bag_left it = it.bag

  -- whose guard it has
  abbrev pub reader_left : IntoIter T len B → ReaderId
  reader_left it = reader_of it.guard.now
