-- A bag whose values are lent one after another
use Rattle.core.specs.Fn.{Mut}
use Rattle.std.specs.Borrow.{MutBor}
use Rattle.sdd_bag.specs.Bag.{BagParts, overflow_of, primary_of}
use Rattle.sdd_bag.specs.Changing.{ChangesEach}

-- calls of f, one for each value, leave another one in its place: first for those in the bag itself, and then for the others
pub record ChangesBag {F T B : Type 0} (calls : Mut F (MutBor T × Unit {0}) (Unit {0} × (MutBor T × Unit {0}))) (f : F) (old new : BagParts T B) : Type 0 where
  pub between : F
  pub inside : ChangesEach calls f (primary_of old) (primary_of new) between
  pub last : F
  pub behind : ChangesEach calls between (overflow_of old) (overflow_of new) last
