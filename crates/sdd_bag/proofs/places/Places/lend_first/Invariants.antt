use Rattle.std.proofs.Common.{◌≡◌, ◌+◌, ℕ, is_some, map}
use Rattle.sdd_bag.specs.Changing.{ChangesOn}
use Rattle.sdd_bag.specs.Storage.{kept_place, names_of, value_at}
use Rattle.sdd_bag.proofs.places.Places.lend_first.Given as goal

-- the values before this place have been lent
abbrev pub invariant-loop-at : goal.invariant-loop-at
invariant-loop-at g l = record {
  callable : goal.F-IsAlwaysCallable g l.change;
  names : names_of (map kept_place l.keys.kept) ≡ names_of (map kept_place l.initial.keys.kept);
  same : (k : ℕ) → is_some (value_at (map kept_place l.keys.kept) k) ≡ is_some (value_at (map kept_place l.initial.keys.kept) k);
  changed : ChangesOn g.F.FnMut l.fn.start (l.fn.start + l.at) l.fn.change (map kept_place l.initial.keys.kept) (map kept_place l.keys.kept) l.change;
}
