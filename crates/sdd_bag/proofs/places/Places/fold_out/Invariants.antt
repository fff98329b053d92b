use Rattle.std.proofs.Common.{◌≡◌, ◌<◌, ◌≤◌, ℕ, None, map}
use Rattle.sdd_bag.specs.Folding.{FoldsOn}
use Rattle.sdd_bag.specs.Storage.{kept_place, names_of, value_at, values_in}
use Rattle.sdd_bag.proofs.places.Places.fold_out.Given as goal

-- the places from this one on have no value, and each other one is as it was
abbrev pub invariant-loop-left : goal.invariant-loop-left
invariant-loop-left g l = record {
  callable : goal.F-IsAlwaysCallable g l.fold;
  fewer : l.left ≤ l.fn.count;
  names : names_of (map kept_place l.keys.kept) ≡ names_of (map kept_place l.initial.keys.kept);
  empty : (k : ℕ) → l.left ≤ k → k < l.fn.count → value_at (map kept_place l.keys.kept) k ≡ None;
  first : (k : ℕ) → k < l.left → value_at (map kept_place l.keys.kept) k ≡ value_at (map kept_place l.initial.keys.kept) k;
  others : (k : ℕ) → l.fn.count ≤ k → value_at (map kept_place l.keys.kept) k ≡ value_at (map kept_place l.initial.keys.kept) k;
  folded : FoldsOn (goal.F-step g) l.fn.fold l.fn.init (values_in (map kept_place l.initial.keys.kept)) l.fold l.made (values_in (map kept_place l.keys.kept));
}

abbrev pub decreases-loop-left : goal.decreases-loop-left
decreases-loop-left g l = l.left
