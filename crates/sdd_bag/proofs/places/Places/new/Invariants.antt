use Rattle.std.proofs.Common.{◌≡◌, ◌++◌, map, take, length}
use Rattle.sdd_bag.specs.Storage.{empty_place, kept_place}
use Rattle.sdd_bag.proofs.places.Places.new.Given as goal

abbrev pub invariant-loop-at : goal.invariant-loop-at
invariant-loop-at g l =
    (length l.places ≡ g.row.LEN) × (map kept_place l.keys.kept ≡ map empty_place (take l.at l.places) ++ map kept_place l.initial.keys.kept)
