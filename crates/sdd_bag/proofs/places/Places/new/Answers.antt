use Rattle.std.proofs.Common.{◌++◌, ◌+◌, List, map, ap, ◌∙◌, arith}
use Rattle.std.proofs.lemmas.List.{length-set, take_all}
use Rattle.sdd_bag.specs.KeptValues.{inserted}
use Rattle.sdd_bag.specs.KeyedPlaces.{PlaceName}
use Rattle.sdd_bag.specs.Storage.{KeptPlace, empty_place, kept_place}
use Rattle.sdd_bag.proofs.InsertedKeys.{new-behind}
use Rattle.sdd_bag.proofs.places.Places.new.Goals as goal

pub loop-at-preserved : goal.loop-at-preserved
loop-at-preserved g c =
    let before : List (KeptPlace g.row.T.Denot) = map kept_place c.args.keys.now.kept in (
      length-set c.loop-at.places c.loop-at.at c.new_place.result ∙ c.loop-at.invariant.0,
      c.new_place.ensures
          ∙ ap (λ (ps : List (KeptPlace g.row.T.Denot)). inserted ps c.loop-at.at (empty_place c.new_place.result)) c.loop-at.invariant.1
          ∙ new-behind empty_place c.loop-at.places before c.loop-at.at (c.loop-at.at + 1) c.new_place.result
          (omega (arith, c.loop-at-test.true, c.loop-at.invariant.0)) (omega arith),
    )

pub returns-clause-long : goal.returns-clause-long
returns-clause-long g c = c.loop-at.invariant.0

pub returns-clause-kept : goal.returns-clause-kept
returns-clause-kept g c =
    c.loop-at.invariant.1
    ∙ ap (λ (ns : List PlaceName). map empty_place ns ++ map kept_place c.args.keys.now.kept)
    (take_all c.loop-at.at c.loop-at.places (omega (arith, c.loop-at-test.false, c.loop-at.invariant.0)))
