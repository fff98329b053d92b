use Rattle.std.proofs.Common.{◌≡◌, ◌++◌, List, Some, length, map, slice_get, ap, ◌∙◌, arith}
use Rattle.std.proofs.lemmas.List.{length-map}
use Rattle.sdd_bag.specs.KeyedPlaces.{PlaceName}
use Rattle.sdd_bag.specs.Storage.{kept_place}
use Rattle.sdd_bag.proofs.InsertedKeys.{get-front, get-inside}
use Rattle.sdd_bag.proofs.places.Places.exchange.Goals as goal

pub exchange-requires-clause-key : goal.exchange-requires-clause-key
exchange-requires-clause-key g c =
    ap (λ (names : List PlaceName). slice_get names c.args.at) c.requires.keys.1
    ∙ get-front c.args.self.now c.requires.keys.0 c.args.at c.in-Some.place.now c.in-Some.ensures.place

pub returns-clause-there : goal.returns-clause-there
returns-clause-there g c =
    let name = c.in-Some.place.now in
    let front : slice_get (c.args.self.now ++ c.requires.keys.0) c.args.at ≡ Some name =
    get-front c.args.self.now c.requires.keys.0 c.args.at name c.in-Some.ensures.place in
    let ps = map kept_place c.args.keys.now.kept in
    omega (arith, get-inside (c.args.self.now ++ c.requires.keys.0) c.args.at name front, ap length c.requires.keys.1, length-map ps (λ p. p.name))

pub exchange-requires-clause-inside : goal.exchange-requires-clause-inside
exchange-requires-clause-inside g c =
    let name = c.in-Some.place.now in
    let front : slice_get (c.args.self.now ++ c.requires.keys.0) c.args.at ≡ Some name =
    get-front c.args.self.now c.requires.keys.0 c.args.at name c.in-Some.ensures.place in
    let ps = map kept_place c.args.keys.now.kept in
    omega (
      arith,
      get-inside (c.args.self.now ++ c.requires.keys.0) c.args.at name front,
      ap length c.requires.keys.1,
      length-map ps (λ p. p.name),
      length-map c.args.keys.now.kept kept_place,
    )
