use Rattle.std.proofs.Common.{◌<◌, Some, None, length, map, slice_get, refl, sym, ap, ◌∙◌, List, arith}
use Rattle.std.proofs.lemmas.List.{length-map}
use Rattle.sdd_bag.specs.KeyedPlaces.{PlaceName}
use Rattle.sdd_bag.specs.Storage.{KeptPlace, kept_place, names_of, value_at, with_value_at}
use Rattle.sdd_bag.proofs.Changing.{with-twice}
use Rattle.sdd_bag.proofs.InsertedKeys.{not-there}
use Rattle.sdd_bag.proofs.Prefixes.{as-long, with-none}
use Rattle.sdd_bag.proofs.Values.{names-same}
use Rattle.sdd_bag.proofs.place.lend.Goals as goal

pub exchange-requires-2-clause-inside : goal.exchange-requires-2-clause-inside
exchange-requires-2-clause-inside g c =
    let ps = map kept_place c.args.keys.now.kept in let qs = map kept_place c.exchange.new.keys.kept in
    let names = ap (λ (rs : List (KeptPlace g.row.T.Denot)). names_of rs) c.exchange.ensures.now ∙ names-same ps c.args.at None in
    omega (arith, c.requires.inside, as-long ps qs names, length-map c.args.keys.now.kept kept_place, length-map c.exchange.new.keys.kept kept_place)

pub exchange-requires-2-clause-key : goal.exchange-requires-2-clause-key
exchange-requires-2-clause-key g c =
    let ps = map kept_place c.args.keys.now.kept in
    let names = ap (λ (rs : List (KeptPlace g.row.T.Denot)). names_of rs) c.exchange.ensures.now ∙ names-same ps c.args.at None in
    ap (λ (ns : List PlaceName). slice_get ns c.args.at) names ∙ c.requires.key

pub unreachable-requires-in-Some-exchange : goal.unreachable-requires-in-Some-exchange
unreachable-requires-in-Some-exchange g c =
    let ps = map kept_place c.args.keys.now.kept in
    let inside : c.args.at < length ps = omega (arith, c.requires.inside, length-map c.args.keys.now.kept kept_place) in
    not-there c.in-Some-exchange.field-0
    (sym (ap (λ (rs : List (KeptPlace g.row.T.Denot)). value_at rs c.args.at) c.exchange.ensures.now ∙ with-none ps c.args.at c.args.at inside refl)
    ∙ sym c.in-Some-exchange.ensures.was)

pub returns-clause-changed : goal.returns-clause-changed
returns-clause-changed g c =
    let ps = map kept_place c.args.keys.now.kept in (
      c.in-Some.value,
      c.change.new.arg2,
      sym c.in-Some.ensures.was,
      record { shown = _; shows = refl; left = _; called = c.change.ensures; leaves = refl },
      c.exchange-2.ensures.now
          ∙ ap (λ (rs : List (KeptPlace g.row.T.Denot)). with_value_at rs c.args.at (Some c.change.new.arg2)) c.exchange.ensures.now
          ∙ with-twice ps c.args.at None (Some c.change.new.arg2),
    )
