use Rattle.std.proofs.Common.{◌+◌, List, Some, map, length, sym, ap, subst, arith}
use Rattle.std.proofs.lemmas.List.{length-map}
use Rattle.sdd_bag.specs.Storage.{AreCounted, KeptPlace, kept_place, names_of, with_value_at}
use Rattle.sdd_bag.proofs.Changing.{same-counted, some-kept}
use Rattle.sdd_bag.proofs.InsertedKeys.{get-inside}
use Rattle.sdd_bag.proofs.Values.{names-same}
use Rattle.sdd_bag.proofs.storage_keys.StorageKeys.swap.Goals as goal

pub exchange-requires-clause-inside : goal.exchange-requires-clause-inside
exchange-requires-clause-inside g c =
    let Places : Type 0 = List (KeptPlace g.row.T.Denot) in let name = c.in-Some.place.now in
    let inside = get-inside (names_of c.args.self.now) (c.args.start + c.args.at) name (c.requires.array.keys c.args.at name c.in-Some.ensures.place) in
    omega (
      arith,
      inside,
      length-map c.args.self.now (λ (p : KeptPlace g.row.T.Denot). p.name),
      ap (λ (qs : Places). length qs) c.self.view_is,
      length-map c.self.inside.keys.kept kept_place,
    )

pub invariant_of-self : goal.invariant_of-self
invariant_of-self g c =
    let Places : Type 0 = List (KeptPlace g.row.T.Denot) in let ps : Places = map kept_place c.self.inside.keys.kept in
    let at = c.args.start + c.args.at in let len = g.row.LEN in let count = c.self.inside.count in let arrays = c.self.inside.arrays in
    let value = c.args.value in
    subst (λ (qs : Places). AreCounted len count arrays qs) (sym c.exchange.ensures.now)
    (same-counted len count arrays ps c.self.invariant (with_value_at ps at (Some value)) (names-same ps at (Some value))
    (some-kept ps at c.in-Some-exchange.was value (sym c.in-Some-exchange.ensures.was)))
