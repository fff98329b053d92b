use Rattle.std.proofs.Common.{List, [], ◌++◌, map, length, ap, ◌∙◌, sym, arith}
use Rattle.std.proofs.lemmas.List.{append-nil}
use Rattle.sdd_bag.specs.KeyedPlaces.{PlaceName}
use Rattle.sdd_bag.specs.Storage.{KeptPlace, empty_place, names_of, values_in}
use Rattle.sdd_bag.specs.Storages.{StorageName}
use Rattle.sdd_bag.proofs.PrimaryChanges.{new-long, new-names, new-values}
use Rattle.sdd_bag.proofs.primary.Primary.new.Goals as goal

pub invariant_of-result : goal.invariant_of-result
invariant_of-result g c =
    let Places : Type 0 = List (KeptPlace g.row.T.Denot) in
    let names : List PlaceName = c.add_places-places.result in
    let are = c.add_places-places.ensures.places ∙ ap (λ (ps : Places). map empty_place names ++ ps) c.new-keys.ensures in
    record {
      keys =
          ap (λ (ps : Places). names_of ps) are ∙ new-names names [] ∙ append-nil names
          ∙ ap (λ (s : StorageName). s.places) (sym c.new.ensures);
      long = ap (λ (ps : Places). length ps) are ∙ (omega (arith, new-long {T = g.row.T.Denot} names [], c.add_places-places.ensures.long));
    }

pub returns-clause-empty : goal.returns-clause-empty
returns-clause-empty g c =
    let Places : Type 0 = List (KeptPlace g.row.T.Denot) in
    let names : List PlaceName = c.add_places-places.result in
    ap (λ (ps : Places). values_in ps)
    (c.add_places-places.ensures.places ∙ ap (λ (ps : Places). map empty_place names ++ ps) c.new-keys.ensures)
    ∙ new-values names []
