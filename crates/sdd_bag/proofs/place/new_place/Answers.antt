use Rattle.std.proofs.Common.{◌≡◌, map, ap, ◌∙◌}
use Rattle.core.specs.Mem.{manually_drop_value}
use Rattle.sdd_bag.specs.KeptValues.{kept_as, inserted}
use Rattle.sdd_bag.specs.Storage.{KeptPlace, kept_place}
use Rattle.sdd_bag.proofs.InsertedKeys.{map-inserted}
use Rattle.sdd_bag.proofs.place.new_place.Goals as goal

pub returns : goal.returns
returns g c =
    let T : Type 0 = g.row.T.Denot in
    let name = c.new-place.ensures.name in
    let none = ap manually_drop_value c.new-place.ensures.value ∙ c.new_unchecked.ensures in
    let as-place : kept_place (kept_as c.new-place.result.1.name c.new-place.result.1.value) ≡ record { name = c.new-place.result.0; value = _ } =
    λ i. record { name = name i; value = none i } in
    ap (λ (k : _). map kept_place k.kept) c.put.ensures
    ∙ map-inserted kept_place c.args.keys.now.kept c.args.at (kept_as c.new-place.result.1.name c.new-place.result.1.value)
    ∙ ap (λ (p : KeptPlace T). inserted (map kept_place c.args.keys.now.kept) c.args.at p) as-place
