use Rattle.std.proofs.Common.{map, ap, ◌∙◌, sym, Option}
use Rattle.core.specs.Mem.{manually_drop_value}
use Rattle.sdd_bag.specs.KeptValues.{kept_as, inserted, without_at}
use Rattle.sdd_bag.specs.Storage.{kept_place, with_value_at}
use Rattle.sdd_bag.proofs.InsertedKeys.{name-there, value-there, put-back, same-there}
use Rattle.sdd_bag.proofs.place.exchange.Goals as goal

pub replace-was-requires : goal.replace-was-requires
replace-was-requires g c =
    let k = kept_as c.take-key.result.name c.take-key.result.value in
    record { key = same-there k.name c.args.place.now (sym (name-there c.args.keys.now.kept c.args.at k c.take-key.ensures.key) ∙ c.requires.key) }

pub returns-clause-was : goal.returns-clause-was
returns-clause-was g c =
    let k = kept_as c.take-key.result.name c.take-key.result.value in
    c.into_inner.ensures ∙ ap manually_drop_value c.replace-was.ensures.was ∙ sym (value-there c.args.keys.now.kept c.args.at k c.take-key.ensures.key)

pub returns-clause-now : goal.returns-clause-now
returns-clause-now g c =
    let k = kept_as c.take-key.result.name c.take-key.result.value in
    ap (λ (ks : _). map kept_place ks.kept) c.put.ensures
    ∙ ap (λ (ks : _). map kept_place (inserted ks.kept c.args.at (kept_as c.replace-was.new.key.name c.replace-was.new.key.value))) c.take-key.ensures.rest
    ∙ ap (λ (o : _). map kept_place (inserted (without_at c.args.keys.now.kept c.args.at) c.args.at (kept_as o.name o.value))) c.replace-was.ensures.now
    ∙ put-back c.args.keys.now.kept c.args.at k c.new_unchecked.result c.take-key.ensures.key
    ∙ ap (λ (v : Option g.row.T.Denot). with_value_at (map kept_place c.args.keys.now.kept) c.args.at v) c.new_unchecked.ensures
