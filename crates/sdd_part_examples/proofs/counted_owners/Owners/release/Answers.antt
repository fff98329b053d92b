use Rattle.std.proofs.Common.{ap, refl, ◌∙◌, arith}
use Rattle.atomic_table.specs.Table.{Me}
use Rattle.sdd_part_examples.specs.CountedOwners.{one_owner}
use Rattle.sdd_part_examples.specs.declared.counted_owners.views.View.{View}
use Rattle.sdd_part_examples.proofs.Steps.{joins, subtracts}
use Rattle.sdd_part_examples.proofs.counted_owners.Owners.release.Goals as goal

pub rejoin-requires : goal.rejoin-requires
rejoin-requires c = let r = c.requires in (r.home, c.args.self.now.home.0, refl, r.owner.0, (one_owner, r.owner.1, joins _ _ _ _))

pub fetch_sub-requires : goal.fetch_sub-requires
fetch_sub-requires c = let r = c.requires in let e = c.rejoin.ensures in let is = e.2.2 in (
  e.0 ∙ r.home,
  (let w = c.args.self.now.home.1 in omega arith),
  subtracts _ _ _ record {
    owner = ap (λ (m : Me (Unit {0}) View). m.0.owner) is ∙ r.free.owner;
    mine = ap (λ (m : Me (Unit {0}) View). m.0.mine) is ∙ r.free.mine;
  } (let o = ap (λ (m : Me (Unit {0}) View). m.0.owned) is in omega arith),
)
