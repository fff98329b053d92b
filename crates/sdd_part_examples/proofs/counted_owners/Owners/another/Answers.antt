use Rattle.std.proofs.Common.{[], ap, refl, ◌∙◌, arith}
use Rattle.atomic_table.specs.Table.{Me}
use Rattle.sdd_part_examples.specs.CountedOwners.{one_owner}
use Rattle.sdd_part_examples.specs.declared.counted_owners.views.View.{View}
use Rattle.sdd_part_examples.proofs.Steps.{enters, adds, leaves, parts}
use Rattle.sdd_part_examples.proofs.counted_owners.Owners.another.Goals as goal

pub beside-requires : goal.beside-requires
beside-requires c = let r = c.requires in let home = c.args.self.now.home in (
  r.home,
  home.0,
  refl,
  r.owner.0,
  (
    one_owner,
    r.owner.1,
    record {
      goes_in = λ q. enters _ _ _ _ _ q;
      acts = λ q. ((let w = home.1 in omega arith), adds _ _ _ _ refl r.room);
      comes_out = λ q n u is. leaves _ _ _ _ refl (ap (λ (m : Me (Unit {0}) View). m.0.mine) is);
    },
  ),
)

pub part-requires : goal.part-requires
part-requires c = let r = c.requires in let e = c.beside.ensures in let s = e.2.2 in
    let is = s.3 ∙ ap (λ (m : Me (Unit {0}) View). (record m.0 { mine = [] }, m.1)) s.2 in (
      e.0 ∙ r.home,
      parts _ _ record {
        owner = ap (λ (m : Me (Unit {0}) View). m.0.owner) is ∙ r.free.owner;
        mine = ap (λ (m : Me (Unit {0}) View). m.0.mine) is;
      } (let o = ap (λ (m : Me (Unit {0}) View). m.0.owned) is in omega arith),
    )
