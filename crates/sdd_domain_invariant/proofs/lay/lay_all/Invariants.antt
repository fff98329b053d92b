use Rattle.std.proofs.Common.{◌≡◌, ◌-◌, vec_capacity}
use Rattle.sdd_shared_values.specs.SharedValues.{AreVacant}
use Rattle.sdd_domain_invariant.specs.Fractions.FractionsAtHome.{fraction_at, none_away, all_vacant, AreLaidTo}
use Rattle.sdd_domain_invariant.proofs.lay.lay_all.Given as goal

abbrev pub invariant-loop-slot : goal.invariant-loop-slot
invariant-loop-slot l = record {
  laid : AreLaidTo l.values_name.gamma l.participants (fraction_at l.participants l.slot 0) none_away all_vacant l.laid.items;
  fraction_list : AreVacant l.values_name.gamma l.slot (l.slots - l.slot) l.fraction_list.contents;
  capacity : vec_capacity l.laid ≡ vec_capacity l.fn.laid;
}
