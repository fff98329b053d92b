use Rattle.std.proofs.Common.{◌≡◌, ◌-◌, ◌≤◌}
use Rattle.sdd_shared_values.specs.SharedValues.{AreVacant}
use Rattle.sdd_domain_invariant.specs.Fractions.FractionsAtHome.{fraction_at, AreHome}
use Rattle.sdd_domain_core.proofs.closing.gather_all_fractions.Given as goal

abbrev pub invariant-loop-slot : goal.invariant-loop-slot
invariant-loop-slot l = record {
  home : AreHome l.values_name.gamma l.sizes l.left l.closed;
  left : l.left ≡ fraction_at l.sizes.participants l.slot 0;
  low : l.slot ≤ l.sizes.slots;
  fraction_list : AreVacant l.values_name.gamma l.slot (l.sizes.slots - l.slot) l.fraction_list.contents;
  words : l.closed.words ≡ l.fn.closed.words;
}

abbrev pub decreases-loop-slot : goal.decreases-loop-slot
decreases-loop-slot l = l.slot
