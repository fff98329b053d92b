use Rattle.std.proofs.Common.{◌≡◌, ◌+◌, ◌-◌}
use Rattle.sdd_shared_values.specs.SharedValues.{most, content, IsNoValueCode}
use Rattle.sdd_domain_invariant.specs.Fractions.FractionsAtHome.{fraction_at, none_away, all_vacant, AreLaidTo}
use Rattle.sdd_domain_invariant.proofs.gather.gather_slot.Given as goal

abbrev pub invariant-loop-place : goal.invariant-loop-place
invariant-loop-place l = record {
  laid : AreLaidTo l.values_name.gamma l.participants (fraction_at l.participants l.slot (l.participants - l._place)) none_away all_vacant l.laid.items;
  whole : l.whole.content ≡ content l.values_name.gamma l.slot l.whole.content.lifetime l.whole.content.shown (most - l.participants + l._place);
  vacant : IsNoValueCode l.whole.content.shown;
}
