use Rattle.std.proofs.Common.{◌≡◌, ◌+◌, ◌-◌, vec_len, vec_capacity}
use Rattle.sdd_shared_values.specs.SharedValues.{most, content, IsNoValueCode}
use Rattle.sdd_domain_invariant.specs.Fractions.FractionsAtHome.{fraction_at, none_away, all_vacant, AreLaidTo}
use Rattle.sdd_domain_invariant.proofs.lay.lay_slot.Given as goal

abbrev pub invariant-loop-place : goal.invariant-loop-place
invariant-loop-place l = record {
  laid : AreLaidTo l.fn.whole.content.gamma l.participants (fraction_at l.participants l.slot l._place) none_away all_vacant l.laid.items;
  rest : l.rest.content ≡ content l.fn.whole.content.gamma l.slot l.rest.content.lifetime l.rest.content.shown (most - l._place);
  vacant : IsNoValueCode l.rest.content.shown;
  room : vec_len l.laid ≡ vec_len l.fn.laid + l._place;
  capacity : vec_capacity l.laid ≡ vec_capacity l.fn.laid;
}
