use Rattle.std.proofs.Common.{◌≡◌, ◌+◌, ◌-◌}
use Rattle.sdd_shared_values.specs.SharedValues.{most, content, IsNoValueCode}
use Rattle.sdd_domain_invariant.specs.Fractions.FractionsAtHome.{fraction_at, AreHome}
use Rattle.sdd_domain_invariant.proofs.gather.gather_home.Given as goal

abbrev pub invariant-loop-place : goal.invariant-loop-place
invariant-loop-place g l = record {
  home : AreHome l.values_name.gamma l.sizes l.left l.closed;
  left : l.left ≡ fraction_at l.sizes.participants l.slot (l.sizes.participants - l._place);
  whole : l.whole.content ≡ content l.values_name.gamma l.slot l.whole.content.lifetime l.whole.content.shown (most - l.sizes.participants + l._place);
  vacant : IsNoValueCode l.whole.content.shown;
  words : l.closed.words ≡ l.fn.closed.words;
}
