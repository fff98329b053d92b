use Rattle.std.proofs.Common.{ap, ◌∙◌}
use Rattle.sdd_rights.specs.declared.views.View.{View}
use Rattle.sdd_domain_steps.proofs.epoch.quiet.bar_all.Goals as goal

pub loop-place-preserved : goal.loop-place-preserved
loop-place-preserved c = let e = c.bars.ensures.barred c.if-not-bars.false in record {
  home = c.bars.ensures.home ∙ c.loop-place.invariant.home;
  sizes = ap (λ (v : View). v.sizes) e ∙ c.loop-place.invariant.sizes;
  ended = ap (λ (v : View). v.places.ended) e;
  quiet = ap (λ (v : View). v.places.quiet) e ∙ c.loop-place.invariant.quiet;
  kept = c.loop-place.invariant.kept;
  none = ap (λ (v : View). v.fractions.counts) e ∙ c.loop-place.invariant.none;
}
