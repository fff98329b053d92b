use Rattle.std.proofs.Common.{refl, sym, ◌∙◌, subst, arith}
use Rattle.sdd_rights.specs.declared.views.EpochView.{EpochView}
use Rattle.sdd_domain_invariant.specs.Epoch.EpochSteps.{Takes}
use Rattle.sdd_atomics.proofs.Allowed.{same_but_on}
use mathlib.Core.Logic.{dite}
use native.Mathlib.Decide.{ℕ_discrete}
use Rattle.sdd_domain_steps.specs.Sightings.{IsMarked}
use Rattle.sdd_domain_steps.proofs.epoch.places.take_place.Goals as goal

pub returns-then-register-eq-FREE-clause-taken : goal.returns-then-register-eq-FREE-clause-taken
returns-then-register-eq-FREE-clause-taken c = let took = (c.register.ensures.1 c.loop-place.place refl).0 c.if-register-eq-FREE.true in
    (omega arith, subst (λ (v : EpochView). Takes v c.loop-place.place c.register.new.seat.me.0.epoch) c.loop-place.invariant.idle took)

pub loop-place-preserved : goal.loop-place-preserved
loop-place-preserved c = let told = (c.register.ensures.1 c.loop-place.place refl).1 c.if-register-eq-FREE.false in record {
  same = same_but_on c.args.seat.now c.loop-place.seat c.register.new.seat c.loop-place.invariant.same c.register.ensures.0;
  idle = told ∙ c.loop-place.invariant.idle;
  seen = let before = c.loop-place.invariant.seen in let here = c.note-in-loop-place.ensures.marked in let kept = c.note-in-loop-place.ensures.kept in
      λ k from to. dite (ℕ_discrete k c.loop-place.place) (λ e. subst (IsMarked c.note-in-loop-place.new.self.taken) (sym e) here)
      (λ ne. kept.marked k (before k from (omega arith)));
  size = c.note-in-loop-place.ensures.kept.size ∙ c.loop-place.invariant.size;
  blank = c.register.ensures.0.3 ∙ c.loop-place.invariant.blank;
  sizes = c.register.ensures.0.0.3 ∙ c.loop-place.invariant.sizes;
}
