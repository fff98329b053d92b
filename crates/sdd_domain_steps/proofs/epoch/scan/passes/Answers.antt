use Rattle.sdd_rights.specs.declared.views.Sizes.{Sizes}
use Rattle.std.proofs.Common.{refl, sym, ap, ◌∙◌, subst, ℕ, ◌<◌}
use borrow.Author.Tests.{eqb-true, eqb-false}
use Rattle.sdd_rights.specs.declared.views.EpochView.{EpochView}
use Rattle.sdd_domain_invariant.specs.Epoch.EpochSteps.{IsNext, passed_by}
use Rattle.sdd_domain_steps.proofs.epoch.scan.passes.Goals as goal

pub returns-then-look_at_state-ne-OPEN-clause-passed : goal.returns-then-look_at_state-ne-OPEN-clause-passed
returns-then-look_at_state-ne-OPEN-clause-passed c _ = (c.look_at_state.ensures.1 c.args.place refl).0 c.if-look_at_state-ne-OPEN.true

pub look_at_count-requires-clause-next : goal.look_at_count-requires-clause-next
look_at_count-requires-clause-next c = let same = (c.look_at_state.ensures.1 c.args.place refl).1 c.if-look_at_state-ne-OPEN.false in (
  subst (λ (k : ℕ). c.args.place < k) (sym (ap (λ (z : Sizes). z.participants) c.look_at_state.ensures.0.0.3)) c.requires.next.0,
  subst (λ (v : EpochView). IsNext v c.args.place) (sym same) c.requires.next.1,
)

pub returns-clause-passed : goal.returns-clause-passed
returns-clause-passed c e = let same = (c.look_at_state.ensures.1 c.args.place refl).1 c.if-look_at_state-ne-OPEN.false in
    let own = c.requires.count ∙ sym (ap (λ (v : EpochView). v.count) same) in
    (c.look_at_count.ensures.1 c.args.place refl).0 (eqb-true _ _ e ∙ own) ∙ ap (λ (v : EpochView). passed_by v c.args.place) same

pub returns-clause-failed : goal.returns-clause-failed
returns-clause-failed c e = let same = (c.look_at_state.ensures.1 c.args.place refl).1 c.if-look_at_state-ne-OPEN.false in
    (c.look_at_count.ensures.1 c.args.place refl).1 (λ is. eqb-false _ _ e (is ∙ (ap (λ (v : EpochView). v.count) same ∙ sym c.requires.count))) ∙ same
