use Rattle.std.proofs.Common.{rules, ◌∙◌, refl, sym, ap}
use Rattle.sdd_space.specs.CallerId.{CallerId}
use Rattle.sdd_world_model.specs.WorldChanges.{opened, closed}
use Rattle.sdd_examples.proofs.CountedOwners.{no-call, passes}
use Rattle.sdd_world.specs.Place.{index_of}
use Rattle.sdd_examples.proofs.counts.comes_by.Goals as goal

pub returns-in_default-clause-beside : goal.returns-in_default-clause-beside
returns-in_default-clause-beside g c u theirs =
    no-call g.T.Item.holds c.args.world.now u theirs _
    (c.world-1.given.1 (sym (ap (λ (s : CallerId). s.loan) c.new.ensures.caller ∙ c.at.ensures.loan)) ∙ c.drop-at.ensures
    ∙ (c.in_default.ensures.exact refl).2 ∙ c.at.ensures.world)

pub returns-clause-beside : goal.returns-clause-beside
returns-clause-beside g c u theirs =
    passes g.T.Item.holds c.args.world.now u theirs c.world-2-1.given.0 _ (index_of c.args.other.now) c.requires
    (c.world-2-1.given.1 (sym (ap (λ (s : CallerId). s.loan) c.new.ensures.caller ∙ c.at.ensures.loan)) ∙ c.drop-at-2.ensures ∙ (c.in-Ok.ensures.exact refl).1
    ∙ (λ d. opened g.T.Item.holds (c.at.ensures.world d) (c.at.ensures.place d)))
    (search rules)
    (c.world-3-1.given.1 (sym (ap (λ (s : CallerId). s.loan) c.close.ensures.caller ∙ c.at-2.ensures.loan)) ∙ c.drop-at-3.ensures ∙ c.close.ensures.exact refl
    ∙ (λ d. closed (c.at-2.ensures.world d) (c.at-2.ensures.place d)))
