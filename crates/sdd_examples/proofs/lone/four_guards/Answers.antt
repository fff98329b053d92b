use Rattle.std.proofs.Common.{sym, ap, ◌∙◌, subst}
use Rattle.sdd_world_model.specs.ReclaimBound.{IsCleared, accelerated_guard}
use Rattle.sdd_space.specs.CallerId.{CallerId}
use Rattle.sdd_world_model.specs.World.{World}
use Rattle.sdd_examples.proofs.lone.four_guards.Goals as goal

pub returns-clause-passed : goal.returns-clause-passed
returns-clause-passed g c =
    let one = ap (λ (s : CallerId). s.place) c.goes_on.ensures.caller in
    let two = ap (λ (s : CallerId). s.place) c.goes_on-2.ensures.caller ∙ one in
    let three = ap (λ (s : CallerId). s.place) c.goes_on-3.ensures.caller ∙ two in
    c.goes_on-4.ensures.passed ∙ (λ d. accelerated_guard g.T.Item.holds ((c.goes_on-3.ensures.passed
    ∙ (λ d. accelerated_guard g.T.Item.holds ((c.goes_on-2.ensures.passed
    ∙ (λ d. accelerated_guard g.T.Item.holds (c.goes_on.ensures.passed d) (one d))) d) (two d))) d) (three d))

pub returns-clause-reclaimed : goal.returns-clause-reclaimed
returns-clause-reclaimed g c what seen waits = let local = c.args.local.now in
    subst (λ (w : World g.row.T.Denot). IsCleared w what) (sym (returns-clause-passed g c))
    (c.four_guards_reclaim.ensures c.requires.lone local.member.place what seen c.is_whole.ensures.place (c.is_whole.ensures.shut.0 c.requires.shut)
    c.requires.early waits)
