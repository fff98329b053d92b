use Rattle.std.proofs.Common.{◌≡◌, ◌∙◌, ℕ, ap, sym, rules, refl, subst}
use Rattle.sdd_space.specs.CallerId.{CallerId}
use Rattle.sdd_world_model.specs.World.{World}
use Rattle.sdd_world_model.specs.WorldChanges.{opened, accelerated, closed}
use Rattle.sdd_world_model.specs.WorkingGuards.{PassesWork, Works}
use Rattle.sdd_world.specs.Place.{index_of}
use Rattle.sdd_examples.proofs.work_under_guards.works_under_a_guard.Goals as goal

pub returns-clause-passed : goal.returns-clause-passed
returns-clause-passed g c =
    let h = g.T.Item.holds in let q : ℕ = index_of c.args.place.now in let law = c.calls_are_work.ensures in
    let start = c.args.world.now in let replaced = c.replaced-done.new.s.world.now in let looked = c.looked_at.new.s.world.now in
    let opens = (c.in-Ok.ensures.exact refl).1 ∙ (λ d. opened h (c.at-turn.ensures.world d) (c.at-turn.ensures.place d)) in
    let back : c.at.result.world.now ≡ replaced = search rules in
    let again : c.at-turn-2.result.world.now ≡ looked = search rules in
    let place = ap (λ (s : CallerId). s.place) c.accelerate.ensures.unmoved.caller ∙ c.at-turn-2.ensures.place in
    let ready = c.accelerate.ensures.exact refl ∙ (λ d. accelerated (again d) (c.at-turn-2.ensures.place d)) in
    let closes : c.close.new.s.world.now ≡ closed (accelerated looked q) q = c.close.ensures.exact refl ∙ (λ d. closed (ready d) (place d)) in
    let works = law.following (opened h start q) replaced looked (subst (λ (w : World g.row.T.Denot). Works h w replaced) opens c.replaced-done.ensures.works)
    (subst (λ (w : World g.row.T.Denot). Works h w looked) back c.looked_at.ensures.works) in
    let end : c.world-4-1.given.0 ≡ c.close.new.s.world.now = search rules in
    subst (λ (w : World g.row.T.Denot). PassesWork h q start w) (sym end)
    (c.working_guards_reclaim.ensures.passed q c.requires.place c.requires.quiet c.requires.early c.close.new.s.world.now
    (record { worked = looked; works = works; closes = closes }))
