use Rattle.std.proofs.Common.{sym, subst}
use Rattle.sdd_world_model.specs.World.{World, AnyGuardOpen}
use Rattle.sdd_examples.proofs.lone.goes_on.Goals as goal

pub returns-clause-shut : goal.returns-clause-shut
returns-clause-shut g c = let before = c.is_whole.ensures.shut.0 c.requires.shut in
    let passes = c.accelerated_guards_pass.ensures c.args.local.now.member.place c.is_whole.ensures.place before in
    c.is_whole-2.ensures.shut.1 (subst (λ (w : World g.row.T.Denot). ¬ (AnyGuardOpen w)) (sym c.accelerated.ensures.passed) passes.quiet)
