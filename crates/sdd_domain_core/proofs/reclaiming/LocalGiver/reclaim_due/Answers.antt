use Rattle.std.proofs.Common.{◌∷◌, [], rules, ap, ◌∙◌}
use Rattle.sdd_participants.specs.declared.waiting.LimboEntry.{LimboEntry}
use Rattle.sdd_domain_steps.specs.Local.{LocalModel}
use Rattle.sdd_domain_steps.specs.LocalState.{LocalState}
use Rattle.sdd_domain_steps.specs.WaitingItems.{items_in}
use Rattle.sdd_domain_core.proofs.CountedGone.{counts_more, items_first}
use Rattle.sdd_domain_core.proofs.reclaiming.LocalGiver.reclaim_due.Goals as goal

pub reclaim_first-requires-clause-closes : goal.reclaim_first-requires-clause-closes
reclaim_first-requires-clause-closes g c = ap (λ (z : LocalModel g.row.T.Denot g.row.J.Denot). z.member.slots.closes) c.loop-what.invariant.rest
    ∙ c.requires.closes

pub loop-what-preserved : goal.loop-what-preserved
loop-what-preserved g c = let old : LocalState _ = c.args.self.now.member in let new : LocalState _ = c.reclaim_first.new.self.member in
    let what : LimboEntry = c.in-Some.what in let e = c.reclaim_first.ensures in record {
      own = search rules;
      none = search rules;
      known = search rules;
      rest = search rules;
      counted = counts_more (items_in old.due) (items_in c.loop-what.self.member.due) (items_in (what ∷ [])) (items_in new.due) old c.loop-what.self.member new
          c.loop-what.invariant.counted e.counted
          (λ one. ap (λ (z : LocalModel g.row.T.Denot g.row.J.Denot). z.member.limits.participants) c.loop-what.invariant.rest ∙ one)
          (ap items_in e.first ∙ items_first what new.due);
      jobs = search rules;
      exact = search rules;
    }
