use Rattle.std.proofs.Common.{Ok, Err, Result, ap, ◌∙◌}
use Rattle.std.specs.Prelude.{IfOk, MatchResult}
use Rattle.sdd_world_model.specs.World.{World}
use Rattle.sdd_participants.specs.Slab.{entry_at}
use Rattle.sdd_domain_core.proofs.Sound.{lone_true}
use Rattle.sdd_examples.proofs.lone.frees_what_is_due.Goals as goal

-- what follows where a call was answered
where_ok : {A B : Type 0} (P G : A → Type 0) (Q : B → Type 0) (r : Result A B) → MatchResult r P Q → ((a : A) → P a → G a) → IfOk r G
where_ok P G Q (Ok a) h to = to a h
where_ok P G Q (Err e) h to = tt

pub returns-clause-freed : goal.returns-clause-freed
returns-clause-freed g c = let local = c.args.local.now in let law = c.runs_jobs_once.ensures c.requires.lone in
    where_ok _ _ _ c.new.result (c.new.ensures.exact (lone_true local.member c.requires.lone))
    (λ guard opens place due. let run = law.runs local.member.place place c.is_whole.ensures.place due in
    (run.0, ap (λ (w : World g.row.T.Denot). entry_at w.jobs place) opens.1 ∙ run.1))

pub returns-clause-kept : goal.returns-clause-kept
returns-clause-kept g c = let local = c.args.local.now in let law = c.runs_jobs_once.ensures c.requires.lone in
    where_ok _ _ _ c.new.result (c.new.ensures.exact (lone_true local.member c.requires.lone))
    (λ guard opens place other. ap (λ (w : World g.row.T.Denot). entry_at w.jobs place) opens.1
    ∙ law.keeps local.member.place place c.is_whole.ensures.place other)
