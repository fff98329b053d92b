use Rattle.sdd_script.proofs.Words.{◌≡◌, ◌∙◌, ℕ, ap, refl, retired, state_of, index_of, with_standing, Val, World, Owned}
use Rattle.sdd_script.proofs.ScriptEnd.{ends-raw, goes-same, gone-raw, live-in, not-raw}
use Rattle.sdd_script.proofs.acts.leaving.give_up_raw_item.Goals as goal

pub at-requires-clause-place : goal.at-requires-clause-place
at-requires-clause-place c = live-in c.args.environment.now _ c.requires

pub at-requires-in-Some-clause-place : goal.at-requires-in-Some-clause-place
at-requires-in-Some-clause-place c = rw c.in-Some.ensures.done.1.1 (live-in c.args.environment.now _ c.requires)

pub at-requires-in-Some-clause-asked : goal.at-requires-in-Some-clause-asked
at-requires-in-Some-clause-asked c = rw c.in-Some.ensures.done.1.1 c.in-Some.ensures.done.0.1

pub returns-in-Some : goal.returns-in-Some
returns-in-Some c =
    let h = c.args.environment.now in
    let p = index_of c.args.place.now in
    let done = c.in-Some.ensures.done in
    let world : c.at-in-Some.new.world ≡ retired (with_standing h.world c.args.slot Owned) p c.args.slot =
    c.at-in-Some.ensures.done.0
    ∙ ap (λ (k : ℕ). retired c.at.new.world p k) done.0.0
    ∙ ap (λ (w : World Val). retired w p c.args.slot) done.1.1 in
    record {
      goes = ends-raw h p c.requires c.is_whole.ensures c.at-in-Some.new.world c.args.slot done.1.0 world;
      gone = rw world (gone-raw h.world p c.args.slot done.1.0);
      others = λ k not. rw world (not-raw h.world p c.args.slot k not);
      rest = refl;
    }

pub returns-in_default : goal.returns-in_default
returns-in_default c =
    let h = c.args.environment.now in
    let done = c.in_default.ensures.done.1 in
    record {
      goes = goes-same h _ c.requires (record h { world = c.at.new.world }) (ap (λ (w : World Val). state_of (record h { world = w })) done.1);
      gone = rw done.1 done.0;
      others = λ k not. rw done.1 not;
      rest = refl;
    }
