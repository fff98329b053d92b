use Rattle.std.proofs.Common.{rules, of_calls, ◌≡◌, ◌++◌, ◌∷◌, [], Bool, true, sym, ap, ◌∙◌, subst, arith}
use denote.Param.Members.{Called}
use Rattle.std.proofs.lemmas.Fn.{FoldsTo-push}
use mathlib.Core.Logic.{dite}
use native.Mathlib.Decide.{dec_lt}
use Rattle.sdd_rights.specs.Right.{number_of}
use Rattle.sdd_domain_steps.specs.Local.{contents_of}
use Rattle.sdd_domain_steps.specs.LocalState.{LocalState, IsLone, cell_word_of}
use Rattle.sdd_domain_core.proofs.local_core.LocalCore.update_tag_if.Goals as goal

pub returns-then-not-condition-clause-once : goal.returns-then-not-condition-clause-once
returns-then-not-condition-clause-once g c = λ lone. let i = c.loop-attempt.invariant in
    let first : c.loop-attempt.condition ≡ c.args.condition = dite (dec_lt 0 c.loop-attempt._attempt) (λ more. absurd (i.others more lone))
    (λ none. i.first (omega arith)) in
    let lone_there = subst (λ (m : LocalState g.row.J.Denot). IsLone m) (sym i.same) lone in
    let finds = c.word_at-word.ensures.found.found lone_there ∙ ap (λ (m : LocalState g.row.J.Denot). cell_word_of m (number_of c.args.cell.now)) i.same in (
      c.raw_ptr_to.result,
      c.raw_ptr_to.ensures ∙ (sym (sym c.contents_in.ensures.contents) ∙ ap contents_of finds),
      search rules,
    )

pub returns-then-retag-clause-once : goal.returns-then-retag-clause-once
returns-then-retag-clause-once g c = λ lone. let i = c.loop-attempt.invariant in
    let first : c.loop-attempt.condition ≡ c.args.condition = dite (dec_lt 0 c.loop-attempt._attempt) (λ more. absurd (i.others more lone))
    (λ none. i.first (omega arith)) in
    let lone_there = subst (λ (m : LocalState g.row.J.Denot). IsLone m) (sym i.same) lone in
    let finds = c.word_at-word.ensures.found.found lone_there ∙ ap (λ (m : LocalState g.row.J.Denot). cell_word_of m (number_of c.args.cell.now)) i.same in (
      c.raw_ptr_to.result,
      c.raw_ptr_to.ensures ∙ (sym (sym c.contents_in.ensures.contents) ∙ ap contents_of finds),
      search rules,
    )

pub returns-then-not-condition-clause-asked : goal.returns-then-not-condition-clause-asked
returns-then-not-condition-clause-asked g c = let i = c.loop-attempt.invariant in
    let ptr = c.raw_ptr_to.result in
    let met : g.F.FnMut.post c.loop-attempt.condition (ptr, tt) c.condition.result = search of_calls in
    let answered = subst (λ (b : Bool). g.F.FnMut.post c.loop-attempt.condition (ptr, tt) b) c.if-not-condition.true met in
    (ptr, (i.went_on.0, c.loop-attempt.condition, i.went_on.1, answered))

pub returns-then-retag-clause-asked : goal.returns-then-retag-clause-asked
returns-then-retag-clause-asked g c = let i = c.loop-attempt.invariant in
    let ptr = c.raw_ptr_to.result in
    let met : g.F.FnMut.post c.loop-attempt.condition (ptr, tt) c.condition.result = search of_calls in
    let answered = subst (λ (b : Bool). g.F.FnMut.post c.loop-attempt.condition (ptr, tt) b) c.if-not-condition.false met in
    (ptr, (i.went_on.0, c.loop-attempt.condition, i.went_on.1, answered))

pub loop-attempt-preserved : goal.loop-attempt-preserved
loop-attempt-preserved g c =
    let i = c.loop-attempt.invariant in let ptr = c.raw_ptr_to.result in
    let met : Called g.F.FnMut c.loop-attempt.condition (ptr, tt) c.condition.result c.condition.new.self = search of_calls in
    let step = subst (λ (b : Bool). Called g.F.FnMut c.loop-attempt.condition (ptr, tt) b c.condition.new.self) c.if-not-condition.false met in record {
      same = search rules;
      callable = search of_calls;
      first = λ none. absurd (omega arith);
      went_on = (i.went_on.0 ++ ptr ∷ [], FoldsTo-push (λ p x q. Called g.F.FnMut p (x, tt) true q) _ _ _ ptr _ i.went_on.1 step);
      others = search rules;
    }
