use Rattle.std.proofs.Common.{rules, of_calls, ◌≡◌, ◌++◌, ◌∷◌, [], Option, Some, subst, arith}
use denote.Param.Members.{Called}
use Rattle.std.proofs.lemmas.Fn.{FoldsTo-push}
use Rattle.sdd_space.specs.declared.raw_ptr.RawPtr.{RawPtr}
use mathlib.Core.Logic.{dite}
use native.Mathlib.Decide.{dec_lt}
use Rattle.sdd_domain_core.proofs.local_core.LocalCore.fetch_update_raw.Goals as goal

pub returns-then-is_ok-clause-once : goal.returns-then-is_ok-clause-once
returns-then-is_ok-clause-once g c = λ lone. let i = c.loop-attempt.invariant in
    let first : c.loop-attempt.f ≡ c.args.f = dite (dec_lt 0 c.loop-attempt._attempt) (λ more. absurd (i.others more lone))
    (λ none. i.first (omega arith)) in
    (c.in-Some.next, search rules, search rules)

pub returns-then-is_ok-clause-asked : goal.returns-then-is_ok-clause-asked
returns-then-is_ok-clause-asked g c =
    let i = c.loop-attempt.invariant in let was = c.raw_ptr_of-was.result in let met : g.F.FnMut.post c.loop-attempt.f (was, tt) c.f.result = search of_calls in
    let answered = subst (λ (o : Option (RawPtr _)). g.F.FnMut.post c.loop-attempt.f (was, tt) o) c.in-Some.is met in
    (c.in-Some.next, (i.went_on.0, c.loop-attempt.f, i.went_on.1, answered))

pub loop-attempt-preserved : goal.loop-attempt-preserved
loop-attempt-preserved g c =
    let i = c.loop-attempt.invariant in let was = c.raw_ptr_of-was.result in
    let met : Called g.F.FnMut c.loop-attempt.f (was, tt) c.f.result c.f.new.self = search of_calls in
    let step = subst (λ (o : Option (RawPtr _)). Called g.F.FnMut c.loop-attempt.f (was, tt) o c.f.new.self) c.in-Some.is met in record {
      same = search rules;
      callable = search of_calls;
      first = λ none. absurd (omega arith);
      went_on = (
        i.went_on.0 ++ was ∷ [],
        FoldsTo-push (λ p x q. (r : RawPtr _) × Called g.F.FnMut p (x, tt) (Some r) q) _ _ _ was _ i.went_on.1 (c.in-Some.next, step),
      );
      others = search rules;
    }
