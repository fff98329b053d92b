use Rattle.sdd_script.proofs.Words.{◌≡◌, arith, rules, List, ℕ, subst, sym, At, state_of, Does, invalid, IsNonDecreasing, IsPermutation, IsNonDecreasingBy-from_sort, ◌∙◌, Some, length-append, primary_of, overflow_of, with_dates}
use Rattle.sdd_script_text.specs.Actions as call
use Rattle.sdd_script_text.specs.declared.answer.Reply.TheVariants as reply
use Rattle.sdd_script.proofs.BagActs.{acts-drained, no-bag, put-so}
use Rattle.sdd_script.proofs.StackActs.{AreTold}
use Rattle.sdd_script.proofs.ContainerActs.{reader-is}
use Rattle.sdd_script.proofs.acts.bags.drain.Goals as goal

pub returns-in_default : goal.returns-in_default
returns-in_default c = record {
  acts = rw (← c.interpreter.view_is) (invalid _ _ _ (λ valid. c.in_default.ensures.valid valid.0));
}

pub returns-in_default-get : goal.returns-in_default-get
returns-in_default-get c = record {
  acts = rw (← c.interpreter.view_is) (invalid _ _ _ (λ valid. no-bag c.interpreter.inside.environment c.args.bag.0 c.in_default-get.ensures valid.1));
}

pub at-taken-requires-clause-asked : goal.at-taken-requires-clause-asked
at-taken-requires-clause-asked c =
    let both : Some c.in-Some-get.its.now ≡ Some c.in-Some-take.taken = c.in-Some-get.ensures ∙ sym c.in-Some-take.ensures.taken in
    let same : c.in-Some-get.its.now ≡ c.in-Some-take.taken = cc in
    let all = length-append (primary_of c.in-Some-get.its.now) (overflow_of c.in-Some-get.its.now) in (
      search rules,
      reader-is c.interpreter.inside.environment c.interpreter.invariant c.args.guard.0 _ _ c.in-Some.ensures.found.1 c.in-Some.ensures.found.2,
      search rules,
      search rules,
      rw (← same) (omega (arith, all, c.len.ensures, c.in-Ok.ensures.1, c.in_ok-room.ensures.capacity)),
    )

drained : (c : goal.After-drop-waited) → Does (state_of c.interpreter.inside.environment) (At c.args.name (call.Drain c.args.bag c.args.guard))
    (reply.Numbers c.of.result)
    (record (with_dates c.interpreter.inside.environment c.date_new.new.dates)
    { world = c.at-taken.new.world; lists = record c.interpreter.inside.environment.lists { bags = c.put_back.new.self } })
drained c =
    let h = c.interpreter.inside.environment in let bag = c.at-taken.result.0 in let numbers = c.at-taken.result.1.items in
    let did = c.at-taken.ensures.done.1 in
    let put = put-so h.lists.bags.entries.items c.take.new.self.entries.items c.put_back.new.self.entries.items c.args.bag.0 bag c.in-Some-take.ensures.spent
    c.put_back.ensures.back in
    let told_so : AreTold c.interpreter.inside.environment c.in_ok-waited.waited.items = c.in_ok-waited.ensures.each in
    acts-drained h c.interpreter.invariant c.is_whole.ensures c.args.name _ c.in-Some.ensures.found.0 c.args.bag _ c.in-Some-take.ensures.taken bag did.cells
    c.put_back.new.self.entries put c.at-taken.new.world c.at-taken.ensures.done.0 c.args.guard c.in-Some.ensures.valid
    c.in_ok-waited.waited.items told_so c.date_new.new.dates (rw c.as_slice.ensures.value at c.date_new.ensures.dated, c.date_new.ensures.long) numbers
    c.of.result did (subst (λ (xs : List ℕ). IsPermutation numbers xs) (sym c.of.ensures) c.sort_unstable.ensures.permutation)
    (subst (λ (xs : List ℕ). IsNonDecreasing xs) (sym c.of.ensures)
    (IsNonDecreasingBy-from_sort (λ x. x) c.sort_unstable.new.self.items c.sort_unstable.ensures.sorted))

pub invariant_of-interpreter : goal.invariant_of-interpreter
invariant_of-interpreter c = (drained c).0

pub returns : goal.returns
returns c = record { acts = rw (← c.interpreter.view_is) (drained c).1 }
