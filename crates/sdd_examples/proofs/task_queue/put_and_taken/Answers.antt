use Rattle.std.proofs.Common.{◌≡◌, ◌∷◌, [], Some, ◌∙◌, sym, subst}
use Rattle.sdd_space.specs.CallerId.{CallerId, IsExact}
use Rattle.sdd_examples.proofs.task_queue.put_and_taken.Goals as goal

pub returns-clause-in_order : goal.returns-clause-in_order
returns-clause-in_order g c = λ e none.
    let at1 = c.put.ensures.caller in
    let at2 = c.put-2.ensures.caller ∙ at1 in
    let at3 = c.take.ensures.caller ∙ at2 in
    let one = c.in_ok-put.ensures.tasks e [] none in
    let two = c.in_ok-put-2.ensures.tasks (subst (λ (s : CallerId). IsExact s) (sym at1) e) (c.args.first ∷ []) one in
    let three = c.in_ok-one.ensures.tasks (subst (λ (s : CallerId). IsExact s) (sym at2) e) (c.args.first ∷ c.args.second ∷ []) two in
    let four = c.in_ok-other.ensures.tasks (subst (λ (s : CallerId). IsExact s) (sym at3) e) (c.args.second ∷ []) three.1 in
    let first : c.in_ok-one.one ≡ Some c.args.first = three.0 in
    let second : c.in_ok-other.other ≡ Some c.args.second = four.0 in
    cc
