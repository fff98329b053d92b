use Rattle.std.proofs.Common.{arith}
use Rattle.sdd_machine.proofs.Gather.{fits_new, new_seen}
use Rattle.sdd_machine.proofs.machine.Machine.new.Goals as goal

pub invariant_of-result : goal.invariant_of-result
invariant_of-result c =
    let posts = c.in_ok-vec.ensures.items_if_clones_equal (λ y e. e) in
    let retired = c.in_ok-vec-2.ensures.items_if_clones_equal (λ y e. e) in
    fits_new c.args.places c.args.items c.in_ok-vec.field-0.items c.in_ok-vec-2.field-0.items
    c.in_ok-new.field-0 posts retired c.in_ok-new.ensures (omega arith)

pub returns-clause-machine : goal.returns-clause-machine
returns-clause-machine c =
    let posts = c.in_ok-vec.ensures.items_if_clones_equal (λ y e. e) in
    let retired = c.in_ok-vec-2.ensures.items_if_clones_equal (λ y e. e) in
    new_seen c.args.places c.args.items c.in_ok-vec.field-0.items c.in_ok-vec-2.field-0.items c.in_ok-new.field-0 posts retired c.in_ok-new.ensures
