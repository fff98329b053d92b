use Rattle.std.proofs.Common.{◌∙◌, subst, sym}
use Rattle.sdd_space.specs.CallerId.{CallerId, IsExact}
use Rattle.sdd_space.specs.Owned.{slot_of}
use Rattle.sdd_bench.proofs.Leaving.{two-leave}
use Rattle.sdd_bench.proofs.turns.sights_under.Goals as goal

pub returns-in-Ok-new : goal.returns-in-Ok-new
returns-in-Ok-new g c =
    let one = c.in-Ok.ensures in let other = c.in-Ok-new.ensures in let found = c.sum_found-sum.ensures in
    let first = c.retire.ensures in let second = c.retire-in-Ok-new.ensures in
    let world = g.S.Caller.world in
    two-leave _ _ _ _ _ _ _ _ _ _
    (world c.args.space.now) (world c.new.new.s) (world c.sum_found-sum.new.space) (world c.retire.new.s) (world c.retire-in-Ok-new.new.s)
    (slot_of c.in-Ok.one) (slot_of c.in-Ok-new.other) 1 3
    one.undisturbed.caller one.undisturbed.own one.exact (found.caller ∙ other.undisturbed.caller) (found.own ∙ other.undisturbed.own)
    (λ exact.
    let is = other.exact exact in
    let same = found.exact (subst (λ (s : CallerId). IsExact s) (sym other.undisturbed.caller) exact) in
    (is.0, same ∙ is.1))
    first.unmoved.caller first.own first.exact second.unmoved.caller second.own second.exact
