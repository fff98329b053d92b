use Rattle.std.proofs.Common.{◌∙◌, subst, sym}
use Rattle.sdd_space.specs.CallerId.{CallerId, IsExact}
use Rattle.sdd_space.specs.Owned.{slot_of}
use Rattle.sdd_bench.proofs.Leaving.{item-leaves, two-leave}
use Rattle.sdd_bench.proofs.turns.looks.Goals as goal

pub returns-in-Ok-new : goal.returns-in-Ok-new
returns-in-Ok-new g c =
    let one = c.in-Ok.ensures in let other = c.in-Ok-new.ensures in let first = c.retire.ensures in let second = c.retire-in-Ok-new.ensures in
    let world = g.S.Caller.world in
    two-leave _ _ _ _ _ _ _ _ _ _
    (world c.args.space.now) (world c.new.new.s) (world c.new-2.new.s) (world c.retire.new.s) (world c.retire-in-Ok-new.new.s)
    (slot_of c.in-Ok.one) (slot_of c.in-Ok-new.other) 1 3
    one.undisturbed.caller one.undisturbed.own one.exact other.undisturbed.caller other.undisturbed.own other.exact
    first.unmoved.caller first.own first.exact second.unmoved.caller second.own second.exact

pub returns-in-Err-new : goal.returns-in-Err-new
returns-in-Err-new g c =
    let one = c.in-Ok.ensures in let none = c.in-Err-new.ensures in let last = c.retire-in-Err-new.ensures in
    let world = g.S.Caller.world in
    item-leaves _ _ _ _ _ _ (world c.args.space.now) (world c.new-2.new.s) (world c.retire-in-Err-new.new.s) (slot_of c.in-Ok.one) 1
    (none.undisturbed.caller ∙ one.undisturbed.caller) (none.undisturbed.own ∙ one.undisturbed.own)
    (λ exact.
    let is = one.exact exact in
    let same = (none.exact (subst (λ (s : CallerId). IsExact s) (sym one.undisturbed.caller) exact)).2 in
    (is.0, same ∙ is.1))
    last.unmoved.caller last.own last.exact
