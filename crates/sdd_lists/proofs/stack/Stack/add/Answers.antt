use Rattle.std.proofs.Common.{◌∙◌, Some, ap, refl, sym, subst}
use Rattle.sdd_space.specs.CallerId.{CallerId, IsExact}
use Rattle.sdd_world_model.specs.World.{standing_at}
use Rattle.sdd_world_model.specs.WorldChanges.{owner_given}
use Rattle.sdd_space.specs.Shared.{slot_of}
use Rattle.sdd_lists.specs.Stack.{cell_in}
use Rattle.sdd_lists.proofs.Filling.{added}
use Rattle.sdd_lists.proofs.MovedOwners.{given-some}
use Rattle.sdd_lists.proofs.stack.Stack.add.Goals as goal

pub returns-in-Ok-clause-list : goal.returns-in-Ok-clause-list
returns-in-Ok-clause-list g c = λ e es list.
    let u = g.S.Caller.world c.push.new.s in
    let new = g.S.Caller.world c.give_up.new.s in
    let owner = c.in-Ok.owner in
    let at = c.in-Ok.ensures.unmoved.caller in
    let given = given-some u new (g.S.Caller.caller c.push.new.s).place (Some owner) (slot_of owner) refl
    (c.give_up.ensures.exact (subst (λ (s : CallerId). IsExact s) (sym at) e)) in
    added (g.S.Caller.world c.args.s.now) u new (g.S.Caller.caller c.args.s.now).place (cell_in c.args.self.now) es c.args.value owner
    (c.in-Ok.ensures.list e es list) (given ∙ ap (λ (s : CallerId). owner_given u s.place (slot_of owner) (standing_at u (slot_of owner))) at)
