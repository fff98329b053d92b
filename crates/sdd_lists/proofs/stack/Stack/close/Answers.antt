use Rattle.std.proofs.Common.{ℕ, ◌∙◌, ap, sym, Option, subst}
use Rattle.sdd_world_model.specs.World.{World}
use Rattle.sdd_space.specs.CallerId.{CallerId, IsExact}
use Rattle.sdd_world_model.specs.WorldChanges.{held_in, spilled, without_cell}
use Rattle.sdd_core.specs.declared.tag.Tag.TheVariants.{None as no_tag}
use Rattle.sdd_participants.specs.declared.standing.CellContents.{CellContents}
use Rattle.sdd_lists.specs.Stack.{cell_in}
use Rattle.sdd_lists.proofs.MoreWaiting.{grows-spilled}
use Rattle.sdd_lists.proofs.stack.Stack.close.Goals as goal

pub returns-clause-list : goal.returns-clause-list
returns-clause-list g c = λ e es list.
    let cell : ℕ = cell_in c.args.self in
    let gone = c.let_go_of_all.ensures.exact e no_tag es list in
    let u = g.S.Caller.world c.let_go_of_all.new.s in
    let place = (g.S.Caller.caller c.let_go_of_all.new.s).place in
    c.close.ensures.exact (subst (λ (s : CallerId). IsExact s) (sym c.let_go_of_all.ensures.unmoved.caller) e)
    ∙ ap (λ (x : Option CellContents). spilled (without_cell u cell) place (held_in x)) gone.0.begins
    ∙ ap (λ (x : World _). without_cell x cell) gone.1

pub returns-clause-own : goal.returns-clause-own
returns-clause-own g c = λ start grown. grows-spilled _ _ c.close.ensures.own start (c.let_go_of_all.ensures.own start grown)
