use Rattle.std.proofs.Common.{◌≡◌, ◌∙◌, ap, sym, Option, subst}
use Rattle.sdd_world_model.specs.World.{World}
use Rattle.sdd_space.specs.CallerId.{CallerId, IsExact}
use Rattle.sdd_world_model.specs.WorldChanges.{held_in, spilled, without_cell}
use Rattle.sdd_core.specs.declared.tag.Tag.TheVariants.{None as no_tag}
use Rattle.sdd_participants.specs.declared.standing.CellContents.{CellContents}
use Rattle.sdd_lists.specs.Entries.{link_of}
use Rattle.sdd_lists.specs.Lists.{IsList, emptied}
use Rattle.sdd_lists.specs.Queue.{QueueCells, cells_in}
use Rattle.sdd_lists.proofs.MoreWaiting.{grows-spilled}
use Rattle.sdd_lists.proofs.QueuePops.{list-without, spilled-cells, spilled-values}
use Rattle.sdd_lists.proofs.queue.Queue.close.Goals as goal

pub returns-clause-own : goal.returns-clause-own
returns-clause-own g c = λ start grown.
    grows-spilled _ _ c.close-2.ensures.own start (c.let_go_of_all.ensures.own start (grows-spilled _ _ c.close.ensures.own start grown))

pub returns-clause-list : goal.returns-clause-list
returns-clause-list g c = λ e es second queue.
    let w = g.S.Caller.world c.args.s.now in
    let place = (g.S.Caller.caller c.args.s.now).place in
    let q : QueueCells = cells_in c.args.self in
    let at1 = c.close.ensures.unmoved.caller in
    let at2 = c.let_go_of_all.ensures.unmoved.caller ∙ at1 in
    let u : World _ = spilled (without_cell w q.newest) place second in
    let world_u : g.S.Caller.world c.close.new.s ≡ u =
    c.close.ensures.exact e ∙ ap (λ (x : Option CellContents). spilled (without_cell w q.newest) place (held_in x)) queue.newest in
    let in_u : IsList link_of u q.oldest no_tag es =
    list-without link_of w u q.oldest no_tag es q.newest (spilled-cells (without_cell w q.newest) place second)
    (spilled-values (without_cell w q.newest) place second) queue.two queue.apart queue.list in
    let here = subst (λ (y : World _). IsList link_of y q.oldest no_tag es) (sym world_u) in_u in
    let gone = c.let_go_of_all.ensures.exact (subst (λ (s : CallerId). IsExact s) (sym at1) e) no_tag es here in
    let v = g.S.Caller.world c.let_go_of_all.new.s in
    let place2 = (g.S.Caller.caller c.let_go_of_all.new.s).place in
    let world_v : v ≡ emptied link_of u place q.oldest no_tag es =
    gone.1 ∙ ap (λ (y : World _). emptied link_of y (g.S.Caller.caller c.close.new.s).place q.oldest no_tag es) world_u
    ∙ ap (λ (s : CallerId). emptied link_of u s.place q.oldest no_tag es) at1 in
    c.close-2.ensures.exact (subst (λ (s : CallerId). IsExact s) (sym at2) e)
    ∙ ap (λ (x : Option CellContents). spilled (without_cell v q.oldest) place2 (held_in x)) gone.0.begins
    ∙ ap (λ (y : World _). without_cell y q.oldest) world_v
