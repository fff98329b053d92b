use Rattle.std.proofs.Common.{◌≡◌, List, [], ◌∙◌, ap, sym, refl, true, false, subst}
use Rattle.sdd_world_model.specs.World.{World}
use Rattle.sdd_space.specs.CallerId.{CallerId, IsExact}
use Rattle.sdd_space.specs.Shared.{cell_of}
use Rattle.sdd_core.specs.declared.tag.Tag.TheVariants.{None as no_tag}
use Rattle.sdd_lists.specs.Lists.{Entry, IsList, trimmed}
use Rattle.sdd_lists.specs.Queue.{QueueCells, cell_emptied}
use Rattle.sdd_lists.proofs.QueuePops.{cleared-queue, emptied-list}
use Rattle.sdd_lists.proofs.pops.clear.Goals as goal

pub returns-in-Ok-clause-exact : goal.returns-in-Ok-clause-exact
returns-in-Ok-clause-exact g c = λ e es second queue none.
    let link = g.T.LinkedList.link in
    let w = g.S.Caller.world c.args.s.now in
    let place = (g.S.Caller.caller c.args.s.now).place in
    let q : QueueCells = record { oldest = cell_of c.args.oldest.now; newest = cell_of c.args.newest.now } in
    let at1 = c.empty_cell.ensures.unmoved.caller in
    let u : World _ = cell_emptied w place q.newest second in
    let made : g.S.Caller.world c.empty_cell.new.s ≡ u = c.empty_cell.ensures.exact e second no_tag queue.newest in
    let in_u = subst (λ (y : World _). IsList link y q.oldest no_tag es) (sym made) (emptied-list link w place q es second queue) in
    let cut = c.in-Ok.ensures.exact (subst (λ (s : CallerId). IsExact s) (sym at1) e) no_tag es in_u in
    let v = g.S.Caller.world c.trim.new.s in
    let made_v : v ≡ trimmed link u place q.oldest no_tag es =
    cut.3 ∙ ap (λ (y : World _). trimmed link y (g.S.Caller.caller c.empty_cell.new.s).place q.oldest no_tag es) made
    ∙ ap (λ (s : CallerId). trimmed link u s.place q.oldest no_tag es) at1 in
    let bare : IsList link v q.oldest no_tag [] = subst (λ (xs : List (Entry _)). IsList link v q.oldest no_tag xs) none cut.2 in
    (refl, record { none = none; world = made_v; queue = cleared-queue link w place q es second queue v made_v bare })

pub returns-in-Err-clause-exact : goal.returns-in-Err-clause-exact
returns-in-Err-clause-exact g c = λ e es second queue none.
    let link = g.T.LinkedList.link in
    let w = g.S.Caller.world c.args.s.now in
    let place = (g.S.Caller.caller c.args.s.now).place in
    let q : QueueCells = record { oldest = cell_of c.args.oldest.now; newest = cell_of c.args.newest.now } in
    let at1 = c.empty_cell.ensures.unmoved.caller in
    let made = c.empty_cell.ensures.exact e second no_tag queue.newest in
    let in_u = subst (λ (y : World _). IsList link y q.oldest no_tag es) (sym made) (emptied-list link w place q es second queue) in
    let cut = c.in-Err.ensures.exact (subst (λ (s : CallerId). IsExact s) (sym at1) e) no_tag es in_u in
    let never : false ≡ true = cut.0 in
    absurd (cc)
