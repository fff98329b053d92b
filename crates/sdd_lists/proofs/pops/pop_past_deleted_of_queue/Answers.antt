use Rattle.std.proofs.Common.{◌≡◌, ℕ, ◌∙◌, ap, sym, refl, List, true, false, subst}
use Rattle.sdd_world_model.specs.World.{World, standing_at}
use Rattle.sdd_space.specs.CallerId.{IsExact, CallerId}
use Rattle.sdd_space.specs.Shared.{cell_of}
use Rattle.sdd_core.specs.declared.tag.Tag.TheVariants.{None as no_tag}
use Rattle.sdd_participants.specs.declared.standing.CellContents.{CellContents}
use Rattle.sdd_world_model.specs.Slots.{IsSharedBy}
use Rattle.sdd_lists.specs.Lists.{Entry, IsCrowded, first_slot}
use Rattle.sdd_lists.specs.Queue.{IsCleared, IsDequeued, IsQueue, QueueCells}
use Rattle.sdd_lists.proofs.MoreWaiting.{grows-not}
use Rattle.sdd_lists.proofs.pops.pop_past_deleted_of_queue.Goals as goal

pub returns-in-Ok-clause-own : goal.returns-in-Ok-clause-own
returns-in-Ok-clause-own g c = λ start grown.
    c.in-Ok.ensures.own start (grows-not (g.S.Caller.own c.args.s.now) _ c.in-Ok-Some.ensures.undisturbed.own start grown)

pub returns-in-Ok-clause-exact : goal.returns-in-Ok-clause-exact
returns-in-Ok-clause-exact g c = λ e es second queue.
    let link = g.T.LinkedList.link in
    let w = g.S.Caller.world c.args.s.now in
    let q : QueueCells = record { oldest = cell_of c.args.oldest.now; newest = cell_of c.args.newest.now } in
    let held : CellContents = record { held = first_slot es; tag = no_tag } in
    let at_find = c.in-Ok-Some.ensures.undisturbed.caller in
    let same = c.in-Ok-Some.ensures.world e in
    let found = rw c.in-Ok-Some.field-0-is at (c.in-Ok-Some.ensures.exact e es queue.list.linked held queue.list.begins refl) in
    let x : Entry _ = found.0 in
    let rest : List (Entry _) = found.1 in
    let linked = rw c.in-Ok-Some.field-0-is at c.in-Ok-Some.ensures.link in
    let cell_is : cell_of c.in-Ok-Some.front.link.now ≡ link x.value = linked ∙ ap link found.4 in
    let ex : IsExact (g.S.Caller.caller c.find_first.new.s) = subst (λ (s : CallerId). IsExact s) (sym at_find) e in
    let here = subst (λ (y : World _). IsQueue link y q es second) (sym same) queue in
    let shared = subst (λ (y : World _). (n : ℕ) × IsSharedBy n (standing_at y x.slot)) (sym same) found.5 in
    let new = g.S.Caller.world c.take_oldest.new.s in
    let taken = c.in-Ok.ensures.exact ex es second here x rest found.2 found.3 cell_is shared in (
      x,
      rest,
      found.2,
      subst (λ (s : CallerId). IsDequeued link w s.place q es second x rest c.in-Ok.owner new) at_find
          (subst (λ (y : World _). IsDequeued link y (g.S.Caller.caller c.find_first.new.s).place q es second x rest c.in-Ok.owner new) same taken),
    )

pub returns-in-Err-take_oldest-clause-exact : goal.returns-in-Err-take_oldest-clause-exact
returns-in-Err-take_oldest-clause-exact g c = λ e es second queue.
    let link = g.T.LinkedList.link in
    let q : QueueCells = record { oldest = cell_of c.args.oldest.now; newest = cell_of c.args.newest.now } in
    let held : CellContents = record { held = first_slot es; tag = no_tag } in
    let at_find = c.in-Ok-Some.ensures.undisturbed.caller in
    let same = c.in-Ok-Some.ensures.world e in
    let found = rw c.in-Ok-Some.field-0-is at (c.in-Ok-Some.ensures.exact e es queue.list.linked held queue.list.begins refl) in
    let x : Entry _ = found.0 in
    let rest : List (Entry _) = found.1 in
    let linked = rw c.in-Ok-Some.field-0-is at c.in-Ok-Some.ensures.link in
    let cell_is : cell_of c.in-Ok-Some.front.link.now ≡ link x.value = linked ∙ ap link found.4 in
    let ex : IsExact (g.S.Caller.caller c.find_first.new.s) = subst (λ (s : CallerId). IsExact s) (sym at_find) e in
    let here = subst (λ (y : World _). IsQueue link y q es second) (sym same) queue in
    let shared = subst (λ (y : World _). (n : ℕ) × IsSharedBy n (standing_at y x.slot)) (sym same) found.5 in
    let crowded = c.in-Err-take_oldest.ensures.exact ex es second here x rest found.2 found.3 cell_is shared in (
      x,
      rest,
      found.2,
      subst (λ (y : World _). IsCrowded y x c.in-Err-take_oldest.refused (g.S.Caller.world c.take_oldest.new.s)) same crowded,
    )

pub returns-in-Ok-clear-clause-exact : goal.returns-in-Ok-clear-clause-exact
returns-in-Ok-clear-clause-exact g c = λ e es second queue.
    let link = g.T.LinkedList.link in
    let w = g.S.Caller.world c.args.s.now in
    let q : QueueCells = record { oldest = cell_of c.args.oldest.now; newest = cell_of c.args.newest.now } in
    let held : CellContents = record { held = first_slot es; tag = no_tag } in
    let at_find = c.in-Ok-None.ensures.undisturbed.caller in
    let same = c.in-Ok-None.ensures.world e in
    let none = rw c.in-Ok-None.field-0-is at (c.in-Ok-None.ensures.exact e es queue.list.linked held queue.list.begins refl) in
    let ex : IsExact (g.S.Caller.caller c.find_first.new.s) = subst (λ (s : CallerId). IsExact s) (sym at_find) e in
    let here = subst (λ (y : World _). IsQueue link y q es second) (sym same) queue in
    let new = g.S.Caller.world c.clear.new.s in
    let cleared = c.in-Ok-clear.ensures.exact ex es second here none in
    subst (λ (s : CallerId). IsCleared link w s.place q es second new) at_find
    (subst (λ (y : World _). IsCleared link y (g.S.Caller.caller c.find_first.new.s).place q es second new) same cleared.1)

pub returns-in-Err-clear-clause-exact : goal.returns-in-Err-clear-clause-exact
returns-in-Err-clear-clause-exact g c = λ e es second queue.
    let link = g.T.LinkedList.link in
    let w = g.S.Caller.world c.args.s.now in
    let q : QueueCells = record { oldest = cell_of c.args.oldest.now; newest = cell_of c.args.newest.now } in
    let held : CellContents = record { held = first_slot es; tag = no_tag } in
    let at_find = c.in-Ok-None.ensures.undisturbed.caller in
    let same = c.in-Ok-None.ensures.world e in
    let none = rw c.in-Ok-None.field-0-is at (c.in-Ok-None.ensures.exact e es queue.list.linked held queue.list.begins refl) in
    let ex : IsExact (g.S.Caller.caller c.find_first.new.s) = subst (λ (s : CallerId). IsExact s) (sym at_find) e in
    let here = subst (λ (y : World _). IsQueue link y q es second) (sym same) queue in
    let cleared = c.in-Err-clear.ensures.exact ex es second here none in
    let never : false ≡ true = cleared.0 in
    absurd (cc)

pub returns-in-Err-clause-exact : goal.returns-in-Err-clause-exact
returns-in-Err-clause-exact g c = λ e es second queue.
    let held : CellContents = record { held = first_slot es; tag = no_tag } in
    absurd (c.in-Err.ensures.exact e es queue.list.linked held queue.list.begins refl)
