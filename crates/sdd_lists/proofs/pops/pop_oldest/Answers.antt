use Rattle.std.proofs.Common.{◌≡◌, ℕ, ◌∙◌, sym, ap, refl, List, ◌∷◌, subst}
use Rattle.sdd_world_model.specs.World.{World, standing_at}
use Rattle.sdd_space.specs.CallerId.{IsExact, CallerId}
use Rattle.sdd_space.specs.Shared.{cell_of}
use Rattle.sdd_core.specs.declared.tag.Tag.TheVariants.{None as no_tag}
use Rattle.sdd_participants.specs.declared.standing.CellContents.{CellContents}
use Rattle.sdd_world_model.specs.Slots.{IsSharedBy}
use Rattle.sdd_lists.specs.Lists.{Entry, IsCrowded, first_slot}
use Rattle.sdd_lists.specs.Queue.{IsDequeued, IsQueue, QueueCells}
use Rattle.sdd_lists.proofs.FirstEntries.{head-stays, left-head}
use Rattle.sdd_lists.proofs.MoreWaiting.{grows-not}
use Rattle.sdd_lists.proofs.pops.pop_oldest.Goals as goal

pub returns-in-Ok-clause-exact : goal.returns-in-Ok-clause-exact
returns-in-Ok-clause-exact g c = λ e es second queue.
    let link = g.T.LinkedList.link in
    let w = g.S.Caller.world c.args.s.now in
    let q : QueueCells = record { oldest = cell_of c.args.oldest.now; newest = cell_of c.args.newest.now } in
    let held : CellContents = record { held = first_slot es; tag = no_tag } in
    let found = c.in-Some.ensures.exact e es queue.list.linked held queue.list.begins refl in
    let x : Entry _ = found.0 in
    let rest : List (Entry _) = found.1 in
    let at1 = c.in-Some.ensures.undisturbed.caller in
    let at2 = c.tag.ensures.undisturbed.caller ∙ at1 in
    let tagged = c.tag.ensures.exact (subst (λ (s : CallerId). IsExact s) (sym at1) e) in
    let same : g.S.Caller.world c.tag.new.s ≡ w = tagged.0 ∙ c.in-Some.ensures.world e in
    let queue_x : IsQueue link w q (x ∷ rest) second = subst (λ (xs : List (Entry _)). IsQueue link w q xs second) found.2 queue in
    let cell_is : cell_of c.in-Some.front.link.now ≡ link x.value = c.in-Some.ensures.link ∙ ap link found.4 in
    let stays = head-stays link w (g.S.Caller.world c.first_in.new.s) q.oldest no_tag x rest queue_x.list (cell_of c.in-Some.front.link.now) cell_is
    (c.in-Some.ensures.world e) tagged.1.0 tagged.1.1 c.tag.result tagged.1.2 c.in_default-tag.not-Second in
    let here = subst (λ (y : World _). IsQueue link y q (x ∷ rest) second) (sym same) queue_x in
    let shared = subst (λ (y : World _). (n : ℕ) × IsSharedBy n (standing_at y x.slot)) (sym same) found.5 in
    let new = g.S.Caller.world c.take_head_of_queue.new.s in
    let taken = c.in-Ok.ensures.exact (subst (λ (s : CallerId). IsExact s) (sym at2) e) x rest second here stays found.3 cell_is shared in (
      x,
      rest,
      left-head es x rest found.2 stays,
      subst (λ (xs : List (Entry _)). IsDequeued link w (g.S.Caller.caller c.args.s.now).place q xs second x rest c.in-Ok.owner new) (sym found.2)
          (subst (λ (s : CallerId). IsDequeued link w s.place q (x ∷ rest) second x rest c.in-Ok.owner new) at2
          (subst (λ (y : World _). IsDequeued link y (g.S.Caller.caller c.tag.new.s).place q (x ∷ rest) second x rest c.in-Ok.owner new) same taken)),
    )

pub returns-in-Err-clause-exact : goal.returns-in-Err-clause-exact
returns-in-Err-clause-exact g c = λ e es second queue.
    let link = g.T.LinkedList.link in
    let w = g.S.Caller.world c.args.s.now in
    let q : QueueCells = record { oldest = cell_of c.args.oldest.now; newest = cell_of c.args.newest.now } in
    let held : CellContents = record { held = first_slot es; tag = no_tag } in
    let found = c.in-Some.ensures.exact e es queue.list.linked held queue.list.begins refl in
    let x : Entry _ = found.0 in
    let rest : List (Entry _) = found.1 in
    let at1 = c.in-Some.ensures.undisturbed.caller in
    let at2 = c.tag.ensures.undisturbed.caller ∙ at1 in
    let tagged = c.tag.ensures.exact (subst (λ (s : CallerId). IsExact s) (sym at1) e) in
    let same : g.S.Caller.world c.tag.new.s ≡ w = tagged.0 ∙ c.in-Some.ensures.world e in
    let queue_x : IsQueue link w q (x ∷ rest) second = subst (λ (xs : List (Entry _)). IsQueue link w q xs second) found.2 queue in
    let cell_is : cell_of c.in-Some.front.link.now ≡ link x.value = c.in-Some.ensures.link ∙ ap link found.4 in
    let stays = head-stays link w (g.S.Caller.world c.first_in.new.s) q.oldest no_tag x rest queue_x.list (cell_of c.in-Some.front.link.now) cell_is
    (c.in-Some.ensures.world e) tagged.1.0 tagged.1.1 c.tag.result tagged.1.2 c.in_default-tag.not-Second in
    let here = subst (λ (y : World _). IsQueue link y q (x ∷ rest) second) (sym same) queue_x in
    let shared = subst (λ (y : World _). (n : ℕ) × IsSharedBy n (standing_at y x.slot)) (sym same) found.5 in
    let crowded = c.in-Err.ensures.exact (subst (λ (s : CallerId). IsExact s) (sym at2) e) x rest second here stays found.3 cell_is shared in (
      x,
      rest,
      left-head es x rest found.2 stays,
      subst (λ (y : World _). IsCrowded y x c.in-Err.refused (g.S.Caller.world c.take_head_of_queue.new.s)) same crowded,
    )

pub returns-in-Ok-clause-own : goal.returns-in-Ok-clause-own
returns-in-Ok-clause-own g c = λ start grown.
    c.in-Ok.ensures.own start
    (grows-not (g.S.Caller.own c.args.s.now) _ (c.tag.ensures.undisturbed.own ∙ c.in-Some.ensures.undisturbed.own) start grown)

pub returns-in-Err-clause-own : goal.returns-in-Err-clause-own
returns-in-Err-clause-own g c = λ start grown.
    c.in-Err.ensures.own start
    (grows-not (g.S.Caller.own c.args.s.now) _ (c.tag.ensures.undisturbed.own ∙ c.in-Some.ensures.undisturbed.own) start grown)
