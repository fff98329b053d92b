use Rattle.std.proofs.Common.{◌≡◌, ℕ, ◌∷◌, ◌∙◌, ap, sym, subst}
use Rattle.std.specs.Prelude.{IfOk, IsOk}
use Rattle.sdd_world_model.specs.World.{World}
use Rattle.sdd_space.specs.Ptr.{slot_named}
use Rattle.sdd_space.specs.Shared.{cell_of}
use Rattle.sdd_lists.specs.Behind.{spliced}
use Rattle.sdd_lists.specs.Lists.{IsList, first_slot, left, trimmed}
use Rattle.sdd_lists.specs.Queue.{IsQueue}
use Rattle.sdd_lists.proofs.Ends.{list-ends}
use Rattle.sdd_lists.proofs.LinkedEntries.{trimmed-around, trimmed-queue}
use Rattle.sdd_lists.proofs.linked_list.LinkedList.next_ptr.Goals as goal

pub returns-clause-list : goal.returns-clause-list
returns-clause-list g c = λ e t es list.
    let link = g.Self.LinkedList.link in
    let w = g.S.Caller.world c.args.s.now in
    let new = g.S.Caller.world c.trim.new.s in
    subst (λ (k : ℕ). IsList link w k t es → IsOk c.trim.result × IfOk c.trim.result (λ ptr. slot_named ptr ≡ first_slot (left es)) ×
    IsList link new k t (left es) × (new ≡ trimmed link w (g.S.Caller.caller c.args.s.now).place k t es))
    c.link_ref.ensures.link (c.trim.ensures.exact e t es) list

pub returns-clause-around : goal.returns-clause-around
returns-clause-around g c = λ e cell t es list x rest at is.
    let link = g.Self.LinkedList.link in
    let w = g.S.Caller.world c.args.s.now in
    let new = g.S.Caller.world c.trim.new.s in
    let place = (g.S.Caller.caller c.args.s.now).place in
    let cell_is : cell_of c.link_ref.result.now ≡ link x.value = c.link_ref.ensures.link ∙ ap link (sym is) in
    let inner = list-ends link w es x rest at list.linked in
    let cut = c.trim.ensures.exact e x.tag rest (subst (λ (k : ℕ). IsList link w k x.tag rest) (sym cell_is) inner) in
    let made : new ≡ trimmed link w place (link x.value) x.tag rest = cut.3 ∙ ap (λ (k : ℕ). trimmed link w place k x.tag rest) cell_is in
    let after = subst (λ (k : ℕ). IsList link new k x.tag (left rest)) cell_is cut.2 in
    subst (λ (y : World _). IsList link y cell t (spliced x.slot (x ∷ left rest) es)) (sym made)
    (trimmed-around link w place x rest cell t es list at (subst (λ (y : World _). IsList link y (link x.value) x.tag (left rest)) made after))

pub returns-clause-queue : goal.returns-clause-queue
returns-clause-queue g c = λ e q es second queue x rest at is.
    let link = g.Self.LinkedList.link in
    let w = g.S.Caller.world c.args.s.now in
    let new = g.S.Caller.world c.trim.new.s in
    let place = (g.S.Caller.caller c.args.s.now).place in
    let cell_is : cell_of c.link_ref.result.now ≡ link x.value = c.link_ref.ensures.link ∙ ap link (sym is) in
    let inner = list-ends link w es x rest at queue.list.linked in
    let cut = c.trim.ensures.exact e x.tag rest (subst (λ (k : ℕ). IsList link w k x.tag rest) (sym cell_is) inner) in
    let made : new ≡ trimmed link w place (link x.value) x.tag rest = cut.3 ∙ ap (λ (k : ℕ). trimmed link w place k x.tag rest) cell_is in
    let after = subst (λ (k : ℕ). IsList link new k x.tag (left rest)) cell_is cut.2 in
    subst (λ (y : World _). IsQueue link y q (spliced x.slot (x ∷ left rest) es) second) (sym made)
    (trimmed-queue link w place x rest q es second queue at
    (subst (λ (y : World _). IsList link y (link x.value) x.tag (left rest)) made after))
