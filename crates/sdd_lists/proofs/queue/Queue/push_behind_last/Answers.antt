use Rattle.std.proofs.Common.{◌≡◌, ◌⊎◌, sym, subst}
use Rattle.std.specs.Prelude.{IfErr, IfOk}
use Rattle.sdd_world_model.specs.World.{World}
use Rattle.sdd_space.specs.CallerId.{CallerId, IsExact}
use Rattle.sdd_core.specs.declared.refused.Refused.TheVariants.{NoCell, NoSlot}
use Rattle.sdd_participants.specs.Slab.{IsFull}
use Rattle.sdd_lists.specs.Entries.{link_of}
use Rattle.sdd_lists.specs.Queue.{IsQueue, PushesBehind, QueueCells, cells_in}
use Rattle.sdd_lists.proofs.MoreWaiting.{grows-not}
use Rattle.sdd_lists.proofs.Values.{pushed-answer}
use Rattle.sdd_lists.proofs.queue.Queue.push_behind_last.Goals as goal

pub returns-in-Ok-clause-list : goal.returns-in-Ok-clause-list
returns-in-Ok-clause-list g c = λ e es second queue.
    let q : QueueCells = cells_in c.args.self.now in
    let new = g.S.Caller.world c.push_behind.new.s in
    let at1 = c.in-Ok.ensures.undisturbed.caller in
    let ex1 = subst (λ (s : CallerId). IsExact s) (sym at1) e in
    let same = c.in-Ok.ensures.world e in
    let here = subst (λ (y : World _). IsQueue link_of y q es second) (sym same) queue in
    let pushed = c.push_behind.ensures.list ex1 es second here (c.in-Ok.ensures.exact e es second queue) in
    subst (λ (y : World _). IfOk c.push_behind.result (λ owner. PushesBehind y (g.S.Caller.caller c.args.s.now).place q es second c.args.value owner new)) same
    (subst (λ (s : CallerId). IfOk c.push_behind.result
    (λ owner. PushesBehind (g.S.Caller.world c.find_last.new.s) s.place q es second c.args.value owner new)) at1 pushed)

pub returns-in-Ok-clause-refused : goal.returns-in-Ok-clause-refused
returns-in-Ok-clause-refused g c = λ e es second queue.
    let new = g.S.Caller.world c.push_behind.new.s in
    let at1 = c.in-Ok.ensures.undisturbed.caller in
    let ex1 = subst (λ (s : CallerId). IsExact s) (sym at1) e in
    subst (λ (y : World _). IfErr c.push_behind.result (λ back. (new ≡ y) ×
    (IsFull y.standings × (back.1 ≡ NoSlot) ⊎ ¬ (IsFull y.standings) × IsFull y.cells × (back.1 ≡ NoCell)))) (c.in-Ok.ensures.world e)
    (c.push_behind.ensures.refused ex1)

pub returns-in-Ok-clause-own : goal.returns-in-Ok-clause-own
returns-in-Ok-clause-own g c = λ start grown.
    c.push_behind.ensures.own start (grows-not (g.S.Caller.own c.args.s.now) _ c.in-Ok.ensures.undisturbed.own start grown)

pub returns-in-Err-clause-refused : goal.returns-in-Err-clause-refused
returns-in-Err-clause-refused g c = λ e es second queue. absurd (c.in-Err.ensures.exact e es second queue)

pub returns-in-Ok-clause-values : goal.returns-in-Ok-clause-values
returns-in-Ok-clause-values g c = λ e vs has.
    let w = g.S.Caller.world c.args.s.now in
    pushed-answer w (g.S.Caller.world c.push_behind.new.s) (g.S.Caller.caller c.args.s.now).place c.args.self.now vs has c.args.value
    (λ back. IsFull w.standings × (back.1 ≡ NoSlot) ⊎ ¬ (IsFull w.standings) × IsFull w.cells × (back.1 ≡ NoCell)) c.push_behind.result
    (returns-in-Ok-clause-list g c e has.0 has.1 has.2) (returns-in-Ok-clause-refused g c e has.0 has.1 has.2)
