use Rattle.std.proofs.Common.{◌≡◌, ◌⊎◌, ◌∙◌, sym, Bool, subst}
use Rattle.sdd_world_model.specs.World.{World}
use Rattle.sdd_space.specs.CallerId.{CallerId, IsExact}
use Rattle.sdd_space.specs.Shared.{cell_of}
use Rattle.sdd_core.specs.declared.refused.Refused.TheVariants.{NoCell, NoSlot}
use Rattle.sdd_participants.specs.Slab.{IsFull}
use Rattle.sdd_lists.specs.Entries.{link_of}
use Rattle.sdd_lists.specs.Queue.{IsQueue, PushesBehind, QueueCells, cells_in}
use Rattle.sdd_lists.proofs.PopConditions.{shown-last}
use Rattle.sdd_lists.proofs.MoreWaiting.{grows-not}
use Rattle.sdd_lists.proofs.queue.Queue.push_if.Goals as goal

pub returns-in-Err-clause-asked : goal.returns-in-Err-clause-asked
returns-in-Err-clause-asked g c = λ e es second queue. absurd (c.in-Err.ensures.exact e es second queue)

pub returns-in-Err-clause-refused : goal.returns-in-Err-clause-refused
returns-in-Err-clause-refused g c = λ e es second queue. absurd (c.in-Err.ensures.exact e es second queue)

pub returns-then-not-holds-clause-asked : goal.returns-then-not-holds-clause-asked
returns-then-not-holds-clause-asked g c = λ e es second queue. (
  c.value_at_front.result,
  shown-last (λ f. f.entry) (λ f x. cell_of f.link.now ≡ link_of x.value) es c.in-Ok.last c.value_at_front.result c.value_at_front.ensures
      (c.in-Ok.ensures.exact e es second queue),
  subst (λ (b : Bool). g.F.FnMut.post c.args.condition (c.value_at_front.result, tt) b) c.if-not-holds.true c.asks_of_any-holds.ensures,
)

pub returns-in-Ok-push_behind-clause-asked : goal.returns-in-Ok-push_behind-clause-asked
returns-in-Ok-push_behind-clause-asked g c = λ e es second queue. (
  c.value_at_front.result,
  shown-last (λ f. f.entry) (λ f x. cell_of f.link.now ≡ link_of x.value) es c.in-Ok.last c.value_at_front.result c.value_at_front.ensures
      (c.in-Ok.ensures.exact e es second queue),
  subst (λ (b : Bool). g.F.FnMut.post c.args.condition (c.value_at_front.result, tt) b) c.if-not-holds.false c.asks_of_any-holds.ensures,
)

pub returns-in-Err-push_behind-clause-asked : goal.returns-in-Err-push_behind-clause-asked
returns-in-Err-push_behind-clause-asked g c = λ e es second queue. (
  c.value_at_front.result,
  shown-last (λ f. f.entry) (λ f x. cell_of f.link.now ≡ link_of x.value) es c.in-Ok.last c.value_at_front.result c.value_at_front.ensures
      (c.in-Ok.ensures.exact e es second queue),
  subst (λ (b : Bool). g.F.FnMut.post c.args.condition (c.value_at_front.result, tt) b) c.if-not-holds.false c.asks_of_any-holds.ensures,
)

pub returns-in-Ok-push_behind-clause-list : goal.returns-in-Ok-push_behind-clause-list
returns-in-Ok-push_behind-clause-list g c = λ e es second queue.
    let q : QueueCells = cells_in c.args.self.now in
    let new = g.S.Caller.world c.push_behind.new.s in
    let owner = c.in-Ok-push_behind.owner in
    let at1 = c.in-Ok.ensures.undisturbed.caller in
    let ex1 = subst (λ (s : CallerId). IsExact s) (sym at1) e in
    let same = c.in-Ok.ensures.world e in
    let here = subst (λ (y : World _). IsQueue link_of y q es second) (sym same) queue in
    let pushed = c.in-Ok-push_behind.ensures.list ex1 es second here (c.in-Ok.ensures.exact e es second queue) in
    subst (λ (y : World _). PushesBehind y (g.S.Caller.caller c.args.s.now).place q es second c.args.value owner new) same
    (subst (λ (s : CallerId). PushesBehind (g.S.Caller.world c.find_last.new.s) s.place q es second c.args.value owner new) at1 pushed)

pub returns-in-Ok-push_behind-clause-own : goal.returns-in-Ok-push_behind-clause-own
returns-in-Ok-push_behind-clause-own g c = λ start grown.
    c.in-Ok-push_behind.ensures.own start (grows-not (g.S.Caller.own c.args.s.now) _ c.in-Ok.ensures.undisturbed.own start grown)

pub returns-in-Err-push_behind-clause-refused : goal.returns-in-Err-push_behind-clause-refused
returns-in-Err-push_behind-clause-refused g c = λ e es second queue.
    let same = c.in-Ok.ensures.world e in
    let why = c.in-Err-push_behind.refused in
    let ex1 = subst (λ (s : CallerId). IsExact s) (sym c.in-Ok.ensures.undisturbed.caller) e in
    let not = c.in-Err-push_behind.ensures.refused ex1 in (
      not.0 ∙ same,
      subst (λ (y : World _). IsFull y.standings × (why ≡ NoSlot) ⊎ ¬ (IsFull y.standings) × IsFull y.cells × (why ≡ NoCell)) same not.1,
    )
