use Rattle.std.proofs.Common.{◌≡◌, ◌⊎◌, ◌∙◌, ap, sym, Bool, subst}
use Rattle.sdd_world_model.specs.World.{World}
use Rattle.sdd_space.specs.CallerId.{CallerId, IsExact}
use Rattle.sdd_core.specs.declared.tag.Tag.TheVariants.{None as no_tag}
use Rattle.sdd_core.specs.declared.refused.Refused.TheVariants.{NoCell, NoSlot}
use Rattle.sdd_participants.specs.Slab.{IsFull}
use Rattle.sdd_lists.specs.Entries.{link_of}
use Rattle.sdd_lists.specs.Stack.{PushesOnto, cell_in}
use Rattle.sdd_lists.proofs.MoreWaiting.{grows-not}
use Rattle.sdd_lists.proofs.Lists.{list-same}
use Rattle.sdd_lists.proofs.stack.Stack.push_if.Goals as goal

pub returns-in-Err-clause-asked : goal.returns-in-Err-clause-asked
returns-in-Err-clause-asked g c = λ e es list. absurd (c.in-Err.ensures.exact e no_tag es list)

pub returns-then-not-holds-clause-asked : goal.returns-then-not-holds-clause-asked
returns-then-not-holds-clause-asked g c = λ e es list. (
  c.in-Ok.shown,
  c.in-Ok.ensures.exact e no_tag es list,
  subst (λ (b : Bool). g.F.FnMut.post c.args.condition (c.in-Ok.shown, tt) b) c.if-not-holds.true c.asks_of_any-holds.ensures,
)

pub returns-in-Ok-push-clause-asked : goal.returns-in-Ok-push-clause-asked
returns-in-Ok-push-clause-asked g c = λ e es list. (
  c.in-Ok.shown,
  c.in-Ok.ensures.exact e no_tag es list,
  subst (λ (b : Bool). g.F.FnMut.post c.args.condition (c.in-Ok.shown, tt) b) c.if-not-holds.false c.asks_of_any-holds.ensures,
)

pub returns-in-Err-push-clause-asked : goal.returns-in-Err-push-clause-asked
returns-in-Err-push-clause-asked g c = λ e es list. (
  c.in-Ok.shown,
  c.in-Ok.ensures.exact e no_tag es list,
  subst (λ (b : Bool). g.F.FnMut.post c.args.condition (c.in-Ok.shown, tt) b) c.if-not-holds.false c.asks_of_any-holds.ensures,
)

pub returns-in-Ok-push-clause-list : goal.returns-in-Ok-push-clause-list
returns-in-Ok-push-clause-list g c = λ e es list.
    let w = g.S.Caller.world c.args.s.now in
    let cell = cell_in c.args.self.now in
    let new = g.S.Caller.world c.push.new.s in
    let same = c.in-Ok.ensures.world e in
    let ex : IsExact (g.S.Caller.caller c.first_value_in.new.s) = subst (λ (s : CallerId). IsExact s) (sym c.in-Ok.ensures.undisturbed.caller) e in
    let here = list-same link_of w (g.S.Caller.world c.first_value_in.new.s) cell no_tag es
    (ap (λ (y : World _). y.cells) same) (ap (λ (y : World _). y.values) same) list in
    let pushed = c.in-Ok-push.ensures.list ex es here in
    subst (λ (y : World _). PushesOnto y (g.S.Caller.caller c.args.s.now).place cell es c.args.value c.in-Ok-push.owner new) same
    (subst (λ (s : CallerId). PushesOnto (g.S.Caller.world c.first_value_in.new.s) s.place cell es c.args.value c.in-Ok-push.owner new)
    c.in-Ok.ensures.undisturbed.caller pushed)

pub returns-in-Ok-push-clause-own : goal.returns-in-Ok-push-clause-own
returns-in-Ok-push-clause-own g c = λ start grown.
    c.in-Ok-push.ensures.own start (grows-not (g.S.Caller.own c.args.s.now) _ c.in-Ok.ensures.undisturbed.own start grown)

pub returns-in-Err-push-clause-refused : goal.returns-in-Err-push-clause-refused
returns-in-Err-push-clause-refused g c = λ e es list.
    let same = c.in-Ok.ensures.world e in
    let why = c.in-Err-push.refused in
    let ex : IsExact (g.S.Caller.caller c.first_value_in.new.s) = subst (λ (s : CallerId). IsExact s) (sym c.in-Ok.ensures.undisturbed.caller) e in
    let not = c.in-Err-push.ensures.refused ex in (
      not.0 ∙ same,
      subst (λ (y : World _). IsFull y.standings × (why ≡ NoSlot) ⊎ ¬ (IsFull y.standings) × IsFull y.cells × (why ≡ NoCell)) same not.1,
    )
