use Rattle.std.proofs.Common.{rules, ◌≡◌, ◌⊎◌, ◌∷◌, ◌++◌, [], List, Some, length, refl, ap, ◌∙◌, sym, subst, append_assoc}
use Rattle.std.proofs.lemmas.List.{append-nil}
use Rattle.sdd_bag.specs.Storage.{AreFull}
use Rattle.sdd_bag.specs.Values.{AreInSomeOrder}
use Rattle.sdd_space.specs.CallerId.{CallerId, IsExact, IsSeated}
use Rattle.sdd_world_model.specs.World.{World}
use Rattle.sdd_lists.specs.declared.stack.Stack.{Stack}
use Rattle.sdd_lists.specs.Stack.{IsStack, cell_in, home_in}
use Rattle.sdd_lists.proofs.Filling.{yields-more}
use Rattle.sdd_lists.proofs.MoreWaiting.{knows-same}
use Rattle.sdd_bag.specs.Overflow.{AddsStorage, LiesOn, RefusesStorage}
use Rattle.sdd_bag.specs.Bag.{BagParts, primary_of, values_of}
use Rattle.sdd_bag.specs.Filling.{AddsStorages, begins}
use Rattle.sdd_bag.proofs.FilledBag.{adds-next, one-more, order-more}
use Rattle.sdd_bag.proofs.Unmoved.{moves-on}
use Rattle.sdd_bag.proofs.bag.Bag.add_all.Goals as goal

pub loop-value-init : goal.loop-value-init
loop-value-init g c = record {
  unmoved = record { caller = refl; known = knows-same (g.S.Caller.known c.args.s.now); shown = λ k v was. was };
  own = λ start grown. grown;
  cells = record { storage = refl; stack = refl };
  bag = c.requires.bag;
  list = λ es lies. (es, lies, begins);
  values = ([], refl, λ vs order. subst (λ (us : List _). AreInSomeOrder us (values_of c.args.self.now)) (sym (append-nil vs)) order);
}

pub push-requires : goal.push-requires
push-requires g c =
    let inv = c.loop-value.invariant in let at = inv.unmoved.caller in (
      search rules,
      (
        subst (λ (s : CallerId). IsSeated s) (sym at) c.requires.seated,
        (
          ap (λ (s : Stack _). home_in s) inv.cells.stack ∙ c.requires.home ∙ ap (λ (s : CallerId). s.home.cells) (sym at),
          (
            c.requires.reader ∙ ap (λ (s : CallerId). s.reader) (sym at),
            (subst (λ (s : CallerId). IsExact s) (sym at) c.requires.exact, inv.bag),
          ),
        ),
      ),
    )

pub loop-value-preserved : goal.loop-value-preserved
loop-value-preserved g c =
    let inv = c.loop-value.invariant in let got = c.in-Ok.ensures in let x = c.in-Some.value in
    let old = c.loop-value.self in let new = c.push.new.self in
    let w = g.S.Caller.world c.args.s.now in let u = g.S.Caller.world c.loop-value.s in let then = g.S.Caller.world c.push.new.s in
    let p = (g.S.Caller.caller c.args.s.now).place in let shown = g.B.Shelf.shown in let len = g.row.ARRAY_LEN in
    record {
      unmoved = moves-on g.S.Caller.caller g.S.Caller.known g.S.Shows.shows c.args.s.now c.loop-value.s c.push.new.s inv.unmoved got.unmoved;
      own = λ start grown. got.own start (inv.own start grown);
      cells = record { storage = got.cells.storage ∙ inv.cells.storage; stack = got.cells.stack ∙ inv.cells.stack };
      bag = got.bag;
      list = λ es lies.
          let was = inv.list es lies in let more = got.list was.0 was.1 in
          let Full : Type 0 = AreFull len old.overflow.places in
          let step = subst (λ (s : CallerId). (then ≡ u) ⊎ Full × AddsStorage shown u s.place old.overflow.stack was.0 then more.0)
          inv.unmoved.caller more.2 in
          let were = subst (λ (s : Stack _). AddsStorages shown p s w es u was.0) (sym inv.cells.stack) was.2 in
          let now = subst (λ (s : Stack _). IsStack then (cell_in s) more.0) got.cells.stack more.1.stack in (
            more.0,
            more.1,
            subst (λ (s : Stack _). AddsStorages shown p s w es then more.0) inv.cells.stack
                (adds-next shown p old.overflow.stack w u then es was.0 more.0 were was.1.stack now Full step),
          );
      values =
          let was = inv.values in
          let one = one-more len x old new _ got.pushed in (
            was.0 ++ x ∷ [],
            yields-more g.I.Iterator.next_gives c.args.items.now was.0 c.loop-value.items c.next.new.self x was.1 c.in-Some.ensures.steps,
            λ vs order.
                subst (λ (us : List _). AreInSomeOrder us (values_of new)) (append_assoc vs was.0 (x ∷ []))
                (order-more x (vs ++ was.0) (values_of old) (values_of new) (was.2 vs order) one),
          );
    }

pub returns-in-Err-clause-unmoved : goal.returns-in-Err-clause-unmoved
returns-in-Err-clause-unmoved g c =
    moves-on g.S.Caller.caller g.S.Caller.known g.S.Shows.shows c.args.s.now c.loop-value.s c.push.new.s c.loop-value.invariant.unmoved
    c.in-Err.ensures.unmoved

pub returns-in-Err-clause-own : goal.returns-in-Err-clause-own
returns-in-Err-clause-own g c = λ start grown. c.in-Err.ensures.own start (c.loop-value.invariant.own start grown)

pub returns-in-Err-clause-values : goal.returns-in-Err-clause-values
returns-in-Err-clause-values g c =
    let was = c.loop-value.invariant.values in let not = c.in-Err.ensures.pushed in let new = c.push.new.self in (
      was.0,
      (λ vs order.
          subst (λ (b : BagParts g.row.T.Denot g.row.B.Denot). AreInSomeOrder (vs ++ was.0) (values_of b)) (sym not.2) (was.2 vs order)),
      (
        (
          c.loop-value.items,
          was.1,
          subst (λ (x : g.row.T.Denot). g.I.Iterator.next_gives c.loop-value.items (Some x) c.next.new.self) (sym not.1) c.in-Some.ensures.steps,
        ),
        ap (λ (b : BagParts g.row.T.Denot g.row.B.Denot). length (primary_of b)) not.2 ∙ not.0,
        subst (λ (y : World _). RefusesStorage y c.in-Err.back.1) (sym not.3) not.4,
      ),
    )

pub returns-in-Err-clause-list : goal.returns-in-Err-clause-list
returns-in-Err-clause-list g c = λ es lies.
    let Bag : Type 0 = BagParts g.row.T.Denot g.row.B.Denot in
    let was = c.loop-value.invariant.list es lies in let not = c.in-Err.ensures.pushed in
    let w = g.S.Caller.world c.args.s.now in let p = (g.S.Caller.caller c.args.s.now).place in let new = g.S.Caller.world c.push.new.s in
    let shown = g.B.Shelf.shown in let len = g.row.ARRAY_LEN in (
      was.0,
      subst (λ (b : Bag). LiesOn shown len new was.0 b.overflow) (sym not.2)
          (subst (λ (y : World _). LiesOn shown len y was.0 c.loop-value.self.overflow) (sym not.3) was.1),
      subst (λ (y : World _). AddsStorages shown p c.args.self.now.overflow.stack w es y was.0) (sym not.3) was.2,
    )

pub returns-clause-values : goal.returns-clause-values
returns-clause-values g c =
    let was = c.loop-value.invariant.values in (was.0, was.2, (c.loop-value.items, was.1, c.in_default.ensures.steps))
