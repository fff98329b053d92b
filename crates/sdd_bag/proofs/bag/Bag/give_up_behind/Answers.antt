use Rattle.std.proofs.Common.{rules, ◌≡◌, ◌⊎◌, ◌∷◌, [], List, drop, refl, ap, ◌∙◌, sym, subst, arith}
use Rattle.sdd_bag.proofs.OneMore.{one-longer}
use Rattle.sdd_space.specs.CallerId.{CallerId, IsExact, IsSeated}
use Rattle.sdd_world_model.specs.OwnerOrCell.{AreOf}
use Rattle.sdd_world_model.specs.World.{World}
use Rattle.sdd_world_model.specs.WorldChanges.{given_all}
use Rattle.sdd_lists.specs.declared.stack.Stack.{Stack}
use Rattle.sdd_lists.specs.Lists.{Entry}
use Rattle.sdd_lists.specs.Stack.{IsStack, cell_in, home_in}
use Rattle.sdd_lists.proofs.MoreWaiting.{knows-same}
use Rattle.sdd_bag.specs.Overflow.{RemovesStorage}
use Rattle.sdd_bag.specs.Bag.{overflow_of}
use Rattle.sdd_bag.proofs.Counting.{removes-at-last}
use Rattle.sdd_bag.proofs.EmptiedBag.{used-there}
use Rattle.sdd_bag.proofs.Unmoved.{moves-on}
use Rattle.sdd_bag.proofs.ReleasedValues.{after-next, empties-next, one-of}
use Rattle.sdd_bag.proofs.Overflow.{none-spilled}
use Rattle.sdd_bag.proofs.bag.Bag.give_up_behind.Goals as goal

pub loop-value-init : goal.loop-value-init
loop-value-init g c =
    let shown = g.B.Shelf.shown in let len = g.row.ARRAY_LEN in let w = g.S.Caller.world c.args.s.now in
    record {
      unmoved = record { caller = refl; known = knows-same (g.S.Caller.known c.args.s.now); shown = λ k v was. was };
      own = λ start grown. grown;
      cells = record { storage = refl; stack = refl };
      primary = refl;
      held = c.requires.held;
      list = λ es lies.
          (es, lies, used-there shown len w c.args.self.now es c.requires.bag lies, c.requires.beside es lies, λ vs new order empties. (vs, order, empties));
    }

pub loop-value-smaller : goal.loop-value-smaller
loop-value-smaller g c =
    omega (arith, one-longer c.in-Some.value (overflow_of c.pop_behind.new.self) (overflow_of c.loop-value.self) c.in-Some.ensures.popped.less)

pub pop_behind-requires : goal.pop_behind-requires
pop_behind-requires g c =
    let inv = c.loop-value.invariant in let at = inv.unmoved.caller in
    let was = inv.list c.requires.bag.entries c.requires.bag.lies in (
      search rules,
      (
        subst (λ (s : CallerId). IsSeated s) (sym at) c.requires.seated,
        (
          ap (λ (s : Stack _). home_in s) inv.cells.stack ∙ c.requires.home ∙ ap (λ (s : CallerId). s.home.cells) (sym at),
          (
            c.requires.reader ∙ ap (λ (s : CallerId). s.reader) (sym at),
            (subst (λ (s : CallerId). IsExact s) (sym at) c.requires.exact, (was.0, was.1)),
          ),
        ),
      ),
    )

pub give_up-requires : goal.give_up-requires
give_up-requires g c =
    let inv = c.loop-value.invariant in let at = c.in-Some.ensures.unmoved.caller ∙ inv.unmoved.caller in let holds = g.T.Item.holds in
    let one = one-of (λ x. AreOf (g.S.Caller.caller c.args.s.now).home (holds x)) c.in-Some.value (overflow_of c.pop_behind.new.self)
    (overflow_of c.loop-value.self) c.in-Some.ensures.popped.less inv.held in
    record {
      seated = subst (λ (s : CallerId). IsSeated s) (sym at) c.requires.seated;
      home = subst (λ (s : CallerId). AreOf s.home (holds c.in-Some.value)) (sym at) one.0;
      exact = subst (λ (s : CallerId). IsExact s) (sym at) c.requires.exact;
    }

pub loop-value-preserved : goal.loop-value-preserved
loop-value-preserved g c =
    let inv = c.loop-value.invariant in let got = c.in-Some.ensures in let v = c.in-Some.value in let holds = g.T.Item.holds in
    let old = c.loop-value.self in let new = c.pop_behind.new.self in let len = g.row.ARRAY_LEN in
    let w = g.S.Caller.world c.loop-value.s in let u = g.S.Caller.world c.pop_behind.new.s in let then = g.S.Caller.world c.give_up.new.s in
    let place = (g.S.Caller.caller c.args.s.now).place in
    let at = got.unmoved.caller ∙ inv.unmoved.caller in
    let home = (g.S.Caller.caller c.args.s.now).home in
    let one = one-of (λ x. AreOf home (holds x)) v (overflow_of new) (overflow_of old) got.popped.less inv.held in
    let world : then ≡ given_all u place (holds v) =
    c.give_up.ensures.world ∙ ap (λ (s : CallerId). given_all u s.place (holds v)) at in
    record {
      unmoved = moves-on g.S.Caller.caller g.S.Caller.known g.S.Shows.shows c.args.s.now c.pop_behind.new.s c.give_up.new.s
          (moves-on g.S.Caller.caller g.S.Caller.known g.S.Shows.shows c.args.s.now c.loop-value.s c.pop_behind.new.s inv.unmoved got.unmoved)
          c.give_up.ensures.unmoved;
      own = λ start grown. c.give_up.ensures.own start (got.own start (inv.own start grown));
      cells = record { storage = got.cells.storage ∙ inv.cells.storage; stack = got.cells.stack ∙ inv.cells.stack };
      primary = got.popped.inside ∙ inv.primary;
      held = one.1;
      list = λ es lies.
          let was = inv.list es lies in let more = got.list was.0 was.1 in
          let Fewer : Type 0 = new.overflow.places ≡ drop g.row.ARRAY_LEN old.overflow.places in
          let step = subst (λ (s : CallerId). (u ≡ w) × (more.0 ≡ was.0) ⊎ Fewer × RemovesStorage w s.place (cell_in old.overflow.stack) was.0 u more.0)
          inv.unmoved.caller more.3 in
          let after = after-next g.B.Shelf.shown g.row.ARRAY_LEN w u then place was.0 more.0 old.overflow new.overflow holds v was.1 more.1 got.cells.stack
          Fewer step world (overflow_of new) (overflow_of old) got.popped.less was.3 in (
            more.0,
            after.0,
            more.2,
            after.1,
            λ vs end order empties.
                was.4 (v ∷ vs) end (overflow_of new, got.popped.less, order)
                (empties-next holds len w u then end place was.0 more.0 old.overflow.stack new.overflow.stack v vs got.cells.stack
                (removes-at-last g.B.Shelf.shown len place (cell_in old.overflow.stack) w u was.0 more.0 old new v vs was.1 was.2 more.1 more.2 got.popped.less
                order Fewer step) world empties),
          );
    }

pub returns-clause-stack : goal.returns-clause-stack
returns-clause-stack g c =
    let inv = c.loop-value.invariant in let popped = c.in_default.ensures.popped in
    let was = inv.list c.requires.bag.entries c.requires.bag.lies in let none = was.2 popped.0 in
    let new = g.S.Caller.world c.pop_behind.new.s in
    subst (λ (s : Stack _). IsStack new (cell_in s) []) inv.cells.stack
    (subst (λ (fs : List (Entry _)). IsStack new (cell_in c.loop-value.self.overflow.stack) fs) none
    (subst (λ (x : World _). IsStack x (cell_in c.loop-value.self.overflow.stack) was.0) (sym popped.2) was.1.stack))

pub returns-clause-list : goal.returns-clause-list
returns-clause-list g c = λ es lies.
    let popped = c.in_default.ensures.popped in let was = c.loop-value.invariant.list es lies in let none = was.2 popped.0 in
    let w = g.S.Caller.world c.loop-value.s in
    was.4 [] (g.S.Caller.world c.pop_behind.new.s) (none-spilled g.B.Shelf.shown g.row.ARRAY_LEN w c.loop-value.self.overflow was.0 was.1 none)
    (none, popped.2)

pub returns-clause-unmoved : goal.returns-clause-unmoved
returns-clause-unmoved g c =
    moves-on g.S.Caller.caller g.S.Caller.known g.S.Shows.shows c.args.s.now c.loop-value.s c.pop_behind.new.s c.loop-value.invariant.unmoved
    c.in_default.ensures.unmoved

pub returns-clause-own : goal.returns-clause-own
returns-clause-own g c = λ start grown. c.in_default.ensures.own start (c.loop-value.invariant.own start grown)
