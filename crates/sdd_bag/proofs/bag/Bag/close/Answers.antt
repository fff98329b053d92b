use Rattle.std.proofs.Common.{rules, ◌≡◌, [], List, ap, ◌∙◌, sym, subst}
use Rattle.std.specs.Prelude.{All}
use Rattle.sdd_bag.specs.Values.{AreInSomeOrder}
use Rattle.sdd_space.specs.CallerId.{CallerId, IsExact, IsSeated}
use Rattle.sdd_world_model.specs.OwnerOrCell.{AreOf}
use Rattle.sdd_world_model.specs.World.{World}
use Rattle.sdd_world_model.specs.WorldChanges.{cell_closed, without_cell}
use Rattle.sdd_lists.specs.declared.stack.Stack.{Stack}
use Rattle.sdd_lists.specs.Stack.{IsStack, cell_in, home_in}
use Rattle.sdd_bag.specs.Bag.{BagParts, overflow_of, primary_of}
use Rattle.sdd_bag.specs.Closing.{values_given}
use Rattle.sdd_bag.specs.Primary.{PrimaryParts, held_by}
use Rattle.sdd_bag.proofs.Unmoved.{moves-on}
use Rattle.sdd_bag.proofs.ReleasedValues.{all-behind, all-in-front}
use Rattle.sdd_bag.proofs.bag.Bag.close.Goals as goal

pub give_up_behind-requires : goal.give_up_behind-requires
give_up_behind-requires g c =
    let are : g.row.T.Denot → Type 0 = λ v. AreOf (g.S.Caller.caller c.args.s.now).home (g.T.Item.holds v) in (
      search rules,
      (
        c.requires.seated,
        (
          c.requires.home.overflow,
          (
            c.requires.reader,
            (
              c.requires.exact,
              (c.requires.bag, (all-behind are (primary_of c.args.self) (overflow_of c.args.self) c.requires.held, c.requires.beside)),
            ),
          ),
        ),
      ),
    )

pub close-requires : goal.close-requires
close-requires g c =
    let at = c.give_up_behind.ensures.unmoved.caller in
    let stack = ap (λ (b : BagParts g.row.T.Denot g.row.B.Denot). b.overflow.stack) c.bag.view_is ∙ c.give_up_behind.ensures.cells.stack in
    record {
      seated = subst (λ (s : CallerId). IsSeated s) (sym at) c.requires.seated;
      home = ap (λ (s : Stack _). home_in s) stack ∙ c.requires.home.overflow ∙ ap (λ (s : CallerId). s.home.cells) (sym at);
      reader = c.requires.reader ∙ ap (λ (s : CallerId). s.reader) (sym at);
    }

pub close-requires-2 : goal.close-requires-2
close-requires-2 g c =
    let at = c.close.ensures.unmoved.caller ∙ c.give_up_behind.ensures.unmoved.caller in
    let are : g.row.T.Denot → Type 0 = λ v. AreOf (g.S.Caller.caller c.args.s.now).home (g.T.Item.holds v) in
    let same = ap (λ (b : BagParts g.row.T.Denot g.row.B.Denot). b.primary) c.bag.view_is ∙ c.give_up_behind.ensures.primary in
    let held = all-in-front are (primary_of c.args.self) (overflow_of c.args.self) c.requires.held in (
      search rules,
      (
        subst (λ (s : CallerId). IsSeated s) (sym at) c.requires.seated,
        (
          ap (λ (p : PrimaryParts g.row.T.Denot). p.storage.home) same ∙ c.requires.home.primary ∙ ap (λ (s : CallerId). s.home.cells) (sym at),
          (
            subst (λ (s : CallerId). All (λ v. AreOf s.home (g.T.Item.holds v)) (held_by c.bag.inside.primary)) (sym at)
                (subst (λ (p : PrimaryParts g.row.T.Denot). All are (held_by p)) (sym same) held),
            subst (λ (s : CallerId). IsExact s) (sym at) c.requires.exact,
          ),
        ),
      ),
    )

pub returns-clause-unmoved : goal.returns-clause-unmoved
returns-clause-unmoved g c =
    moves-on g.S.Caller.caller g.S.Caller.known g.S.Shows.shows c.args.s.now c.close.new.s c.close-2.new.s
    (moves-on g.S.Caller.caller g.S.Caller.known g.S.Shows.shows c.args.s.now c.give_up_behind.new.s c.close.new.s c.give_up_behind.ensures.unmoved
    c.close.ensures.unmoved) c.close-2.ensures.unmoved

pub returns-clause-own : goal.returns-clause-own
returns-clause-own g c = λ start grown. c.close-2.ensures.own start (c.close.ensures.own start (c.give_up_behind.ensures.own start grown))

pub returns-clause-list : goal.returns-clause-list
returns-clause-list g c = λ es lies.
    let Parts : Type 0 = PrimaryParts g.row.T.Denot in let Bag : Type 0 = BagParts g.row.T.Denot g.row.B.Denot in
    let behind = c.give_up_behind.ensures in let holds = g.T.Item.holds in
    let u = g.S.Caller.world c.give_up_behind.new.s in let new = g.S.Caller.world c.close-2.new.s in
    let p = (g.S.Caller.caller c.args.s.now).place in let bag = c.args.self in
    let at = behind.unmoved.caller in let at-close = c.close.ensures.unmoved.caller ∙ at in
    let stack = ap (λ (b : Bag). b.overflow.stack) c.bag.view_is ∙ behind.cells.stack in
    let same = ap (λ (b : Bag). b.primary) c.bag.view_is ∙ behind.primary in
    let got = behind.list es lies in
    let gone : g.S.Caller.world c.close.new.s ≡ without_cell u (cell_in bag.overflow.stack) =
    c.close.ensures.list (subst (λ (s : CallerId). IsExact s) (sym at) c.requires.exact) []
    (subst (λ (s : Stack _). IsStack u (cell_in s) []) (sym stack) behind.stack)
    ∙ ap (λ (s : Stack _). without_cell u (cell_in s)) stack in
    let left = subst (λ (q : Parts). (vs : List g.row.T.Denot) × AreInSomeOrder vs (held_by q) ×
    (new ≡ cell_closed (values_given holds (without_cell u (cell_in bag.overflow.stack)) p vs) p q.storage.cell)) same
    (subst (λ (x : World _). (vs : List g.row.T.Denot) × AreInSomeOrder vs (held_by c.bag.inside.primary) ×
    (new ≡ cell_closed (values_given holds x p vs) p c.bag.inside.primary.storage.cell)) gone
    (subst (λ (s : CallerId). (vs : List g.row.T.Denot) × AreInSomeOrder vs (held_by c.bag.inside.primary) ×
    (new ≡ cell_closed (values_given holds (g.S.Caller.world c.close.new.s) s.place vs) s.place c.bag.inside.primary.storage.cell)) at-close
    c.close-2.ensures.world)) in
    record {
      spilled = got.0;
      all_spilled = got.1;
      emptied = u;
      storages = got.2;
      held = left.0;
      all_held = left.1;
      world = left.2;
    }
