use Rattle.std.proofs.Common.{rules, List, None, Some, refl, ap, ◌∙◌, sym, subst}
use Rattle.sdd_space.specs.CallerId.{CallerId, IsExact, IsSeated}
use Rattle.sdd_lists.specs.Lists.{Entry}
use Rattle.sdd_bag.specs.Overflow.{LiesOn}
use Rattle.sdd_bag.specs.Filling.{AddsStorages}
use Rattle.sdd_bag.proofs.FilledBag.{builds}
use Rattle.sdd_bag.proofs.Unmoved.{moves-on}
use Rattle.sdd_bag.proofs.bag.Bag.from_iter.Goals as goal

pub returns-in-Err-clause-list : goal.returns-in-Err-clause-list
returns-in-Err-clause-list g c = let not = c.in-Err.ensures.world c.requires.exact in (not.0, not.1, refl, not.2)

pub add_all-requires : goal.add_all-requires
add_all-requires g c =
    let at = c.in-Ok.ensures.unmoved.caller in (
      search rules,
      (
        subst (λ (s : CallerId). IsSeated s) (sym at) c.requires.seated,
        (
          c.in-Ok.ensures.home.overflow ∙ ap (λ (s : CallerId). s.home.cells) (sym at),
          (
            c.requires.reader ∙ ap (λ (s : CallerId). s.reader) (sym at),
            (
              subst (λ (s : CallerId). IsExact s) (sym at) c.requires.exact,
              (c.in-Ok.ensures.bag c.requires.exact, (c.requires.can, c.requires.ends)),
            ),
          ),
        ),
      ),
    )

pub returns-in-Ok-add_all-clause-unmoved : goal.returns-in-Ok-add_all-clause-unmoved
returns-in-Ok-add_all-clause-unmoved g c =
    moves-on g.S.Caller.caller g.S.Caller.known g.S.Shows.shows c.args.s.now c.new.new.s c.add_all.new.s c.in-Ok.ensures.unmoved
    c.in-Ok-add_all.ensures.unmoved

pub returns-in-Ok-add_all-clause-own : goal.returns-in-Ok-add_all-clause-own
returns-in-Ok-add_all-clause-own g c = λ start grown. c.in-Ok-add_all.ensures.own start (c.in-Ok.ensures.own start grown)

pub returns-in-Ok-add_all-clause-list : goal.returns-in-Ok-add_all-clause-list
returns-in-Ok-add_all-clause-list g c =
    let w = g.S.Caller.world c.args.s.now in let u = g.S.Caller.world c.new.new.s in let new = g.S.Caller.world c.add_all.new.s in
    let p = (g.S.Caller.caller c.args.s.now).place in let bag = c.in-Ok.bag in let got = c.in-Ok-add_all.ensures in
    let made = c.in-Ok.ensures.world c.requires.exact in let values = got.values in
    builds g.I.Iterator.next_gives g.B.Shelf.shown g.row.ARRAY_LEN p w u new bag c.add_all.new.self c.args.items.now c.add_all.new.items None made.0 made.1
    made.2 made.3 c.in-Ok.ensures.empty.0 c.in-Ok.ensures.empty.1 (c.in-Ok.ensures.bag c.requires.exact) got.cells
    (λ es lies. subst (λ (s : CallerId). (fs : List (Entry _)) × LiesOn g.B.Shelf.shown g.row.ARRAY_LEN new fs c.add_all.new.self.overflow ×
    AddsStorages g.B.Shelf.shown s.place bag.overflow.stack u es new fs) c.in-Ok.ensures.unmoved.caller (got.list es lies)) values.0 values.1
    values.2

pub returns-in-Err-add_all-clause-unmoved : goal.returns-in-Err-add_all-clause-unmoved
returns-in-Err-add_all-clause-unmoved g c =
    moves-on g.S.Caller.caller g.S.Caller.known g.S.Shows.shows c.args.s.now c.new.new.s c.add_all.new.s c.in-Ok.ensures.unmoved
    c.in-Err-add_all.ensures.unmoved

pub returns-in-Err-add_all-clause-own : goal.returns-in-Err-add_all-clause-own
returns-in-Err-add_all-clause-own g c = λ start grown. c.in-Err-add_all.ensures.own start (c.in-Ok.ensures.own start grown)

pub returns-in-Err-add_all-clause-list : goal.returns-in-Err-add_all-clause-list
returns-in-Err-add_all-clause-list g c =
    let w = g.S.Caller.world c.args.s.now in let u = g.S.Caller.world c.new.new.s in let new = g.S.Caller.world c.add_all.new.s in
    let p = (g.S.Caller.caller c.args.s.now).place in let bag = c.in-Ok.bag in let got = c.in-Err-add_all.ensures in
    let made = c.in-Ok.ensures.world c.requires.exact in let values = got.values in (
      builds g.I.Iterator.next_gives g.B.Shelf.shown g.row.ARRAY_LEN p w u new bag c.add_all.new.self c.args.items.now c.add_all.new.items
          (Some c.in-Err-add_all.item) made.0 made.1 made.2 made.3 c.in-Ok.ensures.empty.0 c.in-Ok.ensures.empty.1
          (c.in-Ok.ensures.bag c.requires.exact) got.cells
          (λ es lies. subst (λ (s : CallerId). (fs : List (Entry _)) × LiesOn g.B.Shelf.shown g.row.ARRAY_LEN new fs c.add_all.new.self.overflow ×
          AddsStorages g.B.Shelf.shown s.place bag.overflow.stack u es new fs) c.in-Ok.ensures.unmoved.caller (got.list es lies)) values.0 values.1 values.2.0,
      values.2.1,
      values.2.2,
    )
