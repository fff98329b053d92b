use Rattle.std.proofs.Common.{of_calls, rules, ◌++◌, List, ap, ◌∙◌, sym, subst}
use Rattle.sdd_bag.specs.Storage.{value_at}
use Rattle.sdd_bag.specs.Values.{AreInSomeOrder}
use Rattle.sdd_bag.specs.Storages.{places_shown}
use Rattle.sdd_bag.specs.Overflow.{LiesOn, OverflowParts, places_on}
use Rattle.sdd_bag.specs.Bag.{BagParts, overflow_of}
use Rattle.sdd_bag.proofs.StackStorages.{front-keys, none-left, none-there, none-used}
use Rattle.sdd_bag.proofs.bag.Bag.fold_front.Goals as goal

pub fold_front-requires : goal.fold_front-requires
fold_front-requires g c =
    let Parts : Type 0 = OverflowParts g.row.T.Denot g.row.B.Denot in
    let view = ap (λ (b : BagParts g.row.T.Denot g.row.B.Denot). b.overflow) c.self.view_is in
    let w = g.S.Caller.world c.args.s.now in let shown = g.B.Shelf.shown in let len = g.row.ARRAY_LEN in
    let es = c.requires.lies.0 in
    let lies = subst (λ (o : Parts). LiesOn shown len w es o) (sym view) c.requires.lies.1 in
    let first = c.in-Some.ensures.list c.requires.exact es lies.stack in
    let places = c.places.ensures ∙ ap places_shown first.3 in (
      search rules,
      (
        search rules,
        (
          (
            places_on shown len first.1,
            front-keys shown len w es (record { stack = c.self.inside.stack; places = c.self.inside.keys }) lies first.0 first.1 first.2
                ∙ ap (λ (ns : List _). ns ++ places_on shown len first.1) (sym places),
          ),
          search of_calls,
        ),
      ),
    )

pub returns-in-Some-clause-world : goal.returns-in-Some-clause-world
returns-in-Some-clause-world g c = c.in-Some.ensures.world c.requires.exact

pub returns-in-None-clause-world : goal.returns-in-None-clause-world
returns-in-None-clause-world g c = c.in-None.ensures.world c.requires.exact

pub returns-in-None-clause-empty : goal.returns-in-None-clause-empty
returns-in-None-clause-empty g c =
    let Parts : Type 0 = OverflowParts g.row.T.Denot g.row.B.Denot in
    let view = ap (λ (b : BagParts g.row.T.Denot g.row.B.Denot). b.overflow) c.self.view_is in
    let w = g.S.Caller.world c.args.s.now in let shown = g.B.Shelf.shown in let len = g.row.ARRAY_LEN in
    let es = c.requires.lies.0 in
    let lies = subst (λ (o : Parts). LiesOn shown len w es o) (sym view) c.requires.lies.1 in
    let none = none-left shown len w es c.self.invariant.0 c.requires.lies.1.shelves (c.in-None.ensures.list c.requires.exact es lies.stack) in
    none-used len c.args.self.now.overflow.places (none-there shown len w es c.args.self.now.overflow c.requires.lies.1 none)

pub returns-in-None-clause-folded : goal.returns-in-None-clause-folded
returns-in-None-clause-folded g c = λ others vs result order folded. (vs, order, folded)

pub returns-in-Some-clause-behind : goal.returns-in-Some-clause-behind
returns-in-Some-clause-behind g c = λ k far.
    c.fold_front.ensures.behind k far ∙ ap (λ (b : BagParts g.row.T.Denot g.row.B.Denot). value_at b.overflow.places k) c.self.view_is

pub returns-in-Some-clause-folded : goal.returns-in-Some-clause-folded
returns-in-Some-clause-folded g c = λ others vs result order folded.
    let got = c.fold_front.ensures.folded others vs result order folded in (
      got.0,
      subst (λ (b : BagParts g.row.T.Denot g.row.B.Denot). AreInSomeOrder got.0 (others ++ overflow_of b)) c.self.view_is got.1,
      got.2,
    )
