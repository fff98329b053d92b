use Rattle.std.proofs.Common.{rules, ◌≡◌, ◌<◌, ◌++◌, ℕ, List, None, ap, ◌∙◌, sym, subst, refl}
use Rattle.std.specs.Prelude.{MatchOption}
use Rattle.sdd_bag.specs.Storage.{AreEmpty, IsFullWith, with_value_at}
use Rattle.sdd_bag.specs.Values.{HasOneMore}
use Rattle.sdd_bag.specs.Storages.{places_shown}
use Rattle.sdd_bag.specs.Overflow.{LiesOn, OverflowParts, places_on}
use Rattle.sdd_bag.specs.Bag.{BagParts, overflow_of}
use Rattle.sdd_bag.proofs.StackStorages.{front-keys, none-left, none-there, none-used, storages-popped}
use Rattle.sdd_bag.proofs.bag.Bag.pop_front.Goals as goal

pub pop-requires : goal.pop-requires
pop-requires g c =
    let Parts : Type 0 = OverflowParts g.row.T.Denot g.row.B.Denot in
    let view = ap (λ (b : BagParts g.row.T.Denot g.row.B.Denot). b.overflow) c.self.view_is in
    let w = g.S.Caller.world c.args.s.now in let shown = g.B.Shelf.shown in let len = g.row.ARRAY_LEN in
    let es = c.requires.lies.0 in
    let lies = subst (λ (o : Parts). LiesOn shown len w es o) (sym view) c.requires.lies.1 in
    let first = c.in-Some.ensures.list c.requires.exact es lies.stack in
    let places = c.places.ensures ∙ ap places_shown first.3 in (
      search rules,
      (
        search rules,
        (
          places_on shown len first.1,
          front-keys shown len w es (record { stack = c.self.inside.stack; places = c.self.inside.keys }) lies first.0 first.1 first.2
              ∙ ap (λ (ns : List _). ns ++ places_on shown len first.1) (sym places),
        ),
      ),
    )

pub returns-in-Some-clause-world : goal.returns-in-Some-clause-world
returns-in-Some-clause-world g c = c.in-Some.ensures.world c.requires.exact

pub returns-in-None-clause-world : goal.returns-in-None-clause-world
returns-in-None-clause-world g c = c.in-None.ensures.world c.requires.exact

pub returns-in-None-clause-popped : goal.returns-in-None-clause-popped
returns-in-None-clause-popped g c =
    let Parts : Type 0 = OverflowParts g.row.T.Denot g.row.B.Denot in
    let view = ap (λ (b : BagParts g.row.T.Denot g.row.B.Denot). b.overflow) c.self.view_is in
    let w = g.S.Caller.world c.args.s.now in let shown = g.B.Shelf.shown in let len = g.row.ARRAY_LEN in
    let es = c.requires.lies.0 in
    let lies = subst (λ (o : Parts). LiesOn shown len w es o) (sym view) c.requires.lies.1 in
    let none = none-left shown len w es c.self.invariant.0 c.requires.lies.1.shelves (c.in-None.ensures.list c.requires.exact es lies.stack) in
    (none-used len c.args.self.now.overflow.places (none-there shown len w es c.args.self.now.overflow c.requires.lies.1 none), refl)

pub returns-in-Some-clause-popped : goal.returns-in-Some-clause-popped
returns-in-Some-clause-popped g c =
    let Bag : Type 0 = BagParts g.row.T.Denot g.row.B.Denot in let len = g.row.ARRAY_LEN in
    let new : Bag = record { primary = c.self.inside.primary; overflow = record { stack = c.self.inside.stack; places = c.pop.new.self } } in
    subst (λ (now : Bag). MatchOption c.pop.result (AreEmpty len now.overflow.places × (new ≡ now))
    (λ value. ((at : ℕ) × (at < len) × IsFullWith value at now.overflow.places × (new.overflow.places ≡ with_value_at now.overflow.places at None)) ×
    HasOneMore value (overflow_of new) (overflow_of now))) c.self.view_is
    (storages-popped len c.self.inside.primary c.self.inside.stack c.self.inside.keys c.pop.new.self c.pop.result c.pop.ensures.place c.pop.ensures.values)
