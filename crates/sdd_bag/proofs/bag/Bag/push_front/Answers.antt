use Rattle.std.proofs.Common.{rules, ◌≡◌, ◌<◌, ◌++◌, ℕ, List, Some, ap, ◌∙◌, sym, subst, refl}
use Rattle.std.specs.Prelude.{MatchResult}
use Rattle.sdd_bag.specs.Storage.{AreFull, IsEmptyAt, with_value_at}
use Rattle.sdd_bag.specs.Values.{HasOneMore}
use Rattle.sdd_bag.specs.Storages.{places_shown}
use Rattle.sdd_bag.specs.Overflow.{LiesOn, OverflowParts, places_on}
use Rattle.sdd_bag.specs.Bag.{BagParts, overflow_of}
use Rattle.sdd_bag.proofs.StackStorages.{front-keys, none-full, none-left, none-there, storages-pushed}
use Rattle.sdd_bag.proofs.bag.Bag.push_front.Goals as goal

pub push-requires : goal.push-requires
push-requires g c =
    let Parts : Type 0 = OverflowParts g.row.T.Denot g.row.B.Denot in
    let view = ap (λ (b : BagParts g.row.T.Denot g.row.B.Denot). b.overflow) c.self.view_is in
    let w = g.S.Caller.world c.args.s.now in let shown = g.B.Shelf.shown in let len = g.row.ARRAY_LEN in
    let es = c.requires.lies.0 in
    let lies = subst (λ (o : Parts). LiesOn shown len w es o) (sym view) c.requires.lies.1 in
    let first = c.in-Some.ensures.list c.requires.exact es lies.stack in
    let places = c.places.ensures ∙ ap places_shown first.3 in (
      search rules,
      (
        search rules,
        (
          places_on shown len first.1,
          front-keys shown len w es (record { stack = c.self.inside.stack; places = c.self.inside.keys }) lies first.0 first.1 first.2
              ∙ ap (λ (ns : List _). ns ++ places_on shown len first.1) (sym places),
        ),
      ),
    )

pub returns-in-Some-clause-world : goal.returns-in-Some-clause-world
returns-in-Some-clause-world g c = c.in-Some.ensures.world c.requires.exact

pub returns-in-None-clause-world : goal.returns-in-None-clause-world
returns-in-None-clause-world g c = c.in-None.ensures.world c.requires.exact

pub returns-in-None-clause-pushed : goal.returns-in-None-clause-pushed
returns-in-None-clause-pushed g c =
    let Parts : Type 0 = OverflowParts g.row.T.Denot g.row.B.Denot in
    let view = ap (λ (b : BagParts g.row.T.Denot g.row.B.Denot). b.overflow) c.self.view_is in
    let w = g.S.Caller.world c.args.s.now in let shown = g.B.Shelf.shown in let len = g.row.ARRAY_LEN in
    let es = c.requires.lies.0 in
    let lies = subst (λ (o : Parts). LiesOn shown len w es o) (sym view) c.requires.lies.1 in
    let none = none-left shown len w es c.self.invariant.0 c.requires.lies.1.shelves (c.in-None.ensures.list c.requires.exact es lies.stack) in
    (refl, none-full len c.args.self.now.overflow.places (none-there shown len w es c.args.self.now.overflow c.requires.lies.1 none), refl)

pub returns-in-Some-clause-pushed : goal.returns-in-Some-clause-pushed
returns-in-Some-clause-pushed g c =
    let Bag : Type 0 = BagParts g.row.T.Denot g.row.B.Denot in let len = g.row.ARRAY_LEN in
    let new : Bag = record { primary = c.self.inside.primary; overflow = record { stack = c.self.inside.stack; places = c.push.new.self } } in
    subst (λ (now : Bag). MatchResult c.push.result
    (λ _. ((at : ℕ) × (at < len) × IsEmptyAt at now.overflow.places × (new.overflow.places ≡ with_value_at now.overflow.places at (Some c.args.value))) ×
    HasOneMore c.args.value (overflow_of now) (overflow_of new))
    (λ back. (back ≡ c.args.value) × AreFull len now.overflow.places × (new ≡ now))) c.self.view_is
    (storages-pushed len c.self.inside.primary c.self.inside.stack c.self.inside.keys c.push.new.self c.args.value c.push.result
    c.push.ensures.place c.push.ensures.values)
