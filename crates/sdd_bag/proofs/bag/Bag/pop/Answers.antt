use Rattle.std.proofs.Common.{rules, ◌≡◌, ◌⊎◌, inl, [], refl, ap, ◌∙◌, sym, subst}
use Rattle.std.specs.Prelude.{MatchOption}
use Rattle.sdd_world_model.specs.World.{World}
use Rattle.sdd_bag.specs.Overflow.{LiesOn, OverflowParts}
use Rattle.sdd_bag.specs.Bag.{BagParts, PopsBehind, PopsInside, overflow_of, primary_of}
use Rattle.sdd_bag.proofs.Overflow.{none-spilled, popped-inside}
use Rattle.sdd_bag.proofs.bag.Bag.pop.Goals as goal

pub pop_behind-requires : goal.pop_behind-requires
pop_behind-requires g c = (
  search rules,
  (
    c.requires.seated,
    (c.requires.home, (c.requires.reader, (c.requires.exact, (c.requires.bag.entries, c.requires.bag.lies)))),
  ),
)

pub returns-in-Some-clause-bag : goal.returns-in-Some-clause-bag
returns-in-Some-clause-bag g c =
    let got = c.in-Some.ensures.list c.requires.bag.entries c.requires.bag.lies in record { entries = got.0; lies = got.1; used = got.2 }

pub returns-in-Some-clause-popped : goal.returns-in-Some-clause-popped
returns-in-Some-clause-popped g c = inl c.in-Some.ensures.popped

pub returns-in-Some-clause-list : goal.returns-in-Some-clause-list
returns-in-Some-clause-list g c = λ es lies. let got = c.in-Some.ensures.list es lies in (got.0, got.1, got.3)

pub returns-clause-popped : goal.returns-clause-popped
returns-clause-popped g c =
    let Bag : Type 0 = BagParts g.row.T.Denot g.row.B.Denot in let bag = c.requires.bag in let was = c.in_default.ensures.popped in
    let w = g.S.Caller.world c.args.s.now in let Same : Type 0 = g.S.Caller.world c.pop_behind.new.s ≡ w in
    let old : Bag =
    record { primary = c.self.inside.primary; overflow = record { stack = c.self.inside.stack; places = c.self.inside.keys } } in
    let new : Bag = record { primary = c.pop.new.self; overflow = old.overflow } in
    let same : old ≡ c.args.self.now = c.self.view_is ∙ was.1 in
    let none : overflow_of old ≡ [] =
    ap (λ (b : Bag). overflow_of b) same
    ∙ none-spilled g.B.Shelf.shown g.row.ARRAY_LEN w c.args.self.now.overflow bag.entries bag.lies (bag.used was.0) in
    subst (λ (b : Bag). MatchOption c.pop.result ((primary_of b ≡ []) × (overflow_of b ≡ []) × (new ≡ b) × Same)
    (λ value. PopsBehind value b new ⊎ PopsInside value b new × Same)) same
    (popped-inside old c.pop.new.self none Same was.2 c.pop.result c.pop.ensures.popped)

pub returns-clause-list : goal.returns-clause-list
returns-clause-list g c = λ es lies.
    let Parts : Type 0 = OverflowParts g.row.T.Denot g.row.B.Denot in let was = c.in_default.ensures.popped in
    let same = ap (λ (b : BagParts g.row.T.Denot g.row.B.Denot). b.overflow) (c.self.view_is ∙ was.1) in
    let shown = g.B.Shelf.shown in let len = g.row.ARRAY_LEN in let w = g.S.Caller.world c.args.s.now in (
      es,
      subst (λ (x : World _). LiesOn shown len x es (record { stack = c.self.inside.stack; places = c.self.inside.keys })) (sym was.2)
          (subst (λ (o : Parts). LiesOn shown len w es o) (sym same) lies),
      inl (was.2, refl),
    )
