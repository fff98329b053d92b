use Rattle.std.proofs.Common.{rules, ◌≡◌, ◌⊎◌, List, length, ap, ◌∙◌, sym, subst}
use Rattle.sdd_bag.specs.Storage.{AreEmpty, AreFull}
use Rattle.sdd_lists.specs.declared.linked_entry.LinkedEntry.{LinkedEntry}
use Rattle.sdd_lists.specs.Lists.{Entry}
use Rattle.sdd_lists.specs.Stack.{home_in}
use Rattle.sdd_bag.specs.Overflow.{AddsStorage, LiesOn, OverflowParts}
use Rattle.sdd_bag.specs.Bag.{BagParts, primary_of}
use Rattle.sdd_bag.specs.Primary.{PrimaryParts}
use Rattle.sdd_bag.proofs.bag.Bag.push.Goals as goal

pub returns-in-Ok-clause-bag : goal.returns-in-Ok-clause-bag
returns-in-Ok-clause-bag g c =
    let Parts : Type 0 = OverflowParts g.row.T.Denot g.row.B.Denot in let len = g.row.ARRAY_LEN in
    let view = ap (λ (b : BagParts g.row.T.Denot g.row.B.Denot). b.overflow) c.self.view_is in
    record {
      entries = c.requires.bag.entries;
      lies = subst (λ (o : Parts). LiesOn g.B.Shelf.shown len (g.S.Caller.world c.args.s.now) c.requires.bag.entries o) (sym view) c.requires.bag.lies;
      used = λ none. c.requires.bag.used (subst (λ (o : Parts). AreEmpty len o.places) view none);
    }

pub push_behind-requires : goal.push_behind-requires
push_behind-requires g c =
    let Parts : Type 0 = OverflowParts g.row.T.Denot g.row.B.Denot in let es = c.requires.bag.entries in
    let view = ap (λ (b : BagParts g.row.T.Denot g.row.B.Denot). b.overflow) c.self.view_is in
    let lies = subst (λ (o : Parts). LiesOn g.B.Shelf.shown g.row.ARRAY_LEN (g.S.Caller.world c.args.s.now) es o) (sym view) c.requires.bag.lies in (
      search rules,
      (
        c.requires.seated,
        (ap (λ (o : Parts). home_in o.stack) view ∙ c.requires.home, (c.requires.reader, (c.requires.exact, (es, lies)))),
      ),
    )

pub returns-in-Ok-push_behind-clause-bag : goal.returns-in-Ok-push_behind-clause-bag
returns-in-Ok-push_behind-clause-bag g c =
    let Parts : Type 0 = OverflowParts g.row.T.Denot g.row.B.Denot in let es = c.requires.bag.entries in
    let view = ap (λ (b : BagParts g.row.T.Denot g.row.B.Denot). b.overflow) c.self.view_is in
    let lies = subst (λ (o : Parts). LiesOn g.B.Shelf.shown g.row.ARRAY_LEN (g.S.Caller.world c.args.s.now) es o) (sym view) c.requires.bag.lies in
    let got = c.in-Ok-push_behind.ensures.list es lies in
    record { entries = got.0; lies = got.1; used = λ none. absurd (c.in-Ok-push_behind.ensures.pushed.1 none) }

pub returns-in-Ok-push_behind-clause-list : goal.returns-in-Ok-push_behind-clause-list
returns-in-Ok-push_behind-clause-list g c = λ es lies.
    let Parts : Type 0 = OverflowParts g.row.T.Denot g.row.B.Denot in let len = g.row.ARRAY_LEN in
    let view = ap (λ (b : BagParts g.row.T.Denot g.row.B.Denot). b.overflow) c.self.view_is in
    let w = g.S.Caller.world c.args.s.now in let new = g.S.Caller.world c.push_behind.new.s in
    let here = subst (λ (o : Parts). LiesOn g.B.Shelf.shown len w es o) (sym view) lies in
    subst (λ (o : Parts). (fs : List (Entry (LinkedEntry g.row.B.Denot))) × LiesOn g.B.Shelf.shown len new fs c.push_behind.new.self.overflow ×
    ((new ≡ w) ⊎ AreFull len o.places × AddsStorage g.B.Shelf.shown w (g.S.Caller.caller c.args.s.now).place o.stack es new fs)) view
    (c.in-Ok-push_behind.ensures.list es here)

pub returns-in-Err-push_behind-clause-pushed : goal.returns-in-Err-push_behind-clause-pushed
returns-in-Err-push_behind-clause-pushed g c =
    let Parts : Type 0 = OverflowParts g.row.T.Denot g.row.B.Denot in let len = g.row.ARRAY_LEN in
    let view = ap (λ (b : BagParts g.row.T.Denot g.row.B.Denot). b.overflow) c.self.view_is in
    let first = c.in-Err.ensures.pushed in let in-it = c.in-Err-push_behind.ensures.pushed in (
      ap (λ (b : BagParts g.row.T.Denot g.row.B.Denot). length (primary_of b)) (sym c.self.view_is) ∙ first.1,
      in-it.0 ∙ first.0,
      in-it.1 ∙ ap (λ (p : PrimaryParts g.row.T.Denot). record {
        primary = p;
        overflow = record { stack = c.self.inside.stack; places = c.self.inside.keys };
      }) first.2 ∙ c.self.view_is,
      in-it.2,
      in-it.3,
      subst (λ (o : Parts). AreFull len o.places) view in-it.4,
    )
