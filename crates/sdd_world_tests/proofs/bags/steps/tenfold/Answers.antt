use Rattle.std.proofs.Common.{rules, ◌≡◌, ◌*◌, ◌+◌, ◌%◌, ℕ, suc, Option, Some, length, refl, sym, ap, ◌∙◌, subst, arith}
use Rattle.std.specs.Prelude.{IfSome, MatchOption}
use Rattle.std.specs.Borrow.{MutBor}
use Rattle.std.proofs.lemmas.Option.{slice_get_within}
use Rattle.sdd_bag.specs.Bag.{BagParts, IsBag, IsOfCells, values_of}
use Rattle.sdd_bag.specs.Storages.{StorageName}
use Rattle.sdd_lists.specs.declared.stack.Stack.{Stack}
use Rattle.sdd_lists.specs.Stack.{home_in}
use Rattle.sdd_bag.specs.IterMut.{Ends, Lends, given, whole}
use Rattle.sdd_bag.proofs.ValuesByNumber.{set-long}
use Rattle.sdd_world_tests.proofs.bags.steps.tenfold.Goals as goal

pub loop-number-init : goal.loop-number-init
loop-number-init g c =
    let begun = c.in-Ok.ensures in
    record {
      cursor = begun.begun.1;
      name = refl;
      space = begun.space;
      cells = record { storage = refl; stack = refl };
      some = omega (arith, begun.given);
    }

pub next-requires : goal.next-requires
next-requires g c = (search rules, c.loop-number.invariant.cursor)

pub loop-number-smaller : goal.loop-number-smaller
loop-number-smaller g c =
    let old = c.loop-number.cursor in let w = c.in-Some.number.now * 10 % 18446744073709551616 in let new = c.next.follows.lender w in
    let lent = subst (λ (r : Option (MutBor ℕ)). IfSome r (λ v. Lends g.B.Shelf.shown g.S.Caller.caller g.S.Caller.world v.now w old new)) c.in-Some.is
    (c.next.follows.holds w) in
    let was = slice_get_within (values_of (whole old)) (given old) c.in-Some.number.now lent.was in
    omega (arith, was, lent.one_more, ap length lent.values, set-long (values_of (whole old)) (given old) w)

pub loop-number-preserved : goal.loop-number-preserved
loop-number-preserved g c =
    let old = c.loop-number.cursor in let w = c.in-Some.number.now * 10 % 18446744073709551616 in let new = c.next.follows.lender w in
    let inv = c.loop-number.invariant in
    let lent = subst (λ (r : Option (MutBor ℕ)). IfSome r (λ v. Lends g.B.Shelf.shown g.S.Caller.caller g.S.Caller.world v.now w old new)) c.in-Some.is
    (c.next.follows.holds w) in
    let was = slice_get_within (values_of (whole old)) (given old) c.in-Some.number.now lent.was in
    record {
      cursor = lent.same.cursor;
      name = lent.same.bag ∙ inv.name;
      space = lent.same.space ∙ inv.space;
      cells = record { storage = lent.cells.storage ∙ inv.cells.storage; stack = lent.cells.stack ∙ inv.cells.stack };
      some = omega (arith, was, lent.one_more, ap length lent.values, set-long (values_of (whole old)) (given old) w);
    }

pub returns : goal.returns
returns g c =
    let Bag : Type 0 = BagParts ℕ g.row.B.Denot in let shown = g.B.Shelf.shown in let caller = g.S.Caller.caller in let world = g.S.Caller.world in
    let old = c.loop-number.cursor in let new = c.next.follows.lender-at-none in let inv = c.loop-number.invariant in let begun = c.in-Ok.ensures.bag in
    let there = c.requires.there in let home = (caller c.args.s.now).home.cells in
    let ends = subst (λ (r : Option (MutBor ℕ)). MatchOption r (Ends shown caller world old new) (λ v. Unit {0})) c.in_default.is
    c.next.follows.holds-at-none in
    let last = c.bag-2-1.given in
    let left : last.0 ≡ whole old =
    last.1 (sym (c.close.ensures.same ∙ ends.rests.same.bag ∙ inv.name ∙ begun.0)) ∙ c.close.ensures.bag ∙ ends.rests.bag in
    record {
      there = record {
        home = subst (λ (b : Bag). IsOfCells home b) (sym left) (record {
          primary = ap (λ (s : StorageName). s.home) inv.cells.storage ∙ ap (λ (b : Bag). b.primary.storage.home) begun.1 ∙ there.home.primary;
          overflow = ap (λ (s : Stack g.row.B.Denot). home_in s) inv.cells.stack ∙ ap (λ (b : Bag). home_in b.overflow.stack) begun.1 ∙ there.home.overflow;
        });
        lies = subst (λ (b : Bag). IsBag shown g.row.LEN (world c.args.s.now) b) (sym left)
            (subst (λ (s : g.row.S.Denot). IsBag shown g.row.LEN (world s) (whole old)) inv.space inv.cursor.bag);
      };
    }
