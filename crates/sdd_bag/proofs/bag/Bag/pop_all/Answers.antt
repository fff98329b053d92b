use Rattle.std.proofs.Common.{rules, ◌≡◌, ◌<◌, true, false, List, [], ◌++◌, refl, ap, ◌∙◌, sym, subst, arith}
use Rattle.std.proofs.lemmas.List.{append-nil}
use Rattle.sdd_space.specs.CallerId.{CallerId, IsExact, IsSeated}
use Rattle.sdd_lists.specs.declared.stack.Stack.{Stack}
use Rattle.sdd_lists.specs.Lists.{Entry}
use Rattle.sdd_lists.specs.Stack.{cell_in, home_in}
use Rattle.sdd_lists.proofs.MoreWaiting.{knows-same}
use Rattle.sdd_bag.specs.Overflow.{LiesOn, OverflowParts, RemovesStorage, RemovesStorages, spilled_in}
use Rattle.sdd_bag.specs.Primary.{PrimaryParts, held_by}
use Rattle.sdd_bag.specs.Values.{AreInSomeOrder}
use Rattle.sdd_bag.specs.Bag.{BagParts, overflow_of, primary_of}
use Rattle.sdd_bag.proofs.EmptiedBag.{removes-more, used-there}
use Rattle.sdd_bag.proofs.Prefixes.{some-long}
use Rattle.sdd_bag.proofs.Unmoved.{moves-on}
use Rattle.sdd_bag.proofs.Overflow.{no-storage, none-spilled}
use Rattle.sdd_bag.proofs.bag.Bag.pop_all.Goals as goal

pub loop-self-init : goal.loop-self-init
loop-self-init g c = record {
  unmoved = record { caller = refl; known = knows-same (g.S.Caller.known c.args.s.now); shown = λ k v was. was };
  own = λ start grown. grown;
  cells = record { storage = refl; stack = refl };
  primary = refl;
  bag = c.requires.bag;
  callable = c.requires.callable;
  folds = λ others vs r order folded. (vs, order, folded);
  list = λ es lies. (es, lies, λ new removed. removed);
}

pub fold_storage-next-requires : goal.fold_storage-next-requires
fold_storage-next-requires g c =
    let inv = c.loop-self.invariant in let at = inv.unmoved.caller in (
      search rules,
      (
        record {
          seated = subst (λ (s : CallerId). IsSeated s) (sym at) c.requires.seated;
          exact = subst (λ (s : CallerId). IsExact s) (sym at) c.requires.exact;
          reads = c.requires.reader ∙ ap (λ (s : CallerId). s.reader) (sym at);
          home =
              ap (λ (stack : Stack g.row.B.Denot). home_in stack) inv.cells.stack ∙ c.requires.home ∙ ap (λ (s : CallerId). s.home.cells) (sym at);
          lies = (inv.bag.entries, inv.bag.lies);
          some = λ empty. let never : false ≡ true = c.loop-self-test.ensures.1 empty in absurd (cc);
        },
        inv.callable,
      ),
    )

pub loop-self-smaller : goal.loop-self-smaller
loop-self-smaller g c = omega (arith, c.fold_storage-next.ensures.fewer)

pub loop-self-preserved : goal.loop-self-preserved
loop-self-preserved g c =
    let inv = c.loop-self.invariant in let did = c.fold_storage-next.ensures in let shown = g.B.Shelf.shown in let len = g.row.ARRAY_LEN in
    let got = did.list inv.bag.entries inv.bag.lies in let now = g.S.Caller.world c.fold_storage-next.new.s in
    let long : 0 < len =
    some-long len c.loop-self.self.overflow.places
    (λ empty. let never : false ≡ true = c.loop-self-test.ensures.1 empty in absurd (cc)) in
    record {
      unmoved = moves-on g.S.Caller.caller g.S.Caller.known g.S.Shows.shows c.args.s.now c.loop-self.s c.fold_storage-next.new.s inv.unmoved did.unmoved;
      own = λ start grown. did.own start (inv.own start grown);
      cells = record { storage = did.cells.storage ∙ inv.cells.storage; stack = did.cells.stack ∙ inv.cells.stack };
      primary = did.primary ∙ inv.primary;
      bag = record {
        entries = got.0;
        lies = got.2;
        used = λ none. no-storage shown len now c.fold_storage-next.new.self.overflow got.0 long got.2 did.full none;
      };
      callable = did.callable;
      folds = λ others vs r order folded. let mid = did.folded others vs r order folded in inv.folds others mid.0 r mid.1 mid.2;
      list = λ es lies.
          let w = g.S.Caller.world c.loop-self.s in let p = (g.S.Caller.caller c.args.s.now).place in let old = c.loop-self.self.overflow in
          let was = inv.list es lies in let more = did.list was.0 was.1 in
          let one = subst (λ (s : CallerId). RemovesStorage w s.place (cell_in old.stack) was.0 now more.0) inv.unmoved.caller more.1 in (
            more.0,
            more.2,
            λ new removed.
                let rest = subst (λ (stack : Stack g.row.B.Denot). RemovesStorages now p (cell_in stack) more.0 new) did.cells.stack removed in
                was.2 new (removes-more w now new p (cell_in old.stack) was.0 more.0 one rest),
          );
    }

pub returns-clause-bag : goal.returns-clause-bag
returns-clause-bag g c =
    let inv = c.loop-self.invariant in let w = g.S.Caller.world c.loop-self.s in
    record {
      entries = inv.bag.entries;
      lies =
          subst (λ (o : OverflowParts g.row.T.Denot g.row.B.Denot). LiesOn g.B.Shelf.shown g.row.ARRAY_LEN w inv.bag.entries o)
          (sym c.fold_inside-made.ensures.overflow) inv.bag.lies;
      used = λ empty. inv.bag.used (c.loop-self-test.ensures.0 refl);
    }

pub returns-clause-empty : goal.returns-clause-empty
returns-clause-empty g c =
    let Bag : Type 0 = BagParts g.row.T.Denot g.row.B.Denot in let new : Bag = c.fold_inside-made.new.self in let old : Bag = c.loop-self.self in
    let inv = c.loop-self.invariant in let did = c.fold_inside-made.ensures in
    let none : overflow_of old ≡ [] =
    none-spilled g.B.Shelf.shown g.row.ARRAY_LEN (g.S.Caller.world c.loop-self.s) old.overflow inv.bag.entries inv.bag.lies
    (inv.bag.used (c.loop-self-test.ensures.0 refl)) in
    ap (λ (vs : List g.row.T.Denot). vs ++ overflow_of new) did.empty
    ∙ ap (λ (o : OverflowParts g.row.T.Denot g.row.B.Denot). spilled_in o) did.overflow ∙ none

pub returns-clause-folded : goal.returns-clause-folded
returns-clause-folded g c =
    let Bag : Type 0 = BagParts g.row.T.Denot g.row.B.Denot in let old : Bag = c.loop-self.self in
    let Values : Type 0 = List g.row.T.Denot in
    let inv = c.loop-self.invariant in let did = c.fold_inside-made.ensures in
    let none : overflow_of old ≡ [] =
    none-spilled g.B.Shelf.shown g.row.ARRAY_LEN (g.S.Caller.world c.loop-self.s) old.overflow inv.bag.entries inv.bag.lies
    (inv.bag.used (c.loop-self-test.ensures.0 refl)) in
    let inside = did.folded [] [] c.fold_inside-made.result.0 refl refl in
    let all : primary_of old ++ overflow_of old ≡ primary_of old =
    ap (λ (vs : Values). primary_of old ++ vs) none ∙ append-nil (primary_of old) in
    let order = subst (λ (vs : Values). AreInSomeOrder inside.0 vs) (sym all) inside.1 in
    let got = inv.folds (primary_of old) inside.0 c.fold_inside-made.result.0 order inside.2 in (
      got.0,
      subst (λ (p : PrimaryParts g.row.T.Denot). AreInSomeOrder got.0 (held_by p ++ overflow_of c.args.self.now)) inv.primary got.1,
      got.2,
    )

pub returns-clause-list : goal.returns-clause-list
returns-clause-list g c = λ es lies.
    let inv = c.loop-self.invariant in let bag : BagParts g.row.T.Denot g.row.B.Denot = c.loop-self.self in
    let w = g.S.Caller.world c.loop-self.s in let p = (g.S.Caller.caller c.args.s.now).place in
    let left = inv.list es lies in
    let none = used-there g.B.Shelf.shown g.row.ARRAY_LEN w bag left.0 inv.bag left.1 (c.loop-self-test.ensures.0 refl) in
    left.2 w (subst (λ (fs : List (Entry _)). RemovesStorages w p (cell_in bag.overflow.stack) fs w) (sym none) refl)
