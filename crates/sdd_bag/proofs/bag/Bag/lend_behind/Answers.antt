use Rattle.std.proofs.Common.{rules, ◌≡◌, ◌++◌, List, None, length, slice_get, is_some, refl, ap, ◌∙◌, sym, subst, inl, inr, arith}
use Rattle.sdd_space.specs.CallerId.{IsExact}
use Rattle.sdd_lists.specs.Iter.{GivesInOrder, space_of}
use Rattle.sdd_lists.specs.Lists.{Entry}
use Rattle.sdd_lists.specs.Walk.{shown_of}
use Rattle.sdd_bag.specs.KeyedPlaces.{PlaceName}
use Rattle.sdd_bag.specs.Bag.{BagParts, overflow_of}
use Rattle.sdd_bag.specs.Changing.{ChangesEach}
use Rattle.sdd_bag.specs.Overflow.{AreShelves, LiesOn, OverflowParts, places_in, places_on}
use Rattle.sdd_bag.specs.Storage.{value_at, values_in}
use Rattle.sdd_bag.specs.Storages.{places_shown}
use Rattle.sdd_bag.proofs.Changing.{each-changed, none-changed}
use Rattle.sdd_bag.proofs.InsertedKeys.{get-front}
use Rattle.sdd_bag.proofs.Lent.{key-next, keys-behind, next-shelf, none-behind, none-next}
use Rattle.sdd_bag.proofs.Prefixes.{as-long}
use Rattle.sdd_bag.proofs.bag.Bag.lend_behind.Goals as goal

pub loop-shelf-init : goal.loop-shelf-init
loop-shelf-init g c =
    let Parts : Type 0 = OverflowParts g.row.T.Denot g.row.B.Denot in let es = c.requires.lies.0 in let storages = c.iter_unguarded-storages in
    let w = g.S.Caller.world c.args.s.now in let shown = g.B.Shelf.shown in let len = g.row.ARRAY_LEN in
    let view = ap (λ (b : BagParts g.row.T.Denot g.row.B.Denot). b.overflow) c.self.view_is in
    let lies = subst (λ (o : Parts). LiesOn shown len w es o) (sym view) c.requires.lies.1 in
    record {
      can = search rules;
      finite = tt;
      callable = c.requires.callable;
      space = storages.ensures.space;
      start = inl refl;
      primary = refl;
      stack = refl;
      names = refl;
      same = λ k. refl;
      changed = none-changed g.F.FnMut c.args.change c.self.inside.keys;
      left = (
        es,
        lies.shelves,
        subst (λ (sp : g.row.S.Denot). GivesInOrder (g.S.Caller.world sp) storages.result (shown_of es)) (sym storages.ensures.space)
            (storages.ensures.list c.requires.exact (shown_of es) (es, lies.stack, refl)),
        lies.keys,
      );
    }

pub unreachable-requires : goal.unreachable-requires
unreachable-requires g c =
    let inv = c.loop-shelf.invariant in let shown = g.B.Shelf.shown in let len = g.row.ARRAY_LEN in let w = g.S.Caller.world c.args.s.now in
    let exact = subst (λ (sp : g.row.S.Denot). IsExact (g.S.Caller.caller sp)) (sym inv.space) c.requires.exact in
    let got = c.in-Some.ensures.steps.gives exact (shown_of inv.left.0) inv.left.2 in
    let next = next-shelf shown len w inv.left.0 c.in-Some.shelf.now inv.left.1 got.0 in
    let are = subst (λ (es : List (Entry _)). AreShelves shown len w es) next.entries inv.left.1 in
    let none : shown c.in-Some.shelf.now ≡ None = sym c.in_default-storage.ensures in
    let long : length (places_in shown len next.first) ≡ 0 =
    ap (λ x. length (places_shown (shown x))) next.value ∙ ap (λ s. length (places_shown s)) none in
    omega (arith, long, are.0.long, c.self.invariant.0)

pub lend_array-change-requires : goal.lend_array-change-requires
lend_array-change-requires g c =
    let inv = c.loop-shelf.invariant in let shown = g.B.Shelf.shown in let len = g.row.ARRAY_LEN in let w = g.S.Caller.world c.args.s.now in
    let exact = subst (λ (sp : g.row.S.Denot). IsExact (g.S.Caller.caller sp)) (sym inv.space) c.requires.exact in
    let got = c.in-Some.ensures.steps.gives exact (shown_of inv.left.0) inv.left.2 in
    let next = next-shelf shown len w inv.left.0 c.in-Some.shelf.now inv.left.1 got.0 in
    let are = subst (λ (es : List (Entry _)). AreShelves shown len w es) next.entries inv.left.1 in
    let here : c.places.result.now ≡ places_in shown len next.first =
    c.places.ensures ∙ ap places_shown c.in-Some-storage.ensures ∙ ap (λ x. places_shown (shown x)) (sym next.value) in
    let names = inv.left.3 ∙ ap (λ (es : List (Entry _)). places_on shown len es) next.entries in
    let rest = places_on shown len next.rest in (
      search rules,
      (
        search rules,
        (
          inv.start,
          (
            ap (λ (ns : List PlaceName). length ns) here ∙ are.0.long,
            (
              (λ k name there.
                  sym (key-next c.loop-shelf.self-inside.keys c.loop-shelf.start (places_in shown len next.first ++ rest) names k)
                  ∙ get-front (places_in shown len next.first) rest k name (ap (λ (ns : List PlaceName). slice_get ns k) (sym here) ∙ there)),
              inv.callable,
            ),
          ),
        ),
      ),
    )

pub loop-shelf-preserved : goal.loop-shelf-preserved
loop-shelf-preserved g c =
    let inv = c.loop-shelf.invariant in let shown = g.B.Shelf.shown in let len = g.row.ARRAY_LEN in let w = g.S.Caller.world c.args.s.now in
    let steps = c.in-Some.ensures.steps in let did = c.lend_array-change.ensures in let after = c.next.new.self in
    let exact = subst (λ (sp : g.row.S.Denot). IsExact (g.S.Caller.caller sp)) (sym inv.space) c.requires.exact in
    let got = steps.gives exact (shown_of inv.left.0) inv.left.2 in
    let next = next-shelf shown len w inv.left.0 c.in-Some.shelf.now inv.left.1 got.0 in
    let are = subst (λ (es : List (Entry _)). AreShelves shown len w es) next.entries inv.left.1 in
    let names = inv.left.3 ∙ ap (λ (es : List (Entry _)). places_on shown len es) next.entries in
    let same-space : space_of after ≡ space_of c.loop-shelf.storages = ap (λ s. s.now) steps.space in
    record {
      can = steps.home inv.can;
      finite = tt;
      callable = did.callable;
      space = same-space ∙ inv.space;
      start = inr (omega arith);
      primary = inv.primary;
      stack = inv.stack;
      names = did.names ∙ inv.names;
      same = λ k. did.same k ∙ inv.same k;
      changed = did.changed c.args.change c.self.inside.keys inv.changed;
      left = (
        next.rest,
        are.2,
        subst (λ (sp : g.row.S.Denot). GivesInOrder (g.S.Caller.world sp) after (shown_of next.rest)) (sym same-space)
            (subst (λ vs. GivesInOrder (g.S.Caller.world (space_of c.loop-shelf.storages)) after vs) next.behind got.1),
        keys-behind c.loop-shelf.self-inside.keys c.lend_array-change.new.self c.loop-shelf.start len (places_in shown len next.first)
            (places_on shown len next.rest) did.names are.0.long names,
      );
    }

pub returns-clause-same : goal.returns-clause-same
returns-clause-same g c = λ k.
    c.loop-shelf.invariant.same k ∙ ap (λ (b : BagParts g.row.T.Denot g.row.B.Denot). is_some (value_at b.overflow.places k)) c.self.view_is

pub returns-clause-changed : goal.returns-clause-changed
returns-clause-changed g c =
    let inv = c.loop-shelf.invariant in let shown = g.B.Shelf.shown in let len = g.row.ARRAY_LEN in let w = g.S.Caller.world c.args.s.now in
    let exact = subst (λ (sp : g.row.S.Denot). IsExact (g.S.Caller.caller sp)) (sym inv.space) c.requires.exact in
    let got = c.in_default.ensures.steps.gives exact (shown_of inv.left.0) inv.left.2 in
    let none = none-next shown len w inv.left.0 inv.left.1 got.0 in
    let ps = c.self.inside.keys in let qs = c.loop-shelf.self-inside.keys in
    let all = none-behind qs c.loop-shelf.start (inv.left.3 ∙ ap (λ (es : List (Entry _)). places_on shown len es) none) in
    subst (λ (b : BagParts g.row.T.Denot g.row.B.Denot). ChangesEach g.F.FnMut c.args.change (overflow_of b) (values_in qs) c.loop-shelf.change) c.self.view_is
    (each-changed g.F.FnMut c.loop-shelf.start c.args.change ps qs c.loop-shelf.change (omega (arith, all, as-long ps qs inv.names)) inv.changed)
