use Rattle.std.proofs.Common.{rules, ◌≡◌, ◌<◌, inl, inr, List, None, true, false, length, drop, refl, ap, ◌∙◌, sym, subst, arith}
use Rattle.sdd_bag.specs.Storage.{AreEmpty, KeptPlace, values_in}
use Rattle.sdd_bag.specs.Values.{HasOneMore}
use Rattle.sdd_bag.proofs.Prefixes.{with-length}
use Rattle.sdd_bag.proofs.Values.{drop-with, values-left}
use Rattle.sdd_space.specs.CallerId.{CallerId, IsExact, IsSeated}
use Rattle.sdd_world_model.specs.World.{World}
use Rattle.sdd_lists.specs.declared.stack.Stack.{Stack}
use Rattle.sdd_lists.specs.Stack.{cell_in, home_in}
use Rattle.sdd_lists.proofs.MoreWaiting.{grows-not}
use Rattle.sdd_bag.specs.Overflow.{RemovesStorage}
use Rattle.sdd_bag.specs.Bag.{overflow_of}
use Rattle.sdd_bag.proofs.EntryStandings.{lies-kept}
use Rattle.sdd_bag.proofs.Unmoved.{moves-on, still}
use Rattle.sdd_bag.proofs.Overflow.{no-storage}
use Rattle.sdd_bag.proofs.bag.Bag.pop_behind.Goals as goal

pub remove_storage-requires : goal.remove_storage-requires
remove_storage-requires g c =
    let shown = g.B.Shelf.shown in let len = g.row.ARRAY_LEN in let es = c.requires.lies.0 in
    let at = c.in-Some.ensures.undisturbed.caller in let keeps = c.in-Some.ensures.keeps.overflow in let was = c.in-Some.ensures.popped.0 in
    let w = g.S.Caller.world c.args.s.now in let now = g.S.Caller.world c.pop_front.new.s in
    let old = c.args.self.now.overflow in let new = c.pop_front.new.self.overflow in
    let here = lies-kept shown len w now es old new c.in-Some.ensures.world keeps was.0 None was.1 was.3 c.requires.lies.1 in
    let long = ap (λ (ps : List (KeptPlace g.row.T.Denot)). length ps) was.3 in
    let some : 0 < length new.places = omega (arith, long, with-length old.places was.0 None, was.2.inside) in
    let none : AreEmpty len new.places = c.is_front_empty-empty.ensures.0 c.if-not-empty.false in (
      search rules,
      (
        subst (λ (s : CallerId). IsSeated s) (sym at) c.requires.seated,
        (
          ap (λ (stack : Stack g.row.B.Denot). home_in stack) keeps.stack ∙ c.requires.home ∙ ap (λ (s : CallerId). s.home.cells) (sym at),
          (
            c.requires.reader ∙ ap (λ (s : CallerId). s.reader) (sym at),
            (subst (λ (s : CallerId). IsExact s) (sym at) c.requires.exact, ((es, here), (some, none))),
          ),
        ),
      ),
    )

pub returns-then-not-empty-clause-list : goal.returns-then-not-empty-clause-list
returns-then-not-empty-clause-list g c = λ es lies.
    let shown = g.B.Shelf.shown in let w = g.S.Caller.world c.args.s.now in let now = g.S.Caller.world c.pop_front.new.s in
    let keeps = c.in-Some.ensures.keeps.overflow in let old = c.args.self.now.overflow in let new = c.pop_front.new.self.overflow in
    let no : c.is_front_empty-empty.result ≡ false = c.if-not-empty.true in let was = c.in-Some.ensures.popped.0 in (
      es,
      lies-kept shown g.row.ARRAY_LEN w now es old new c.in-Some.ensures.world keeps was.0 None was.1 was.3 lies,
      (λ none. let never : false ≡ true = sym no ∙ c.is_front_empty-empty.ensures.1 none in absurd (cc)),
      inl (c.in-Some.ensures.world, refl),
    )

pub returns-clause-unmoved : goal.returns-clause-unmoved
returns-clause-unmoved g c =
    let caller = g.S.Caller.caller in let known = g.S.Caller.known in let shows = g.S.Shows.shows in let own = g.S.Caller.own in
    moves-on caller known shows c.args.s.now c.pop_front.new.s c.remove_storage.new.s
    (still caller known shows own c.args.s.now c.pop_front.new.s c.in-Some.ensures.undisturbed) c.remove_storage.ensures.unmoved

pub returns-clause-own : goal.returns-clause-own
returns-clause-own g c = λ start grown.
    c.remove_storage.ensures.own start (grows-not (g.S.Caller.own c.args.s.now) _ c.in-Some.ensures.undisturbed.own start grown)

pub returns-clause-popped : goal.returns-clause-popped
returns-clause-popped g c =
    let Places : Type 0 = List (KeptPlace g.row.T.Denot) in let got = c.in-Some.ensures.popped in
    let same : overflow_of c.remove_storage.new.self ≡ overflow_of c.pop_front.new.self =
    ap (λ (ps : Places). values_in ps) c.remove_storage.ensures.places
    ∙ values-left g.row.ARRAY_LEN c.pop_front.new.self.overflow.places (c.is_front_empty-empty.ensures.0 c.if-not-empty.false) in
    record {
      inside = c.remove_storage.ensures.primary ∙ c.in-Some.ensures.keeps.primary;
      less = subst (λ (vs : List g.row.T.Denot). HasOneMore c.in-Some.value vs (overflow_of c.args.self.now)) (sym same) got.1;
    }

pub returns-clause-list : goal.returns-clause-list
returns-clause-list g c = λ es lies.
    let Places : Type 0 = List (KeptPlace g.row.T.Denot) in
    let shown = g.B.Shelf.shown in let len = g.row.ARRAY_LEN in
    let w = g.S.Caller.world c.args.s.now in let now = g.S.Caller.world c.pop_front.new.s in let new = g.S.Caller.world c.remove_storage.new.s in
    let at = c.in-Some.ensures.undisturbed.caller in let keeps = c.in-Some.ensures.keeps.overflow in let was = c.in-Some.ensures.popped.0 in
    let old = c.args.self.now.overflow in let between = c.pop_front.new.self.overflow in
    let got = c.remove_storage.ensures.list es (lies-kept shown len w now es old between c.in-Some.ensures.world keeps was.0 None was.1 was.3 lies) in
    let some : 0 < len = omega (arith, was.1) in
    let places = c.remove_storage.ensures.places ∙ ap (λ (ps : Places). drop len ps) was.3 ∙ drop-with len old.places was.0 None was.1 in (
      got.0,
      got.2,
      (λ none. no-storage shown len new c.remove_storage.new.self.overflow got.0 some got.2 c.remove_storage.ensures.full none),
      inr (
        places,
        subst (λ (stack : Stack g.row.B.Denot). RemovesStorage w (g.S.Caller.caller c.args.s.now).place (cell_in stack) es new got.0) keeps.stack
            (subst (λ (s : CallerId). RemovesStorage w s.place (cell_in between.stack) es new got.0) at
            (subst (λ (x : World _). RemovesStorage x (g.S.Caller.caller c.pop_front.new.s).place (cell_in between.stack) es new got.0)
            c.in-Some.ensures.world got.1)),
      ),
    )
