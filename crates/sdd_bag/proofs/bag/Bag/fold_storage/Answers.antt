use Rattle.std.proofs.Common.{rules, ◌≡◌, ◌<◌, List, ◌++◌, length, ap, ◌∙◌, sym, subst, arith}
use Rattle.std.proofs.lemmas.List.{length-drop}
use Rattle.sdd_bag.specs.Storage.{KeptPlace, values_in}
use Rattle.sdd_bag.specs.Values.{AreInSomeOrder}
use Rattle.sdd_bag.proofs.Prefixes.{as-long, some-long, some-there}
use Rattle.sdd_bag.proofs.Values.{values-left}
use Rattle.sdd_space.specs.CallerId.{CallerId, IsExact, IsSeated}
use Rattle.sdd_world_model.specs.World.{World}
use Rattle.sdd_lists.specs.declared.stack.Stack.{Stack}
use Rattle.sdd_lists.specs.Stack.{cell_in, home_in}
use Rattle.sdd_lists.proofs.MoreWaiting.{grows-not}
use Rattle.sdd_bag.specs.Overflow.{RemovesStorage}
use Rattle.sdd_bag.specs.Bag.{overflow_of}
use Rattle.sdd_bag.proofs.EntryStandings.{lies-emptied}
use Rattle.sdd_bag.proofs.Unmoved.{moves-on, still}
use Rattle.sdd_bag.proofs.bag.Bag.fold_storage.Goals as goal

pub remove_storage-requires : goal.remove_storage-requires
remove_storage-requires g c =
    let shown = g.B.Shelf.shown in let len = g.row.ARRAY_LEN in let es = c.requires.may.lies.0 in let did = c.fold_front-done.ensures in
    let at = did.undisturbed.caller in let keeps = did.keeps.overflow in
    let w = g.S.Caller.world c.args.s.now in let now = g.S.Caller.world c.fold_front-done.new.s in
    let old = c.args.self.now.overflow in let new = c.fold_front-done.new.self.overflow in
    let here = lies-emptied shown len w now es old new did.world keeps did.behind c.requires.may.lies.1 in
    let some : 0 < length new.places = omega (arith, some-there len old.places c.requires.may.some, as-long old.places new.places keeps.names) in (
      search rules,
      (
        subst (λ (s : CallerId). IsSeated s) (sym at) c.requires.may.seated,
        (
          ap (λ (stack : Stack g.row.B.Denot). home_in stack) keeps.stack ∙ c.requires.may.home ∙ ap (λ (s : CallerId). s.home.cells) (sym at),
          (
            c.requires.may.reads ∙ ap (λ (s : CallerId). s.reader) (sym at),
            (subst (λ (s : CallerId). IsExact s) (sym at) c.requires.may.exact, ((es, here), (some, did.empty))),
          ),
        ),
      ),
    )

pub returns-clause-unmoved : goal.returns-clause-unmoved
returns-clause-unmoved g c =
    let caller = g.S.Caller.caller in let known = g.S.Caller.known in let shows = g.S.Shows.shows in let own = g.S.Caller.own in
    moves-on caller known shows c.args.s.now c.fold_front-done.new.s c.remove_storage.new.s
    (still caller known shows own c.args.s.now c.fold_front-done.new.s c.fold_front-done.ensures.undisturbed) c.remove_storage.ensures.unmoved

pub returns-clause-own : goal.returns-clause-own
returns-clause-own g c = λ start grown.
    c.remove_storage.ensures.own start (grows-not (g.S.Caller.own c.args.s.now) _ c.fold_front-done.ensures.undisturbed.own start grown)

pub returns-clause-fewer : goal.returns-clause-fewer
returns-clause-fewer g c =
    let old = c.args.self.now.overflow.places in let new = c.fold_front-done.new.self.overflow.places in
    omega (
      arith,
      ap (λ (ps : List (KeptPlace g.row.T.Denot)). length ps) c.remove_storage.ensures.places,
      length-drop g.row.ARRAY_LEN new,
      as-long old new c.fold_front-done.ensures.keeps.overflow.names,
      some-there g.row.ARRAY_LEN old c.requires.may.some,
      some-long g.row.ARRAY_LEN old c.requires.may.some,
    )

pub returns-clause-folded : goal.returns-clause-folded
returns-clause-folded g c = λ others vs result order folded.
    let now = c.fold_front-done.new.self.overflow.places in
    let left : overflow_of c.remove_storage.new.self ≡ overflow_of c.fold_front-done.new.self =
    ap (λ (ps : List (KeptPlace g.row.T.Denot)). values_in ps) c.remove_storage.ensures.places
    ∙ values-left g.row.ARRAY_LEN now c.fold_front-done.ensures.empty in
    c.fold_front-done.ensures.folded others vs result (subst (λ (ws : List _). AreInSomeOrder vs (others ++ ws)) left order) folded

pub returns-clause-list : goal.returns-clause-list
returns-clause-list g c = λ es lies.
    let shown = g.B.Shelf.shown in let len = g.row.ARRAY_LEN in let did = c.fold_front-done.ensures in
    let at = did.undisturbed.caller in let keeps = did.keeps.overflow in
    let w = g.S.Caller.world c.args.s.now in let now = g.S.Caller.world c.fold_front-done.new.s in let new = g.S.Caller.world c.remove_storage.new.s in
    let old = c.args.self.now.overflow in let between = c.fold_front-done.new.self.overflow in
    let got = c.remove_storage.ensures.list es (lies-emptied shown len w now es old between did.world keeps did.behind lies) in (
      got.0,
      subst (λ (stack : Stack g.row.B.Denot). RemovesStorage w (g.S.Caller.caller c.args.s.now).place (cell_in stack) es new got.0) keeps.stack
          (subst (λ (s : CallerId). RemovesStorage w s.place (cell_in between.stack) es new got.0) at
          (subst (λ (x : World _). RemovesStorage x (g.S.Caller.caller c.fold_front-done.new.s).place (cell_in between.stack) es new got.0)
          did.world got.1)),
      got.2,
    )
