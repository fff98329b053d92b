use Rattle.std.proofs.Common.{◌∙◌, ap, sym, subst}
use Rattle.sdd_space.specs.CallerId.{CallerId, IsExact}
use Rattle.sdd_world_model.specs.World.{World}
use Rattle.sdd_lists.specs.Entries.{link_of}
use Rattle.sdd_lists.specs.Lists.{AreLinked, left}
use Rattle.sdd_lists.proofs.WalkPositions.{linked-left}
use Rattle.sdd_bag.proofs.FirstStorage.{front-shelf, front-storage, no-shelf, no-storage-shown}
use Rattle.sdd_bag.proofs.front.first_storage.Goals as goal

pub returns-in-Some-clause-list : goal.returns-in-Some-clause-list
returns-in-Some-clause-list g c = λ e es list.
    let t = c.peek.new.s in
    let exact : IsExact (g.S.Caller.caller t) = subst (λ (s : CallerId). IsExact s) (sym c.peek.ensures.undisturbed.caller) e in
    let same = c.peek.ensures.world e in
    let linked = subst (λ (w : World _). AreLinked link_of w (left es)) (sym same) (linked-left link_of (g.S.Caller.world c.args.s.now) es list.linked) in
    let found = front-shelf (g.S.Caller.world t) (g.S.Shows.shows t) (λ k v shown. (g.met.S.Caller.shows_is_value t exact k v).0 shown)
    c.peek.result c.peek.ensures.shown (left es) linked (c.peek.ensures.list e es list) c.in-Some.entry.now c.in-Some.ensures.shown in
    front-storage g.B.Shelf.shown (left es) found.0 found.1 found.2 c.storage.result
    (c.storage.ensures ∙ ap g.B.Shelf.shown (c.as_ref-in-Some.ensures ∙ found.3))

pub returns-in-None-clause-list : goal.returns-in-None-clause-list
returns-in-None-clause-list g c = λ e es list.
    let t = c.peek.new.s in
    let exact : IsExact (g.S.Caller.caller t) = subst (λ (s : CallerId). IsExact s) (sym c.peek.ensures.undisturbed.caller) e in
    no-storage-shown g.B.Shelf.shown (left es) (no-shelf (g.S.Caller.world t) (g.S.Shows.shows t)
    (λ k v shown. (g.met.S.Caller.shows_is_value t exact k v).0 shown)
    c.peek.result c.peek.ensures.shown (left es) (c.peek.ensures.list e es list) c.in-None.ensures.shown)
