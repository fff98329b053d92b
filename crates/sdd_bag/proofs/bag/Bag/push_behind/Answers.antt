use Rattle.std.proofs.Common.{rules, ◌≡◌, inl, inr, List, Some, ap, ◌∙◌, sym, subst}
use Rattle.sdd_bag.specs.Storage.{AreFull, KeptPlace, values_in}
use Rattle.sdd_bag.specs.Values.{HasOneMore}
use Rattle.sdd_space.specs.CallerId.{CallerId, IsExact, IsSeated}
use Rattle.sdd_world_model.specs.World.{World}
use Rattle.sdd_lists.specs.Stack.{home_in}
use Rattle.sdd_lists.proofs.MoreWaiting.{grows-not}
use Rattle.sdd_bag.specs.Overflow.{AddsStorage, LiesOn, RefusesStorage}
use Rattle.sdd_bag.specs.Bag.{BagParts, overflow_of}
use Rattle.sdd_bag.proofs.PrimaryChanges.{new-values, not-empty, not-full}
use Rattle.sdd_bag.proofs.EntryStandings.{lies-kept}
use Rattle.sdd_bag.proofs.Unmoved.{moves-on, still}
use Rattle.sdd_bag.proofs.bag.Bag.push_behind.Goals as goal

pub returns-in-Ok-clause-pushed : goal.returns-in-Ok-clause-pushed
returns-in-Ok-clause-pushed g c =
    let in-it = c.in-Ok.ensures.pushed in (
      in-it.1,
      not-empty g.row.ARRAY_LEN c.args.self.now.overflow.places c.push_front.new.self.overflow.places in-it.0.0 c.args.value in-it.0.1 in-it.0.2.inside
          in-it.0.3,
    )

pub returns-in-Ok-clause-list : goal.returns-in-Ok-clause-list
returns-in-Ok-clause-list g c = λ es lies.
    let in-it = c.in-Ok.ensures.pushed.0 in (
      es,
      lies-kept g.B.Shelf.shown g.row.ARRAY_LEN (g.S.Caller.world c.args.s.now) (g.S.Caller.world c.push_front.new.s) es c.args.self.now.overflow
          c.push_front.new.self.overflow c.in-Ok.ensures.world c.in-Ok.ensures.keeps.overflow in-it.0 (Some c.args.value) in-it.1 in-it.3 lies,
      inl c.in-Ok.ensures.world,
    )

pub add_storage-requires : goal.add_storage-requires
add_storage-requires g c =
    let Bag : Type 0 = BagParts g.row.T.Denot g.row.B.Denot in
    let shown = g.B.Shelf.shown in let len = g.row.ARRAY_LEN in let es = c.requires.lies.0 in
    let at = c.in-Err.ensures.undisturbed.caller in let same = c.in-Err.ensures.pushed.2 in
    let here = subst (λ (w : World _). LiesOn shown len w es c.args.self.now.overflow) (sym c.in-Err.ensures.world) c.requires.lies.1 in (
      search rules,
      (
        subst (λ (s : CallerId). IsSeated s) (sym at) c.requires.seated,
        (
          ap (λ (b : Bag). home_in b.overflow.stack) same ∙ c.requires.home ∙ ap (λ (s : CallerId). s.home.cells) (sym at),
          (
            c.requires.reader ∙ ap (λ (s : CallerId). s.reader) (sym at),
            (
              subst (λ (s : CallerId). IsExact s) (sym at) c.requires.exact,
              (
                (es, subst (λ (b : Bag). LiesOn shown len (g.S.Caller.world c.push_front.new.s) es b.overflow) (sym same) here),
                subst (λ (b : Bag). AreFull len b.overflow.places) (sym same) c.in-Err.ensures.pushed.1,
              ),
            ),
          ),
        ),
      ),
    )

pub returns-in-Err-add_storage-clause-unmoved : goal.returns-in-Err-add_storage-clause-unmoved
returns-in-Err-add_storage-clause-unmoved g c =
    let caller = g.S.Caller.caller in let known = g.S.Caller.known in let shows = g.S.Shows.shows in let own = g.S.Caller.own in
    moves-on caller known shows c.args.s.now c.push_front.new.s c.add_storage.new.s
    (still caller known shows own c.args.s.now c.push_front.new.s c.in-Err.ensures.undisturbed) c.in-Err-add_storage.ensures.unmoved

pub returns-in-Err-add_storage-clause-own : goal.returns-in-Err-add_storage-clause-own
returns-in-Err-add_storage-clause-own g c = λ start grown.
    c.in-Err-add_storage.ensures.own start (grows-not (g.S.Caller.own c.args.s.now) _ c.in-Err.ensures.undisturbed.own start grown)

pub returns-in-Err-add_storage-clause-pushed : goal.returns-in-Err-add_storage-clause-pushed
returns-in-Err-add_storage-clause-pushed g c =
    let why = c.in-Err-add_storage.refused in (
      c.in-Err.ensures.pushed.0,
      c.in-Err-add_storage.ensures.same ∙ c.in-Err.ensures.pushed.2,
      c.in-Err-add_storage.ensures.refused.0 ∙ c.in-Err.ensures.world,
      subst (λ (w : World _). RefusesStorage w why) c.in-Err.ensures.world c.in-Err-add_storage.ensures.refused.1,
      c.in-Err.ensures.pushed.1,
    )

pub push_front-requires-2 : goal.push_front-requires-2
push_front-requires-2 g c =
    let Bag : Type 0 = BagParts g.row.T.Denot g.row.B.Denot in
    let shown = g.B.Shelf.shown in let len = g.row.ARRAY_LEN in let es = c.requires.lies.0 in
    let same = c.in-Err.ensures.pushed.2 in
    let at = c.in-Ok-add_storage.ensures.unmoved.caller ∙ c.in-Err.ensures.undisturbed.caller in
    let here = subst (λ (w : World _). LiesOn shown len w es c.args.self.now.overflow) (sym c.in-Err.ensures.world) c.requires.lies.1 in
    let got = c.in-Ok-add_storage.ensures.list es
    (subst (λ (b : Bag). LiesOn shown len (g.S.Caller.world c.push_front.new.s) es b.overflow) (sym same) here) in (
      search rules,
      (
        subst (λ (s : CallerId). IsSeated s) (sym at) c.requires.seated,
        (
          ap home_in c.in-Ok-add_storage.ensures.added.stack ∙ ap (λ (b : Bag). home_in b.overflow.stack) same ∙ c.requires.home
              ∙ ap (λ (s : CallerId). s.home.cells) (sym at),
          (
            c.requires.reader ∙ ap (λ (s : CallerId). s.reader) (sym at),
            (subst (λ (s : CallerId). IsExact s) (sym at) c.requires.exact, (got.0, got.2)),
          ),
        ),
      ),
    )

pub unreachable-requires : goal.unreachable-requires
unreachable-requires g c =
    let more = c.in-Ok-add_storage.ensures.added in
    not-full g.row.ARRAY_LEN more.names c.push_front.new.self.overflow.places c.add_storage.new.self.overflow.places c.self.invariant.0 more.long
    more.places c.in-Err-push_front.ensures.pushed.1

pub returns-clause-unmoved : goal.returns-clause-unmoved
returns-clause-unmoved g c =
    let caller = g.S.Caller.caller in let known = g.S.Caller.known in let shows = g.S.Shows.shows in let own = g.S.Caller.own in
    moves-on caller known shows c.args.s.now c.add_storage.new.s c.push_front-2.new.s
    (moves-on caller known shows c.args.s.now c.push_front.new.s c.add_storage.new.s
    (still caller known shows own c.args.s.now c.push_front.new.s c.in-Err.ensures.undisturbed) c.in-Ok-add_storage.ensures.unmoved)
    (still caller known shows own c.add_storage.new.s c.push_front-2.new.s c.in-Ok-push_front.ensures.undisturbed)

pub returns-clause-own : goal.returns-clause-own
returns-clause-own g c = λ start grown.
    grows-not (g.S.Caller.own c.add_storage.new.s) _ c.in-Ok-push_front.ensures.undisturbed.own start
    (c.in-Ok-add_storage.ensures.own start (grows-not (g.S.Caller.own c.args.s.now) _ c.in-Err.ensures.undisturbed.own start grown))

pub returns-clause-pushed : goal.returns-clause-pushed
returns-clause-pushed g c =
    let Bag : Type 0 = BagParts g.row.T.Denot g.row.B.Denot in let Places : Type 0 = List (KeptPlace g.row.T.Denot) in
    let in-it = c.in-Ok-push_front.ensures.pushed in let more = c.in-Ok-add_storage.ensures.added in
    let same : overflow_of c.add_storage.new.self ≡ overflow_of c.args.self.now =
    ap (λ (ps : Places). values_in ps) more.places ∙ new-values more.names c.push_front.new.self.overflow.places
    ∙ ap (λ (b : Bag). overflow_of b) c.in-Err.ensures.pushed.2 in
    let new = overflow_of c.push_front-2.new.self in (
      subst (λ (v : g.row.T.Denot). HasOneMore v (overflow_of c.args.self.now) new) c.in-Err.ensures.pushed.0
          (subst (λ (vs : List g.row.T.Denot). HasOneMore c.in-Err.value vs new) same in-it.1),
      not-empty g.row.ARRAY_LEN c.add_storage.new.self.overflow.places c.push_front-2.new.self.overflow.places in-it.0.0 c.in-Err.value in-it.0.1
          in-it.0.2.inside in-it.0.3,
    )

pub returns-clause-list : goal.returns-clause-list
returns-clause-list g c = λ es lies.
    let Bag : Type 0 = BagParts g.row.T.Denot g.row.B.Denot in
    let shown = g.B.Shelf.shown in let len = g.row.ARRAY_LEN in
    let w = g.S.Caller.world c.args.s.now in let w2 = g.S.Caller.world c.add_storage.new.s in let w3 = g.S.Caller.world c.push_front-2.new.s in
    let same = c.in-Err.ensures.pushed.2 in let at = c.in-Err.ensures.undisturbed.caller in
    let here = subst (λ (x : World _). LiesOn shown len x es c.args.self.now.overflow) (sym c.in-Err.ensures.world) lies in
    let got = c.in-Ok-add_storage.ensures.list es
    (subst (λ (b : Bag). LiesOn shown len (g.S.Caller.world c.push_front.new.s) es b.overflow) (sym same) here) in
    let fs = got.0 in let in-it = c.in-Ok-push_front.ensures.pushed.0 in
    let adds = subst (λ (b : Bag). AddsStorage shown (g.S.Caller.world c.push_front.new.s) (g.S.Caller.caller c.push_front.new.s).place
    b.overflow.stack es w2 fs) same got.1 in
    let stack = c.args.self.now.overflow.stack in (
      fs,
      lies-kept shown len w2 w3 fs c.add_storage.new.self.overflow c.push_front-2.new.self.overflow c.in-Ok-push_front.ensures.world
          c.in-Ok-push_front.ensures.keeps.overflow in-it.0 (Some c.in-Err.value) in-it.1 in-it.3 got.2,
      inr (
        c.in-Err.ensures.pushed.1,
        subst (λ (x : World _). AddsStorage shown w (g.S.Caller.caller c.args.s.now).place stack es x fs) (sym c.in-Ok-push_front.ensures.world)
            (subst (λ (s : CallerId). AddsStorage shown w s.place stack es w2 fs) at
            (subst (λ (x : World _). AddsStorage shown x (g.S.Caller.caller c.push_front.new.s).place stack es w2 fs) c.in-Err.ensures.world adds)),
      ),
    )
