use Rattle.std.proofs.Common.{rules, ◌≡◌, ◌<◌, List, length, ap, ◌∙◌, sym, subst, arith}
use Rattle.sdd_bag.specs.Storage.{AreEmpty, KeptPlace}
use Rattle.sdd_space.specs.CallerId.{CallerId, IsExact}
use Rattle.sdd_space.specs.Shared.{slot_of}
use Rattle.sdd_world_model.specs.World.{standing_at}
use Rattle.sdd_world_model.specs.WorldChanges.{owner_given}
use Rattle.sdd_lists.specs.Stack.{cell_in}
use Rattle.sdd_lists.proofs.MoreWaiting.{grows-if}
use Rattle.sdd_bag.specs.Overflow.{LiesOn, OverflowParts, RemovesStorage}
use Rattle.sdd_bag.specs.Bag.{BagParts}
use Rattle.sdd_bag.proofs.StackStorages.{none-there}
use Rattle.sdd_bag.proofs.StorageRemoval.{given-there, lies-removed, not-crowded, removes}
use Rattle.sdd_bag.proofs.Unmoved.{moves-on}
use Rattle.sdd_bag.proofs.bag.Bag.remove_storage.Goals as goal

pub unreachable-requires : goal.unreachable-requires
unreachable-requires g c =
    let Parts : Type 0 = OverflowParts g.row.T.Denot g.row.B.Denot in
    let view = ap (λ (b : BagParts g.row.T.Denot g.row.B.Denot). b.overflow) c.self.view_is in
    let w = g.S.Caller.world c.args.s.now in let shown = g.B.Shelf.shown in let len = g.row.ARRAY_LEN in
    let es = c.requires.lies.0 in let o : Parts = c.args.self.now.overflow in
    let here : LiesOn shown len w es (record { stack = c.self.inside.stack; places = c.self.inside.keys }) =
    subst (λ (x : Parts). LiesOn shown len w es x) (sym view) c.requires.lies.1 in
    let none = rw c.in-Ok-None.field-0-is at (c.in-Ok-None.ensures.list c.requires.exact es here.stack) in
    let gone : length o.places ≡ 0 = ap length (none-there shown len w es o c.requires.lies.1 none.none) in
    let some : 0 < length o.places = c.requires.some in
    absurd (omega (arith, gone, some))

pub remove_places-requires : goal.remove_places-requires
remove_places-requires g c =
    let Places : Type 0 = List (KeptPlace g.row.T.Denot) in
    let view = ap (λ (b : BagParts g.row.T.Denot g.row.B.Denot). b.overflow.places) c.self.view_is in
    let some = subst (λ (ps : Places). 0 < length ps) (sym view) c.requires.some in
    let empty = subst (λ (ps : Places). AreEmpty g.row.ARRAY_LEN ps) (sym view) c.requires.empty in
    (search rules, (some, empty))

pub returns-clause-unmoved : goal.returns-clause-unmoved
returns-clause-unmoved g c =
    moves-on g.S.Caller.caller g.S.Caller.known g.S.Shows.shows c.args.s.now c.pop.new.s c.release.new.s c.in-Ok-Some.ensures.unmoved c.release.ensures.unmoved

pub returns-clause-own : goal.returns-clause-own
returns-clause-own g c = λ start grown.
    grows-if c.release.result (slot_of c.in-Ok-Some.owner) _ _ c.release.ensures.own start (c.in-Ok-Some.ensures.own start grown)

pub unreachable-requires-in-Err : goal.unreachable-requires-in-Err
unreachable-requires-in-Err g c =
    let Parts : Type 0 = OverflowParts g.row.T.Denot g.row.B.Denot in
    let view = ap (λ (b : BagParts g.row.T.Denot g.row.B.Denot). b.overflow) c.self.view_is in
    let w = g.S.Caller.world c.args.s.now in let shown = g.B.Shelf.shown in let len = g.row.ARRAY_LEN in
    let es = c.requires.lies.0 in let o : Parts = record { stack = c.self.inside.stack; places = c.self.inside.keys } in
    let here = subst (λ (x : Parts). LiesOn shown len w es x) (sym view) c.requires.lies.1 in
    let crowd = c.in-Err.ensures.list c.requires.exact es here.stack in
    not-crowded shown len w es o here crowd.0 crowd.1 crowd.2 c.in-Err.field-0 (g.S.Caller.world c.pop.new.s) crowd.3

pub returns-clause-list : goal.returns-clause-list
returns-clause-list g c = λ es lies.
    let Parts : Type 0 = OverflowParts g.row.T.Denot g.row.B.Denot in let Places : Type 0 = List (KeptPlace g.row.T.Denot) in
    let view = ap (λ (b : BagParts g.row.T.Denot g.row.B.Denot). b.overflow) c.self.view_is in
    let e = c.requires.exact in let shown = g.B.Shelf.shown in let len = g.row.ARRAY_LEN in
    let w = g.S.Caller.world c.args.s.now in let between = g.S.Caller.world c.pop.new.s in let new = g.S.Caller.world c.release.new.s in
    let o : Parts = record { stack = c.self.inside.stack; places = c.self.inside.keys } in
    let here : LiesOn shown len w es o = subst (λ (x : Parts). LiesOn shown len w es x) (sym view) lies in
    let owner = c.in-Ok-Some.owner in let at = c.in-Ok-Some.ensures.unmoved.caller in let p = (g.S.Caller.caller c.args.s.now).place in
    let popped = rw c.in-Ok-Some.field-0-is at (c.in-Ok-Some.ensures.list e es here.stack) in
    let k = popped.0.slot in let rest = popped.1 in let taken = popped.3 in
    let released = (c.release.ensures.released (subst (λ (s : CallerId). IsExact s) (sym at) e)).world in
    let there : new ≡ owner_given between p (slot_of owner) (standing_at between (slot_of owner)) =
    released ∙ ap (λ (s : CallerId). owner_given between s.place (slot_of owner) (standing_at between (slot_of owner))) at in
    let is = given-there between new p (slot_of owner) k taken.slot there in (
      rest,
      subst (λ (x : Parts). RemovesStorage w p (cell_in x.stack) es new rest) view
          (removes shown len w es o here popped.0 rest popped.2 between new p owner taken is),
      subst (λ (ps : Places). LiesOn shown len new rest (record { stack = c.self.inside.stack; places = ps })) (sym c.remove_places.ensures.places)
          (lies-removed shown len w es o here popped.0 rest popped.2 between new p owner taken is),
    )
