use Rattle.std.proofs.Common.{rules, ◌≡◌, ◌<◌, ◌++◌, ◌^◌, List, length, map, is_some, ap, ◌∙◌, sym, subst, arith}
use Rattle.sdd_bag.specs.KeyedPlaces.{PlaceName}
use Rattle.sdd_bag.specs.Storage.{AreEmpty, AreFull, KeptPlace, empty_place}
use Rattle.sdd_bag.proofs.Prefixes.{value-new}
use Rattle.sdd_rights.specs.Right.{home_of, number_of}
use Rattle.sdd_rights.specs.declared.right.Right.{Right}
use Rattle.sdd_space.specs.CallerId.{CallerId, IsExact}
use Rattle.sdd_world_model.specs.OwnerOrCell.{SpaceId}
use Rattle.sdd_space.specs.Shared.{slot_of}
use Rattle.sdd_world_model.specs.World.{standing_at}
use Rattle.sdd_world_model.specs.WorldChanges.{owner_given}
use Rattle.sdd_lists.specs.Filling.{AddsOnto}
use Rattle.sdd_lists.specs.Stack.{cell_in}
use Rattle.sdd_lists.proofs.Filling.{added}
use Rattle.sdd_lists.proofs.MoreWaiting.{grows-if}
use Rattle.sdd_bag.specs.Storages.{StorageName, places_shown}
use Rattle.sdd_bag.specs.Overflow.{LiesOn, OverflowParts}
use Rattle.sdd_bag.specs.Bag.{BagParts}
use Rattle.sdd_bag.proofs.PrimaryChanges.{new-long}
use Rattle.sdd_bag.proofs.EntryStandings.{lies-added}
use Rattle.sdd_bag.proofs.Unmoved.{moves-on}
use Rattle.sdd_bag.proofs.bag.Bag.push_storage.Goals as goal

pub add_places-places-requires : goal.add_places-places-requires
add_places-places-requires g c =
    let Places : Type 0 = List (KeptPlace g.row.T.Denot) in
    let view = ap (λ (b : BagParts g.row.T.Denot g.row.B.Denot). b.overflow.places) c.self.view_is in
    let full = subst (λ (ps : Places). AreFull g.row.ARRAY_LEN ps) (sym view) c.requires.full in
    let few = subst (λ (ps : Places). length ps < 2 ^ 80) (sym view) c.requires.few in
    (search rules, (search rules, (full, few)))

pub push-requires-clause-value : goal.push-requires-clause-value
push-requires-clause-value g c =
    let home : SpaceId = (g.S.Caller.caller c.args.s.now).home in
    let of : c.new-storage.result.home ≡ home.cells =
    ap (λ (s : StorageName). s.home) c.new-storage.ensures ∙ ap (λ (r : Right). home_of r) c.right_of_cell.ensures.right ∙ c.requires.cell in
    c.with_storage.ensures.held home (of, tt)

pub remove_places-requires : goal.remove_places-requires
remove_places-requires g c =
    let Places : Type 0 = List (KeptPlace g.row.T.Denot) in
    let names : List PlaceName = c.add_places-places.result in
    let are = c.add_places-places.ensures.places in
    let long = ap (λ (ps : Places). length ps) are in
    let some : 0 < length c.add_places-places.new.self =
    omega (arith, long, new-long names c.self.inside.keys, c.add_places-places.ensures.long, c.self.invariant.0) in
    let empty : AreEmpty g.row.ARRAY_LEN (map empty_place names ++ c.self.inside.keys) =
    λ k near. ap is_some (value-new names c.self.inside.keys k (omega (arith, near, c.add_places-places.ensures.long))) in
    (search rules, (some, subst (λ (ps : Places). AreEmpty g.row.ARRAY_LEN ps) (sym are) empty))

pub returns-in-Ok-clause-unmoved : goal.returns-in-Ok-clause-unmoved
returns-in-Ok-clause-unmoved g c =
    moves-on g.S.Caller.caller g.S.Caller.known g.S.Shows.shows c.args.s.now c.push.new.s c.release.new.s c.in-Ok.ensures.unmoved c.release.ensures.unmoved

pub returns-in-Ok-clause-own : goal.returns-in-Ok-clause-own
returns-in-Ok-clause-own g c = λ start grown.
    grows-if c.release.result (slot_of c.in-Ok.owner) _ _ c.release.ensures.own start (c.in-Ok.ensures.own start grown)

pub returns-in-Ok-clause-list : goal.returns-in-Ok-clause-list
returns-in-Ok-clause-list g c = λ es lies.
    let e = c.requires.exact in let shown = g.B.Shelf.shown in let len = g.row.ARRAY_LEN in
    let Parts : Type 0 = OverflowParts g.row.T.Denot g.row.B.Denot in let Places : Type 0 = List (KeptPlace g.row.T.Denot) in
    let w = g.S.Caller.world c.args.s.now in let between = g.S.Caller.world c.push.new.s in let new = g.S.Caller.world c.release.new.s in
    let view = ap (λ (b : BagParts g.row.T.Denot g.row.B.Denot). b.overflow) c.self.view_is in
    let o : Parts = record { stack = c.self.inside.stack; places = c.self.inside.keys } in
    let here : LiesOn shown len w es o = subst (λ (x : Parts). LiesOn shown len w es x) (sym view) lies in
    let owner = c.in-Ok.owner in let shelf = c.with_storage.result in
    let at = c.in-Ok.ensures.unmoved.caller in let p = (g.S.Caller.caller c.args.s.now).place in
    let pushes = c.in-Ok.ensures.list e es here.stack in
    let released = (c.release.ensures.released (subst (λ (s : CallerId). IsExact s) (sym at) e)).world in
    let is : new ≡ owner_given between p (slot_of owner) (standing_at between (slot_of owner)) =
    released ∙ ap (λ (s : CallerId). owner_given between s.place (slot_of owner) (standing_at between (slot_of owner))) at in
    let add = added w between new p (cell_in c.self.inside.stack) es shelf owner pushes is in
    let names : List PlaceName = c.add_places-places.result in
    let on : places_shown (shown shelf) ≡ names = ap places_shown c.with_storage.ensures.shown ∙ ap (λ (s : StorageName). s.places) c.new-storage.ensures in
    let right = c.right_of_cell.ensures.right in (
      shelf,
      c.new-storage.result,
      c.with_storage.ensures.shown,
      ap (λ (s : StorageName). s.cell) c.new-storage.ensures ∙ ap (λ (r : Right). number_of r) right,
      ap (λ (s : StorageName). s.home) c.new-storage.ensures ∙ ap (λ (r : Right). home_of r) right,
      add.0,
      subst (λ (x : Parts). AddsOnto w p (cell_in x.stack) es shelf new add.0) view add.1,
      subst (λ (ps : Places). LiesOn shown len new add.0 (record { stack = c.self.inside.stack; places = ps })) (sym c.add_places-places.ensures.places)
          (lies-added shown len w new p es add.0 o shelf names here add.1 on c.add_places-places.ensures.long
          (subst (λ (x : Parts). AreFull len x.places) (sym view) c.requires.full)),
    )

pub returns-in-Ok-into_storage-clause-refused : goal.returns-in-Ok-into_storage-clause-refused
returns-in-Ok-into_storage-clause-refused g c = c.in-Err.ensures.refused c.requires.exact
