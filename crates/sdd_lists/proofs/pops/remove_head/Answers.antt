use Rattle.std.proofs.Common.{◌≡◌, ℕ, ◌∙◌, ap, sym, refl, Bool, true, false, Option, subst}
use Rattle.std.specs.Prelude.{if◌then◌else◌}
use Rattle.sdd_world_model.specs.World.{World}
use Rattle.sdd_space.specs.CallerId.{IsExact, CallerId}
use Rattle.sdd_space.specs.Shared.{cell_of}
use Rattle.sdd_world_model.specs.WorldChanges.{held_in, with_cell}
use Rattle.sdd_core.specs.declared.tag.Tag.{Tag}
use Rattle.sdd_core.specs.declared.tag.Tag.TheVariants.{Second}
use Rattle.sdd_participants.specs.Slab.{entry_at}
use Rattle.sdd_lists.specs.Lists.{IsList, first_slot, let_go_first, may_delete}
use Rattle.sdd_lists.proofs.FirstEntries.{tag_in}
use Rattle.sdd_lists.proofs.MoreWaiting.{grows-not}
use Rattle.sdd_lists.proofs.PoppedLists.{deletes, apart-first, deleted, begins-still, is-deleted, rest-list}
use Rattle.sdd_lists.proofs.pops.remove_head.Goals as goal

pub returns-then-not-deleted-clause-exact : goal.returns-then-not-deleted-clause-exact
returns-then-not-deleted-clause-exact g c = λ e t x rest list stays cell_is.
    let link = g.T.LinkedList.link in
    let w = g.S.Caller.world c.args.s.now in
    let place = (g.S.Caller.caller c.args.s.now).place in
    let cell : ℕ = cell_of c.args.cell.now in
    let del = c.delete-deleted.ensures.exact e in
    let there = sym del.1 ∙ ap (λ (k : ℕ). entry_at w.cells k) cell_is ∙ list.linked.0.linked in
    let tags : del.0.tag ≡ x.tag = ap tag_in there in
    let yes : c.delete-deleted.result ≡ true = del.2 ∙ ap (λ (y : Tag). may_delete y) tags ∙ deletes link w place cell t x rest list stays in
    let no = c.if-not-deleted.true in
    let never : false ≡ true = sym no ∙ yes in
    absurd (cc)

pub returns-clause-exact : goal.returns-clause-exact
returns-clause-exact g c = λ e t x rest list stays cell_is.
    let link = g.T.LinkedList.link in
    let w = g.S.Caller.world c.args.s.now in
    let place = (g.S.Caller.caller c.args.s.now).place in
    let cell : ℕ = cell_of c.args.cell.now in
    let del = c.delete-deleted.ensures.exact e in
    let there = sym del.1 ∙ ap (λ (k : ℕ). entry_at w.cells k) cell_is ∙ list.linked.0.linked in
    let tags : del.0.tag ≡ x.tag = ap tag_in there in
    let helds : del.0.held ≡ first_slot rest = ap held_in there in
    let yes : c.delete-deleted.result ≡ true = del.2 ∙ ap (λ (y : Tag). may_delete y) tags ∙ deletes link w place cell t x rest list stays in
    let z : World _ = deleted link w place cell t x rest list in
    let world_z : g.S.Caller.world c.delete-deleted.new.s ≡ z =
    subst (λ (b : Bool). g.S.Caller.world c.delete-deleted.new.s ≡
    (if b then with_cell w (cell_of c.args.link.now) (record { held = del.0.held; tag = Second }) else w)) yes del.3
    ∙ ap (λ (k : ℕ). with_cell w k (record { held = del.0.held; tag = Second })) cell_is
    ∙ ap (λ (h : Option ℕ). with_cell w (link x.value) (record { held = h; tag = Second })) helds in
    let at_del = c.delete-deleted.ensures.undisturbed.caller in
    let gone = c.let_go_of_first.ensures.exact (subst (λ (s : CallerId). IsExact s) (sym at_del) e) x.slot t Second (first_slot rest)
    (ap (λ (y : World _). entry_at y.cells cell) world_z ∙ begins-still link w place cell t x rest list)
    (ap (λ (y : World _). entry_at y.cells (cell_of c.args.link.now)) world_z ∙ ap (λ (k : ℕ). entry_at z.cells k) cell_is
    ∙ is-deleted link w place cell t x rest list)
    (λ meet. apart-first link w place cell t x rest list (meet ∙ cell_is)) in
    let world_x : g.S.Caller.world c.let_go_of_first.new.s ≡ let_go_first z place cell t x.slot (link x.value) (first_slot rest) =
    gone ∙ ap (λ (y : World _). let_go_first y (g.S.Caller.caller c.delete-deleted.new.s).place cell t x.slot (cell_of c.args.link.now)
    (first_slot rest)) world_z
    ∙ ap (λ (s : CallerId). let_go_first z s.place cell t x.slot (cell_of c.args.link.now) (first_slot rest)) at_del
    ∙ ap (λ (k : ℕ). let_go_first z place cell t x.slot k (first_slot rest)) cell_is in (
      refl,
      world_x,
      subst (λ (y : World _). IsList link y cell t rest) (sym world_x) (rest-list link w place cell t x rest list),
    )

pub returns-clause-own : goal.returns-clause-own
returns-clause-own g c = λ start grown.
    c.let_go_of_first.ensures.own start (grows-not (g.S.Caller.own c.args.s.now) _ c.delete-deleted.ensures.undisturbed.own start grown)
