use Rattle.std.proofs.Common.{◌≡◌, ℕ, ◌∙◌, ap, sym, List, Option, Some, None, subst}
use Rattle.std.specs.Prelude.{slice_index_or}
use Rattle.sdd_world_model.specs.OwnerOrCell.{SpaceId}
use Rattle.sdd_world_model.specs.World.{World, value_at}
use Rattle.sdd_space.specs.CallerId.{IsExact, CallerId}
use Rattle.sdd_space.specs.Shared.{cell_of, slot_of}
use Rattle.sdd_core.specs.declared.tag.Tag.TheVariants.{None as no_tag}
use Rattle.sdd_participants.specs.Slab.{entry_at}
use Rattle.sdd_lists.specs.Lists.{first_slot, left, linked_in, trimmed}
use Rattle.sdd_lists.proofs.MoreWaiting.{grows-not}
use Rattle.sdd_lists.proofs.PushedLists.{trim-other, trim-values}
use Rattle.sdd_lists.proofs.pushes.put_behind.Goals as goal

pub put_in_front-requires-clause-link : goal.put_in_front-requires-clause-link
put_in_front-requires-clause-link g c =
    c.link_ref.ensures.home
    ∙ g.met.T.LinkedList.link_is_held (g.S.Shows.home c.get_guarded_ref-entry.new.s) c.get_guarded_ref-entry.result.now
    (c.shown_is_of_home.ensures _ c.get_guarded_ref-entry.result.now c.get_guarded_ref-entry.ensures.shown)
    ∙ ap (λ (h : SpaceId). h.cells) (g.met.S.Caller.home_is_caller c.get_guarded_ref-entry.new.s)

pub returns-clause-exact : goal.returns-clause-exact
returns-clause-exact g c = λ e t es v list same_slot there clear far all.
    let link = g.T.LinkedList.link in
    let w = g.S.Caller.world c.args.s.now in
    let place = (g.S.Caller.caller c.args.s.now).place in
    let cell : ℕ = cell_of c.args.cell.now in
    let l : ℕ = link v in
    let k : ℕ = slot_of c.args.owner.now in
    let at1 = c.trim.ensures.unmoved.caller in
    let at2 = c.get_guarded_ref-entry.ensures.undisturbed.caller ∙ at1 in
    let ex2 : IsExact (g.S.Caller.caller c.get_guarded_ref-entry.new.s) = subst (λ (s : CallerId). IsExact s) (sym at2) e in
    let cut = c.trim.ensures.exact e t es list in
    let u = g.S.Caller.world c.trim.new.s in
    let x = g.S.Caller.world c.get_guarded_ref-entry.new.s in
    let world_x : x ≡ u = c.get_guarded_ref-entry.ensures.exact (subst (λ (s : CallerId). IsExact s) (sym at1) e) in
    let value_u : value_at u k ≡ Some v =
    ap (λ (y : World _). value_at y k) cut.3 ∙ ap (λ (vs : List (Option _)). slice_index_or vs k None) (trim-values link w place cell t es) ∙ there in
    let val = c.get_guarded_ref-entry.result.now in
    let seen : value_at x k ≡ Some val = (g.met.S.Caller.shows_is_value c.get_guarded_ref-entry.new.s ex2 k val).0 c.get_guarded_ref-entry.ensures.shown in
    let values : Some val ≡ Some v = sym seen ∙ ap (λ (y : World _). value_at y k) world_x ∙ value_u in
    let same : val ≡ v = cc in
    let cell_is : cell_of c.link_ref.result.now ≡ l = c.link_ref.ensures.link ∙ ap link same in
    let clear_u : entry_at u.cells l ≡ Some (record { held = None; tag = no_tag }) =
    ap (λ (y : World _). entry_at y.cells l) cut.3 ∙ trim-other link w place cell t es l (λ meet. far (sym meet)) all ∙ clear in
    let put = c.put_in_front.ensures.exact ex2 t (first_slot (left es)) (ap (λ (y : World _). entry_at y.cells cell) world_x ∙ cut.2.begins)
    (ap (λ (y : World _). entry_at y.cells (cell_of c.link_ref.result.now)) world_x ∙ ap (λ (j : ℕ). entry_at u.cells j) cell_is ∙ clear_u)
    (λ meet. far (meet ∙ cell_is)) in
    put ∙ ap (λ (y : World _). linked_in y cell t (cell_of c.link_ref.result.now) (slot_of c.args.kept) (first_slot (left es))) (world_x ∙ cut.3)
    ∙ ap (λ (j : ℕ). linked_in (trimmed link w place cell t es) cell t j (slot_of c.args.kept) (first_slot (left es))) cell_is
    ∙ ap (λ (j : ℕ). linked_in (trimmed link w place cell t es) cell t l j (first_slot (left es))) same_slot

pub returns-clause-own : goal.returns-clause-own
returns-clause-own g c = λ start grown.
    c.put_in_front.ensures.own start (grows-not (g.S.Caller.own c.trim.new.s) _ c.get_guarded_ref-entry.ensures.undisturbed.own start
    (c.trim.ensures.own start grown))
