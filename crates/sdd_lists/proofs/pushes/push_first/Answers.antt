use Rattle.std.proofs.Common.{◌≡◌, ℕ, ◌<◌, ◌∙◌, ap, sym, List, ◌∷◌, length, Option, Some, None, subst, arith}
use Rattle.std.specs.Prelude.{slice_index_or}
use Rattle.std.proofs.lemmas.List.{get_or-set_same}
use Rattle.sdd_world_model.specs.OwnerOrCell.{SpaceId}
use Rattle.sdd_world_model.specs.World.{World, value_at}
use Rattle.sdd_space.specs.CallerId.{IsExact, CallerId}
use Rattle.sdd_space.specs.Shared.{cell_of, right_of, slot_of}
use Rattle.sdd_world_model.specs.WorldChanges.{made_as}
use Rattle.sdd_core.specs.declared.tag.Tag.TheVariants.{None as no_tag}
use Rattle.sdd_participants.specs.Slab.{entry_at}
use Rattle.sdd_participants.specs.declared.standing.Standing.TheVariants.{Shared as shared_by}
use Rattle.sdd_lists.specs.Lists.{IsList, first_slot, left, linked_in, trimmed}
use Rattle.sdd_lists.proofs.MoreWaiting.{grows-not}
use Rattle.sdd_lists.proofs.Lists.{list-same}
use Rattle.sdd_lists.proofs.PushedLists.{apart-left, list-made, trim-other, trim-values, pushed}
use Rattle.sdd_lists.proofs.pushes.push_first.Goals as goal

pub put_in_front-requires-clause-link : goal.put_in_front-requires-clause-link
put_in_front-requires-clause-link g c =
    c.link_ref.ensures.home
    ∙ g.met.T.LinkedList.link_is_held (g.S.Shows.home c.get_guarded_ref-entry.new.s) c.get_guarded_ref-entry.result.now
    (c.shown_is_of_home.ensures _ c.get_guarded_ref-entry.result.now c.get_guarded_ref-entry.ensures.shown)
    ∙ ap (λ (h : SpaceId). h.cells) (g.met.S.Caller.home_is_caller c.get_guarded_ref-entry.new.s)

pub returns-clause-exact : goal.returns-clause-exact
returns-clause-exact g c = λ e t es list clear far all.
    let link = g.T.LinkedList.link in
    let w = g.S.Caller.world c.args.s.now in
    let place = (g.S.Caller.caller c.args.s.now).place in
    let cell : ℕ = cell_of c.args.cell.now in
    let value = c.args.value in
    let l : ℕ = link value in
    let k : ℕ = slot_of c.in-Ok.owners.0 in
    let at1 = c.in-Ok.ensures.undisturbed.caller in
    let at2 = c.trim.ensures.unmoved.caller ∙ at1 in
    let at3 = c.get_guarded_ref-entry.ensures.undisturbed.caller ∙ at2 in
    let ex1 : IsExact (g.S.Caller.caller c.make_two.new.s) = subst (λ (s : CallerId). IsExact s) (sym at1) e in
    let ex3 : IsExact (g.S.Caller.caller c.get_guarded_ref-entry.new.s) = subst (λ (s : CallerId). IsExact s) (sym at3) e in
    let made = c.in-Ok.ensures.exact e in
    let bare = c.values_fit_slots.ensures.bare e k made.0.1 in
    let m : World _ = made_as w k value (shared_by 2) in
    let in_m = list-made link w cell t k value (shared_by 2) es bare list in
    let in_make = list-same link m (g.S.Caller.world c.make_two.new.s) cell t es (ap (λ (y : World _). y.cells) made.1)
    (ap (λ (y : World _). y.values) made.1) in_m in
    let cut = c.trim.ensures.exact ex1 t es in_make in
    let u = g.S.Caller.world c.trim.new.s in
    let world_u : u ≡ trimmed link m place cell t es =
    cut.3 ∙ ap (λ (y : World _). trimmed link y (g.S.Caller.caller c.make_two.new.s).place cell t es) made.1
    ∙ ap (λ (s : CallerId). trimmed link m s.place cell t es) at1 in
    let x = g.S.Caller.world c.get_guarded_ref-entry.new.s in
    let world_x : x ≡ u = c.get_guarded_ref-entry.ensures.exact (subst (λ (s : CallerId). IsExact s) (sym at2) e) in
    let many : k < length w.values = omega (arith, made.0.0, c.values_fit_slots.ensures.many e) in
    let value_u : value_at u k ≡ Some value =
    ap (λ (y : World _). value_at y k) world_u ∙ ap (λ (vs : List (Option _)). slice_index_or vs k None) (trim-values link m place cell t es)
    ∙ get_or-set_same w.values k (Some value) None many in
    let v = c.get_guarded_ref-entry.result.now in
    let seen : value_at x k ≡ Some v = (g.met.S.Caller.shows_is_value c.get_guarded_ref-entry.new.s ex3 k v).0 c.get_guarded_ref-entry.ensures.shown in
    let values : Some v ≡ Some value = sym seen ∙ ap (λ (y : World _). value_at y k) world_x ∙ value_u in
    let same : v ≡ value = cc in
    let cell_is : cell_of c.link_ref.result.now ≡ l = c.link_ref.ensures.link ∙ ap link same in
    let clear_u : entry_at u.cells l ≡ Some (record { held = None; tag = no_tag }) =
    ap (λ (y : World _). entry_at y.cells l) world_u ∙ trim-other link m place cell t es l (λ meet. far (sym meet)) all ∙ clear in
    let put = c.put_in_front.ensures.exact ex3 t (first_slot (left es)) (ap (λ (y : World _). entry_at y.cells cell) world_x ∙ cut.2.begins)
    (ap (λ (y : World _). entry_at y.cells (cell_of c.link_ref.result.now)) world_x ∙ ap (λ (j : ℕ). entry_at u.cells j) cell_is ∙ clear_u)
    (λ meet. far (meet ∙ cell_is)) in
    let world_z : g.S.Caller.world c.put_in_front.new.s ≡ linked_in u cell t l k (first_slot (left es)) =
    put ∙ ap (λ (y : World _). linked_in y cell t (cell_of c.link_ref.result.now) (slot_of c.in-Ok.owners.1) (first_slot (left es))) world_x
    ∙ ap (λ (j : ℕ). linked_in u cell t j (slot_of c.in-Ok.owners.1) (first_slot (left es))) cell_is
    ∙ ap (λ (j : ℕ). linked_in u cell t l j (first_slot (left es))) c.in-Ok.ensures.one in
    record {
      free = made.0;
      world = world_z ∙ ap (λ (y : World _). linked_in y cell t l k (first_slot (left es))) world_u;
      list = subst (λ (y : World _). IsList link y cell t (record { slot = k; value = value; tag = no_tag } ∷ left es)) (sym world_z)
          (pushed link u cell t (left es) k value cut.2 value_u clear_u far (apart-left link l es all));
    }

pub returns-clause-own : goal.returns-clause-own
returns-clause-own g c = λ start grown.
    c.put_in_front.ensures.own start (grows-not (g.S.Caller.own c.trim.new.s) _ c.get_guarded_ref-entry.ensures.undisturbed.own start
    (c.trim.ensures.own start (grows-not (g.S.Caller.own c.args.s.now) _ c.in-Ok.ensures.undisturbed.own start grown)))

pub returns-clause-value : goal.returns-clause-value
returns-clause-value g c =
    let at1 = c.in-Ok.ensures.undisturbed.caller in
    let at2 = c.trim.ensures.unmoved.caller ∙ at1 in
    let at3 = c.get_guarded_ref-entry.ensures.undisturbed.caller ∙ at2 in
    let at4 = c.put_in_front.ensures.unmoved.caller ∙ at3 in
    g.met.S.Shows.keeps_owned c.make_two.new.s c.put_in_front.new.s
    (g.met.S.Caller.home_is_caller c.make_two.new.s ∙ ap (λ (s : CallerId). s.home) (at1 ∙ sym at4) ∙ sym (g.met.S.Caller.home_is_caller c.put_in_front.new.s))
    (λ k v was. c.put_in_front.ensures.unmoved.shown k v (c.get_guarded_ref-entry.ensures.undisturbed.shown k v (c.trim.ensures.unmoved.shown k v was)))
    (right_of c.in-Ok.owners.0) c.args.value c.in-Ok.ensures.shown.0
