use Rattle.std.proofs.Common.{◌≡◌, ℕ, ◌∙◌, ap, sym, Some, subst}
use Rattle.sdd_world_model.specs.OwnerOrCell.{SpaceId}
use Rattle.sdd_world_model.specs.World.{World, value_at}
use Rattle.sdd_space.specs.CallerId.{IsExact, CallerId}
use Rattle.sdd_space.specs.Shared.{cell_of, slot_of}
use Rattle.sdd_participants.specs.Slab.{entry_at}
use Rattle.sdd_lists.specs.Lists.{first_slot, linked_in}
use Rattle.sdd_lists.proofs.LinkedEntries.{linked-behind}
use Rattle.sdd_lists.proofs.MoreWaiting.{grows-not}
use Rattle.sdd_lists.proofs.behind.put_behind_link.Goals as goal

pub put_with_tag-requires-clause-link : goal.put_with_tag-requires-clause-link
put_with_tag-requires-clause-link g c =
    c.link_ref.ensures.home
    ∙ g.met.T.LinkedList.link_is_held (g.S.Shows.home c.get_guarded_ref-value.new.s) c.get_guarded_ref-value.result.now
    (c.shown_is_of_home.ensures _ c.get_guarded_ref-value.result.now c.get_guarded_ref-value.ensures.shown)
    ∙ ap (λ (h : SpaceId). h.cells) (g.met.S.Caller.home_is_caller c.get_guarded_ref-value.new.s)

pub returns-clause-list : goal.returns-clause-list
returns-clause-list g c = λ e t es v list fresh kept.
    let link = g.T.LinkedList.link in
    let w = g.S.Caller.world c.args.s.now in
    let cell : ℕ = cell_of c.args.link.now in
    let k : ℕ = slot_of c.args.entry in
    let at1 = c.get_guarded_ptr-ptr.ensures.undisturbed.caller in
    let at2 = c.get_guarded_ref-value.ensures.undisturbed.caller ∙ at1 in
    let ex2 : IsExact (g.S.Caller.caller c.get_guarded_ref-value.new.s) = subst (λ (s : CallerId). IsExact s) (sym at2) e in
    let x = g.S.Caller.world c.get_guarded_ref-value.new.s in
    let same : x ≡ w =
    c.get_guarded_ref-value.ensures.exact (subst (λ (s : CallerId). IsExact s) (sym at1) e) ∙ c.get_guarded_ptr-ptr.ensures.exact e in
    let val = c.get_guarded_ref-value.result.now in
    let seen : value_at x k ≡ Some val = (g.met.S.Caller.shows_is_value c.get_guarded_ref-value.new.s ex2 k val).0 c.get_guarded_ref-value.ensures.shown in
    let values : Some val ≡ Some v = sym seen ∙ ap (λ (y : World _). value_at y k) same ∙ fresh.there in
    let value : val ≡ v = cc in
    let cell_is : cell_of c.link_ref.result.now ≡ link v = c.link_ref.ensures.link ∙ ap link value in
    let put = c.put_with_tag.ensures.exact ex2 t (first_slot es) (ap (λ (y : World _). entry_at y.cells cell) same ∙ list.begins)
    (ap (λ (y : World _). entry_at y.cells (cell_of c.link_ref.result.now)) same ∙ ap (λ (j : ℕ). entry_at w.cells j) cell_is ∙ fresh.clear)
    (λ meet. fresh.far (meet ∙ cell_is)) in
    linked-behind link w cell t c.args.tag es k v list fresh kept (g.S.Caller.world c.put_with_tag.new.s)
    (put ∙ ap (λ (y : World _). linked_in y cell c.args.tag (cell_of c.link_ref.result.now) k (first_slot es)) same
    ∙ ap (λ (j : ℕ). linked_in w cell c.args.tag j k (first_slot es)) cell_is)

pub returns-clause-own : goal.returns-clause-own
returns-clause-own g c = λ start grown.
    c.put_with_tag.ensures.own start (grows-not (g.S.Caller.own c.args.s.now) _
    (c.get_guarded_ref-value.ensures.undisturbed.own ∙ c.get_guarded_ptr-ptr.ensures.undisturbed.own) start grown)
