use Rattle.std.proofs.Common.{◌≡◌, ℕ, ◌<◌, ◌∙◌, ap, sym, refl, List, length, Option, Some, None, subst, arith}
use Rattle.std.specs.Prelude.{slice_index_or}
use Rattle.std.proofs.lemmas.List.{get_or-set_same}
use Rattle.sdd_world_model.specs.World.{World, standing_at, value_at}
use Rattle.sdd_space.specs.CallerId.{IsExact, CallerId}
use Rattle.sdd_space.specs.Shared.{cell_of, slot_of}
use Rattle.sdd_world_model.specs.WorldChanges.{made_as, owner_given}
use Rattle.sdd_participants.specs.Slab.{entry_at}
use Rattle.sdd_participants.specs.declared.standing.Standing.TheVariants.{Shared as shared_by}
use Rattle.sdd_lists.specs.Ends.{appended, end_of}
use Rattle.sdd_lists.proofs.Ends.{appended-list, put-values}
use Rattle.sdd_lists.proofs.MoreWaiting.{grows-not}
use Rattle.sdd_lists.proofs.Lists.{bare, list-same}
use Rattle.sdd_lists.proofs.MovedOwners.{given-some}
use Rattle.sdd_lists.proofs.PushedLists.{list-made}
use Rattle.sdd_lists.proofs.pushes.append.Goals as goal

pub returns-clause-exact : goal.returns-clause-exact
returns-clause-exact g c = λ e t es list last clear far all.
    let link = g.T.LinkedList.link in
    let w = g.S.Caller.world c.args.s.now in
    let place = (g.S.Caller.caller c.args.s.now).place in
    let cell : ℕ = cell_of c.args.cell.now in
    let value = c.args.value in
    let l : ℕ = link value in
    let k : ℕ = slot_of c.in-Ok.owners.0 in
    let at1 = c.in-Ok.ensures.undisturbed.caller in
    let at2 = c.put_last.ensures.unmoved.caller ∙ at1 in
    let at3 = c.front_of-front.ensures.undisturbed.caller ∙ at2 in
    let ex1 : IsExact (g.S.Caller.caller c.make_two.new.s) = subst (λ (s : CallerId). IsExact s) (sym at1) e in
    let ex2 : IsExact (g.S.Caller.caller c.put_last.new.s) = subst (λ (s : CallerId). IsExact s) (sym at2) e in
    let ex3 : IsExact (g.S.Caller.caller c.front_of-front.new.s) = subst (λ (s : CallerId). IsExact s) (sym at3) e in
    let made = c.in-Ok.ensures.exact e in
    let none = c.values_fit_slots.ensures.bare e k made.0.1 in
    let m : World _ = made_as w k value (shared_by 2) in
    let u = g.S.Caller.world c.make_two.new.s in
    let in_m = list-made link w cell t k value (shared_by 2) es none list in
    let in_u = list-same link m u cell t es (ap (λ (y : World _). y.cells) made.1) (ap (λ (y : World _). y.values) made.1) in_m in
    let many : k < length w.values = omega (arith, made.0.0, c.values_fit_slots.ensures.many e) in
    let value_m : value_at m k ≡ Some value = get_or-set_same w.values k (Some value) None many in
    let put = c.put_last.ensures.exact ex1 t es value in_u last c.in-Ok.ensures.one (ap (λ (y : World _). value_at y k) made.1 ∙ value_m)
    (ap (λ (y : World _). entry_at y.cells l) made.1 ∙ clear) far all in
    let a : World _ = appended link m place cell t es l k in
    let world_x : g.S.Caller.world c.front_of-front.new.s ≡ a =
    c.front_of-front.ensures.exact ex2 ∙ put ∙ ap (λ (y : World _). appended link y (g.S.Caller.caller c.make_two.new.s).place cell t es l k) made.1
    ∙ ap (λ (s : CallerId). appended link m s.place cell t es l k) at1 in
    let x = g.S.Caller.world c.front_of-front.new.s in
    let new = g.S.Caller.world c.give_up.new.s in
    let place3 = (g.S.Caller.caller c.front_of-front.new.s).place in
    let given = given-some x new place3 (Some c.in-Ok.owners.0) k refl (c.give_up.ensures.exact ex3) in
    let world_z : new ≡ owner_given a place k (standing_at a k) =
    given ∙ ap (λ (y : World _). owner_given y place3 k (standing_at y k)) world_x
    ∙ ap (λ (s : CallerId). owner_given a s.place k (standing_at a k)) at3 in
    let v = c.front_of-front.result.entry.now in
    let seen : value_at x k ≡ Some v = (g.met.S.Caller.shows_is_value c.front_of-front.new.s ex3 k v).0 c.front_of-front.ensures.value in
    let value_a : value_at a k ≡ Some value =
    ap (λ (vs : List (Option _)). slice_index_or vs k None) (put-values link m place (end_of link cell t es) l k) ∙ value_m in
    let values : Some v ≡ Some value = sym seen ∙ ap (λ (y : World _). value_at y k) world_x ∙ value_a in
    let same : v ≡ value = cc in
    let out = bare a place k (standing_at a k) in
    let in_a = appended-list link place k value m cell t es in_m (value_m, clear, far, all) in (
      k,
      record {
        free = made.0;
        world = world_z;
        list =
            list-same link a new cell t _ (ap (λ (y : World _). y.cells) world_z ∙ out.cells) (ap (λ (y : World _). y.values) world_z ∙ out.values) in_a;
      },
      same,
      c.front_of-front.ensures.link ∙ ap link same,
    )

pub returns-clause-own : goal.returns-clause-own
returns-clause-own g c = λ start grown.
    c.give_up.ensures.own start (grows-not (g.S.Caller.own c.put_last.new.s) _ c.front_of-front.ensures.undisturbed.own start
    (c.put_last.ensures.own start (grows-not (g.S.Caller.own c.args.s.now) _ c.in-Ok.ensures.undisturbed.own start grown)))
