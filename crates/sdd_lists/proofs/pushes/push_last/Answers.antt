use Rattle.std.proofs.Common.{◌≡◌, inl, ℕ, ◌<◌, ◌∙◌, ap, sym, refl, List, ◌∷◌, [], ◌++◌, length, Option, Some, None, subst, arith}
use Rattle.std.specs.Prelude.{option_map, slice_index_or}
use Rattle.std.proofs.lemmas.List.{get_or-set_same, get_or-set_other}
use Rattle.sdd_world_model.specs.World.{World, value_at}
use Rattle.sdd_space.specs.CallerId.{IsExact, CallerId}
use Rattle.sdd_space.specs.Shared.{cell_of, right_of, slot_of}
use Rattle.sdd_world_model.specs.WorldChanges.{held_in, made_as, spilled, with_cell}
use Rattle.sdd_core.specs.declared.tag.Tag.TheVariants.{None as no_tag}
use Rattle.sdd_participants.specs.Slab.{Entries, entry_at}
use Rattle.sdd_participants.specs.declared.standing.CellContents.{CellContents}
use Rattle.sdd_participants.specs.declared.standing.Standing.TheVariants.{Shared as shared_by}
use Rattle.sdd_lists.specs.Ends.{appended, through_last}
use Rattle.sdd_lists.specs.Lists.{Entry, IsList}
use Rattle.sdd_lists.specs.Queue.{QueueCells, made_newest}
use Rattle.sdd_lists.proofs.Ends.{among-last, apart-last, apart-through, appended-list, appended-other}
use Rattle.sdd_lists.proofs.MoreWaiting.{grows-not}
use Rattle.sdd_lists.proofs.QueuePops.{given-spilled, list-apart, spilled-cells, spilled-values}
use Rattle.sdd_lists.proofs.Lists.{inside}
use Rattle.sdd_lists.proofs.PushedLists.{list-made}
use Rattle.sdd_lists.proofs.pushes.push_last.Goals as goal

pub returns-clause-exact : goal.returns-clause-exact
returns-clause-exact g c = λ e es second queue last clear far farn all.
    let link = g.T.LinkedList.link in
    let w = g.S.Caller.world c.args.s.now in
    let place = (g.S.Caller.caller c.args.s.now).place in
    let q : QueueCells = record { oldest = cell_of c.args.oldest.now; newest = cell_of c.args.newest.now } in
    let value = c.args.value in
    let l : ℕ = link value in
    let k : ℕ = slot_of c.in-Ok.owners.0 in
    let at1 = c.in-Ok.ensures.undisturbed.caller in
    let at2 = c.swap-was.ensures.undisturbed.caller ∙ at1 in
    let at3 = c.give_up.ensures.unmoved.caller ∙ at2 in
    let made = c.in-Ok.ensures.exact e in
    let bare = c.values_fit_slots.ensures.bare e k made.0.1 in
    let m : World _ = made_as w k value (shared_by 3) in
    let named : CellContents = record { held = Some k; tag = no_tag } in
    let in_m : IsList link m q.oldest no_tag es = list-made link w q.oldest no_tag k value (shared_by 3) es bare queue.list in
    let swapped = c.swap-was.ensures.exact (subst (λ (s : CallerId). IsExact s) (sym at1) e) in
    let was : option_map slot_of c.swap-was.result.0 ≡ second =
    ap held_in (sym swapped.0 ∙ ap (λ (y : World _). entry_at y.cells q.newest) made.1 ∙ queue.newest) in
    let x : World _ = with_cell m q.newest named in
    let world_x : g.S.Caller.world c.swap-was.new.s ≡ x =
    swapped.1 ∙ ap (λ (j : ℕ). with_cell (g.S.Caller.world c.make_three.new.s) q.newest (record { held = Some j; tag = no_tag })) c.in-Ok.ensures.one.1
    ∙ ap (λ (y : World _). with_cell y q.newest named) made.1 in
    let given = c.give_up.ensures.exact (subst (λ (s : CallerId). IsExact s) (sym at2) e) in
    let z : World _ = made_newest w place q.newest k value second in
    let world_z : g.S.Caller.world c.give_up.new.s ≡ z =
    given-spilled (g.S.Caller.world c.swap-was.new.s) (g.S.Caller.world c.give_up.new.s) (g.S.Caller.caller c.swap-was.new.s).place c.swap-was.result.0 given
    ∙ ap (λ (h : Option ℕ). spilled (g.S.Caller.world c.swap-was.new.s) (g.S.Caller.caller c.swap-was.new.s).place h) was
    ∙ ap (λ (y : World _). spilled y (g.S.Caller.caller c.swap-was.new.s).place second) world_x
    ∙ ap (λ (s : CallerId). spilled x s.place second) at2 in
    let cells : z.cells ≡ x.cells = spilled-cells x place second in
    let values : z.values ≡ m.values = spilled-values x place second in
    let in_z : IsList link z q.oldest no_tag es = list-apart link m z q.oldest no_tag es q.newest named cells values queue.two queue.apart in_m in
    let many : k < length w.values = omega (arith, made.0.0, c.values_fit_slots.ensures.many e) in
    let value_z : value_at z k ≡ Some value =
    ap (λ (vs : List (Option _)). slice_index_or vs k None) values ∙ get_or-set_same w.values k (Some value) None many in
    let clear_z : entry_at z.cells l ≡ Some (record { held = None; tag = no_tag }) =
    ap (λ (cs : Entries CellContents). entry_at cs l) cells ∙ get_or-set_other w.cells q.newest l (Some named) None (λ meet. farn (sym meet)) ∙ clear in
    let newest_z : entry_at z.cells q.newest ≡ Some named =
    ap (λ (cs : Entries CellContents). entry_at cs q.newest) cells
    ∙ get_or-set_same w.cells q.newest (Some named) None (inside w.cells q.newest (record { held = second; tag = no_tag }) queue.newest) in
    let y = g.S.Caller.world c.give_up.new.s in
    let put = c.put_last.ensures.exact (subst (λ (s : CallerId). IsExact s) (sym at3) e) no_tag es value
    (subst (λ (u : World _). IsList link u q.oldest no_tag es) (sym world_z) in_z) last c.in-Ok.ensures.one.0
    (ap (λ (u : World _). value_at u k) world_z ∙ value_z) (ap (λ (u : World _). entry_at u.cells l) world_z ∙ clear_z) far all in
    let new = g.S.Caller.world c.put_last.new.s in
    let entry : Entry _ = record { slot = k; value = value; tag = no_tag } in
    let world_new : new ≡ appended link z place q.oldest no_tag es l k =
    put ∙ ap (λ (u : World _). appended link u (g.S.Caller.caller c.give_up.new.s).place q.oldest no_tag es l k) world_z
    ∙ ap (λ (s : CallerId). appended link z s.place q.oldest no_tag es l k) at3 in
    record {
      free = made.0;
      world = world_new;
      queue = record {
        list = subst (λ (u : World _). IsList link u q.oldest no_tag (through_last es ++ entry ∷ [])) (sym world_new)
            (appended-list link place k value z q.oldest no_tag es in_z (value_z, clear_z, far, all));
        newest = ap (λ (u : World _). entry_at u.cells q.newest) world_new
            ∙ appended-other link z place q.oldest no_tag es l k q.newest (λ meet. queue.two (sym meet)) queue.apart farn ∙ newest_z;
        among = inl (among-last k (through_last es) entry refl);
        two = queue.two;
        apart = apart-last link q.newest (through_last es) entry (apart-through link q.newest es queue.apart) (λ meet. farn (sym meet));
      };
    }

pub returns-clause-value : goal.returns-clause-value
returns-clause-value g c =
    let at1 = c.in-Ok.ensures.undisturbed.caller in
    let at4 = c.put_last.ensures.unmoved.caller ∙ c.give_up.ensures.unmoved.caller ∙ c.swap-was.ensures.undisturbed.caller ∙ at1 in
    g.met.S.Shows.keeps_owned c.make_three.new.s c.put_last.new.s
    (g.met.S.Caller.home_is_caller c.make_three.new.s ∙ ap (λ (s : CallerId). s.home) (at1 ∙ sym at4) ∙ sym (g.met.S.Caller.home_is_caller c.put_last.new.s))
    (λ k v was. c.put_last.ensures.unmoved.shown k v (c.give_up.ensures.unmoved.shown k v (c.swap-was.ensures.undisturbed.shown k v was)))
    (right_of c.in-Ok.owners.0) c.args.value c.in-Ok.ensures.shown

pub returns-clause-own : goal.returns-clause-own
returns-clause-own g c = λ start grown.
    c.put_last.ensures.own start (c.give_up.ensures.own start
    (grows-not (g.S.Caller.own c.args.s.now) _ (c.swap-was.ensures.undisturbed.own ∙ c.in-Ok.ensures.undisturbed.own) start grown))
