use Rattle.std.proofs.Common.{◌≡◌, ℕ, ◌+◌, ◌∙◌, ap, sym, refl, List, [], ◌∷◌, Bool, true, false, Option, subst}
use Rattle.std.specs.Prelude.{if◌then◌else◌}
use Rattle.sdd_world_model.specs.World.{World, standing_at}
use Rattle.sdd_space.specs.CallerId.{IsExact, CallerId}
use Rattle.sdd_space.specs.Shared.{cell_of, slot_of}
use Rattle.sdd_world_model.specs.WorldChanges.{held_in, with_standing}
use Rattle.sdd_core.specs.declared.tag.Tag.TheVariants.{None as no_tag}
use Rattle.sdd_world_model.specs.Slots.{IsSharedBy}
use Rattle.sdd_participants.specs.declared.standing.Standing.TheVariants.{Shared as shared_by}
use Rattle.sdd_lists.specs.Lists.{Entry, IsCrowded, IsList, removed}
use Rattle.sdd_lists.specs.Queue.{IsQueue, QueueCells, cell_emptied, cell_left, is_at, lets_go_of}
use Rattle.sdd_lists.proofs.FirstEntries.{goes-head, left-head}
use Rattle.sdd_lists.proofs.MoreWaiting.{grows-if, grows-not}
use Rattle.sdd_lists.proofs.QueuePops.{left-list, queue-same, rest-queue}
use Rattle.sdd_lists.proofs.PoppedLists.{removed-head}
use Rattle.sdd_lists.proofs.pops.take_head_of_queue.Goals as goal

pub returns-in-Ok-remove_head-clause-exact : goal.returns-in-Ok-remove_head-clause-exact
returns-in-Ok-remove_head-clause-exact g c = λ e x rest second queue stays named cell_is shared.
    let link = g.T.LinkedList.link in
    let w = g.S.Caller.world c.args.s.now in
    let place = (g.S.Caller.caller c.args.s.now).place in
    let q : QueueCells = record { oldest = cell_of c.args.oldest.now; newest = cell_of c.args.newest.now } in
    let es : List (Entry _) = x ∷ rest in
    let seen = c.slot_in-second.ensures.exact e in
    let held : c.slot_in-second.result ≡ second = ap held_in (sym seen.1.1 ∙ queue.newest) in
    let goes : c.is_named-is_newest.result ≡ lets_go_of second es =
    c.is_named-is_newest.ensures x named ∙ ap (λ (h : Option ℕ). is_at h x) held ∙ goes-head second x rest stays in
    let at1 = c.slot_in-second.ensures.undisturbed.caller in
    let shared1 = subst (λ (y : World _). (n : ℕ) × IsSharedBy n (standing_at y x.slot)) (sym seen.0) shared in
    let kept = c.in-Ok.ensures.exact (subst (λ (s : CallerId). IsExact s) (sym at1) e) x named shared1 in
    let u : World _ = with_standing w x.slot (shared_by (kept.owners + 1)) in
    let at3 = c.in-Ok.ensures.undisturbed.caller ∙ at1 in
    let world3 = g.S.Caller.world c.keep_first.new.s in
    let world_u : world3 ≡ u = kept.world ∙ ap (λ (y : World _). with_standing y x.slot (shared_by (kept.owners + 1))) seen.0 in
    let queue_u : IsQueue link u q es second = queue-same link w u q es second refl refl queue in
    let queue3 : IsQueue link world3 q es second = subst (λ (y : World _). IsQueue link y q es second) (sym world_u) queue_u in
    let emptied = c.empty_cell_if.ensures.exact (subst (λ (s : CallerId). IsExact s) (sym at3) e) second no_tag queue3.newest in
    let at4 = c.empty_cell_if.ensures.unmoved.caller ∙ at3 in
    let place3 = (g.S.Caller.caller c.keep_first.new.s).place in
    let z : World _ = cell_left u place q.newest second es in
    let world4 : g.S.Caller.world c.empty_cell_if.new.s ≡ z =
    emptied ∙ ap (λ (b : Bool). if b then cell_emptied world3 place3 q.newest second else world3) goes
    ∙ ap (λ (y : World _). cell_left y place3 q.newest second es) world_u
    ∙ ap (λ (s : CallerId). cell_left u s.place q.newest second es) at3 in
    let list4 = subst (λ (y : World _). IsList link y q.oldest no_tag es) (sym world4) (left-list link u place q es second queue_u) in
    let gone = c.in-Ok-remove_head.ensures.exact (subst (λ (s : CallerId). IsExact s) (sym at4) e) no_tag x rest list4 stays cell_is in
    let new = g.S.Caller.world c.remove_head.new.s in
    let world5 : new ≡ removed link z place q.oldest no_tag es x rest =
    gone.1 ∙ ap (λ (y : World _). removed link y (g.S.Caller.caller c.empty_cell_if.new.s).place q.oldest no_tag [] x rest) world4
    ∙ ap (λ (s : CallerId). removed link z s.place q.oldest no_tag [] x rest) at4 ∙ removed-head link z place q.oldest no_tag x rest stays in
    record {
      slot = kept.slot;
      owners = kept.owners;
      shared = subst (λ (y : World _). IsSharedBy kept.owners (standing_at y x.slot)) seen.0 kept.shared;
      few = kept.few;
      world = world5;
      queue = rest-queue link u place q es second queue_u x rest (left-head es x rest refl stays) new world5 gone.2;
    }

pub returns-in-Err-clause-exact : goal.returns-in-Err-clause-exact
returns-in-Err-clause-exact g c = λ e x rest second queue stays named cell_is shared.
    let seen = c.slot_in-second.ensures.exact e in
    let at1 = c.slot_in-second.ensures.undisturbed.caller in
    let shared1 = subst (λ (y : World _). (n : ℕ) × IsSharedBy n (standing_at y x.slot)) (sym seen.0) shared in
    subst (λ (y : World _). IsCrowded y x c.in-Err.refused (g.S.Caller.world c.keep_first.new.s)) seen.0
    (c.in-Err.ensures.exact (subst (λ (s : CallerId). IsExact s) (sym at1) e) x named shared1)

pub returns-in-Err-remove_head-clause-exact : goal.returns-in-Err-remove_head-clause-exact
returns-in-Err-remove_head-clause-exact g c = λ e x rest second queue stays named cell_is shared.
    let link = g.T.LinkedList.link in
    let w = g.S.Caller.world c.args.s.now in
    let q : QueueCells = record { oldest = cell_of c.args.oldest.now; newest = cell_of c.args.newest.now } in
    let es : List (Entry _) = x ∷ rest in
    let seen = c.slot_in-second.ensures.exact e in
    let held : c.slot_in-second.result ≡ second = ap held_in (sym seen.1.1 ∙ queue.newest) in
    let goes : c.is_named-is_newest.result ≡ lets_go_of second es =
    c.is_named-is_newest.ensures x named ∙ ap (λ (h : Option ℕ). is_at h x) held ∙ goes-head second x rest stays in
    let at1 = c.slot_in-second.ensures.undisturbed.caller in
    let shared1 = subst (λ (y : World _). (n : ℕ) × IsSharedBy n (standing_at y x.slot)) (sym seen.0) shared in
    let kept = c.in-Ok.ensures.exact (subst (λ (s : CallerId). IsExact s) (sym at1) e) x named shared1 in
    let u : World _ = with_standing w x.slot (shared_by (kept.owners + 1)) in
    let at3 = c.in-Ok.ensures.undisturbed.caller ∙ at1 in
    let world3 = g.S.Caller.world c.keep_first.new.s in
    let world_u : world3 ≡ u = kept.world ∙ ap (λ (y : World _). with_standing y x.slot (shared_by (kept.owners + 1))) seen.0 in
    let queue_u : IsQueue link u q es second = queue-same link w u q es second refl refl queue in
    let queue3 : IsQueue link world3 q es second = subst (λ (y : World _). IsQueue link y q es second) (sym world_u) queue_u in
    let emptied = c.empty_cell_if.ensures.exact (subst (λ (s : CallerId). IsExact s) (sym at3) e) second no_tag queue3.newest in
    let at4 = c.empty_cell_if.ensures.unmoved.caller ∙ at3 in
    let place3 = (g.S.Caller.caller c.keep_first.new.s).place in
    let world4 : g.S.Caller.world c.empty_cell_if.new.s ≡ cell_left world3 place3 q.newest second es =
    emptied ∙ ap (λ (b : Bool). if b then cell_emptied world3 place3 q.newest second else world3) goes in
    let list4 = subst (λ (y : World _). IsList link y q.oldest no_tag es) (sym world4) (left-list link world3 place3 q es second queue3) in
    let gone = c.in-Err-remove_head.ensures.exact (subst (λ (s : CallerId). IsExact s) (sym at4) e) no_tag x rest list4 stays cell_is in
    let never : false ≡ true = gone.0 in
    absurd (cc)

pub returns-in-Ok-remove_head-clause-own : goal.returns-in-Ok-remove_head-clause-own
returns-in-Ok-remove_head-clause-own g c = λ start grown.
    c.in-Ok-remove_head.ensures.own start (c.empty_cell_if.ensures.own start
    (grows-not (g.S.Caller.own c.args.s.now) _ (c.in-Ok.ensures.undisturbed.own ∙ c.slot_in-second.ensures.undisturbed.own) start grown))

pub returns-in-Err-remove_head-clause-own : goal.returns-in-Err-remove_head-clause-own
returns-in-Err-remove_head-clause-own g c = λ start grown.
    grows-if c.release.result (slot_of c.in-Ok.owner) _ _ c.release.ensures.own start
    (c.in-Err-remove_head.ensures.own start (c.empty_cell_if.ensures.own start
    (grows-not (g.S.Caller.own c.args.s.now) _ (c.in-Ok.ensures.undisturbed.own ∙ c.slot_in-second.ensures.undisturbed.own) start grown)))
