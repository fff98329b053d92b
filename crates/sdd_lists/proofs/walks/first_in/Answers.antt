use Rattle.std.proofs.Common.{◌≡◌, ℕ, ◌∙◌, ap, sym, refl, Some, None, Option, subst, true, false}
use Rattle.std.specs.Prelude.{IfSome}
use Rattle.sdd_world_model.specs.World.{World, standing_at, value_at}
use Rattle.sdd_space.specs.CallerId.{IsExact, CallerId}
use Rattle.sdd_world_model.specs.OwnerOrCell.{SpaceId}
use Rattle.sdd_world_model.specs.Slots.{IsSharedBy}
use Rattle.sdd_space.specs.Ptr.{slot_named}
use Rattle.sdd_world_model.specs.WorldChanges.{held_in}
use Rattle.sdd_lists.proofs.FirstEntries.{front-none, front-some, names-none, names-some, shows-it}
use Rattle.sdd_lists.proofs.walks.first_in.Goals as goal

pub returns-in_default-clause-exact : goal.returns-in_default-clause-exact
returns-in_default-clause-exact g c = λ e es linked held there first.
    let loaded = c.load-ptr.ensures.exact e in
    let null : slot_named c.load-ptr.result ≡ None = names-none c.load-ptr.result
    (λ n. let never : false ≡ true = c.in_default.ensures.null.1 n in absurd (cc)) in
    let is = ap held_in (sym there ∙ loaded.0) in
    front-none g.T.LinkedList.link (g.S.Caller.world c.args.s.now) es held.held first (is ∙ null)

pub returns-clause-home : goal.returns-clause-home
returns-clause-home g c =
    let names = names-some c.load-ptr.result (c.in-Some.ensures.null.0 refl) in
    let shows = shows-it (g.S.Shows.shows c.load-ptr.new.s) c.load-ptr.result c.in-Some.entry.now names
    (sym c.in-Some.ensures.shown) c.load-ptr.ensures.shown in
    c.link_ref.ensures.home
    ∙ g.met.T.LinkedList.link_is_held (g.S.Shows.home c.load-ptr.new.s) c.in-Some.entry.now (c.shown_is_of_home.ensures _ c.in-Some.entry.now shows)
    ∙ ap (λ (h : SpaceId). h.cells) (g.met.S.Caller.home_is_caller c.load-ptr.new.s)
    ∙ ap (λ (s : CallerId). s.home.cells) c.load-ptr.ensures.undisturbed.caller

pub returns-clause-exact : goal.returns-clause-exact
returns-clause-exact g c = λ e es linked held there first.
    let w = g.S.Caller.world c.args.s.now in
    let v = c.in-Some.entry.now in
    let loaded = c.load-ptr.ensures.exact e in
    let slot : ℕ = c.load-ptr.result.slot in
    let names = names-some c.load-ptr.result (c.in-Some.ensures.null.0 refl) in
    let shown = shows-it (g.S.Shows.shows c.load-ptr.new.s) c.load-ptr.result v names (sym c.in-Some.ensures.shown) c.load-ptr.ensures.shown in
    let value : value_at w slot ≡ Some v =
    subst (λ (x : World _). value_at x slot ≡ Some v) loaded.1
    ((g.met.S.Caller.shows_is_value c.load-ptr.new.s (subst (λ (s : CallerId). IsExact s) (sym c.load-ptr.ensures.undisturbed.caller) e) slot v).0 shown) in
    let is = ap held_in (sym there ∙ loaded.0) ∙ names in
    let found = front-some g.T.LinkedList.link w es held.held slot v linked first is value in
    let owned = subst (λ (o : Option ℕ). IfSome o (λ k. (n : ℕ) × IsSharedBy n (standing_at w k))) names (c.load-ptr.ensures.owned e) in (
      found.0,
      found.1,
      found.2,
      names ∙ ap (λ (k : ℕ). Some k) found.3,
      found.4,
      subst (λ (k : ℕ). (n : ℕ) × IsSharedBy n (standing_at w k)) found.3 owned,
    )
