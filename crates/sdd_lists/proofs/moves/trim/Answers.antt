use Rattle.std.proofs.Common.{◌≡◌, ℕ, ◌∙◌, ap, sym, refl, Some, None, subst, false, true}
use Rattle.sdd_world_model.specs.World.{World, value_at}
use Rattle.sdd_space.specs.CallerId.{CallerId, IsExact}
use Rattle.sdd_world_model.specs.OwnerOrCell.{SpaceId}
use Rattle.sdd_space.specs.Shared.{cell_of}
use Rattle.sdd_space.specs.Ptr.{cell_seen, slot_named}
use Rattle.sdd_participants.specs.Slab.{entry_at}
use Rattle.sdd_core.specs.declared.tag.Tag.{Tag}
use Rattle.sdd_lists.specs.Lists.{left, trimmed, IsList}
use Rattle.sdd_lists.proofs.MoreWaiting.{grows-not}
use Rattle.sdd_lists.proofs.FirstEntries.{null-front, kept-front, names-none, names-some, shows-it}
use Rattle.sdd_lists.proofs.moves.trim.Goals as goal

pub tag-requires-clause-home : goal.tag-requires-clause-home
tag-requires-clause-home g c =
    let shows = shows-it (g.S.Shows.shows c.load-first.new.s) c.load-first.result c.in-Some.entry.now
    (names-some c.load-first.result (c.in-Some.ensures.null.0 refl)) (sym c.in-Some.ensures.shown) c.load-first.ensures.shown in
    c.link_ref.ensures.home
    ∙ g.met.T.LinkedList.link_is_held (g.S.Shows.home c.load-first.new.s) c.in-Some.entry.now (c.shown_is_of_home.ensures _ c.in-Some.entry.now shows)
    ∙ ap (λ (h : SpaceId). h.cells) (g.met.S.Caller.home_is_caller c.load-first.new.s)

pub returns-in_default-clause-exact : goal.returns-in_default-clause-exact
returns-in_default-clause-exact g c = λ e t es list.
    let link = g.T.LinkedList.link in
    let w = g.S.Caller.world c.args.s.now in
    let place = (g.S.Caller.caller c.args.s.now).place in
    let cell : ℕ = cell_of c.args.cell.now in
    let loaded = c.load-first.ensures.exact e in
    let null : slot_named c.load-first.result ≡ None = names-none c.load-first.result
    (λ n. let never : false ≡ true = c.in_default.ensures.null.1 n in absurd (cc)) in
    let front = null-front link w place cell t es (cell_seen c.load-first.result) list loaded.0 null in (
      refl,
      c.without_tag.ensures.slot ∙ null ∙ sym front.0,
      subst (λ (x : World _). IsList link x cell t (left es)) (sym loaded.1) front.1,
      loaded.1 ∙ front.2,
    )

pub returns-in_default-tag-clause-exact : goal.returns-in_default-tag-clause-exact
returns-in_default-tag-clause-exact g c = λ e t es list.
    let link = g.T.LinkedList.link in
    let place = (g.S.Caller.caller c.args.s.now).place in
    let cell : ℕ = cell_of c.args.cell.now in
    let w = g.S.Caller.world c.args.s.now in
    let v = c.in-Some.entry.now in
    let at1 = c.load-first.ensures.undisturbed.caller in
    let loaded = c.load-first.ensures.exact e in
    let tagged = c.tag.ensures.exact (subst (λ (s : CallerId). IsExact s) (sym at1) e) in
    let same : g.S.Caller.world c.tag.new.s ≡ w = tagged.0 ∙ loaded.1 in
    let slot : ℕ = c.load-first.result.slot in
    let names = names-some c.load-first.result (c.in-Some.ensures.null.0 refl) in
    let shown = shows-it (g.S.Shows.shows c.load-first.new.s) c.load-first.result v names (sym c.in-Some.ensures.shown) c.load-first.ensures.shown in
    let value : value_at w slot ≡ Some v =
    subst (λ (x : World _). value_at x slot ≡ Some v) loaded.1
    ((g.met.S.Caller.shows_is_value c.load-first.new.s (subst (λ (s : CallerId). IsExact s) (sym at1) e) slot v).0 shown) in
    let linked : entry_at w.cells (link v) ≡ Some (record { held = tagged.1.0.held; tag = c.tag.result }) =
    ap (λ (x : ℕ). entry_at w.cells x) (sym c.link_ref.ensures.link)
    ∙ ap (λ (x : World _). entry_at x.cells (cell_of c.link_ref.result.now)) (sym loaded.1) ∙ tagged.1.1
    ∙ ap (λ (x : Tag). Some (record { held = tagged.1.0.held; tag = x })) (sym tagged.1.2) in
    let front = kept-front link w place cell t es (cell_seen c.load-first.result) slot v tagged.1.0.held c.tag.result list loaded.0
    names value linked c.in_default-tag.not-Second in (
      refl,
      c.without_tag-in_default-tag.ensures.slot ∙ names ∙ front.0,
      subst (λ (x : World _). IsList link x cell t (left es)) (sym same) front.1,
      same ∙ front.2,
    )

pub returns-in-Second-clause-exact : goal.returns-in-Second-clause-exact
returns-in-Second-clause-exact g c = λ e t es list.
    let link = g.T.LinkedList.link in
    let w = g.S.Caller.world c.args.s.now in
    let cell : ℕ = cell_of c.args.cell.now in
    let at1 = c.load-first.ensures.undisturbed.caller in
    let at2 = c.tag.ensures.undisturbed.caller ∙ at1 in
    let tagged = c.tag.ensures.exact (subst (λ (s : CallerId). IsExact s) (sym at1) e) in
    let same : g.S.Caller.world c.tag.new.s ≡ w = tagged.0 ∙ (c.load-first.ensures.exact e).1 in
    let cut = c.trim_deleted.ensures.exact (subst (λ (s : CallerId). IsExact s) (sym at2) e) t es
    (subst (λ (x : World _). IsList link x cell t es) (sym same) list) in (
      cut.0,
      cut.1,
      cut.2,
      cut.3 ∙ ap (λ (x : World _). trimmed link x (g.S.Caller.caller c.tag.new.s).place cell t es) same
          ∙ ap (λ (s : CallerId). trimmed link w s.place cell t es) at2,
    )

pub returns-in_default-clause-own : goal.returns-in_default-clause-own
returns-in_default-clause-own g c = λ start grown. grows-not (g.S.Caller.own c.args.s.now) _ c.load-first.ensures.undisturbed.own start grown

pub returns-in_default-tag-clause-own : goal.returns-in_default-tag-clause-own
returns-in_default-tag-clause-own g c = λ start grown.
    grows-not (g.S.Caller.own c.args.s.now) _ (c.tag.ensures.undisturbed.own ∙ c.load-first.ensures.undisturbed.own) start grown

pub returns-in-Second-clause-own : goal.returns-in-Second-clause-own
returns-in-Second-clause-own g c = λ start grown.
    c.trim_deleted.ensures.own start
    (grows-not (g.S.Caller.own c.args.s.now) _ (c.tag.ensures.undisturbed.own ∙ c.load-first.ensures.undisturbed.own) start grown)
