use Rattle.std.proofs.Common.{◌≡◌, ℕ, ◌∙◌, ap, sym, refl, Some, None, subst, arith, false, true}
use Rattle.sdd_world_model.specs.World.{World, value_at}
use Rattle.sdd_space.specs.CallerId.{CallerId, IsExact}
use Rattle.sdd_world_model.specs.OwnerOrCell.{SpaceId}
use Rattle.sdd_space.specs.Shared.{cell_of}
use Rattle.sdd_space.specs.Ptr.{cell_seen, slot_named}
use Rattle.sdd_participants.specs.Slab.{entry_at}
use Rattle.sdd_core.specs.declared.tag.Tag.{Tag}
use Rattle.sdd_core.specs.declared.tag.Tag.TheVariants.{Second}
use Rattle.sdd_lists.specs.Lists.{first_slot, left, let_go_first, IsList}
use Rattle.sdd_lists.proofs.MoreWaiting.{grows-not, knows-on, knows-same}
use Rattle.sdd_lists.proofs.FirstEntries.{null-front, kept-front, gone-front, names-none, names-some, shows-it, spent, none-there}
use Rattle.sdd_lists.proofs.moves.trim_deleted.Goals as goal

pub tag-requires-clause-home : goal.tag-requires-clause-home
tag-requires-clause-home g c =
    let shows = shows-it (g.S.Shows.shows c.load-first.new.s) c.load-first.result c.in-Some.entry.now
    (names-some c.load-first.result (c.in-Some.ensures.null.0 refl)) (sym c.in-Some.ensures.shown) c.load-first.ensures.shown in
    c.link_ref-link.ensures.home
    ∙ g.met.T.LinkedList.link_is_held (g.S.Shows.home c.load-first.new.s) c.in-Some.entry.now (c.shown_is_of_home.ensures _ c.in-Some.entry.now shows)
    ∙ ap (λ (h : SpaceId). h.cells) (g.met.S.Caller.home_is_caller c.load-first.new.s)

pub let_go_of_first-requires-clause-link : goal.let_go_of_first-requires-clause-link
let_go_of_first-requires-clause-link g c =
    let shows = shows-it (g.S.Shows.shows c.load-first.new.s) c.load-first.result c.in-Some.entry.now
    (names-some c.load-first.result (c.in-Some.ensures.null.0 refl)) (sym c.in-Some.ensures.shown) c.load-first.ensures.shown in
    c.link_ref-link.ensures.home
    ∙ g.met.T.LinkedList.link_is_held (g.S.Shows.home c.load-first.new.s) c.in-Some.entry.now (c.shown_is_of_home.ensures _ c.in-Some.entry.now shows)
    ∙ ap (λ (h : SpaceId). h.cells) (g.met.S.Caller.home_is_caller c.load-first.new.s)
    ∙ ap (λ (s : CallerId). s.home.cells) (sym c.tag.ensures.undisturbed.caller)

pub loop-step-init : goal.loop-step-init
loop-step-init g c = record {
  caller = refl;
  own = λ start grown. grown;
  known = knows-same (g.S.Caller.known c.args.s.now);
  keeps = λ k v was. was;
  list = λ e t es list. (es, list, refl, refl, omega (arith, c.reach-most.ensures e es list.linked));
}

pub returns-in_default-clause-exact : goal.returns-in_default-clause-exact
returns-in_default-clause-exact g c = λ e t es list.
    let link = g.T.LinkedList.link in
    let place = (g.S.Caller.caller c.args.s.now).place in
    let cell : ℕ = cell_of c.args.cell.now in
    let inv = c.loop-step.invariant.list e t es list in
    let loaded = c.load-first.ensures.exact (subst (λ (s : CallerId). IsExact s) (sym c.loop-step.invariant.caller) e) in
    let null : slot_named c.load-first.result ≡ None = names-none c.load-first.result
    (λ n. let never : false ≡ true = c.in_default.ensures.null.1 n in absurd (cc)) in
    let front = null-front link (g.S.Caller.world c.loop-step.s) place cell t inv.0 (cell_seen c.load-first.result) inv.1 loaded.0 null in (
      refl,
      c.without_tag.ensures.slot ∙ null ∙ sym front.0 ∙ ap first_slot inv.2,
      subst (λ (w : World _). IsList link w cell t (left es)) (sym loaded.1)
          (subst (λ (xs : _). IsList link (g.S.Caller.world c.loop-step.s) cell t xs) inv.2 front.1),
      loaded.1 ∙ front.2 ∙ inv.3,
    )

pub loop-step-preserved : goal.loop-step-preserved
loop-step-preserved g c = record {
  own = λ start grown.
      let p = g.S.Caller.own c.tag.new.s in
      c.let_go_of_first.ensures.own start
      (grows-not (g.S.Caller.own c.loop-step.s) p (c.tag.ensures.undisturbed.own ∙ c.load-first.ensures.undisturbed.own) start
      (c.loop-step.invariant.own start grown));
  known = knows-on (knows-on
      (knows-on c.loop-step.invariant.known c.load-first.ensures.undisturbed.known) c.tag.ensures.undisturbed.known) c.let_go_of_first.ensures.unmoved.known;
  caller = c.let_go_of_first.ensures.unmoved.caller ∙ c.tag.ensures.undisturbed.caller ∙ c.load-first.ensures.undisturbed.caller ∙ c.loop-step.invariant.caller;
  keeps = λ k v was. c.let_go_of_first.ensures.unmoved.shown k v
      (c.tag.ensures.undisturbed.shown k v (c.load-first.ensures.undisturbed.shown k v (c.loop-step.invariant.keeps k v was)));
  list = λ e t es list.
      let link = g.T.LinkedList.link in
      let place = (g.S.Caller.caller c.args.s.now).place in
      let cell : ℕ = cell_of c.args.cell.now in
      let w = g.S.Caller.world c.loop-step.s in
      let v = c.in-Some.entry.now in
      let inv = c.loop-step.invariant.list e t es list in
      let at0 = c.loop-step.invariant.caller in
      let at1 = c.load-first.ensures.undisturbed.caller ∙ at0 in
      let at2 = c.tag.ensures.undisturbed.caller ∙ at1 in
      let loaded = c.load-first.ensures.exact (subst (λ (s : CallerId). IsExact s) (sym at0) e) in
      let tagged = c.tag.ensures.exact (subst (λ (s : CallerId). IsExact s) (sym at1) e) in
      let same : g.S.Caller.world c.tag.new.s ≡ w = tagged.0 ∙ loaded.1 in
      let slot : ℕ = c.load-first.result.slot in
      let shown = shows-it (g.S.Shows.shows c.load-first.new.s) c.load-first.result v (names-some c.load-first.result (c.in-Some.ensures.null.0 refl))
      (sym c.in-Some.ensures.shown) c.load-first.ensures.shown in
      let value : value_at w slot ≡ Some v =
      subst (λ (x : World _). value_at x slot ≡ Some v) loaded.1
      ((g.met.S.Caller.shows_is_value c.load-first.new.s (subst (λ (s : CallerId). IsExact s) (sym at1) e) slot v).0 shown) in
      let cell_is : cell_of c.link_ref-link.result.now ≡ link v = c.link_ref-link.ensures.link in
      let at_w : entry_at w.cells (cell_of c.link_ref-link.result.now) ≡ Some (record { held = tagged.1.0.held; tag = Second }) =
      subst (λ (x : World _). entry_at x.cells (cell_of c.link_ref-link.result.now) ≡ Some (record { held = tagged.1.0.held; tag = Second })) loaded.1
      (tagged.1.1 ∙ ap (λ (x : Tag). Some (record { held = tagged.1.0.held; tag = x })) (sym tagged.1.2 ∙ c.in-Second.is)) in
      let linked : entry_at w.cells (link v) ≡ Some (record { held = tagged.1.0.held; tag = Second }) = ap (λ (x : ℕ). entry_at w.cells x) (sym cell_is)
      ∙ at_w in
      let front = gone-front link w place cell t inv.0 (cell_seen c.load-first.result) slot v tagged.1.0.held inv.1 loaded.0
      (names-some c.load-first.result (c.in-Some.ensures.null.0 refl)) value linked in
      let gone = c.let_go_of_first.ensures.exact (subst (λ (s : CallerId). IsExact s) (sym at2) e) slot t Second tagged.1.0.held
      (ap (λ (x : World _). entry_at x.cells cell) same ∙ front.1) (ap (λ (x : World _). entry_at x.cells (cell_of c.link_ref-link.result.now)) same ∙ at_w)
      (λ meet. front.0 (meet ∙ cell_is)) in
      let made : g.S.Caller.world c.let_go_of_first.new.s ≡ let_go_first w place cell t slot (link v) tagged.1.0.held =
      gone ∙ ap (λ (x : World _). let_go_first x (g.S.Caller.caller c.tag.new.s).place cell t slot (cell_of c.link_ref-link.result.now) tagged.1.0.held) same
      ∙ ap (λ (x : CallerId). let_go_first w x.place cell t slot (cell_of c.link_ref-link.result.now) tagged.1.0.held) at2
      ∙ ap (λ (x : ℕ). let_go_first w place cell t slot x tagged.1.0.held) cell_is in
      let next = front.2 (g.S.Caller.world c.let_go_of_first.new.s) made in
      (next.0, next.1, next.2 ∙ inv.2, next.3 ∙ inv.3, omega (arith, next.4, inv.4));
}

pub returns-in_default-tag-clause-exact : goal.returns-in_default-tag-clause-exact
returns-in_default-tag-clause-exact g c = λ e t es list.
    let link = g.T.LinkedList.link in
    let place = (g.S.Caller.caller c.args.s.now).place in
    let cell : ℕ = cell_of c.args.cell.now in
    let w = g.S.Caller.world c.loop-step.s in
    let v = c.in-Some.entry.now in
    let inv = c.loop-step.invariant.list e t es list in
    let at0 = c.loop-step.invariant.caller in
    let at1 = c.load-first.ensures.undisturbed.caller ∙ at0 in
    let loaded = c.load-first.ensures.exact (subst (λ (s : CallerId). IsExact s) (sym at0) e) in
    let tagged = c.tag.ensures.exact (subst (λ (s : CallerId). IsExact s) (sym at1) e) in
    let same : g.S.Caller.world c.tag.new.s ≡ w = tagged.0 ∙ loaded.1 in
    let slot : ℕ = c.load-first.result.slot in
    let shown = shows-it (g.S.Shows.shows c.load-first.new.s) c.load-first.result v (names-some c.load-first.result (c.in-Some.ensures.null.0 refl))
    (sym c.in-Some.ensures.shown) c.load-first.ensures.shown in
    let value : value_at w slot ≡ Some v =
    subst (λ (x : World _). value_at x slot ≡ Some v) loaded.1
    ((g.met.S.Caller.shows_is_value c.load-first.new.s (subst (λ (s : CallerId). IsExact s) (sym at1) e) slot v).0 shown) in
    let linked : entry_at w.cells (link v) ≡ Some (record { held = tagged.1.0.held; tag = c.tag.result }) =
    ap (λ (x : ℕ). entry_at w.cells x) (sym c.link_ref-link.ensures.link)
    ∙ ap (λ (x : World _). entry_at x.cells (cell_of c.link_ref-link.result.now)) (sym loaded.1) ∙ tagged.1.1
    ∙ ap (λ (x : Tag). Some (record { held = tagged.1.0.held; tag = x })) (sym tagged.1.2) in
    let names = names-some c.load-first.result (c.in-Some.ensures.null.0 refl) in
    let front = kept-front link w place cell t inv.0 (cell_seen c.load-first.result) slot v tagged.1.0.held c.tag.result inv.1 loaded.0
    names value linked c.in_default-tag.not-Second in (
      refl,
      c.without_tag-in_default-tag.ensures.slot ∙ names ∙ front.0 ∙ ap first_slot inv.2,
      subst (λ (x : World _). IsList link x cell t (left es)) (sym same) (subst (λ (xs : _). IsList link w cell t xs) inv.2 front.1),
      same ∙ front.2 ∙ inv.3,
    )

pub returns-in_default-clause-own : goal.returns-in_default-clause-own
returns-in_default-clause-own g c = λ start grown.
    grows-not (g.S.Caller.own c.loop-step.s) _ c.load-first.ensures.undisturbed.own start (c.loop-step.invariant.own start grown)

pub returns-in_default-tag-clause-own : goal.returns-in_default-tag-clause-own
returns-in_default-tag-clause-own g c = λ start grown.
    grows-not (g.S.Caller.own c.loop-step.s) _ (c.tag.ensures.undisturbed.own ∙ c.load-first.ensures.undisturbed.own) start
    (c.loop-step.invariant.own start grown)

pub returns-then-is_null-clause-own : goal.returns-then-is_null-clause-own
returns-then-is_null-clause-own g c = λ start grown.
    grows-not (g.S.Caller.own c.loop-step.s) _ c.is_null.ensures.undisturbed.own start (c.loop-step.invariant.own start grown)

pub returns-else-is_null-clause-own : goal.returns-else-is_null-clause-own
returns-else-is_null-clause-own g c = λ start grown.
    grows-not (g.S.Caller.own c.loop-step.s) _ c.is_null.ensures.undisturbed.own start (c.loop-step.invariant.own start grown)

pub returns-then-is_null-clause-exact : goal.returns-then-is_null-clause-exact
returns-then-is_null-clause-exact g c = λ e t es list.
    let link = g.T.LinkedList.link in
    let place = (g.S.Caller.caller c.args.s.now).place in
    let cell : ℕ = cell_of c.args.cell.now in
    let w = g.S.Caller.world c.loop-step.s in
    let inv = c.loop-step.invariant.list e t es list in
    let same = (c.is_null.ensures.exact (subst (λ (s : CallerId). IsExact s) (sym c.loop-step.invariant.caller) e)).0 in
    let all = spent link w place cell t inv.0 es _ inv.1 inv.2 inv.3 (omega (arith, inv.4)) in (
      refl,
      c.null.ensures.null ∙ sym all.0,
      subst (λ (x : World _). IsList link x cell t (left es)) (sym same) all.1,
      same ∙ all.2,
    )

pub returns-else-is_null-clause-exact : goal.returns-else-is_null-clause-exact
returns-else-is_null-clause-exact g c = λ e t es list.
    let link = g.T.LinkedList.link in
    let place = (g.S.Caller.caller c.args.s.now).place in
    let cell : ℕ = cell_of c.args.cell.now in
    let w = g.S.Caller.world c.loop-step.s in
    let inv = c.loop-step.invariant.list e t es list in
    let seen = c.is_null.ensures.exact (subst (λ (s : CallerId). IsExact s) (sym c.loop-step.invariant.caller) e) in
    let none = none-there link w place cell t inv.0 seen.1.0 inv.1 (omega (arith, inv.4)) seen.1.1 in
    let yes : c.is_null.result ≡ true = seen.1.2.1 none in
    let no : c.is_null.result ≡ false = c.if-is_null.false in
    absurd (cc)
