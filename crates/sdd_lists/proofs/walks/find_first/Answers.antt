use Rattle.std.proofs.Common.{◌≡◌, ℕ, ◌∙◌, ap, sym, List, Some, subst}
use Rattle.sdd_world_model.specs.World.{World}
use Rattle.sdd_space.specs.CallerId.{IsExact, CallerId}
use Rattle.sdd_space.specs.Shared.{cell_of}
use Rattle.sdd_participants.specs.Slab.{entry_at}
use Rattle.sdd_core.specs.declared.tag.Tag.{Tag}
use Rattle.sdd_lists.specs.Lists.{AreLinked, Entry, left}
use Rattle.sdd_lists.proofs.FirstEntries.{left-stays}
use Rattle.sdd_lists.proofs.walks.find_first.Goals as goal

pub returns-in-Second-clause-exact : goal.returns-in-Second-clause-exact
returns-in-Second-clause-exact g c = λ e es linked held there first.
    let w = g.S.Caller.world c.args.s.now in
    let at1 = c.in-Some.ensures.undisturbed.caller in
    let tagged = c.tag.ensures.exact (subst (λ (s : CallerId). IsExact s) (sym at1) e) in
    let same : g.S.Caller.world c.tag.new.s ≡ w = tagged.0 ∙ c.in-Some.ensures.world e in
    let at2 = c.tag.ensures.undisturbed.caller ∙ at1 in
    let linked2 = subst (λ (x : World _). AreLinked g.T.LinkedList.link x es) (sym same) linked in
    let there2 : entry_at (g.S.Caller.world c.tag.new.s).cells (cell_of c.args.cell.now) ≡ Some held =
    ap (λ (x : World _). entry_at x.cells (cell_of c.args.cell.now)) same ∙ there in
    rw same at (c.find_past_deleted.ensures.exact (subst (λ (s : CallerId). IsExact s) (sym at2) e) es linked2 held there2 first)

pub returns-in_default-tag-clause-exact : goal.returns-in_default-tag-clause-exact
returns-in_default-tag-clause-exact g c = λ e es linked held there first.
    let link = g.T.LinkedList.link in
    let w = g.S.Caller.world c.args.s.now in
    let f = c.in-Some.ensures.exact e es linked held there first in
    let linked_f = subst (λ (xs : List (Entry _)). AreLinked link w xs) f.2 linked in
    let cell_is : cell_of c.in-Some.front.link.now ≡ link f.0.value = c.in-Some.ensures.link ∙ ap link f.4 in
    let tagged = c.tag.ensures.exact (subst (λ (s : CallerId). IsExact s) (sym c.in-Some.ensures.undisturbed.caller) e) in
    let here : entry_at w.cells (link f.0.value) ≡ Some (record { held = tagged.1.0.held; tag = c.tag.result }) =
    ap (λ (x : ℕ). entry_at w.cells x) (sym cell_is)
    ∙ ap (λ (x : World _). entry_at x.cells (cell_of c.in-Some.front.link.now)) (sym (c.in-Some.ensures.world e)) ∙ tagged.1.1
    ∙ ap (λ (x : Tag). Some (record { held = tagged.1.0.held; tag = x })) (sym tagged.1.2) in
    let lefts = left-stays link w f.0 f.1 tagged.1.0.held c.tag.result linked_f here c.in_default-tag.not-Second in
    (f.0, f.1, ap left f.2 ∙ lefts, f.3, f.4, f.5)
