use Rattle.sdd_interpreter.proofs.Words.{◌≡◌, ℕ, Option, None, Some, sym, ap, ◌∙◌, subst, rules, IsTrue, entry_at, CellContents, World, value_at, held_in, IsNumber, Val, body_of, link_of, Body, Number, IsLooseEntry, Tag, ◌↔◌}
use Rattle.sdd_core.specs.declared.tag.Tag.TheVariants.{None as no_tag}
use Rattle.sdd_interpreter.proofs.commands.links.is_loose.Goals as goal

-- a number in no cell, behind which nothing comes, is loose exactly where its link has no tag
untagged : (w : World Val) (k : ℕ) (v : Val) (n : ℕ) (link : CellContents) → value_at w k ≡ Some v → body_of v ≡ Number n →
    ((c : ℕ) × (held_in (entry_at w.cells c) ≡ Some k) → ⊥) → entry_at w.cells (link_of v) ≡ Some link → link.held ≡ None →
    (link.tag ≡ no_tag) ↔ IsLooseEntry w k
untagged w k v n link there number none is bare = (
  (λ clear. record {
    entry = v;
    there = there;
    number = subst (λ (b : Body). IsNumber b) (sym number) tt;
    clear = is ∙ ap (λ (x : Option ℕ). let c : CellContents = record { held = x; tag = link.tag } in Some c) bare
        ∙ ap (λ (t : Tag). let c : CellContents = record { held = None; tag = t } in Some c) clear;
    unheld = λ c at. none (c, at);
  }),
  (λ loose.
      let both : Some v ≡ Some loose.entry = sym there ∙ loose.there in
      let value : v ≡ loose.entry = cc in
      let clear : CellContents = record { held = None; tag = no_tag } in
      let cells : Some link ≡ Some clear = sym is ∙ ap (λ (x : Val). entry_at w.cells (link_of x)) value ∙ loose.clear in
      let same : link ≡ clear = cc in ap (λ (c : CellContents). c.tag) same),
)

pub returns-then-is_none-clause-loose : goal.returns-then-is_none-clause-loose
returns-then-is_none-clause-loose c =
    let link = c.at-link.result in
    let same = c.value_shown-entry.ensures.world in
    let number = c.is_number.ensures.0 (search rules) in
    let in_cell = rw same at c.is_in_cell.ensures.1 in
    let none : (j : ℕ) × (held_in (entry_at c.args.world.now.cells j) ≡ Some c.args.slot) → ⊥ = λ at. (let yes = in_cell at in cc) in
    let bare : link.held ≡ None = search rules in
    let tags : IsTrue c.eq.result ↔ (link.tag ≡ no_tag) = search rules in
    let its =
    untagged c.args.world.now c.args.slot c.value_shown-entry.result.now number.0 link c.value_shown-entry.ensures.shown number.1 none
    (rw same at c.at-link.ensures.done.0) bare in
    ((λ yes. its.0 (tags.0 yes)), (λ loose. tags.1 (its.1 loose)))
