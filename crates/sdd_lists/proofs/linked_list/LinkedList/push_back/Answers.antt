use Rattle.std.proofs.Common.{◌≡◌, ℕ, Some, sym, subst}
use Rattle.std.specs.Prelude.{IfOk}
use Rattle.sdd_participants.specs.Slab.{entry_at}
use Rattle.sdd_space.specs.Shared.{slot_of}
use Rattle.sdd_lists.specs.Behind.{IsFresh, IsLinkedBehind, mark_tag}
use Rattle.sdd_lists.specs.Lists.{IsList}
use Rattle.sdd_lists.proofs.linked_list.LinkedList.push_back.Goals as goal

pub returns-clause-refused : goal.returns-clause-refused
returns-clause-refused g c = λ e cell there.
    let w = g.S.Caller.world c.args.s.now in
    c.link_behind.ensures.refused e cell (subst (λ (k : ℕ). entry_at w.cells k ≡ Some cell) (sym c.link_ref.ensures.link) there)

pub returns-clause-list : goal.returns-clause-list
returns-clause-list g c = λ e t es v list fresh.
    let link = g.Self.LinkedList.link in
    let w = g.S.Caller.world c.args.s.now in
    let slot : ℕ = slot_of c.args.entry in
    subst (λ (k : ℕ). IsList link w k t es → IsFresh link w slot v k es →
    IfOk c.link_behind.result (λ _. IsLinkedBehind link w k (mark_tag c.args.mark) es slot v (g.S.Caller.world c.link_behind.new.s)))
    c.link_ref.ensures.link (c.link_behind.ensures.list e t es v) list fresh
