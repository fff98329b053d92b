use Rattle.std.proofs.Common.{◌≡◌, ℕ, ◌∙◌, ap, sym, List, subst}
use Rattle.std.specs.Prelude.{true}
use Rattle.sdd_space.specs.Shared.{cell_of, slot_of}
use Rattle.sdd_lists.specs.Ends.{End, IsLastOf, is_spent, put_at}
use Rattle.sdd_lists.specs.Lists.{Entry, IsList, first_slot, left, linked_in, trimmed}
use Rattle.sdd_lists.proofs.Ends.{apart-ends, end-last, end-spent, left-none, list-ends}
use Rattle.sdd_lists.proofs.pushes.put_last.Goals as goal

pub returns-in-Some-clause-exact : goal.returns-in-Some-clause-exact
returns-in-Some-clause-exact g c = λ e t es v list last same_slot there clear far all.
    let link = g.T.LinkedList.link in
    let w = g.S.Caller.world c.args.s.now in
    let place = (g.S.Caller.caller c.args.s.now).place in
    let cell : ℕ = cell_of c.args.cell.now in
    let l : ℕ = link v in
    let k : ℕ = slot_of c.args.owner.now in
    let at = rw c.in-Some.is at last in
    let x : Entry _ = at.0 in
    let rest : List (Entry _) = at.1 in
    let end : IsLastOf es x rest = at.2 in
    let cell_is : cell_of c.in-Some.front.link.now ≡ link x.value = at.4 in
    let here : IsList link w (cell_of c.in-Some.front.link.now) x.tag rest =
    subst (λ (j : ℕ). IsList link w j x.tag rest) (sym cell_is) (list-ends link w es x rest end.ends list.linked) in
    let apart = apart-ends link l es x rest end.ends all in
    let put = c.put_behind.ensures.exact e x.tag rest v here same_slot there clear (λ meet. apart.0 (sym cell_is ∙ meet)) apart.1 in
    put ∙ ap (λ (j : ℕ). linked_in (trimmed link w place j x.tag rest) j x.tag l k (first_slot (left rest))) cell_is
    ∙ ap (λ (xs : List (Entry _)). linked_in (trimmed link w place (link x.value) x.tag rest) (link x.value) x.tag l k (first_slot xs))
    (left-none rest end.spent)
    ∙ sym (ap (λ (y : End _). put_at link w place y l k) (end-last link cell t es x rest end))

pub returns-in-None-clause-exact : goal.returns-in-None-clause-exact
returns-in-None-clause-exact g c = λ e t es v list last same_slot there clear far all.
    let link = g.T.LinkedList.link in
    let w = g.S.Caller.world c.args.s.now in
    let place = (g.S.Caller.caller c.args.s.now).place in
    let cell : ℕ = cell_of c.args.cell.now in
    let l : ℕ = link v in
    let k : ℕ = slot_of c.args.owner.now in
    let spent : is_spent es ≡ true = rw c.in-None.is at last in
    let put = c.put_behind-in-None.ensures.exact e t es v list same_slot there clear far all in
    put ∙ ap (λ (xs : List (Entry _)). linked_in (trimmed link w place cell t es) cell t l k (first_slot xs)) (left-none es spent)
    ∙ sym (ap (λ (y : End _). put_at link w place y l k) (end-spent link cell t es spent))
