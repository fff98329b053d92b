use Rattle.std.proofs.Common.{◌≡◌, ℕ, ◌∙◌, ap, sym, List, [], ◌∷◌, true, false, subst}
use Rattle.sdd_world_model.specs.World.{World}
use Rattle.sdd_space.specs.CallerId.{IsExact, CallerId}
use Rattle.sdd_space.specs.Shared.{cell_of}
use Rattle.sdd_lists.specs.Lists.{Entry, IsList, removed}
use Rattle.sdd_lists.proofs.PoppedLists.{stays-of}
use Rattle.sdd_lists.proofs.pops.remove_first.Goals as goal

pub returns-in-Err-clause-exact : goal.returns-in-Err-clause-exact
returns-in-Err-clause-exact g c = λ e t es list x rest first cell_is.
    let cut = c.in-Err.ensures.exact e t es list in
    let never : false ≡ true = cut.0 in
    absurd (cc)

pub returns-clause-exact : goal.returns-clause-exact
returns-clause-exact g c = λ e t es list x rest first cell_is.
    let link = g.T.LinkedList.link in
    let place = (g.S.Caller.caller c.args.s.now).place in
    let cell : ℕ = cell_of c.args.cell.now in
    let at_trim = c.trim.ensures.unmoved.caller in
    let cut = c.trim.ensures.exact e t es list in
    let v = g.S.Caller.world c.trim.new.s in
    let in_v : IsList link v cell t (x ∷ rest) = subst (λ (xs : List (Entry _)). IsList link v cell t xs) first cut.2 in
    let gone = c.remove_head.ensures.exact (subst (λ (s : CallerId). IsExact s) (sym at_trim) e) t x rest in_v (stays-of es x rest first) cell_is in (
      gone.0,
      gone.1 ∙ ap (λ (s : CallerId). removed link v s.place cell t [] x rest) at_trim
          ∙ ap (λ (y : World _). removed link y place cell t [] x rest) cut.3,
      gone.2,
    )

pub returns-clause-own : goal.returns-clause-own
returns-clause-own g c = λ start grown. c.remove_head.ensures.own start (c.trim.ensures.own start grown)
