use Rattle.std.proofs.Common.{◌≡◌, ℕ, ◌∙◌, ap, sym, refl, List, true, false, subst}
use Rattle.sdd_world_model.specs.World.{World, standing_at}
use Rattle.sdd_space.specs.CallerId.{IsExact, CallerId}
use Rattle.sdd_space.specs.Shared.{cell_of}
use Rattle.sdd_participants.specs.declared.standing.CellContents.{CellContents}
use Rattle.sdd_world_model.specs.Slots.{IsSharedBy}
use Rattle.sdd_lists.specs.Lists.{Entry, IsCrowded, IsList, first_slot, trimmed}
use Rattle.sdd_lists.specs.Behind.{IsReached}
use Rattle.sdd_lists.proofs.MoreWaiting.{grows-not}
use Rattle.sdd_lists.proofs.Lists.{list-same}
use Rattle.sdd_lists.proofs.behind.next_in.Goals as goal

pub returns-in-Ok-clause-own : goal.returns-in-Ok-clause-own
returns-in-Ok-clause-own g c = λ start grown.
    c.in-Ok.ensures.own start (grows-not (g.S.Caller.own c.args.s.now) _ c.in-Ok-Some.ensures.undisturbed.own start grown)

pub returns-in-Ok-clause-exact : goal.returns-in-Ok-clause-exact
returns-in-Ok-clause-exact g c = λ e t es list.
    let link = g.T.LinkedList.link in
    let w = g.S.Caller.world c.args.s.now in
    let cell : ℕ = cell_of c.args.cell.now in
    let held : CellContents = record { held = first_slot es; tag = t } in
    let at_find = c.in-Ok-Some.ensures.undisturbed.caller in
    let same = c.in-Ok-Some.ensures.world e in
    let found = rw c.in-Ok-Some.field-0-is at (c.in-Ok-Some.ensures.exact e es list.linked held list.begins refl) in
    let x : Entry _ = found.0 in
    let rest : List (Entry _) = found.1 in
    let ex : IsExact (g.S.Caller.caller c.find_first.new.s) = subst (λ (s : CallerId). IsExact s) (sym at_find) e in
    let here = list-same link w (g.S.Caller.world c.find_first.new.s) cell t es (ap (λ (y : World _). y.cells) same)
    (ap (λ (y : World _). y.values) same) list in
    let shared = subst (λ (y : World _). (n : ℕ) × IsSharedBy n (standing_at y x.slot)) (sym same) found.5 in
    let taken = c.in-Ok.ensures.exact ex t es here x rest found.2 found.3 shared in (
      x,
      rest,
      found.2,
      subst (λ (s : CallerId). IsReached link w s.place cell t es x rest c.in-Ok.owner (g.S.Caller.world c.reach_first.new.s)) at_find
          (subst (λ (y : World _). IsReached link y (g.S.Caller.caller c.find_first.new.s).place cell t es x rest c.in-Ok.owner
          (g.S.Caller.world c.reach_first.new.s)) same taken),
    )

pub returns-in-Err-reach_first-clause-exact : goal.returns-in-Err-reach_first-clause-exact
returns-in-Err-reach_first-clause-exact g c = λ e t es list.
    let link = g.T.LinkedList.link in
    let w = g.S.Caller.world c.args.s.now in
    let cell : ℕ = cell_of c.args.cell.now in
    let held : CellContents = record { held = first_slot es; tag = t } in
    let at_find = c.in-Ok-Some.ensures.undisturbed.caller in
    let same = c.in-Ok-Some.ensures.world e in
    let found = rw c.in-Ok-Some.field-0-is at (c.in-Ok-Some.ensures.exact e es list.linked held list.begins refl) in
    let x : Entry _ = found.0 in
    let rest : List (Entry _) = found.1 in
    let ex : IsExact (g.S.Caller.caller c.find_first.new.s) = subst (λ (s : CallerId). IsExact s) (sym at_find) e in
    let here = list-same link w (g.S.Caller.world c.find_first.new.s) cell t es (ap (λ (y : World _). y.cells) same)
    (ap (λ (y : World _). y.values) same) list in
    let shared = subst (λ (y : World _). (n : ℕ) × IsSharedBy n (standing_at y x.slot)) (sym same) found.5 in
    let crowded = c.in-Err-reach_first.ensures.exact ex t es here x rest found.2 found.3 shared in (
      x,
      rest,
      found.2,
      subst (λ (y : World _). IsCrowded y x c.in-Err-reach_first.refused (g.S.Caller.world c.reach_first.new.s)) same crowded,
    )

pub returns-in-Ok-trim-clause-exact : goal.returns-in-Ok-trim-clause-exact
returns-in-Ok-trim-clause-exact g c = λ e t es list.
    let link = g.T.LinkedList.link in
    let w = g.S.Caller.world c.args.s.now in
    let cell : ℕ = cell_of c.args.cell.now in
    let held : CellContents = record { held = first_slot es; tag = t } in
    let at_find = c.in-Ok-None.ensures.undisturbed.caller in
    let same = c.in-Ok-None.ensures.world e in
    let none = rw c.in-Ok-None.field-0-is at (c.in-Ok-None.ensures.exact e es list.linked held list.begins refl) in
    let ex : IsExact (g.S.Caller.caller c.find_first.new.s) = subst (λ (s : CallerId). IsExact s) (sym at_find) e in
    let here = list-same link w (g.S.Caller.world c.find_first.new.s) cell t es (ap (λ (y : World _). y.cells) same)
    (ap (λ (y : World _). y.values) same) list in
    let cut = c.in-Ok-trim.ensures.exact ex t es here in
    record {
      none = none;
      world = cut.3 ∙ ap (λ (y : World _). trimmed link y (g.S.Caller.caller c.find_first.new.s).place cell t es) same
          ∙ ap (λ (s : CallerId). trimmed link w s.place cell t es) at_find;
      list = subst (λ (xs : List (Entry _)). IsList link (g.S.Caller.world c.trim.new.s) cell t xs) none cut.2;
    }

pub returns-in-Err-trim-clause-exact : goal.returns-in-Err-trim-clause-exact
returns-in-Err-trim-clause-exact g c = λ e t es list.
    let link = g.T.LinkedList.link in
    let w = g.S.Caller.world c.args.s.now in
    let cell : ℕ = cell_of c.args.cell.now in
    let held : CellContents = record { held = first_slot es; tag = t } in
    let at_find = c.in-Ok-None.ensures.undisturbed.caller in
    let same = c.in-Ok-None.ensures.world e in
    let none = rw c.in-Ok-None.field-0-is at (c.in-Ok-None.ensures.exact e es list.linked held list.begins refl) in
    let ex : IsExact (g.S.Caller.caller c.find_first.new.s) = subst (λ (s : CallerId). IsExact s) (sym at_find) e in
    let here = list-same link w (g.S.Caller.world c.find_first.new.s) cell t es (ap (λ (y : World _). y.cells) same)
    (ap (λ (y : World _). y.values) same) list in
    let cut = c.in-Err-trim.ensures.exact ex t es here in
    let never : false ≡ true = cut.0 in
    absurd (cc)
