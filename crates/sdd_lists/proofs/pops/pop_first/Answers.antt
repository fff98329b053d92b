use Rattle.std.proofs.Common.{◌≡◌, ℕ, ◌∙◌, sym, ap, refl, List, ◌∷◌, subst}
use Rattle.sdd_world_model.specs.World.{World, standing_at}
use Rattle.sdd_space.specs.CallerId.{IsExact, CallerId}
use Rattle.sdd_space.specs.Shared.{cell_of}
use Rattle.sdd_participants.specs.declared.standing.CellContents.{CellContents}
use Rattle.sdd_world_model.specs.Slots.{IsSharedBy}
use Rattle.sdd_lists.specs.Lists.{Entry, IsCrowded, IsList, IsTaken, first_slot}
use Rattle.sdd_lists.proofs.FirstEntries.{head-stays, left-head}
use Rattle.sdd_lists.proofs.MoreWaiting.{grows-not}
use Rattle.sdd_lists.proofs.pops.pop_first.Goals as goal

pub returns-in-Ok-clause-exact : goal.returns-in-Ok-clause-exact
returns-in-Ok-clause-exact g c = λ e t es list.
    let link = g.T.LinkedList.link in
    let w = g.S.Caller.world c.args.s.now in
    let cell : ℕ = cell_of c.args.cell.now in
    let held : CellContents = record { held = first_slot es; tag = t } in
    let found = c.in-Some.ensures.exact e es list.linked held list.begins refl in
    let x : Entry _ = found.0 in
    let rest : List (Entry _) = found.1 in
    let at1 = c.in-Some.ensures.undisturbed.caller in
    let at2 = c.tag.ensures.undisturbed.caller ∙ at1 in
    let tagged = c.tag.ensures.exact (subst (λ (s : CallerId). IsExact s) (sym at1) e) in
    let same : g.S.Caller.world c.tag.new.s ≡ w = tagged.0 ∙ c.in-Some.ensures.world e in
    let list_x : IsList link w cell t (x ∷ rest) = subst (λ (xs : List (Entry _)). IsList link w cell t xs) found.2 list in
    let cell_is : cell_of c.in-Some.front.link.now ≡ link x.value = c.in-Some.ensures.link ∙ ap link found.4 in
    let stays = head-stays link w (g.S.Caller.world c.first_in.new.s) cell t x rest list_x (cell_of c.in-Some.front.link.now) cell_is
    (c.in-Some.ensures.world e) tagged.1.0 tagged.1.1 c.tag.result tagged.1.2 c.in_default-tag.not-Second in
    let here = subst (λ (y : World _). IsList link y cell t (x ∷ rest)) (sym same) list_x in
    let shared = subst (λ (y : World _). (n : ℕ) × IsSharedBy n (standing_at y x.slot)) (sym same) found.5 in
    let new = g.S.Caller.world c.take_head.new.s in
    let taken = c.in-Ok.ensures.exact (subst (λ (s : CallerId). IsExact s) (sym at2) e) t x rest here stays found.3 cell_is shared in (
      x,
      rest,
      left-head es x rest found.2 stays,
      subst (λ (xs : List (Entry _)). IsTaken link w (g.S.Caller.caller c.args.s.now).place cell t xs x rest c.in-Ok.owner new) (sym found.2)
          (subst (λ (s : CallerId). IsTaken link w s.place cell t (x ∷ rest) x rest c.in-Ok.owner new) at2
          (subst (λ (y : World _). IsTaken link y (g.S.Caller.caller c.tag.new.s).place cell t (x ∷ rest) x rest c.in-Ok.owner new) same taken)),
    )

pub returns-in-Err-clause-exact : goal.returns-in-Err-clause-exact
returns-in-Err-clause-exact g c = λ e t es list.
    let link = g.T.LinkedList.link in
    let w = g.S.Caller.world c.args.s.now in
    let cell : ℕ = cell_of c.args.cell.now in
    let held : CellContents = record { held = first_slot es; tag = t } in
    let found = c.in-Some.ensures.exact e es list.linked held list.begins refl in
    let x : Entry _ = found.0 in
    let rest : List (Entry _) = found.1 in
    let at1 = c.in-Some.ensures.undisturbed.caller in
    let at2 = c.tag.ensures.undisturbed.caller ∙ at1 in
    let tagged = c.tag.ensures.exact (subst (λ (s : CallerId). IsExact s) (sym at1) e) in
    let same : g.S.Caller.world c.tag.new.s ≡ w = tagged.0 ∙ c.in-Some.ensures.world e in
    let list_x : IsList link w cell t (x ∷ rest) = subst (λ (xs : List (Entry _)). IsList link w cell t xs) found.2 list in
    let cell_is : cell_of c.in-Some.front.link.now ≡ link x.value = c.in-Some.ensures.link ∙ ap link found.4 in
    let stays = head-stays link w (g.S.Caller.world c.first_in.new.s) cell t x rest list_x (cell_of c.in-Some.front.link.now) cell_is
    (c.in-Some.ensures.world e) tagged.1.0 tagged.1.1 c.tag.result tagged.1.2 c.in_default-tag.not-Second in
    let here = subst (λ (y : World _). IsList link y cell t (x ∷ rest)) (sym same) list_x in
    let shared = subst (λ (y : World _). (n : ℕ) × IsSharedBy n (standing_at y x.slot)) (sym same) found.5 in
    let crowded = c.in-Err.ensures.exact (subst (λ (s : CallerId). IsExact s) (sym at2) e) t x rest here stays found.3 cell_is shared in (
      x,
      rest,
      left-head es x rest found.2 stays,
      subst (λ (y : World _). IsCrowded y x c.in-Err.refused (g.S.Caller.world c.take_head.new.s)) same crowded,
    )

pub returns-in-Ok-clause-own : goal.returns-in-Ok-clause-own
returns-in-Ok-clause-own g c = λ start grown.
    c.in-Ok.ensures.own start
    (grows-not (g.S.Caller.own c.args.s.now) _ (c.tag.ensures.undisturbed.own ∙ c.in-Some.ensures.undisturbed.own) start grown)

pub returns-in-Err-clause-own : goal.returns-in-Err-clause-own
returns-in-Err-clause-own g c = λ start grown.
    c.in-Err.ensures.own start
    (grows-not (g.S.Caller.own c.args.s.now) _ (c.tag.ensures.undisturbed.own ∙ c.in-Some.ensures.undisturbed.own) start grown)
