use Rattle.std.proofs.Common.{◌≡◌, ℕ, ◌∙◌, ap, sym, refl, List, Bool, true, false, subst}
use Rattle.std.specs.Borrow.{Bor}
use Rattle.sdd_world_model.specs.World.{World, standing_at}
use Rattle.sdd_space.specs.CallerId.{IsExact, CallerId}
use Rattle.sdd_space.specs.Shared.{cell_of}
use Rattle.sdd_core.specs.declared.tag.Tag.TheVariants.{None as no_tag}
use Rattle.sdd_participants.specs.declared.standing.CellContents.{CellContents}
use Rattle.sdd_world_model.specs.Slots.{IsSharedBy}
use Rattle.sdd_lists.specs.declared.linked_entry.LinkedEntry.{LinkedEntry}
use Rattle.sdd_lists.specs.Entries.{link_of}
use Rattle.sdd_lists.specs.Lists.{Entry, IsList, first_slot, trimmed}
use Rattle.sdd_lists.specs.Stack.{PopsIf, cell_in}
use Rattle.sdd_lists.proofs.PopConditions.{asked-so}
use Rattle.sdd_lists.proofs.MoreWaiting.{grows-not}
use Rattle.sdd_lists.proofs.Lists.{list-same}
use Rattle.sdd_lists.proofs.stack.Stack.pop_if.Goals as goal

pub returns-in-Ok-Some-clause-own : goal.returns-in-Ok-Some-clause-own
returns-in-Ok-Some-clause-own g c = λ start grown.
    c.pop_asked.ensures.own start (grows-not (g.S.Caller.own c.args.s.now) _ c.in-Ok-Some.ensures.undisturbed.own start grown)

pub returns-in-Ok-Some-clause-list : goal.returns-in-Ok-Some-clause-list
returns-in-Ok-Some-clause-list g c = λ e es list.
    let w = g.S.Caller.world c.args.s.now in
    let cell : ℕ = cell_in c.args.self.now in
    let held : CellContents = record { held = first_slot es; tag = no_tag } in
    let at_find = c.in-Ok-Some.ensures.undisturbed.caller in
    let same = c.in-Ok-Some.ensures.world e in
    let found = rw c.in-Ok-Some.field-0-is at (c.in-Ok-Some.ensures.exact e es list.linked held list.begins refl) in
    let x : Entry _ = found.0 in
    let rest : List (Entry _) = found.1 in
    let linked = rw c.in-Ok-Some.field-0-is at c.in-Ok-Some.ensures.link in
    let cell_is : cell_of c.in-Ok-Some.front.link.now ≡ link_of x.value = linked ∙ ap link_of found.4 in
    let ex : IsExact (g.S.Caller.caller c.find_first.new.s) = subst (λ (s : CallerId). IsExact s) (sym at_find) e in
    let here = list-same link_of w (g.S.Caller.world c.find_first.new.s) cell no_tag es (ap (λ (y : World _). y.cells) same)
    (ap (λ (y : World _). y.values) same) list in
    let shared = subst (λ (y : World _). (n : ℕ) × IsSharedBy n (standing_at y x.slot)) (sym same) found.5 in
    let met = c.asks-holds.ensures in
    let said : LinkedEntry _ → Bool → Type 0 = λ v b. (v ≡ x.value) × (b ≡ c.asks-holds.result) in
    let popped = c.pop_asked.ensures.list ex es here x rest found.2 found.3 cell_is shared in
    let new = g.S.Caller.world c.pop_asked.new.s in
    let asked : LinkedEntry _ → Bool → Type 0 = λ v b. (shown : Bor (LinkedEntry _)) × (shown.now ≡ v) × g.F.FnMut.post c.args.condition (shown, tt) b in
    asked-so said asked (λ v b is. (met.0, met.1 ∙ found.4 ∙ sym is.0, subst (λ (y : Bool). g.F.FnMut.post c.args.condition (met.0, tt) y) (sym is.1) met.2))
    w new (g.S.Caller.caller c.args.s.now).place cell es c.pop_asked.result
    (subst (λ (s : CallerId). PopsIf said w s.place cell es c.pop_asked.result new) at_find
    (subst (λ (y : World _). PopsIf said y (g.S.Caller.caller c.find_first.new.s).place cell es c.pop_asked.result new) same popped))

pub returns-in-Ok-clause-list : goal.returns-in-Ok-clause-list
returns-in-Ok-clause-list g c = λ e es list.
    let w = g.S.Caller.world c.args.s.now in
    let cell : ℕ = cell_in c.args.self.now in
    let held : CellContents = record { held = first_slot es; tag = no_tag } in
    let at_find = c.in-Ok-None.ensures.undisturbed.caller in
    let same = c.in-Ok-None.ensures.world e in
    let none = rw c.in-Ok-None.field-0-is at (c.in-Ok-None.ensures.exact e es list.linked held list.begins refl) in
    let ex : IsExact (g.S.Caller.caller c.find_first.new.s) = subst (λ (s : CallerId). IsExact s) (sym at_find) e in
    let here = list-same link_of w (g.S.Caller.world c.find_first.new.s) cell no_tag es (ap (λ (y : World _). y.cells) same)
    (ap (λ (y : World _). y.values) same) list in
    let cut = c.in-Ok.ensures.exact ex no_tag es here in
    record {
      none = none;
      world = cut.3 ∙ ap (λ (y : World _). trimmed link_of y (g.S.Caller.caller c.find_first.new.s).place cell no_tag es) same
          ∙ ap (λ (s : CallerId). trimmed link_of w s.place cell no_tag es) at_find;
      list = subst (λ (xs : List (Entry _)). IsList link_of (g.S.Caller.world c.trim.new.s) cell no_tag xs) none cut.2;
    }

pub returns-in-Err-trim-clause-list : goal.returns-in-Err-trim-clause-list
returns-in-Err-trim-clause-list g c = λ e es list.
    let w = g.S.Caller.world c.args.s.now in
    let cell : ℕ = cell_in c.args.self.now in
    let held : CellContents = record { held = first_slot es; tag = no_tag } in
    let at_find = c.in-Ok-None.ensures.undisturbed.caller in
    let same = c.in-Ok-None.ensures.world e in
    let none = rw c.in-Ok-None.field-0-is at (c.in-Ok-None.ensures.exact e es list.linked held list.begins refl) in
    let ex : IsExact (g.S.Caller.caller c.find_first.new.s) = subst (λ (s : CallerId). IsExact s) (sym at_find) e in
    let here = list-same link_of w (g.S.Caller.world c.find_first.new.s) cell no_tag es (ap (λ (y : World _). y.cells) same)
    (ap (λ (y : World _). y.values) same) list in
    let cut = c.in-Err-trim.ensures.exact ex no_tag es here in
    let never : false ≡ true = cut.0 in
    absurd (cc)

pub returns-in-Err-clause-list : goal.returns-in-Err-clause-list
returns-in-Err-clause-list g c = λ e es list.
    let held : CellContents = record { held = first_slot es; tag = no_tag } in
    absurd (c.in-Err.ensures.exact e es list.linked held list.begins refl)
