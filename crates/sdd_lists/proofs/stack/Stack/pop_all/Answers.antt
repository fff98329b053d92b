use Rattle.std.proofs.Common.{◌≡◌, ◌≢◌, ℕ, [], ◌∙◌, ap, sym, Some, None, Option, subst}
use Rattle.std.specs.Prelude.{option_map}
use Rattle.std.proofs.lemmas.List.{get_or-set_other}
use Rattle.sdd_world_model.specs.World.{World}
use Rattle.sdd_space.specs.CallerId.{CallerId, IsExact}
use Rattle.sdd_space.specs.Shared.{cell_of, slot_of}
use Rattle.sdd_world_model.specs.WorldChanges.{held_in, nulled, with_cell}
use Rattle.sdd_core.specs.declared.tag.Tag.TheVariants.{None as no_tag}
use Rattle.sdd_participants.specs.Slab.{entry_at}
use Rattle.sdd_participants.specs.declared.standing.CellContents.{CellContents}
use Rattle.sdd_lists.specs.Entries.{link_of}
use Rattle.sdd_lists.specs.Lists.{IsList, first_slot}
use Rattle.sdd_lists.specs.Stack.{cell_in, poured}
use Rattle.sdd_lists.proofs.FreshLinks.{fresh-clear, fresh-far, fresh-list}
use Rattle.sdd_lists.proofs.MoreWaiting.{grows-not}
use Rattle.sdd_lists.proofs.MovedOwners.{given-none}
use Rattle.sdd_lists.proofs.MovedLists.{drained, filled, poured-is}
use Rattle.sdd_lists.proofs.stack.Stack.pop_all.Goals as goal

pub returns-clause-own : goal.returns-clause-own
returns-clause-own g c = λ start grown.
    let same = c.swap-nothing.ensures.undisturbed.own ∙ c.swap-first.ensures.undisturbed.own ∙ c.in-Ok.ensures.undisturbed.own in
    c.give_up.ensures.own start (grows-not (g.S.Caller.own c.args.s.now) _ same start grown)

pub returns-clause-list : goal.returns-clause-list
returns-clause-list g c = λ e es list.
    let w = g.S.Caller.world c.args.s.now in
    let cell : ℕ = cell_in c.args.self.now in
    let l : ℕ = cell_of c.in-Ok.newest in
    let at1 = c.in-Ok.ensures.undisturbed.caller in
    let at2 = c.swap-first.ensures.undisturbed.caller ∙ at1 in
    let at3 = c.swap-nothing.ensures.undisturbed.caller ∙ at2 in
    let made = c.in-Ok.ensures.exact e in
    let one = c.swap-first.ensures.exact (subst (λ (s : CallerId). IsExact s) (sym at1) e) in
    let two = c.swap-nothing.ensures.exact (subst (λ (s : CallerId). IsExact s) (sym at2) e) in
    let spare = c.give_up.ensures.exact (subst (λ (s : CallerId). IsExact s) (sym at3) e) in
    let far : cell ≢ l = fresh-far link_of w l made.0 cell no_tag es list in
    let none : CellContents = record { held = None; tag = no_tag } in
    let in_u = fresh-list link_of w l made.0 cell no_tag es list in
    let firsts : option_map slot_of c.swap-first.result.0 ≡ first_slot es =
    ap held_in (sym one.0 ∙ ap (λ (x : World _). entry_at x.cells cell) made.1 ∙ in_u.begins) in
    let nothing : option_map slot_of c.swap-nothing.result.0 ≡ None =
    ap held_in (sym two.0 ∙ ap (λ (x : World _). entry_at x.cells l) one.1
    ∙ get_or-set_other (g.S.Caller.world c.null.new.s).cells cell l (Some none) None (λ meet. far (sym meet))
    ∙ ap (λ (x : World _). entry_at x.cells l) made.1 ∙ fresh-clear link_of w l made.0) in
    let same = given-none (g.S.Caller.world c.swap-nothing.new.s) (g.S.Caller.world c.give_up.new.s) (g.S.Caller.caller c.swap-nothing.new.s).place
    c.swap-nothing.result.0 nothing spare in
    let world_z : g.S.Caller.world c.give_up.new.s ≡ poured w cell l es =
    same ∙ two.1 ∙ ap (λ (x : World _). with_cell x l (record { held = option_map slot_of c.swap-first.result.0; tag = no_tag })) one.1
    ∙ ap (λ (x : World _). with_cell (with_cell x cell none) l (record { held = option_map slot_of c.swap-first.result.0; tag = no_tag })) made.1
    ∙ ap (λ (h : Option ℕ). with_cell (with_cell (nulled w l) cell none) l (record { held = h; tag = no_tag })) firsts
    ∙ poured-is link_of w cell l es list made.0 in (
      made.0,
      subst (λ (x : World _). IsList link_of x cell no_tag []) (sym world_z) (drained link_of w cell l es list made.0),
      subst (λ (x : World _). IsList link_of x l no_tag es) (sym world_z) (filled link_of w cell l es list made.0),
      world_z,
    )
