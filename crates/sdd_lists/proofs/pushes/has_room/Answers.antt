use Rattle.std.proofs.Common.{◌≡◌, ℕ, inl, inr, ◌∙◌, ap, Option, Some, None, true, false, refl, sym, subst}
use Rattle.std.specs.Prelude.{IsSome}
use Rattle.std.proofs.lemmas.List.{get_or-set_same}
use Rattle.sdd_world_model.specs.World.{World}
use Rattle.sdd_space.specs.CallerId.{CallerId, IsExact}
use Rattle.sdd_space.specs.Shared.{cell_of}
use Rattle.sdd_world_model.specs.WorldChanges.{cell_closed, held_in, nulled, spilled, without_cell}
use Rattle.sdd_core.specs.declared.tag.Tag.TheVariants.{None as no_tag}
use Rattle.sdd_participants.specs.Slab.{IsEmptyAt, IsFull}
use Rattle.sdd_participants.specs.declared.standing.CellContents.{CellContents}
use Rattle.sdd_lists.proofs.FreshLinks.{freed-again}
use Rattle.sdd_lists.proofs.MoreWaiting.{grows-not, grows-spilled}
use Rattle.sdd_lists.proofs.Refusals.{full-of}
use Rattle.sdd_lists.proofs.pushes.has_room.Goals as goal

pub returns-in-Ok-clause-own : goal.returns-in-Ok-clause-own
returns-in-Ok-clause-own g c = λ start grown.
    grows-spilled _ _ c.close.ensures.own start
    (grows-not (g.S.Caller.own c.args.s.now) _ (c.in-Ok.ensures.undisturbed.own ∙ c.has_slot-free.ensures.undisturbed.own) start grown)

pub returns-then-not-free-clause-exact : goal.returns-then-not-free-clause-exact
returns-then-not-free-clause-exact g c = λ e.
    let seen = c.has_slot-free.ensures.exact e in
    let no : c.has_slot-free.result ≡ false = c.if-not-free.true in
    let full : IsFull (g.S.Caller.world c.args.s.now).standings =
    full-of _ (λ not. let yes : c.has_slot-free.result ≡ true = seen.0.1 not in let never : false ≡ true = sym no ∙ yes in absurd (cc)) in
    (seen.1, inl (full, refl))

-- the cell is freed again
pub returns-in-Ok-clause-exact : goal.returns-in-Ok-clause-exact
returns-in-Ok-clause-exact g c = λ e.
    let w = g.S.Caller.world c.args.s.now in
    let o : ℕ = cell_of c.in-Ok.cell in
    let seen = c.has_slot-free.ensures.exact e in
    let at0 = c.has_slot-free.ensures.undisturbed.caller in
    let at1 = c.in-Ok.ensures.undisturbed.caller ∙ at0 in
    let made = c.in-Ok.ensures.exact (subst (λ (s : CallerId). IsExact s) (sym at0) e) in
    let closed = c.close.ensures.exact (subst (λ (s : CallerId). IsExact s) (sym at1) e) in
    let place = (g.S.Caller.caller c.null.new.s).place in
    let yes : c.has_slot-free.result ≡ true = c.if-not-free.false in
    let free : IsEmptyAt w.cells o = subst (λ (x : World _). IsEmptyAt x.cells o) seen.1 made.0 in
    let world_u : g.S.Caller.world c.null.new.s ≡ nulled w o = made.1 ∙ ap (λ (x : World _). nulled x o) seen.1 in
    let nothing : CellContents = record { held = None; tag = no_tag } in
    let not_full : ¬ (IsFull w.cells) = λ full.
    let never : false ≡ true = subst (λ (x : Option CellContents). IsSome x) free.1 (full o None free.0) in absurd (cc) in (
      closed ∙ ap (λ (y : World _). cell_closed y place o) world_u
          ∙ ap (λ (x : Option CellContents). spilled (without_cell (nulled w o) o) place (held_in x)) (get_or-set_same w.cells o (Some nothing) None free.0)
          ∙ freed-again w o free,
      (seen.0.0 yes, not_full),
    )

pub returns-in-Err-clause-exact : goal.returns-in-Err-clause-exact
returns-in-Err-clause-exact g c = λ e.
    let seen = c.has_slot-free.ensures.exact e in
    let ex0 : IsExact (g.S.Caller.caller c.has_slot-free.new.self) = subst (λ (s : CallerId). IsExact s) (sym c.has_slot-free.ensures.undisturbed.caller) e in
    let yes : c.has_slot-free.result ≡ true = c.if-not-free.false in
    let not = c.in-Err.ensures.exact ex0 in
    (not.2 ∙ seen.1, inr (seen.0.0 yes, subst (λ (x : World _). IsFull x.cells) seen.1 not.0, not.1))
