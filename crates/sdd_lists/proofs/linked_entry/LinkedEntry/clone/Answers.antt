use Rattle.std.proofs.Common.{◌≡◌, ℕ, inr, ◌∙◌, ap, Option, Some, None, true, false, refl, sym, subst}
use Rattle.std.specs.Prelude.{IsSome}
use Rattle.std.proofs.lemmas.List.{get_or-set_same}
use Rattle.sdd_world_model.specs.World.{World}
use Rattle.sdd_space.specs.CallerId.{CallerId, IsExact}
use Rattle.sdd_space.specs.Shared.{cell_of}
use Rattle.sdd_world_model.specs.WorldChanges.{cell_closed, held_in, nulled, spilled, without_cell}
use Rattle.sdd_core.specs.declared.tag.Tag.TheVariants.{None as no_tag}
use Rattle.sdd_participants.specs.Slab.{IsFull}
use Rattle.sdd_participants.specs.declared.standing.CellContents.{CellContents}
use Rattle.sdd_lists.proofs.FreshLinks.{freed-again}
use Rattle.sdd_lists.proofs.MoreWaiting.{grows-not, grows-spilled}
use Rattle.sdd_lists.proofs.linked_entry.LinkedEntry.clone.Goals as goal

pub returns-in-Err-clone_value-clause-own : goal.returns-in-Err-clone_value-clause-own
returns-in-Err-clone_value-clause-own g c = λ start grown.
    grows-spilled _ _ c.close.ensures.own start (grows-not (g.S.Caller.own c.args.s.now) _ c.in-Ok.ensures.undisturbed.own start grown)

-- the cell is freed again
pub returns-in-Err-clone_value-clause-exact : goal.returns-in-Err-clone_value-clause-exact
returns-in-Err-clone_value-clause-exact g c = λ e.
    let w = g.S.Caller.world c.args.s.now in
    let o : ℕ = cell_of c.in-Ok.next in
    let at1 = c.in-Ok.ensures.undisturbed.caller in
    let made = c.in-Ok.ensures.exact e in
    let closed = c.close.ensures.exact (subst (λ (s : CallerId). IsExact s) (sym at1) e) in
    let place = (g.S.Caller.caller c.null.new.s).place in
    let nothing : CellContents = record { held = None; tag = no_tag } in
    let not_full : ¬ (IsFull w.cells) = λ full.
    let never : false ≡ true = subst (λ (x : Option CellContents). IsSome x) made.0.1 (full o None made.0.0) in absurd (cc) in (
      inr (not_full, refl),
      closed ∙ ap (λ (y : World _). cell_closed y place o) made.1
          ∙ ap (λ (x : Option CellContents). spilled (without_cell (nulled w o) o) place (held_in x)) (get_or-set_same w.cells o (Some nothing) None made.0.0)
          ∙ freed-again w o made.0,
    )
