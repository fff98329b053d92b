use Rattle.std.proofs.Common.{rules, ℕ, [], ◌∙◌, ap, refl, sym, Option, Some, None, subst}
use Rattle.std.proofs.lemmas.List.{get_or-set_same}
use Rattle.sdd_world_model.specs.World.{World}
use Rattle.sdd_space.specs.CallerId.{CallerId, IsExact}
use Rattle.sdd_space.specs.Shared.{cell_of}
use Rattle.sdd_world_model.specs.WorldChanges.{cell_closed, held_in, nulled, spilled, without_cell}
use Rattle.sdd_core.specs.declared.tag.Tag.TheVariants.{None as no_tag}
use Rattle.sdd_participants.specs.Slab.{IsFull}
use Rattle.sdd_participants.specs.declared.standing.CellContents.{CellContents}
use Rattle.sdd_lists.proofs.FreshLinks.{freed-again, only-one}
use Rattle.sdd_lists.proofs.MoreWaiting.{grows-not, grows-spilled}
use Rattle.sdd_lists.proofs.queue.Queue.new.Goals as goal

pub returns-in-Err-null-clause-own : goal.returns-in-Err-null-clause-own
returns-in-Err-null-clause-own g c = λ start grown.
    grows-spilled _ _ c.close.ensures.own start
    (grows-not (g.S.Caller.own c.args.s.now) _ (c.in-Err-null.ensures.undisturbed.own ∙ c.in-Ok.ensures.undisturbed.own) start grown)

-- the first cell is freed again
pub returns-in-Err-null-clause-world : goal.returns-in-Err-null-clause-world
returns-in-Err-null-clause-world g c = λ e.
    let w = g.S.Caller.world c.args.s.now in
    let o : ℕ = cell_of c.in-Ok.oldest in
    let at1 = c.in-Ok.ensures.undisturbed.caller in
    let at2 = c.in-Err-null.ensures.undisturbed.caller ∙ at1 in
    let made = c.in-Ok.ensures.exact e in
    let full = c.in-Err-null.ensures.exact (subst (λ (s : CallerId). IsExact s) (sym at1) e) in
    let closed = c.close.ensures.exact (subst (λ (s : CallerId). IsExact s) (sym at2) e) in
    let place = (g.S.Caller.caller c.null-2.new.s).place in
    let nothing : CellContents = record { held = None; tag = no_tag } in
    let filled : IsFull (nulled w o).cells = subst (λ (y : World _). IsFull y.cells) made.1 full.0 in (
      (λ c d free other. only-one w.cells o nothing filled c free ∙ sym (only-one w.cells o nothing filled d other)),
      full.1,
      closed ∙ ap (λ (y : World _). cell_closed y place o) (full.2 ∙ made.1)
          ∙ ap (λ (x : Option CellContents). spilled (without_cell (nulled w o) o) place (held_in x)) (get_or-set_same w.cells o (Some nothing) None made.0.0)
          ∙ freed-again w o made.0,
    )

pub returns-in-Ok-null-clause-list : goal.returns-in-Ok-null-clause-list
returns-in-Ok-null-clause-list g c = search rules

pub returns-in-Ok-null-clause-values : goal.returns-in-Ok-null-clause-values
returns-in-Ok-null-clause-values g c = λ e. ([], None, returns-in-Ok-null-clause-list g c e, refl)
