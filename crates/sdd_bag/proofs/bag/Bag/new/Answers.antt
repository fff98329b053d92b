use Rattle.std.proofs.Common.{◌≡◌, ℕ, List, [], ◌∙◌, ap, refl, sym, Option, Some, None, subst, arith}
use Rattle.std.proofs.lemmas.List.{get_or-set_same}
use Rattle.sdd_bag.specs.Storage.{AreFullBehind, names_of}
use Rattle.sdd_core.specs.declared.refused.Refused.TheVariants.{NoCell}
use Rattle.sdd_rights.specs.Right.{number_of}
use Rattle.sdd_rights.specs.declared.right.Right.{Right}
use Rattle.sdd_world_model.specs.World.{World}
use Rattle.sdd_space.specs.CallerId.{CallerId, IsExact}
use Rattle.sdd_space.specs.Refusals.{IsRefusedBy}
use Rattle.sdd_space.specs.Shared.{cell_of}
use Rattle.sdd_world_model.specs.WorldChanges.{cell_closed, held_in, nulled, spilled, without_cell}
use Rattle.sdd_participants.specs.Slab.{IsEmptyAt, IsFull}
use Rattle.sdd_participants.specs.declared.standing.CellContents.{CellContents}
use Rattle.sdd_core.specs.declared.tag.Tag.TheVariants.{None as no_tag}
use Rattle.sdd_lists.specs.Stack.{cell_in}
use Rattle.sdd_lists.proofs.FreshLinks.{freed-again, only-one}
use Rattle.sdd_lists.proofs.MoreWaiting.{grows-not, grows-spilled}
use Rattle.sdd_bag.proofs.Unmoved.{apart, free-before, full-one, moves-on, still}
use Rattle.sdd_bag.proofs.bag.Bag.new.Goals as goal

pub returns-in-Err-clause-world : goal.returns-in-Err-clause-world
returns-in-Err-clause-world g c = λ e.
    let not = c.in-Err.ensures.exact e in (full-one (g.S.Caller.world c.args.s.now).cells not.0, not.1, not.2)

pub returns-in-Ok-new-clause-unmoved : goal.returns-in-Ok-new-clause-unmoved
returns-in-Ok-new-clause-unmoved g c =
    let caller = g.S.Caller.caller in let known = g.S.Caller.known in let shows = g.S.Shows.shows in let own = g.S.Caller.own in
    moves-on caller known shows c.args.s.now c.null.new.s c.new.new.s (still caller known shows own c.args.s.now c.null.new.s c.in-Ok.ensures.undisturbed)
    (still caller known shows own c.null.new.s c.new.new.s c.in-Ok-new.ensures.undisturbed)

pub returns-in-Ok-new-clause-world : goal.returns-in-Ok-new-clause-world
returns-in-Ok-new-clause-world g c = λ e.
    let w = g.S.Caller.world c.args.s.now in
    let a : ℕ = cell_of c.in-Ok.cell in
    let b : ℕ = cell_in c.in-Ok-new.stack in
    let ex1 = subst (λ (s : CallerId). IsExact s) (sym c.in-Ok.ensures.undisturbed.caller) e in
    let made = c.in-Ok.ensures.exact e in
    let more = c.in-Ok-new.ensures.world ex1 in
    let free : IsEmptyAt (nulled w a).cells b = subst (λ (x : World _). IsEmptyAt x.cells b) made.1 more.0 in
    let is : c.new-in-Ok-new.result.storage.cell ≡ a = c.new-in-Ok-new.ensures.cell ∙ ap (λ (r : Right). number_of r) c.right_of_cell.ensures.right in (
      subst (λ (k : ℕ). IsEmptyAt w.cells k) (sym is) made.0,
      free-before w a b made.0 free,
      (λ same. apart w a b made.0 free (sym is ∙ same)),
      more.1 ∙ ap (λ (x : World _). nulled x b) made.1 ∙ ap (λ (k : ℕ). nulled (nulled w k) b) (sym is),
    )

pub returns-in-Ok-new-clause-bag : goal.returns-in-Ok-new-clause-bag
returns-in-Ok-new-clause-bag g c = λ e.
    let ex1 = subst (λ (s : CallerId). IsExact s) (sym c.in-Ok.ensures.undisturbed.caller) e in
    record {
      entries = [];
      lies = record {
        stack = c.in-Ok-new.ensures.list ex1;
        shelves = tt;
        keys = ap (λ (ps : List _). names_of ps) c.new-in-Ok-new-2.ensures;
        full = subst (λ (ps : List _). AreFullBehind g.row.ARRAY_LEN ps) (sym c.new-in-Ok-new-2.ensures) (λ k far near. absurd (omega (arith, near)));
      };
      used = λ none. refl;
    }

pub returns-in-Err-new-clause-unmoved : goal.returns-in-Err-new-clause-unmoved
returns-in-Err-new-clause-unmoved g c =
    let caller = g.S.Caller.caller in let known = g.S.Caller.known in let shows = g.S.Shows.shows in let own = g.S.Caller.own in
    moves-on caller known shows c.args.s.now c.new.new.s c.close.new.s
    (moves-on caller known shows c.args.s.now c.null.new.s c.new.new.s (still caller known shows own c.args.s.now c.null.new.s c.in-Ok.ensures.undisturbed)
    (still caller known shows own c.null.new.s c.new.new.s c.in-Err-new.ensures.undisturbed)) c.close.ensures.unmoved

pub returns-in-Err-new-clause-own : goal.returns-in-Err-new-clause-own
returns-in-Err-new-clause-own g c = λ start grown.
    grows-spilled _ _ c.close.ensures.own start
    (grows-not (g.S.Caller.own c.args.s.now) _ (c.in-Err-new.ensures.undisturbed.own ∙ c.in-Ok.ensures.undisturbed.own) start grown)

pub returns-in-Err-new-clause-back : goal.returns-in-Err-new-clause-back
returns-in-Err-new-clause-back g c =
    subst (λ (s : CallerId). IsRefusedBy s NoCell c.in-Err-new.refused) c.in-Ok.ensures.undisturbed.caller c.in-Err-new.ensures.back

-- the first cell is freed again
pub returns-in-Err-new-clause-world : goal.returns-in-Err-new-clause-world
returns-in-Err-new-clause-world g c = λ e.
    let w = g.S.Caller.world c.args.s.now in
    let o : ℕ = cell_of c.in-Ok.cell in
    let at1 = c.in-Ok.ensures.undisturbed.caller in
    let at2 = c.in-Err-new.ensures.undisturbed.caller ∙ at1 in
    let made = c.in-Ok.ensures.exact e in
    let full = c.in-Err-new.ensures.world (subst (λ (s : CallerId). IsExact s) (sym at1) e) in
    let closed = c.close.ensures.exact (subst (λ (s : CallerId). IsExact s) (sym at2) e) in
    let place = (g.S.Caller.caller c.new.new.s).place in
    let nothing : CellContents = record { held = None; tag = no_tag } in
    let filled : IsFull (nulled w o).cells = subst (λ (y : World _). IsFull y.cells) made.1 full.0 in (
      (λ a b free other. only-one w.cells o nothing filled a free ∙ sym (only-one w.cells o nothing filled b other)),
      full.1,
      closed ∙ ap (λ (y : World _). cell_closed y place o) (full.2 ∙ made.1)
          ∙ ap (λ (x : Option CellContents). spilled (without_cell (nulled w o) o) place (held_in x)) (get_or-set_same w.cells o (Some nothing) None made.0.0)
          ∙ freed-again w o made.0,
    )
