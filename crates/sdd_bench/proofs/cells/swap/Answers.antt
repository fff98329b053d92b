use Rattle.std.proofs.Common.{ℕ, ◌∙◌, Some, ap, arith}
use Rattle.std.specs.Prelude.{is_some}
use Rattle.sdd_core.specs.declared.tag.Tag.TheVariants.{None as no_tag}
use Rattle.sdd_space.specs.Owned.{slot_of, cell_of}
use Rattle.sdd_bench.proofs.Filling.{set-there, filled-on}
use Rattle.sdd_world_model.specs.Out.{is_out}
use Rattle.sdd_space.specs.Owned.{cell_with}
use Rattle.sdd_world_model.proofs.Out.{out-laws}
use Rattle.sdd_bench.proofs.Leaving.{as-many, as-much, exact-on, nothing}
use Rattle.sdd_bench.proofs.cells.swap.Goals as goal

pub returns-in-Some-default-clause-filled : goal.returns-in-Some-default-clause-filled
returns-in-Some-default-clause-filled g c = λ exact.
    let cell : ℕ = cell_of c.args.cell.now in
    let swapped = c.swap.ensures.exact (rw c.in-Ok.ensures.undisturbed.caller exact) in
    let retired = c.retire.ensures.exact (rw (c.swap.ensures.undisturbed.caller, c.in-Ok.ensures.undisturbed.caller) exact) in
    (slot_of c.in-Ok.next, no_tag, rw (retired, swapped.1) (set-there _ cell _ _ swapped.0))

pub returns-in-Err-clause-filled : goal.returns-in-Err-clause-filled
returns-in-Err-clause-filled g c = λ exact.
    filled-on _ _ (cell_of c.args.cell.now) (c.in-Err.ensures.exact exact).2 (c.requires.filled exact)

pub returns-in-Some-default-clause-leaves : goal.returns-in-Some-default-clause-leaves
returns-in-Some-default-clause-leaves g c =
    record {
      caller = c.retire.ensures.unmoved.caller ∙ c.swap.ensures.undisturbed.caller ∙ c.in-Ok.ensures.undisturbed.caller;
      guards = as-many c.retire.ensures.own ∙ as-many (c.swap.ensures.undisturbed.own ∙ c.in-Ok.ensures.undisturbed.own);
      kept = λ exact.
          let first = exact-on _ _ c.in-Ok.ensures.undisturbed.caller exact in
          let then = exact-on _ _ c.swap.ensures.undisturbed.caller first in
          let making = c.in-Ok.ensures.exact exact in
          let swapped = c.swap.ensures.exact first in
          let world = g.S.Caller.world in
          omega (
            arith,
            as-much making.1,
            (out-laws nothing (world c.args.space.now)).making (slot_of c.in-Ok.next) c.args.value making.0,
            as-much swapped.1,
            (out-laws nothing (world c.new.new.s)).filling (cell_of c.args.cell.now) (cell_with (Some c.in-Ok.next) no_tag) (ap is_some swapped.0),
            as-much (c.retire.ensures.exact then),
            (out-laws nothing (world c.swap.new.s)).retiring (g.S.Caller.caller c.swap.new.s).place _ (ap is_out (c.retire.ensures.owned then)),
          );
    }
