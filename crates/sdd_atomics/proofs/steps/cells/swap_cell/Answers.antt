use Rattle.std.proofs.Common.{ℕ, refl, sym, ap, ◌∙◌, arith}
use base.Fml.{Share}
use Rattle.sdd_witness.specs.Ledger.{Pledge}
use Rattle.sdd_rights.specs.Owner.{cell_kind}
use Rattle.sdd_rights.specs.declared.views.View.{View}
use Rattle.sdd_rights.specs.declared.views.Sizes.{Sizes}
use Rattle.sdd_rights.specs.contracts.views.View.{the_row}
use Rattle.sdd_rights.specs.Views.{right_to}
use Rattle.sdd_domain_invariant.proofs.Slots.ClonedOwners as cloning
use Rattle.sdd_atomics.specs.DomainTable.{gamma_of, sizes_of}
use Rattle.sdd_atomics.proofs.ViewCodes.{view_is}
use Rattle.sdd_atomics.proofs.Cells.{may_swap, swap_stays, swapped}
use Rattle.sdd_atomics.proofs.Sitting.{brings_keep, numbers, sits, stays}
use Rattle.sdd_atomics.proofs.steps.cells.swap_cell.Goals as goal

pub beside-requires : goal.beside-requires
beside-requires c = let k = sits _ _ _ c.seat.view_is c.seat.invariant in let n = numbers k in
    rw c.seat.view_is (let r = c.requires in let b = c.seat.inside.table.now in let cell : ℕ = c.args.cell in let me = c.args.seat.now.me in
    let shared = r.right.1.0 in let γ : ℕ = gamma_of b in let z : Sizes = sizes_of b in let i : ℕ = c.cell_word.result in
    let known = c.cell_word.ensures in
    let pledge : Share → Pledge
    = λ q. record { who = c.args.seat.now.id; seat = c.args.right.now.id; view = the_row.coded.code (right_to cell (cell_kind shared)); share = q } in (
      k.home,
      b.ledgered.0,
      b.ledgered.1,
      (r.right.0 ∙ k.home),
      (
        right_to cell (cell_kind shared),
        r.right.1.1,
        record {
          goes_in = λ q. cloning.enters_right γ z _ _ cell (cell_kind shared) (pledge q) refl;
          acts = λ q. (
            (omega arith),
            may_swap γ z _ _ _ k.sizes k.gamma r.ready.place r.ready.rests cell (omega arith) i c.cell_word.ensures c.args.word r.own.0 r.own.1 r.own.2
                shared r.right.1.2
                r.word (pledge q) refl refl,
          );
          comes_out = λ q n u done. cloning.leaves γ z _ _ (pledge q) (swap_stays me (pledge q) c.args.word shared cell refl i known n u done);
        },
      ),
    ))

pub returns : goal.returns
returns c =
    rw (← c.seat.view_is) (λ shared views. let r = c.requires in let e = c.beside.ensures in let cell : ℕ = c.args.cell in
    let known = c.cell_word.ensures in
    let is = view_is e.2.0 (right_to cell (cell_kind shared)) (sym e.2.1 ∙ views) in let s = e.2.2 in (
      e.0,
      e.1,
      swapped c.seat.inside.seat.me _ c.args.word shared cell (ap (λ
          (w : View). the_row.coded.code w) is) c.cell_word.result known (rw c.seat.view_is r.free) c.beside.result s.1 _ s.2
          s.3,
    ))

pub invariant_of-seat : goal.invariant_of-seat
invariant_of-seat c = let shared = c.requires.right.1.0 in let views = c.requires.right.1.1 in let r = c.requires in let e = c.beside.ensures in
    let cell : ℕ = c.args.cell in
    let known = c.cell_word.ensures in
    let is = view_is e.2.0 (right_to cell (cell_kind shared)) (sym e.2.1 ∙ views) in let s = e.2.2 in
    stays _ _ _ c.seat.invariant e.0 (let h = swapped c.seat.inside.seat.me _ c.args.word shared cell (ap (λ
    (w : View). the_row.coded.code w) is) c.cell_word.result known (rw c.seat.view_is r.free) c.beside.result s.1 _ s.2
    s.3 in brings_keep _ _ _ _ _ _ h.0)
