use Rattle.std.proofs.Common.{rules, ℕ, refl, sym, ap, ◌∙◌, arith}
use base.Fml.{Share}
use Rattle.sdd_witness.specs.Ledger.{Pledge}
use Rattle.sdd_rights.specs.declared.views.CellKind.TheVariants.{Raw}
use Rattle.sdd_rights.specs.declared.views.Sizes.{Sizes}
use Rattle.sdd_rights.specs.contracts.views.View.{the_row}
use Rattle.sdd_rights.specs.Views.{right_to}
use Rattle.sdd_domain_invariant.specs.Words.{slot_word}
use Rattle.sdd_domain_invariant.proofs.Slots.ClonedOwners as cloning
use Rattle.sdd_atomics.specs.DomainTable.{gamma_of, sizes_of}
use Rattle.sdd_atomics.proofs.CollectorsAllowed.{may_collect, collect_stays, collected_then}
use Rattle.sdd_atomics.proofs.Sitting.{numbers, sits, stays}
use Rattle.sdd_atomics.proofs.steps.collectors.collect.Goals as goal

pub beside-requires : goal.beside-requires
beside-requires c = let k = sits _ _ _ c.seat.view_is c.seat.invariant in let n = numbers k in
    rw c.seat.view_is (let r = c.requires in let b = c.seat.inside.table.now in let collector : ℕ = c.args.collector in let me = c.args.seat.now.me in
    let γ : ℕ = gamma_of b in let z : Sizes = sizes_of b in let i : ℕ = c.slot_word.result in let slot : ℕ = c.args.slot in
    let known = c.slot_word.ensures ∙ ap (λ (x : Sizes). slot_word x slot) (sym k.sizes) in let word : ℕ = c.private_word.result in
    let pledge : Share → Pledge
    = λ q. record { who = c.args.seat.now.id; seat = c.args.right.now.id; view = the_row.coded.code (right_to collector Raw); share = q } in (
      k.home,
      b.ledgered.0,
      b.ledgered.1,
      (r.right.0 ∙ k.home),
      (
        right_to collector Raw,
        r.right.1,
        record {
          goes_in = λ q. cloning.enters_right γ z _ _ collector Raw (pledge q) refl;
          acts = λ q. (
            (omega arith),
            may_collect γ z _ _ _ k.sizes k.gamma r.ready.place i slot c.slot_word.ensures (omega arith) r.ready.rests collector (omega arith) (pledge q)
                refl refl
                r.waits.0 r.waits.1 word c.private_word.ensures,
          );
          comes_out = λ q n u done. cloning.leaves γ z _ _ (pledge q)
              (collect_stays me (pledge q) word collector slot i c.private_word.ensures known n u done);
        },
      ),
    ))

pub returns : goal.returns
returns c =
    rw (← c.seat.view_is) (let r = c.requires in let e = c.beside.ensures in let slot : ℕ = c.args.slot in
    let known = c.slot_word.ensures ∙ ap (λ (x : Sizes). slot_word x slot) (sym c.seat.invariant.sizes) in let s = e.2.2 in (
      e.0,
      e.1,
      collected_then c.seat.inside.seat.me _ c.private_word.result c.args.collector slot c.slot_word.result c.private_word.ensures known (rw c.seat.view_is
          r.free)
          c.beside.result s.1 _ s.2 s.3,
    ))

pub invariant_of-seat : goal.invariant_of-seat
invariant_of-seat c = let r = c.requires in let e = c.beside.ensures in let slot : ℕ = c.args.slot in
    let known = c.slot_word.ensures ∙ ap (λ (x : Sizes). slot_word x slot) (sym c.seat.invariant.sizes) in let s = e.2.2 in
    stays _ _ _ c.seat.invariant e.0 (let h = collected_then c.seat.inside.seat.me _ c.private_word.result c.args.collector slot c.slot_word.result
    c.private_word.ensures known (rw c.seat.view_is r.free)
    c.beside.result s.1 _ s.2 s.3 in search rules)
