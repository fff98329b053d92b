use Rattle.std.proofs.Common.{rules, ℕ, true, refl, sym, ap, ◌∙◌, arith}
use base.Fml.{Share}
use Rattle.sdd_witness.specs.Ledger.{Pledge}
use Rattle.sdd_rights.specs.declared.views.View.{View}
use Rattle.sdd_rights.specs.declared.views.Sizes.{Sizes}
use Rattle.sdd_rights.specs.contracts.views.View.{the_row}
use Rattle.sdd_rights.specs.Views.{owner_of}
use Rattle.sdd_domain_invariant.specs.Words.{slot_word}
use Rattle.sdd_domain_invariant.proofs.Slots.ClonedOwners as cloning
use Rattle.sdd_atomics.specs.DomainTable.{gamma_of, sizes_of}
use Rattle.sdd_atomics.proofs.ViewCodes.{view_is}
use Rattle.sdd_atomics.proofs.ClonedOwner.{may_add, may_undo, stays, cloned}
use Rattle.sdd_atomics.proofs.Sitting.{numbers, sits, stays as stays_at}
use Rattle.sdd_atomics.proofs.steps.slots.add_owner.Goals as goal

pub beside-requires : goal.beside-requires
beside-requires c = let k = sits _ _ _ c.seat.view_is c.seat.invariant in let n = numbers k in
    rw c.seat.view_is (let r = c.requires in let b = c.seat.inside.table.now in let o = r.owner in let slot : ℕ = c.args.slot in let me = c.args.seat.now.me in
    let value = o.1.0 in let few = b.sized.0.participants in let γ : ℕ = gamma_of b in let z : Sizes = sizes_of b in let i : ℕ = c.slot_word.result in
    let known = c.slot_word.ensures ∙ ap (λ (x : Sizes). slot_word x slot) (sym k.sizes) in
    let pledge : Share → Pledge
    = λ q. record { who = c.args.seat.now.id; seat = c.args.owner.now.id; view = the_row.coded.code (owner_of slot true value); share = q } in (
      k.home,
      b.ledgered.0,
      b.ledgered.1,
      (o.0 ∙ k.home),
      (
        owner_of slot true value,
        o.1.1,
        record {
          goes_in = λ q. cloning.enters γ z _ _ slot value (pledge q) refl;
          acts = λ q. (
            (omega arith),
            may_add γ z _ _ _ k.sizes k.gamma r.ready.place r.ready.rests few slot (rw (← k.sizes) r.inside) i c.slot_word.ensures value (
              pledge q,
              refl,
              refl,
            ) r.free.0,
            λ n u adds many. may_undo γ z _ _ me k.sizes k.gamma r.ready.place r.ready.rests few slot (rw (← k.sizes) r.inside) i c.slot_word.ensures value
                (pledge q) refl r.none.0
                r.none.1 n u adds many,
          );
          comes_out = λ q n u done. cloning.leaves γ z _ _ (pledge q) (stays me (pledge q) slot value refl i known n u done);
        },
      ),
    ))

pub returns : goal.returns
returns c =
    rw (← c.seat.view_is) (λ value views. let r = c.requires in let e = c.beside.ensures in let slot : ℕ = c.args.slot in
    let known = c.slot_word.ensures ∙ ap (λ (x : Sizes). slot_word x slot) (sym c.seat.invariant.sizes) in
    let is = view_is e.2.0 (owner_of slot true value) (sym e.2.1 ∙ views) in let s = e.2.2 in (
      e.0,
      e.1,
      cloned c.seat.inside.seat.me _ slot value (ap (λ (w : View). the_row.coded.code w) is) (rw c.seat.view_is r.free.1) (rw c.seat.view_is r.free.0) (rw
          c.seat.view_is r.none.2) c.slot_word.result known c.beside.result
          s.1 _ s.2 s.3,
    ))

pub invariant_of-seat : goal.invariant_of-seat
invariant_of-seat c = let value = c.requires.owner.1.0 in let views = c.requires.owner.1.1 in let r = c.requires in let e = c.beside.ensures in
    let slot : ℕ = c.args.slot in
    let known = c.slot_word.ensures ∙ ap (λ (x : Sizes). slot_word x slot) (sym c.seat.invariant.sizes) in
    let is = view_is e.2.0 (owner_of slot true value) (sym e.2.1 ∙ views) in let s = e.2.2 in
    stays_at _ _ _ c.seat.invariant e.0 (let h = cloned c.seat.inside.seat.me _ slot value (ap (λ (w : View). the_row.coded.code w) is) (rw c.seat.view_is
    r.free.1) (rw c.seat.view_is r.free.0) (rw c.seat.view_is r.none.2) c.slot_word.result known c.beside.result
    s.1 _ s.2 s.3 in search rules)
