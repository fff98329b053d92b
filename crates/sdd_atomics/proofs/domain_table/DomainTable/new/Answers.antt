use Rattle.std.proofs.Common.{◌≡◌, ℕ, List, ◌∙◌, sym, ap, get_or, length, replicate, arith}
use Rattle.std.proofs.lemmas.List.{length-replicate}
use Rattle.std.proofs.lemmas.Grind.{common_steps}
use Rattle.sdd_domain_invariant.specs.Words.{all_words}
use Rattle.sdd_domain_invariant.proofs.Seats.{begins, founds_bank}
use Rattle.sdd_domain_invariant.proofs.Slots.ClonedOwners.{founds_ledger}
use Rattle.sdd_domain_invariant.specs.Fractions.BankInvariant.{founded}
use Rattle.sdd_domain_invariant.specs.Fractions.FractionSteps.{SeatState}
use Rattle.sdd_atomics.specs.declared.domain_table.TableLayout.{TableLayout}
use Rattle.sdd_atomics.proofs.Zeros.{zeros}
use Rattle.sdd_atomics.proofs.domain_table.DomainTable.new.Goals as goal

pub new-requires : goal.new-requires
new-requires c = let layout = c.args.layout.now in let n : ℕ = all_words layout.sizes in let few = c.requires.small.participants in
    let blank : c.as_slice.result.now ≡ replicate n 0 = grind (arith, common_steps, c.in-Ok.ensures.items_if_clones_equal) in
    begins layout.values_name.gamma layout.sizes c.as_slice.result.now c.args.laid.items (ap length blank ∙ length-replicate {A = ℕ} n 0)
    (λ i. ap (λ (l : List ℕ). get_or l i 0) blank ∙ zeros n i) (omega arith) c.requires.laid

pub found-bank-requires-clause-cut : goal.found-bank-requires-clause-cut
found-bank-requires-clause-cut c = let e = c.in-Ok-new.ensures.ok in founds_bank _ _ _ _ (ap (λ (m : SeatState). m.0.fractions.founds) e.4)
    (ap (λ (m : SeatState). m.0.fractions.gamma) e.4 ∙ sym (ap (λ (p : TableLayout). p.values_name.gamma) e.5))

pub found-ledger-requires-clause-cut : goal.found-ledger-requires-clause-cut
found-ledger-requires-clause-cut c = let e = c.in-Ok-new.ensures.ok in let f = c.found-bank.ensures in
    founds_ledger _ _ _ _ (ap (λ (m : SeatState). m.0.pledges.founds) f.seat.2 ∙ ap (λ (m : SeatState). (founded m.0).pledges.founds) e.4)
