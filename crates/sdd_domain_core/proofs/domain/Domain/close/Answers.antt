use Rattle.atomic_table.specs.Seated.{TableId}
use Rattle.std.proofs.Common.{rules, ◌≡◌, ℕ, ◌+◌, ◌-◌, ◌≤◌, List, length, sym, ap, ◌∙◌, subst, arith, [], ◌∷◌}
use Rattle.core.specs.Mem.Slots.{slots_items}
use Rattle.sdd_rights.specs.Units as units
use Rattle.sdd_rights.specs.declared.views.EndedView.{EndedView}
use Rattle.sdd_rights.specs.declared.views.Sizes.{Sizes}
use Rattle.sdd_domain_invariant.specs.Counts.{full_slots}
use Rattle.sdd_atomics.specs.DomainTable.{sizes_of}
use Rattle.sdd_domain_core.specs.Domain.{slots_in}
use Rattle.sdd_domain_steps.specs.Receipt.{Receipt, AddsUp}
use Rattle.sdd_domain_core.proofs.HomeCounts.{none_full}
use Rattle.sdd_domain_core.proofs.SettledReceipts.{as_many, home_again, settled_sum}
use Rattle.sdd_domain_core.proofs.Tallies.{adds_up}
use Rattle.sdd_domain_core.proofs.domain.Domain.close.Goals as goal

pub returns-then-not-are_over-clause-again : goal.returns-then-not-are_over-clause-again
returns-then-not-are_over-clause-again g c = home_again (λ (h : units.GhostName). h ≡ slots_in c.args.self) _ c.args.receipts.items
    c.settle_all.new.receipts.items
    c.settle_all.ensures.settled c.requires.homes

pub returns-in_default-clause-again : goal.returns-in_default-clause-again
returns-in_default-clause-again g c = home_again (λ (h : units.GhostName). h ≡ slots_in c.args.self) _ c.args.receipts.items c.settle_all.new.receipts.items
    c.settle_all.ensures.settled c.requires.homes

pub take_all_counts-requires-clause-homes : goal.take_all_counts-requires-clause-homes
take_all_counts-requires-clause-homes g c k d low = ap (λ (h : units.GhostName). h.tables)
    (home_again (λ (h : units.GhostName). h ≡ slots_in c.args.self) _ c.args.receipts.items c.settle_all.new.receipts.items c.settle_all.ensures.settled
    c.requires.homes k d low) ∙ ap (λ (t : TableId). t ∷ []) (sym c.in-Ok.ensures.home)

pub returns-clause-settled : goal.returns-clause-settled
returns-clause-settled g c = let ended : List Receipt = c.settle_all.new.receipts.items in (
  c.args.self.limits.slots - c.settle_all.new.left,
  (omega arith),
  ended,
  c.settle_all.ensures.settled,
  (
    c.tally_of-tally.ensures,
    c.tally_of-tally.ensures ∙ settled_sum _ c.args.receipts.items ended c.settle_all.ensures.settled,
    c.are_over.ensures.0 (search (rules, c.if-not-are_over.false)),
  ),
)

pub returns-clause-whole : goal.returns-clause-whole
returns-clause-whole g c = let z = sizes_of c.args.self.table in let ended : List Receipt = c.settle_all.new.receipts.items in
    let many = as_many _ c.args.receipts.items ended c.settle_all.ensures.settled in let taken = c.take_all_counts.ensures.counts in
    let closed = rw c.into_seat-seat.ensures at c.close-closed.ensures in
    let places : z.participants ≡ c.args.self.limits.participants = ap (λ (z : Sizes). z.participants) c.args.self.limited.1 in
    let slots : z.slots ≡ c.args.self.limits.slots = ap (λ (z : Sizes). z.slots) c.args.self.limited.1 in
    let few : length ended ≤ z.participants = subst (λ (n : ℕ). n ≤ z.participants) taken.over closed.places in
    let quiet : c.args.self.limits.slots ≤ c.take_all_counts.new.seat.me.0.places.quiet =
    (let found = c.in-Ok.ensures.quiet in let same = ap (λ (v : EndedView). v.quiet) c.take_all_counts.ensures.places in omega arith) in
    let ws : List ℕ = slots_items c.close-closed.result.words in
    let free : full_slots z ws ≡ 0 = none_full z ws (λ i low. closed.quiet i (omega arith)) in (
      (omega arith),
      λ all. subst AddsUp (sym c.tally_of-tally.ensures) (adds_up ended c.take_all_counts.new.seat.me.0.fractions.counts taken
          (closed.counted (taken.over ∙ (let e : length ended ≡ z.participants = omega arith in e))
          ∙ (let gone : ℕ = c.take_all_counts.new.seat.me.0.fractions.counts.gone in let e : gone + full_slots z ws ≡ gone = omega arith in e))),
    )
