use Rattle.std.proofs.Common.{rules, true, false, ap, ◌∙◌, arith, ℕ, subst, ◌≡◌, ◌-◌}
use Rattle.sdd_domain_invariant.specs.Fractions.BankInvariant.{one_where}
use Rattle.sdd_shared_values.specs.Bank.{Comes}
use Rattle.sdd_rights.specs.declared.views.Sizes.{Sizes}
use Rattle.sdd_shared_values.specs.SharedValues.{content}
use Rattle.sdd_domain_invariant.specs.Fractions.FractionsAtHome.{spare}
use Rattle.sdd_domain_invariant.specs.Fractions.FractionSteps.{CarriesAll, IsValue}
use Rattle.sdd_atomics.specs.DomainTable.{gamma_of, sizes_of}
use Rattle.sdd_atomics.proofs.Allowed.{as_banked, may_house, as_housed}
use Rattle.sdd_atomics.proofs.Sitting.{facts_same, numbers, sits, stays}
use Rattle.sdd_atomics.proofs.steps.slots.house.Goals as goal

pub enter-requires-clause-allowed : goal.enter-requires-clause-allowed
enter-requires-clause-allowed c = let k = sits _ _ _ c.seat.view_is c.seat.invariant in let n = numbers k in
    let same = facts_same k in
    rw c.seat.view_is (let r = c.requires in let row = r.row in let b = c.seat.inside.table.now in as_banked b Comes _ _ _ _ _ _
    (may_house (gamma_of b) (sizes_of b) _ _ _ k.sizes k.gamma r.place _ row.0 (omega (arith, row.2)) row.3 row.4 true
    (λ free. row.5 free ∙ ap one_where c.if-shared.true) row.1 row.6.0
    (subst (λ (t : ℕ × Sizes). CarriesAll t.0 row.0 t.1.participants (spare t.1.participants) (IsValue row.1) row.6.0 c.args.seat.now.me.1) same row.6.1)
    c.args.rest.content (subst (λ (t : ℕ × Sizes). c.args.rest.content ≡ content t.0 row.0 c.args.rest.content.lifetime row.1 (spare t.1.participants - 1))
    same row.7)))

pub enter-requires-else-shared-clause-allowed : goal.enter-requires-else-shared-clause-allowed
enter-requires-else-shared-clause-allowed c = let k = sits _ _ _ c.seat.view_is c.seat.invariant in let n = numbers k in
    let same = facts_same k in
    rw c.seat.view_is (let r = c.requires in let row = r.row in let b = c.seat.inside.table.now in as_banked b Comes _ _ _ _ _ _
    (may_house (gamma_of b) (sizes_of b) _ _ _ k.sizes k.gamma r.place _ row.0 (omega (arith, row.2)) row.3 row.4 false
    (λ free. row.5 free ∙ ap one_where c.if-shared.false) row.1 row.6.0
    (subst (λ (t : ℕ × Sizes). CarriesAll t.0 row.0 t.1.participants (spare t.1.participants) (IsValue row.1) row.6.0 c.args.seat.now.me.1) same row.6.1)
    c.args.rest.content (subst (λ (t : ℕ × Sizes). c.args.rest.content ≡ content t.0 row.0 c.args.rest.content.lifetime row.1 (spare t.1.participants - 1))
    same row.7)))

pub returns-then-shared : goal.returns-then-shared
returns-then-shared c =
    rw (← c.seat.view_is) (λ slot value rest moves row. let e = c.enter.ensures in
    (e.seat.0, e.seat.1, as_housed _ slot _ _ true c.args.shared value rest c.seat.inside.seat.me c.enter.new.seat.me c.if-shared.true moves row e.then))

pub invariant_of-seat : goal.invariant_of-seat
invariant_of-seat c = let row = c.requires.row in let e = c.enter.ensures in
    stays _ _ _ c.seat.invariant e.seat.0 (let h = e.then row.0 (rw c.seat.view_is row.3) in search rules)

pub returns-else-shared : goal.returns-else-shared
returns-else-shared c =
    rw (← c.seat.view_is) (λ slot value rest moves row. let e = c.enter-else-shared.ensures in (
      e.seat.0,
      e.seat.1,
      as_housed _ slot _ _ false c.args.shared value rest c.seat.inside.seat.me c.enter-else-shared.new.seat.me c.if-shared.false moves row e.then,
    ))

pub invariant_of-seat-else-shared : goal.invariant_of-seat-else-shared
invariant_of-seat-else-shared c = let row = c.requires.row in let e = c.enter-else-shared.ensures in
    stays _ _ _ c.seat.invariant e.seat.0 (let h = e.then row.0 (rw c.seat.view_is row.3) in search rules)
