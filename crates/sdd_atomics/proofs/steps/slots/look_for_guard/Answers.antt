use Rattle.std.proofs.Common.{rules, ℕ, ◌∙◌, sym, ap, arith, subst, refl}
use Rattle.sdd_rights.specs.declared.views.Sizes.{Sizes}
use Rattle.sdd_domain_invariant.specs.Words.{state_word}
use Rattle.sdd_domain_invariant.specs.Slots.SlotSteps.{LooksForGuard}
use Rattle.sdd_atomics.specs.DomainSeat.{Taught}
use Rattle.sdd_atomics.proofs.Allowed.{taught, may_look_for_guard}
use Rattle.sdd_atomics.proofs.Sitting.{numbers, sits, stays}
use Rattle.sdd_atomics.proofs.steps.slots.look_for_guard.Goals as goal

pub load-requires : goal.load-requires
load-requires c = let k = sits _ _ _ c.seat.view_is c.seat.invariant in let n = numbers k in
    rw c.seat.view_is (let sized = c.seat.inside.table.now.sized in let r = c.requires in
    (k.home, omega arith, may_look_for_guard _ _ _ _ _ k.sizes k.gamma r.place _ c.args.place c.state_from.ensures (omega arith) r.next))

pub returns : goal.returns
returns c =
    rw (← c.seat.view_is) (let e = c.load.ensures in
    subst (λ (i : ℕ). Taught (LooksForGuard i) c.seat.inside.seat c.load.result c.load.new.seat) (c.state_from.ensures
    ∙ ap (λ (z : Sizes). state_word z c.args.place) (sym c.seat.invariant.sizes))
    (taught c.seat.inside.seat _ c.load.result e.0 e.1 (LooksForGuard c.state_from.result) e.2))

pub invariant_of-seat : goal.invariant_of-seat
invariant_of-seat c = let m = (let e = c.load.ensures in
    subst (λ (i : ℕ). Taught (LooksForGuard i) c.seat.inside.seat c.load.result c.load.new.seat) (c.state_from.ensures
    ∙ ap (λ (z : Sizes). state_word z c.args.place) (sym c.seat.invariant.sizes))
    (taught c.seat.inside.seat _ c.load.result e.0 e.1 (LooksForGuard c.state_from.result) e.2)) in
    stays _ _ _ c.seat.invariant m.0 (let h = m.3 c.args.place refl in search rules)
