use Rattle.std.proofs.Common.{ℕ, arith, subst, ◌∙◌, sym, ap}
use Rattle.sdd_domain_invariant.specs.Words.{state_word}
use Rattle.sdd_rights.specs.declared.views.FractionsView.{FractionsView}
use Rattle.sdd_domain_invariant.specs.Epoch.EpochSteps.{Registers}
use Rattle.sdd_rights.specs.declared.views.Sizes.{Sizes}
use Rattle.sdd_atomics.specs.DomainSeat.{Stepped}
use Rattle.sdd_atomics.proofs.Allowed.{told, may_register}
use Rattle.sdd_atomics.proofs.Sitting.{numbers, sits, stays}
use Rattle.sdd_atomics.proofs.steps.epoch.register.Goals as goal

pub compare_exchange-requires : goal.compare_exchange-requires
compare_exchange-requires c = let k = sits _ _ _ c.seat.view_is c.seat.invariant in let n = numbers k in
    rw c.seat.view_is (let sized = c.seat.inside.table.now.sized in let r = c.requires in
    (k.home, omega arith, may_register _ _ _ _ _ _ _ c.state_word.ensures (omega arith) k.sizes (rw (← n.1) r.idle.0) (rw (← k.sizes) r.idle.1)))

pub returns : goal.returns
returns c =
    rw (← c.seat.view_is) (let e = c.compare_exchange.ensures in
    subst (λ (i : ℕ). Stepped (Registers c.seat.inside.seat.me.0.sizes i) c.seat.inside.seat c.compare_exchange.result c.compare_exchange.new.seat)
    (c.state_word.ensures ∙ ap (λ (z : Sizes). state_word z c.args.place) (sym c.seat.invariant.sizes))
    (told c.seat.inside.seat _ c.compare_exchange.result e.0 e.1 (Registers c.seat.inside.seat.me.0.sizes c.state_word.result) e.2))

pub invariant_of-seat : goal.invariant_of-seat
invariant_of-seat c = let m = (let e = c.compare_exchange.ensures in
    subst (λ (i : ℕ). Stepped (Registers c.seat.inside.seat.me.0.sizes i) c.seat.inside.seat c.compare_exchange.result c.compare_exchange.new.seat)
    (c.state_word.ensures ∙ ap (λ (z : Sizes). state_word z c.args.place) (sym c.seat.invariant.sizes))
    (told c.seat.inside.seat _ c.compare_exchange.result e.0 e.1 (Registers c.seat.inside.seat.me.0.sizes c.state_word.result) e.2)) in
    stays _ _ _ c.seat.invariant m.0.0.0 (m.0.0.3, ap (λ (f : FractionsView). f.gamma) m.0.0.4)
