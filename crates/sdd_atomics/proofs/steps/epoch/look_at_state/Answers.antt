use Rattle.std.proofs.Common.{ℕ, arith, subst, ◌∙◌, sym, ap}
use Rattle.sdd_domain_invariant.specs.Words.{state_word}
use Rattle.sdd_rights.specs.declared.views.FractionsView.{FractionsView}
use Rattle.sdd_domain_invariant.specs.Epoch.EpochSteps.{LooksAtState}
use Rattle.sdd_rights.specs.declared.views.Sizes.{Sizes}
use Rattle.sdd_atomics.specs.DomainSeat.{Stepped}
use Rattle.sdd_atomics.proofs.Allowed.{told, may_look_at_state}
use Rattle.sdd_atomics.proofs.Sitting.{numbers, sits, stays}
use Rattle.sdd_atomics.proofs.steps.epoch.look_at_state.Goals as goal

pub load-requires : goal.load-requires
load-requires c = let k = sits _ _ _ c.seat.view_is c.seat.invariant in let n = numbers k in
    rw c.seat.view_is (let sized = c.seat.inside.table.now.sized in let r = c.requires in
    (k.home, omega arith, may_look_at_state _ _ _ _ _ _ _ c.state_from.ensures (omega arith) k.sizes r.next.1))

pub returns : goal.returns
returns c =
    rw (← c.seat.view_is) (let e = c.load.ensures in
    subst (λ (i : ℕ). Stepped (LooksAtState c.seat.inside.seat.me.0.sizes i) c.seat.inside.seat c.load.result c.load.new.seat) (c.state_from.ensures
    ∙ ap (λ (z : Sizes). state_word z c.args.place) (sym c.seat.invariant.sizes))
    (told c.seat.inside.seat _ c.load.result e.0 e.1 (LooksAtState c.seat.inside.seat.me.0.sizes c.state_from.result) e.2))

pub invariant_of-seat : goal.invariant_of-seat
invariant_of-seat c = let m = (let e = c.load.ensures in
    subst (λ (i : ℕ). Stepped (LooksAtState c.seat.inside.seat.me.0.sizes i) c.seat.inside.seat c.load.result c.load.new.seat) (c.state_from.ensures
    ∙ ap (λ (z : Sizes). state_word z c.args.place) (sym c.seat.invariant.sizes))
    (told c.seat.inside.seat _ c.load.result e.0 e.1 (LooksAtState c.seat.inside.seat.me.0.sizes c.state_from.result) e.2)) in
    stays _ _ _ c.seat.invariant m.0.0.0 (m.0.0.3, ap (λ (f : FractionsView). f.gamma) m.0.0.4)
