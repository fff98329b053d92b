use Rattle.std.proofs.Common.{ℕ, arith, subst, ◌∙◌, sym, ap, refl}
use Rattle.sdd_domain_invariant.specs.Words.{state_word}
use Rattle.sdd_domain_invariant.specs.Epoch.Barred.{Bars}
use Rattle.sdd_rights.specs.declared.views.Sizes.{Sizes}
use Rattle.sdd_atomics.specs.DomainSeat.{Taught}
use Rattle.sdd_atomics.proofs.Allowed.{taught, may_bar}
use Rattle.sdd_atomics.proofs.Sitting.{bars_keep, numbers, sits, stays}
use Rattle.sdd_atomics.proofs.steps.epoch.bar.Goals as goal

pub compare_exchange-requires : goal.compare_exchange-requires
compare_exchange-requires c = let k = sits _ _ _ c.seat.view_is c.seat.invariant in let n = numbers k in
    rw c.seat.view_is (let sized = c.seat.inside.table.now.sized in let r = c.requires in
    (k.home, omega arith, may_bar _ _ _ _ _ _ _ _ c.state_word.ensures (omega arith) k.sizes r.next.1 r.nobodys))

pub returns : goal.returns
returns c =
    rw (← c.seat.view_is) (let e = c.compare_exchange.ensures in let state : ℕ = c.args.state in
    subst (λ (i : ℕ). Taught (Bars c.seat.inside.seat.me.0.sizes state i) c.seat.inside.seat c.compare_exchange.result c.compare_exchange.new.seat)
    (c.state_word.ensures ∙ ap (λ (z : Sizes). state_word z c.args.place) (sym c.seat.invariant.sizes))
    (taught c.seat.inside.seat _ c.compare_exchange.result e.0 e.1 (Bars c.seat.inside.seat.me.0.sizes state c.state_word.result) e.2))

pub invariant_of-seat : goal.invariant_of-seat
invariant_of-seat c = let m = (let e = c.compare_exchange.ensures in let state : ℕ = c.args.state in
    subst (λ (i : ℕ). Taught (Bars c.seat.inside.seat.me.0.sizes state i) c.seat.inside.seat c.compare_exchange.result c.compare_exchange.new.seat)
    (c.state_word.ensures ∙ ap (λ (z : Sizes). state_word z c.args.place) (sym c.seat.invariant.sizes))
    (taught c.seat.inside.seat _ c.compare_exchange.result e.0 e.1 (Bars c.seat.inside.seat.me.0.sizes state c.state_word.result) e.2)) in
    stays _ _ _ c.seat.invariant m.0 (bars_keep _ _ _ _ _ (m.3 c.args.place refl))
