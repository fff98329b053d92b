use Rattle.std.proofs.Common.{sym, ◌∙◌, arith}
use Rattle.sdd_rights.specs.Views.{owner_of}
use Rattle.sdd_atomics.proofs.Allowed.{may_watch}
use Rattle.sdd_atomics.proofs.ViewCodes.{view_is}
use Rattle.sdd_atomics.proofs.Sitting.{numbers, sees_keep, sits, stays}
use Rattle.sdd_atomics.proofs.steps.slots.watch.Goals as goal

pub step_beside-requires : goal.step_beside-requires
step_beside-requires c = let k = sits _ _ _ c.seat.view_is c.seat.invariant in let n = numbers k in
    rw c.seat.view_is (let r = c.requires in let o = r.owner in (
      k.home,
      (o.0 ∙ k.home),
      (
        owner_of o.1.0 o.1.1 o.1.2,
        o.1.4,
        may_watch _ _ _ _ _ k.sizes k.gamma (omega (arith, r.open)) o.1.0 (rw (← k.sizes) o.1.3) r.open (omega arith) r.rests c.args.owner.now.id o.1.1 o.1.2,
      ),
    ))

pub returns : goal.returns
returns c =
    rw (← c.seat.view_is) (λ slot shared value views. let e = c.step_beside.ensures in
    (e.0, e.1, e.2.2 slot shared value (view_is e.2.0 (owner_of slot shared value) (sym e.2.1 ∙ views))))

pub invariant_of-seat : goal.invariant_of-seat
invariant_of-seat c = let o = c.requires.owner.1 in let slot = o.0 in let shared = o.1 in let value = o.2 in let views = o.4 in let e = c.step_beside.ensures in
    stays _ _ _ c.seat.invariant e.0 (sees_keep _ _ _ _ _ (e.2.2 slot shared value (view_is e.2.0 (owner_of slot shared value) (sym e.2.1 ∙ views))))
