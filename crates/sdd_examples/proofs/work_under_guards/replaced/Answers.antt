use Rattle.std.proofs.Common.{sym, ap, ◌∙◌, subst}
use Rattle.sdd_participants.specs.EpochState.{EpochState, IsLive}
use Rattle.sdd_space.specs.CallerId.{IsExact}
use Rattle.sdd_space.specs.Owned.{slot_of, cell_of}
use Rattle.sdd_world_model.specs.World.{IsPlaceOf}
use Rattle.sdd_world_model.specs.WorldChanges.{made}
use Rattle.sdd_world_model.specs.WorkingGuards.{Works}
use Rattle.sdd_examples.proofs.work_under_guards.replaced.Goals as goal

pub returns-in_err-next-clause-works : goal.returns-in_err-next-clause-works
returns-in_err-next-clause-works g c = rw (c.in_err-next.ensures.exact c.requires.exact).2 (c.calls_are_work.ensures.nothing _)

pub returns-in_default-clause-works : goal.returns-in_default-clause-works
returns-in_default-clause-works g c =
    let world = g.S.Caller.world in let law = c.calls_are_work.ensures in
    let start = world c.args.s.now in
    let make = c.in_ok-next.ensures.exact c.requires.exact in
    let first : IsExact (g.S.Caller.caller c.new.new.s) = rw c.in_ok-next.ensures.undisturbed.caller c.requires.exact in
    let item = made start (slot_of c.in_ok-next.next) c.args.value in
    rw ((c.swap-before.ensures.exact first).1, make.1)
    (law.following start item _ (law.making start (slot_of c.in_ok-next.next) c.args.value make.0) (law.filling item (cell_of c.args.cell.now) _))

pub returns-clause-works : goal.returns-clause-works
returns-clause-works g c =
    let caller = g.S.Caller.caller in let world = g.S.Caller.world in let law = c.calls_are_work.ensures in
    let place = (caller c.args.s.now).place in let start = world c.args.s.now in
    let make = c.in_ok-next.ensures.exact c.requires.exact in
    let first : IsExact (caller c.new.new.s) = rw c.in_ok-next.ensures.undisturbed.caller c.requires.exact in
    let swap = (c.swap-before.ensures.exact first).1 in
    let same = c.swap-before.ensures.undisturbed.caller ∙ c.in_ok-next.ensures.undisturbed.caller in
    let second : IsExact (caller c.swap-before.new.s) = rw same c.requires.exact in
    let item = made start (slot_of c.in_ok-next.next) c.args.value in
    let put : Works g.T.Item.holds start (world c.swap-before.new.s) = rw (swap, make.1)
    (law.following start item _ (law.making start (slot_of c.in_ok-next.next) c.args.value make.0) (law.filling item (cell_of c.args.cell.now) _)) in
    let live : IsPlaceOf (world c.swap-before.new.s) place =
    subst (λ (t : EpochState). IsLive t place) (sym (ap (λ w. w.time) swap ∙ ap (λ w. w.time) make.1)) c.requires.place in
    rw (c.retire.ensures.exact second, same)
    (law.following start (world c.swap-before.new.s) _ put
    (law.retiring (world c.swap-before.new.s) place (slot_of c.in-Some.before) live (c.retire.ensures.owned second)))
