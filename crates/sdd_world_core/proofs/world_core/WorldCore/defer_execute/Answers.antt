use Rattle.std.proofs.Common.{ℕ, List, refl, sym, subst}
use Rattle.sdd_participants.specs.Slab.{IsEmptyAt}
use Rattle.sdd_participants.specs.EpochState as time
use Rattle.sdd_participants.specs.declared.participant.Participant.{Participant}
use Rattle.sdd_participants.specs.declared.waiting.LimboEntry.TheVariants.{Job}
use Rattle.sdd_world_model.specs.OwnerOrCell.{OwnerOrCell}
use Rattle.sdd_world_model.specs.Loans.{Loans}
use Rattle.sdd_world_model.specs.World.{World, IsPlaceOf, place_at}
use Rattle.sdd_world_model.specs.WorldInvariant.{IsWhole}
use Rattle.sdd_world_model.specs.WorldChanges.{deferred}
use Rattle.sdd_world_model.specs.WorldStep.WorldStep.{defers}
use Rattle.std.proofs.lemmas.Result.{err_from_is_err_and}
use Rattle.sdd_participants.proofs.Places.{empty-places, places-full, places-put}
use Rattle.sdd_world_model.proofs.PlacesMatchStates.{Whole-deferred, live-taken}
use Rattle.sdd_world_core.specs.WorldCore.{WorldCore}
use Rattle.sdd_world_core.proofs.DeferredJobs.{put-as}
use Rattle.sdd_world_core.specs.Lending.{AreLent, AreLentOf}
use Rattle.sdd_world_core.proofs.Lending.{lent-call, guards-placed, readers-placed}
use Rattle.sdd_world_core.proofs.Sound.{job-room, sound-job}
use Rattle.sdd_participants.specs.Jobs.{places_of}
use Rattle.sdd_world_core.proofs.world_core.WorldCore.defer_execute.Goals as goal

lent-after : {T : Type 0} (holds : T → List OwnerOrCell) (w : World T) (l : Loans) (p j : ℕ) → IsPlaceOf w p → IsEmptyAt w.jobs j → IsWhole w →
    AreLentOf w l → AreLentOf (deferred w p j) l
lent-after holds w l p j live free i k =
    let x : Participant = time.awaiting (Job j) (place_at w p) in
    lent-call holds w (deferred w p j) l (defers w p j live free) i
    (λ h. let r = readers-placed w p x h in record { places = r.places; nesting = r.nesting }) (guards-placed w p x live.0 refl) k

pub returns-clause-deferred : goal.returns-clause-deferred
returns-clause-deferred g c =
    let put = c.in_ok-number.ensures.put in
    let w = c.self.view_is 0 in
    rw (← c.self.view_is, put.1, c.wait.ensures) (
      empty-places c.self.inside.jobs c.in_ok-number.number put.0,
      put.0,
      put-as w.world w.lending c.self.inside.jobs c.args.place c.in_ok-number.number c.args.job,
    )

pub returns-in_err-number-clause-deferred : goal.returns-in_err-number-clause-deferred
returns-in_err-number-clause-deferred g c =
    let full = c.in_err-number.ensures.put in
    let p = err_from_is_err_and c.from_residual.result c.from_residual.ensures.1 in
    rw (p.1, p.2, ← c.self.view_is) (places-full c.self.inside.jobs full.0, full.1, rw full.2 refl)

pub returns-clause-whole : goal.returns-clause-whole
returns-clause-whole g c =
    let put = c.in_ok-number.ensures.put in
    let w = c.self.view_is 0 in
    let there = rw (← c.self.view_is) at c.requires.place in
    rw (← c.self.view_is, put.1, c.wait.ensures)
    (λ whole. subst (λ (x : WorldCore g.row.T.Denot g.row.J.Denot). IsWhole x.world)
    (sym (put-as w.world w.lending c.self.inside.jobs c.args.place c.in_ok-number.number c.args.job))
    (Whole-deferred w.world c.args.place c.in_ok-number.number (live-taken w.world.time c.args.place there)
    (empty-places c.self.inside.jobs c.in_ok-number.number put.0) whole))

pub returns-clause-lent : goal.returns-clause-lent
returns-clause-lent g c =
    let put = c.in_ok-number.ensures.put in
    let w = c.self.view_is 0 in
    rw (← c.self.view_is, put.1, c.wait.ensures)
    (λ whole lent. subst (λ (x : WorldCore g.row.T.Denot g.row.J.Denot). AreLent x)
    (sym (put-as w.world w.lending c.self.inside.jobs c.args.place c.in_ok-number.number c.args.job))
    (lent-after g.T.Item.holds _ _ c.args.place c.in_ok-number.number (rw (← c.self.view_is) at c.requires.place)
    (empty-places c.self.inside.jobs c.in_ok-number.number put.0) whole lent))

pub wait-requires-clause-room : goal.wait-requires-clause-room
wait-requires-clause-room g c =
    let there = rw (← c.self.view_is) at c.requires.place in
    let i = c.self.inside in
    job-room g.T.Item.holds i.time i.slots i.cells (places_of i.jobs) i.sections c.args.place there.0 c.self.invariant c.in_ok-number.number
    (empty-places i.jobs c.in_ok-number.number c.in_ok-number.ensures.put.0)

pub invariant_of-self-2 : goal.invariant_of-self-2
invariant_of-self-2 g c =
    let there = rw (← c.self.view_is) at c.requires.place in
    let i = c.self.inside in
    let put = c.in_ok-number.ensures.put in
    rw (put.1, c.wait.ensures, places-put i.jobs c.in_ok-number.number c.args.job)
    (sound-job g.T.Item.holds i.time i.slots i.cells (places_of i.jobs) i.sections c.args.place there.0 c.self.invariant c.in_ok-number.number
    (empty-places i.jobs c.in_ok-number.number put.0))
