use Rattle.std.proofs.Common.{◌≡◌, ℕ, ◌<◌, List, [], length, sym, ap, ◌∙◌}
use Rattle.std.proofs.lemmas.List.{get_or-set_same, set-set}
use Rattle.sdd_participants.specs.declared.waiting.LimboEntry.{LimboEntry}
use Rattle.sdd_participants.specs.Waiting.{Waiting, aged, left, due}
use Rattle.sdd_participants.specs.EpochState.{EpochState, with_place, nobody, due_next}
use Rattle.sdd_participants.specs.EpochState as time
use Rattle.sdd_participants.specs.Jobs.{jobs_without_all}
use Rattle.sdd_participants.specs.declared.participant.Participant.{Participant}
use Rattle.sdd_participants.specs.declared.participant.CountdownState.{CountdownState}
use Rattle.sdd_world_model.specs.OwnerOrCell.{OwnerOrCell}
use Rattle.sdd_world_model.specs.World.{World, place_at}
use Rattle.sdd_world_model.specs.WorldChanges.{all_reclaimed, changed}
use Rattle.sdd_world_model.specs.WorldChanges as steps
use Rattle.sdd_world_core.specs.Closing.{paced}
use Rattle.sdd_world_core.specs.WorldCore.{WorldCore}
use Rattle.sdd_world_core.proofs.world_core.WorldCore.catch_up.Goals as goal

-- the pace of a participant that has found a count, and with which nothing waits
abbrev idle : ℕ → CountdownState
idle count = record { found = count; countdown = 128 }

-- a rotation of a participant with which nothing waits
turned : (count : ℕ) (x : Participant) → x.bags.waiting ≡ [] → time.settled (time.rotated count x) ≡ time.paced (idle count) x
turned count x e =
    let settled = λ (ws : List Waiting). time.settled (record x { found = count; bags = record x.bags { waiting = left (aged ws) } }) in
    let with_waiting = λ (ws : List Waiting). record x { found = count; countdown = 128; bags = record x.bags { waiting = ws } } in
    ap settled e ∙ ap with_waiting (sym e)

turned_at : (t : EpochState) (p : ℕ) → p < length t.places → (time.place_at t p).bags.waiting ≡ [] →
    time.settled_at (time.rotated_at t p) p ≡ time.paced_at t p (idle t.count)
turned_at t p l e =
    let x = time.place_at t p in
    let here = get_or-set_same t.places p (time.rotated t.count x) nobody l in
    let there = λ (y : Participant). with_place (time.rotated_at t p) p (time.settled y) in
    ap there here
    ∙ ap (λ (ps : List Participant). record t { places = ps }) (set-set t.places p _ _)
    ∙ ap (λ (y : Participant). with_place t p y) (turned t.count x e)

caught : {T : Type 0} (holds : T → List OwnerOrCell) (w : World T) (p : ℕ) → p < length w.time.places → (place_at w p).bags.waiting ≡ [] →
    paced w p (idle w.time.count) ≡ changed holds w p
caught {T} holds w p l e =
    let none : due_next (place_at w p) ≡ [] = ap (λ (ws : List Waiting). due (aged ws)) e in
    let nothing = ap (λ (xs : List LimboEntry). steps.settled (all_reclaimed holds (steps.rotated w p) p xs) p) none in
    sym (nothing ∙ ap (λ (t : EpochState). record w { time = t }) (turned_at w.time p l e))

caught_as : {T J : Type 0} {v w : WorldCore T J} → v ≡ w → (holds : T → List OwnerOrCell) (p : ℕ) → p < length w.world.time.places →
    (place_at w.world p).bags.waiting ≡ [] → record v { world = paced v.world p (idle v.world.time.count) }
    ≡ record w { world = changed holds w.world p; deferred = jobs_without_all w.deferred (due_next (place_at w.world p)) }
caught_as {T} {J} {v} {w} same holds p l e =
    let none : due_next (place_at w.world p) ≡ [] = ap (λ (ws : List Waiting). due (aged ws)) e in
    let after = λ (xs : List LimboEntry). record w { world = changed holds w.world p; deferred = jobs_without_all w.deferred xs } in
    rw same (ap (λ (u : World T). record w { world = u }) (caught holds w.world p l e) ∙ ap after (sym none))

pub returns-clause-changed : goal.returns-clause-changed
returns-clause-changed g c =
    rw (c.set_pace.ensures, c.count-found.ensures) (caught_as c.self.view_is g.T.Item.holds c.args.place c.requires.place c.requires.clear)
