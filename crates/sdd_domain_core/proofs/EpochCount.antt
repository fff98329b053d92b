-- What a lone participant knows of the count of epochs after it reclaimed what is due
use Rattle.std.proofs.Common.{◌≡◌, ◌≢◌, ℕ, ◌∙◌, refl, sym, ap}
use Rattle.std.specs.Prelude.{Bool, true, false, List, [], ◌∷◌, if◌then◌else◌, nat_lt}
use Rattle.std.proofs.lemmas.Bool.{true≢false}
use Rattle.sdd_participants.specs.EpochState.{EpochState, is_open}
use Rattle.sdd_participants.specs.declared.participant.Participant.{Participant}
use Rattle.sdd_participants.specs.Waiting.{Waiting}
use Rattle.sdd_participants.specs.declared.waiting.LimboEntry.{LimboEntry}
use Rattle.sdd_world_model.specs.OwnerOrCell.{OwnerOrCell}
use Rattle.sdd_world_model.specs.ParticipantChanges.{closed_with}
use Rattle.sdd_world_model.specs.World.{World}
use Rattle.sdd_world_model.specs.WorldChanges as steps
use Rattle.sdd_world_model.specs.WorldChanges.{all_reclaimed}
use Rattle.sdd_world_model.proofs.ParticipantChanges.{Gives-all_reclaimed}
use Rattle.sdd_domain_steps.specs.Local.{LocalModel, world_of}
use Rattle.sdd_domain_steps.specs.LocalState.{LocalState, GoesOn, waits}
use Rattle.sdd_domain_core.proofs.Sound.{lives}

-- the count is as before
pub settled_count : {T J : Type 0} (holds : T → List OwnerOrCell) (p q : LocalModel T J) (due : List LimboEntry)
    → world_of q ≡ steps.settled (all_reclaimed holds (world_of p) p.member.place due) p.member.place → q.member.known ≡ p.member.known
settled_count holds p q due same = ap (λ (w : World _). w.time.count) same
    ∙ ap (λ (t : EpochState). t.count) (Gives-all_reclaimed holds (world_of p) p.member.place due (lives p).0).time

idle_waits : {J : Type 0} (m : LocalState J) → m.own.bags.waiting ≡ [] → waits m ≡ false
idle_waits m none = ap (λ (xs : List Waiting). elim xs [ [] ↦ false | x ∷ ys ↦ true ]) none

-- an opening that finds another count while something waits goes on
pub goes_where_waits : {J : Type 0} (count : ℕ) (b : Bool) (old m new : LocalState J) → GoesOn count b old m new → waits old ≡ true
    → old.own.found ≢ count → b ≡ true
goes_where_waits count true old m new goes more other = refl
goes_where_waits count false old m new goes more other =
    absurd (true≢false (sym more ∙ idle_waits old (goes.idle refl other)))

if_found : (b : Bool) (n : ℕ) (x y : Participant) → x.found ≡ n → y.found ≡ n → (if b then x else y).found ≡ n
if_found true n x y one other = one
if_found false n x y one other = other

-- a close leaves the count as it was found last
pub closed_found : (marked : Bool) (p : Participant) → (closed_with marked p).found ≡ p.found
closed_found marked p = if_found (nat_lt 1 p.guards) p.found _ _ refl (if_found (is_open p) p.found _ _ refl refl)
