-- What the close of a guard is for the world of a lone participant
use Rattle.std.proofs.Common.{◌≡◌, ℕ, ◌+◌, ◌∷◌, [], Some, false, rules, ap, ◌∙◌}
use mathlib.Core.Logic.{dite}
use native.Mathlib.Decide.{ℕ_discrete}
use Rattle.sdd_participants.specs.EpochState.{EpochState}
use Rattle.sdd_participants.specs.EpochState as time
use Rattle.sdd_participants.specs.declared.participant.Participant.{Participant}
use Rattle.sdd_participants.specs.declared.place_states.PlaceState.TheVariants.{Live}
use Rattle.sdd_core.specs.declared.limits.Limits.{Limits}
use Rattle.sdd_rights.specs.declared.views.SlotsView.{SlotsView}
use Rattle.sdd_world_model.specs.ParticipantChanges.{closed_with}
use Rattle.sdd_world_model.specs.WorldChanges.{closed}
use Rattle.sdd_domain_steps.specs.LocalState.{LocalState, IsLone, GuardCloses}
use Rattle.sdd_domain_steps.specs.WordsAndValues.{AreTied}
use Rattle.sdd_domain_steps.specs.Local.{LocalModel, world_of}
use Rattle.sdd_domain_core.proofs.LoneCalls.{alone, steps_alone}

-- time of one participant at this count
abbrev time_with : Limits → ℕ → Participant → EpochState
time_with l count own = record {
  count = count;
  marked = false;
  places = own ∷ [];
  phases = Some Live ∷ [];
  participants = l.participants;
  nesting = l.nesting;
  room = l.slots + l.jobs;
}

-- it closes no collector that it didn't close before
pub closes_on : {J : Type 0} (old new : LocalState J) → GuardCloses old new → new.slots.closes ≡ old.slots.closes
closes_on old new is = dite (ℕ_discrete old.own.guards 1) (λ last. ap (λ (s : SlotsView). s.closes) (is.unseen last).0)
    (λ others. ap (λ (s : SlotsView). s.closes) (is.seen others).0)

module _ {T J : Type 0} (v : LocalModel T J) (m : LocalState J) (t : AreTied v.member v.entries) (one : IsLone v.member) (is : GuardCloses v.member m) where
  abbrev later : LocalModel T J
  later = record { member = record v.member { own = closed_with false v.member.own; known = m.known; slots = m.slots; shown = m.shown }; entries = v.entries }

  closes_time : time_with v.member.limits m.known (closed_with false v.member.own) ≡ time.closed (time_with v.member.limits v.member.known v.member.own) 0
  closes_time = search rules

  -- its world is that after the close
  pub world_closed : world_of (record { member = m; entries = v.entries }) ≡ closed (world_of v) v.member.place
  world_closed = ap (λ (y : LocalState J). world_of {T = T} (record { member = y; entries = v.entries })) is.member
      ∙ steps_alone closed v later t.place t.place (ap (λ (y : EpochState). record (alone v) { time = y }) closes_time)
