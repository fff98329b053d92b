-- A participant of a domain as the generic calls see it
use Rattle.std.specs.Prelude.{ℕ, ◌≡◌, ◌==◌, Bool, List, [], Some, true, false}
use base.Stored.{Gv}
use Rattle.sdd_rights.specs.Units as units
use Rattle.sdd_world_model.specs.OwnerOrCell.{OwnerOrCell, AreOf}
use Rattle.sdd_world_model.specs.KnownEpochs.{KnownEpochs}
use Rattle.sdd_space.specs.CallerId.{CallerId}
use Rattle.sdd_world_model.specs.World.{value_at}
use Rattle.sdd_rights.specs.declared.views.ShownValue.{ShownValue}
use Rattle.sdd_domain_invariant.specs.Slots.Records.{IsIn}
use Rattle.sdd_domain_steps.specs.LocalState.{LocalState}
use Rattle.sdd_domain_steps.specs.SpaceIds.{SpaceId, home_in}
use Rattle.sdd_domain_steps.specs.Items as items
use Rattle.sdd_domain_steps.specs.Local.{LocalModel, world_of}

-- by these records the slot shows this value and no other; and what the value holds is of this home
pub record RecordsShow {T : Type 0} (shown : T → Gv) (holds : T → List OwnerOrCell) (at : SpaceId) (records : List ShownValue) (slot : ℕ) (value : T)
    : Type 0 where
  pub known : IsIn records slot (shown value)
  pub only : (g : Gv) → IsIn records slot g → g ≡ shown value
  pub home : AreOf at (holds value)

-- one of its guards sees the slot, which shows this value
abbrev pub SeesValue : {T J : Type 0} → (T → Gv) → (T → List OwnerOrCell) → LocalState J → ℕ → T → Type 0
SeesValue shown holds m = RecordsShow shown holds (home_in m) m.shown

-- no other participant may be
abbrev pub is_lone : {J : Type 0} → LocalState J → Bool
is_lone m = m.limits.participants == 1

-- where it sits
abbrev pub caller_in : {J : Type 0} → LocalState J → CallerId
caller_in m = record {
  place = m.place;
  places = m.limits.participants;
  lives = [];
  live = true;
  loan = 0;
  home = home_in m;
  reader = m.reader;
  nesting = m.limits.nesting;
  exact = is_lone m;
  lone = is_lone m;
}

module _ {T : Type 0} where
  -- what a slot shows: to a lone participant the value that is in it, and else what one of its guards sees there
  abbrev pub ShowsBy : {J : Type 0} → Bool → (T → Gv) → (T → List OwnerOrCell) → LocalModel T J → ℕ → T → Type 0
  ShowsBy true shown holds p slot value = value_at (world_of p) slot ≡ Some value
  ShowsBy false shown holds p slot value = SeesValue shown holds p.member slot value

  abbrev pub Shows : {J : Type 0} → (T → Gv) → (T → List OwnerOrCell) → LocalModel T J → ℕ → T → Type 0
  Shows shown holds p = ShowsBy (is_lone p.member) shown holds p

  abbrev pub caller_of : {J : Type 0} → LocalModel T J → CallerId
  caller_of p = caller_in p.member

  abbrev pub known_of : {J : Type 0} → LocalModel T J → KnownEpochs
  known_of p = record { told = p.member.known; since = p.member.since }

  -- where the slots of its domain are numbered
  abbrev pub slots_home : {J : Type 0} → LocalModel T J → units.GhostName
  slots_home p = items.slots_home p.member
