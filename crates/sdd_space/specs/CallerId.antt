-- Who calls, and on which loan of which world or domain
use Rattle.std.specs.Prelude.{ℕ, ◌<◌, Bool, true, false, IsTrue, List, length, slice_index_or}
use Rattle.sdd_participants.specs.EpochState.{lives}
use Rattle.sdd_participants.specs.declared.participant.Participant.{Participant}
use Rattle.sdd_world_model.specs.World.{World}
use Rattle.sdd_world_model.specs.OwnerOrCell.{SpaceId}
use Rattle.sdd_space.specs.Guard.{ReaderId}

pub record CallerId : Type 0 where
  pub place : ℕ
  pub places : ℕ
  -- which places are a participant's, and whether this one is
  pub lives : List Bool
  pub live : Bool
  pub loan : ℕ
  pub home : SpaceId
  -- whose guards are the participant's
  pub reader : ReaderId
  pub nesting : ℕ
  pub exact : Bool
  pub lone : Bool

-- the participant is one of the world's, and has not ended
abbrev pub IsSeated : CallerId → Type 0
IsSeated s = (s.place < s.places) × IsTrue s.live

-- the calls change the world by exactly what is said
abbrev pub IsExact : CallerId → Type 0
IsExact s = IsTrue s.exact

-- the participant is the only one that a domain may have, so that nobody else raises the count
abbrev pub IsLone : CallerId → Type 0
IsLone s = IsTrue s.lone

-- one guard more of the participant is within the limit
abbrev pub MayNest : CallerId → Participant → Type 0
MayNest s p = p.guards < s.nesting

-- whose guards are those of a place of a world
abbrev pub reader_at : {T : Type 0} → World T → ℕ → ReaderId
reader_at w place = record { home = w.home.readers; number = place }

-- a place of a world, on this loan: nobody else can change the world meanwhile
abbrev pub caller_on : {T : Type 0} → World T → ℕ → ℕ → CallerId
caller_on w place loan = record {
  place = place;
  places = length w.time.places;
  lives = lives w.time;
  live = slice_index_or (lives w.time) place false;
  loan = loan;
  home = w.home;
  reader = reader_at w place;
  nesting = w.time.nesting;
  exact = true;
  lone = false;
}

-- the same for what is given up to a place, where it may be of a participant that has ended
abbrev pub caller_for : {T : Type 0} → World T → ℕ → ℕ → CallerId
caller_for w place loan = record (caller_on w place loan) { live = true }
