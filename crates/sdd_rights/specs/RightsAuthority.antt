-- What a space keeps of the numbers of one home
use Rattle.std.specs.Prelude.{ℕ, ◌-◌, ◌^◌, ◌≡◌, ◌<◌, List, [], length, slice_index_or}
use Rattle.sdd_rights.specs.Units.{GhostName}
use Rattle.sdd_rights.specs.declared.fraction.Fraction.{Fraction}
use Rattle.sdd_rights.specs.declared.right.StandingKind.{StandingKind}
use Rattle.sdd_rights.specs.declared.right.StandingKind.TheVariants.{Free}
use Rattle.sdd_rights.specs.StandingKind.{right_units}

-- the kind of a number, and how many of its units are kept
pub record Kept : Type 0 where
  pub kind : StandingKind
  pub units : ℕ

-- all units of a number of this kind
abbrev pub whole : StandingKind → Kept
whole kind = record { kind = kind; units = 2 ^ 63 }

-- what is kept of a number of this kind to which one right was granted
abbrev pub granted : StandingKind → Kept
granted kind = record { kind = kind; units = 2 ^ 63 - right_units kind }

-- a home, and what is kept of each of its numbers
pub record RightsAuthority : Type 0 where
  pub home : GhostName
  pub kept : List Kept

-- what is kept of a number; a number beyond the last stands as one that is free
abbrev pub kept_at : RightsAuthority → ℕ → Kept
kept_at rights k = slice_index_or rights.kept k (whole Free)

abbrev pub kept_of : Fraction StandingKind → Kept
kept_of fraction = record { kind = fraction.kind; units = fraction.units }

-- some units of this number of this home
pub record IsFractionOf (home : GhostName) (k : ℕ) (fraction : Fraction StandingKind) : Type 0 where
  pub home_is : fraction.home ≡ home
  pub number_is : fraction.number ≡ k

-- a fraction of each number below the length, in order
abbrev pub AreFractionsUpTo : GhostName → List (Fraction StandingKind) → Type 0
AreFractionsUpTo home fractions = (k : ℕ) (d : Fraction StandingKind) → k < length fractions → IsFractionOf home k (slice_index_or fractions k d)

-- a fraction of each number of the home, which is a ghost map's, in order
pub record AreFractionsOf (home : GhostName) (fractions : List (Fraction StandingKind)) : Type 0 where
  pub tables : home.tables ≡ []
  pub size : length fractions ≡ home.size
  pub each : AreFractionsUpTo home fractions
