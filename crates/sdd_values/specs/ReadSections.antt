-- What a space keeps of the sections of its readers
use Rattle.std.specs.Prelude.{ℕ, ◌^◌, ◌≡◌, ◌<◌, List, length, slice_index_or}
use Rattle.sdd_rights.specs.Units.{GhostName}
use Rattle.sdd_rights.specs.declared.fraction.Fraction.{Fraction}
use Rattle.sdd_values.specs.declared.read_sections.SectionState.{SectionState}
use Rattle.sdd_values.specs.declared.read_sections.SectionState.TheVariants.{Closed}

-- whether the reader has a guard, the name of its section, and how many units of it are kept
pub record Kept : Type 0 where
  pub kind : SectionState
  pub lifetime : ℕ
  pub units : ℕ

-- all units of a section
abbrev pub whole : SectionState → ℕ → Kept
whole kind lifetime = record { kind = kind; lifetime = lifetime; units = 2 ^ 63 }

-- a home, and what is kept of each of its readers
pub record ReadSections : Type 0 where
  pub home : GhostName
  pub kept : List Kept

-- what is kept of a reader; a reader beyond the last stands as one without a guard
abbrev pub kept_at : ReadSections → ℕ → Kept
kept_at sections k = slice_index_or sections.kept k (whole Closed 0)

abbrev pub kept_of : Fraction SectionState → Kept
kept_of section = record { kind = section.kind; lifetime = section.lifetime; units = section.units }

-- some units of this number of this home
pub record IsSectionOf (home : GhostName) (k : ℕ) (section : Fraction SectionState) : Type 0 where
  pub home_is : section.home ≡ home
  pub number_is : section.number ≡ k

-- a part of each number below the length, in order
abbrev pub AreSectionsUpTo : GhostName → List (Fraction SectionState) → Type 0
AreSectionsUpTo home sections = (k : ℕ) (d : Fraction SectionState) → k < length sections → IsSectionOf home k (slice_index_or sections k d)

-- a part of each number of the home, in order
pub record AreSectionsOf (home : GhostName) (sections : List (Fraction SectionState)) : Type 0 where
  pub size : length sections ≡ home.size
  pub each : AreSectionsUpTo home sections
