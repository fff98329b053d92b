-- What is lent of a world is lent to guards that are open, from which it is safe
use Rattle.std.specs.Prelude.{ℕ, ◌+◌, ◌-◌, ◌^◌, ◌<◌, ◌≤◌, ◌≡◌, length, slice_set, if◌then◌else◌}
use Rattle.sdd_rights.specs.Units as units
use Rattle.sdd_rights.specs.declared.fraction.Fraction.{Fraction}
use Rattle.sdd_participants.specs.EpochState.{is_open}
use Rattle.sdd_participants.specs.declared.participant.Participant.{Participant}
use Rattle.sdd_values.specs.Block.{AllLent, settled}
use Rattle.sdd_values.specs.ReadSections.{Kept, kept_at, whole}
use Rattle.sdd_values.specs.declared.read_sections.SectionState.{SectionState}
use Rattle.sdd_values.specs.declared.read_sections.SectionState.TheVariants.{Open, Closed}
use Rattle.sdd_world_model.specs.Loans.{Loans}
use Rattle.sdd_world_model.specs.World.{World, place_at}
use Rattle.sdd_world_model.specs.UnderGuards.{IsSafe}
use Rattle.sdd_world_core.specs.WorldCore.{WorldCore}

-- the part of p's open section that a guard has
pub record IsSectionAt (readers : units.GhostName) (p : ℕ) (section : Fraction SectionState) : Type 0 where
  pub home : section.home ≡ readers
  pub number : section.number ≡ p
  pub kind : section.kind ≡ Open
  pub units : section.units ≡ 1

-- one guard of p more has a part of its section, which is open
abbrev pub shared : Loans → ℕ → Loans
shared l p = record l {
  sections = record l.sections {
    kept = slice_set l.sections.kept p (record (kept_at l.sections p) { kind = Open; units = (kept_at l.sections p).units - 1 });
  };
}

-- one guard of p gave its part back
abbrev pub joined : Loans → ℕ → Loans
joined l p = record l {
  sections = record l.sections { kept = slice_set l.sections.kept p (record (kept_at l.sections p) { units = (kept_at l.sections p).units + 1 }) };
}

-- p's section has ended, and what was lent to it is home; the next one has this name
abbrev pub given_up : Loans → ℕ → ℕ → Loans
given_up l p next = record {
  fractions = settled p l.fractions;
  sections = record l.sections { kept = slice_set l.sections.kept p (whole Closed next) };
}

-- a participant's section is open while a guard of it is, and each guard has one unit of it
pub record IsSectionOf (p : Participant) (kept : Kept) : Type 0 where
  pub kind : kept.kind ≡ (if is_open p then Open else Closed)
  pub units : kept.units + p.guards ≡ 2 ^ 63

-- each place has its reader, and guards don't nest deeper than a section has parts
pub record HasReaders {T : Type 0} (w : World T) : Type 0 where
  pub places : length w.time.places ≤ w.home.readers.size
  pub nesting : w.time.nesting < 2 ^ 32

-- the section is p's, and the item in slot k is safe from p's guard
abbrev pub IsLentTo : {T : Type 0} → World T → Loans → (k p section : ℕ) → Type 0
IsLentTo w l k p section = IsSafe w p k × (section ≡ (kept_at l.sections p).lifetime)

-- whatever is lent of a world is lent so
pub record AreLentOf {T : Type 0} (w : World T) (l : Loans) : Type 0 where
  pub sections : (p : ℕ) → IsSectionOf (place_at w p) (kept_at l.sections p)
  pub lent : AllLent (IsLentTo w l) l.fractions
  pub readers : HasReaders w

abbrev pub AreLent : {T J : Type 0} → WorldCore T J → Type 0
AreLent c = AreLentOf c.world c.lending
