use Rattle.std.proofs.Common.{◌≡◌, ◌≤◌, ◌<◌, ◌^◌, ℕ, vec_len, vec_capacity, slice_index_or}
use Rattle.sdd_rights.specs.declared.fraction.Fraction.{Fraction}
use Rattle.sdd_values.specs.declared.read_sections.SectionState.{SectionState}
use Rattle.sdd_values.specs.declared.read_sections.SectionState.TheVariants.{Closed}
use Rattle.sdd_values.specs.ReadSections.{AreSectionsUpTo}
use Rattle.sdd_values.proofs.read_sections.ReadSections.new.Given as goal

abbrev pub invariant-loop-number : goal.invariant-loop-number
invariant-loop-number l = record {
  size : l.keys.home.size ≡ l.size;
  next : l.keys.next ≡ l._number;
  len : vec_len l.sections ≡ l._number;
  room : l.size ≤ vec_capacity l.sections;
  closed : (k : ℕ) (d : Fraction SectionState) → k < l._number → ((slice_index_or l.sections.items k d).kind ≡ Closed)
      × ((slice_index_or l.sections.items k d).units ≡ 2 ^ 63);
  each : AreSectionsUpTo l.keys.home l.sections.items;
}
