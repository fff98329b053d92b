-- A small space: what is lent is lent to readers that have a guard
use Rattle.std.specs.Prelude.{ℕ, ◌≡◌, ◌^◌, Option, length}
use Rattle.sdd_values.specs.Block.{AllLent}
use Rattle.sdd_values.specs.LentValues.{LentValues, value_at}
use Rattle.sdd_values.specs.ReadSections.{ReadSections, Kept, kept_at}
use Rattle.sdd_values.specs.declared.read_sections.SectionState.TheVariants.{Open, Closed}

pub record SmallSpace (T : Type 0) : Type 0 where
  pub places : LentValues T
  pub sections : ReadSections

abbrev pub value_in : {T : Type 0} → SmallSpace T → ℕ → Option T
value_in hall at = value_at hall.places at

abbrev pub kept_in : {T : Type 0} → SmallSpace T → ℕ → Kept
kept_in hall reader = kept_at hall.sections reader

-- the reader has a guard, and its section is t
abbrev pub IsOpenAs : ReadSections → ℕ → ℕ → ℕ → Type 0
IsOpenAs sections at reader t = ((kept_at sections reader).kind ≡ Open) × (t ≡ (kept_at sections reader).lifetime)

pub record IsSound {T : Type 0} (places : LentValues T) (sections : ReadSections) : Type 0 where
  pub readers : places.readers ≡ sections.home.size
  pub count : length sections.kept ≡ sections.home.size
  pub lent : AllLent (IsOpenAs sections) places.fractions
  pub whole : (reader : ℕ) → (kept_at sections reader).kind ≡ Closed → (kept_at sections reader).units ≡ 2 ^ 63
