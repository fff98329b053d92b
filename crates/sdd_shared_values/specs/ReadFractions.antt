-- A read fraction, as units of a place's number.
use Rattle.std.specs.Prelude.{None}
use Rattle.sdd_rights.specs.declared.read_fraction.ReadFraction.{ReadFraction}
use Rattle.sdd_shared_values.specs.ValueFractions.{FractionContent}

-- it is one unit, which isn't lent
abbrev pub content_of : ReadFraction → FractionContent
content_of read_fraction = record { gamma = read_fraction.gamma; number = read_fraction.number; lifetime = read_fraction.lifetime; shown = read_fraction.shown; units = 1; lent = None }
