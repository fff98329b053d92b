-- The places of a domain's values
use Rattle.std.specs.Prelude.{◌≡◌}
use Rattle.sdd_core.specs.declared.limits.Limits.{Limits}
use Rattle.sdd_shared_values.specs.declared.shared_values.SharedValues.{SharedValues}
use Rattle.sdd_rights.specs.declared.views.Sizes.{Sizes}
use Rattle.sdd_atomics.specs.TableFacts.{TableFacts, id_of, gamma_of, slots_of}

-- how many of each there are within these limits
abbrev pub sizes_in : Limits → Sizes
sizes_in l = record { participants = l.participants; slots = l.slots; jobs = l.jobs; cells = l.cells }

-- it has a place for the value of each slot, and the fractions in them lie in the domain's table
pub record IsValuesOf {T F : Type 0} (b : TableFacts) (values : SharedValues T F) : Type 0 where
  pub gamma : values.gamma ≡ gamma_of b
  pub size : values.size ≡ slots_of b
  pub table : values.table ≡ id_of b
