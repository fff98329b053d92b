-- A domain as its callers see it
use Rattle.sdd_core.specs.declared.limits.Limits.{Limits}
use Rattle.atomic_table.specs.Seated.{TableId}
use Rattle.std.specs.Prelude.{ℕ, ◌^◌}
use Rattle.sdd_rights.specs.Units as units
use Rattle.sdd_rights.specs.Right.{home_of_table, cells_of_table}
use Rattle.sdd_atomics.specs.DomainTable.{id_of}
use Rattle.sdd_atomics.specs.DomainTable as table
use Rattle.sdd_domain_core.specs.declared.domain.Domain.{Domain}

-- which domain it is
abbrev pub home_of : {T : Type 0} → Domain T → TableId
home_of d = id_of d.table

abbrev pub limits_of : {T : Type 0} → Domain T → Limits
limits_of d = d.limits

-- the ghost map of its values' places
abbrev pub gamma_of : {T : Type 0} → Domain T → ℕ
gamma_of d = table.gamma_of d.table

-- where its slots are numbered
abbrev pub slots_in : {T : Type 0} → Domain T → units.GhostName
slots_in d = home_of_table (home_of d) (gamma_of d) (limits_of d).slots

-- where its cells are numbered
abbrev pub cells_in : {T : Type 0} → Domain T → units.GhostName
cells_in d = cells_of_table (home_of d) (2 ^ 24)
