-- The words of a domain, and where the fractions in its values lie
use Rattle.std.specs.Prelude.{ℕ}
use Rattle.atomic_table.specs.Seated.{TableId}
use Rattle.sdd_rights.specs.declared.views.Sizes.{Sizes}
use Rattle.sdd_domain_invariant.specs.Words.{most_waiting}
use Rattle.sdd_atomics.specs.declared.domain_table.DomainTable.{DomainTable}
use Rattle.sdd_atomics.specs.declared.domain_table.TableLayout.{TableLayout}

-- which words they are
abbrev pub id_of : DomainTable → TableId
id_of b = b.atomic.shared.table_id

abbrev pub layout_of : DomainTable → TableLayout
layout_of b = b.atomic.shared.key

-- how many of each there are
abbrev pub sizes_of : DomainTable → Sizes
sizes_of b = (layout_of b).sizes

-- of which ghost map the values' places are
abbrev pub gamma_of : DomainTable → ℕ
gamma_of b = (layout_of b).values_name.gamma

abbrev pub places_of : DomainTable → ℕ
places_of b = (sizes_of b).participants

abbrev pub slots_of : DomainTable → ℕ
slots_of b = (sizes_of b).slots

-- how much may wait in it: an item for each slot, and a job for each place of one
abbrev pub most_waiting_of : DomainTable → ℕ
most_waiting_of b = most_waiting (sizes_of b)
