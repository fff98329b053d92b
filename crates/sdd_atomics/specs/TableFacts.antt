-- What never changes of a table
use Rattle.std.specs.Prelude.{ℕ}
use Rattle.atomic_table.specs.Seated.{TableId}
use Rattle.sdd_rights.specs.declared.views.Sizes.{Sizes}
use Rattle.sdd_domain_invariant.specs.Words.{most_waiting}
use Rattle.sdd_atomics.specs.declared.domain_table.DomainTable.{DomainTable}
use Rattle.sdd_atomics.specs.DomainTable as of_table

-- which words they are, how many of each there are, and of which ghost map the values' places are
pub record TableFacts : Type 0 where
  pub id : TableId
  pub sizes : Sizes
  pub gamma : ℕ

abbrev pub facts_of : DomainTable → TableFacts
facts_of b = record { id = of_table.id_of b; sizes = of_table.sizes_of b; gamma = of_table.gamma_of b }

abbrev pub id_of : TableFacts → TableId
id_of b = b.id

abbrev pub sizes_of : TableFacts → Sizes
sizes_of b = b.sizes

abbrev pub gamma_of : TableFacts → ℕ
gamma_of b = b.gamma

abbrev pub places_of : TableFacts → ℕ
places_of b = (sizes_of b).participants

abbrev pub slots_of : TableFacts → ℕ
slots_of b = (sizes_of b).slots

-- how much may wait in it: an item for each slot, and a job for each place of one
abbrev pub most_waiting_of : TableFacts → ℕ
most_waiting_of b = most_waiting (sizes_of b)
