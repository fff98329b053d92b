-- The seat of counts, as it leaves a participant
use Rattle.std.specs.Prelude.{List, [], ◌∷◌}
use base.Stored.{Gv}
use Rattle.sdd_rights.specs.declared.views.CountsView.{CountsView}
use Rattle.sdd_rights.specs.contracts.views.View.{the_row}
use Rattle.sdd_domain_invariant.specs.Fractions.FractionSteps.{counts_seat}

-- the views of a witness that knows these counts
abbrev pub witness_of_counts : CountsView → List Gv
witness_of_counts counts = the_row.coded.code (counts_seat counts) ∷ []
