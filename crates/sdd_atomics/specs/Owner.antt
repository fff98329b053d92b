-- The seat of an owner, as it leaves a participant
use Rattle.std.specs.Prelude.{◌≡◌, List, [], ◌∷◌}
use base.Stored.{Gv}
use Rattle.sdd_rights.specs.declared.views.View.{View}
use Rattle.sdd_rights.specs.contracts.views.View.{the_row}
use Rattle.sdd_domain_invariant.specs.Fractions.FractionSteps.{departing}

-- these are the views of the owner that a participant with this view has cut off
abbrev pub IsCutOff : View → List Gv → Type 0
IsCutOff v views = views ≡ the_row.coded.code (departing v) ∷ []

-- it has no owner any more
abbrev pub disowned : View → View
disowned v = record v { slots = record v.slots { owns = [] } }
