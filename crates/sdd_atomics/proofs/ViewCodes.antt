-- A view is known by its code
use Rattle.std.proofs.Common.{◌≡◌, List, [], ◌∷◌, ap}
use base.Stored.{Gv, gnil}
use Rattle.sdd_rights.specs.declared.views.View.{View}
use Rattle.sdd_rights.specs.contracts.views.View.{the_row}

first_code : List Gv → Gv
first_code gs = elim gs [ [] ↦ gnil | g ∷ rest ↦ g ]

-- a view is known by its code
pub view_is : (v w : View) → ◌≡◌ {A = List Gv} (the_row.coded.code v ∷ []) (the_row.coded.code w ∷ []) → v ≡ w
unfolding first_code
view_is v w e = the_row.coded.inj v w (ap first_code e)
