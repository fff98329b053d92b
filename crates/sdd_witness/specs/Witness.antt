-- What a `Witness` owns, and what a `&` to it shows: a share of a seat's view, at the code of the view.
use Rattle.core.specs.Prelude.{ℕ, List, [], ◌∷◌}
use base.Share.{three_quarters}
use base.Stored.{Gv}
use base.Fml.{Lft, Share, Fml, ftrue, fshr_bor}
use types.Keyed.{entry}
use Rattle.atomic_table.specs.Seated.{TableId, halved}

-- a share of the view of the seat id of the table named γ
abbrev pub view_of : ℕ → ℕ → Gv → Share → Fml
view_of γ id g q = entry halved γ id (q, g)

abbrev pub witness_owns : TableId → ℕ → List Gv → Fml
witness_owns z id [] = ftrue
witness_owns z id (g ∷ gs) = view_of z.views_name id g three_quarters

abbrev pub witness_shares : TableId → ℕ → List Gv → Lft → Fml
witness_shares z id [] κ = ftrue
witness_shares z id (g ∷ gs) κ = fshr_bor κ (view_of z.views_name id g)
