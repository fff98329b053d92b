-- The pledges' part of the rule: what stands beside a seat of one of several owners, or of the right to a cell, while a share of its view is pledged
use Rattle.std.specs.Prelude.{◌≡◌, ◌⊎◌, ℕ, ◌+◌, ◌≤◌, List, [], ◌∷◌, true, None}
use mathlib.Core.Option.{some}
use lib.ListN.{get_elem?}
use base.Stored.{Gv}
use Rattle.sdd_witness.specs.Ledger.{Pledge}
use Rattle.sdd_rights.specs.declared.views.CellRight.{CellRight}
use Rattle.sdd_rights.specs.declared.views.View.{View}
use Rattle.sdd_rights.specs.contracts.views.View.{the_row}
use Rattle.sdd_rights.specs.Views.{owner_of, right_to}
use Rattle.sdd_domain_invariant.specs.Sums.{total}
use Rattle.sdd_domain_invariant.specs.Fractions.BankInvariant.{one_where}
use Rattle.sdd_domain_invariant.specs.Slots.FilledInvariant.{HasRecord}
use Rattle.sdd_domain_invariant.specs.Cells.CellsInvariant.{HasRight}

-- one of these pledges is this one
abbrev pub HasPledge : Pledge → List Pledge → Type 0
HasPledge p [] = ⊥
HasPledge p (q ∷ qs) = (p ≡ q) ⊎ HasPledge p qs

abbrev pub IsLedger : View → Type 0
IsLedger v = v.pledges.ledger ≡ true

abbrev pub booked_by : View → List Pledge
booked_by v = v.pledges.booked

-- a participant's view with a pledge of its own, and without
abbrev pub pledging : View → Pledge → View
pledging v p = record v { pledges = record v.pledges { own = p ∷ [] } }

abbrev pub freeing : View → View
freeing v = record v { pledges = record v.pledges { own = [] } }

-- whether it is the ledger's, or may found the ledger
abbrev pub posts : View → ℕ
posts v = one_where v.pledges.ledger + one_where v.pledges.founds

-- the pledge p is of the view of one of several owners of a slot, whose seat it names; no participant has that view, and nothing is held by it
pub record IsOfOwner (vs : List View) (p : Pledge) : Type 0 where
  pub slot : ℕ
  pub value : Gv
  pub owner : View
  pub view : p.view ≡ the_row.coded.code (owner_of slot true value)
  pub there : get_elem? vs p.seat ≡ some owner
  pub told : HasRecord owner.fractions.owns (record { slot = slot; shared = true; value = value })
  pub free : owner.slots.holds ≡ None
  pub nobodys : owner.sizes.participants ≡ 0

-- the pledge p is of the view of the right to a cell, whose seat it names; no participant has that view
pub record IsOfCell (vs : List View) (p : Pledge) : Type 0 where
  pub right : CellRight
  pub owner : View
  pub view : p.view ≡ the_row.coded.code (right_to right.cell right.kind)
  pub there : get_elem? vs p.seat ≡ some owner
  pub has : HasRight owner right
  pub nobodys : owner.sizes.participants ≡ 0

-- the pledge p of the seat i is of an owner's seat, or of a right's, and is in the ledger
pub record IsBacked (vs : List View) (i : ℕ) (p : Pledge) : Type 0 where
  pub own : p.who ≡ i
  pub beside : IsOfOwner vs p ⊎ IsOfCell vs p
  pub somewhere : (k : ℕ) × (b : View) × (get_elem? vs k ≡ some b) × IsLedger b
  pub booked : (k : ℕ) (b : View) → get_elem? vs k ≡ some b → IsLedger b → HasPledge p b.pledges.booked

-- one seat at most is the ledger's, or may found it; and a participant's pledge is backed
pub record PledgesInvariant (vs : List View) : Type 0 where
  pub single : total posts vs ≤ 1
  pub backed : (i : ℕ) (v : View) (p : Pledge) → get_elem? vs i ≡ some v → v.pledges.own ≡ p ∷ [] → IsBacked vs i p
