-- The bank's part of the rule: what the bank has of the value of each slot, and which owners have a unit of it
use Rattle.std.specs.Prelude.{◌≡◌, ℕ, ◌+◌, ◌<◌, ◌≤◌, List, map, Option, Some, None, Bool, true, false, eqb, []}
use mathlib.Core.Option.{some}
use mathlib.Core.Bool.{cond}
use lib.ListN.{get_elem?}
use prog.Atomic.{either}
use Rattle.sdd_shared_values.specs.ValueFractions.{FractionContent}
use Rattle.sdd_shared_values.specs.SharedValues.{content}
use Rattle.sdd_shared_values.specs.Deposits.{units_at, AreDeposits}
use Rattle.sdd_rights.specs.declared.views.Deposit.{Deposit}
use Rattle.sdd_rights.specs.declared.views.View.{View}
use Rattle.sdd_rights.specs.declared.views.Sizes.{Sizes}
use Rattle.sdd_domain_invariant.specs.Sums.{total, is, times}
use Rattle.sdd_domain_invariant.specs.Slots.{owners_at}
use Rattle.sdd_rights.specs.Views.{at_rest, owner_seat, no_pledges}
use Rattle.sdd_domain_invariant.specs.WordInvariant.{idle}
use Rattle.sdd_domain_invariant.specs.Fractions.FractionsAtHome.{spare, full_at}

-- how many of its owners of the slot i have their unit
abbrev pub drawn_at : ℕ → View → ℕ
drawn_at i v = times i v.slots.drawn

abbrev pub moved_in : ℕ → Option ℕ → ℕ
moved_in i None = 0
moved_in i (Some j) = is i j

-- 1 where it moves the value of the slot i
abbrev pub moves_at : ℕ → View → ℕ
moves_at i v = moved_in i v.fractions.moves

abbrev pub one_where : Bool → ℕ
one_where b = cond b 1 0

-- whether it is the bank's, or may found the bank
abbrev pub offices : View → ℕ
offices v = one_where v.fractions.bank + one_where v.fractions.founds

-- a deposit, as units of a ghost map
abbrev pub deposited : ℕ → Deposit → FractionContent
deposited gamma d = content gamma d.slot d.lifetime d.value d.units

-- what the bank has, by its view
abbrev pub banked : View → List FractionContent
banked v = map (deposited v.fractions.gamma) v.fractions.banked

-- it may be the bank's view
abbrev pub IsBank : View → Type 0
IsBank v = v.fractions.bank ≡ true

-- how many units of the slot's value are neither in its fractions nor with who moves it: where it is there and isn't moved, all but one for each fraction
abbrev pub outside : Sizes → List ℕ → List View → ℕ → ℕ
outside sizes ws vs i = either (eqb (full_at sizes ws i) 0) 0 (either (eqb (total (moves_at i) vs) 0) (spare sizes.participants) 0)

-- the bank has them, but for those that owners have drawn, in one deposit for each slot
pub record Balances (γ : ℕ) (sizes : Sizes) (ws : List ℕ) (vs : List View) (b : View) : Type 0 where
  pub gamma : b.fractions.gamma ≡ γ
  pub deposits : AreDeposits γ (banked b)
  pub sums : (i : ℕ) → i < sizes.slots → units_at i (banked b) + total (drawn_at i) vs ≡ outside sizes ws vs i

-- the ghost map of the values' places, the words, and what all participants know: one seat at most is the bank's, which balances, or may found the bank, and
-- then nothing is outside; an owner has one unit at most; and where nothing is outside, none is drawn
pub record BankInvariant (γ : ℕ) (sizes : Sizes) (ws : List ℕ) (vs : List View) : Type 0 where
  pub single : total offices vs ≤ 1
  pub low : (j : ℕ) (v : View) → get_elem? vs j ≡ some v → (i : ℕ) → drawn_at i v ≤ owners_at i v
  pub quiet : (i : ℕ) → i < sizes.slots → outside sizes ws vs i ≡ 0 → total (drawn_at i) vs ≡ 0
  pub founds : (j : ℕ) (v : View) → get_elem? vs j ≡ some v → v.fractions.founds ≡ true → (i : ℕ) → i < sizes.slots → outside sizes ws vs i ≡ 0
  pub banks : (j : ℕ) (b : View) → get_elem? vs j ≡ some b → IsBank b → Balances γ sizes ws vs b

-- ---- how it comes to be
-- the first seat, which may found the bank and the ledger
abbrev pub founder : Sizes → ℕ → View
founder sizes gamma = record (idle sizes gamma) { fractions = record (at_rest gamma) { founds = true }; pledges = record no_pledges { founds = true } }

-- it did
abbrev pub founded : View → View
founded v = record v { fractions = record v.fractions { founds = false } }

-- it founded the ledger
abbrev pub with_ledger : View → View
with_ledger v = record v { pledges = record v.pledges { founds = false } }

-- the ledger that it founds, which has nothing yet
abbrev pub ledger_of : View → View
ledger_of v = record (owner_seat []) { pledges = record no_pledges { ledger = true } }

-- the bank that it founds
abbrev pub bank_of : View → View
bank_of v = record (owner_seat []) { fractions = record (at_rest v.fractions.gamma) { bank = true } }
