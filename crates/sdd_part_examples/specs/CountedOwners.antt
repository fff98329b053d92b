-- One word counts owners. An owner is a token, and to make another beside it needs no more than a `&` to it.
use Rattle.std.specs.Prelude.{Bool, true, false, ◌≡◌, ◌⊎◌, ◌+◌, ◌-◌, ◌/◌, ◌<◌, ◌≤◌, ◌==◌, ℕ, List, [], ◌∷◌, length, slice_index}
use mathlib.Core.Option.{some}
use lib.ListN.{get_elem?}
use prog.Atomic.{either}
use base.Stored.{Gv}
use Rattle.atomic_table.specs.Table.{State}
use Rattle.sdd_domain_invariant.specs.Sums.{total}
use Rattle.sdd_witness.specs.Ledger.{Pledge}
use Rattle.sdd_part_examples.specs.declared.counted_owners.views.View.{View}
use Rattle.sdd_part_examples.specs.contracts.counted_owners.views.View.{the_row}

abbrev pub Has : Pledge → List Pledge → Type 0
Has p [] = ⊥
Has p (q ∷ qs) = (p ≡ q) ⊎ Has p qs

abbrev pub owned : View → ℕ
owned v = v.owned

abbrev pub held : View → ℕ
held v = v.owned + v.room

abbrev pub keeps : View → ℕ
keeps v = v.ledger + v.founds

abbrev pub blank : View
blank = record { owned = 0; room = 0; owner = 0; last = 0; ledger = 0; founds = 0; mine = []; books = [] }

-- an owner's token
abbrev pub one_owner : View
one_owner = record blank { owned = 1; owner = 1 }

abbrev pub owner_views : List Gv
owner_views = the_row.coded.code one_owner ∷ []

abbrev pub first : View
first = record blank { owned = 1; room = 9223372036854775807; founds = 1 }

-- the pledge p of the seat i: it is of an owner's token, and is in the ledger
pub record Backed (vs : List View) (i : ℕ) (p : Pledge) : Type 0 where
  pub own : p.who ≡ i
  pub owner : (x : View) × (get_elem? vs p.seat ≡ some x) × (x.owner ≡ 1) × (0 < x.owned)
  pub somewhere : (k : ℕ) × (b : View) × (get_elem? vs k ≡ some b) × (b.ledger ≡ 1)
  pub booked : (k : ℕ) (b : View) → get_elem? vs k ≡ some b → b.ledger ≡ 1 → Has p b.books

pub record Kept (s : State (Unit {0}) View) : Type 0 where
  pub long : length s.words ≡ 1
  pub counted : slice_index s.words 0 ≡ total owned s.views
  pub bounded : total held s.views ≤ 9223372036854775808
  pub single : total keeps s.views ≤ 1
  pub ended : (i : ℕ) (v : View) → get_elem? s.views i ≡ some v → v.last ≡ 1 → total owned s.views ≡ 0
  pub backed : (i : ℕ) (v : View) (p : Pledge) → get_elem? s.views i ≡ some v → v.mine ≡ p ∷ [] → Backed s.views i p

-- ---- what the steps do
abbrev pub pledging : View → Pledge → View
pledging v p = record v { mine = p ∷ [] }

abbrev pub freeing : View → View
freeing v = record v { mine = [] }

abbrev pub made : View → View
made v = record v { owned = v.owned + 1; room = v.room - 1 }

abbrev pub cut : View → View
cut v = record v { owned = v.owned - 1 }

abbrev pub regained : View → View
regained v = record v { owned = v.owned + 1 }

-- where it found 1, it was the last
abbrev pub gone : ℕ → View → View
gone n v = record v { owned = v.owned - 1; room = v.room + 1; last = either (n == 1) 1 v.last }

-- half of the room goes to another participant
abbrev pub remaining : View → View
remaining v = record v { room = v.room - v.room / 2 }

abbrev pub newcomer : View → View
newcomer v = record blank { room = v.room / 2 }

abbrev pub founded : View → View
founded v = record v { founds = 0 }

abbrev pub a_ledger : View
a_ledger = record blank { ledger = 1 }

-- no owner's token and no ledger, and no pledge
pub record IsFree (v : View) : Type 0 where
  pub owner : v.owner ≡ 0
  pub mine : v.mine ≡ []

-- a participant's view afterwards: one more or one fewer that it may make
pub record Spent (v w : View) : Type 0 where
  pub owned : w.owned ≡ v.owned
  pub room : w.room ≡ v.room - 1
  pub last : w.last ≡ v.last
  pub free : IsFree w

pub record Freed (v : View) (is_last : Bool) (w : View) : Type 0 where
  pub owned : w.owned ≡ v.owned
  pub room : w.room ≡ v.room + 1
  pub last : is_last ≡ true → w.last ≡ 1
  pub others : is_last ≡ false → w.last ≡ v.last
  pub free : IsFree w
